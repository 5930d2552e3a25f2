-- When a moment is good, and how computations are put together that lead from good moments to good ones.
use Rattle.std.specs.Prelude.{ℕ, length, ◌≡◌, ◌≤◌, List, Bool, true, false, if◌then◌else◌, Option, None, Some, nat_le, ◌-◌, nat_lt, suc}
use Rattle.std.proofs.Common.{arith}
use Rattle.kishu_meaning.specs.moments.Counting.{Counted, ended_in, answer, too_deep, spent, Count, counted}
use Rattle.kishu_meaning.specs.moments.Moment.{Moment, Locals, Ends, fine, Thrown, raised, stopped, M, and_then, ◌>>=◌, ◌>>◌, give, throw, raise, or_else, look, node_at, node_now, exhausted, spend, tick, put_out, back_at, recursion_error, deeper, most_depth}
use Rattle.kishu_meaning.specs.values.Values.{Value, Node, node}
use Rattle.kishu_soundness_laws.specs.Below.{Each, NodeBelow, EntriesBelow, Maybe, Below, ThrownBelow, Any, AllBelow}
use Rattle.kishu_soundness_laws.specs.BelowLaws.{below_later, all_later, thrown_later, each_get}

-- A moment with k nodes, in which each node number is below k.
pub record IsGood (k : ℕ) (s : Moment) : Type 0 where
  pub many : k ≡ length s.nodes
  pub nodes : Each (NodeBelow k) s.nodes
  pub names : EntriesBelow k s.names
  pub locals : Maybe (λ (here : Locals). EntriesBelow k here.values) s.locals
  pub handled : Maybe (Below k) s.handled

-- It ends in a good moment, with k nodes or more, and what it gives or raises has node numbers of those nodes.
pub data EndsSafe {A : Type 0} (k : ℕ) (Q : ℕ → A → Type 0) : Ends A → Type 0 where
  ends_fine : (l : ℕ) {a : A} {s : Moment} → k ≤ l → Q l a → IsGood l s → EndsSafe k Q (fine a s)
  ends_raised : (l : ℕ) {x : Thrown} {s : Moment} → k ≤ l → ThrownBelow l x → IsGood l s → EndsSafe k Q (raised x s)
  ends_stopped : (l : ℕ) {s : Moment} → k ≤ l → IsGood l s → EndsSafe k Q (stopped s)

-- From each good moment with k nodes or more it leads to a good one with as many or more.
pub record IsSafe {A : Type 0} (k : ℕ) (Q : ℕ → A → Type 0) (m : M A) : Type 0 where
  pub go : (l : ℕ) → k ≤ l → (s : Moment) → IsGood l s → EndsSafe l Q (m s)

pub safe_later : {A : Type 0} {k l : ℕ} {Q : ℕ → A → Type 0} {m : M A} → k ≤ l → IsSafe k Q m → IsSafe l Q m
safe_later h m = record { go = λ n le s g. m.go n (omega (arith, h, le)) s g }

pub ends_later : {A : Type 0} {k l : ℕ} {Q : ℕ → A → Type 0} {e : Ends A} → k ≤ l → EndsSafe l Q e → EndsSafe k Q e
ends_later h (ends_fine n le q g) = ends_fine n (omega (arith, h, le)) q g
ends_later h (ends_raised n le q g) = ends_raised n (omega (arith, h, le)) q g
ends_later h (ends_stopped n le g) = ends_stopped n (omega (arith, h, le)) g

bind_ends : {A B : Type 0} {k l : ℕ} (Q : ℕ → A → Type 0) (S : ℕ → B → Type 0) (f : A → M B) {e : Ends A} → k ≤ l → EndsSafe l Q e → ((n : ℕ) → k ≤ n → (a : A) → Q n a → IsSafe n S (f a)) → EndsSafe l S (and_then e f)
bind_ends Q S f kl (ends_fine n {a = a} {s = s} le q g) h = ends_later le ((h n (omega (arith, kl, le)) a q).go n (omega arith) s g)
bind_ends Q S f kl (ends_raised n le q g) h = ends_raised n le q g
bind_ends Q S f kl (ends_stopped n le g) h = ends_stopped n le g

pub bind_safe : {A B : Type 0} {k : ℕ} {Q : ℕ → A → Type 0} {S : ℕ → B → Type 0} {m : M A} {f : A → M B} → IsSafe k Q m → ((n : ℕ) → k ≤ n → (a : A) → Q n a → IsSafe n S (f a)) → IsSafe k S (m >>= f)
bind_safe {Q = Q} {S = S} {m = m} {f = f} h g = record { go = λ l le s gs. bind_ends Q S f le (h.go l le s gs) g }

-- a result without node numbers
pub plain_safe : {A B : Type 0} {k : ℕ} {S : ℕ → B → Type 0} {m : M A} {f : A → M B} → IsSafe k Any m → ((a : A) → IsSafe k S (f a)) → IsSafe k S (m >>= f)
plain_safe h g = bind_safe h (λ n le a q. safe_later le (g a))

pub then_safe : {A B : Type 0} {k : ℕ} {Q : ℕ → A → Type 0} {S : ℕ → B → Type 0} {m : M A} {n : M B} → IsSafe k Q m → IsSafe k S n → IsSafe k S (m >> n)
then_safe h g = bind_safe h (λ n le a q. safe_later le g)

pub give_safe : {A : Type 0} {k : ℕ} (Q : ℕ → A → Type 0) {a : A} → ((l : ℕ) → k ≤ l → Q l a) → IsSafe k Q (give a)
give_safe Q h = record { go = λ l le s g. ends_fine l (omega arith) (h l le) g }

pub any_safe : {A : Type 0} {k : ℕ} {a : A} → IsSafe k Any (give a)
any_safe = give_safe Any (λ l le. tt)

pub value_safe : {k : ℕ} (v : Value) → Below k v → IsSafe k Below (give v)
value_safe {k = k} v h = give_safe Below (λ l le. below_later k l le v h)

pub list_safe : {k : ℕ} (vs : List Value) → AllBelow k vs → IsSafe k AllBelow (give vs)
list_safe {k = k} vs h = give_safe AllBelow (λ l le. all_later k l le vs h)

pub throw_safe : {A : Type 0} {k : ℕ} {Q : ℕ → A → Type 0} (x : Thrown) → ThrownBelow k x → IsSafe k Q (throw x)
throw_safe {k = k} x h = record { go = λ l le s g. ends_raised l (omega arith) (thrown_later k l le x h) g }

pub raise_safe : {A : Type 0} {k : ℕ} {Q : ℕ → A → Type 0} (kind : ℕ) (message : List ℕ) → IsSafe k Q (raise kind message)
raise_safe kind message = record { go = λ l le s g. ends_raised l (omega arith) (tt, tt) g }

pub exhausted_safe : {A : Type 0} {k : ℕ} {Q : ℕ → A → Type 0} → IsSafe k Q exhausted
exhausted_safe = record { go = λ l le s g. ends_stopped l (omega arith) (record { many = g.many; nodes = g.nodes; names = g.names; locals = g.locals; handled = g.handled }) }

pub if_safe : {A : Type 0} {k : ℕ} {Q : ℕ → A → Type 0} (b : Bool) {m n : M A} → IsSafe k Q m → IsSafe k Q n → IsSafe k Q (if b then m else n)
if_safe true h g = h
if_safe false h g = g

pub or_else_safe : {A : Type 0} {k : ℕ} (Q : ℕ → A → Type 0) {m : M A} (o : Option A) → IsSafe k Q m → ((l : ℕ) → k ≤ l → Maybe (Q l) o) → IsSafe k Q (or_else m o)
or_else_safe Q None h g = h
or_else_safe Q (Some a) h g = give_safe Q g

pub any_else_safe : {A : Type 0} {k : ℕ} {m : M A} (o : Option A) → IsSafe k Any m → IsSafe k Any (or_else m o)
any_else_safe None h = h
any_else_safe (Some a) h = any_safe

pub asking_safe : {A : Type 0} {k : ℕ} {Q : ℕ → A → Type 0} (f : Moment → M A) → ((l : ℕ) (s : Moment) → k ≤ l → IsGood l s → IsSafe l Q (f s)) → IsSafe k Q (λ s. f s s)
asking_safe f h = record { go = λ l le s g. (h l s le g).go l (omega arith) s g }

pub look_safe : {A : Type 0} {k : ℕ} (Q : ℕ → A → Type 0) (f : List Node → A) → ((l : ℕ) (s : Moment) → k ≤ l → IsGood l s → Q l (f s.nodes)) → IsSafe k Q (look f)
look_safe Q f h = record { go = λ l le s g. ends_fine l (omega arith) (h l s le g) g }

pub look_any : {A : Type 0} {k : ℕ} (f : List Node → A) → IsSafe k Any (look f)
look_any f = record { go = λ l le s g. ends_fine l (omega arith) tt g }

pub now_good : (l : ℕ) (s : Moment) (v : Value) → IsGood l s → Maybe (NodeBelow l) (node_at s.nodes v)
now_good l s (node i) g = each_get (NodeBelow l) s.nodes i g.nodes
now_good l s v g = tt

pub node_now_safe : {k : ℕ} (v : Value) → IsSafe k (λ l. Maybe (NodeBelow l)) (node_now v)
node_now_safe v = record { go = λ l le s g. ends_fine l (omega arith) (now_good l s v g) g }

same_nodes : (l : ℕ) (s : Moment) (n d : ℕ) (out : List ℕ) → IsGood l s → IsGood l (record s { left = n; depth = d; out = out })
same_nodes l s n d out g = record { many = g.many; nodes = g.nodes; names = g.names; locals = g.locals; handled = g.handled }

-- what is left, or the end where it is spent
abbrev pub spend_by : Bool → ℕ → M (Unit {0})
spend_by b n s = if b then fine tt (record s { left = n }) else stopped (record s { left = 0 })

spend_ends : (b : Bool) (n l : ℕ) (s : Moment) → IsGood l s → EndsSafe l Any (spend_by b n s)
spend_ends true n l s g = ends_fine l (omega arith) tt (record { many = g.many; nodes = g.nodes; names = g.names; locals = g.locals; handled = g.handled })
spend_ends false n l s g = ends_stopped l (omega arith) (record { many = g.many; nodes = g.nodes; names = g.names; locals = g.locals; handled = g.handled })

pub spend_safe : {k : ℕ} (n : ℕ) → IsSafe k Any (spend n)
spend_safe n = record { go = λ l le s g. spend_ends (nat_le n s.left) (s.left - n) l s g }

pub tick_safe : {k : ℕ} → IsSafe k Any tick
tick_safe = spend_safe 1

pub out_safe : {k : ℕ} (cs : List ℕ) → IsSafe k Any (put_out cs)
out_safe cs = record { go = λ l le s g. ends_fine l (omega arith) tt (record { many = g.many; nodes = g.nodes; names = g.names; locals = g.locals; handled = g.handled }) }

back_ends : {A : Type 0} {k : ℕ} (Q : ℕ → A → Type 0) (d : ℕ) {e : Ends A} → EndsSafe k Q e → EndsSafe k Q (back_at d e)
back_ends Q d (ends_fine l le q g) = ends_fine l le q (record { many = g.many; nodes = g.nodes; names = g.names; locals = g.locals; handled = g.handled })
back_ends Q d (ends_raised l le q g) = ends_raised l le q (record { many = g.many; nodes = g.nodes; names = g.names; locals = g.locals; handled = g.handled })
back_ends Q d (ends_stopped l le g) = ends_stopped l le (record { many = g.many; nodes = g.nodes; names = g.names; locals = g.locals; handled = g.handled })

level_ends : {A : Type 0} {k : ℕ} (Q : ℕ → A → Type 0) (b : Bool) (d : ℕ) {s : Moment} {e : Ends A} → IsGood k s → EndsSafe k Q e → EndsSafe k Q (if b then back_at d e else recursion_error s)
level_ends Q true d g h = back_ends Q d h
level_ends {k = k} Q false d g h = ends_raised k (omega arith) (tt, tt) g

pub deeper_safe : {A : Type 0} {k : ℕ} {Q : ℕ → A → Type 0} {m : M A} → IsSafe k Q m → IsSafe k Q (deeper m)
deeper_safe {Q = Q} {m = m} h = record {
  go = λ l le s g. level_ends Q (nat_lt s.depth most_depth) s.depth g (h.go l le (record s { depth = suc s.depth }) (record { many = g.many; nodes = g.nodes; names = g.names; locals = g.locals; handled = g.handled }));
}

counted_ends : {A : Type 0} (r : Counted A) (l : ℕ) (s : Moment) → IsGood l s → EndsSafe l Any (ended_in s r)
counted_ends (answer a n) l s g = ends_fine l (omega arith) tt (record { many = g.many; nodes = g.nodes; names = g.names; locals = g.locals; handled = g.handled })
counted_ends (too_deep n) l s g = ends_raised l (omega arith) (tt, tt) (record { many = g.many; nodes = g.nodes; names = g.names; locals = g.locals; handled = g.handled })
counted_ends (spent n) l s g = ends_stopped l (omega arith) (record { many = g.many; nodes = g.nodes; names = g.names; locals = g.locals; handled = g.handled })

pub counted_safe : {A : Type 0} {k : ℕ} (c : Moment → Count A) → IsSafe k Any (λ s. counted (c s) s)
counted_safe c = record { go = λ l le s g. counted_ends (c s s.left) l s g }

pub by_left_safe : {A : Type 0} {k : ℕ} {Q : ℕ → A → Type 0} (f : ℕ → M A) → ((m : ℕ) → IsSafe k Q (f m)) → IsSafe k Q (λ s. f (suc s.left) s)
by_left_safe f h = asking_safe (λ s. f (suc s.left)) (λ l s le g. safe_later le (h (suc s.left)))

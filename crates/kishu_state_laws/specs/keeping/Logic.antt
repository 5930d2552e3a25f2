-- Computations that keep what holds of every state: the nodes keep their numbers, no step is given back, the depth is kept, and with more steps to spend they go the same way, or spend more than all that there were.
use Rattle.std.specs.Prelude.{◌≡◌, ℕ, zero, suc, ◌+◌, ◌-◌, ◌<◌, ◌≤◌, Bool, true, false, IsTrue, if◌then◌else◌, nat_le, nat_lt, List, [], ◌∷◌, ◌++◌, length, map, Option, Some, None}
use Rattle.std.specs.List.{AllByRecursion as Each}
use Rattle.std.specs.Str.{all_scalars}
use Rattle.std.proofs.Common.{refl, ap, sym, subst, ◌∙◌, arith, length-append, leb-true}
use Rattle.std.proofs.lemmas.Bool.{leb-false}
use Rattle.kishu_language.specs.declared.profile.Profile.{Profile}
use Rattle.kishu_meaning.specs.values.Sound.{is_exception_class}
use Rattle.kishu_meaning.specs.values.Values.{Value, none, bool, integer, text, range, builtin, class, node, Node, list, tuple, dict, object, function, exception}
use Rattle.kishu_meaning.specs.values.Nodes.{changed}
use Rattle.kishu_meaning.specs.moments.Moment.{Locals, Moment, Thrown, fresh, thrown_object, Ends, fine, raised, stopped, M, and_then, ◌>>=◌, ◌>>◌, give, throw, raise, or_else, spend, tick, most_depth, back_at, recursion_error, deeper, look, make, change, node_at, node_now, put_out}
use Rattle.kishu_meaning.specs.moments.Counting.{Counted, answer, too_deep, spent, Count, ended_in, counted}
use Rattle.kishu_meaning_laws.specs.CountLaws.{Falls, left_of, Wider, both_answer, both_deep, one_spent}
pub use Rattle.kishu_state_laws.specs.Moments.{Maybe, IsMoment, IsUnder, AreUnder, widest_budget}
pub use Rattle.kishu_soundness_laws.specs.BelowLaws.{each_append, each_get}
use Rattle.kishu_pairing_laws.specs.World.{end_of}
use Rattle.kishu_objects.specs.State.{IsValue, AreValues, IsNode, AreNames, values_in, Stays, the_same, lists, dicts, objects, Grown}

-- ---- lists and options

-- whatever it is
abbrev pub Any : {A : Type 0} → ℕ → A → Type 0
Any k a = Unit {0}

abbrev pub IsText : List ℕ → Type 0
IsText cs = IsTrue (all_scalars cs)

pub each_later : {A : Type 0} (P Q : A → Type 0) → ((a : A) → P a → Q a) → (as' : List A) → Each P as' → Each Q as'
each_later P Q h [] p = tt
each_later P Q h (a ∷ as') p = (h a p.0, each_later P Q h as' p.1)

pub maybe_later : {A : Type 0} (P Q : A → Type 0) → ((a : A) → P a → Q a) → (o : Option A) → Maybe P o → Maybe Q o
maybe_later P Q h None p = tt
maybe_later P Q h (Some a) p = h a p

pub each_map : {A B : Type 0} (P : B → Type 0) (f : A → B) → ((a : A) → P (f a)) → (as' : List A) → Each P (map f as')
each_map P f h [] = tt
each_map P f h (a ∷ as') = (h a, each_map P f h as')

-- ---- with more nodes

abbrev pub IsThrown : ℕ → Thrown → Type 0
IsThrown k (fresh kind vs) = IsTrue (is_exception_class kind) × AreValues k vs
IsThrown k (thrown_object i) = i < k

pub value_later : (k l : ℕ) → k ≤ l → (v : Value) → IsValue k v → IsValue l v
value_later k l h (node i) p = omega (arith, h, p)
value_later k l h none p = tt
value_later k l h (bool b) p = tt
value_later k l h (integer z) p = p
value_later k l h (text cs) p = p
value_later k l h (range a b c) p = p
value_later k l h (builtin n) p = p
value_later k l h (class n) p = p

pub values_later : (k l : ℕ) → k ≤ l → (vs : List Value) → AreValues k vs → AreValues l vs
values_later k l h = each_later (IsValue k) (IsValue l) (value_later k l h)

pub node_later : (k l : ℕ) → k ≤ l → (n : Node) → IsNode k n → IsNode l n
node_later k l h (list vs) p = values_later k l h vs p
node_later k l h (tuple vs) p = values_later k l h vs p
node_later k l h (dict es) p = (p.0, p.1, values_later k l h (values_in es) p.2)
node_later k l h (object es) p = (p.0, p.1, values_later k l h (values_in es) p.2)
node_later k l h (function profile code vs) p = (p.0, values_later k l h vs p.1)
node_later k l h (exception kind vs) p = (p.0, values_later k l h vs p.1)

pub thrown_later : (k l : ℕ) → k ≤ l → (x : Thrown) → IsThrown k x → IsThrown l x
thrown_later k l h (fresh kind vs) p = (p.0, values_later k l h vs p.1)
thrown_later k l h (thrown_object i) p = omega (arith, h, p)

-- ---- lists of nodes that grow

stays_on : {a b c : Node} → Stays a b → Stays b c → Stays a c
stays_on (the_same n) q = q
stays_on (lists vs ws) (the_same n) = lists vs ws
stays_on (lists vs ws) (lists us xs) = lists vs xs
stays_on (dicts vs ws) (the_same n) = dicts vs ws
stays_on (dicts vs ws) (dicts us xs) = dicts vs xs
stays_on (objects vs ws) (the_same n) = objects vs ws
stays_on (objects vs ws) (objects us xs) = objects vs xs

pub grown_self : (ns : List Node) → Grown ns ns
grown_self [] = tt
grown_self (n ∷ ns) = (the_same n, grown_self ns)

pub grown_on : (ns ms ls : List Node) → Grown ns ms → Grown ms ls → Grown ns ls
grown_on [] ms ls g h = tt
grown_on (n ∷ ns) [] ls g h = absurd g
grown_on (n ∷ ns) (m ∷ ms) [] g h = absurd h
grown_on (n ∷ ns) (m ∷ ms) (l ∷ ls) g h = (stays_on g.0 h.0, grown_on ns ms ls g.1 h.1)

grown_append : (ns ms : List Node) → Grown ns (ns ++ ms)
grown_append [] ms = tt
grown_append (n ∷ ns) ms = (the_same n, grown_append ns ms)

grown_changed : (f : Node → Node) → ((n : Node) → Stays n (f n)) → (i : ℕ) (ns : List Node) → Grown ns (changed f i ns)
grown_changed f h i [] = tt
grown_changed f h zero (n ∷ ns) = (h n, grown_self ns)
grown_changed f h (suc i) (n ∷ ns) = (the_same n, grown_changed f h i ns)

-- What stays is under the profile under which it was.
stays_under : (profile : Profile) {n m : Node} → Stays n m → IsUnder profile n → IsUnder profile m
stays_under profile (the_same n) u = u
stays_under profile (lists vs ws) u = tt
stays_under profile (dicts es fs) u = tt
stays_under profile (objects es fs) u = tt

changed_under : (profile : Profile) (f : Node → Node) → ((n : Node) → Stays n (f n)) → (i : ℕ) (ns : List Node) → AreUnder profile ns → AreUnder profile (changed f i ns)
changed_under profile f h i [] u = tt
changed_under profile f h zero (n ∷ ns) u = (stays_under profile (h n) u.0, u.1)
changed_under profile f h (suc i) (n ∷ ns) u = (u.0, changed_under profile f h i ns u.1)

pub grown_length : (ns ms : List Node) → Grown ns ms → length ns ≤ length ms
grown_length [] ms g = omega arith
grown_length (n ∷ ns) [] g = absurd g
grown_length (n ∷ ns) (m ∷ ms) g = let p = grown_length ns ms g.1 in omega (arith, p)

-- ---- moments

pub names_later : (k l : ℕ) → k ≤ l → {ns : List (List ℕ × Value)} → AreNames k ns → AreNames l ns
names_later k l h {ns = ns} p = record { titles = p.titles; rise = p.rise; values = values_later k l h (values_in ns) p.values }

pub locals_later : (k l : ℕ) → k ≤ l → (o : Option Locals) → Maybe (λ (here : Locals). AreValues k (values_in here.values)) o → Maybe (λ (here : Locals). AreValues l (values_in here.values)) o
locals_later k l h None p = tt
locals_later k l h (Some here) p = values_later k l h (values_in here.values) p

pub optional_later : (k l : ℕ) → k ≤ l → (o : Option Value) → Maybe (IsValue k) o → Maybe (IsValue l) o
optional_later k l h o p = maybe_later (IsValue k) (IsValue l) (value_later k l h) o p

pub at_left : {l : ℕ} {s : Moment} (n : ℕ) → n ≤ widest_budget → IsMoment l s → IsMoment l (record s { left = n })
at_left n h g = record { many = g.many; nodes = g.nodes; names = g.names; locals = g.locals; handled = g.handled; budget = h }

pub at_depth : {l : ℕ} {s : Moment} (d : ℕ) → IsMoment l s → IsMoment l (record s { depth = d })
at_depth d g = record { many = g.many; nodes = g.nodes; names = g.names; locals = g.locals; handled = g.handled; budget = g.budget }

-- at a moment that follows one with n steps left and these nodes, at the same depth and under the same profile, under which functions stay
abbrev pub After : ℕ → List Node → ℕ → Profile → Moment → Type 0
After n ns deep profile s = (s.left ≤ n) × Grown ns s.nodes × (s.depth ≡ deep) × (s.profile ≡ profile) × (AreUnder profile ns → AreUnder profile s.nodes)

pub stay : (s : Moment) → After s.left s.nodes s.depth s.profile s
stay s = (omega arith, grown_self s.nodes, refl, refl, λ u. u)

pub data SafeEnds {A : Type 0} (k n : ℕ) (ns : List Node) (deep : ℕ) (profile : Profile) (Q : ℕ → A → Type 0) : Ends A → Type 0 where
  fines : (l : ℕ) {a : A} {s : Moment} → k ≤ l → After n ns deep profile s → Q l a → IsMoment l s → SafeEnds k n ns deep profile Q (fine a s)
  raiseds : (l : ℕ) {x : Thrown} {s : Moment} → k ≤ l → After n ns deep profile s → IsThrown l x → IsMoment l s → SafeEnds k n ns deep profile Q (raised x s)
  stoppeds : (l : ℕ) {s : Moment} → k ≤ l → After n ns deep profile s → IsMoment l s → SafeEnds k n ns deep profile Q (stopped s)

-- ---- with more steps to spend

abbrev pub more : ℕ → Moment → Moment
more d s = record s { left = s.left + d }

pub more_good : {l : ℕ} {s : Moment} (d : ℕ) → s.left + d ≤ widest_budget → IsMoment l s → IsMoment l (more d s)
more_good {s = s} d h g = at_left (s.left + d) h g

-- An end, and that with d more steps to spend: the same with d more steps left, or a stop, where the other took more steps than there were.
pub data WiderEnds {A : Type 0} (d : ℕ) : Ends A → Ends A → Type 0 where
  both_fine : {a : A} {s : Moment} → WiderEnds d (fine a s) (fine a (more d s))
  both_raised : {x : Thrown} {s : Moment} → WiderEnds d (raised x s) (raised x (more d s))
  one_stopped : {s : Moment} {e : Ends A} → s.left ≡ 0 → (end_of e).left < d → WiderEnds d (stopped s) e

-- No step is given back.
pub falls_in : {A : Type 0} {k n : ℕ} {ns : List Node} {deep : ℕ} {profile : Profile} {Q : ℕ → A → Type 0} {e : Ends A} → SafeEnds k n ns deep profile Q e → (end_of e).left ≤ n
falls_in (fines l le after q g) = after.0
falls_in (raiseds l le after q g) = after.0
falls_in (stoppeds l le after g) = after.0

-- from moments with k nodes or more
pub record Safe {A : Type 0} (k : ℕ) (Q : ℕ → A → Type 0) (m : M A) : Type 0 where
  pub go : (l : ℕ) → k ≤ l → (s : Moment) → IsMoment l s → SafeEnds l s.left s.nodes s.depth s.profile Q (m s)
  pub wide : (l : ℕ) → k ≤ l → (s : Moment) → IsMoment l s → (d : ℕ) → 0 < d → s.left + d ≤ widest_budget → WiderEnds d (m s) (m (more d s))

pub safe_later : {A : Type 0} {k l : ℕ} {Q : ℕ → A → Type 0} {m : M A} → k ≤ l → Safe k Q m → Safe l Q m
safe_later h m = record { go = λ n le s g. m.go n (omega (arith, h, le)) s g; wide = λ n le s g. m.wide n (omega (arith, h, le)) s g }

pub after_on : (n : ℕ) (ns : List Node) (deep : ℕ) (profile : Profile) (s t : Moment) → After n ns deep profile s → After s.left s.nodes s.depth s.profile t → After n ns deep profile t
after_on n ns deep profile s t g h = let p : s.left ≤ n = g.0 in let q : t.left ≤ s.left = h.0 in (
  omega (arith, p, q),
  grown_on ns s.nodes t.nodes g.1 h.1,
  h.2 ∙ g.2,
  h.3 ∙ g.3,
  λ u. subst (λ r. AreUnder r t.nodes) g.3 (h.4 (subst (λ r. AreUnder r s.nodes) (sym g.3) (g.4 u))),
)

-- of ends from a moment that itself is a later one
pub ends_later : {A : Type 0} {k l n : ℕ} {ns : List Node} {deep : ℕ} {profile : Profile} {Q : ℕ → A → Type 0} {e : Ends A} (s : Moment) → k ≤ l → After n ns deep profile s → SafeEnds l s.left s.nodes s.depth s.profile Q e → SafeEnds k n ns deep profile Q e
ends_later {n = most} {ns = ns} {deep = deep} {profile = profile} s h after (fines n {s = t} le a q g) = fines n (omega (arith, h, le)) (after_on most ns deep profile s t after a) q g
ends_later {n = most} {ns = ns} {deep = deep} {profile = profile} s h after (raiseds n {s = t} le a q g) = raiseds n (omega (arith, h, le)) (after_on most ns deep profile s t after a) q g
ends_later {n = most} {ns = ns} {deep = deep} {profile = profile} s h after (stoppeds n {s = t} le a g) = stoppeds n (omega (arith, h, le)) (after_on most ns deep profile s t after a) g

bind_ends : {A B : Type 0} {k l n : ℕ} {ns : List Node} {deep : ℕ} {profile : Profile} (Q : ℕ → A → Type 0) (S : ℕ → B → Type 0) (f : A → M B) {e : Ends A} → k ≤ l → SafeEnds l n ns deep profile Q e → ((n : ℕ) → k ≤ n → (a : A) → Q n a → Safe n S (f a)) → SafeEnds l n ns deep profile S (and_then e f)
bind_ends Q S f kl (fines n {a = a} {s = s} le after q g) h = ends_later s le after ((h n (omega (arith, kl, le)) a q).go n (omega arith) s g)
bind_ends Q S f kl (raiseds n {s = s} le after q g) h = raiseds n le after q g
bind_ends Q S f kl (stoppeds n {s = s} le after g) h = stoppeds n le after g

-- what ends with fewer than d steps left goes on so
short_ends : {A B : Type 0} {k l d n : ℕ} {ns : List Node} {deep : ℕ} {profile : Profile} (Q : ℕ → A → Type 0) (S : ℕ → B → Type 0) (f : A → M B) {e : Ends A} → k ≤ l → SafeEnds l n ns deep profile Q e → (end_of e).left < d → ((n : ℕ) → k ≤ n → (a : A) → Q n a → Safe n S (f a)) → (end_of (and_then e f)).left < d
short_ends Q S f kl (fines n {a = a} {s = s} le after q g) short h = let p = falls_in ((h n (omega (arith, kl, le)) a q).go n (omega arith) s g) in omega (arith, p, short)
short_ends Q S f kl (raiseds n le after q g) short h = short
short_ends Q S f kl (stoppeds n le after g) short h = short

bind_wide : {A B : Type 0} {k l d n n' : ℕ} {ns ns' : List Node} {deep deep' : ℕ} {profile profile' : Profile} (Q : ℕ → A → Type 0) (S : ℕ → B → Type 0) (f : A → M B) {e e' : Ends A} → k ≤ l → 0 < d → n + d ≤ widest_budget → WiderEnds d e e' → SafeEnds l n ns deep profile Q e → SafeEnds l n' ns' deep' profile' Q e' → ((n : ℕ) → k ≤ n → (a : A) → Q n a → Safe n S (f a)) → WiderEnds d (and_then e f) (and_then e' f)
bind_wide {d = d} {n = most} Q S f kl pos fits both_fine (fines n {a = a} {s = s} le after q g) other h = let p : s.left ≤ most = after.0 in (h n (omega (arith, kl, le)) a q).wide n (omega arith) s g d pos (omega (arith, p, fits))
bind_wide Q S f kl pos fits both_raised one other h = both_raised
bind_wide Q S f kl pos fits (one_stopped z short) one other h = one_stopped z (short_ends Q S f kl other short h)

pub bind_s : {A B : Type 0} {k : ℕ} {Q : ℕ → A → Type 0} {S : ℕ → B → Type 0} {m : M A} {f : A → M B} → Safe k Q m → ((n : ℕ) → k ≤ n → (a : A) → Q n a → Safe n S (f a)) → Safe k S (m >>= f)
bind_s {Q = Q} {S = S} {m = m} {f = f} h g = record {
  go = λ l le s gs. bind_ends Q S f le (h.go l le s gs) g;
  wide = λ l le s gs d pos fits. bind_wide Q S f le pos fits (h.wide l le s gs d pos fits) (h.go l le s gs) (h.go l le (more d s) (more_good d fits gs)) g;
}

-- a result that doesn't speak of nodes, and one of which nothing need be known
pub with_s : {A B : Type 0} {k : ℕ} {P : A → Type 0} {S : ℕ → B → Type 0} {m : M A} {f : A → M B} → Safe k (λ l a. P a) m → ((a : A) → P a → Safe k S (f a)) → Safe k S (m >>= f)
with_s h g = bind_s h (λ n le a q. safe_later le (g a q))

pub plain_s : {A B : Type 0} {k : ℕ} {S : ℕ → B → Type 0} {m : M A} {f : A → M B} → Safe k Any m → ((a : A) → Safe k S (f a)) → Safe k S (m >>= f)
plain_s h g = bind_s h (λ n le a q. safe_later le (g a))

pub then_s : {A B : Type 0} {k : ℕ} {Q : ℕ → A → Type 0} {S : ℕ → B → Type 0} {m : M A} {n : M B} → Safe k Q m → Safe k S n → Safe k S (m >> n)
then_s h g = bind_s h (λ n le a q. safe_later le g)

pub give_s : {A : Type 0} {k : ℕ} (Q : ℕ → A → Type 0) {a : A} → ((l : ℕ) → k ≤ l → Q l a) → Safe k Q (give a)
give_s Q h = record { go = λ l le s g. fines l (omega arith) (stay s) (h l le) g; wide = λ l le s g d pos fits. both_fine }

pub any_s : {A : Type 0} {k : ℕ} {a : A} → Safe k Any (give a)
any_s = give_s Any (λ l le. tt)

pub value_s : {k : ℕ} (v : Value) → IsValue k v → Safe k IsValue (give v)
value_s {k = k} v h = give_s IsValue (λ l le. value_later k l le v h)

pub list_s : {k : ℕ} (vs : List Value) → AreValues k vs → Safe k AreValues (give vs)
list_s {k = k} vs h = give_s AreValues (λ l le. values_later k l le vs h)

pub throw_s : {A : Type 0} {k : ℕ} {Q : ℕ → A → Type 0} (x : Thrown) → IsThrown k x → Safe k Q (throw x)
throw_s {k = k} x h = record { go = λ l le s g. raiseds l (omega arith) (stay s) (thrown_later k l le x h) g; wide = λ l le s g d pos fits. both_raised }

pub raise_s : {A : Type 0} {k : ℕ} {Q : ℕ → A → Type 0} (kind : ℕ) (message : List ℕ) → IsTrue (is_exception_class kind) → IsText message → Safe k Q (raise kind message)
raise_s kind message c t = record { go = λ l le s g. raiseds l (omega arith) (stay s) (c, (t, tt)) g; wide = λ l le s g d pos fits. both_raised }

pub if_s : {A : Type 0} {k : ℕ} {Q : ℕ → A → Type 0} (b : Bool) {m n : M A} → Safe k Q m → Safe k Q n → Safe k Q (if b then m else n)
if_s true h g = h
if_s false h g = g

-- where the test tells something of the first
pub when_s : {A : Type 0} {k : ℕ} {Q : ℕ → A → Type 0} (b : Bool) {m n : M A} → (b ≡ true → Safe k Q m) → (b ≡ false → Safe k Q n) → Safe k Q (if b then m else n)
when_s true h g = h refl
when_s false h g = g refl

pub or_else_s : {A : Type 0} {k : ℕ} (Q : ℕ → A → Type 0) {m : M A} (o : Option A) → Safe k Q m → ((l : ℕ) → k ≤ l → Maybe (Q l) o) → Safe k Q (or_else m o)
or_else_s Q None h g = h
or_else_s Q (Some a) h g = give_s Q g

pub any_else_s : {A : Type 0} {k : ℕ} {m : M A} (o : Option A) → Safe k Any m → Safe k Any (or_else m o)
any_else_s None h = h
any_else_s (Some a) h = any_s

-- what depends on the moment, and not on the steps that are left
pub asking_s : {A : Type 0} {k : ℕ} {Q : ℕ → A → Type 0} (f : Moment → M A) → ((d : ℕ) (s : Moment) → f s ≡ f (more d s)) → ((l : ℕ) (s : Moment) → k ≤ l → IsMoment l s → Safe l Q (f s)) → Safe k Q (λ s. f s s)
asking_s f same h = record {
  go = λ l le s g. (h l s le g).go l (omega arith) s g;
  wide = λ l le s g d pos fits. subst (λ m. WiderEnds d (f s s) (m (more d s))) (same d s) ((h l s le g).wide l (omega arith) s g d pos fits);
}

pub look_s : {A : Type 0} {k : ℕ} (Q : ℕ → A → Type 0) (f : List Node → A) → ((l : ℕ) (s : Moment) → k ≤ l → IsMoment l s → Q l (f s.nodes)) → Safe k Q (look f)
look_s Q f h = record { go = λ l le s g. fines l (omega arith) (stay s) (h l s le g) g; wide = λ l le s g d pos fits. both_fine }

pub look_any : {A : Type 0} {k : ℕ} (f : List Node → A) → Safe k Any (look f)
look_any f = record { go = λ l le s g. fines l (omega arith) (stay s) tt g; wide = λ l le s g d pos fits. both_fine }

pub now_good : (l : ℕ) (s : Moment) (v : Value) → IsMoment l s → Maybe (IsNode l) (node_at s.nodes v)
now_good l s (node i) g = each_get (IsNode l) s.nodes i g.nodes
now_good l s none g = tt
now_good l s (bool b) g = tt
now_good l s (integer z) g = tt
now_good l s (text cs) g = tt
now_good l s (range a b c) g = tt
now_good l s (builtin n) g = tt
now_good l s (class n) g = tt

pub node_now_s : {k : ℕ} (v : Value) → Safe k (λ l. Maybe (IsNode l)) (node_now v)
node_now_s v = record { go = λ l le s g. fines l (omega arith) (stay s) (now_good l s v g) g; wide = λ l le s g d pos fits. both_fine }

abbrev pub spend_by : Bool → ℕ → M (Unit {0})
spend_by b n s = if b then fine tt (record s { left = s.left - n }) else stopped (record s { left = 0 })

-- What was spent was there.
spend_ends : (b : Bool) (n l : ℕ) (s : Moment) → nat_le n s.left ≡ b → IsMoment l s → SafeEnds l s.left s.nodes s.depth s.profile (λ _ _. n ≤ widest_budget) (spend_by b n s)
spend_ends true n l s e g =
    let p = g.budget in
    let fits : n ≤ s.left = leb-true n s.left e in
    fines l (omega arith) (omega arith, grown_self s.nodes, refl, refl, λ u. u) (omega (arith, p, fits)) (at_left (s.left - n) (omega (arith, p)) g)
spend_ends false n l s e g = stoppeds l (omega arith) (omega arith, grown_self s.nodes, refl, refl, λ u. u) (at_left 0 (omega arith) g)

spend_wide : (n d : ℕ) (s : Moment) (b c : Bool) → nat_le n s.left ≡ b → nat_le n (s.left + d) ≡ c → 0 < d → WiderEnds d (spend_by b n s) (spend_by c n (more d s))
spend_wide n d s true true e f pos =
    let fits : n ≤ s.left = leb-true n s.left e in
    let rest : s.left - n + d ≡ s.left + d - n = omega (arith, fits) in
    subst (λ (j : ℕ). WiderEnds {A = Unit {0}} d (fine tt (record s { left = s.left - n })) (fine tt (record s { left = j }))) rest both_fine
spend_wide n d s true false e f pos =
    let fits : n ≤ s.left = leb-true n s.left e in
    let short : s.left + d < n = leb-false n (s.left + d) f in
    absurd (omega (arith, fits, short))
spend_wide n d s false true e f pos =
    let short : s.left < n = leb-false n s.left e in
    let fits : n ≤ s.left + d = leb-true n (s.left + d) f in
    one_stopped refl (omega (arith, short, fits, pos))
spend_wide n d s false false e f pos = one_stopped refl pos

pub spend_s : {k : ℕ} (n : ℕ) → Safe k (λ _ _. n ≤ widest_budget) (spend n)
spend_s n = record { go = λ l le s g. spend_ends (nat_le n s.left) n l s refl g; wide = λ l le s g d pos fits. spend_wide n d s (nat_le n s.left) (nat_le n (s.left + d)) refl refl pos }

ends_so : {A : Type 0} {k n : ℕ} {ns : List Node} {deep : ℕ} {profile : Profile} {Q S : ℕ → A → Type 0} {e : Ends A} → ((l : ℕ) (a : A) → Q l a → S l a) → SafeEnds k n ns deep profile Q e → SafeEnds k n ns deep profile S e
ends_so h (fines l {a = a} le after q g) = fines l le after (h l a q) g
ends_so h (raiseds l le after q g) = raiseds l le after q g
ends_so h (stoppeds l le after g) = stoppeds l le after g

pub so_s : {A : Type 0} {k : ℕ} {Q S : ℕ → A → Type 0} {m : M A} → Safe k Q m → ((l : ℕ) (a : A) → Q l a → S l a) → Safe k S m
so_s h q = record { go = λ l le s g. ends_so q (h.go l le s g); wide = λ l le s g. h.wide l le s g }

pub spend_any : {k : ℕ} (n : ℕ) → Safe k Any (spend n)
spend_any n = so_s (spend_s n) (λ l a q. tt)

pub tick_s : {k : ℕ} → Safe k (λ _ _. 1 ≤ widest_budget) tick
tick_s = spend_s 1

pub out_s : {k : ℕ} (cs : List ℕ) → Safe k Any (put_out cs)
out_s cs = record { go = λ l le s g. fines l (omega arith) (stay s) tt (record { many = g.many; nodes = g.nodes; names = g.names; locals = g.locals; handled = g.handled; budget = g.budget }); wide = λ l le s g d pos fits. both_fine }

back_ends : {A : Type 0} {k n : ℕ} {ns : List Node} {deep : ℕ} {profile : Profile} (Q : ℕ → A → Type 0) (d : ℕ) {e : Ends A} → SafeEnds k n ns deep profile Q e → SafeEnds k n ns d profile Q (back_at d e)
back_ends Q d (fines l le after q g) = fines l le (after.0, after.1, refl, after.3, after.4) q (at_depth d g)
back_ends Q d (raiseds l le after q g) = raiseds l le (after.0, after.1, refl, after.3, after.4) q (at_depth d g)
back_ends Q d (stoppeds l le after g) = stoppeds l le (after.0, after.1, refl, after.3, after.4) (at_depth d g)

back_left : {A : Type 0} (d : ℕ) (e : Ends A) → (end_of (back_at d e)).left ≡ (end_of e).left
back_left d (fine a s) = refl
back_left d (raised x s) = refl
back_left d (stopped s) = refl

back_wide : {A : Type 0} {d : ℕ} (n : ℕ) {e e' : Ends A} → WiderEnds d e e' → WiderEnds d (back_at n e) (back_at n e')
back_wide n both_fine = both_fine
back_wide n both_raised = both_raised
back_wide {d = d} n (one_stopped {e = e} z short) = one_stopped z (subst (λ (j : ℕ). j < d) (sym (back_left n e)) short)

level_wide : {A : Type 0} {d : ℕ} (b : Bool) (n : ℕ) (s : Moment) {e e' : Ends A} → WiderEnds d e e' → WiderEnds d (if b then back_at n e else recursion_error s) (if b then back_at n e' else recursion_error (more d s))
level_wide true n s h = back_wide n h
level_wide false n s h = both_raised

level_ends : {A : Type 0} {k deep : ℕ} (Q : ℕ → A → Type 0) (b : Bool) {s : Moment} {e : Ends A} → IsMoment k s → SafeEnds k s.left s.nodes deep s.profile Q e → SafeEnds k s.left s.nodes s.depth s.profile Q (if b then back_at s.depth e else recursion_error s)
level_ends Q true {s = s} g h = back_ends Q s.depth h
level_ends {k = k} Q false {s = s} g h = raiseds k (omega arith) (stay s) (refl, (refl, tt)) g

pub deeper_s : {A : Type 0} {k : ℕ} {Q : ℕ → A → Type 0} {m : M A} → Safe k Q m → Safe k Q (deeper m)
deeper_s {Q = Q} {m = m} h = record {
  go = λ l le s g. level_ends Q (nat_lt s.depth most_depth) g (h.go l le (record s { depth = suc s.depth }) (at_depth (suc s.depth) g));
  wide = λ l le s g d pos fits. level_wide (nat_lt s.depth most_depth) s.depth s (h.wide l le (record s { depth = suc s.depth }) (at_depth (suc s.depth) g) d pos fits);
}

-- ---- what only counts

-- of the answer, with the steps that are left then
abbrev pub Answers : {A : Type 0} → (A → ℕ → Type 0) → Counted A → Type 0
Answers P (answer a left) = P a left
Answers P (too_deep left) = Unit {0}
Answers P (spent left) = Unit {0}

counted_ends : {A : Type 0} (Q : ℕ → A → Type 0) (r : Counted A) (l : ℕ) (s : Moment) → IsMoment l s → left_of r ≤ s.left → Answers (λ a left. Q l a) r → SafeEnds l s.left s.nodes s.depth s.profile Q (ended_in s r)
counted_ends Q (answer a n) l s g h q = let p = g.budget in fines l (omega arith) (h, grown_self s.nodes, refl, refl, λ u. u) q (at_left n (omega (arith, p, h)) g)
counted_ends Q (too_deep n) l s g h q = let p = g.budget in raiseds l (omega arith) (h, grown_self s.nodes, refl, refl, λ u. u) (refl, (refl, tt)) (at_left n (omega (arith, p, h)) g)
counted_ends Q (spent n) l s g h q = let p = g.budget in stoppeds l (omega arith) (h, grown_self s.nodes, refl, refl, λ u. u) (at_left n (omega (arith, p, h)) g)

ended_left : {A : Type 0} (s : Moment) (r : Counted A) → (end_of (ended_in s r)).left ≡ left_of r
ended_left s (answer a n) = refl
ended_left s (too_deep n) = refl
ended_left s (spent n) = refl

ended_wide : {A : Type 0} {d : ℕ} (s : Moment) {r r' : Counted A} → Wider d r r' → WiderEnds d (ended_in s r) (ended_in (more d s) r')
ended_wide s both_answer = both_fine
ended_wide s both_deep = both_raised
ended_wide {d = d} s (one_spent {e = r} z short) = one_stopped z (subst (λ (j : ℕ). j < d) (sym (ended_left (more d s) r)) short)

pub counted_at : {A : Type 0} {k : ℕ} (Q : ℕ → A → Type 0) (c : Moment → Count A) → ((d : ℕ) (s : Moment) → c s ≡ c (more d s)) → ((s : Moment) → Falls (c s)) → ((l : ℕ) (s : Moment) → k ≤ l → IsMoment l s → Answers (λ a left. Q l a) (c s s.left)) → Safe k Q (λ s. counted (c s) s)
counted_at Q c same h q = record {
  go = λ l le s g. counted_ends Q (c s s.left) l s g ((h s).falls s.left) (q l s le g);
  wide = λ l le s g d pos fits. subst (λ k. WiderEnds d (ended_in s (c s s.left)) (ended_in (more d s) (k (s.left + d)))) (same d s) (ended_wide s ((h s).wide s.left d pos));
}

whatever : {A : Type 0} (r : Counted A) → Answers (λ a left. Unit {0}) r
whatever (answer a left) = tt
whatever (too_deep left) = tt
whatever (spent left) = tt

pub counted_s : {A : Type 0} {k : ℕ} (c : Moment → Count A) → ((d : ℕ) (s : Moment) → c s ≡ c (more d s)) → ((s : Moment) → Falls (c s)) → Safe k Any (λ s. counted (c s) s)
counted_s c same h = counted_at Any c same h (λ l s le g. whatever (c s s.left))

-- ---- new nodes and changed ones

-- a new node at a moment, where a function is under the moment's profile
pub make_ends : (n : Node) (l : ℕ) (s : Moment) → IsNode l n → IsUnder s.profile n → IsMoment l s → SafeEnds l s.left s.nodes s.depth s.profile IsValue (make n s)
make_ends n l s h under g =
    fines (l + 1) (omega arith)
    (omega arith, grown_append s.nodes (n ∷ []), refl, refl, λ u. each_append (IsUnder s.profile) s.nodes (n ∷ []) u (under, tt))
    (omega (arith, g.many))
    (record {
      many = omega (arith, g.many, length-append s.nodes (n ∷ []));
      nodes = each_append (IsNode (l + 1)) s.nodes (n ∷ []) (each_later (IsNode l) (IsNode (l + 1)) (node_later l (l + 1) (omega arith)) s.nodes g.nodes) (node_later l (l + 1) (omega arith) n h, tt);
      names = names_later l (l + 1) (omega arith) g.names;
      locals = locals_later l (l + 1) (omega arith) s.locals g.locals;
      handled = optional_later l (l + 1) (omega arith) s.handled g.handled;
      budget = g.budget;
    })

-- one that is no function
pub make_s : {k : ℕ} (n : Node) → IsNode k n → ((profile : Profile) → IsUnder profile n) → Safe k IsValue (make n)
make_s {k = k} n h under = record { go = λ l le s g. make_ends n l s (node_later k l le n h) (under s.profile) g; wide = λ l le s g d pos fits. both_fine }

changed_length : (f : Node → Node) (i : ℕ) (ns : List Node) → length (changed f i ns) ≡ length ns
changed_length f i [] = refl
changed_length f zero (n ∷ ns) = refl
changed_length f (suc i) (n ∷ ns) = ap suc (changed_length f i ns)

changed_each : (k : ℕ) (f : Node → Node) → ((n : Node) → IsNode k n → IsNode k (f n)) → (i : ℕ) (ns : List Node) → Each (IsNode k) ns → Each (IsNode k) (changed f i ns)
changed_each k f h i [] p = tt
changed_each k f h zero (n ∷ ns) p = (h n p.0, p.1)
changed_each k f h (suc i) (n ∷ ns) p = (p.0, changed_each k f h i ns p.1)

-- what may be done with a node among k or more
pub record Edits (k : ℕ) (f : Node → Node) : Type 0 where
  pub stays : (n : Node) → Stays n (f n)
  pub keeps : (l : ℕ) → k ≤ l → (n : Node) → IsNode l n → IsNode l (f n)

pub change_s : {k : ℕ} (i : ℕ) (f : Node → Node) → Edits k f → Safe k Any (change i f)
change_s i f h = record {
  go = λ l le s g. fines l (omega arith) (omega arith, grown_changed f h.stays i s.nodes, refl, refl, changed_under s.profile f h.stays i s.nodes) tt (record {
    many = g.many ∙ sym (changed_length f i s.nodes);
    nodes = changed_each l f (h.keeps l le) i s.nodes g.nodes;
    names = g.names;
    locals = g.locals;
    handled = g.handled;
    budget = g.budget;
  });
  wide = λ l le s g d pos fits. both_fine;
}

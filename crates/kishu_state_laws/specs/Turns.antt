-- Loops never run out of turns: each turn takes a step, so with any number of turns above the steps that are left they go the same way.
use Rattle.std.specs.Prelude.{◌≡◌, ℕ, zero, suc, ◌-◌, ◌<◌, ◌≤◌, nat_le, pos, Bool, true, false, not, if◌then◌else◌, [], ◌∷◌, length, Option, Some, None}
use Rattle.std.specs.Bool.{beq}
use Rattle.std.proofs.Common.{refl, ap, subst, arith, leb-true}
use Rattle.kishu_language.specs.declared.tree.Comparison.{Comparison}
use Rattle.kishu_language.specs.trees.Tree.{Expression, Statements}
use Rattle.kishu_language.specs.trees.Tree as t
use Rattle.kishu_meaning.specs.values.BuiltinNames as builtins
use Rattle.kishu_meaning.specs.values.Values.{Value, bool, integer}
use Rattle.kishu_meaning.specs.moments.Moment.{Moment, Ends, fine, raised, stopped, M, and_then, ◌>>=◌, ◌>>◌, give, tick}
use Rattle.kishu_meaning.specs.items.Walks.{Walk, walk_of, item_for}
use Rattle.kishu_meaning.specs.calls.Operators.{truth}
use Rattle.kishu_meaning.specs.calls.Builtins.{Call, builtin_call, and_next, decided, decide, folded, fold, better, or_empty_argument, best_of, added}
use Rattle.kishu_meaning.specs.cells.Ways.{Flow, onward, broke, continued, returned, turn_on, turns, repeat, with_item, walk_on, walk_along}
use Rattle.kishu_meaning.specs.cells.Meaning.{Calls, expr, part, store, walked_by, in_block, act, acts, call}
use Rattle.kishu_pairing_laws.specs.World.{end_of}
use Rattle.kishu_objects.specs.State.{IsValue}
use Rattle.kishu_state_laws.specs.Moments.{Holds, Leads, LeadsOn, LeadsWith, IsWalk}
use Rattle.kishu_state_laws.specs.Whole.{leads, ends_lead}
use Rattle.kishu_state_laws.specs.trees.Sound.{StatementSound}
use Rattle.kishu_state_laws.specs.keeping.Logic.{Any, SafeEnds, fines, raiseds, stoppeds, Safe, then_s, at_left, grown_self, grown_on, grown_length, spend_by, value_later, optional_later}
use Rattle.kishu_state_laws.specs.keeping.Leaves.{MaybeValue, truth_s}
use Rattle.kishu_state_laws.specs.keeping.Operating.{walk_later, walk_of_s, item_for_s}
use Rattle.kishu_state_laws.specs.keeping.Calling.{better_s, added_s}
use Rattle.kishu_state_laws.specs.keeping.Flows.{IsFlow}
use Rattle.kishu_state_laws.specs.keeping.Parts.{in_block_s}
use Rattle.kishu_state_laws.specs.keeping.Agreeing.{bind_a}
use Rattle.kishu_state_laws.specs.keeping.CallsAgreeing.{one_calls}
use Rattle.kishu_state_laws.specs.keeping.Expressions.{expr_s, expr_a, part_a, store_a}
use Rattle.kishu_state_laws.specs.keeping.Acts.{walked_by_a, acts_s}
use Rattle.kishu_state_laws.specs.keeping.Running.{call_s}

-- a moment of a run, with fewer steps left than n
abbrev pub Outlasts : ℕ → Moment → Type 0
Outlasts n s = Holds s × (s.left < n)

-- the loops of statements, with n turns
abbrev pub while_within : ℕ → Calls → Expression → Statements → M Flow
while_within n calls e body = turns n (expr calls e) (in_block body (acts calls body))

abbrev pub for_within : ℕ → Calls → Expression → Expression → Statements → M Flow
for_within n calls e walked body = part calls walked (expr calls walked) >>= walked_by calls >>= λ walk. walk_on n walk 0 (λ v. store calls e v >> in_block body (acts calls body))

-- those of `all` and `any`, of `max` and `min`, and of `sum`
abbrev pub decide_within : ℕ → Bool → Value → M Value
decide_within n which v = walk_of v >>= λ walk. decided which n walk 0

abbrev pub best_within : ℕ → Comparison → Walk → M Value
best_within n comparison walk = folded (better comparison) n walk 0 None >>= or_empty_argument

abbrev pub sum_within : ℕ → Value → M Value
sum_within n v = walk_of v >>= λ walk. folded added n walk 0 (integer (pos 0))

-- ---- what holds where something ends plainly

abbrev IfFine : {A : Type 0} → (A → Moment → Type 0) → Ends A → Type 0
IfFine P (fine a s) = P a s
IfFine P (raised x s) = Unit {0}
IfFine P (stopped s) = Unit {0}

-- at a later moment, with what a value of it is
abbrev Later : {A : Type 0} → (ℕ → A → Type 0) → Moment → A → Moment → Type 0
Later Q s a t = Leads s t × Q (length t.nodes) a

-- at a later moment with fewer steps left
abbrev Stepped : {A : Type 0} → Moment → A → Moment → Type 0
Stepped s a t = Leads s t × (t.left < s.left)

then_fine : {A B : Type 0} (P : A → Moment → Type 0) (S : B → Moment → Type 0) (e : Ends A) (f : A → M B) → IfFine P e → ((a : A) (t : Moment) → P a t → IfFine S (f a t)) → IfFine S (and_then e f)
then_fine P S (fine a t) f p h = h a t p
then_fine P S (raised x t) f p h = tt
then_fine P S (stopped t) f p h = tt

then_same : {A B : Type 0} (P : A → Moment → Type 0) (e : Ends A) (f g : A → M B) → IfFine P e → ((a : A) (t : Moment) → P a t → f a t ≡ g a t) → and_then e f ≡ and_then e g
then_same P (fine a t) f g p h = h a t p
then_same P (raised x t) f g p h = refl
then_same P (stopped t) f g p h = refl

led : {A : Type 0} (s : Moment) (e : Ends A) → Leads s (end_of e) → IfFine (λ a t. Leads s t) e
led s (fine a t) h = h
led s (raised x t) h = tt
led s (stopped t) h = tt

safely : {A : Type 0} {k : ℕ} (Q : ℕ → A → Type 0) (s : Moment) {e : Ends A} → SafeEnds k s.left s.nodes s.depth s.profile Q e → IfFine (Later Q s) e
safely Q s (fines l {a = a} {s = t} le after q g) = (leads s t after g, subst (λ k. Q k a) g.many q)
safely Q s (raiseds l le after q g) = tt
safely Q s (stoppeds l le after g) = tt

-- from this moment
safe_fine : {A : Type 0} (Q : ℕ → A → Type 0) (m : M A) (s : Moment) → Safe (length s.nodes) Q m → Holds s → IfFine (Later Q s) (m s)
safe_fine Q m s h g = safely Q s (h.go (length s.nodes) (omega arith) s g)

leads_later : (s t u : Moment) → Leads s t → Leads t u → Leads s u
leads_later s t u p q =
    let a : t.left ≤ s.left = p.left in
    let b : u.left ≤ t.left = q.left in
    record { holds = q.holds; left = omega (arith, a, b); grown = grown_on s.nodes t.nodes u.nodes p.grown q.grown }

more_nodes : (s t : Moment) → Leads s t → length s.nodes ≤ length t.nodes
more_nodes s t p = grown_length s.nodes t.nodes p.grown

-- ---- a step, and what is done with it

spent_fine : (b : Bool) (s : Moment) → nat_le 1 s.left ≡ b → Holds s → IfFine (Stepped s) (spend_by b 1 s)
spent_fine true s e g =
    let some : 1 ≤ s.left = leb-true 1 s.left e in
    let budget = g.budget in
    (record { holds = at_left (s.left - 1) (omega (arith, budget)) g; left = omega arith; grown = grown_self s.nodes }, omega (arith, some))
spent_fine false s e g = tt

tick_fine : (s : Moment) → Holds s → IfFine (Stepped s) (tick s)
tick_fine s g = spent_fine (nat_le 1 s.left) s refl g

stepped_on : {A : Type 0} (s t : Moment) (e : Ends A) → Leads s t → t.left < s.left → IfFine (λ a u. Leads t u) e → IfFine (Stepped s) e
stepped_on s t (fine a u) p less q = (leads_later s t u p q, (let b : u.left ≤ t.left = q.left in omega (arith, b, less)))
stepped_on s t (raised x u) p less q = tt
stepped_on s t (stopped u) p less q = tt

truth_fine : (v : Value) (s : Moment) → Holds s → IfFine (λ b t. Leads s t) (truth v s)
truth_fine v s g = led s (truth v s) (ends_lead s Any ((truth_s {k = length s.nodes} v).go (length s.nodes) (omega arith) s g))

-- ---- loops of statements

module _ (test : M Value) (body : M Flow) (h : LeadsOn test) (g : LeadsOn body) where
  body_fine : (s : Moment) → Holds s → IfFine (Stepped s) ((tick >> body) s)
  body_fine s o = then_fine (Stepped s) (Stepped s) (tick s) (λ _. body) (tick_fine s o) (λ u t p. stepped_on s t (body t) p.0 p.1 (led t (body t) (g t p.0.holds)))

  turn_same : (n m : ℕ) (f : Flow) (s : Moment) → turns n test body s ≡ turns m test body s → turn_on f (turns n test body) s ≡ turn_on f (turns m test body) s
  turn_same n m onward s e = e
  turn_same n m broke s e = refl
  turn_same n m continued s e = e
  turn_same n m (returned v) s e = refl

  abbrev Agree : ℕ → ℕ → Type 0
  Agree n m = (s : Moment) → Holds s → s.left < n → s.left < m → turns n test body s ≡ turns m test body s

  test_same : (n m : ℕ) → Agree n m → (b : Bool) (s : Moment) → Holds s → s.left < suc n → s.left < suc m →
      (if b then (tick >> body >>= λ f. turn_on f (turns n test body)) else give onward) s ≡ (if b then (tick >> body >>= λ f. turn_on f (turns m test body)) else give onward) s
  test_same n m rest true s o few few' =
      then_same (Stepped s) ((tick >> body) s) (λ f. turn_on f (turns n test body)) (λ f. turn_on f (turns m test body)) (body_fine s o)
      (λ f t p. let less = p.1 in turn_same n m f t (rest t p.0.holds (omega (arith, less, few)) (omega (arith, less, few'))))
  test_same n m rest false s o few few' = refl

  pub turns_same : (n m : ℕ) → Agree n m
  turns_same zero m s o few few' = absurd (omega (arith, few))
  turns_same (suc n) zero s o few few' = absurd (omega (arith, few'))
  turns_same (suc n) (suc m) s o few few' =
      then_same (λ v t. Leads s t) (test s)
      (λ v. truth v >>= λ b. if b then (tick >> body >>= λ f. turn_on f (turns n test body)) else give onward)
      (λ v. truth v >>= λ b. if b then (tick >> body >>= λ f. turn_on f (turns m test body)) else give onward)
      (led s (test s) (h s o))
      (λ v t p. let less = p.left in
      then_same (λ b u. Leads t u) (truth v t)
      (λ b. if b then (tick >> body >>= λ f. turn_on f (turns n test body)) else give onward)
      (λ b. if b then (tick >> body >>= λ f. turn_on f (turns m test body)) else give onward)
      (truth_fine v t p.holds)
      (λ b u q. let less' = q.left in test_same n m (turns_same n m) b u q.holds (omega (arith, less, less', few)) (omega (arith, less, less', few'))))

module _ (walk : Walk) (turn : Value → M Flow) (h : LeadsWith turn) where
  abbrev AgreeAlong : ℕ → ℕ → Type 0
  AgreeAlong n m = (i : ℕ) (s : Moment) → IsWalk (length s.nodes) walk → Holds s → s.left < n → s.left < m → walk_on n walk i turn s ≡ walk_on m walk i turn s

  along_same : (n m i : ℕ) (f : Flow) (s : Moment) → walk_on n walk i turn s ≡ walk_on m walk i turn s → turn_on f (walk_on n walk i turn) s ≡ turn_on f (walk_on m walk i turn) s
  along_same n m i onward s e = e
  along_same n m i broke s e = refl
  along_same n m i continued s e = e
  along_same n m i (returned v) s e = refl

  item_fine : (v : Value) (s : Moment) → IsValue (length s.nodes) v → Holds s → IfFine (Stepped s) ((tick >> turn v) s)
  item_fine v s w o = then_fine (Stepped s) (Stepped s) (tick s) (λ _. turn v) (tick_fine s o) (λ u t p. stepped_on s t (turn v t) p.0 p.1 (led t (turn v t) (h v t (value_later (length s.nodes) (length t.nodes) (more_nodes s t p.0) v w) p.0.holds)))

  found_same : (n m i : ℕ) → AgreeAlong n m → (o : Option Value) (s : Moment) → MaybeValue (length s.nodes) o → IsWalk (length s.nodes) walk → Holds s → s.left < suc n → s.left < suc m →
      (with_item o turn >>= λ f. turn_on f (walk_on n walk (suc i) turn)) s ≡ (with_item o turn >>= λ f. turn_on f (walk_on m walk (suc i) turn)) s
  found_same n m i rest (Some v) s w is o few few' =
      then_same (Stepped s) ((tick >> turn v) s) (λ f. turn_on f (walk_on n walk (suc i) turn)) (λ f. turn_on f (walk_on m walk (suc i) turn)) (item_fine v s w o)
      (λ f t p. let less = p.1 in along_same n m (suc i) f t (rest (suc i) t (walk_later (length s.nodes) (length t.nodes) (more_nodes s t p.0) walk is) p.0.holds (omega (arith, less, few)) (omega (arith, less, few'))))
  found_same n m i rest None s w is o few few' = refl

  pub walks_same : (n m : ℕ) → AgreeAlong n m
  walks_same zero m i s is o few few' = absurd (omega (arith, few))
  walks_same (suc n) zero i s is o few few' = absurd (omega (arith, few'))
  walks_same (suc n) (suc m) i s is o few few' =
      then_same (Later MaybeValue s) (item_for walk i s)
      (λ found. with_item found turn >>= λ f. turn_on f (walk_on n walk (suc i) turn))
      (λ found. with_item found turn >>= λ f. turn_on f (walk_on m walk (suc i) turn))
      (safe_fine MaybeValue (item_for walk i) s (item_for_s walk i is) o)
      (λ found t p. let less = p.0.left in
      found_same n m i (walks_same n m) found t p.1 (walk_later (length s.nodes) (length t.nodes) (more_nodes s t p.0) walk is) p.0.holds (omega (arith, less, few)) (omega (arith, less, few')))

-- ---- loops of builtin functions

module _ (which : Bool) (walk : Walk) where
  abbrev AgreeDeciding : ℕ → ℕ → Type 0
  AgreeDeciding n m = (i : ℕ) (s : Moment) → IsWalk (length s.nodes) walk → Holds s → s.left < n → s.left < m → decided which n walk i s ≡ decided which m walk i s

  chosen_same : (n m i : ℕ) (b : Bool) (s : Moment) → decided which n walk i s ≡ decided which m walk i s → (if b then give (bool which) else decided which n walk i) s ≡ (if b then give (bool which) else decided which m walk i) s
  chosen_same n m i true s e = refl
  chosen_same n m i false s e = e

  next_same : (n m i : ℕ) → AgreeDeciding n m → (o : Option Value) (s : Moment) → IsWalk (length s.nodes) walk → Holds s → s.left < suc n → s.left < suc m →
      and_next o (give (bool (not which))) (λ v. truth v >>= λ b. if beq b which then give (bool which) else decided which n walk (suc i)) s ≡
      and_next o (give (bool (not which))) (λ v. truth v >>= λ b. if beq b which then give (bool which) else decided which m walk (suc i)) s
  next_same n m i rest (Some v) s is o few few' =
      then_same (Stepped s) (tick s)
      (λ _. truth v >>= λ b. if beq b which then give (bool which) else decided which n walk (suc i))
      (λ _. truth v >>= λ b. if beq b which then give (bool which) else decided which m walk (suc i))
      (tick_fine s o)
      (λ x t p. let less = p.1 in
      then_same (λ b u. Leads t u) (truth v t)
      (λ b. if beq b which then give (bool which) else decided which n walk (suc i))
      (λ b. if beq b which then give (bool which) else decided which m walk (suc i))
      (truth_fine v t p.0.holds)
      (λ b u q. let less' = q.left in
      chosen_same n m (suc i) (beq b which) u (rest (suc i) u (walk_later (length s.nodes) (length u.nodes) (more_nodes s u (leads_later s t u p.0 q)) walk is) q.holds (omega (arith, less, less', few)) (omega (arith, less, less', few')))))
  next_same n m i rest None s is o few few' = refl

  pub decided_same : (n m : ℕ) → AgreeDeciding n m
  decided_same zero m i s is o few few' = absurd (omega (arith, few))
  decided_same (suc n) zero i s is o few few' = absurd (omega (arith, few'))
  decided_same (suc n) (suc m) i s is o few few' =
      then_same (Later MaybeValue s) (item_for walk i s)
      (λ found. and_next found (give (bool (not which))) (λ v. truth v >>= λ b. if beq b which then give (bool which) else decided which n walk (suc i)))
      (λ found. and_next found (give (bool (not which))) (λ v. truth v >>= λ b. if beq b which then give (bool which) else decided which m walk (suc i)))
      (safe_fine MaybeValue (item_for walk i) s (item_for_s walk i is) o)
      (λ found t p. let less = p.0.left in
      next_same n m i (decided_same n m) found t (walk_later (length s.nodes) (length t.nodes) (more_nodes s t p.0) walk is) p.0.holds (omega (arith, less, few)) (omega (arith, less, few')))

module _ {A : Type 0} (Q : ℕ → A → Type 0) (later : (k l : ℕ) → k ≤ l → (a : A) → Q k a → Q l a) (f : A → Value → M A) (h : (k : ℕ) (a : A) (v : Value) → Q k a → IsValue k v → Safe k Q (f a v)) (walk : Walk) where
  abbrev AgreeFolding : ℕ → ℕ → Type 0
  AgreeFolding n m = (i : ℕ) (a : A) (s : Moment) → Q (length s.nodes) a → IsWalk (length s.nodes) walk → Holds s → s.left < n → s.left < m → folded f n walk i a s ≡ folded f m walk i a s

  fold_next : (n m i : ℕ) → AgreeFolding n m → (a : A) (o : Option Value) (s : Moment) → Q (length s.nodes) a → MaybeValue (length s.nodes) o → IsWalk (length s.nodes) walk → Holds s → s.left < suc n → s.left < suc m →
      and_next o (give a) (λ v. f a v >>= λ b. folded f n walk (suc i) b) s ≡ and_next o (give a) (λ v. f a v >>= λ b. folded f m walk (suc i) b) s
  fold_next n m i rest a (Some v) s q w is o few few' =
      then_same (Stepped s) (tick s) (λ _. f a v >>= λ b. folded f n walk (suc i) b) (λ _. f a v >>= λ b. folded f m walk (suc i) b) (tick_fine s o)
      (λ x t p. let less = p.1 in let le = more_nodes s t p.0 in
      then_same (Later Q t) (f a v t) (λ b. folded f n walk (suc i) b) (λ b. folded f m walk (suc i) b)
      (safe_fine Q (f a v) t (h (length t.nodes) a v (later (length s.nodes) (length t.nodes) le a q) (value_later (length s.nodes) (length t.nodes) le v w)) p.0.holds)
      (λ b u r. let less' = r.0.left in
      rest (suc i) b u r.1 (walk_later (length s.nodes) (length u.nodes) (more_nodes s u (leads_later s t u p.0 r.0)) walk is) r.0.holds (omega (arith, less, less', few)) (omega (arith, less, less', few'))))
  fold_next n m i rest a None s q w is o few few' = refl

  pub folded_same : (n m : ℕ) → AgreeFolding n m
  folded_same zero m i a s q is o few few' = absurd (omega (arith, few))
  folded_same (suc n) zero i a s q is o few few' = absurd (omega (arith, few'))
  folded_same (suc n) (suc m) i a s q is o few few' =
      then_same (Later MaybeValue s) (item_for walk i s)
      (λ found. and_next found (give a) (λ v. f a v >>= λ b. folded f n walk (suc i) b))
      (λ found. and_next found (give a) (λ v. f a v >>= λ b. folded f m walk (suc i) b))
      (safe_fine MaybeValue (item_for walk i) s (item_for_s walk i is) o)
      (λ found t p. let less = p.0.left in let le = more_nodes s t p.0 in
      fold_next n m i (folded_same n m) a found t (later (length s.nodes) (length t.nodes) le a q) p.1 (walk_later (length s.nodes) (length t.nodes) le walk is) p.0.holds (omega (arith, less, few)) (omega (arith, less, few')))

-- ---- what the meaning hands in

pub tests_turn_on : (test : M Value) (body : M Flow) (n : ℕ) (s : Moment) → LeadsOn test → LeadsOn body → Outlasts n s → repeat test body s ≡ turns n test body s
tests_turn_on test body n s h g o = let few = o.1 in turns_same test body h g (suc s.left) n s o.0 (omega arith) few

pub walks_turn_on : (walk : Walk) (turn : Value → M Flow) (n : ℕ) (s : Moment) → LeadsWith turn → IsWalk (length s.nodes) walk → Outlasts n s → walk_along walk turn s ≡ walk_on n walk 0 turn s
walks_turn_on walk turn n s h is o = let few = o.1 in walks_same walk turn h (suc s.left) n 0 s is o.0 (omega arith) few

safe_leads : {A : Type 0} (Q : ℕ → A → Type 0) (m : M A) → ((k : ℕ) → Safe k Q m) → LeadsOn m
safe_leads Q m h s o = ends_lead s Q ((h (length s.nodes)).go (length s.nodes) (omega arith) s o)

pub whiles_turn_on : (d n : ℕ) (e : Expression) (body : Statements) (s : Moment) → StatementSound (t.while e body) → Outlasts n s → act (call d) (t.while e body) s ≡ while_within n (call d) e body s
whiles_turn_on d n e body s h o =
    tests_turn_on (expr (call d) e) (in_block body (acts (call d) body)) n s
    (safe_leads IsValue (expr (call d) e) (λ k. expr_s (call d) (call_s d) k e h.0))
    (safe_leads IsFlow (in_block body (acts (call d) body)) (λ k. in_block_s body (acts_s (call d) (call_s d) k body h.1))) o

pub fors_turn_on : (d n : ℕ) (e walked : Expression) (body : Statements) (s : Moment) → StatementSound (t.for e walked body) → Outlasts n s → act (call d) (t.for e walked body) s ≡ for_within n (call d) e walked body s
fors_turn_on d n e walked body s h o =
    let cs = one_calls (call d) (call_s d) in
    let found = bind_a (part_a 0 (call d) (call d) cs (length s.nodes) walked h.1 (expr_a 0 (call d) (call d) cs (length s.nodes) walked h.1)) (λ l le p q. walked_by_a 0 (call d) (call d) cs l p q) in
    let few = o.1 in
    then_same (Later IsWalk s) ((part (call d) walked (expr (call d) walked) >>= walked_by (call d)) s)
    (λ walk. walk_along walk (λ v. store (call d) e v >> in_block body (acts (call d) body)))
    (λ walk. walk_on n walk 0 (λ v. store (call d) e v >> in_block body (acts (call d) body)))
    (safe_fine IsWalk (part (call d) walked (expr (call d) walked) >>= walked_by (call d)) s found.safe o.0)
    (λ walk t p. let less = p.0.left in
    walks_turn_on walk (λ v. store (call d) e v >> in_block body (acts (call d) body)) n t
    (λ v u w r. ends_lead u IsFlow ((then_s (store_a 0 (call d) (call d) cs (length u.nodes) e v h.0 w).safe (in_block_s body (acts_s (call d) (call_s d) (length u.nodes) body h.2))).go (length u.nodes) (omega arith) u r))
    p.1 (p.0.holds, omega (arith, less, few)))

pub decisions_turn_on : (which : Bool) (n : ℕ) (v : Value) (s : Moment) → IsValue (length s.nodes) v → Outlasts n s → decide which v s ≡ decide_within n which v s
decisions_turn_on which n v s w o =
    let few = o.1 in
    then_same (Later IsWalk s) (walk_of v s) (λ walk. λ s. decided which (suc s.left) walk 0 s) (λ walk. decided which n walk 0)
    (safe_fine IsWalk (walk_of v) s (walk_of_s v w) o.0)
    (λ walk t p. let less = p.0.left in decided_same which walk (suc t.left) n 0 t p.1 p.0.holds (omega arith) (omega (arith, less, few)))

pub bests_turn_on : (comparison : Comparison) (n : ℕ) (walk : Walk) (s : Moment) → IsWalk (length s.nodes) walk → Outlasts n s → best_of comparison walk s ≡ best_within n comparison walk s
bests_turn_on comparison n walk s is o =
    let few = o.1 in
    ap (λ e. and_then e or_empty_argument) (folded_same MaybeValue optional_later (better comparison) (better_s comparison) walk (suc s.left) n 0 None s tt is o.0 (omega arith) few)

pub sums_turn_on : (print : Call) (n : ℕ) (v : Value) (s : Moment) → IsValue (length s.nodes) v → Outlasts n s → builtin_call print builtins.sum (v ∷ []) s ≡ sum_within n v s
sums_turn_on print n v s w o =
    let few = o.1 in
    then_same (Later IsWalk s) (walk_of v s) (fold added (integer (pos 0))) (λ walk. folded added n walk 0 (integer (pos 0)))
    (safe_fine IsWalk (walk_of v) s (walk_of_s v w) o.0)
    (λ walk t p. let less = p.0.left in folded_same IsValue value_later added added_s walk (suc t.left) n 0 (integer (pos 0)) t refl p.1 p.0.holds (omega arith) (omega (arith, less, few)))

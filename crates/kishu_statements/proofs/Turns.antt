-- Turns of loops, one after the other.
use Rattle.std.proofs.Common.{◌≡◌, ◌∙◌, refl, ap, sym, subst, arith, ℕ, zero, suc, ◌<◌, Bool, true, false, Option, Some, None}
use Rattle.std.specs.Prelude.{if◌then◌else◌}
use Rattle.kishu_meaning.specs.values.Values.{Value}
use Rattle.kishu_meaning.specs.moments.Moment.{Moment, Ends, fine, M, and_then, give, tick, ◌>>=◌, ◌>>◌}
use Rattle.kishu_meaning.specs.calls.Operators.{truth}
use Rattle.kishu_meaning.specs.items.Walks.{Walk, item_for}
use Rattle.kishu_meaning.specs.cells.Ways.{Flow, onward, turns, turn_on, walk_on, with_item}
use Rattle.kishu_machine.specs.declared.fault.Fault.{Fault}
use Rattle.kishu_machine.specs.Machine.{Fails}
use Rattle.kishu_machine.specs.Composing.{fails_on}

-- ---- `while`

module _ (n : ℕ) (test : M Value) (body : M Flow) where
  pub test_fails : (f : Fault) (s t : Moment) → Fails f t (test s) → Fails f t (turns (suc n) test body s)
  test_fails f s t h = fails_on (λ v. truth v >>= λ b. if b then (tick >> body >>= λ f. turn_on f (turns n test body)) else give onward) f t (test s) h

  module _ (s s1 : Moment) (v : Value) (h : test s ≡ fine v s1) where
    tested : (b : Bool) → truth v s1 ≡ fine b s1 → turns (suc n) test body s ≡ (if b then (tick >> body >>= λ f. turn_on f (turns n test body)) else give onward) s1
    tested b k =
        ap (λ (x : Ends Value). and_then x (λ v. truth v >>= λ b. if b then (tick >> body >>= λ f. turn_on f (turns n test body)) else give onward)) h
        ∙ ap (λ (x : Ends Bool). and_then x (λ b. if b then (tick >> body >>= λ f. turn_on f (turns n test body)) else give onward)) k

    pub no_turn : truth v s1 ≡ fine false s1 → turns (suc n) test body s ≡ fine onward s1
    no_turn k = tested false k

    module _ (k : truth v s1 ≡ fine true s1) where
      pub tick_fails : (f : Fault) (t : Moment) → Fails f t (tick s1) → Fails f t (turns (suc n) test body s)
      tick_fails f t g = subst (λ (x : Ends Flow). Fails f t x) (sym (tested true k)) (fails_on (λ f. turn_on f (turns n test body)) f t (and_then (tick s1) (λ _. body)) (fails_on (λ (_ : Unit {0}). body) f t (tick s1) g))

      pub turn : (s2 : Moment) → tick s1 ≡ fine tt s2 → turns (suc n) test body s ≡ and_then (body s2) (λ f. turn_on f (turns n test body))
      turn s2 g = tested true k ∙ ap (λ (x : Ends (Unit {0})). and_then (and_then x (λ _. body)) (λ f. turn_on f (turns n test body))) g

      pub body_fails : (s2 : Moment) → tick s1 ≡ fine tt s2 → (f : Fault) (t : Moment) → Fails f t (body s2) → Fails f t (turns (suc n) test body s)
      body_fails s2 g f t j = subst (λ (x : Ends Flow). Fails f t x) (sym (turn s2 g)) (fails_on (λ f. turn_on f (turns n test body)) f t (body s2) j)

      pub turned : (s2 s3 : Moment) (f : Flow) → tick s1 ≡ fine tt s2 → body s2 ≡ fine f s3 → turns (suc n) test body s ≡ turn_on f (turns n test body) s3
      turned s2 s3 f g j = turn s2 g ∙ ap (λ (x : Ends Flow). and_then x (λ f. turn_on f (turns n test body))) j

-- ---- `for`

module _ (n : ℕ) (walk : Walk) (k : ℕ) (put : Value → M (Unit {0})) (body : M Flow) where
  abbrev after : Flow → M Flow
  after f = turn_on f (walk_on n walk (suc k) (λ v. put v >> body))

  pub item_fails : (f : Fault) (s t : Moment) → Fails f t (item_for walk k s) → Fails f t (walk_on (suc n) walk k (λ v. put v >> body) s)
  item_fails f s t h = fails_on (λ found. with_item found (λ v. put v >> body) >>= after) f t (item_for walk k s) h

  pub walk_ends : (s s1 : Moment) → item_for walk k s ≡ fine None s1 → walk_on (suc n) walk k (λ v. put v >> body) s ≡ fine onward s1
  walk_ends s s1 h = ap (λ (x : Ends (Option Value)). and_then x (λ found. with_item found (λ v. put v >> body) >>= after)) h

  module _ (s s1 : Moment) (v : Value) (h : item_for walk k s ≡ fine (Some v) s1) where
    with_this : walk_on (suc n) walk k (λ v. put v >> body) s ≡ and_then (and_then (tick s1) (λ _. put v >> body)) after
    with_this = ap (λ (x : Ends (Option Value)). and_then x (λ found. with_item found (λ v. put v >> body) >>= after)) h

    pub step_fails : (f : Fault) (t : Moment) → Fails f t (tick s1) → Fails f t (walk_on (suc n) walk k (λ v. put v >> body) s)
    step_fails f t g = subst (λ (x : Ends Flow). Fails f t x) (sym with_this) (fails_on after f t (and_then (tick s1) (λ _. put v >> body)) (fails_on (λ (_ : Unit {0}). put v >> body) f t (tick s1) g))

    module _ (s2 : Moment) (g : tick s1 ≡ fine tt s2) where
      stepped : walk_on (suc n) walk k (λ v. put v >> body) s ≡ and_then (and_then (put v s2) (λ _. body)) after
      stepped = with_this ∙ ap (λ (x : Ends (Unit {0})). and_then (and_then x (λ _. put v >> body)) after) g

      pub put_fails : (f : Fault) (t : Moment) → Fails f t (put v s2) → Fails f t (walk_on (suc n) walk k (λ v. put v >> body) s)
      put_fails f t j = subst (λ (x : Ends Flow). Fails f t x) (sym stepped) (fails_on after f t (and_then (put v s2) (λ _. body)) (fails_on (λ (_ : Unit {0}). body) f t (put v s2) j))

      module _ (s3 : Moment) (j : put v s2 ≡ fine tt s3) where
        put_then : walk_on (suc n) walk k (λ v. put v >> body) s ≡ and_then (body s3) after
        put_then = stepped ∙ ap (λ (x : Ends (Unit {0})). and_then (and_then x (λ _. body)) after) j

        pub walk_fails : (f : Fault) (t : Moment) → Fails f t (body s3) → Fails f t (walk_on (suc n) walk k (λ v. put v >> body) s)
        walk_fails f t i = subst (λ (x : Ends Flow). Fails f t x) (sym put_then) (fails_on after f t (body s3) i)

        pub walked : (s4 : Moment) (f : Flow) → body s3 ≡ fine f s4 → walk_on (suc n) walk k (λ v. put v >> body) s ≡ turn_on f (walk_on n walk (suc k) (λ v. put v >> body)) s4
        walked s4 f i = put_then ∙ ap (λ (x : Ends Flow). and_then x after) i

-- ---- what is told at the beginning of a turn

pub while_told : (n m : ℕ) (test : M Value) (body : M Flow) (s : Moment) (e : Ends Flow) → m < n → e ≡ turns n test body s → (k : ℕ) × (n ≡ suc k) × (e ≡ turns (suc k) test body s)
while_told zero m test body s e h told = absurd (omega (arith, h))
while_told (suc n) m test body s e h told = (n, refl, told)

pub for_told : (n m : ℕ) (walk : Walk) (place : ℕ) (turn : Value → M Flow) (s : Moment) (e : Ends Flow) → m < n → e ≡ walk_on n walk place turn s → (k : ℕ) × (n ≡ suc k) × (e ≡ walk_on (suc k) walk place turn s)
for_told zero m walk place turn s e h told = absurd (omega (arith, h))
for_told (suc n) m walk place turn s e h told = (n, refl, told)

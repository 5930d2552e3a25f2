-- What reads nodes and takes steps, and changes nothing else: comparisons and the texts of values. It ends with an answer, at nodes that lie too deep, or at a spent budget.
use Rattle.std.specs.Prelude.{ℕ, ◌-◌, nat_le, if◌then◌else◌}
use Rattle.kishu_meaning.specs.moments.Moment as moment
use Rattle.kishu_meaning.specs.moments.Moment.{Moment, M, recursion_error}

-- how it ends, with the steps that are left then
pub data Counted (A : Type 0) : Type 0 where
  answer : A → (left : ℕ) → Counted A
  too_deep : (left : ℕ) → Counted A
  spent : (left : ℕ) → Counted A

-- from the steps that are left
abbrev pub Count : Type 0 → Type 0
Count A = ℕ → Counted A

abbrev pub and_then : {A B : Type 0} → Counted A → (A → Count B) → Counted B
and_then (answer a n) f = f a n
and_then (too_deep n) f = too_deep n
and_then (spent n) f = spent n

infixl 10 ◌>>=◌
abbrev pub ◌>>=◌ : {A B : Type 0} → Count A → (A → Count B) → Count B
m >>= f = λ n. and_then (m n) f

infixl 10 ◌>>◌
abbrev pub ◌>>◌ : {A B : Type 0} → Count A → Count B → Count B
m >> k = m >>= (λ _. k)

abbrev pub give : {A : Type 0} → A → Count A
give a n = answer a n

-- so many steps
abbrev pub spend : ℕ → Count (Unit {0})
spend k n = if nat_le k n then answer tt (n - k) else spent 0

abbrev pub stop_deep : {A : Type 0} → Count A
stop_deep n = too_deep n

-- ---- in a cell's run

abbrev pub ended_in : {A : Type 0} → Moment → Counted A → moment.Ends A
ended_in s (answer a n) = moment.fine a (record s { left = n })
ended_in s (too_deep n) = recursion_error (record s { left = n })
ended_in s (spent n) = moment.stopped (record s { left = n })

abbrev pub counted : {A : Type 0} → Count A → M A
counted m = λ s. ended_in s (m s.left)

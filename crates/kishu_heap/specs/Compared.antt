-- How the calls that compare answer, and what they count.
use Rattle.std.specs.Prelude.{◌≡◌, ℕ, Bool, Option, Some, None, Result, Ok, Err}
use Rattle.kishu_meaning.specs.moments.Counting.{Counted, answer, too_deep, spent}
use Rattle.kishu_heap.specs.declared.fault.CompareFault.{CompareFault}
use Rattle.kishu_heap.specs.declared.fault.CompareFault.TheVariants as faults

-- A call returned this, with so many steps left, as the definition says. It knows no order.
abbrev pub Gives : {A : Type 0} → Result A CompareFault → ℕ → Counted A → Type 0
Gives (Ok a) n e = e ≡ answer a n
Gives (Err faults.Unordered) n e = ⊥
Gives (Err faults.Depth) n e = e ≡ too_deep n
Gives (Err faults.Spent) n e = e ≡ spent n

-- The same where there may be no order.
abbrev pub Orders : Result Bool CompareFault → ℕ → Counted (Option Bool) → Type 0
Orders (Ok a) n e = e ≡ answer (Some a) n
Orders (Err faults.Unordered) n e = e ≡ answer None n
Orders (Err faults.Depth) n e = e ≡ too_deep n
Orders (Err faults.Spent) n e = e ≡ spent n

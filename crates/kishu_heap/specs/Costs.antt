-- What a call costs: steps of the budget, ticks of the counter, nodes of the heap.
use Rattle.std.specs.Prelude.{◌≡◌, ℕ, ◌+◌, ◌*◌, ◌≤◌, List, length}
use Rattle.kishu_meaning.specs.declared.budget.Budget.{Budget}
use Rattle.kishu_meaning.specs.values.Values.{Node}

-- ---- ticks

-- The counter rose, by at most so much.
abbrev pub Reads : ℕ → ℕ → ℕ → Type 0
Reads more a b = (a ≤ b) × (b ≤ a + more)

-- Of the steps that were left some were taken, each counted: the counter rose by at least one for each of them, and by at most `rate` for each and `more` besides.
abbrev pub TakesAt : ℕ → ℕ → ℕ → ℕ → ℕ → ℕ → Type 0
TakesAt rate more old a new b = (new ≤ old) × (old + a ≤ new + b) × (rate * new + b ≤ rate * old + a + more)

-- in a comparison
abbrev pub Compares : ℕ → ℕ → ℕ → ℕ → ℕ → Type 0
Compares = TakesAt 8

-- in what is done with values
abbrev pub Takes : ℕ → ℕ → ℕ → ℕ → ℕ → Type 0
Takes = TakesAt 24

-- The same of a budget. Its depth stayed.
abbrev pub Spends : ℕ → Budget → ℕ → Budget → ℕ → Type 0
Spends more old a new b = (new.depth ≡ old.depth) × (new.left ≤ old.left) × (old.left + a ≤ new.left + b) × (24 * new.left + b ≤ 24 * old.left + a + more)

-- ---- nodes

-- The heap grew, by at most so many nodes.
abbrev pub Grows : ℕ → List Node → List Node → Type 0
Grows more old new = (length old ≤ length new) × (length new ≤ length old + more)

-- It grew by at most so many nodes more than steps were taken.
abbrev pub GrowsPaid : ℕ → List Node → Budget → List Node → Budget → Type 0
GrowsPaid more old b new c = (length old ≤ length new) × (length new + c.left ≤ length old + b.left + more)

-- What holds of lists.
use Rattle.std.specs.Prelude.{◌≡◌, ℕ, ◌⊎◌, ⊤, List, [], ◌∷◌}
use Rattle.std.specs.List.Sorted.{IsStrictlySortedBy}
use Rattle.std.specs.Ordering.{nat_cmp}
use Rattle.std.specs.Cmp.Lexicographic.{slice_cmp}

-- It is the first of the list, or is in the rest.
abbrev pub In : {A : Type 0} → A → List A → Type 0
In a [] = ⊥
In a (b ∷ bs) = (a ≡ b) ⊎ In a bs

-- No two are equal.
abbrev pub AllDiffer : {A : Type 0} → List A → Type 0
AllDiffer [] = ⊤
AllDiffer (a ∷ as') = (In a as' → ⊥) × AllDiffer as'

-- Names stand in byte order, each once.
abbrev pub Rise : List (List ℕ) → Type 0
Rise = IsStrictlySortedBy (slice_cmp nat_cmp)

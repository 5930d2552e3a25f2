-- When the nodes of a state stand in the order of first meeting, told by reading it from the front.
use Rattle.std.specs.Prelude.{◌≡◌, ℕ, suc, ◌==◌, nat_lt, if◌then◌else◌, List, [], ◌∷◌, map, length, Option, Some, None, option_and_then}
use Rattle.kishu_meaning.specs.values.Values.{Value, Node, State}
use Rattle.kishu_objects.specs.Shape.{children}
use Rattle.kishu_objects.specs.Picture.{numbers}

-- How many nodes were met, where n were met before, and each number is at most the number of those met so far.
abbrev pub counted : ℕ → List ℕ → Option ℕ
counted n [] = Some n
counted n (i ∷ is) = if nat_lt i n then counted n is else if i == n then counted (suc n) is else None

-- the same over rows, of which row r begins only where node r was met
abbrev pub rows_counted : (r n : ℕ) → List Node → Option ℕ
rows_counted r n [] = Some n
rows_counted r n (m ∷ ms) = if nat_lt r n then option_and_then (λ k. rows_counted (suc r) k ms) (counted n (numbers (children m))) else None

-- Reading the values of the names and then row after row, one meets all the rows, each before it begins.
abbrev pub IsInOrder : State → Type 0
IsInOrder s = option_and_then (λ n. rows_counted 0 n s.nodes) (counted 0 (numbers (map (λ (b : List ℕ × Value). b.1) s.names))) ≡ Some (length s.nodes)

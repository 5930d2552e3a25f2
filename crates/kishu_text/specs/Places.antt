-- The first place at which a text has a part.
use Rattle.std.specs.Prelude.{◌≡◌, ◌≢◌, ◌≤◌, ℕ, List, ◌++◌, length, Option, MatchOption}

-- o is that place, or None where the text doesn't have the part
abbrev pub IsFirstPlace : List ℕ → List ℕ → Option ℕ → Type 0
IsFirstPlace part cs o = MatchOption o
    ((front back : List ℕ) → cs ≢ front ++ (part ++ back))
    (λ i. ((front : List ℕ) × (back : List ℕ) × (length front ≡ i) × (cs ≡ front ++ (part ++ back))) × ((front back : List ℕ) → cs ≡ front ++ (part ++ back) → i ≤ length front))

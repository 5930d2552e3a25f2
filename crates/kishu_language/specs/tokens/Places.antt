-- The places of tokens lie in order, within the text.
use Rattle.std.specs.Prelude.{ℕ, ◌≤◌, List, [], ◌∷◌}
use Rattle.kishu_language.specs.tokens.Layout.{Token}

-- Each token begins where the one before it ended or later, and ends where it begins or later; the first begins at `low` or later, and the last ends at `high` or earlier.
abbrev pub InOrder : ℕ → List Token → ℕ → Type 0
InOrder low [] high = low ≤ high
InOrder low (t ∷ ts) high = (low ≤ t.start) × ((t.start ≤ t.end) × InOrder t.end ts high)

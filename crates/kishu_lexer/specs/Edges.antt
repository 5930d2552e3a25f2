-- The places of a text's tokens, at the edges of its characters.
use Rattle.std.specs.Prelude.{ℕ, List, [], ◌∷◌}
use Rattle.std.specs.Str.{IsCharBoundary}
use Rattle.kishu_language.specs.declared.token.Token as rust

-- Each token begins and ends at the edge of a character of the text, which is given by its bytes.
abbrev pub Placed : List ℕ → List rust.Token → Type 0
Placed source [] = Unit {0}
Placed source (t ∷ ts) = IsCharBoundary source t.start × (IsCharBoundary source t.end × Placed source ts)

-- Lines that stand one behind another in one text.
use Rattle.std.specs.Prelude.{◌≡◌, ◌+◌, ◌<◌, ◌≤◌, ℕ, List, [], ◌∷◌, length, slice_range}
use Rattle.std.specs.Str.{IsCharBoundary}
use Rattle.std.specs.String.{string_bytes, string_len, string_capacity}
use Rattle.std.specs.Vec.{vec_len, vec_capacity}
use Rattle.kishu_graph.specs.declared.buffer.LineBuffer as rust

-- the lines from a place on that end at these places
abbrev pub lines_from : ℕ → List ℕ → List ℕ → List (List ℕ)
lines_from at [] text = []
lines_from at (e ∷ ends) text = slice_range text at e ∷ lines_from e ends text

-- Each ends where a character does, and the last where the text does.
abbrev pub AreCut : ℕ → List ℕ → List ℕ → Type 0
AreCut at [] text = at ≡ length text
AreCut at (e ∷ ends) text = (at ≤ e) × (IsCharBoundary text e × AreCut e ends text)

-- ---- the values of the program

abbrev pub lines_in : rust.LineBuffer → List (List ℕ)
lines_in b = lines_from 0 b.ends.items (string_bytes b.text)

abbrev pub IsCut : rust.LineBuffer → Type 0
IsCut b = AreCut 0 b.ends.items (string_bytes b.text)

-- there is room for a line of so many bytes
abbrev pub HasRoom : ℕ → rust.LineBuffer → Type 0
HasRoom n b = (string_len b.text + n ≤ string_capacity b.text) × (vec_len b.ends < vec_capacity b.ends)

-- Which tokens a text has, by the rules alone: its pieces by `PieceRules`, its lines by `LineRules`. Nothing is read. `TokenLaws` has the law that `Layout` gives the same.
use Rattle.std.specs.Prelude.{◌≡◌, ◌⊎◌, ℕ, pos, ◌+◌, Bool, true, false, List, [], ◌∷◌, ◌++◌, Some}
use Rattle.std.specs.Str.{encode_utf8_all}
use Rattle.kishu_language.specs.tokens.Names.{is_name}
use Rattle.kishu_language.specs.tokens.Marks.{mark_among, reserved_mark}
use Rattle.kishu_language.specs.tokens.Lexemes.{Lexeme, feeds}
use Rattle.kishu_language.specs.tokens.Layout.{Kind, name, integer, quoted, newline, indent, dedent, mark, Token, Item, end_of, width}
use Rattle.kishu_language.specs.rules.LineRules.{Lines}
use Rattle.kishu_language.specs.rules.TextRules.{IsText}
use Rattle.kishu_language.specs.rules.PieceRules.{Piece, Number, operators}

-- the pieces of what begins on this line at this place
pub data Pieces : ℕ → ℕ → List ℕ → List Item → Type 0 where
  none : {line start : ℕ} → Pieces line start [] []
  more : {line start : ℕ} {piece rest : List ℕ} {l : Lexeme} {is : List Item} → Piece piece rest l → Pieces (line + feeds piece) (start + width piece) rest is
      → Pieces line start (piece ++ rest) (record { what = l; line = line; start = start; end = start + width piece } ∷ is)

-- a text with plain line ends has these tokens
abbrev pub ByRules : List ℕ → List Token → Type 0
ByRules cs ts = (is : List Item) × (Pieces 1 0 cs is × Lines (end_of 1 0 cs) [] is ts)

-- ---- token by token

-- what a token of this kind has in the text, where `rest` follows it
abbrev pub Stands : List ℕ → List ℕ → Kind → Type 0
Stands piece rest (name w) = (w ≡ piece) × (is_name piece ≡ true)
Stands piece rest (integer z) = (n : ℕ) × ((z ≡ pos n) × Number piece n)
Stands piece rest (quoted bytes) = (meaning : List ℕ) × ((bytes ≡ encode_utf8_all meaning) × IsText piece rest meaning)
Stands piece rest (mark k) = (reserved_mark piece ≡ Some k) ⊎ (mark_among operators piece ≡ Some k)
Stands piece rest newline = Unit {0}
Stands piece rest indent = Unit {0}
Stands piece rest dedent = Unit {0}

-- a name, a number, a text, a mark or a reserved word
abbrev pub is_written : Kind → Bool
is_written (name w) = true
is_written (integer z) = true
is_written (quoted bytes) = true
is_written (mark k) = true
is_written newline = false
is_written indent = false
is_written dedent = false

-- The token's places are those of a piece of the text, and the piece is what the rules say of its kind and value.
pub record Written (source : List ℕ) (t : Token) : Type 0 where
  pub front : List ℕ
  pub piece : List ℕ
  pub rest : List ℕ
  pub whole : source ≡ front ++ (piece ++ rest)
  pub start : t.start ≡ width front
  pub end : t.end ≡ width front + width piece
  pub stands : Stands piece rest t.kind

abbrev pub AllWritten : List ℕ → List Token → Type 0
AllWritten source [] = Unit {0}
AllWritten source (t ∷ ts) = (is_written t.kind ≡ true → Written source t) × AllWritten source ts

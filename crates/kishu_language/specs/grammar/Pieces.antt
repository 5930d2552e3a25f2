-- The pieces of a text at its empty indentation: where a fault of the grammar stands.
use Rattle.std.specs.Prelude.{◌≢◌, ℕ, suc, ◌-◌, Bool, true, false, ◌&&◌, ◌==◌, if◌then◌else◌, List, [], ◌∷◌}
use Rattle.kishu_language.specs.declared.token.Mark.{Mark}
use Rattle.kishu_language.specs.declared.token.Mark.TheVariants as m
use Rattle.kishu_language.specs.tokens.Layout.{Kind, name, integer, quoted, newline, indent, dedent, mark, Token}
use Rattle.kishu_language.specs.trees.Tree.{Text, Statement}
use Rattle.kishu_language.specs.grammar.Language.{Tokens}
use Rattle.kishu_language.specs.grammar.Grammar.{deepest}
use Rattle.kishu_language.specs.grammar.Refusals.{top}
use Rattle.kishu_language.specs.grammar.Statements.{chunk}

-- words that go on with a statement
abbrev pub goes_on : Mark → Bool
goes_on m.Elif = true
goes_on m.Else = true
goes_on m.Except = true
goes_on m.Finally = true
goes_on _ = false

abbrev pub starts_line : Kind → Bool
starts_line indent = false
starts_line (mark k) = if goes_on k then false else true
starts_line newline = true
starts_line dedent = true
starts_line (name x) = true
starts_line (integer z) = true
starts_line (quoted x) = true

-- Behind a line's end at the empty indentation: the first token of a line there is none of those words, or there is none.
abbrev pub starts_piece : Tokens → Bool
starts_piece [] = true
starts_piece (t ∷ ts) = starts_line t.kind

abbrev pub after_line : ℕ → Tokens → Tokens → Tokens
after_line blocks ts rest = if blocks == 0 && starts_piece ts then ts else rest

-- what follows the piece, where so many blocks are open and this token is the next
abbrev pub rest_after : Kind → ℕ → Tokens → (ℕ → Tokens) → Tokens
rest_after indent blocks ts rest = rest (suc blocks)
rest_after dedent blocks ts rest = after_line (blocks - 1) ts (rest (blocks - 1))
rest_after newline blocks ts rest = after_line blocks ts (rest blocks)
rest_after (mark k) blocks ts rest = rest blocks
rest_after (name x) blocks ts rest = rest blocks
rest_after (integer z) blocks ts rest = rest blocks
rest_after (quoted x) blocks ts rest = rest blocks

abbrev pub piece_rest : Tokens → ℕ → Tokens
piece_rest [] blocks = []
piece_rest (t ∷ ts) blocks = rest_after t.kind blocks ts (λ n. piece_rest ts n)

-- what follows the first piece
abbrev pub next_piece : Tokens → Tokens
next_piece ts = piece_rest ts 0

-- The first piece is a chunk.
abbrev pub IsPiece : Text → Tokens → Type 0
IsPiece source ts = (found : List Statement) × chunk source deepest top ts (next_piece ts) found

-- The first piece that is no chunk begins there.
pub data FirstBad (source : List ℕ) : List Token → List Token → Type 0 where
  here : {ts : List Token} → ts ≢ [] → (IsPiece source ts → ⊥) → FirstBad source ts ts
  later : {ts at : List Token} → IsPiece source ts → FirstBad source (next_piece ts) at → FirstBad source ts at

-- the line on which the first token stands
abbrev pub first_line : Tokens → ℕ
first_line [] = 0
first_line (t ∷ ts) = t.line

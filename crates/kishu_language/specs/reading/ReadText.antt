-- The tree of a text, or the line of its fault, read piece by piece.
use Rattle.std.specs.Prelude.{◌≡◌, ℕ, zero, suc, ◌==◌, if◌then◌else◌, List, [], ◌∷◌, ◌++◌, length, Option, Some, None, Result, Ok, Err}
use Rattle.std.specs.Str.{chars, encode_utf8_all}
use Rattle.kishu_language.specs.declared.profile.Profile.{Profile}
use Rattle.kishu_language.specs.tokens.PlainLines.{plain_lines}
use Rattle.kishu_language.specs.tokens.Tokens.{tokens_of_chars}
use Rattle.kishu_language.specs.tokens.Layout.{Token}
use Rattle.kishu_language.specs.trees.Tree.{Text, Statement, Definition}
use Rattle.kishu_language.specs.trees.Tree as t
use Rattle.kishu_language.specs.grammar.Language.{Tokens}
use Rattle.kishu_language.specs.grammar.Grammar.{deepest}
use Rattle.kishu_language.specs.grammar.Refusals.{top}
use Rattle.kishu_language.specs.grammar.Pieces.{next_piece}
use Rattle.kishu_language.specs.reading.Reader.{Outcome}
use Rattle.kishu_language.specs.reading.ReadStatements.{chunk}

-- The first piece, where it is a chunk and ends there.
abbrev pub where_ends : ℕ → Outcome (List Statement) → Option (List Statement)
where_ends left None = None
where_ends left (Some p) = if length p.1 == left then Some p.0 else None

unfoldable pub piece : Text → Tokens → Option (List Statement)
piece source ts = where_ends (length (next_piece ts)) (chunk source deepest top ts)

abbrev pub and_pieces : ℕ → Option (List Statement) → (List Statement → Result (List Statement) ℕ) → Result (List Statement) ℕ
and_pieces line None f = Err line
and_pieces line (Some found) f = f found

-- so many pieces at most, after what was found
abbrev pub pieces : Text → ℕ → List Statement → Tokens → Result (List Statement) ℕ
pieces source zero found ts = Ok found
pieces source (suc n) found [] = Ok found
pieces source (suc n) found (u ∷ ts) =
    and_pieces u.line (piece source (u ∷ ts)) (λ more. pieces source n (found ++ more) (next_piece (u ∷ ts)))

abbrev pub tree_in : Text → Result (List Token) ℕ → Result (List Statement) ℕ
tree_in source (Ok ts) = pieces source (length ts) [] ts
tree_in source (Err line) = Err line

unfoldable pub read_chars : Profile → List ℕ → Result (List Statement) ℕ
read_chars profile cs = tree_in (encode_utf8_all (plain_lines cs)) (tokens_of_chars profile cs)

-- The text reads as the code of this function, and as nothing else.
abbrev pub ReadsDef : Profile → Text → Definition → Type 0
ReadsDef profile code d = read_chars profile (chars code) ≡ Ok (t.define d.title d.parameters d.body code ∷ [])

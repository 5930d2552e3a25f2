-- The top-level pieces of a text, each with its line (Python Language Reference 3, "File input").
use Rattle.std.specs.Prelude.{◌≡◌, ◌≢◌, ℕ, zero, suc, List, [], ◌∷◌, ◌++◌, map, Option, Some, None, Result, Ok, Err}
use Rattle.kishu_language.specs.declared.profile.Profile.{Profile}
use Rattle.kishu_language.specs.tokens.Layout.{Token}
use Rattle.kishu_language.specs.tokens.Tokens.{tokens}
use Rattle.kishu_language.specs.trees.Tree.{Text, Statement, statement_of}
use Rattle.kishu_language.specs.grammar.Language.{Tokens}
use Rattle.kishu_language.specs.grammar.Grammar.{deepest}
use Rattle.kishu_language.specs.grammar.Refusals.{top}
use Rattle.kishu_language.specs.grammar.Statements.{chunk}
use Rattle.kishu_language.specs.grammar.Pieces.{next_piece, first_line}
use Rattle.kishu_language.specs.grammar.Parse.{plain_text}
use Rattle.kishu_language.specs.reading.ReadText.{piece}
use Rattle.kishu_parser.specs.declared.pieces.Piece as rust

-- the line on which a piece begins, and its statements
abbrev pub Lined : Type 0
Lined = ℕ × List Statement

abbrev pub piece_of : rust.Piece → Lined
piece_of p = (p.line, map statement_of p.statements.items)

-- All the pieces that these tokens are, in order.
pub data AllPieces (source : List ℕ) : List Token → List (ℕ × List Statement) → Type 0 where
  none : AllPieces source [] []
  then : {ts : List Token} {found : List Statement} {after : List (ℕ × List Statement)} → ts ≢ [] → chunk source deepest top ts (next_piece ts) found → AllPieces source (next_piece ts) after
      → AllPieces source ts ((first_line ts, found) ∷ after)

-- The text has these pieces.
abbrev pub HasPieces : Profile → Text → List Lined → Type 0
HasPieces profile text all = (ts : Tokens) × (tokens profile text ≡ Ok ts) × AllPieces (plain_text text) ts all

-- ---- as they are read

abbrev pub and_piece : ℕ → Option (List Statement) → (List Statement → Result (List Lined) ℕ) → Result (List Lined) ℕ
and_piece line None f = Err line
and_piece line (Some found) f = f found

-- so many pieces at most, after those that were found
abbrev pub lined : Text → ℕ → List Lined → Tokens → Result (List Lined) ℕ
lined source zero found ts = Ok found
lined source (suc n) found [] = Ok found
lined source (suc n) found (u ∷ ts) = and_piece u.line (piece source (u ∷ ts)) (λ more. lined source n (found ++ (u.line, more) ∷ []) (next_piece (u ∷ ts)))

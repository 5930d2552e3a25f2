-- Which tree a text has, and on which line it has a fault (Python Language Reference 3, "Full Grammar specification").
use Rattle.std.specs.Prelude.{◌≡◌, ◌⊎◌, ℕ, List, [], ◌∷◌, Ok, Err}
use Rattle.std.specs.Str.{chars, encode_utf8_all}
use Rattle.kishu_language.specs.declared.profile.Profile.{Profile}
use Rattle.kishu_language.specs.tokens.PlainLines.{plain_lines}
use Rattle.kishu_language.specs.tokens.Tokens.{tokens}
use Rattle.kishu_language.specs.trees.Tree.{Text, Statement, Definition}
use Rattle.kishu_language.specs.trees.Tree as t
use Rattle.kishu_language.specs.grammar.Language.{Tokens}
use Rattle.kishu_language.specs.grammar.Statements.{program}
use Rattle.kishu_language.specs.grammar.Pieces.{FirstBad, first_line}

-- the text with plain line ends, in which tokens have their places
abbrev pub plain_text : Text → Text
plain_text text = encode_utf8_all (plain_lines (chars text))

-- The text has this tree.
abbrev pub Parse : Profile → Text → List Statement → Type 0
Parse profile text tree = (ts : Tokens) × (tokens profile text ≡ Ok ts) × program (plain_text text) ts [] tree

-- The text has no tree, and its fault is on this line.
abbrev pub Line : Profile → Text → ℕ → Type 0
Line profile text line =
    (tokens profile text ≡ Err line)
    ⊎ ((ts : Tokens) × (at : Tokens) × (tokens profile text ≡ Ok ts) × FirstBad (plain_text text) ts at × (line ≡ first_line at))

-- The text is the code of this function and nothing else.
abbrev pub ParseDef : Profile → Text → Definition → Type 0
ParseDef profile text d = Parse profile text (t.define d.title d.parameters d.body text ∷ [])

-- The text is no function's code, and its fault is on this line: its own where it has no tree, and else the first.
abbrev pub LineDef : Profile → Text → ℕ → Type 0
LineDef profile text line =
    Line profile text line
    ⊎ ((tree : List Statement) × Parse profile text tree × ((d : Definition) → ParseDef profile text d → ⊥) × (line ≡ 1))

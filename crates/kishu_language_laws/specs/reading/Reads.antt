-- What the reading by which a cell's run gets its tree says of a text.
use Rattle.std.specs.Prelude.{◌≡◌, ℕ, List, Ok, Err}
use Rattle.std.specs.Str.{chars}
use Rattle.kishu_language.specs.declared.profile.Profile.{Profile}
use Rattle.kishu_language.specs.trees.Tree.{Text, Statement}
use Rattle.kishu_language.specs.grammar.Parse.{Parse, Line}
use Rattle.kishu_language.specs.reading.ReadText.{read_chars}

-- It gives this tree.
abbrev pub Reads : Profile → Text → List Statement → Type 0
Reads profile text tree = read_chars profile (chars text) ≡ Ok tree

-- It gives a fault on this line.
abbrev pub ReadsFault : Profile → Text → ℕ → Type 0
ReadsFault profile text line = read_chars profile (chars text) ≡ Err line

-- The grammar relates the text to no tree, and its fault is on this line.
abbrev pub Refuses : Profile → Text → ℕ → Type 0
Refuses profile text line = ((tree : List Statement) → Parse profile text tree → ⊥) × Line profile text line

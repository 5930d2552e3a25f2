-- No tree of a text is higher than a number, however long the text is.
use Rattle.std.specs.Prelude.{◌≡◌, ◌≤◌, ℕ, suc, ◌*◌, List}
use Rattle.std.proofs.Common.{refl}
use Rattle.kishu_language.specs.declared.profile.Profile.{Profile}
use Rattle.kishu_language.specs.trees.Tree.{Text, Statement, statements}
use Rattle.kishu_language.specs.grammar.Language.{Tokens}
use Rattle.kishu_language.specs.grammar.Grammar.{deepest}
use Rattle.kishu_language.specs.grammar.Statements.{program}
use Rattle.kishu_language.specs.grammar.Parse.{plain_text, Parse}
use Rattle.kishu_language.specs.trees.Height.{of_statements}
use Rattle.kishu_language_laws.specs.trees.Gives.{given}
use Rattle.kishu_language_laws.specs.trees.HeightStatements as h

-- as high as the tree of a text can be
abbrev pub highest : ℕ
highest = suc (10 * deepest)

pub highest_is : highest ≡ 611
highest_is = refl

pub program_height : (source : Text) (ts us : Tokens) (ss : List Statement) → program source ts us ss → of_statements (statements ss) ≤ highest
program_height source ts us ss read = h.low_statements highest ss (given (h.programs source) ts us ss read)

pub tree_height : (profile : Profile) (text : Text) (tree : List Statement) → Parse profile text tree → of_statements (statements tree) ≤ highest
tree_height profile text tree read = program_height (plain_text text) read.0 _ tree read.2

-- When the code of each function in a tree reads as that function.
use Rattle.std.specs.Prelude.{◌≤◌, List, length}
use Rattle.kishu_language.specs.declared.profile.Profile.{Profile}
use Rattle.kishu_language.specs.trees.Tree.{Text, Statement, Definition, statements}
use Rattle.kishu_language.specs.trees.Tree as t
use Rattle.kishu_language.specs.trees.Inside.{InStatements}
use Rattle.kishu_language.specs.grammar.Parse.{ParseDef}

-- The code of each function in the tree, at any place in it, is by itself that function's code and nothing else; and it has at most as many bytes as the text.
abbrev pub CodesRead : Profile → Text → List Statement → Type 0
CodesRead profile text tree = (d : Definition) (code : Text) → InStatements (t.define d.title d.parameters d.body code) (statements tree) → ParseDef profile code d × (length code ≤ length text)

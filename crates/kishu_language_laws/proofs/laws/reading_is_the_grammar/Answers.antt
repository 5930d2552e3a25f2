use Rattle.kishu_language.specs.trees.Tree.{Definition}
use Rattle.kishu_language.specs.trees.Tree as t
use Rattle.std.specs.Prelude.{[], ◌∷◌}
use Rattle.kishu_language_laws.specs.reading.ExactText.{read_found, read_only, line_found, line_only, no_line}
use Rattle.kishu_language_laws.proofs.laws.reading_is_the_grammar.Goals as goal

pub returns-clause-tree : goal.returns-clause-tree
returns-clause-tree c = λ profile text tree. (read_found profile text tree, read_only profile text tree)

pub returns-clause-line : goal.returns-clause-line
returns-clause-line c = λ profile text line. (
  λ e. (let at = line_found profile text line e in (λ tree h. no_line profile text tree line h at, at)),
  λ h. line_only profile text line h.1,
)

pub returns-clause-function : goal.returns-clause-function
returns-clause-function c = λ profile code d. (
  read_found profile code (t.define d.title d.parameters d.body code ∷ []),
  read_only profile code (t.define d.title d.parameters d.body code ∷ []),
)

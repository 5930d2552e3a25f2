use Rattle.std.proofs.Common.{◌≡◌, refl, sym, ap, ◌∙◌, length, false-eqb}
use Rattle.kishu_language.specs.trees.Rows.{conditional_is}
use Rattle.kishu_parser.proofs.joins.conditional.Goals as goal

pub returns : goal.returns
returns c = rw (conditional_is, c.in_ok-new.ensures.ok, c.in_ok-new-2.ensures.ok, c.in_ok-new-3.ensures.ok) refl

use Rattle.std.proofs.Common.{◌≡◌, refl, sym, ap, ◌∙◌, length, false-eqb}
use Rattle.kishu_language.specs.trees.Rows.{not_is}
use Rattle.kishu_parser.proofs.joins.negated.Goals as goal

pub returns : goal.returns
returns c = rw (not_is, c.in_ok-new.ensures.ok) refl

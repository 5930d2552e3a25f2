use Rattle.std.proofs.Common.{◌∙◌, ap}
use Rattle.std.specs.Prelude.{not}
use Rattle.kishu_methods.proofs.PieceLengths.{empty_both}
use Rattle.kishu_methods.proofs.parts.is_nonempty.Goals as goal

pub returns-clause-value : goal.returns-clause-value
returns-clause-value c = ap not (c.is_empty.ensures ∙ empty_both c.args.text.now c.utf8.text)

use Rattle.std.proofs.Common.{◌∙◌, ap, sym}
use Rattle.kishu_model.specs.Request.{cell}
use Rattle.kishu_serve.proofs.Utf8.{cell-of, none-of}
use Rattle.kishu_serve.proofs.asking.Asked.of_input.Goals as goal

pub returns-in_ok-from_str-in-Ok-clause-asked : goal.returns-in_ok-from_str-in-Ok-clause-asked
returns-in_ok-from_str-in-Ok-clause-asked c = ap cell (c.in_ok-from_str-in-Ok.ensures.ok ∙ c.in-Ok.ensures.cases.0) ∙ sym (cell-of c.args.input.now c.in-Ok.ensures.cases.1)

pub returns-in-Err-clause-asked : goal.returns-in-Err-clause-asked
returns-in-Err-clause-asked c = sym (none-of c.args.input.now c.in-Err.ensures.cases.0)

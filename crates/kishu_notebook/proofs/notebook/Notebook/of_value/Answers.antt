use Rattle.std.proofs.Common.{Ok, sym, ap, ◌∙◌}
use Rattle.std.proofs.lemmas.Result.{IfOk-weaker}
use Rattle.serde_json.specs.View.{view}
use Rattle.kishu_notebook.specs.Values.{fault_of}
use Rattle.kishu_notebook.proofs.Verdicts.{verdict_ok, verdict_err, whole_numbers}
use Rattle.kishu_notebook.proofs.notebook.Notebook.of_value.Goals as goal

pub of_cells-requires : goal.of_cells-requires
of_cells-requires c = whole_numbers (view c.args.value) (rw c.in-Ok-None.field-0-is at c.in-Ok-None.ensures)

pub returns-in-Ok-None-clause-ok : goal.returns-in-Ok-None-clause-ok
returns-in-Ok-None-clause-ok c =
    let ok = verdict_ok (view c.args.value) (rw c.in-Ok-None.field-0-is at c.in-Ok-None.ensures) in
    IfOk-weaker c.of_cells.result _ _ (λ n told. ok ∙ ap Ok (sym told)) c.of_cells.ensures.ok

pub returns-in-Ok-Some-clause-err : goal.returns-in-Ok-Some-clause-err
returns-in-Ok-Some-clause-err c = verdict_err (view c.args.value) (fault_of c.in-Ok-Some.refusal) (rw c.in-Ok-Some.field-0-is at c.in-Ok-Some.ensures)

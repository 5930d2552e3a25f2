use Rattle.std.proofs.Common.{ap, ap₂, ◌∙◌}
use Rattle.serde_json.specs.Data.{Data}
use Rattle.serde_json.specs.View.{view}
use Rattle.serde_json.specs.Written.{has_float}
use Rattle.kishu_meaning.specs.values.Values.{report_of}
use Rattle.kishu_model.specs.notebooks.Setting.{with_run_at}
use Rattle.kishu_notebook.proofs.Kept.{outputs_no_float}
use Rattle.kishu_notebook.proofs.notebook.Notebook.set_ran.Goals as goal

pub set-requires-clause-outputs : goal.set-requires-clause-outputs
set-requires-clause-outputs c = ap has_float c.in_ok-outputs.ensures ∙ outputs_no_float c.args.count (report_of c.args.ran.now).outputs

pub set-requires-clause-count : goal.set-requires-clause-count
set-requires-clause-count c = ap has_float c.from.ensures

pub returns-clause-ok : goal.returns-clause-ok
returns-clause-ok c =
    c.set.ensures.set ∙ ap₂ (λ (o n : Data). with_run_at c.args.at o n (view c.args.self.now.value)) c.in_ok-outputs.ensures c.from.ensures

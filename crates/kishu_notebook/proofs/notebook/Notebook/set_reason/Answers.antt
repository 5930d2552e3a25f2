use Rattle.std.proofs.Common.{◌≡◌, List, ap, ap₂, ◌∙◌, rules}
use Rattle.serde_json.specs.Data.{Data, null}
use Rattle.serde_json.specs.View.{view}
use Rattle.serde_json.specs.Written.{has_float}
use Rattle.serde_json.specs.declared.value.Value.{the_lemmas}
use Rattle.serde_json.specs.declared.value.Value.TheVariants.{Null}
use Rattle.kishu_meaning.specs.values.Values.{report_of, Output}
use Rattle.kishu_model.specs.notebooks.Setting.{with_run_at, outputs_data}
use Rattle.kishu_notebook.proofs.Kept.{outputs_no_float}
use Rattle.kishu_notebook.proofs.notebook.Notebook.set_reason.Goals as goal

pub set-requires-clause-outputs : goal.set-requires-clause-outputs
set-requires-clause-outputs c = ap has_float c.in_ok-outputs.ensures ∙ outputs_no_float 0 (report_of c.in_ok-ran.ran).outputs

pub returns-clause-ok : goal.returns-clause-ok
returns-clause-ok c =
    let nothing : view Null ≡ null = search (rules, the_lemmas) in
    c.set.ensures.set
    ∙ ap₂ (λ (o k : Data). with_run_at c.args.at o k (view c.args.self.now.value)) (c.in_ok-outputs.ensures ∙ ap (λ (os : List Output). outputs_data 0 os) c.in_ok-ran.ensures) nothing

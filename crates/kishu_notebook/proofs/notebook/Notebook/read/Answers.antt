use Rattle.std.proofs.Common.{◌∙◌, ◌≤◌, sym, subst, IfErr, Result, arith}
use Rattle.std.proofs.lemmas.Bool.{false≢true}
use Rattle.std.proofs.lemmas.Result.{IfOk-weaker}
use Rattle.serde_json.specs.View.{view}
use Rattle.serde_json.specs.Data.{Data}
use Rattle.kishu_notebook.specs.Values.{Tells}
use Rattle.kishu_model.specs.requests.Cells.{texts_size, largest_texts}
use Rattle.kishu_model.specs.notebooks.Notebook.{Fault, sources_of}
use Rattle.kishu_notebook.proofs.Sizes.{cells_within, sources_within}
use Rattle.kishu_notebook.proofs.Verdicts.{opening_of_value, opening_of_none}
use Rattle.kishu_notebook.proofs.notebook.Notebook.read.Goals as goal

pub of_value-requires : goal.of_value-requires
of_value-requires c = omega (arith, c.requires, cells_within c.args.bytes.now (view c.in-Ok.value) c.in-Ok.ensures.ok.1)

pub returns-in-Ok-clause-ok : goal.returns-in-Ok-clause-ok
returns-in-Ok-clause-ok c =
    let is = opening_of_value c.args.bytes.now (view c.in-Ok.value) c.in-Ok.ensures.ok.0 c.in-Ok.ensures.ok.1 in
    IfOk-weaker c.of_value.result _ _ (λ n told. is ∙ told) c.of_value.ensures.ok

pub returns-in-Ok-clause-room : goal.returns-in-Ok-clause-room
returns-in-Ok-clause-room c =
    let d = view c.in-Ok.value in
    IfOk-weaker c.of_value.result _ _
    (λ n same short. subst (λ (e : Data). texts_size (sources_of e) ≤ largest_texts) (sym same) (sources_within c.args.bytes.now d c.in-Ok.ensures.ok.1 short)) c.of_value.ensures.same

pub returns-in-Ok-clause-err : goal.returns-in-Ok-clause-err
returns-in-Ok-clause-err c =
    let is = opening_of_value c.args.bytes.now (view c.in-Ok.value) c.in-Ok.ensures.ok.0 c.in-Ok.ensures.ok.1 in
    subst (λ (o : Result Data Fault). IfErr c.of_value.result (λ why. Tells why o)) (sym is) c.of_value.ensures.err

pub returns-in-Err-2-clause-err : goal.returns-in-Err-2-clause-err
returns-in-Err-2-clause-err c =
    opening_of_none c.args.bytes.now (c.in-Err.ensures.err (λ memory. false≢true (sym c.if-is_memory.false ∙ c.is_memory.ensures.1 memory)))

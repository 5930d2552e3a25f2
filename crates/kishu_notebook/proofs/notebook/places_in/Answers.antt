use Rattle.std.proofs.Common.{ap, ◌∙◌}
use Rattle.std.proofs.lemmas.Result.{IfOk-weaker}
use Rattle.serde_json.specs.View.{view}
use Rattle.kishu_notebook.specs.Places.{code_places}
use Rattle.kishu_notebook.proofs.Verdicts.{cells_are, no_cells}
use Rattle.kishu_notebook.proofs.notebook.places_in.Goals as goal

pub returns-in-Some : goal.returns-in-Some
returns-in-Some c =
    let same = ap (code_places 0) (cells_are (view c.args.value.now) c.in-Some.cells.now.items c.in-Some.ensures) in
    IfOk-weaker c.code_places.result _ _ (λ v told. told ∙ same) c.code_places.ensures

pub returns-in-None : goal.returns-in-None
returns-in-None c = c.new.ensures.items ∙ ap (code_places 0) (no_cells (view c.args.value.now) c.in-None.ensures)

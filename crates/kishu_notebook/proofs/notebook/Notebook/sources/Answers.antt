use Rattle.std.proofs.Common.{map, ap, ◌∙◌}
use Rattle.std.proofs.lemmas.Result.{IfOk-weaker}
use Rattle.std.specs.Rc.{rc_str_bytes}
use Rattle.serde_json.specs.View.{view}
use Rattle.kishu_model.specs.notebooks.Cells.{sources_in}
use Rattle.kishu_model.specs.notebooks.Notebook.{sources_of}
use Rattle.kishu_notebook.proofs.Verdicts.{cells_are, no_cells}
use Rattle.kishu_notebook.proofs.notebook.Notebook.sources.Goals as goal

pub returns-in-Some : goal.returns-in-Some
unfolding sources_of
returns-in-Some c =
    let same = ap sources_in (cells_are (view c.args.self.now.value) c.in-Some.cells.now.items c.in-Some.ensures) in
    IfOk-weaker c.sources_in.result _ _ (λ v told. told ∙ same) c.sources_in.ensures

pub returns-in-None : goal.returns-in-None
unfolding sources_of
returns-in-None c = ap (map rc_str_bytes) c.new.ensures.items ∙ ap sources_in (no_cells (view c.args.self.now.value) c.in-None.ensures)

use Rattle.std.proofs.Common.{◌≡◌, drop}
use Rattle.serde_json.specs.View.{items_view}
use Rattle.kishu_model.specs.notebooks.Cells.{are_outputs}
use Rattle.kishu_notebook.proofs.cells.are_outputs.Given as goal

abbrev pub invariant-loop-output : goal.invariant-loop-output
invariant-loop-output l = are_outputs (items_view (drop l.output-index l.output-items)) ≡ are_outputs (items_view l.output-items)

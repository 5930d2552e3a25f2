use Rattle.std.proofs.Common.{◌≡◌, drop}
use Rattle.serde_json.specs.View.{items_view}
use Rattle.kishu_model.specs.notebooks.Cells.{are_texts}
use Rattle.kishu_notebook.proofs.cells.are_texts.Given as goal

abbrev pub invariant-loop-line : goal.invariant-loop-line
invariant-loop-line l = are_texts (items_view (drop l.line-index l.line-items)) ≡ are_texts (items_view l.line-items)

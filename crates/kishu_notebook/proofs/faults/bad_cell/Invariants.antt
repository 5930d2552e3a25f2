use Rattle.std.proofs.Common.{◌≡◌, drop}
use Rattle.serde_json.specs.View.{items_view}
use Rattle.kishu_model.specs.notebooks.Notebook.{bad_cell_from}
use Rattle.kishu_notebook.proofs.faults.bad_cell.Given as goal

abbrev pub invariant-loop-index : goal.invariant-loop-index
invariant-loop-index l = bad_cell_from l.index (items_view (drop l.index l.cells.items)) ≡ bad_cell_from 0 (items_view l.cells.items)

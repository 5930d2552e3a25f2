use Rattle.std.proofs.Common.{◌≡◌, ◌++◌, map, drop}
use Rattle.std.specs.Rc.{rc_str_bytes}
use Rattle.serde_json.specs.View.{items_view}
use Rattle.kishu_model.specs.notebooks.Cells.{sources_in}
use Rattle.kishu_notebook.proofs.cells.sources_in.Given as goal

abbrev pub invariant-loop-cell : goal.invariant-loop-cell
invariant-loop-cell l = map rc_str_bytes l.sources.items ++ sources_in (items_view (drop l.cell-index l.cell-items)) ≡ sources_in (items_view l.cell-items)

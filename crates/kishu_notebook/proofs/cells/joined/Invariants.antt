use Rattle.std.proofs.Common.{◌≡◌, ◌++◌, drop, string_bytes}
use Rattle.serde_json.specs.View.{items_view}
use Rattle.kishu_model.specs.notebooks.Cells.{joined}
use Rattle.kishu_notebook.proofs.cells.joined.Given as goal

abbrev pub invariant-loop-line : goal.invariant-loop-line
invariant-loop-line l = string_bytes l.text ++ joined (items_view (drop l.line-index l.line-items)) ≡ joined (items_view l.line-items)

use Rattle.std.proofs.Common.{◌≡◌, ◌++◌, drop}
use Rattle.serde_json.specs.View.{items_view}
use Rattle.kishu_notebook.specs.Places.{code_places}
use Rattle.kishu_notebook.proofs.cells.code_places.Given as goal

abbrev pub invariant-loop-place : goal.invariant-loop-place
invariant-loop-place l = l.places.items ++ code_places l.place (items_view (drop l.place l.cells.items)) ≡ code_places 0 (items_view l.cells.items)

use Rattle.std.proofs.Common.{◌≡◌, ℕ, List, [], drop}
use Rattle.std.specs.BTreeSet.{contains_by}
use Rattle.std.specs.Cmp.Lexicographic.{slice_cmp}
use Rattle.std.specs.List.{list_any}
use Rattle.std.specs.Ordering.{nat_cmp}
use Rattle.std.specs.Str.{bytes_eq}
use Rattle.serde_json.specs.View.{items_view}
use Rattle.kishu_model.specs.notebooks.Notebook.{repeated_from}
use Rattle.kishu_notebook.proofs.faults.repeated_id.Given as goal

-- the set has the ids of the cells that were passed
abbrev pub invariant-loop-index : goal.invariant-loop-index
invariant-loop-index l =
    (ids : List (List ℕ)) × ((q : List ℕ) → contains_by (λ id. slice_cmp nat_cmp q id.now) l.seen ≡ list_any (bytes_eq q) ids)
    × (repeated_from ids l.index (items_view (drop l.index l.cells.items)) ≡ repeated_from [] 0 (items_view l.cells.items))

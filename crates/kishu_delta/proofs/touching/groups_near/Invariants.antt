use Rattle.std.proofs.Common.{◌≡◌, ◌++◌, drop, map}
use Rattle.std.specs.Prelude.{filter}
use Rattle.kishu_graph.specs.Kept.{row_of}
use Rattle.kishu_history.specs.Touched.{holds_any}
use Rattle.kishu_store.specs.Tables.{groups_in}
use Rattle.kishu_delta.specs.Deltas.{table_groups}
use Rattle.kishu_delta.specs.Near.{lent}
use Rattle.kishu_delta.proofs.touching.groups_near.Given as goal

abbrev pub invariant-loop-row : goal.invariant-loop-row
invariant-loop-row l =
    lent l.near.items ++ filter (holds_any l.accessed) (groups_in (map row_of (drop l.row-index l.table.rows.items)))
    ≡ filter (holds_any l.accessed) (table_groups l.table)

use Rattle.std.proofs.Common.{◌≡◌, map, take}
use Rattle.kishu_graph.specs.Kept.{row_of}
use Rattle.kishu_graph.proofs.noting.shared_rows.Given as goal

abbrev pub invariant-loop-row : goal.invariant-loop-row
invariant-loop-row l = map row_of l.all.items ≡ map row_of (take l.row-index l.rows)

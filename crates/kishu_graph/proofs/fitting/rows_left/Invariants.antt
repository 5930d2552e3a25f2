use Rattle.std.proofs.Common.{◌≡◌, ◌≤◌, length, map, drop}
use Rattle.std.specs.Vec.Iter.{into_iter_items, into_iter_len}
use Rattle.kishu_graph.specs.Kept.{texts_of}
use Rattle.kishu_graph.specs.Tables.{table_of_rows}
use Rattle.kishu_graph.specs.Fits.{rows_of, behind, left_of}
use Rattle.kishu_graph.proofs.fitting.rows_left.Given as goal

-- the rows that stay so far, and those of the rest
abbrev pub invariant-loop-row : goal.invariant-loop-row
invariant-loop-row l = record {
  inside : l.met ≤ length l.dropped;
  left : left_of (table_of_rows l.fn.table) (map texts_of l.dropped) ≡ behind (rows_of l.left.items) (left_of (rows_of (into_iter_items l.row-iterator)) (drop l.met (map texts_of l.dropped)));
  len : into_iter_len l.row-iterator ≡ length (into_iter_items l.row-iterator);
}

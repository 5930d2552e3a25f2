use Rattle.std.proofs.Common.{◌≡◌, ◌+◌, map, drop}
use Rattle.kishu_objects.specs.Bytes.{row_bytes}
use Rattle.kishu_objects.specs.Shape.{node_at}
use Rattle.kishu_picture.proofs.Summing.{IsSumming}
use Rattle.kishu_picture.proofs.lengths.rows_len.Given as goal

abbrev pub invariant-loop-i : goal.invariant-loop-i
invariant-loop-i g l = record {
  sums : IsSumming row_bytes (map (node_at l.heap) l.found.keys) l.len (map (node_at l.heap) (drop l.i l.found.keys));
  reads : l.steps ≡ l.fn.steps + l.i;
}

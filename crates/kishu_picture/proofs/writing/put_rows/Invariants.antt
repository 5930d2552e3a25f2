use Rattle.std.proofs.Common.{◌≡◌, ◌++◌, ◌+◌, drop}
use Rattle.kishu_objects.specs.Bytes.{many, row_bytes}
use Rattle.kishu_objects.specs.Fits.{NodeFits}
use Rattle.kishu_picture.specs.Rows.{rows_of, rows_at}
use Rattle.kishu_picture.proofs.Putting.{IsPutting}
use Rattle.kishu_picture.proofs.writing.put_rows.Given as goal

abbrev pub invariant-loop-i : goal.invariant-loop-i
invariant-loop-i g l = record {
  puts : IsPutting row_bytes NodeFits (rows_of l.heap l.found.keys) (l.fn.out.items ++ many row_bytes (rows_of l.heap l.found.keys)) l.out.items
      (rows_at l.heap l.found.keys (drop l.i l.found.keys));
  reads : l.steps ≡ l.fn.steps + l.i;
}

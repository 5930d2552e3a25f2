use Rattle.std.proofs.Common.{drop}
use Rattle.kishu_heap.specs.Cells.{entries_of}
use Rattle.kishu_objects.specs.Bytes.{entry_bytes}
use Rattle.kishu_picture.proofs.Summing.{IsSumming}
use Rattle.kishu_picture.proofs.lengths.entries_len.Given as goal

abbrev pub invariant-loop-i : goal.invariant-loop-i
invariant-loop-i l = IsSumming entry_bytes (entries_of l.entries.entries) l.len (entries_of (drop l.i l.entries.entries))

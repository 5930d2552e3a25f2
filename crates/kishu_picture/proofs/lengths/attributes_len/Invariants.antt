use Rattle.std.proofs.Common.{drop}
use Rattle.kishu_heap.specs.Cells.{attributes_of}
use Rattle.kishu_objects.specs.Bytes.{name_bytes}
use Rattle.kishu_picture.proofs.Summing.{IsSumming}
use Rattle.kishu_picture.proofs.lengths.attributes_len.Given as goal

abbrev pub invariant-loop-i : goal.invariant-loop-i
invariant-loop-i l = IsSumming name_bytes (attributes_of l.attributes.entries) l.len (attributes_of (drop l.i l.attributes.entries))

use Rattle.std.proofs.Common.{map, drop}
use Rattle.kishu_meaning.specs.values.Keys.{part_of}
use Rattle.kishu_objects.specs.Bytes.{part_bytes}
use Rattle.kishu_picture.proofs.Summing.{IsSumming}
use Rattle.kishu_picture.proofs.lengths.parts_len.Given as goal

abbrev pub invariant-loop-part : goal.invariant-loop-part
invariant-loop-part l = IsSumming part_bytes (map part_of l.parts) l.len (map part_of (drop l.part-index l.parts))

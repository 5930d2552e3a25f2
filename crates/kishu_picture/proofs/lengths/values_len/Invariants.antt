use Rattle.std.proofs.Common.{map, drop}
use Rattle.kishu_meaning.specs.values.Values.{value_of}
use Rattle.kishu_objects.specs.Bytes.{value_bytes}
use Rattle.kishu_picture.proofs.Summing.{IsSumming}
use Rattle.kishu_picture.proofs.lengths.values_len.Given as goal

abbrev pub invariant-loop-value : goal.invariant-loop-value
invariant-loop-value l = IsSumming value_bytes (map value_of l.values) l.len (map value_of (drop l.value-index l.values))

use Rattle.std.proofs.Common.{map, refl}
use Rattle.kishu_meaning.specs.values.Values.{value_of}
use Rattle.kishu_objects.specs.Bytes.{value_bytes}
use Rattle.kishu_picture.proofs.Summing.{summing_begins}
use Rattle.kishu_picture.proofs.lengths.values_len.Goals as goal

pub loop-value-init : goal.loop-value-init
loop-value-init c = summing_begins value_bytes (map value_of c.args.values.now) 4 refl

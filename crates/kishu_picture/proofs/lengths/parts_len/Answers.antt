use Rattle.std.proofs.Common.{map, refl}
use Rattle.kishu_meaning.specs.values.Keys.{part_of}
use Rattle.kishu_objects.specs.Bytes.{part_bytes}
use Rattle.kishu_picture.proofs.Summing.{summing_begins}
use Rattle.kishu_picture.proofs.lengths.parts_len.Goals as goal

pub loop-part-init : goal.loop-part-init
loop-part-init c = summing_begins part_bytes (map part_of c.args.parts.now) 4 refl

use Rattle.std.proofs.Common.{length, map}
use Rattle.kishu_meaning.specs.values.Keys.{part_of}
use Rattle.kishu_items.proofs.Parts.{parts_sound}
use Rattle.kishu_items.proofs.keys.new_tuple.Goals as goal

pub make-requires-clause-sound : goal.make-requires-clause-sound
make-requires-clause-sound g c = rw c.in_ok-values.ensures (parts_sound (length c.args.heap.now) (map part_of c.args.parts.now))

use Rattle.std.proofs.Common.{length, map}
use Rattle.kishu_meaning.specs.values.Values.{value_of}
use Rattle.kishu_builtins.proofs.InOrder.{ordered_sound}
use Rattle.kishu_builtins.proofs.sorted.list_in_order.Goals as goal

pub make-requires-clause-sound : goal.make-requires-clause-sound
make-requires-clause-sound c =
    let e = rw c.in-Some.is at c.in_ok-items.ensures in
    ordered_sound (length c.args.heap.now) (map value_of c.args.items.items) (map value_of c.in-Some.items.items) e c.requires.sound

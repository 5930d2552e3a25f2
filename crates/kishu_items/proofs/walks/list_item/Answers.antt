use Rattle.std.proofs.Common.{length, map}
use Rattle.kishu_heap.specs.Cells.{node_of}
use Rattle.kishu_meaning.specs.values.Values.{value_of}
use Rattle.kishu_items.proofs.Found.{found_sound_ok, items_sound}
use Rattle.kishu_items.proofs.walks.list_item.Goals as goal

pub returns-in-Some-clause-sound : goal.returns-in-Some-clause-sound
returns-in-Some-clause-sound g c =
    let n = length c.args.heap.now in
    let vs = map value_of c.in-Some.items.now in
    found_sound_ok n c.value_at.result vs c.args.k c.value_at.ensures (items_sound n (node_of c.node.result.now) vs c.in-Some.ensures c.node.ensures.sound)

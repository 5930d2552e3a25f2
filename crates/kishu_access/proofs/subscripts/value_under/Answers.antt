use Rattle.std.proofs.Common.{length}
use Rattle.kishu_meaning.specs.values.Keys.{key_of}
use Rattle.kishu_heap.specs.Cells.{entries_of, node_of}
use Rattle.kishu_access.proofs.Looking.{value_sound}
use Rattle.kishu_access.proofs.Holds.{entries_are_sound}
use Rattle.kishu_access.proofs.subscripts.value_under.Goals as goal

pub returns-in-Some-dict-clause-sound : goal.returns-in-Some-dict-clause-sound
returns-in-Some-dict-clause-sound g c =
    let n = length c.args.heap.now in
    let es = entries_of c.in-Some-dict.entries.now.entries in
    let node = node_of c.in-Some.node.now in
    value_sound n (key_of c.args.key.now) es c.value_in.result c.value_in.ensures (entries_are_sound n node es c.in-Some-dict.ensures c.in-Some.ensures.sound)

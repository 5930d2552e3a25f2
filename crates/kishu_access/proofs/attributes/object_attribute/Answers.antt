use Rattle.std.proofs.Common.{length}
use Rattle.std.specs.Str.{bytes_eq}
use Rattle.kishu_heap.specs.Cells.{attributes_of, node_of}
use Rattle.kishu_access.proofs.Looking.{attribute_is_sound}
use Rattle.kishu_access.proofs.Holds.{attributes_are_sound}
use Rattle.kishu_access.proofs.attributes.object_attribute.Goals as goal

pub returns-in-Some-object-clause-sound : goal.returns-in-Some-object-clause-sound
returns-in-Some-object-clause-sound g c =
    let n = length c.args.heap.now in
    let es = attributes_of c.in-Some-object.attributes.now.entries in
    let node = node_of c.in-Some.node.now in
    attribute_is_sound n bytes_eq c.args.name.now es c.attribute_at.result c.attribute_at.ensures (attributes_are_sound n node es c.in-Some-object.ensures c.in-Some.ensures.sound)

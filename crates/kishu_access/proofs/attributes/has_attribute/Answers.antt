use Rattle.std.proofs.Common.{◌∙◌}
use Rattle.kishu_heap.specs.Cells.{attributes_of, node_of}
use Rattle.kishu_access.proofs.Looking.{attribute_there}
use Rattle.kishu_access.proofs.attributes.has_attribute.Goals as goal

pub returns-in-Some-object-clause-is : goal.returns-in-Some-object-clause-is
returns-in-Some-object-clause-is g c =
    rw (← c.in-Some.ensures.node) (c.is_some.ensures ∙ attribute_there (node_of c.in-Some.node.now) c.args.name.now (attributes_of c.in-Some-object.attributes.now.entries) c.found.result c.in-Some-object.ensures c.found.ensures)

use Rattle.std.proofs.Common.{◌∙◌}
use Rattle.kishu_meaning.specs.values.Keys.{key_of}
use Rattle.kishu_heap.specs.Cells.{entries_of, node_of}
use Rattle.kishu_access.proofs.Looking.{key_there}
use Rattle.kishu_access.proofs.stores.has_key.Goals as goal

pub returns-in-Some-dict-clause-is : goal.returns-in-Some-dict-clause-is
returns-in-Some-dict-clause-is g c =
    rw (← c.in-Some.ensures.node) (c.is_some.ensures ∙ key_there (node_of c.in-Some.node.now) (key_of c.args.key.now) (entries_of c.in-Some-dict.entries.now.entries) c.found.result c.in-Some-dict.ensures c.found.ensures)

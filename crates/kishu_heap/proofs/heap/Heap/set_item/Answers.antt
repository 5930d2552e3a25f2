use Rattle.std.proofs.Common.{length}
use Rattle.kishu_meaning.specs.values.Values.{value_of}
use Rattle.kishu_meaning.specs.values.Nodes.{set_item}
use Rattle.kishu_heap.proofs.Held.{changes, changes_heap}
use Rattle.kishu_heap.proofs.Soundness.{keeps_set_item}
use Rattle.kishu_heap.proofs.heap.Heap.set_item.Goals as goal

pub invariant_of-self : goal.invariant_of-self
invariant_of-self c = changes_heap _ _ _ _ c.self.view_is c.requires.id c.index_mut.ensures.value _ c.self.invariant _ (set_item c.args.at (value_of c.args.value)) (keeps_set_item (length c.args.self.now) c.args.at (value_of c.args.value) c.requires.sound) c.set_item.ensures

pub returns : goal.returns
returns c = changes _ _ _ _ c.self.view_is c.requires.id c.index_mut.ensures.value _ (set_item c.args.at (value_of c.args.value)) c.set_item.ensures

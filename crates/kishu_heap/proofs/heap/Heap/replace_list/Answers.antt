use Rattle.std.proofs.Common.{length}
use Rattle.std.specs.Prelude.{map}
use Rattle.kishu_meaning.specs.values.Values.{value_of}
use Rattle.kishu_meaning.specs.values.Nodes.{replace_list}
use Rattle.kishu_heap.proofs.Held.{changes, changes_heap}
use Rattle.kishu_heap.proofs.Soundness.{keeps_replace_list}
use Rattle.kishu_heap.proofs.heap.Heap.replace_list.Goals as goal

pub invariant_of-self : goal.invariant_of-self
invariant_of-self c = changes_heap _ _ _ _ c.self.view_is c.requires.id c.index_mut.ensures.value _ c.self.invariant _ (replace_list (map value_of c.args.items.items)) (keeps_replace_list (length c.args.self.now) (map value_of c.args.items.items) c.requires.sound) c.replace_list.ensures

pub returns : goal.returns
returns c = changes _ _ _ _ c.self.view_is c.requires.id c.index_mut.ensures.value _ (replace_list (map value_of c.args.items.items)) c.replace_list.ensures

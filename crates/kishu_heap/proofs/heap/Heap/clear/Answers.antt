use Rattle.std.proofs.Common.{length, []}
use Rattle.kishu_meaning.specs.values.Nodes.{on_dict}
use Rattle.kishu_heap.proofs.Held.{changes, changes_heap}
use Rattle.kishu_heap.proofs.Soundness.{keeps_clear}
use Rattle.kishu_heap.proofs.heap.Heap.clear.Goals as goal

pub invariant_of-self : goal.invariant_of-self
invariant_of-self c = changes_heap _ _ _ _ c.self.view_is c.requires c.index_mut.ensures.value _ c.self.invariant _ (on_dict (λ entries. [])) (keeps_clear (length c.args.self.now)) c.clear.ensures

pub returns : goal.returns
returns c = changes _ _ _ _ c.self.view_is c.requires c.index_mut.ensures.value _ (on_dict (λ entries. [])) c.clear.ensures

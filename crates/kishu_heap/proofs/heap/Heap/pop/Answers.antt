use Rattle.std.proofs.Common.{length, ◌∙◌}
use Rattle.kishu_meaning.specs.values.Nodes.{last_item, pop}
use Rattle.kishu_heap.proofs.Held.{changes, changes_heap, finds_in}
use Rattle.kishu_heap.proofs.Soundness.{keeps_pop}
use Rattle.kishu_heap.proofs.heap.Heap.pop.Goals as goal

pub invariant_of-self : goal.invariant_of-self
invariant_of-self c = changes_heap _ _ _ _ c.self.view_is c.requires c.index_mut.ensures.value _ c.self.invariant _ pop (keeps_pop (length c.args.self.now)) c.pop.ensures.node

pub returns-clause-value : goal.returns-clause-value
returns-clause-value c = c.pop.ensures.value ∙ finds_in last_item _ _ _ _ c.self.view_is c.requires c.index_mut.ensures.value

pub returns-clause-nodes : goal.returns-clause-nodes
returns-clause-nodes c = changes _ _ _ _ c.self.view_is c.requires c.index_mut.ensures.value _ pop c.pop.ensures.node

use Rattle.std.proofs.Common.{length, ◌∙◌}
use Rattle.kishu_meaning.specs.values.Nodes.{attribute, remove_attr}
use Rattle.kishu_heap.proofs.Held.{changes, changes_heap, finds_in}
use Rattle.kishu_heap.proofs.Soundness.{keeps_remove_attr}
use Rattle.kishu_heap.proofs.heap.Heap.remove_attr.Goals as goal

pub invariant_of-self : goal.invariant_of-self
invariant_of-self c = changes_heap _ _ _ _ c.self.view_is c.requires c.index_mut.ensures.value _ c.self.invariant _ (remove_attr c.args.name.now) (keeps_remove_attr (length c.args.self.now) c.args.name.now) c.remove_attr.ensures.node

pub returns-clause-value : goal.returns-clause-value
returns-clause-value c = c.remove_attr.ensures.value ∙ finds_in (attribute c.args.name.now) _ _ _ _ c.self.view_is c.requires c.index_mut.ensures.value

pub returns-clause-nodes : goal.returns-clause-nodes
returns-clause-nodes c = changes _ _ _ _ c.self.view_is c.requires c.index_mut.ensures.value _ (remove_attr c.args.name.now) c.remove_attr.ensures.node

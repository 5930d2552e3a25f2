use Rattle.std.proofs.Common.{length, ◌∙◌}
use Rattle.kishu_meaning.specs.values.Keys.{key_of}
use Rattle.kishu_meaning.specs.values.Nodes.{value_under, remove}
use Rattle.kishu_meaning_laws.specs.EqualLaws.{finds_equal}
use Rattle.kishu_heap.proofs.Held.{changes, changes_heap, finds_in}
use Rattle.kishu_heap.proofs.Soundness.{keeps_remove}
use Rattle.kishu_heap.proofs.heap.Heap.remove.Goals as goal

pub invariant_of-self : goal.invariant_of-self
invariant_of-self c = changes_heap _ _ _ _ c.self.view_is c.requires c.index_mut.ensures.value _ c.self.invariant _ (remove (key_of c.args.key.now)) (keeps_remove (length c.args.self.now) (key_of c.args.key.now)) c.remove.ensures.node

pub returns-clause-value : goal.returns-clause-value
returns-clause-value c = c.remove.ensures.value ∙ finds_in (value_under (key_of c.args.key.now)) _ _ _ _ c.self.view_is c.requires c.index_mut.ensures.value

pub returns-clause-keys : goal.returns-clause-keys
returns-clause-keys c =
    c.remove.ensures.value ∙ finds_in (value_under (key_of c.args.key.now)) _ _ _ _ c.self.view_is c.requires c.index_mut.ensures.value
    ∙ finds_equal (key_of c.args.key.now) c.args.id.0 c.args.self.now

pub returns-clause-nodes : goal.returns-clause-nodes
returns-clause-nodes c = changes _ _ _ _ c.self.view_is c.requires c.index_mut.ensures.value _ (remove (key_of c.args.key.now)) c.remove.ensures.node

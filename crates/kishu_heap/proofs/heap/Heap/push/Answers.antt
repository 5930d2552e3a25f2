use Rattle.std.proofs.Common.{length}
use Rattle.std.proofs.lemmas.Result.{on_ok_weaker, on_err_weaker}
use Rattle.kishu_meaning.specs.values.Values.{value_of}
use Rattle.kishu_meaning.specs.values.Nodes.{push}
use Rattle.kishu_heap.proofs.Held.{changes, ends_heap, stays}
use Rattle.kishu_heap.proofs.Soundness.{keeps_push}
use Rattle.kishu_heap.proofs.heap.Heap.push.Goals as goal

pub invariant_of-self : goal.invariant_of-self
invariant_of-self c = ends_heap _ _ _ _ c.self.view_is c.requires.id c.index_mut.ensures.value _ c.self.invariant c.push.result _ (push (value_of c.args.value)) (keeps_push (length c.args.self.now) (value_of c.args.value) c.requires.sound) c.push.ensures.ok c.push.ensures.err

pub returns-clause-ok : goal.returns-clause-ok
returns-clause-ok c = on_ok_weaker c.push.result (changes _ _ _ _ c.self.view_is c.requires.id c.index_mut.ensures.value _ (push (value_of c.args.value))) c.push.ensures.ok

pub returns-clause-err : goal.returns-clause-err
returns-clause-err c = on_err_weaker c.push.result (stays _ _ _ _ c.self.view_is c.requires.id c.index_mut.ensures.value _) c.push.ensures.err

use Rattle.std.proofs.Common.{length}
use Rattle.std.proofs.lemmas.Result.{on_ok_weaker, on_err_weaker}
use Rattle.std.specs.Rc.{rc_str_bytes}
use Rattle.kishu_meaning.specs.values.Values.{value_of}
use Rattle.kishu_meaning.specs.values.Nodes.{set_attr}
use Rattle.kishu_heap.proofs.Held.{changes, ends_heap, stays}
use Rattle.kishu_heap.proofs.Soundness.{keeps_set_attr}
use Rattle.kishu_heap.proofs.heap.Heap.set_attr.Goals as goal

pub invariant_of-self : goal.invariant_of-self
invariant_of-self c = ends_heap _ _ _ _ c.self.view_is c.requires.id c.index_mut.ensures.value _ c.self.invariant c.set_attr.result _ (set_attr (rc_str_bytes c.args.name) (value_of c.args.value)) (keeps_set_attr (length c.args.self.now) (rc_str_bytes c.args.name) (value_of c.args.value) c.requires.name c.requires.sound) c.set_attr.ensures.ok c.set_attr.ensures.err

pub returns-clause-ok : goal.returns-clause-ok
returns-clause-ok c = on_ok_weaker c.set_attr.result (changes _ _ _ _ c.self.view_is c.requires.id c.index_mut.ensures.value _ (set_attr (rc_str_bytes c.args.name) (value_of c.args.value))) c.set_attr.ensures.ok

pub returns-clause-err : goal.returns-clause-err
returns-clause-err c = on_err_weaker c.set_attr.result (stays _ _ _ _ c.self.view_is c.requires.id c.index_mut.ensures.value _) c.set_attr.ensures.err

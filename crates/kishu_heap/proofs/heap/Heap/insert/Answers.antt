use Rattle.std.proofs.Common.{length, ◌∙◌}
use Rattle.std.proofs.lemmas.Result.{on_ok_weaker, on_err_weaker}
use Rattle.kishu_meaning.specs.values.Keys.{key_of}
use Rattle.kishu_meaning.specs.values.Values.{value_of}
use Rattle.kishu_meaning.specs.values.Nodes.{insert}
use Rattle.kishu_meaning_laws.specs.EqualLaws.{inserts_by_values}
use Rattle.kishu_heap.proofs.Held.{changes, ends_heap, stays}
use Rattle.kishu_heap.proofs.Soundness.{keeps_insert}
use Rattle.kishu_heap.proofs.heap.Heap.insert.Goals as goal

pub invariant_of-self : goal.invariant_of-self
invariant_of-self c = ends_heap _ _ _ _ c.self.view_is c.requires.id c.index_mut.ensures.value _ c.self.invariant c.insert.result _ (insert (key_of c.args.key) (value_of c.args.value)) (keeps_insert (length c.args.self.now) (key_of c.args.key) (value_of c.args.value) c.requires.sound) c.insert.ensures.ok c.insert.ensures.err

pub returns-clause-ok : goal.returns-clause-ok
returns-clause-ok c = on_ok_weaker c.insert.result (changes _ _ _ _ c.self.view_is c.requires.id c.index_mut.ensures.value _ (insert (key_of c.args.key) (value_of c.args.value))) c.insert.ensures.ok

pub returns-clause-keys : goal.returns-clause-keys
returns-clause-keys c =
    on_ok_weaker c.insert.result
    (λ h. changes _ _ _ _ c.self.view_is c.requires.id c.index_mut.ensures.value _ (insert (key_of c.args.key) (value_of c.args.value)) h
    ∙ inserts_by_values (key_of c.args.key) (value_of c.args.value) c.args.id.0 c.args.self.now)
    c.insert.ensures.ok

pub returns-clause-err : goal.returns-clause-err
returns-clause-err c = on_err_weaker c.insert.result (stays _ _ _ _ c.self.view_is c.requires.id c.index_mut.ensures.value _) c.insert.ensures.err

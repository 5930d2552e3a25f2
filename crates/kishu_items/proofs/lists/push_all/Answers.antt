use Rattle.std.proofs.Common.{◌∙◌, ap, sym, arith, length}
use Rattle.kishu_heap.specs.Changing.{length_changed}
use Rattle.kishu_items.specs.Gathering.{sound_at}
use Rattle.kishu_items.proofs.Pushing.{push_step, push_end}
use Rattle.kishu_items.proofs.lists.push_all.Goals as goal

pub push-requires-clause-sound : goal.push-requires-clause-sound
push-requires-clause-sound c =
    rw (c.loop-i.invariant.long, c.in_ok-copied.ensures)
    (sound_at (length c.args.heap.now) c.args.values.now c.loop-i.i c.index-values-i.result (omega arith) c.index-values-i.is c.requires.sound)

pub loop-i-preserved : goal.loop-i-preserved
loop-i-preserved c = record {
  told = c.loop-i.invariant.told ∙ push_step c.args.values.now c.loop-i.i c.index-values-i.result c.in_ok-copied.field-0 c.args.id.0 c.loop-i.heap c.push.new.self (omega arith) c.index-values-i.is c.in_ok-copied.ensures c.in_ok-push.ensures.ok;
  long = ap length c.in_ok-push.ensures.ok ∙ length_changed _ _ _ ∙ c.loop-i.invariant.long;
}

pub returns-clause-nodes : goal.returns-clause-nodes
returns-clause-nodes c =
    sym (c.loop-i.invariant.told ∙ push_end c.args.values.now c.loop-i.i c.args.id.0 c.loop-i.heap (omega arith))

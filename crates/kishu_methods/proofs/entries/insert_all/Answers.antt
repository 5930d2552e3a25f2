use Rattle.std.proofs.Common.{◌∙◌, ap, sym, arith, length}
use Rattle.kishu_methods.proofs.Changes.{length_changed}
use Rattle.kishu_methods.proofs.DictNodes.{entry_step, entry_end, sound_value}
use Rattle.kishu_methods.proofs.entries.insert_all.Goals as goal

pub insert-requires-clause-sound : goal.insert-requires-clause-sound
insert-requires-clause-sound c =
    rw (c.loop-i.invariant.long, c.in_ok-copied.ensures)
    (sound_value (length c.args.heap.now) c.args.entries.now.entries c.loop-i.i c.in-Some.key.now c.in-Some.value.now c.in-Some.ensures.entry c.requires.sound)

pub loop-i-preserved : goal.loop-i-preserved
loop-i-preserved c = record {
  told = c.loop-i.invariant.told ∙ entry_step c.args.entries.now.entries c.loop-i.i c.in-Some.key.now c.in_ok-copied_key.field-0 c.in-Some.value.now c.in_ok-copied.field-0 c.args.id.0 c.loop-i.heap c.insert.new.self c.in-Some.ensures.entry c.in_ok-copied_key.ensures c.in_ok-copied.ensures c.in_ok-insert.ensures.ok;
  long = ap length c.in_ok-insert.ensures.ok ∙ length_changed _ _ _ ∙ c.loop-i.invariant.long;
}

pub returns-clause-nodes : goal.returns-clause-nodes
returns-clause-nodes c =
    sym (c.loop-i.invariant.told ∙ entry_end c.args.entries.now.entries c.loop-i.i c.args.id.0 c.loop-i.heap (omega (arith, c.len-i-end.ensures.len)))

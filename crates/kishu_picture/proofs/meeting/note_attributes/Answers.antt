use Rattle.std.proofs.Common.{sym}
use Rattle.kishu_picture.proofs.Steps.{attributes_step}
use Rattle.kishu_picture.proofs.meeting.note_attributes.Goals as goal

pub loop-i-preserved : goal.loop-i-preserved
loop-i-preserved c = attributes_step c.args.attributes.now.entries c.loop-i.i (c.in-Some.field-0-0.now, c.in-Some.value.now) c.loop-i.found.keys
    c.note.new.found.keys _ (sym c.in-Some.ensures.entry) c.loop-i.invariant c.in_ok-note.ensures

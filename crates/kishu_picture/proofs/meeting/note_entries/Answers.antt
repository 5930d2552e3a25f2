use Rattle.std.proofs.Common.{sym}
use Rattle.kishu_picture.proofs.Steps.{entries_step}
use Rattle.kishu_picture.proofs.meeting.note_entries.Goals as goal

pub loop-i-preserved : goal.loop-i-preserved
loop-i-preserved c = entries_step c.args.entries.now.entries c.loop-i.i (c.in-Some.field-0-0.now, c.in-Some.value.now) c.loop-i.found.keys
    c.note.new.found.keys _ (sym c.in-Some.ensures.entry) c.loop-i.invariant c.in_ok-note.ensures

use Rattle.std.proofs.Common.{sym}
use Rattle.kishu_groups.specs.Marks.{marks_of}
use Rattle.kishu_groups.proofs.Steps.{kept_on, entries_step}
use Rattle.kishu_groups.proofs.marks.Marks.note_entries.Goals as goal

pub loop-i-preserved : goal.loop-i-preserved
loop-i-preserved c = record {
  kept = kept_on (marks_of c.args.self.now) (marks_of c.loop-i.self) (marks_of c.note.new.self) c.loop-i.invariant.kept c.in_ok-note.ensures.kept;
  noted = entries_step c.args.label c.args.entries.now.entries c.loop-i.i (c.in-Some.field-0-0.now, c.in-Some.value.now) (marks_of c.loop-i.self)
      (marks_of c.note.new.self) _ (sym c.in-Some.ensures.entry) c.loop-i.invariant.noted c.in_ok-note.ensures.noted;
}

use Rattle.std.proofs.Common.{rules}
use Rattle.std.specs.Rc.{rc_str_bytes}
use Rattle.kishu_names.specs.Record.{texts_of}
use Rattle.kishu_names.proofs.Records.{rises_with}
use Rattle.kishu_names.proofs.record.note_all.Goals as goal

pub loop-name-preserved : goal.loop-name-preserved
loop-name-preserved c = record {
  order = rw c.in_ok-note.ensures.ok (rises_with (rc_str_bytes c.in-Some.name) (texts_of c.loop-name.accessed.items) c.loop-name.invariant.order);
  told = rw c.in_ok-note.ensures.ok (search rules);
}

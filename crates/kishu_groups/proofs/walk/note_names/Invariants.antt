use Rattle.std.proofs.Common.{◌≡◌, map, drop}
use Rattle.std.specs.Rc.{rc_str_bytes}
use Rattle.kishu_groups.specs.Marks.{Kept, marks_of, note_names}
use Rattle.kishu_groups.proofs.walk.note_names.Given as goal

abbrev pub invariant-loop-i : goal.invariant-loop-i
invariant-loop-i l = record {
  kept : Kept (marks_of l.fn.marks) (marks_of l.marks);
  noted : note_names l.names.bound l.i (map rc_str_bytes (drop l.i l.of)) (marks_of l.marks) ≡ note_names l.names.bound 0 (map rc_str_bytes l.of)
      (marks_of l.fn.marks);
}

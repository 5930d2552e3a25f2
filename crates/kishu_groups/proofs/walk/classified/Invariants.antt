use Rattle.std.proofs.Common.{◌≡◌, ◌+◌, map}
use Rattle.std.specs.Rc.{rc_str_bytes}
use Rattle.kishu_groups.specs.Held.{held}
use Rattle.kishu_groups.specs.Marks.{marks_of}
use Rattle.kishu_groups.proofs.Walked.{IsMarked}
use Rattle.kishu_groups.proofs.walk.classified.Given as goal

abbrev pub invariant-loop-i : goal.invariant-loop-i
invariant-loop-i g l = record {
  marked : IsMarked (held l.heap l.names) (map rc_str_bytes l.of) (marks_of l.marks) l.i;
  reads : l.steps ≡ l.fn.steps + l.i;
}

use Rattle.std.proofs.Common.{◌≡◌, ◌+◌}
use Rattle.kishu_names.specs.Record.{texts_of}
use Rattle.kishu_objects_laws.specs.WalkLaws.{IsWalked}
use Rattle.kishu_picture.specs.Held.{held}
use Rattle.kishu_picture.proofs.meeting.met.Given as goal

abbrev pub invariant-loop-i : goal.invariant-loop-i
invariant-loop-i g l = record {
  walked : IsWalked (held l.heap l.names) (texts_of l.group) l.found.keys l.i;
  reads : l.steps ≡ l.fn.steps + l.i;
}

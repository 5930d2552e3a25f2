use Rattle.std.proofs.Common.{◌≡◌, map}
use Rattle.std.specs.Rc.{rc_str_bytes}
use Rattle.kishu_groups.specs.Held.{groups_of}
use Rattle.kishu_groups.proofs.Heads.{Gathered}
use Rattle.kishu_groups.proofs.gathering.gathered.Given as goal

abbrev pub invariant-loop-i : goal.invariant-loop-i
invariant-loop-i l = record {
  stay : l.classes ≡ l.fn.classes;
  gathered : Gathered l.fn.classes (map rc_str_bytes l.of) l.i (groups_of l.groups) l.places.items;
}

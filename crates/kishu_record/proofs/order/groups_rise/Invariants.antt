use Rattle.std.proofs.Common.{ℕ, suc, ◌<◌, map}
use Rattle.kishu_record.specs.Entries.{first_of}
use Rattle.kishu_record.proofs.Rising.{RisesAt}
use Rattle.kishu_record.proofs.order.groups_rise.Given as goal

abbrev pub invariant-loop-i : goal.invariant-loop-i
invariant-loop-i l = (k : ℕ) → suc k < l.i → RisesAt (map first_of l.groups) k

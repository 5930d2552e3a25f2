use Rattle.std.proofs.Common.{ℕ, suc, ◌<◌, map}
use Rattle.std.specs.Rc.{rc_str_bytes}
use Rattle.kishu_graph.proofs.Rising.{RisesAt}
use Rattle.kishu_graph.proofs.order.names_rise.Given as goal

abbrev pub invariant-loop-i : goal.invariant-loop-i
invariant-loop-i l = (k : ℕ) → suc k < l.i → RisesAt (map rc_str_bytes l.names) k

use Rattle.std.proofs.Common.{◌≡◌, drop, map}
use Rattle.kishu_meaning.specs.moments.Accesses.{with_accesses}
use Rattle.kishu_graph.specs.Tables.{group_of}
use Rattle.kishu_history.specs.Checkout.{unbind_all}
use Rattle.kishu_checkout.specs.Groups.{StaySound}
use Rattle.kishu_checkout.specs.Plans.{names_of}
use Rattle.kishu_checkout.proofs.unbinding.unbind_groups.Given as goal

abbrev pub invariant-loop-group : goal.invariant-loop-group
invariant-loop-group l =
    let all = names_of (map group_of l.groups) in
    let left = names_of (map group_of (drop l.group-index l.groups)) in
    record {
      bound : unbind_all all l.fn.names.bound ≡ unbind_all left l.names.bound;
      accessed : with_accesses all l.fn.names.accessed ≡ with_accesses left l.names.accessed;
      sound : StaySound l.fn.names.bound l.names.bound;
    }

use Rattle.std.proofs.Common.{◌≡◌, ◌++◌, map}
use Rattle.kishu_graph.specs.Tables.{group_of, named}
use Rattle.kishu_session.proofs.requests.plan.names_of_groups.Given as goal

abbrev pub invariant-loop-group : goal.invariant-loop-group
invariant-loop-group l = named l.names ++ map group_of l.group-iterator.rest.items ≡ map group_of l.fn.groups.items

use Rattle.std.proofs.Common.{◌≡◌, ◌++◌, map}
use Rattle.kishu_store.specs.Tables.{groups_in}
use Rattle.kishu_graph.specs.Kept.{row_of}
use Rattle.kishu_graph.specs.Tables.{named}
use Rattle.kishu_session.proofs.requests.plan.names_of_rows.Given as goal

abbrev pub invariant-loop-row : goal.invariant-loop-row
invariant-loop-row l = named l.names ++ groups_in (map row_of l.row-iterator.rest.items) ≡ groups_in (map row_of l.fn.rows.items)

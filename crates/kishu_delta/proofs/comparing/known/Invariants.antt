use Rattle.std.proofs.Common.{drop, map}
use Rattle.kishu_graph.specs.Kept.{row_of}
use Rattle.kishu_store.specs.Groups.{Group}
use Rattle.kishu_store.specs.Tables.{groups_in}
use Rattle.kishu_delta.specs.Found.{found}
use Rattle.kishu_delta.proofs.Choosing.{IsKnownFrom}
use Rattle.kishu_delta.proofs.comparing.known.Given as goal

abbrev pub invariant-loop-place : goal.invariant-loop-place
invariant-loop-place l = (g : Group) → IsKnownFrom (groups_in (map row_of l.rows)) (drop l.place (groups_in (map row_of l.rows))) l.standing g (found l.known g)

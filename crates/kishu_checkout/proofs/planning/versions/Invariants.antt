use Rattle.std.proofs.Common.{drop, map}
use Rattle.kishu_graph.specs.Kept.{row_of}
use Rattle.kishu_checkout.proofs.Indexed.{IsIndexing}
use Rattle.kishu_checkout.proofs.planning.versions.Given as goal

abbrev pub invariant-loop-row : goal.invariant-loop-row
invariant-loop-row l = IsIndexing l.versions.keys (map row_of l.rows) (map row_of (drop l.row-index l.rows))

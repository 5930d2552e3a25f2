use Rattle.std.proofs.Common.{◌≡◌, not, take, map, filter}
use Rattle.kishu_graph.specs.Kept.{row_of}
use Rattle.kishu_checkout.specs.Versioned.{is_there}
use Rattle.kishu_checkout.proofs.planning.rows_elsewhere.Given as goal

abbrev pub invariant-loop-row : goal.invariant-loop-row
invariant-loop-row l = map row_of l.copies.items ≡ filter (λ r. not (is_there l.versions.keys r)) (map row_of (take l.row-index l.rows))

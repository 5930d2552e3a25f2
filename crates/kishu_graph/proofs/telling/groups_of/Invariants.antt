use Rattle.std.proofs.Common.{◌≡◌, map, take}
use Rattle.kishu_graph.specs.Fits.{names_at}
use Rattle.kishu_graph.specs.Kept.{texts_of}
use Rattle.kishu_graph.proofs.telling.groups_of.Given as goal

abbrev pub invariant-loop-row : goal.invariant-loop-row
invariant-loop-row l = map texts_of l.groups.items ≡ map names_at (take l.row-index l.rows)

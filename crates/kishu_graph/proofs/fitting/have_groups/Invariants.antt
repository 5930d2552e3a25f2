use Rattle.std.proofs.Common.{◌≡◌, map, take}
use Rattle.kishu_graph.specs.Fits.{names_at}
use Rattle.kishu_graph.specs.Kept.{texts_of}
use Rattle.kishu_graph.proofs.fitting.have_groups.Given as goal

abbrev pub invariant-loop-i : goal.invariant-loop-i
invariant-loop-i l = map names_at (take l.i l.rows) ≡ map texts_of (take l.i l.groups)

use Rattle.std.proofs.Common.{◌≡◌, true, take}
use Rattle.std.specs.List.{list_all}
use Rattle.kishu_graph.specs.Fits.{names_of}
use Rattle.kishu_graph.specs.Leaves.{is_free}
use Rattle.kishu_graph.proofs.leaving.are_all_free.Given as goal

abbrev pub invariant-loop-group : goal.invariant-loop-group
invariant-loop-group l = list_all (is_free l.names.keys l.gone.keys) (names_of (take l.group-index l.stored)) ≡ true

use Rattle.std.proofs.Common.{true, take}
use Rattle.kishu_graph.specs.Fits.{names_of, AddsNames}
use Rattle.kishu_graph.proofs.fitting.add_groups.Given as goal

abbrev pub invariant-loop-group : goal.invariant-loop-group
invariant-loop-group l = AddsNames (names_of (take l.group-index l.stored)) l.initial.names.keys l.names.keys true

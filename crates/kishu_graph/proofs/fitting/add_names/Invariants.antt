use Rattle.std.proofs.Common.{true, map, take}
use Rattle.std.specs.Rc.{rc_str_bytes}
use Rattle.kishu_graph.specs.Fits.{AddsNames}
use Rattle.kishu_graph.proofs.fitting.add_names.Given as goal

abbrev pub invariant-loop-name : goal.invariant-loop-name
invariant-loop-name l = AddsNames (map rc_str_bytes (take l.name-index l.group)) l.initial.names.keys l.names.keys true

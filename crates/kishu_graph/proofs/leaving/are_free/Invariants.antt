use Rattle.std.proofs.Common.{◌≡◌, true, map, take}
use Rattle.std.specs.List.{list_all}
use Rattle.std.specs.Rc.{rc_str_bytes}
use Rattle.kishu_graph.specs.Leaves.{is_free}
use Rattle.kishu_graph.proofs.leaving.are_free.Given as goal

abbrev pub invariant-loop-name : goal.invariant-loop-name
invariant-loop-name l = list_all (is_free l.names.keys l.gone.keys) (map rc_str_bytes (take l.name-index l.group)) ≡ true

use Rattle.std.proofs.Common.{◌≡◌, map, take}
use Rattle.std.specs.Rc.{rc_str_bytes}
use Rattle.kishu_store.specs.Groups.{first_name}
use Rattle.kishu_graph.specs.Kept.{texts_of}
use Rattle.kishu_graph.proofs.noting.first_names.Given as goal

abbrev pub invariant-loop-group : goal.invariant-loop-group
invariant-loop-group l = map rc_str_bytes l.names.items ≡ map (λ g. first_name (texts_of g)) (take l.group-index l.groups)

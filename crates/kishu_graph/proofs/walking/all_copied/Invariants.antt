use Rattle.std.proofs.Common.{◌≡◌, map, take}
use Rattle.std.specs.Rc.{rc_str_bytes}
use Rattle.kishu_graph.specs.Kept.{texts_of}
use Rattle.kishu_graph.proofs.walking.all_copied.Given as goal

abbrev pub invariant-loop-name : goal.invariant-loop-name
invariant-loop-name l = texts_of l.copies ≡ map rc_str_bytes (take l.name-index l.names)

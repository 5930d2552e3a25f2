use Rattle.std.proofs.Common.{◌++◌, map, take}
use Rattle.std.specs.Rc.{rc_str_bytes}
use Rattle.kishu_graph.specs.Walks.{all_texts, HaveSame}
use Rattle.kishu_graph.proofs.walking.put_names.Given as goal

abbrev pub invariant-loop-name : goal.invariant-loop-name
invariant-loop-name l = HaveSame (all_texts l.among.keys) (map rc_str_bytes (take l.name-index l.names) ++ all_texts l.initial.among.keys)

use Rattle.std.proofs.Common.{take}
use Rattle.kishu_graph.specs.Heads.{Lack}
use Rattle.kishu_graph.specs.Walks.{all_texts}
use Rattle.kishu_graph.proofs.heads.take_names.Given as goal

abbrev pub invariant-loop-name : goal.invariant-loop-name
invariant-loop-name l = Lack (all_texts (take l.name-index l.group)) (all_texts l.initial.names.keys) (all_texts l.names.keys)

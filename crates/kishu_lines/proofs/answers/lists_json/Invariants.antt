use Rattle.std.proofs.Common.{◌≡◌, map, take}
use Rattle.serde_json.specs.View.{view}
use Rattle.kishu_model.specs.Answers.{node_data}
use Rattle.kishu_model.specs.Values.{texts_of}
use Rattle.kishu_lines.proofs.answers.lists_json.Given as goal

abbrev pub invariant-loop-list : goal.invariant-loop-list
invariant-loop-list l = map view l.items.items ≡ map (λ x. node_data (texts_of x)) (take l.list-index l.lists)

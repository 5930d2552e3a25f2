use Rattle.std.proofs.Common.{◌≡◌, map, take}
use Rattle.serde_json.specs.View.{view}
use Rattle.kishu_model.specs.Answers.{row_data}
use Rattle.kishu_model.specs.Values.{row_of}
use Rattle.kishu_lines.proofs.answers.path_json.Given as goal

abbrev pub invariant-loop-row : goal.invariant-loop-row
invariant-loop-row l = map view l.items.items ≡ map (λ x. row_data (row_of x)) (take l.row-index l.path)

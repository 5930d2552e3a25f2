use Rattle.std.proofs.Common.{◌≡◌, map, take}
use Rattle.serde_json.specs.View.{view}
use Rattle.kishu_model.specs.Answers.{output_data}
use Rattle.kishu_meaning.specs.values.Values.{output_of}
use Rattle.kishu_outputs.proofs.outputs.outputs_json.Given as goal

abbrev pub invariant-loop-output : goal.invariant-loop-output
invariant-loop-output l = map view l.items.items ≡ map (λ o. output_data l.count (output_of o)) (take l.output-index l.output-items)

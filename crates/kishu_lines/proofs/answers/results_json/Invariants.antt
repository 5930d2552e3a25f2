use Rattle.std.proofs.Common.{◌≡◌, map, take}
use Rattle.serde_json.specs.View.{view}
use Rattle.kishu_model.specs.Answers.{counted_data}
use Rattle.kishu_model.specs.Values.{counted_of}
use Rattle.kishu_lines.proofs.answers.results_json.Given as goal

abbrev pub invariant-loop-counted : goal.invariant-loop-counted
invariant-loop-counted l = map view l.items.items ≡ map (λ x. counted_data (counted_of x)) (take l.counted-index l.results)

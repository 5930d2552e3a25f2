use Rattle.std.proofs.Common.{◌≡◌, map, take}
use Rattle.serde_json.specs.View.{view}
use Rattle.kishu_model.specs.Answers.{entry_data}
use Rattle.kishu_model.specs.Values.{entry_of}
use Rattle.kishu_lines.proofs.answers.branches_json.Given as goal

abbrev pub invariant-loop-branch : goal.invariant-loop-branch
invariant-loop-branch l = map view l.items.items ≡ map (λ x. entry_data (entry_of x)) (take l.branch-index l.branches)

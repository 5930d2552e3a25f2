use Rattle.std.proofs.Common.{◌≡◌, map, take}
use Rattle.serde_json.specs.View.{view}
use Rattle.serde_json.specs.Data.{string}
use Rattle.std.specs.Rc.{rc_str_bytes}
use Rattle.kishu_lines.proofs.answers.texts_json.Given as goal

abbrev pub invariant-loop-text : goal.invariant-loop-text
invariant-loop-text l = map view l.items.items ≡ map (λ x. string (rc_str_bytes x)) (take l.text-index l.texts)

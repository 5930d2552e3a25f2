use Rattle.std.proofs.Common.{ℕ, List, Option, option_and_then, ap, ◌∙◌}
use Rattle.std.proofs.lemmas.Result.{IfOk-weaker}
use Rattle.serde_json.specs.View.{view}
use Rattle.kishu_model.specs.Reading.{asked_in, request_in}
use Rattle.kishu_lines.proofs.reading.request_in.Goals as goal

pub returns-in-Some : goal.returns-in-Some
unfolding request_in
returns-in-Some c =
    let d = view c.args.value.now in
    IfOk-weaker c.asked_in.result _ _ (λ o told. told ∙ ap (λ (op : Option (List ℕ)). option_and_then (λ word. asked_in word d) op) c.in-Some.ensures) c.asked_in.ensures

pub returns-in-None : goal.returns-in-None
unfolding request_in
returns-in-None c = ap (λ (op : Option (List ℕ)). option_and_then (λ word. asked_in word (view c.args.value.now)) op) c.in-None.ensures

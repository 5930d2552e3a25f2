use Rattle.std.proofs.Common.{◌≡◌, List, map, sym, ap, ◌∙◌, rules}
use Rattle.std.proofs.lemmas.List.{take_all}
use Rattle.serde_json.specs.Data.{Data, array}
use Rattle.serde_json.specs.View.{view, items_of}
use Rattle.serde_json.specs.declared.value.Value.{the_lemmas}
use Rattle.serde_json.specs.declared.value.Value.TheVariants.{Array}
use Rattle.kishu_model.specs.Answers.{output_data}
use Rattle.kishu_meaning.specs.values.Values.{output_of}
use Rattle.kishu_outputs.proofs.Lists.{one_map}
use Rattle.kishu_outputs.proofs.outputs.outputs_json.Goals as goal

pub returns : goal.returns
returns c =
    let outputs = c.args.ran.now.outputs.items in
    let count = c.args.count in
    let whole : map view c.loop-output.items.items ≡ map (λ o. output_data count (output_of o)) outputs =
    c.loop-output.invariant ∙ ap (map (λ o. output_data count (output_of o))) (take_all c.loop-output.output-index c.deref-output-items.result.now c.loop-output-test.false ∙ c.deref-output-items.ensures.value) in
    let seen : view (Array c.loop-output.items) ≡ array (items_of (map view c.loop-output.items.items)) = search (rules, the_lemmas) in
    seen ∙ ap (λ (ds : List Data). array (items_of ds)) (whole ∙ sym (one_map (output_data count) output_of outputs))

use Rattle.std.proofs.Common.{◌≡◌, List, map, sym, ap, ◌∙◌, rules}
use Rattle.std.proofs.lemmas.List.{take_all}
use Rattle.serde_json.specs.Data.{Data, array}
use Rattle.serde_json.specs.View.{view, items_of}
use Rattle.serde_json.specs.declared.value.Value.{the_lemmas}
use Rattle.serde_json.specs.declared.value.Value.TheVariants.{Array}
use Rattle.kishu_model.specs.Answers.{counted_data}
use Rattle.kishu_model.specs.Values.{counted_of}
use Rattle.kishu_lines.proofs.Lists.{one_map}
use Rattle.kishu_lines.proofs.answers.results_json.Goals as goal

pub returns : goal.returns
returns c =
    let xs = c.args.results.now in
    let whole : map view c.loop-counted.items.items ≡ map (λ x. counted_data (counted_of x)) xs =
    c.loop-counted.invariant ∙ ap (map (λ x. counted_data (counted_of x))) (take_all c.loop-counted.counted-index xs c.loop-counted-test.false) in
    let seen : view (Array c.loop-counted.items) ≡ array (items_of (map view c.loop-counted.items.items)) = search (rules, the_lemmas) in
    seen ∙ ap (λ (ds : List Data). array (items_of ds)) (whole ∙ sym (one_map counted_data counted_of xs))

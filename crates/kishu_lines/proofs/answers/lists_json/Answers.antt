use Rattle.std.proofs.Common.{◌≡◌, List, map, sym, ap, ◌∙◌, rules}
use Rattle.std.proofs.lemmas.List.{take_all}
use Rattle.serde_json.specs.Data.{Data, array}
use Rattle.serde_json.specs.View.{view, items_of}
use Rattle.serde_json.specs.declared.value.Value.{the_lemmas}
use Rattle.serde_json.specs.declared.value.Value.TheVariants.{Array}
use Rattle.kishu_model.specs.Answers.{node_data}
use Rattle.kishu_model.specs.Values.{texts_of}
use Rattle.kishu_lines.proofs.Lists.{one_map}
use Rattle.kishu_lines.proofs.answers.lists_json.Goals as goal

pub returns : goal.returns
returns c =
    let xs = c.args.lists.now in
    let whole : map view c.loop-list.items.items ≡ map (λ x. node_data (texts_of x)) xs =
    c.loop-list.invariant ∙ ap (map (λ x. node_data (texts_of x))) (take_all c.loop-list.list-index xs c.loop-list-test.false) in
    let seen : view (Array c.loop-list.items) ≡ array (items_of (map view c.loop-list.items.items)) = search (rules, the_lemmas) in
    seen ∙ ap (λ (ds : List Data). array (items_of ds)) (whole ∙ sym (one_map node_data texts_of xs))

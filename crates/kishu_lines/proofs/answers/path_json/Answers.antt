use Rattle.std.proofs.Common.{◌≡◌, List, map, sym, ap, ◌∙◌, rules}
use Rattle.std.proofs.lemmas.List.{take_all}
use Rattle.serde_json.specs.Data.{Data, array}
use Rattle.serde_json.specs.View.{view, items_of}
use Rattle.serde_json.specs.declared.value.Value.{the_lemmas}
use Rattle.serde_json.specs.declared.value.Value.TheVariants.{Array}
use Rattle.kishu_model.specs.Answers.{row_data}
use Rattle.kishu_model.specs.Values.{row_of}
use Rattle.kishu_lines.proofs.Lists.{one_map}
use Rattle.kishu_lines.proofs.answers.path_json.Goals as goal

pub returns : goal.returns
returns c =
    let xs = c.args.path.now in
    let whole : map view c.loop-row.items.items ≡ map (λ x. row_data (row_of x)) xs =
    c.loop-row.invariant ∙ ap (map (λ x. row_data (row_of x))) (take_all c.loop-row.row-index xs c.loop-row-test.false) in
    let seen : view (Array c.loop-row.items) ≡ array (items_of (map view c.loop-row.items.items)) = search (rules, the_lemmas) in
    seen ∙ ap (λ (ds : List Data). array (items_of ds)) (whole ∙ sym (one_map row_data row_of xs))

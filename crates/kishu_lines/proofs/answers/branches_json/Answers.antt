use Rattle.std.proofs.Common.{◌≡◌, List, map, sym, ap, ◌∙◌, rules}
use Rattle.std.proofs.lemmas.List.{take_all}
use Rattle.serde_json.specs.Data.{Data, array}
use Rattle.serde_json.specs.View.{view, items_of}
use Rattle.serde_json.specs.declared.value.Value.{the_lemmas}
use Rattle.serde_json.specs.declared.value.Value.TheVariants.{Array}
use Rattle.kishu_model.specs.Answers.{entry_data}
use Rattle.kishu_model.specs.Values.{entry_of}
use Rattle.kishu_lines.proofs.Lists.{one_map}
use Rattle.kishu_lines.proofs.answers.branches_json.Goals as goal

pub returns : goal.returns
returns c =
    let xs = c.args.branches.now in
    let whole : map view c.loop-branch.items.items ≡ map (λ x. entry_data (entry_of x)) xs =
    c.loop-branch.invariant ∙ ap (map (λ x. entry_data (entry_of x))) (take_all c.loop-branch.branch-index xs c.loop-branch-test.false) in
    let seen : view (Array c.loop-branch.items) ≡ array (items_of (map view c.loop-branch.items.items)) = search (rules, the_lemmas) in
    seen ∙ ap (λ (ds : List Data). array (items_of ds)) (whole ∙ sym (one_map entry_data entry_of xs))

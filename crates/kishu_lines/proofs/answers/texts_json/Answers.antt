use Rattle.std.proofs.Common.{◌≡◌, List, map, sym, ap, ◌∙◌, rules}
use Rattle.std.proofs.lemmas.List.{take_all}
use Rattle.serde_json.specs.Data.{Data, array, string}
use Rattle.serde_json.specs.View.{view, items_of}
use Rattle.serde_json.specs.declared.value.Value.{the_lemmas}
use Rattle.serde_json.specs.declared.value.Value.TheVariants.{Array}
use Rattle.std.specs.Rc.{rc_str_bytes}
use Rattle.kishu_lines.proofs.Lists.{one_map}
use Rattle.kishu_lines.proofs.answers.texts_json.Goals as goal

pub returns : goal.returns
returns c =
    let xs = c.args.texts.now in
    let whole : map view c.loop-text.items.items ≡ map (λ x. string (rc_str_bytes x)) xs =
    c.loop-text.invariant ∙ ap (map (λ x. string (rc_str_bytes x))) (take_all c.loop-text.text-index xs c.loop-text-test.false) in
    let seen : view (Array c.loop-text.items) ≡ array (items_of (map view c.loop-text.items.items)) = search (rules, the_lemmas) in
    seen ∙ ap (λ (ds : List Data). array (items_of ds)) (whole ∙ sym (one_map string rc_str_bytes xs))

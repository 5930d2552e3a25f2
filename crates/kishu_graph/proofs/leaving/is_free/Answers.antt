use Rattle.std.proofs.Common.{◌≡◌, ◌∙◌, ap}
use Rattle.std.specs.Rc.{rc_str_bytes}
use Rattle.kishu_language.specs.tokens.Names.{is_among}
use Rattle.kishu_graph.specs.Walks.{all_texts}
use Rattle.kishu_graph.proofs.Gone.{among_texts}
use Rattle.kishu_graph.proofs.HeldFits.{free-not, free-gone}
use Rattle.kishu_graph.proofs.leaving.is_free.Goals as goal

pub returns-then-not-contains : goal.returns-then-not-contains
returns-then-not-contains c =
    let x = rc_str_bytes c.args.name.now in
    let names = c.args.names.now.keys in
    let there : c.contains.result ≡ is_among x (all_texts names) = c.contains.ensures ∙ among_texts c.as_str.result.now names ∙ ap (λ y. is_among y (all_texts names)) c.as_str.ensures.value in
    free-not c.contains.result (is_among x (all_texts names)) (is_among x (all_texts c.args.gone.now.keys)) there c.if-not-contains.true

pub returns-else-not-contains : goal.returns-else-not-contains
returns-else-not-contains c =
    let x = rc_str_bytes c.args.name.now in
    let names = c.args.names.now.keys in
    let gone = c.args.gone.now.keys in
    let there : c.contains.result ≡ is_among x (all_texts names) = c.contains.ensures ∙ among_texts c.as_str.result.now names ∙ ap (λ y. is_among y (all_texts names)) c.as_str.ensures.value in
    let last : c.contains-else-not-contains.result ≡ is_among x (all_texts gone) =
    c.contains-else-not-contains.ensures ∙ among_texts c.as_str-else-not-contains.result.now gone ∙ ap (λ y. is_among y (all_texts gone)) c.as_str-else-not-contains.ensures.value in
    free-gone c.contains.result (is_among x (all_texts names)) c.contains-else-not-contains.result (is_among x (all_texts gone)) there c.if-not-contains.false last

use Rattle.std.proofs.Common.{◌≡◌, ◌∙◌, ◌∷◌, [], List, ℕ, Bool, false, map, take, get_or, ap, sym, subst}
use Rattle.std.proofs.lemmas.List.{map_more}
use Rattle.std.proofs.lemmas.Map.Text.{is_eq-slice_cmp}
use Rattle.std.specs.BTreeMap.{is_at}
use Rattle.std.specs.Cmp.Lexicographic.{slice_cmp}
use Rattle.std.specs.List.{list_any}
use Rattle.std.specs.Ordering.{nat_cmp}
use Rattle.std.specs.Prelude.{if◌then◌else◌}
use Rattle.std.specs.Rc.{rc_str_bytes}
use Rattle.std.specs.Str.{bytes_eq}
use Rattle.kishu_graph.specs.Heads.{Lack}
use Rattle.kishu_graph.specs.Walks.{all_texts}
use Rattle.kishu_graph.proofs.Gone.{among_texts}
use Rattle.kishu_graph.proofs.RowsLeft.{lack-more, one-lacks}
use Rattle.kishu_graph.proofs.heads.take_names.Goals as goal

pub loop-name-preserved : goal.loop-name-preserved
loop-name-preserved c =
    let names = c.args.group.now in
    let at = c.loop-name.name-index in
    let x = c.as_str.result.now in
    let now = c.loop-name.names.keys in
    let new = c.remove.new.self.keys in
    let here : x ≡ rc_str_bytes (get_or names at c.name-item.result) = c.as_str.ensures.value ∙ ap rc_str_bytes c.name-item.is in
    let one : Lack (x ∷ []) (all_texts now) (all_texts new) = one-lacks x now new
    (λ q. sym (among_texts (rc_str_bytes q) new)
    ∙ c.remove.ensures.updates.0 q
    ∙ ap (λ (b : Bool). if b then false else list_any (is_at (λ k. slice_cmp nat_cmp (rc_str_bytes q) (rc_str_bytes k))) now) (is_eq-slice_cmp x (rc_str_bytes q))
    ∙ ap (λ (b : Bool). if bytes_eq x (rc_str_bytes q) then false else b) (among_texts (rc_str_bytes q) now)) in
    subst (λ (l : List (List ℕ)). Lack l (all_texts c.args.names.now.keys) (all_texts new)) (sym (map_more rc_str_bytes names at c.name-item.result c.loop-name-test.true))
    (lack-more (map rc_str_bytes (take at names)) (rc_str_bytes (get_or names at c.name-item.result)) (all_texts c.args.names.now.keys) (all_texts now) (all_texts new) c.loop-name.invariant
    (subst (λ (y : List ℕ). Lack (y ∷ []) (all_texts now) (all_texts new)) here one))

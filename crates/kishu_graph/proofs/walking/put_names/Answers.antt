use Rattle.std.proofs.Common.{◌≡◌, ◌∙◌, ◌∷◌, ◌++◌, List, ℕ, map, take, get_or, ap, sym, subst}
use Rattle.std.proofs.lemmas.List.{map_more}
use Rattle.std.specs.Rc.{rc_str_bytes}
use Rattle.kishu_graph.specs.Walks.{all_texts, HaveSame}
use Rattle.kishu_graph.proofs.Gone.{key_in, one_gone}
use Rattle.kishu_graph.proofs.walking.put_names.Goals as goal

pub loop-name-preserved : goal.loop-name-preserved
loop-name-preserved c =
    let names = c.args.names.now in
    let at = c.loop-name.name-index in
    let item = c.name-item.result in
    let key = c.in_ok-clone.field-0 in
    let old = all_texts c.args.among.now.keys in
    let keys = c.loop-name.among.keys in
    let here : rc_str_bytes key ≡ rc_str_bytes (get_or names at item) = c.in_ok-clone.ensures.cases ∙ ap rc_str_bytes c.name-item.is in
    let put : HaveSame (all_texts c.insert.new.self.keys) (rc_str_bytes key ∷ all_texts keys) = subst (λ ks. HaveSame (all_texts ks) (rc_str_bytes key ∷ all_texts keys)) (sym c.in_ok-insert.ensures.keys) (key_in key keys) in
    let one : HaveSame (all_texts c.insert.new.self.keys) (rc_str_bytes (get_or names at item) ∷ all_texts keys) = subst (λ (x : List ℕ). HaveSame (all_texts c.insert.new.self.keys) (x ∷ all_texts keys)) here put in
    subst (λ (l : List (List ℕ)). HaveSame (all_texts c.insert.new.self.keys) (l ++ old)) (sym (map_more rc_str_bytes names at item c.loop-name-test.true))
    (one_gone (map rc_str_bytes (take at names)) (rc_str_bytes (get_or names at item)) old (all_texts keys) (all_texts c.insert.new.self.keys) c.loop-name.invariant one)

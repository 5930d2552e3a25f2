use Rattle.std.proofs.Common.{◌≡◌, ◌∙◌, ◌∷◌, ◌++◌, [], List, ℕ, map, take, get_or, refl, ap, sym, subst}
use Rattle.std.proofs.lemmas.List.{map_more}
use Rattle.std.specs.Rc.{rc_str_bytes}
use Rattle.kishu_store_laws.specs.WalkLaws.{rows_left}
use Rattle.kishu_graph.specs.Heads.{Holds}
use Rattle.kishu_graph.proofs.RowsLeft.{left-all, left-each, left-left}
use Rattle.kishu_graph.proofs.heads.HeadRows.leave_out.Goals as goal

pub loop-first-init : goal.loop-first-init
loop-first-init c = record { commit = refl; stand = c.requires; left = λ t s h. subst (Holds c.args.self.now) (sym (left-all t)) h }

pub loop-first-preserved : goal.loop-first-preserved
loop-first-preserved c =
    let firsts = c.args.firsts.now in
    let at = c.loop-first.first-index in
    let item = c.first-item.result in
    let before = map rc_str_bytes (take at firsts) in
    let x = rc_str_bytes (get_or firsts at item) in
    let new = c.leave_out_one.new.self in
    record {
      commit = c.leave_out_one.ensures.commit ∙ c.loop-first.invariant.commit;
      stand = c.leave_out_one.ensures.stand;
      left = λ t s h.
          let one = c.leave_out_one.ensures.left (rows_left before t) (left-each before t s) (c.loop-first.invariant.left t s h) in
          let here : rows_left (rc_str_bytes item ∷ []) (rows_left before t) ≡ rows_left (before ++ (x ∷ [])) t = ap (λ (y : List ℕ). rows_left (y ∷ []) (rows_left before t)) (ap rc_str_bytes c.first-item.is) ∙ left-left before (x ∷ []) t in
          subst (λ (l : List (List ℕ)). Holds new (rows_left l t)) (sym (map_more rc_str_bytes firsts at item c.loop-first-test.true)) (subst (Holds new) here one);
    }

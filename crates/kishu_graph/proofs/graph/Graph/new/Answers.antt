use Rattle.std.proofs.Common.{◌∷◌, ◌++◌, [], ◌∙◌, ℕ, List, Some, get_or, length, map, ap, refl, sym, subst, arith}
use Rattle.std.specs.Rc.{rc_str_bytes}
use Rattle.kishu_language.specs.declared.profile.Profile.TheVariants.{One}
use Rattle.kishu_store.specs.declared.target.Target as rust_target
use Rattle.kishu_graph.specs.Kept.{AreBelow, HaveLines, branches_of, outline, note}
use Rattle.kishu_graph.specs.declared.commits.Commit as rust
use Rattle.kishu_graph.specs.declared.tables.Noted as rust_noted
use Rattle.kishu_graph.proofs.Counted.{new-kept}
use Rattle.kishu_graph.proofs.HeadsKept.{root-head}
use Rattle.kishu_graph.proofs.Soundness.{stay_below}
use Rattle.kishu_graph.proofs.graph.Graph.new.Goals as goal

pub invariant_of-result : goal.invariant_of-result
invariant_of-result c =
    let k : rust.Commit = record { parent = 0; cells = 0; profile = One } in
    let commits = c.in_ok-push.ensures.items ∙ ap (λ (l : List rust.Commit). l ++ (k ∷ [])) c.new-commits.ensures.items in
    let noted = c.in_ok-push-2.ensures.items ∙ ap (λ (l : List rust_noted.Noted). l ++ (c.bare.result ∷ [])) c.new-noted.ensures.items in
    let none = subst (λ es. AreBelow 1 (branches_of es)) (sym c.new-branches.ensures.empty) tt in
    let main = subst (AreBelow 1) (sym c.in_ok-put.ensures.ok) (stay_below 1 (rc_str_bytes c.in_ok-clone.field-0) 0 (branches_of c.new-branches.result.entries) (omega arith) none) in
    let head : rust_target.Target = record { commit = 0; branch = Some c.in_ok-main.main } in
    let kept = new-kept c.push.new.self.items c.put.new.branches.entries head c.push-2.new.self.items k c.bare.result commits refl refl main noted c.bare.ensures.rows in
    let lines : HaveLines c.in_ok-lines.lines (length (map outline c.push.new.self.items)) = record {
      cut = c.in_ok-lines.ensures.cut;
      each = c.in_ok-lines.ensures.one ∙ sym (ap (λ (l : List rust.Commit). length (map outline l)) commits);
      root_is = ap (λ (ls : List (List ℕ)). get_or ls 0 []) c.in_ok-lines.ensures.lines;
    } in
    (kept, (root-head (map outline c.push.new.self.items) (map note c.push-2.new.self.items) c.of_root-2.result (let some = kept.0.head in omega (arith, some)) c.of_root-2.ensures.commit c.of_root-2.ensures.stand c.of_root-2.ensures.holds, lines))

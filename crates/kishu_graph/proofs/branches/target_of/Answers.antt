use Rattle.std.proofs.Common.{◌≡◌, ◌∙◌, ℕ, List, Some, None, ap, sym}
use Rattle.std.specs.Prelude.{option_map}
use Rattle.std.specs.Rc.{rc_str_bytes}
use Rattle.kishu_store.specs.Branches.{commit_of}
use Rattle.kishu_graph.specs.Kept.{branches_of}
use Rattle.kishu_graph.proofs.Named.{finds}
use Rattle.kishu_graph.proofs.Ordered.{tied}
use Rattle.kishu_graph.proofs.branches.target_of.Goals as goal

pub returns-in_ok-clone-in-Some : goal.returns-in_ok-clone-in-Some
returns-in_ok-clone-in-Some c =
    let name = c.args.name.now in
    let found : Some c.in-Some.commit.now ≡ commit_of name (branches_of c.args.branches.now.entries) = c.in-Some.ensures.value ∙ finds name c.args.branches.now.entries in
    let text : rc_str_bytes c.in_ok-clone-in-Some.field-0 ≡ name = c.in_ok-clone-in-Some.ensures.cases ∙ sym (tied name (rc_str_bytes c.in-Some.text.now) c.in-Some.ensures.same_key) in
    ap (λ (t : List ℕ). Some (record { commit = c.in-Some.commit.now; branch = Some t })) text ∙ ap (option_map (λ (n : ℕ). record { commit = n; branch = Some name })) found

pub returns-in-None : goal.returns-in-None
returns-in-None c =
    let name = c.args.name.now in
    let found : None ≡ commit_of name (branches_of c.args.branches.now.entries) = c.in-None.ensures.value ∙ finds name c.args.branches.now.entries in
    ap (option_map (λ (n : ℕ). record { commit = n; branch = Some name })) found

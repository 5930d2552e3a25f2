use Rattle.std.proofs.Common.{◌≡◌, ◌<◌, ◌∙◌, ap, sym, subst, true, Option, List, ℕ, length, map}
use Rattle.std.specs.Prelude.{option_map, IfSome}
use Rattle.kishu_store.specs.Branches.{commit_of}
use Rattle.kishu_store.specs.Graph.{Target}
use Rattle.kishu_store.specs.References.{is_decimal, number_from}
use Rattle.kishu_graph.specs.Kept.{Kept, AreBelow, outline, branches_of, with_lines}
use Rattle.kishu_graph.specs.Refusals.{at_commit}
use Rattle.kishu_graph.proofs.Changing.{commit-there, resolves-number}
use Rattle.kishu_graph.proofs.Soundness.{finds_below}
use Rattle.kishu_graph.specs.Buffers.{lines_in}
use Rattle.kishu_graph.proofs.LinesKept.{length-told}
use Rattle.kishu_graph.proofs.graph.Graph.find.Goals as goal

pub returns-then-is_decimal-clause-value : goal.returns-then-is_decimal-clause-value
returns-then-is_decimal-clause-value c g s =
    let to = c.args.to.now in
    let digits = c.as_bytes-digits.result.now in
    let same : digits ≡ to = c.as_bytes-digits.ensures.value in
    let decimal : is_decimal to ≡ true = sym (ap is_decimal same) ∙ sym c.is_decimal.ensures ∙ c.if-is_decimal.true in
    commit-there c.args.self.now g s (number_from 0 digits) c.numbered.result c.numbered.ensures
    ∙ ap (λ (l : List ℕ). option_map (λ (t : Target). t.commit) (at_commit (number_from 0 l) g)) same
    ∙ ap (option_map (λ (t : Target). t.commit)) (resolves-number g to decimal)

pub returns-else-is_decimal-clause-there : goal.returns-else-is_decimal-clause-there
returns-else-is_decimal-clause-there c =
    let to = c.args.to.now in
    let branches = branches_of c.self.inside.branches.entries in
    let lines = lines_in c.self.inside.lines in
    let os = map outline c.self.inside.commits.items in
    let below = subst (λ (n : ℕ). AreBelow n branches) (sym (length-told lines os)) c.self.invariant.0.0.branches in
    let found = finds_below (length (with_lines lines os)) to branches below in
    let there = subst (λ (k : Kept). IfSome (commit_of to branches) (λ x. x < length k.commits)) c.self.view_is found in
    subst (λ (o : Option ℕ). IfSome o (λ x. x < length c.args.self.now.commits)) (sym c.commit_of.ensures) there

use Rattle.std.proofs.Common.{◌<◌, ℕ, sym, subst, Some, length, map}
use Rattle.std.specs.Prelude.{IfSome}
use Rattle.kishu_store.specs.Branches.{commit_of}
use Rattle.kishu_graph.specs.Kept.{Kept, AreBelow, outline, branches_of, with_lines}
use Rattle.kishu_graph.proofs.Soundness.{finds_below}
use Rattle.kishu_graph.proofs.Targets.{target-below}
use Rattle.kishu_graph.specs.Buffers.{lines_in}
use Rattle.kishu_graph.proofs.LinesKept.{length-told}
use Rattle.kishu_graph.proofs.graph.Graph.move_to_branch.Goals as goal

pub stand_at-requires : goal.stand_at-requires
stand_at-requires c =
    let name = c.args.name.now in
    let branches = branches_of c.self.inside.branches.entries in
    let lines = lines_in c.self.inside.lines in
    let os = map outline c.self.inside.commits.items in
    let below = subst (λ (n : ℕ). AreBelow n branches) (sym (length-told lines os)) c.self.invariant.0.0.branches in
    let found = finds_below (length (with_lines lines os)) name branches below in
    let there = subst (λ (k : Kept). IfSome (commit_of name branches) (λ x. x < length k.commits)) c.self.view_is found in
    record { there = target-below (length c.args.self.now.commits) (Some name) c.in-Ok.target (commit_of name branches) c.in-Ok.ensures there }

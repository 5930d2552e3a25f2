use Rattle.std.proofs.Common.{◌∙◌, List, ap, length, map, sym, arith}
use Rattle.std.proofs.lemmas.Result.{IfOk-weaker}
use Rattle.kishu_graph.specs.Buffers.{lines_in}
use Rattle.kishu_graph.specs.declared.commits.Commit as rust
use Rattle.kishu_graph.specs.Facts.{Answers, ArePath}
use Rattle.kishu_graph.specs.Kept.{Kept, outline, parents_of, path_numbers}
use Rattle.kishu_graph.proofs.LinesKept.{count-told, parents-told}
use Rattle.kishu_graph.proofs.graph.Graph.path.Goals as goal

pub path_to-requires-clause-there : goal.path_to-requires-clause-there
path_to-requires-clause-there c =
    omega (arith, c.requires, ap length c.deref.ensures.value, count-told (lines_in c.self.inside.lines) c.self.inside.commits.items, ap (λ (k : Kept). length k.commits) c.self.view_is)

pub returns : goal.returns
returns c =
    IfOk-weaker c.path_to.result (λ v. ArePath c.deref.result.now c.args.commit v.items) (λ v. Answers c.args.self.now (λ g. path_numbers g.commits c.args.commit) v.items)
    (λ v is g s.
    is g.commits
    (ap (λ (l : List rust.Commit). parents_of (map outline l)) c.deref.ensures.value
    ∙ sym (parents-told (lines_in c.self.inside.lines) (map outline c.self.inside.commits.items))
    ∙ ap (λ (k : Kept). parents_of k.commits) c.self.view_is
    ∙ s.parents))
    c.path_to.ensures

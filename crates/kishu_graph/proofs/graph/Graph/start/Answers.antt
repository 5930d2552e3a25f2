use Rattle.std.proofs.Common.{ap, length, map, arith}
use Rattle.kishu_graph.specs.Buffers.{lines_in}
use Rattle.kishu_graph.specs.Kept.{Kept, outline}
use Rattle.kishu_graph.proofs.LinesKept.{length-told}
use Rattle.kishu_graph.proofs.graph.Graph.start.Goals as goal

pub returns-in-None-clause-there : goal.returns-in-None-clause-there
returns-in-None-clause-there c =
    let head = c.self.invariant.0.0.head in
    omega (arith, head, length-told (lines_in c.self.inside.lines) (map outline c.self.inside.commits.items), ap (λ (k : Kept). length k.commits) c.self.view_is)

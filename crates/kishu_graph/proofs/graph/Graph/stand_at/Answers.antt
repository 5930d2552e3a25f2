use Rattle.std.proofs.Common.{◌+◌, ap, length, map, arith}
use Rattle.kishu_graph.specs.Buffers.{lines_in}
use Rattle.kishu_graph.specs.Kept.{Kept, IsSound, kept_in, outline}
use Rattle.kishu_graph.proofs.LinesKept.{length-told}
use Rattle.kishu_graph.proofs.graph.Graph.stand_at.Goals as goal

pub invariant_of-self : goal.invariant_of-self
invariant_of-self c =
    let there = rw c.in-Some.is at c.requires.there in
    let was = c.self.invariant.0.0 in
    let sound : IsSound (kept_in c.self.inside.commits.items c.self.inside.branches.entries c.in-Some.target (c.self.inside.records + 1) c.self.inside.noted.items) = record {
      root_is = was.root_is;
      parents = was.parents;
      head = omega (arith, there, ap (λ (k : Kept). length k.commits) c.self.view_is, length-told (lines_in c.self.inside.lines) (map outline c.self.inside.commits.items));
      branches = was.branches;
      few = omega (arith, was.few);
      records = omega (arith, c.if-self-ge-MOST_RECORDS.false);
      noted = was.noted;
    } in
    ((sound, c.self.invariant.0.1), c.self.invariant.1)

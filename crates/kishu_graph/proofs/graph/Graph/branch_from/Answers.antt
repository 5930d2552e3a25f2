use Rattle.std.proofs.Common.{◌<◌, ◌+◌, ap, sym, subst, arith, length, map}
use Rattle.std.specs.Rc.{rc_str_bytes}
use Rattle.kishu_graph.specs.Kept.{Kept, IsSound, kept_in, outline, branches_of, AreBelow}
use Rattle.kishu_graph.proofs.Soundness.{stay_below}
use Rattle.kishu_graph.specs.Buffers.{lines_in}
use Rattle.kishu_graph.proofs.LinesKept.{length-told}
use Rattle.kishu_graph.proofs.graph.Graph.branch_from.Goals as goal

pub invariant_of-self-2 : goal.invariant_of-self-2
invariant_of-self-2 c =
    let most = length (map outline c.self.inside.commits.items) in
    let there = rw c.in-Some.is at c.requires.there in
    let below : c.in-Some.commit < most = omega (arith, there, ap (λ (k : Kept). length k.commits) c.self.view_is, length-told (lines_in c.self.inside.lines) (map outline c.self.inside.commits.items)) in
    let was = c.self.invariant.0.0 in
    let branches = stay_below most (rc_str_bytes c.in-Ok.text) c.in-Some.commit (branches_of c.self.inside.branches.entries) below was.branches in
    let sound : IsSound (kept_in c.self.inside.commits.items c.put.new.branches.entries c.self.inside.head (c.self.inside.records + 1) c.self.inside.noted.items) = record {
      root_is = was.root_is;
      parents = was.parents;
      head = was.head;
      branches = subst (AreBelow most) (sym c.in-Ok-put.ensures.ok) branches;
      few = omega (arith, was.few);
      records = omega (arith, c.if-self-ge-MOST_RECORDS.false);
      noted = was.noted;
    } in
    ((sound, c.self.invariant.0.1), c.self.invariant.1)

use Rattle.std.proofs.Common.{ap, length, sym, subst, arith}
use Rattle.kishu_graph.specs.Buffers.{lines_in}
use Rattle.kishu_graph.specs.Kept.{Kept, HasShapeOf, IsSound, kept_in}
use Rattle.kishu_graph.specs.Laws.{count-shape, bare-shape}
use Rattle.kishu_graph.proofs.LinesKept.{count-told, sound-told}
use Rattle.kishu_graph.proofs.graph.Graph.commits.Goals as goal

pub returns-clause-value : goal.returns-clause-value
returns-clause-value c =
    let items = c.self.inside.commits.items in
    omega (arith, c.len.ensures, c.self.inside.commits.ok.0, count-told (lines_in c.self.inside.lines) items, ap (λ (k : Kept). length k.commits) c.self.view_is)

pub returns-clause-newest : goal.returns-clause-newest
returns-clause-newest c g s =
    let inside = subst (λ (k : Kept). HasShapeOf k g) (sym c.self.view_is) s in
    omega (arith, c.len.ensures, c.self.inside.commits.ok.0, count-told (lines_in c.self.inside.lines) c.self.inside.commits.items, count-shape _ g inside)

pub returns-clause-sound : goal.returns-clause-sound
returns-clause-sound c =
    let kept = kept_in c.self.inside.commits.items c.self.inside.branches.entries c.self.inside.head c.self.inside.records c.self.inside.noted.items in
    subst IsSound c.self.view_is (sound-told c.self.inside.lines kept c.self.invariant.1.1 c.self.invariant.0.0)

pub returns-clause-shape : goal.returns-clause-shape
returns-clause-shape c =
    let kept = kept_in c.self.inside.commits.items c.self.inside.branches.entries c.self.inside.head c.self.inside.records c.self.inside.noted.items in
    bare-shape c.args.self.now (subst IsSound c.self.view_is (sound-told c.self.inside.lines kept c.self.invariant.1.1 c.self.invariant.0.0))

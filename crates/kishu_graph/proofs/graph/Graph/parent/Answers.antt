use Rattle.std.proofs.Common.{refl, sym, subst, ap, ◌∙◌, ◌<◌, length, map, arith}
use Rattle.kishu_graph.specs.Kept.{Kept, Outline, HasShapeOf, outline}
use Rattle.kishu_graph.specs.declared.commits.Commit as rust
use Rattle.kishu_graph.proofs.Outlines.{kept-at, parent-below}
use Rattle.kishu_graph.specs.Buffers.{lines_in}
use Rattle.kishu_graph.proofs.LinesKept.{count-told, field-told}
use Rattle.kishu_graph.proofs.graph.Graph.parent.Goals as goal

pub index-requires : goal.index-requires
index-requires c = omega (arith, c.requires.there, ap (λ (k : Kept). length k.commits) c.self.view_is, count-told (lines_in c.self.inside.lines) c.self.inside.commits.items, c.self.inside.commits.ok.0)

pub returns-clause-value : goal.returns-clause-value
returns-clause-value c g s =
    let inside = subst (λ (k : Kept). HasShapeOf k g) (sym c.self.view_is) s in
    let commits = c.self.inside.commits.items in
    let there : c.args.commit < length commits = omega (arith, c.requires.there, ap (λ (k : Kept). length k.commits) c.self.view_is, count-told (lines_in c.self.inside.lines) commits) in
    ap (λ (k : rust.Commit). k.parent) c.index.ensures ∙ kept-at commits g.commits (λ (o : Outline). o.parent) (sym (field-told (λ (o : Outline). o.parent) (λ l o. refl) (lines_in c.self.inside.lines) (map outline commits)) ∙ inside.parents) c.args.commit c.index.result.now there

pub returns-clause-older : goal.returns-clause-older
returns-clause-older c =
    let commits = c.self.inside.commits.items in
    let there : c.args.commit < length commits = omega (arith, c.requires.there, ap (λ (k : Kept). length k.commits) c.self.view_is, count-told (lines_in c.self.inside.lines) commits) in
    subst (λ (k : rust.Commit). k.parent < c.args.commit) (sym c.index.ensures) (parent-below commits c.args.commit c.index.result.now c.self.invariant.0.0.parents c.requires.not_root there)

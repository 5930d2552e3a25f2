use Rattle.std.proofs.Common.{refl, sym, subst, ap, ◌∙◌, ◌<◌, length, map, arith}
use Rattle.kishu_graph.specs.Kept.{Kept, Outline, HasShapeOf, outline}
use Rattle.kishu_graph.specs.declared.commits.Commit as rust
use Rattle.kishu_graph.proofs.Outlines.{kept-at}
use Rattle.kishu_graph.specs.Buffers.{lines_in}
use Rattle.kishu_graph.proofs.LinesKept.{count-told, field-told}
use Rattle.kishu_graph.proofs.graph.Graph.profile.Goals as goal

pub index-requires : goal.index-requires
index-requires c = omega (arith, c.requires, ap (λ (k : Kept). length k.commits) c.self.view_is, count-told (lines_in c.self.inside.lines) c.self.inside.commits.items, c.self.inside.commits.ok.0)

pub returns : goal.returns
returns c g s =
    let inside = subst (λ (k : Kept). HasShapeOf k g) (sym c.self.view_is) s in
    let commits = c.self.inside.commits.items in
    let there : c.args.commit < length commits = omega (arith, c.requires, ap (λ (k : Kept). length k.commits) c.self.view_is, count-told (lines_in c.self.inside.lines) commits) in
    ap (λ (k : rust.Commit). k.profile) c.index.ensures ∙ kept-at commits g.commits (λ (o : Outline). o.profile) (sym (field-told (λ (o : Outline). o.profile) (λ l o. refl) (lines_in c.self.inside.lines) (map outline commits)) ∙ inside.profiles) c.args.commit c.index.result.now there

use Rattle.std.proofs.Common.{refl, sym, subst, ap, ◌∙◌, ◌<◌, length, map, get_or, arith}
use Rattle.std.proofs.lemmas.List.{length-map, get_or-map}
use Rattle.kishu_graph.specs.Kept.{Kept, Outline, TellsCellsOf, outline, root}
use Rattle.kishu_graph.specs.declared.commits.Commit as rust
use Rattle.kishu_graph.proofs.Outlines.{kept-at}
use Rattle.kishu_graph.specs.Buffers.{lines_in}
use Rattle.kishu_graph.proofs.LinesKept.{at-told, count-told, field-told}
use Rattle.kishu_graph.proofs.graph.Graph.cells.Goals as goal

pub index-requires : goal.index-requires
index-requires c = omega (arith, c.requires, ap (λ (k : Kept). length k.commits) c.self.view_is, count-told (lines_in c.self.inside.lines) c.self.inside.commits.items, c.self.inside.commits.ok.0)

pub returns-clause-kept : goal.returns-clause-kept
returns-clause-kept c =
    let commits = c.self.inside.commits.items in
    let there : c.args.commit < length commits = omega (arith, c.requires, ap (λ (k : Kept). length k.commits) c.self.view_is, count-told (lines_in c.self.inside.lines) commits) in
    ap (λ (k : rust.Commit). k.cells) c.index.ensures
    ∙ ap (λ (o : Outline). o.cells) (sym (get_or-map outline commits c.args.commit c.index.result.now root there))
    ∙ ap (λ (o : Outline). o.cells) (sym (at-told (lines_in c.self.inside.lines) (map outline commits) c.args.commit root root (omega (arith, there, length-map commits outline))))
    ∙ ap (λ (k : Kept). (get_or k.commits c.args.commit root).cells) c.self.view_is

pub returns-clause-told : goal.returns-clause-told
returns-clause-told c g t =
    let inside = subst (λ (k : Kept). TellsCellsOf k g) (sym c.self.view_is) t in
    let commits = c.self.inside.commits.items in
    let there : c.args.commit < length commits = omega (arith, c.requires, ap (λ (k : Kept). length k.commits) c.self.view_is, count-told (lines_in c.self.inside.lines) commits) in
    ap (λ (k : rust.Commit). k.cells) c.index.ensures ∙ kept-at commits g.commits (λ (o : Outline). o.cells) (sym (field-told (λ (o : Outline). o.cells) (λ l o. refl) (lines_in c.self.inside.lines) (map outline commits)) ∙ inside.counts) c.args.commit c.index.result.now there

use Rattle.std.proofs.Common.{sym, subst, ap, ◌∙◌, ◌<◌, length, map, get_or, arith}
use Rattle.kishu_graph.specs.Buffers.{lines_in}
use Rattle.kishu_graph.specs.Kept.{Kept, Outline, TellsCellsOf, outline, root, with_lines}
use Rattle.kishu_graph.proofs.LinesKept.{at-told, length-told}
use Rattle.kishu_graph.proofs.Outlines.{told-at}
use Rattle.kishu_graph.proofs.graph.Graph.line.Goals as goal

pub line-requires-clause-cut : goal.line-requires-clause-cut
line-requires-clause-cut c = c.self.invariant.1.1.cut

pub line-requires-clause-there : goal.line-requires-clause-there
line-requires-clause-there c =
    let commits = c.self.inside.commits.items in
    let each = c.self.invariant.1.1.each in
    omega (arith, c.requires, ap (λ (k : Kept). length k.commits) c.self.view_is, length-told (lines_in c.self.inside.lines) (map outline commits), each)

pub returns-clause-kept : goal.returns-clause-kept
returns-clause-kept c =
    let lines = lines_in c.self.inside.lines in
    let os = map outline c.self.inside.commits.items in
    let there : c.args.commit < length os = omega (arith, c.requires, ap (λ (k : Kept). length k.commits) c.self.view_is, length-told lines os) in
    c.line.ensures
    ∙ ap (λ (o : Outline). o.line) (sym (at-told lines os c.args.commit root root there))
    ∙ ap (λ (k : Kept). (get_or k.commits c.args.commit root).line) c.self.view_is

pub returns-clause-told : goal.returns-clause-told
returns-clause-told c g t =
    let inside = subst (λ (k : Kept). TellsCellsOf k g) (sym c.self.view_is) t in
    let lines = lines_in c.self.inside.lines in
    let os = map outline c.self.inside.commits.items in
    let there : c.args.commit < length (with_lines lines os) = omega (arith, c.requires, ap (λ (k : Kept). length k.commits) c.self.view_is) in
    c.line.ensures
    ∙ ap (λ (o : Outline). o.line) (sym (at-told lines os c.args.commit root root (omega (arith, there, length-told lines os))))
    ∙ told-at (λ (o : Outline). o.line) (with_lines lines os) g.commits inside.lines c.args.commit root there

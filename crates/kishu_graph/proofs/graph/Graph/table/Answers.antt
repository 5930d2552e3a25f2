use Rattle.std.proofs.Common.{◌≡◌, ◌∙◌, List, length, map, ap, sym, subst, arith}
use Rattle.std.proofs.lemmas.Result.{IfOk-weaker}
use Rattle.kishu_graph.specs.declared.commits.Commit as rust
use Rattle.kishu_graph.specs.declared.tables.Noted as rust_noted
use Rattle.kishu_graph.specs.Kept.{Kept, CountsRows, count_of, noted_in, note, outline, outlines, parents_of}
use Rattle.kishu_graph.specs.Tables.{table_of_rows, IsTableOf}
use Rattle.kishu_graph.specs.Walks.{rows_in}
use Rattle.kishu_graph.proofs.HeadsKept.{at-hand}
use Rattle.kishu_graph.specs.Buffers.{lines_in}
use Rattle.kishu_graph.proofs.LinesKept.{count-told, parents-told}
use Rattle.kishu_graph.proofs.graph.Graph.table.Goals as goal

pub rows_to-requires-clause-there : goal.rows_to-requires-clause-there
rows_to-requires-clause-there c =
    omega (arith, c.requires.there, ap (λ (k : Kept). length k.commits) c.self.view_is, count-told (lines_in c.self.inside.lines) c.self.inside.commits.items, ap length c.deref.ensures.value)

pub rows_to-requires-clause-counts : goal.rows_to-requires-clause-counts
rows_to-requires-clause-counts c =
    subst (λ (l : List rust.Commit). CountsRows (map outline l) (map note c.deref-2.result.now) (map count_of c.deref-2.result.now)) (sym c.deref.ensures.value)
    (subst (λ (l : List rust_noted.Noted). CountsRows (map outline c.self.inside.commits.items) (map note l) (map count_of l)) (sym c.deref-2.ensures.value) c.self.invariant.0.1)

pub returns : goal.returns
returns c =
    let found = rows_in c.in_ok-found.found.entries in
    IfOk-weaker c.in_order.result (λ t. table_of_rows t ≡ found) (λ t. IsTableOf c.args.self.now c.args.commit (table_of_rows t))
    (λ t same g cs place shape tells k.
    (let parents : parents_of (map outline c.deref.result.now) ≡ parents_of (outlines g.commits) =
    ap (λ (l : List rust.Commit). parents_of (map outline l)) c.deref.ensures.value ∙ sym (parents-told (lines_in c.self.inside.lines) (map outline c.self.inside.commits.items)) ∙ ap (λ (kept : Kept). parents_of kept.commits) c.self.view_is ∙ shape.parents in
    let notes : map note c.deref-2.result.now ≡ noted_in cs = ap (map note) c.deref-2.ensures.value ∙ ap (λ (kept : Kept). kept.noted) c.self.view_is ∙ tells in
    same ∙ c.in_ok-found.ensures.table g cs place parents notes k))
    c.in_order.ensures

pub returns-then-self-commit : goal.returns-then-self-commit
returns-then-self-commit c =
    let h = c.self.inside.head_rows in
    IfOk-weaker c.table.result (λ t. table_of_rows t ≡ rows_in h.rows.entries) (λ t. IsTableOf c.args.self.now c.args.commit (table_of_rows t))
    (λ t same g cs place shape tells k.
    same
    ∙ (at-hand c.args.self.now (map outline c.self.inside.commits.items) (map note c.self.inside.noted.items) h c.args.commit (sym (parents-told (lines_in c.self.inside.lines) (map outline c.self.inside.commits.items)) ∙ ap (λ (kept : Kept). parents_of kept.commits) c.self.view_is) (ap (λ (kept : Kept). kept.noted) c.self.view_is)
    c.self.invariant.1.0 c.if-self-commit.true g cs place shape tells k).rows)
    c.table.ensures

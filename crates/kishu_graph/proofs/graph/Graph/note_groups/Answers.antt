use Rattle.std.proofs.Common.{◌∙◌, List, [], ◌∷◌, ◌≡◌, ◌<◌, suc, ap, subst, sym, length, map, get_or, arith}
use Rattle.std.proofs.lemmas.List.{length-map}
use Rattle.std.specs.declared.alloc.Global.{Global}
use Rattle.std.specs.declared.rc.RcStr.{RcStr}
use Rattle.std.specs.declared.vec.Vec.{Vec}
use Rattle.kishu_store.specs.Tables.{no_change}
use Rattle.kishu_graph.specs.declared.commits.Commit as rust
use Rattle.kishu_graph.specs.declared.tables.Noted as rust_noted
use Rattle.kishu_graph.specs.declared.tables.TableRow as rust_row
use Rattle.kishu_graph.specs.Heads.{IsHead}
use Rattle.kishu_graph.specs.Kept.{Kept, CountsRows, count_of, outline, note, noted_of, noted_in}
use Rattle.kishu_graph.specs.Tables.{change_with}
use Rattle.kishu_graph.proofs.Counted.{none_in, noted-bare, noted-anew, counts-anew}
use Rattle.kishu_graph.proofs.HeadsKept.{head-anew}
use Rattle.kishu_graph.proofs.Outlines.{parent-below}
use Rattle.kishu_graph.specs.Buffers.{lines_in}
use Rattle.kishu_graph.proofs.LinesKept.{count-told}
use Rattle.kishu_graph.proofs.graph.Graph.note_groups.Goals as goal

pub index-requires : goal.index-requires
index-requires c = omega (arith, c.requires.newest, ap (λ (k : Kept). length k.commits) c.self.view_is, count-told (lines_in c.self.inside.lines) c.self.inside.commits.items, c.self.inside.commits.ok.0)

pub take_rows-requires-clause-there : goal.take_rows-requires-clause-there
take_rows-requires-clause-there c =
    omega (arith, c.requires.newest, ap (λ (k : Kept). length k.commits) c.self.view_is, count-told (lines_in c.self.inside.lines) c.self.inside.commits.items, ap length c.deref.ensures.value)

pub index-requires-2 : goal.index-requires-2
index-requires-2 c =
    let items = c.self.inside.commits.items in
    let notes = c.self.inside.noted.items in
    let newest : suc c.args.commit ≡ length items = c.requires.newest ∙ sym (ap (λ (k : Kept). length k.commits) c.self.view_is) ∙ count-told (lines_in c.self.inside.lines) items in
    let noted = c.self.invariant.0.0.noted in
    let below = subst (λ k. k.parent < c.args.commit) (sym c.index.ensures) (parent-below items c.args.commit c.index.result.now c.self.invariant.0.0.parents c.requires.not_root (omega (arith, newest))) in
    omega (arith, below, newest, noted, length-map items outline, length-map notes note, c.self.inside.noted.ok.0)

pub take_rows-requires-clause-counts : goal.take_rows-requires-clause-counts
take_rows-requires-clause-counts c =
    subst (λ (l : List rust.Commit). CountsRows (map outline l) (map note c.deref-2.result.now) (map count_of c.deref-2.result.now)) (sym c.deref.ensures.value)
    (subst (λ (l : List rust_noted.Noted). CountsRows (map outline c.self.inside.commits.items) (map note l) (map count_of l)) (sym c.deref-2.ensures.value) c.self.invariant.0.1)

pub invariant_of-self-2 : goal.invariant_of-self-2
invariant_of-self-2 c =
    let items = c.self.inside.commits.items in
    let newest : suc c.args.commit ≡ length items = c.requires.newest ∙ sym (ap (λ (k : Kept). length k.commits) c.self.view_is) ∙ count-told (lines_in c.self.inside.lines) items in
    let none = ap (λ (k : Kept). get_or k.noted c.args.commit (noted_of no_change)) c.self.view_is ∙ c.requires.none in
    let kept = counts-anew items c.self.inside.branches.entries c.self.inside.head c.self.inside.records c.self.inside.noted.items c.args.commit c.in_ok-noted.noted (change_with c.args.dropped.now c.args.stored.now) c.index.result.now c.index-2.result.now
    c.self.invariant.0 newest c.requires.not_root none c.index.ensures c.index-2.ensures c.in_ok-noted.ensures.note c.in_ok-noted.ensures.rows in
    let notes = c.self.inside.noted.items in
    let os = map outline items in
    let many : length notes ≡ length os = sym (length-map notes note) ∙ c.self.invariant.0.0.noted in
    let was : IsHead os (map note notes) c.in_ok-head_rows.head_rows =
    subst (λ (l : List rust.Commit). IsHead (map outline l) (map note notes) c.in_ok-head_rows.head_rows) c.deref.ensures.value
    (subst (λ (l : List rust_noted.Noted). IsHead (map outline c.deref.result.now) (map note l) c.in_ok-head_rows.head_rows) c.deref-2.ensures.value c.in_ok-head_rows.ensures.rows) in
    let head = head-anew os notes c.args.commit c.in_ok-noted.noted (change_with c.args.dropped.now c.args.stored.now) c.in_ok-head_rows.head_rows c.change.new.self
    many (newest ∙ sym (length-map items outline)) c.requires.not_root none c.in_ok-noted.ensures.note was c.in_ok-head_rows.ensures.commit c.in_ok-change.ensures.commit c.in_ok-change.ensures.stand c.in_ok-change.ensures.changes in
    (kept, (head, c.self.invariant.1.1))

pub returns-then-is_empty-2-clause-noted : goal.returns-then-is_empty-2-clause-noted
returns-then-is_empty-2-clause-noted c was cs tells =
    let items = c.self.inside.commits.items in
    let notes = map note c.self.inside.noted.items in
    let newest : suc c.args.commit ≡ length items = c.requires.newest ∙ sym (ap (λ (k : Kept). length k.commits) c.self.view_is) ∙ count-told (lines_in c.self.inside.lines) items in
    let noted = c.self.invariant.0.0.noted in
    let none = ap (λ (k : Kept). get_or k.noted c.args.commit (noted_of no_change)) c.self.view_is ∙ c.requires.none in
    let inside : notes ≡ noted_in (was ∷ cs) = ap (λ (k : Kept). k.noted) c.self.view_is ∙ tells in
    let same = noted-bare notes c.args.commit was cs (omega (arith, noted, newest, length-map items outline)) none inside in
    sym (ap (λ (k : Kept). k.noted) c.self.view_is)
    ∙ subst (λ (ds : List (Vec (RcStr Global) Global)). notes ≡ noted_in (change_with ds c.args.stored.now ∷ cs)) (sym (none_in c.args.dropped.now c.is_empty.result c.is_empty.ensures c.if-is_empty.true))
    (subst (λ (rs : List rust_row.TableRow). notes ≡ noted_in (change_with [] rs ∷ cs)) (sym (none_in c.args.stored.now c.is_empty-then-is_empty.result c.is_empty-then-is_empty.ensures c.if-is_empty-2.true)) same)

pub returns-clause-noted : goal.returns-clause-noted
returns-clause-noted c was cs tells =
    let items = c.self.inside.commits.items in
    let notes = c.self.inside.noted.items in
    let newest : suc c.args.commit ≡ length items = c.requires.newest ∙ sym (ap (λ (k : Kept). length k.commits) c.self.view_is) ∙ count-told (lines_in c.self.inside.lines) items in
    let noted = c.self.invariant.0.0.noted in
    let inside : map note notes ≡ noted_in (was ∷ cs) = ap (λ (k : Kept). k.noted) c.self.view_is ∙ tells in
    noted-anew notes c.args.commit c.in_ok-noted.noted (change_with c.args.dropped.now c.args.stored.now) was cs (omega (arith, noted, newest, length-map items outline, length-map notes note)) c.in_ok-noted.ensures.note inside

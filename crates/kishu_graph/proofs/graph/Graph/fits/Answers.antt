use Rattle.std.proofs.Common.{◌≡◌, ◌<◌, ◌∙◌, List, [], ℕ, length, map, true, false, refl, sym, ap, subst, arith}
use Rattle.std.proofs.lemmas.List.{length-map}
use Rattle.std.proofs.lemmas.Result.{IfOk-at_ok}
use Rattle.std.specs.declared.alloc.Global.{Global}
use Rattle.std.specs.declared.rc.RcStr.{RcStr}
use Rattle.std.specs.declared.vec.Vec.{Vec}
use Rattle.kishu_store.specs.Graph.{Target}
use Rattle.kishu_store.specs.Tables.{Table, table_at, change_of, FitsTable}
use Rattle.kishu_store_laws.specs.TableLaws.{bare-fits}
use Rattle.kishu_graph.specs.Fits.{TellsFit, TellsFitWith}
use Rattle.kishu_graph.specs.Kept.{Kept, noted_in, note, outline, outlines, parents_of, stored_in, texts_of}
use Rattle.kishu_graph.specs.Leaves.{TellsHeld}
use Rattle.kishu_graph.specs.Tables.{change_from, table_of_rows}
use Rattle.kishu_graph.proofs.Counted.{none_in}
use Rattle.kishu_graph.proofs.HeadsKept.{at-hand}
use Rattle.kishu_graph.proofs.Stays.{left-none}
use Rattle.kishu_graph.proofs.WayBack.{stored-alone}
use Rattle.kishu_graph.specs.Buffers.{lines_in}
use Rattle.kishu_graph.proofs.LinesKept.{length-told, parents-told}
use Rattle.kishu_graph.proofs.graph.Graph.fits.Goals as goal

pub table-requires : goal.table-requires
table-requires c =
    let head = c.self.invariant.0.0.head in
    record { there = omega (arith, head, length-told (lines_in c.self.inside.lines) (map outline c.self.inside.commits.items), ap (λ (k : Kept). length k.commits) c.self.view_is) }

pub returns-then-is_empty-2-clause-fits : goal.returns-then-is_empty-2-clause-fits
returns-then-is_empty-2-clause-fits c ok g cs place shape tells k commit begin =
    let t = table_at g (change_of cs) g.head.commit in
    subst (λ (ds : List (Vec (RcStr Global) Global)). FitsTable t (change_from ds c.args.stored.now commit begin)) (sym (none_in c.args.dropped.now c.is_empty.result c.is_empty.ensures c.if-is_empty.true))
    (subst (λ (ss : List (Vec (RcStr Global) Global × ℕ)). FitsTable t (change_from [] ss commit begin)) (sym (none_in c.args.stored.now c.is_empty-then-is_empty.result c.is_empty-then-is_empty.ensures c.if-is_empty-2.true))
    (bare-fits t (k.tables g.head.commit)))

pub returns-then-drops_all-clause-fits : goal.returns-then-drops_all-clause-fits
returns-then-drops_all-clause-fits c ok g cs place shape tells k commit begin =
    let commits = c.self.inside.commits.items in
    let noted = c.self.inside.noted.items in
    let t = table_at g (change_of cs) g.head.commit in
    let head : c.self.inside.head.commit ≡ g.head.commit = ap (λ (kept : Kept). kept.head.commit) c.self.view_is ∙ ap (λ (t : Target). t.commit) shape.head in
    let parents : parents_of (map outline commits) ≡ parents_of (outlines g.commits) =
    sym (parents-told (lines_in c.self.inside.lines) (map outline commits)) ∙ ap (λ (kept : Kept). parents_of kept.commits) c.self.view_is ∙ shape.parents in
    let notes : map note noted ≡ noted_in cs = ap (λ (kept : Kept). kept.noted) c.self.view_is ∙ tells in
    let there : c.self.inside.head.commit < length noted = (let h = c.self.invariant.0.0.head in let n = c.self.invariant.0.0.noted in omega (arith, h, n, length-map noted note)) in
    let rows = stored_in c.index.result.now in
    let own = stored-alone commits noted c.self.invariant.0.1 c.self.inside.head.commit c.index.result.now there c.index.ensures (c.drops_all.ensures.own c.if-drops_all.true) g cs place parents notes k in
    let left = left-none t (map texts_of c.args.dropped.now) rows c.deref.result.now (sym (own ∙ ap (table_at g (change_of cs)) head)) (c.drops_all.ensures.all c.if-drops_all.true) (c.deref.ensures.value ∙ c.new.ensures.items) in
    let told = IfOk-at_ok (λ fits. TellsFitWith c.deref.result.now c.args.stored.now fits) ok c.fits_rows.ensures.fits in
    (told t c.args.dropped.now left (k.tables g.head.commit).rise commit begin).0 refl

pub returns-then-drops_all-clause-fails : goal.returns-then-drops_all-clause-fails
returns-then-drops_all-clause-fails c ok g cs place shape tells k commit begin =
    let commits = c.self.inside.commits.items in
    let noted = c.self.inside.noted.items in
    let t = table_at g (change_of cs) g.head.commit in
    let head : c.self.inside.head.commit ≡ g.head.commit = ap (λ (kept : Kept). kept.head.commit) c.self.view_is ∙ ap (λ (t : Target). t.commit) shape.head in
    let parents : parents_of (map outline commits) ≡ parents_of (outlines g.commits) =
    sym (parents-told (lines_in c.self.inside.lines) (map outline commits)) ∙ ap (λ (kept : Kept). parents_of kept.commits) c.self.view_is ∙ shape.parents in
    let notes : map note noted ≡ noted_in cs = ap (λ (kept : Kept). kept.noted) c.self.view_is ∙ tells in
    let there : c.self.inside.head.commit < length noted = (let h = c.self.invariant.0.0.head in let n = c.self.invariant.0.0.noted in omega (arith, h, n, length-map noted note)) in
    let rows = stored_in c.index.result.now in
    let own = stored-alone commits noted c.self.invariant.0.1 c.self.inside.head.commit c.index.result.now there c.index.ensures (c.drops_all.ensures.own c.if-drops_all.true) g cs place parents notes k in
    let left = left-none t (map texts_of c.args.dropped.now) rows c.deref.result.now (sym (own ∙ ap (table_at g (change_of cs)) head)) (c.drops_all.ensures.all c.if-drops_all.true) (c.deref.ensures.value ∙ c.new.ensures.items) in
    let told = IfOk-at_ok (λ fits. TellsFitWith c.deref.result.now c.args.stored.now fits) ok c.fits_rows.ensures.fits in
    (told t c.args.dropped.now left (k.tables g.head.commit).rise commit begin).1 refl

pub returns-then-self-clause-fits : goal.returns-then-self-clause-fits
returns-then-self-clause-fits c ok g cs place shape tells k commit begin =
    let h = c.self.inside.head_rows in
    let head : c.self.inside.head.commit ≡ g.head.commit = ap (λ (kept : Kept). kept.head.commit) c.self.view_is ∙ ap (λ (t : Target). t.commit) shape.head in
    let held = at-hand c.args.self.now (map outline c.self.inside.commits.items) (map note c.self.inside.noted.items) h g.head.commit (sym (parents-told (lines_in c.self.inside.lines) (map outline c.self.inside.commits.items)) ∙ ap (λ (kept : Kept). parents_of kept.commits) c.self.view_is) (ap (λ (kept : Kept). kept.noted) c.self.view_is)
    c.self.invariant.1.0 (c.if-self.true ∙ head) g cs place shape tells k in
    let told = IfOk-at_ok (TellsHeld h c.args.dropped.now c.args.stored.now) ok c.fit.ensures.fits in
    (told (table_at g (change_of cs) g.head.commit) (k.tables g.head.commit) held (k.tables g.head.commit).rise commit begin).0 refl

pub returns-then-self-clause-fails : goal.returns-then-self-clause-fails
returns-then-self-clause-fails c ok g cs place shape tells k commit begin =
    let h = c.self.inside.head_rows in
    let head : c.self.inside.head.commit ≡ g.head.commit = ap (λ (kept : Kept). kept.head.commit) c.self.view_is ∙ ap (λ (t : Target). t.commit) shape.head in
    let held = at-hand c.args.self.now (map outline c.self.inside.commits.items) (map note c.self.inside.noted.items) h g.head.commit (sym (parents-told (lines_in c.self.inside.lines) (map outline c.self.inside.commits.items)) ∙ ap (λ (kept : Kept). parents_of kept.commits) c.self.view_is) (ap (λ (kept : Kept). kept.noted) c.self.view_is)
    c.self.invariant.1.0 (c.if-self.true ∙ head) g cs place shape tells k in
    let told = IfOk-at_ok (TellsHeld h c.args.dropped.now c.args.stored.now) ok c.fit.ensures.fits in
    (told (table_at g (change_of cs) g.head.commit) (k.tables g.head.commit) held (k.tables g.head.commit).rise commit begin).1 refl

pub returns-clause-fits : goal.returns-clause-fits
returns-clause-fits c ok g cs place shape tells k commit begin =
    let head : c.self.inside.head.commit ≡ g.head.commit = ap (λ (kept : Kept). kept.head.commit) c.self.view_is ∙ ap (λ (t : Target). t.commit) shape.head in
    let same : table_of_rows c.in_ok-table.table ≡ table_at g (change_of cs) g.head.commit = c.in_ok-table.ensures g cs place shape tells k ∙ ap (table_at g (change_of cs)) head in
    let told = IfOk-at_ok (λ fits. TellsFit (table_of_rows c.in_ok-table.table) c.args.dropped.now c.args.stored.now fits) ok c.fits_table.ensures.fits in
    (subst (λ (t : Table). TellsFit t c.args.dropped.now c.args.stored.now true) same told (k.tables g.head.commit).rise commit begin).0 refl

pub returns-clause-fails : goal.returns-clause-fails
returns-clause-fails c ok g cs place shape tells k commit begin =
    let head : c.self.inside.head.commit ≡ g.head.commit = ap (λ (kept : Kept). kept.head.commit) c.self.view_is ∙ ap (λ (t : Target). t.commit) shape.head in
    let same : table_of_rows c.in_ok-table.table ≡ table_at g (change_of cs) g.head.commit = c.in_ok-table.ensures g cs place shape tells k ∙ ap (table_at g (change_of cs)) head in
    let told = IfOk-at_ok (λ fits. TellsFit (table_of_rows c.in_ok-table.table) c.args.dropped.now c.args.stored.now fits) ok c.fits_table.ensures.fits in
    (subst (λ (t : Table). TellsFit t c.args.dropped.now c.args.stored.now false) same told (k.tables g.head.commit).rise commit begin).1 refl

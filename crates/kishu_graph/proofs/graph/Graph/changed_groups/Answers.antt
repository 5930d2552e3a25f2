use Rattle.std.proofs.Common.{◌≡◌, ◌<◌, ◌∙◌, List, length, map, ap, sym, subst, arith}
use Rattle.std.proofs.lemmas.List.{length-map}
use Rattle.std.specs.Rc.{rc_str_bytes}
use Rattle.kishu_store.specs.Groups.{first_name}
use Rattle.kishu_store.specs.Tables.{Table, groups_in, table_at, change_of, FitsTable}
use Rattle.kishu_graph.specs.ChangeLaws.{change-root}
use Rattle.kishu_graph.specs.Fits.{names_at}
use Rattle.kishu_graph.specs.Kept.{Kept, CountsRows, Noted, count_of, note, noted_in, noted_of, outline, outlines, parents_of, stored_in, texts_of}
use Rattle.kishu_graph.specs.Walks.{group_at, rows_in}
use Rattle.kishu_graph.specs.declared.commits.Commit as rust
use Rattle.kishu_graph.specs.declared.tables.Noted as rust_noted
use Rattle.kishu_graph.proofs.GroupsThere.{groups-there}
use Rattle.kishu_graph.proofs.Outlines.{parent-below}
use Rattle.kishu_graph.proofs.Stays.{groups_at}
use Rattle.kishu_graph.proofs.WayBack.{fits-there, noted_there}
use Rattle.kishu_graph.specs.Buffers.{lines_in}
use Rattle.kishu_graph.proofs.LinesKept.{count-told, parents-told}
use Rattle.kishu_graph.proofs.graph.Graph.changed_groups.Goals as goal

pub index-requires : goal.index-requires
index-requires c = omega (arith, c.requires.there, ap (λ (k : Kept). length k.commits) c.self.view_is, count-told (lines_in c.self.inside.lines) c.self.inside.commits.items, c.self.inside.commits.ok.0)

pub index-noted-requires : goal.index-noted-requires
index-noted-requires c =
    let items = c.self.inside.commits.items in
    let notes = c.self.inside.noted.items in
    let many = c.self.invariant.0.0.noted in
    omega (arith, c.requires.there, ap (λ (k : Kept). length k.commits) c.self.view_is, count-told (lines_in c.self.inside.lines) items, many, length-map items outline, length-map notes note, c.self.inside.noted.ok.0)

pub returns-then-commit-eq0-clause-changed : goal.returns-then-commit-eq0-clause-changed
returns-then-commit-eq0-clause-changed c g cs place shape tells k =
    let none = ap (change_of cs) c.if-commit-eq0.true ∙ change-root cs in (
      ap (map texts_of) c.nothing.ensures.dropped ∙ sym (ap (λ d. d.dropped) none),
      ap (map texts_of) c.nothing.ensures.stored ∙ sym (ap (λ d. groups_in d.stored) none),
    )

pub rows_to-requires-clause-there : goal.rows_to-requires-clause-there
rows_to-requires-clause-there c =
    let items = c.self.inside.commits.items in
    let there : c.args.commit < length items = (let h = c.requires.there in let same = ap (λ (k : Kept). length k.commits) c.self.view_is in omega (arith, h, same, count-told (lines_in c.self.inside.lines) items)) in
    let below = subst (λ k. k.parent < c.args.commit) (sym c.index.ensures) (parent-below items c.args.commit c.index.result.now c.self.invariant.0.0.parents (omega (arith, c.if-commit-eq0.false)) there) in
    omega (arith, below, there, ap length c.deref.ensures.value)

pub rows_to-requires-clause-counts : goal.rows_to-requires-clause-counts
rows_to-requires-clause-counts c =
    subst (λ (l : List rust.Commit). CountsRows (map outline l) (map note c.deref-2.result.now) (map count_of c.deref-2.result.now)) (sym c.deref.ensures.value)
    (subst (λ (l : List rust_noted.Noted). CountsRows (map outline c.self.inside.commits.items) (map note l) (map count_of l)) (sym c.deref-2.ensures.value) c.self.invariant.0.1)

pub returns-clause-changed : goal.returns-clause-changed
returns-clause-changed c g cs place shape tells k =
    let items = c.self.inside.commits.items in
    let noted = c.self.inside.noted.items in
    let of = change_of cs in
    let at = c.args.commit in
    let parent = c.index.result.now.parent in
    let there : at < length items = (let h = c.requires.there in let same = ap (λ (k : Kept). length k.commits) c.self.view_is in omega (arith, h, same, count-told (lines_in c.self.inside.lines) items)) in
    let told_there : at < length noted = (let many = c.self.invariant.0.0.noted in omega (arith, there, many, length-map items outline, length-map noted note)) in
    let parents : parents_of (map outline items) ≡ parents_of (outlines g.commits) =
    sym (parents-told (lines_in c.self.inside.lines) (map outline items)) ∙ ap (λ (kept : Kept). parents_of kept.commits) c.self.view_is ∙ shape.parents in
    let notes : map note noted ≡ noted_in cs = ap (λ (kept : Kept). kept.noted) c.self.view_is ∙ tells in
    let table : rows_in c.in_ok-before.before.entries ≡ table_at g of parent =
    c.in_ok-before.ensures.table g cs place (ap (λ (l : List rust.Commit). parents_of (map outline l)) c.deref.ensures.value ∙ parents) (ap (map note) c.deref-2.ensures.value ∙ notes) k in
    let fits : FitsTable (table_at g of parent) (of at) =
    subst (λ (d : rust.Commit). FitsTable (table_at g of d.parent) (of at)) (sym c.index.ensures) (fits-there items at c.index.result.now c.self.invariant.0.0.parents (omega (arith, c.if-commit-eq0.false)) there g cs place parents k) in
    let told : note c.index-noted.result.now ≡ noted_of (of at) = ap note c.index-noted.ensures ∙ noted_there noted cs notes at c.index-noted.result.now told_there in
    let firsts : map rc_str_bytes c.dropped.result.now ≡ map first_name (of at).dropped = ap (map rc_str_bytes) c.dropped.ensures ∙ ap (λ (n : Noted). n.dropped) told in (
      c.in_ok-groups_at.ensures
          ∙ ap (map (λ x. group_at x (rows_in c.in_ok-before.before.entries))) firsts
          ∙ ap (λ (t : Table). map (λ x. group_at x t) (map first_name (of at).dropped)) table
          ∙ groups-there (table_at g of parent) (of at).dropped (k.tables parent).rise fits.dropped,
      c.in_ok-groups_of.ensures
          ∙ ap (map names_at) c.stored.ensures
          ∙ sym (groups_at (stored_in c.index-noted.result.now))
          ∙ ap (λ (n : Noted). groups_in n.stored) told,
    )

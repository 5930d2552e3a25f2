use Rattle.std.proofs.Common.{◌∙◌, List, [], map, subst}
use Rattle.kishu_graph.specs.Kept.{row_of}
use Rattle.kishu_graph.specs.declared.tables.TableRow.{TableRow}
use Rattle.kishu_store.specs.Tables.{groups_in}
use Rattle.kishu_delta.specs.declared.delta.StoredGroup as rust
use Rattle.kishu_delta.specs.Compared.{AreKnown, AreStanding, IsParted, standing, with_pictures}
use Rattle.kishu_delta.specs.Deltas.{table_groups}
use Rattle.kishu_delta.specs.Near.{lent}
use Rattle.kishu_delta.proofs.Drafts.{asked_alike, dropped_alike, stored_alike}
use Rattle.kishu_delta.proofs.drafting.compared.Goals as goal

pub returns-clause-dropped : goal.returns-clause-dropped
returns-clause-dropped c =
    let kept = c.args.kept.now in
    let set = c.in_ok-standing.standing in
    let same = subst (λ (ps : List rust.StoredGroup). AreStanding kept ps set) c.deref.ensures.value c.in_ok-standing.ensures in
    c.in_ok-dropped.ensures ∙ dropped_alike [] (standing kept (with_pictures c.args.pictured.items)) set same (lent c.args.near.now)

pub returns-clause-stored : goal.returns-clause-stored
returns-clause-stored c =
    let kept = c.args.kept.now in
    let gs = table_groups c.args.table.now in
    let set = c.in_ok-standing.standing in
    let places = c.in_ok-known.known in
    let ps = with_pictures c.args.pictured.items in
    let same = subst (λ (qs : List rust.StoredGroup). AreStanding kept qs set) c.deref.ensures.value c.in_ok-standing.ensures in
    let known = subst (λ (rs : List TableRow). AreKnown (groups_in (map row_of rs)) set places) c.deref-2.ensures.value c.in_ok-known.ensures in
    let told = subst (λ (rs : List TableRow). AreKnown (groups_in (map row_of rs)) set places → IsParted (map row_of rs) set ps c.in_ok-stored.field-0.stored.items c.in_ok-stored.field-0.asked.items) c.deref-3.ensures.value (c.in_ok-stored.ensures set) known in
    told.stored ∙ stored_alike gs (standing kept ps) set same ps

pub returns-clause-asked : goal.returns-clause-asked
returns-clause-asked c =
    let kept = c.args.kept.now in
    let gs = table_groups c.args.table.now in
    let set = c.in_ok-standing.standing in
    let places = c.in_ok-known.known in
    let ps = with_pictures c.args.pictured.items in
    let same = subst (λ (qs : List rust.StoredGroup). AreStanding kept qs set) c.deref.ensures.value c.in_ok-standing.ensures in
    let known = subst (λ (rs : List TableRow). AreKnown (groups_in (map row_of rs)) set places) c.deref-2.ensures.value c.in_ok-known.ensures in
    let told = subst (λ (rs : List TableRow). AreKnown (groups_in (map row_of rs)) set places → IsParted (map row_of rs) set ps c.in_ok-stored.field-0.stored.items c.in_ok-stored.field-0.asked.items) c.deref-3.ensures.value (c.in_ok-stored.ensures set) known in
    told.asked ∙ asked_alike gs (standing kept ps) set same ps

pub returns-clause-rows : goal.returns-clause-rows
returns-clause-rows c =
    let set = c.in_ok-standing.standing in
    let places = c.in_ok-known.known in
    let ps = with_pictures c.args.pictured.items in
    let known = subst (λ (rs : List TableRow). AreKnown (groups_in (map row_of rs)) set places) c.deref-2.ensures.value c.in_ok-known.ensures in
    let told = subst (λ (rs : List TableRow). AreKnown (groups_in (map row_of rs)) set places → IsParted (map row_of rs) set ps c.in_ok-stored.field-0.stored.items c.in_ok-stored.field-0.asked.items) c.deref-3.ensures.value (c.in_ok-stored.ensures set) known in
    told.rows

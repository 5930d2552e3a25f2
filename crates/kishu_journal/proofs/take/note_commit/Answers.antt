use Rattle.std.proofs.Common.{◌≡◌, true, false, Ok, List, map, sym, subst, arith, rules}
use Rattle.std.specs.declared.alloc.Global.{Global}
use Rattle.std.specs.declared.rc.RcStr.{RcStr}
use Rattle.std.specs.declared.vec.Vec.{Vec}
use Rattle.kishu_graph.specs.Kept.{row_of}
use Rattle.kishu_graph.specs.Tables.{FailsHead, FitsHead, change_with, stored_of}
use Rattle.kishu_graph.specs.declared.tables.TableRow.{TableRow}
use Rattle.kishu_store.specs.Tables.{rows_from}
use Rattle.kishu_store.specs.Targets.{target_of}
use Rattle.kishu_journal.specs.Following.{FitsNext, TakesCells, TakesChange}
use Rattle.kishu_journal.proofs.Committing.{next-fits, told-not-groups, told-on}
use Rattle.kishu_journal.proofs.take.note_commit.Goals as goal

pub returns-then-not-branch-clause-refused : goal.returns-then-not-branch-clause-refused
returns-then-not-branch-clause-refused c refused body others placed h kept f =
    let old = c.args.graph.now in
    let k = c.args.commit.now in
    let none : c.fits.result ≡ Ok false = search rules in
    let fails : FailsHead old k.dropped.items k.stored.items = rw c.deref-2.ensures.value at (rw c.deref.ensures.value at (c.fits.ensures.fails none)) in
    told-not-groups old k c.args.pictures body others placed h kept fails f

pub add_counted-requires : goal.add_counted-requires
add_counted-requires c =
    let old = c.args.graph.now in
    let k = c.args.commit.now in
    let rows = c.in_ok-rows.rows.items in
    let does : c.fits.result ≡ Ok true = search rules in
    let fits : FitsHead old k.dropped.items k.stored.items = rw c.deref-2.ensures.value at (rw c.deref.ensures.value at (c.fits.ensures.fits does)) in
    let are : map row_of rows ≡ rows_from c.commits.result c.args.pictures (map stored_of k.stored.items) = rw c.deref-3.ensures.value at c.in_ok-rows.ensures in
    record {
      fits = subst (λ (ds : List (Vec (RcStr Global) Global)). FitsNext old (change_with ds c.deref-5.result.now)) (sym c.deref-4.ensures.value)
          (subst (λ (rs : List TableRow). FitsNext old (change_with k.dropped.items rs)) (sym c.deref-5.ensures.value)
          (next-fits old k.dropped.items k.stored.items rows c.commits.result c.args.pictures are fits));
    }

pub returns-clause-made : goal.returns-clause-made
returns-clause-made c done body others placed h kept =
    let old = c.args.graph.now in
    let k = c.args.commit.now in
    let new = c.add_counted.new.graph in
    let rows = c.in_ok-rows.rows.items in
    let does : c.fits.result ≡ Ok true = search rules in
    let fits : FitsHead old k.dropped.items k.stored.items = rw c.deref-2.ensures.value at (rw c.deref.ensures.value at (c.fits.ensures.fits does)) in
    let are : map row_of rows ≡ rows_from c.commits.result c.args.pictures (map stored_of k.stored.items) = rw c.deref-3.ensures.value at c.in_ok-rows.ensures in
    let takes : TakesCells old k.profile k.cells k.first.now new = c.add_counted.ensures.made done in
    let changes : TakesChange old (change_with k.dropped.items rows) new = rw c.deref-5.ensures.value at (rw c.deref-4.ensures.value at (c.add_counted.ensures.noted done)) in
    told-on old k c.args.pictures body others placed h kept new (target_of c.head.result.now) rows c.commits.result c.head.ensures.value (omega arith) fits (c.commits.ensures.newest h.graph kept.keeps.graph.shape) are takes changes

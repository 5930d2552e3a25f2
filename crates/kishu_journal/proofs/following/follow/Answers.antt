use Rattle.std.proofs.Common.{◌≡◌, ◌<◌, ◌^◌, ◌+◌, true, false, Ok, List, length, map, sym, ap, subst, arith, rules}
use Rattle.std.proofs.lemmas.List.{length-map}
use Rattle.std.specs.Rc.{rc_str_bytes}
use Rattle.std.specs.declared.alloc.Global.{Global}
use Rattle.std.specs.declared.rc.RcStr.{RcStr}
use Rattle.std.specs.declared.vec.Vec.{Vec}
use Rattle.kishu_graph.specs.Kept.{row_of}
use Rattle.kishu_graph.specs.Tables.{FailsHead, FitsHead, change_with, stored_of}
use Rattle.kishu_graph.specs.declared.tables.TableRow.{TableRow}
use Rattle.kishu_record.specs.declared.entry.Entry as program
use Rattle.kishu_record.specs.Entries.{entry_of, groups_of, all_stored_of}
use Rattle.kishu_store.specs.Histories.{FollowsAt, before_pictures}
use Rattle.kishu_store.specs.Tables.{rows_from}
use Rattle.kishu_store.specs.Targets.{target_of}
use Rattle.kishu_journal.specs.Following.{FitsNext, GoesOn, TakesChange, TakesCommit}
use Rattle.kishu_journal.proofs.ByKind.{few-cells}
use Rattle.kishu_journal.proofs.Committing.{commit_by, commit-on, next-fits, not-child, not-groups}
use Rattle.kishu_journal.proofs.following.follow.Goals as goal
use Rattle.kishu_journal.proofs.following.follow.Goals.{then-parent-head-via-then-parent-head, then-parent-head-via-else-parent-head+in_ok-fits-in-Commit+then-not-branch}

pub returns-then-parent-head-clause-refused : goal.returns-then-parent-head-clause-refused
returns-then-parent-head-clause-refused c refused h kept f =
    let k = c.in-Commit in
    let old = c.args.graph.now in
    let texts = map rc_str_bytes k.cells.items in
    let fits : FollowsAt c.args.body h (commit_by k.parent k.profile texts k.dropped.items k.stored.items) = rw k.is at f in
    elim c.then-parent-head.branch [
      | then-parent-head-via-then-parent-head w ↦ not-child old k.parent k.profile texts k.dropped.items k.stored.items c.args.body h kept (target_of c.head.result.now) c.head.ensures.value (λ e. omega (arith, e)) fits
      | then-parent-head-via-else-parent-head+in_ok-fits-in-Commit+then-not-branch w ↦ (
          let none : w.fits.result ≡ Ok false = search rules in
          let fails : FailsHead old k.dropped.items k.stored.items = rw w.deref-else-parent-head.ensures.value at (rw w.deref.ensures.value at (w.fits.ensures.fails none)) in
          not-groups old k.parent k.profile texts k.dropped.items k.stored.items c.args.body h kept fails fits
          )
    ]

pub add_with_groups-requires-clause-few : goal.add_with_groups-requires-clause-few
add_with_groups-requires-clause-few c =
    let k = c.in-Commit in
    let few : length (map rc_str_bytes k.cells.items) < 2 ^ 32 =
    few-cells k.parent k.profile (map rc_str_bytes k.cells.items) (groups_of k.dropped) (all_stored_of k.stored) (rw k.is at c.requires.rules) in
    omega (arith, few, length-map k.cells.items rc_str_bytes, ap length c.deref-in-Commit.ensures.value)

pub add_with_groups-requires-clause-fits : goal.add_with_groups-requires-clause-fits
add_with_groups-requires-clause-fits c =
    let k = c.in-Commit in
    let old = c.args.graph.now in
    let rows = c.in_ok-rows-in-Commit.rows.items in
    let does : c.fits.result ≡ Ok true = search rules in
    let fits : FitsHead old k.dropped.items k.stored.items = rw c.deref-else-parent-head.ensures.value at (rw c.deref.ensures.value at (c.fits.ensures.fits does)) in
    let e = commit_by k.parent k.profile (map rc_str_bytes k.cells.items) k.dropped.items k.stored.items in
    let are : map row_of rows ≡ rows_from c.commits.result (c.args.body + before_pictures e) (map stored_of k.stored.items) = rw k.is at c.in_ok-rows-in-Commit.ensures in
    subst (λ (ds : List (Vec (RcStr Global) Global)). FitsNext old (change_with ds c.deref-in-Commit-3.result.now)) (sym c.deref-in-Commit-2.ensures.value)
    (subst (λ (rs : List TableRow). FitsNext old (change_with k.dropped.items rs)) (sym c.deref-in-Commit-3.ensures.value)
    (next-fits old k.dropped.items k.stored.items rows c.commits.result (c.args.body + before_pictures e) are fits))

pub returns-in_ok-rows-in-Commit-clause-made : goal.returns-in_ok-rows-in-Commit-clause-made
returns-in_ok-rows-in-Commit-clause-made c done h kept =
    let k = c.in-Commit in
    let old = c.args.graph.now in
    let new = c.add_with_groups.new.graph in
    let rows = c.in_ok-rows-in-Commit.rows.items in
    let texts = map rc_str_bytes k.cells.items in
    let does : c.fits.result ≡ Ok true = search rules in
    let fits : FitsHead old k.dropped.items k.stored.items = rw c.deref-else-parent-head.ensures.value at (rw c.deref.ensures.value at (c.fits.ensures.fits does)) in
    let e = commit_by k.parent k.profile texts k.dropped.items k.stored.items in
    let are : map row_of rows ≡ rows_from c.commits.result (c.args.body + before_pictures e) (map stored_of k.stored.items) = rw k.is at c.in_ok-rows-in-Commit.ensures in
    let takes : TakesCommit old k.profile texts new = rw c.deref-in-Commit.ensures.value at (c.add_with_groups.ensures.made done) in
    let changes : TakesChange old (change_with k.dropped.items rows) new = rw c.deref-in-Commit-3.ensures.value at (rw c.deref-in-Commit-2.ensures.value at (c.add_with_groups.ensures.noted done)) in
    subst (λ (x : program.Entry). GoesOn c.args.body h (entry_of x) new) (sym k.is)
    (commit-on old k.parent k.profile texts k.dropped.items k.stored.items c.args.body h kept new (target_of c.head.result.now) rows c.commits.result c.head.ensures.value (omega arith) fits (c.commits.ensures.newest h.graph kept.keeps.graph.shape) are takes changes)

use Rattle.std.proofs.Common.{refl, ◌+◌, drop, map, ap, subst}
use Rattle.std.specs.Rc.{rc_str_bytes}
use Rattle.kishu_graph.specs.Kept.{row_of}
use Rattle.kishu_checkout.proofs.Indexed.{IsIndexing, indexing_next}
use Rattle.kishu_checkout.proofs.RowsLeft.{rows_at}
use Rattle.kishu_checkout.proofs.planning.versions.Goals as goal

pub loop-row-preserved : goal.loop-row-preserved
loop-row-preserved c =
    let rows = c.args.rows.now in
    let i = c.loop-row.row-index in
    let row = c.row-item.result in
    let keys = c.loop-row.versions.keys in
    let new = c.insert.new.self.keys in
    let here = rows_at rows i row c.loop-row-test.true c.row-item.is in
    let before = subst (λ left. IsIndexing keys (map row_of rows) left) here c.loop-row.invariant in
    indexing_next keys new (c.as_slice.result, row.version) (map row_of rows) (row_of row) (map row_of (drop (i + 1) rows)) c.in_ok-insert.ensures.keys
    (ap (map rc_str_bytes) c.as_slice.ensures.value) refl before

use Rattle.std.proofs.Common.{IsErrOf, ◌+◌, take, map, rules}
use Rattle.kishu_graph.specs.Kept.{row_of}
use Rattle.kishu_checkout.specs.declared.fault.CheckoutFault.TheVariants.{Damaged}
use Rattle.kishu_checkout.specs.FetchedLaws.{quiet_on, reads_more, part_still, fetched_more, row_in, rows_next, bytes_next, bytes_most, lacks_still}
use Rattle.kishu_checkout.proofs.Calls.{reads_on}
use Rattle.kishu_checkout.proofs.fetching.fetch_rows.Goals as goal

pub returns-in_err-picture-clause-reads : goal.returns-in_err-picture-clause-reads
returns-in_err-picture-clause-reads g c =
    let i = c.loop-row.row-index in
    reads_on _ _ _ _ _ _ c.loop-row.invariant.exact c.fetch_row.ensures.reads
    (bytes_most row_of c.args.rows.now i c.row-item.result c.loop-row-test.true c.row-item.is)

pub returns-in_err-picture-clause-damaged : goal.returns-in_err-picture-clause-damaged
returns-in_err-picture-clause-damaged g c at e =
    let st = g.H.Host.state in
    let x = c.row-item.result in
    let was : IsErrOf c.fetch_row.result (Damaged at) = search rules in
    lacks_still (st c.args.host.now) (st c.loop-row.host) (map row_of c.args.rows.now) (row_of x) at c.loop-row.invariant.quiet
    (row_in row_of c.args.rows.now c.loop-row.row-index x c.loop-row-test.true c.row-item.is) (c.fetch_row.ensures.damaged at was)

pub returns-in_err-push-clause-reads : goal.returns-in_err-push-clause-reads
returns-in_err-push-clause-reads g c =
    let i = c.loop-row.row-index in
    reads_on _ _ _ _ _ _ c.loop-row.invariant.exact c.fetch_row.ensures.reads
    (bytes_most row_of c.args.rows.now i c.row-item.result c.loop-row-test.true c.row-item.is)

pub loop-row-preserved : goal.loop-row-preserved
loop-row-preserved g c =
    let st = g.H.Host.state in
    let s = st c.args.host.now in
    let here = st c.loop-row.host in
    let rows = c.args.rows.now in
    let i = c.loop-row.row-index in
    let x = c.row-item.result in
    let inv = c.loop-row.invariant in
    let picture = c.in_ok-picture.picture in
    let read = c.in_ok-picture.ensures in
    let next = rows_next row_of rows i x c.loop-row-test.true c.row-item.is in
    record {
      fetched = fetched_more s (take i (map row_of rows)) (take (i + 1) (map row_of rows)) c.loop-row.pictures.items c.push.new.self.items (row_of x)
          picture inv.fetched next c.in_ok-push.ensures.items (part_still s here (row_of x) picture.items inv.quiet read.part) read.whole;
      quiet = quiet_on s here (st c.fetch_row.new.host) inv.quiet read.quiet;
      exact = reads_more _ _ _ _ _ _ inv.exact read.exact (bytes_next row_of rows i x c.loop-row-test.true c.row-item.is);
    }

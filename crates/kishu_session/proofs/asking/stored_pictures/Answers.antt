use Rattle.std.proofs.Common.{IsErrOf, ◌+◌, take, map, rules}
use Rattle.kishu_checkout.specs.FetchedLaws.{quiet_on, reads_more, part_still, fetched_more, row_in, rows_next, bytes_next, lacks_still}
use Rattle.kishu_checkout.specs.declared.fault.CheckoutFault.TheVariants.{Damaged}
use Rattle.kishu_delta.specs.Compared.{asked_row}
use Rattle.kishu_session.proofs.asking.stored_pictures.Goals as goal

pub returns-in_err-picture-clause-damaged : goal.returns-in_err-picture-clause-damaged
returns-in_err-picture-clause-damaged g c at e =
    let st = g.H.Host.state in
    let x = c.row-item.result in
    let was : IsErrOf c.fetch_row.result (Damaged at) = search rules in
    lacks_still (st c.args.host.now) (st c.loop-row.host) (map asked_row c.args.asked.now) (asked_row x) at c.loop-row.invariant.quiet
    (row_in asked_row c.args.asked.now c.loop-row.row-index x c.loop-row-test.true c.row-item.is) (c.fetch_row.ensures.damaged at was)

pub loop-row-preserved : goal.loop-row-preserved
loop-row-preserved g c =
    let st = g.H.Host.state in
    let s = st c.args.host.now in
    let here = st c.loop-row.host in
    let asked = c.args.asked.now in
    let i = c.loop-row.row-index in
    let x = c.row-item.result in
    let inv = c.loop-row.invariant in
    let picture = c.in_ok-picture.picture in
    let read = c.in_ok-picture.ensures in
    let next = rows_next asked_row asked i x c.loop-row-test.true c.row-item.is in
    record {
      fetched = fetched_more s (take i (map asked_row asked)) (take (i + 1) (map asked_row asked)) c.loop-row.pictures.items c.push.new.self.items (asked_row x)
          picture inv.fetched next c.in_ok-push.ensures.items (part_still s here (asked_row x) picture.items inv.quiet read.part) read.whole;
      quiet = quiet_on s here (st c.fetch_row.new.host) inv.quiet read.quiet;
      exact = reads_more _ _ _ _ _ _ inv.exact read.exact (bytes_next asked_row asked i x c.loop-row-test.true c.row-item.is);
    }

use Rattle.std.proofs.Common.{arith}
use Rattle.kishu_host.proofs.Fills.{since-sync, since-other}
use Rattle.kishu_host.proofs.tape.since_sync.Goals.{in-Sync, in_default}
use Rattle.kishu_host.proofs.tape.since_sync.Goals as goal

pub loop-i-preserved : goal.loop-i-preserved
loop-i-preserved c =
    let es = c.args.entries.now in
    let i = c.loop-i.i in
    elim c.match-entry.branch [
      | in-Sync w ↦ record { start = omega (arith, w.start-is); same = since-sync es i c.loop-i-test.true c.match-entry.start w.start-is w.in-Sync.is }
      | in_default w ↦ record {
        start = omega (arith, w.start-is, c.loop-i.invariant.start);
        same = rw w.start-is (since-other es i c.loop-i-test.true c.loop-i.start c.loop-i.invariant.start w.in_default.not-Sync c.loop-i.invariant.same);
      }
    ]

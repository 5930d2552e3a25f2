use Rattle.std.proofs.Common.{take, [], length, arith}
use Rattle.kishu_host.specs.Tape.{ranges_of}
use Rattle.kishu_host.proofs.Fills.{write-within, filled-more, ranges_of-write, ranges_of-other}
use Rattle.kishu_host.proofs.tape.fill_writes.Goals.{in-Write, in_default}
use Rattle.kishu_host.proofs.tape.fill_writes.Goals as goal

pub fill_range-requires : goal.fill_range-requires
fill_range-requires c = omega (arith, write-within _ c.args.entries.now c.loop-entry.entry-index c.in-Write.at c.in-Write.len c.requires c.loop-entry-test.true c.in-Write.is, c.loop-entry.invariant.len)

pub loop-entry-preserved : goal.loop-entry-preserved
loop-entry-preserved c =
    let es = c.args.entries.now in
    let i = c.loop-entry.entry-index in
    let old = c.args.file.now.items in
    elim c.match-entry.branch [
      | in-Write w ↦ (
          let within = write-within (length old) es i w.in-Write.at w.in-Write.len c.requires c.loop-entry-test.true w.in-Write.is in
          rw (ranges_of-write es i c.loop-entry-test.true w.in-Write.at w.in-Write.len w.in-Write.is, w.file-is, w.fill_range.ensures)
          (filled-more c.args.fill (ranges_of (take i es) []) w.in-Write.at w.in-Write.len old c.loop-entry.file.items c.loop-entry.invariant within))
      | in_default w ↦ rw (ranges_of-other es i c.loop-entry-test.true w.in_default.not-Write, w.file-is) c.loop-entry.invariant
    ]

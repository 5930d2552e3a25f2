use Rattle.std.proofs.Common.{[], take}
use Rattle.kishu_host.specs.Crash.{IsFilled}
use Rattle.kishu_host.specs.Tape.{ranges_of}
use Rattle.kishu_host.proofs.tape.fill_writes.Given as goal

abbrev pub invariant-loop-entry : goal.invariant-loop-entry
invariant-loop-entry l = IsFilled l.fill (ranges_of (take l.entry-index l.entries) []) l.initial.file.items l.file.items

use Rattle.std.proofs.Common.{◌≡◌, ◌≤◌, [], take, drop}
use Rattle.kishu_host.specs.Tape.{unsynced, ranges_of}
use Rattle.kishu_host.proofs.tape.since_sync.Given as goal

abbrev pub invariant-loop-i : goal.invariant-loop-i
invariant-loop-i l = record {
  start : l.start ≤ l.i;
  same : unsynced (take l.i l.entries) [] ≡ ranges_of (drop l.start (take l.i l.entries)) [];
}

use Rattle.std.proofs.Common.{◌≡◌, ◌≤◌, ◌+◌, ◌-◌, length}
use Rattle.kishu_cli.specs.Calls.{Writing}
use Rattle.kishu_cli.proofs.transfer.write_all.Given as goal

abbrev pub invariant-loop-done : goal.invariant-loop-done
invariant-loop-done g l = record {
  bound : l.done ≤ length l.bytes;
  written : Writing l.to l.bytes (g.S.System.history l.initial.system) l.done (g.S.System.history l.system);
  count : length (g.S.System.history l.system) ≡ l.calls + length (g.S.System.history l.initial.system);
}

abbrev pub decreases-loop-done : goal.decreases-loop-done
decreases-loop-done g l = 18446744073709551615 - l.calls

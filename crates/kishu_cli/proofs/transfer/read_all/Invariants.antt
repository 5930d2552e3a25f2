use Rattle.std.proofs.Common.{◌≡◌, ◌≤◌, ◌+◌, ◌-◌, length, take}
use Rattle.kishu_cli.specs.Calls.{Reading}
use Rattle.kishu_cli.proofs.transfer.read_all.Given as goal

abbrev pub invariant-loop-done : goal.invariant-loop-done
invariant-loop-done g l = record {
  bound : l.done ≤ length l.initial.into;
  read : Reading l.at (length l.initial.into) (g.S.System.history l.initial.system) (take l.done l.into) (g.S.System.history l.system);
  count : length (g.S.System.history l.system) ≡ l.calls + length (g.S.System.history l.initial.system);
}

abbrev pub decreases-loop-done : goal.decreases-loop-done
decreases-loop-done g l = 18446744073709551615 - l.calls

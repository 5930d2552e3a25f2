use Rattle.std.proofs.Common.{◌≡◌, ◌+◌, length}
use Rattle.kishu_cli.specs.Calls.{Retried}
use Rattle.kishu_cli.proofs.transfer.take_some.Given as goal

abbrev pub invariant-loop : goal.invariant-loop
invariant-loop g l = record {
  calls : Retried (length l.initial.into) (g.I.Input.history l.initial.input) (g.I.Input.history l.input);
  count : length (g.I.Input.history l.input) ≡ l.counter + length (g.I.Input.history l.initial.input);
}

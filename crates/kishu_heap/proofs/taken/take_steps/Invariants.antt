use Rattle.std.proofs.Common.{◌≡◌, ◌+◌}
use Rattle.kishu_heap.proofs.taken.take_steps.Given as goal

abbrev pub invariant-loop : goal.invariant-loop
invariant-loop g l = record {
  taken : l.left + l.counter ≡ l.fn.left;
  counted : l.steps + l.left ≡ l.fn.steps + l.fn.left;
}

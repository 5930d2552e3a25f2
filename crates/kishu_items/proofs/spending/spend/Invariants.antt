use Rattle.std.proofs.Common.{◌≡◌, ◌+◌}
use Rattle.kishu_items.proofs.spending.spend.Given as goal

abbrev pub invariant-loop : goal.invariant-loop
invariant-loop g l = record {
  taken : l.budget.left + l.counter ≡ l.fn.budget.left;
  counted : l.steps + l.budget.left ≡ l.fn.steps + l.fn.budget.left;
  depth : l.budget.depth ≡ l.fn.budget.depth;
}

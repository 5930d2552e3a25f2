use Rattle.std.proofs.Common.{◌≡◌, ◌+◌, ◌*◌, ◌≤◌, map, drop}
use Rattle.kishu_meaning.specs.comparing.Comparing.{among}
use Rattle.kishu_meaning.specs.moments.Moment.{Moment}
use Rattle.kishu_meaning.specs.values.Values.{value_of}
use Rattle.kishu_machine.specs.Machine.{placed_in}
use Rattle.kishu_machine.proofs.comparing.among.Given as goal

abbrev pub invariant-loop-item : goal.invariant-loop-item
invariant-loop-item g l = record {
  same : (s : Moment) → among (value_of l.value) (map value_of l.items) (placed_in s l.heap l.initial.budget) ≡ among (value_of l.value) (map value_of (drop l.item-index l.items)) (placed_in s l.heap l.budget);
  depth : l.budget.depth ≡ l.initial.budget.depth;
  least : l.initial.budget.left + l.initial.steps ≤ l.budget.left + l.steps;
  reads : 24 * l.budget.left + l.steps ≤ 24 * l.initial.budget.left + l.initial.steps;
  left : l.budget.left ≤ l.initial.budget.left;
}

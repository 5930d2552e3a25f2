use Rattle.std.proofs.Common.{◌≡◌, ◌≤◌, map, drop}
use Rattle.kishu_meaning.specs.declared.budget.Budget.{Budget}
use Rattle.kishu_meaning.specs.values.Keys.{part_of}
use Rattle.kishu_meaning.specs.items.KeyOf.{parts_of}
use Rattle.kishu_meaning.specs.moments.Moment.{and_then}
use Rattle.kishu_meaning.specs.values.Values.{value_of}
use Rattle.kishu_items.specs.Called.{moment_of}
use Rattle.kishu_items.specs.Gathering.{behind}
use Rattle.kishu_items.proofs.keys.parts_of.Given as goal

abbrev pub invariant-loop-i : goal.invariant-loop-i
invariant-loop-i g l = record {
  told : (b : Budget) → parts_of (map value_of l.values) (moment_of l.heap b) ≡ and_then (parts_of (map value_of (drop l.i l.values)) (moment_of l.heap b)) (behind (map part_of l.parts.items));
  counted : l.fn.steps ≤ l.steps;
  unread : l.steps ≤ l.fn.steps;
}

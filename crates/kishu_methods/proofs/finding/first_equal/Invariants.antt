use Rattle.std.proofs.Common.{◌≡◌, drop, map}
use Rattle.kishu_meaning.specs.values.Values.{value_of}
use Rattle.kishu_meaning.specs.items.Finding.{place_from}
use Rattle.kishu_heap.specs.Costs.{Spends}
use Rattle.kishu_methods.proofs.finding.first_equal.Given as goal

abbrev pub invariant-loop-i : goal.invariant-loop-i
invariant-loop-i g l = record {
  told : place_from l.heap l.fn.budget.depth (value_of l.value) 0 (map value_of l.items) l.fn.budget.left ≡ place_from l.heap l.fn.budget.depth (value_of l.value) l.i (map value_of (drop l.i l.items)) l.budget.left;
  spends : Spends 0 l.fn.budget l.fn.steps l.budget l.steps;
}

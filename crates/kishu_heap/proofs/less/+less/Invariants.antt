use Rattle.std.proofs.Common.{◌≡◌, ◌+◌, ◌*◌, drop, map}
use Rattle.kishu_meaning.specs.values.Values.{value_of}
use Rattle.kishu_meaning.specs.comparing.Equal.{equal_nodes, pair_turned, less_nodes, items_less}
use Rattle.kishu_heap.specs.Costs.{Compares}
use Rattle.kishu_heap.proofs.less.+less.Given as goal

abbrev pub decreases-less_values : goal.decreases-less_values
decreases-less_values g l = 3 * l.room

abbrev pub decreases-less_items : goal.decreases-less_items
decreases-less_items g l = 3 * l.room + 1

abbrev pub decreases-less_nodes : goal.decreases-less_nodes
decreases-less_nodes g l = 3 * l.room + 2

abbrev pub invariant-less_items-loop-i : goal.invariant-less_items-loop-i
invariant-less_items-loop-i g l = record {
  told : items_less (pair_turned l.turned (equal_nodes l.heap l.room)) (less_nodes l.turned l.heap l.room) (map value_of l.a) (map value_of l.b) l.fn.left ≡ items_less (pair_turned l.turned (equal_nodes l.heap l.room)) (less_nodes l.turned l.heap l.room) (map value_of (drop l.i l.a)) (map value_of (drop l.i l.b)) l.left;
  takes : Compares 0 l.fn.left l.fn.steps l.left l.steps;
}

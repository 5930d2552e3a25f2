use Rattle.std.proofs.Common.{◌≡◌, ◌+◌, ◌*◌, drop, map}
use Rattle.std.specs.Str.{bytes_eq}
use Rattle.kishu_meaning.specs.values.Keys.{is_one}
use Rattle.kishu_meaning.specs.values.Values.{value_of}
use Rattle.kishu_meaning.specs.comparing.Equal.{equal_nodes, items_equal, entries_equal}
use Rattle.kishu_heap.specs.Costs.{Compares}
use Rattle.kishu_heap.specs.Cells.{entries_of, attributes_of}
use Rattle.kishu_heap.proofs.compare.+equal.Given as goal

abbrev pub decreases-equal_values : goal.decreases-equal_values
decreases-equal_values g l = 6 * l.room

abbrev pub decreases-equal_pair : goal.decreases-equal_pair
decreases-equal_pair g l = 6 * l.room + 1

abbrev pub decreases-equal_found : goal.decreases-equal_found
decreases-equal_found g l = 6 * l.room + 2

abbrev pub decreases-equal_items : goal.decreases-equal_items
decreases-equal_items g l = 6 * l.room + 3

abbrev pub decreases-equal_entries : goal.decreases-equal_entries
decreases-equal_entries g l = 6 * l.room + 3

abbrev pub decreases-equal_attributes : goal.decreases-equal_attributes
decreases-equal_attributes g l = 6 * l.room + 3

abbrev pub decreases-equal_lists : goal.decreases-equal_lists
decreases-equal_lists g l = 6 * l.room + 4

abbrev pub decreases-equal_dicts : goal.decreases-equal_dicts
decreases-equal_dicts g l = 6 * l.room + 4

abbrev pub decreases-equal_objects : goal.decreases-equal_objects
decreases-equal_objects g l = 6 * l.room + 4

abbrev pub decreases-equal_nodes : goal.decreases-equal_nodes
decreases-equal_nodes g l = 6 * l.room + 5

-- what is left of the items goes on from here
abbrev pub invariant-equal_items-loop-i : goal.invariant-equal_items-loop-i
invariant-equal_items-loop-i g l = record {
  told : items_equal (equal_nodes l.heap l.room) (map value_of l.a) (map value_of l.b) l.fn.left ≡ items_equal (equal_nodes l.heap l.room) (map value_of (drop l.i l.a)) (map value_of (drop l.i l.b)) l.left;
  takes : Compares 0 l.fn.left l.fn.steps l.left l.steps;
}

abbrev pub invariant-equal_entries-loop-i : goal.invariant-equal_entries-loop-i
invariant-equal_entries-loop-i g l = record {
  told : entries_equal (equal_nodes l.heap l.room) is_one (entries_of l.a.entries) (entries_of l.b.entries) l.fn.left ≡ entries_equal (equal_nodes l.heap l.room) is_one (entries_of (drop l.i l.a.entries)) (entries_of l.b.entries) l.left;
  takes : Compares 0 l.fn.left l.fn.steps l.left l.steps;
}

abbrev pub invariant-equal_attributes-loop-i : goal.invariant-equal_attributes-loop-i
invariant-equal_attributes-loop-i g l = record {
  told : entries_equal (equal_nodes l.heap l.room) bytes_eq (attributes_of l.a.entries) (attributes_of l.b.entries) l.fn.left ≡ entries_equal (equal_nodes l.heap l.room) bytes_eq (attributes_of (drop l.i l.a.entries)) (attributes_of l.b.entries) l.left;
  takes : Compares 0 l.fn.left l.fn.steps l.left l.steps;
}

use Rattle.std.proofs.Common.{◌≡◌, ◌+◌, ◌*◌}
use Rattle.kishu_meaning.specs.values.Keys.{key_of}
use Rattle.kishu_meaning.specs.values.Values.{value_of}
use Rattle.kishu_meaning.specs.comparing.Show.{listed, repr_by, repr_nodes, entry_repr, attribute_repr}
use Rattle.std.specs.Prelude.{map, min}
use Rattle.std.specs.Rc.{rc_str_bytes}
use Rattle.kishu_heap.specs.Cells.{entries_of, attributes_of}
use Rattle.kishu_heap.specs.Costs.{Takes}
use Rattle.kishu_show.specs.Shown.{onto}
use Rattle.kishu_show.specs.Stack.{around_of}
use Rattle.kishu_show.proofs.Walks.{entry_of, rest}
use Rattle.kishu_show.proofs.reprs.+repr.Given as goal

abbrev pub decreases-push_value : goal.decreases-push_value
decreases-push_value g l = 7 * l.room

abbrev pub decreases-push_entry : goal.decreases-push_entry
decreases-push_entry g l = 7 * l.room + 1

abbrev pub decreases-push_attribute : goal.decreases-push_attribute
decreases-push_attribute g l = 7 * l.room + 1

abbrev pub decreases-push_values : goal.decreases-push_values
decreases-push_values g l = 7 * l.room + 2

abbrev pub decreases-push_entries : goal.decreases-push_entries
decreases-push_entries g l = 7 * l.room + 2

abbrev pub decreases-push_attributes : goal.decreases-push_attributes
decreases-push_attributes g l = 7 * l.room + 2

abbrev pub decreases-push_list : goal.decreases-push_list
decreases-push_list g l = 7 * l.room + 3

abbrev pub decreases-push_tuple : goal.decreases-push_tuple
decreases-push_tuple g l = 7 * l.room + 3

abbrev pub decreases-push_dict : goal.decreases-push_dict
decreases-push_dict g l = 7 * l.room + 3

abbrev pub decreases-push_object : goal.decreases-push_object
decreases-push_object g l = 7 * l.room + 3

abbrev pub decreases-push_exception : goal.decreases-push_exception
decreases-push_exception g l = 7 * l.room + 3

abbrev pub decreases-push_contents : goal.decreases-push_contents
decreases-push_contents g l = 7 * l.room + 4

abbrev pub decreases-push_inside : goal.decreases-push_inside
decreases-push_inside g l = 7 * l.room + 5

abbrev pub decreases-push_node : goal.decreases-push_node
decreases-push_node g l = 7 * l.room + 6

abbrev pub invariant-push_values-loop-i : goal.invariant-push_values-loop-i
invariant-push_values-loop-i g l = record {
  told : onto l.fn.draft (listed (repr_by (repr_nodes l.heap l.room (around_of l.around))) (map value_of l.values)) ≡ onto l.draft (rest value_of (repr_by (repr_nodes l.heap l.room (around_of l.around))) l.values l.i);
  takes : Takes (min l.i 1) l.fn.draft.left l.fn.steps l.draft.left l.steps;
}

abbrev pub invariant-push_entries-loop-i : goal.invariant-push_entries-loop-i
invariant-push_entries-loop-i g l = record {
  told : onto l.fn.draft (listed (entry_repr (repr_nodes l.heap l.room (around_of l.around))) (entries_of l.entries.entries)) ≡ onto l.draft (rest (entry_of key_of) (entry_repr (repr_nodes l.heap l.room (around_of l.around))) l.entries.entries l.i);
  takes : Takes 0 l.fn.draft.left l.fn.steps l.draft.left l.steps;
}

abbrev pub invariant-push_attributes-loop-i : goal.invariant-push_attributes-loop-i
invariant-push_attributes-loop-i g l = record {
  told : onto l.fn.draft (listed (attribute_repr (repr_nodes l.heap l.room (around_of l.around))) (attributes_of l.attributes.entries)) ≡ onto l.draft (rest (entry_of rc_str_bytes) (attribute_repr (repr_nodes l.heap l.room (around_of l.around))) l.attributes.entries l.i);
  takes : Takes 0 l.fn.draft.left l.fn.steps l.draft.left l.steps;
}

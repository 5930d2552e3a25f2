use Rattle.std.proofs.Common.{◌≡◌, ◌++◌, length, map, drop}
use Rattle.kishu_meaning.specs.values.Values.{value_of}
use Rattle.kishu_meaning.specs.values.Nodes.{changed, on_list}
use Rattle.kishu_items.proofs.lists.push_all.Given as goal

abbrev pub invariant-loop-i : goal.invariant-loop-i
invariant-loop-i l = record {
  told : changed (on_list (λ items. items ++ map value_of l.values)) l.id.0 l.fn.heap ≡ changed (on_list (λ items. items ++ map value_of (drop l.i l.values))) l.id.0 l.heap;
  long : length l.heap ≡ length l.fn.heap;
}

use Rattle.std.proofs.Common.{◌≡◌, length, drop}
use Rattle.kishu_meaning.specs.calls.Methods.{with_entries}
use Rattle.kishu_meaning.specs.values.Nodes.{changed, on_dict}
use Rattle.kishu_heap.specs.Cells.{entries_of}
use Rattle.kishu_methods.proofs.entries.insert_all.Given as goal

abbrev pub invariant-loop-i : goal.invariant-loop-i
invariant-loop-i l = record {
  told : changed (on_dict (with_entries (entries_of l.entries.entries))) l.id.0 l.fn.heap ≡ changed (on_dict (with_entries (entries_of (drop l.i l.entries.entries)))) l.id.0 l.heap;
  long : length l.heap ≡ length l.fn.heap;
}

use Rattle.std.proofs.Common.{◌≡◌, ◌+◌, ◌≤◌, IsTrue, [], length, map, ◌*◌}
use Rattle.std.specs.List.{list_all}
use Rattle.kishu_meaning.specs.cells.Meaning.{with_pairs}
use Rattle.kishu_meaning.specs.values.Sound.{is_sound}
use Rattle.kishu_meaning.specs.values.Values.{value_of}
use Rattle.kishu_heap.specs.Cells.{entries_of}
use Rattle.kishu_machine.specs.Lists.{are_sound_pairs, value_pairs}
use Rattle.kishu_machine.specs.Machine.{GrownBy, moment_of}
use Rattle.kishu_statements.proofs.displays.entries_from.Given as goal

abbrev pub invariant-loop-key : goal.invariant-loop-key
invariant-loop-key g l = record {
  told : with_pairs (value_pairs l.fn.pairs) [] (moment_of l.fn.machine) ≡ with_pairs (map (λ p. (value_of p.0, value_of p.1)) l.key-iterator.rest.items) (entries_of l.entries.entries) (moment_of l.machine);
  others : IsTrue (are_sound_pairs (length l.machine.heap) (map (λ p. (value_of p.0, value_of p.1)) l.key-iterator.rest.items));
  sound : IsTrue (list_all (λ e. is_sound (length l.machine.heap) e.1) (entries_of l.entries.entries));
  kept : GrownBy 0 l.fn.machine l.fn.steps l.machine l.steps;
  reads : l.steps + 128 * l.machine.budget.left + 4 * length l.key-iterator.rest.items ≤ l.fn.steps + 128 * l.fn.machine.budget.left + 4 * length l.fn.pairs.items;
  heap : l.machine.heap ≡ l.fn.machine.heap;
}

use Rattle.std.proofs.Common.{◌≡◌, ◌+◌, ◌*◌, ◌≤◌, map, drop}
use Rattle.kishu_meaning.specs.moments.Counting.{ended_in}
use Rattle.kishu_meaning.specs.moments.Moment.{Moment, and_then}
use Rattle.kishu_meaning.specs.comparing.Show.{show_all_in}
use Rattle.kishu_meaning.specs.values.Values.{value_of}
use Rattle.kishu_machine.specs.Lists.{string_texts}
use Rattle.kishu_machine.proofs.Showing.{behind}
use Rattle.kishu_machine.proofs.shows.all_texts.Given as goal

abbrev pub invariant-loop-value : goal.invariant-loop-value
invariant-loop-value g l = record {
  told : (s : Moment) → and_then (ended_in (record s { left = l.budget.left }) (show_all_in l.heap l.fn.budget.depth (map value_of (drop l.value-index l.values)) l.budget.left)) (behind (string_texts l.texts)) ≡ ended_in s (show_all_in l.heap l.fn.budget.depth (map value_of l.values) l.fn.budget.left);
  left : l.budget.left ≤ l.fn.budget.left;
  depth : l.budget.depth ≡ l.fn.budget.depth;
  least : l.fn.budget.left + l.fn.steps ≤ l.budget.left + l.steps;
  reads : 24 * l.budget.left + l.steps ≤ 24 * l.fn.budget.left + l.fn.steps + 2 * l.value-index;
}

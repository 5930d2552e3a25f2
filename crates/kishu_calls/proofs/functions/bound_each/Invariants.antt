use Rattle.std.proofs.Common.{◌≡◌, ◌≤◌, [], map, length}
use Rattle.kishu_machine.specs.Frames.{names_of}
use Rattle.kishu_language.specs.grammar.Refusals.{titles}
use Rattle.kishu_language.specs.trees.Tree.{parameter_of}
use Rattle.kishu_meaning.specs.values.Values.{value_of}
use Rattle.kishu_calls.proofs.Binding.{bound_onto}
use Rattle.kishu_calls.proofs.functions.bound_each.Given as goal

abbrev pub invariant-loop-value : goal.invariant-loop-value
invariant-loop-value l = record {
  told : bound_onto (titles (map parameter_of l.params)) (map value_of l.values.items) (names_of l.bound.entries) ≡ bound_onto (titles (map parameter_of l.params)) (map value_of l.fn.values.items) [];
  few : length l.values.items ≤ length l.params;
}

abbrev pub decreases-loop-value : goal.decreases-loop-value
decreases-loop-value l = length l.values.items

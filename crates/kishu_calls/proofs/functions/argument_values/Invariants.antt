use Rattle.std.proofs.Common.{◌≡◌, ◌≤◌, drop, map, length}
use Rattle.kishu_meaning.specs.calls.Functions.{with_defaults}
use Rattle.kishu_language.specs.trees.Tree.{parameter_of}
use Rattle.kishu_meaning.specs.values.Values.{value_of}
use Rattle.kishu_calls.specs.Calls.{named_of}
use Rattle.kishu_calls.specs.Forms.{arguments_for}
use Rattle.kishu_calls.proofs.Binding.{behind}
use Rattle.kishu_calls.proofs.functions.argument_values.Given as goal

abbrev pub invariant-loop-place : goal.invariant-loop-place
invariant-loop-place l = record {
  told : behind (map value_of l.values.items) (arguments_for (with_defaults (map parameter_of (drop l.place l.params)) (drop l.used (map value_of l.defaults))) (drop l.place (map value_of l.given.plain.items)) (named_of l.given.named.items)) ≡ arguments_for (with_defaults (map parameter_of l.params) (map value_of l.defaults)) (map value_of l.given.plain.items) (named_of l.given.named.items);
  used : l.used ≤ l.place;
  each : length l.values.items ≡ l.place;
}

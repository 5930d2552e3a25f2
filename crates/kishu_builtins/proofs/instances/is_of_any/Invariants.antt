use Rattle.std.proofs.Common.{◌≡◌, drop}
use Rattle.std.specs.Prelude.{option_map}
use Rattle.std.specs.List.{list_any}
use Rattle.kishu_meaning.specs.calls.Builtins.{is_of_class}
use Rattle.kishu_meaning.specs.values.Values.{value_of}
use Rattle.kishu_heap.specs.Cells.{node_of}
use Rattle.kishu_builtins.proofs.instances.is_of_any.Given as goal

abbrev pub invariant-loop-class : goal.invariant-loop-class
invariant-loop-class l = record {
  told : list_any (λ c. is_of_class (value_of l.value) (option_map (λ n. node_of n.now) l.found) (value_of c)) l.classes ≡ list_any (λ c. is_of_class (value_of l.value) (option_map (λ n. node_of n.now) l.found) (value_of c)) (drop l.class-index l.classes);
}

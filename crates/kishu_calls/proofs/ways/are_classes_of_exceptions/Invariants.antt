use Rattle.std.proofs.Common.{◌≡◌, drop, map}
use Rattle.std.specs.List.{list_all}
use Rattle.kishu_meaning.specs.values.Values.{value_of}
use Rattle.kishu_meaning.specs.cells.Ways.{is_class_of_exceptions}
use Rattle.kishu_calls.proofs.ways.are_classes_of_exceptions.Given as goal

abbrev pub invariant-loop-value : goal.invariant-loop-value
invariant-loop-value l = list_all is_class_of_exceptions (map value_of l.values) ≡ list_all is_class_of_exceptions (map value_of (drop l.value-index l.values))

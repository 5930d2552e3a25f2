use Rattle.std.proofs.Common.{◌≡◌, drop, map}
use Rattle.std.specs.List.{list_any}
use Rattle.kishu_meaning.specs.values.Values.{value_of}
use Rattle.kishu_meaning.specs.cells.Ways.{is_caught_by}
use Rattle.kishu_calls.proofs.ways.is_caught_by_one.Given as goal

abbrev pub invariant-loop-value : goal.invariant-loop-value
invariant-loop-value l = list_any (is_caught_by l.class.0) (map value_of l.values) ≡ list_any (is_caught_by l.class.0) (map value_of (drop l.value-index l.values))

use Rattle.std.proofs.Common.{◌≡◌, map, take}
use Rattle.kishu_meaning.specs.values.Values.{value_of}
use Rattle.kishu_items.proofs.sequences.copied_all.Given as goal

abbrev pub invariant-loop-value : goal.invariant-loop-value
invariant-loop-value l = map value_of l.copies.items ≡ map value_of (take l.value-index l.values)

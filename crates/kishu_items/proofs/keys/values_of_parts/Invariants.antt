use Rattle.std.proofs.Common.{◌≡◌, map, take}
use Rattle.kishu_meaning.specs.values.Keys.{part_of}
use Rattle.kishu_meaning.specs.items.KeyOf.{value_of_part}
use Rattle.kishu_meaning.specs.values.Values.{value_of}
use Rattle.kishu_items.proofs.keys.values_of_parts.Given as goal

abbrev pub invariant-loop-part : goal.invariant-loop-part
invariant-loop-part l = map value_of l.values.items ≡ map value_of_part (map part_of (take l.part-index l.parts))

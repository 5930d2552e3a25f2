use Rattle.std.proofs.Common.{◌≡◌, map, take}
use Rattle.kishu_meaning.specs.values.Keys.{part_of}
use Rattle.kishu_items.proofs.keys.copied_parts.Given as goal

abbrev pub invariant-loop-part : goal.invariant-loop-part
invariant-loop-part l = map part_of l.copies.items ≡ map part_of (take l.part-index l.parts)

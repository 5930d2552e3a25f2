use Rattle.std.proofs.Common.{◌≡◌, map, take}
use Rattle.kishu_meaning.specs.items.Sequences.{text_items}
use Rattle.kishu_meaning.specs.values.Values.{value_of}
use Rattle.kishu_items.proofs.sequences.text_items.Given as goal

abbrev pub invariant-loop-i : goal.invariant-loop-i
invariant-loop-i l = map value_of l.items.items ≡ text_items (take l.i l.characters.items)

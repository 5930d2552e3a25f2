use Rattle.std.proofs.Common.{◌≡◌, map}
use Rattle.kishu_meaning.specs.values.Texts.{places}
use Rattle.kishu_meaning.specs.values.Values.{value_of, integer}
use Rattle.kishu_items.proofs.ranges.range_items.Given as goal

abbrev pub invariant-loop-place : goal.invariant-loop-place
invariant-loop-place l = map value_of l.items.items ≡ map integer (places l.start l.step l.place)

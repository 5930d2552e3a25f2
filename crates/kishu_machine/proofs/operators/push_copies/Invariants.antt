use Rattle.std.proofs.Common.{◌≡◌, ◌++◌, map, take}
use Rattle.kishu_meaning.specs.values.Values.{value_of}
use Rattle.kishu_machine.proofs.operators.push_copies.Given as goal

abbrev pub invariant-loop-item : goal.invariant-loop-item
invariant-loop-item l = map value_of l.items.items ≡ map value_of l.initial.items.items ++ map value_of (take l.item-index l.more)

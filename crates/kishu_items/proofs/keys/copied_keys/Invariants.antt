use Rattle.std.proofs.Common.{◌≡◌, map, take}
use Rattle.kishu_meaning.specs.values.Keys.{key_of}
use Rattle.kishu_heap.specs.Cells.{entries_of}
use Rattle.kishu_items.proofs.keys.copied_keys.Given as goal

abbrev pub invariant-loop-i : goal.invariant-loop-i
invariant-loop-i l = map key_of l.keys.items ≡ map (λ e. e.0) (entries_of (take l.i l.entries.entries))

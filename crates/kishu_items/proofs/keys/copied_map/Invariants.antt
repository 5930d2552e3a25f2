use Rattle.std.proofs.Common.{◌≡◌, take}
use Rattle.kishu_heap.specs.Cells.{entries_of}
use Rattle.kishu_items.proofs.keys.copied_map.Given as goal

abbrev pub invariant-loop-i : goal.invariant-loop-i
invariant-loop-i l = entries_of l.copies.entries ≡ entries_of (take l.i l.entries.entries)

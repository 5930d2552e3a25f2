use Rattle.std.proofs.Common.{◌≡◌, ◌-◌, ◌++◌, length, map, pos}
use Rattle.kishu_meaning.specs.values.Texts.{places, LieWithin}
use Rattle.kishu_meaning.specs.values.Values.{value_of}
use Rattle.kishu_access.proofs.Placing.{seen_at}
use Rattle.kishu_access.proofs.slices.pick.Given as goal

abbrev pub invariant-loop-k : goal.invariant-loop-k
invariant-loop-k l =
    LieWithin (length l.items) (places (pos l.place) l.fn.step (l.len - l.k))
    × (map value_of l.found.items ++ seen_at l.items (places (pos l.place) l.fn.step (l.len - l.k)) ≡ seen_at l.items (places (pos l.fn.first) l.fn.step l.len))

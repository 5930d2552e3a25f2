use Rattle.std.proofs.Common.{◌≡◌, map, take}
use Rattle.kishu_picture.proofs.meeting.numbered.Given as goal

abbrev pub invariant-loop-i : goal.invariant-loop-i
invariant-loop-i l = map (λ id. id.0) l.ids.items ≡ take l.i l.found.keys

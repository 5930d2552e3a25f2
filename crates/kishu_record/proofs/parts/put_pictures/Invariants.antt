use Rattle.std.proofs.Common.{◌≡◌, ◌++◌, flat_map, take}
use Rattle.kishu_record.proofs.parts.put_pictures.Given as goal

abbrev pub invariant-loop-picture : goal.invariant-loop-picture
invariant-loop-picture l = l.out.items ≡ l.initial.out.items ++ flat_map (λ p. p.items) (take l.picture-index l.pictures)

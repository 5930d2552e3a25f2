use Rattle.std.proofs.Common.{◌≡◌, drop}
use Rattle.kishu_store.specs.Groups.{Group}
use Rattle.kishu_delta.specs.Compared.{half, put_all, with_pictures}
use Rattle.kishu_delta.specs.Kept.{kept_of}
use Rattle.kishu_delta.proofs.settling.hold_half.Given as goal

abbrev pub invariant-loop-group : goal.invariant-loop-group
invariant-loop-group l = (g : Group) → put_all (half l.takes (with_pictures (drop l.group-index l.groups))) (kept_of l.kept g) g ≡ put_all (half l.first (with_pictures l.groups)) (kept_of l.initial.kept g) g

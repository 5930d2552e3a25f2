use Rattle.std.proofs.Common.{◌≡◌, drop}
use Rattle.std.specs.Prelude.{◌||◌}
use Rattle.kishu_store.specs.Groups.{Group, is_one_of}
use Rattle.kishu_delta.specs.Compared.{standing, with_pictures}
use Rattle.kishu_delta.proofs.comparing.standing.Given as goal

abbrev pub invariant-loop-group : goal.invariant-loop-group
invariant-loop-group l = (g : Group) → (is_one_of g l.standing || is_one_of g (standing l.kept (with_pictures (drop l.group-index l.pictured)))) ≡ is_one_of g (standing l.kept (with_pictures l.pictured))

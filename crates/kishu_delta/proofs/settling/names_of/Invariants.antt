use Rattle.std.proofs.Common.{◌≡◌, ◌++◌, drop}
use Rattle.kishu_delta.specs.Compared.{groups_with, with_pictures}
use Rattle.kishu_delta.specs.Deltas.{all_groups}
use Rattle.kishu_delta.proofs.settling.names_of.Given as goal

abbrev pub invariant-loop-group : goal.invariant-loop-group
invariant-loop-group l = all_groups l.names ++ groups_with (with_pictures (drop l.group-index l.groups)) ≡ groups_with (with_pictures l.groups)

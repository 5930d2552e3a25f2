use Rattle.std.proofs.Common.{◌≡◌, ◌++◌, drop}
use Rattle.std.specs.Prelude.{not, filter}
use Rattle.kishu_store.specs.Groups.{is_one_of}
use Rattle.kishu_delta.specs.Deltas.{all_groups}
use Rattle.kishu_delta.specs.Near.{lent}
use Rattle.kishu_delta.proofs.comparing.dropped.Given as goal

abbrev pub invariant-loop-group : goal.invariant-loop-group
invariant-loop-group l =
    all_groups l.dropped ++ filter (λ g. not (is_one_of g l.standing)) (lent (drop l.group-index l.near))
    ≡ filter (λ g. not (is_one_of g l.standing)) (lent l.near)

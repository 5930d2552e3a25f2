use Rattle.std.proofs.Common.{◌≡◌, drop, map}
use Rattle.std.specs.Prelude.{if◌then◌else◌, None}
use Rattle.kishu_store.specs.Groups.{Group, is_one_of}
use Rattle.kishu_delta.specs.Found.{group_of}
use Rattle.kishu_delta.specs.Kept.{kept_of}
use Rattle.kishu_delta.proofs.settling.forget_all.Given as goal

abbrev pub invariant-loop-group : goal.invariant-loop-group
invariant-loop-group l = (g : Group) → (if is_one_of g (map group_of (drop l.group-index l.groups)) then None else kept_of l.kept g) ≡ (if is_one_of g (map group_of l.groups) then None else kept_of l.initial.kept g)

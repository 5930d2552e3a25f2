use Rattle.std.proofs.Common.{◌≡◌, ◌++◌, length, map}
use Rattle.kishu_delta.specs.Found.{group_of}
use Rattle.kishu_delta.specs.Merged.{merged}
use Rattle.kishu_delta.proofs.merging.merged_groups.Given as goal

abbrev pub invariant-loop-group : goal.invariant-loop-group
invariant-loop-group l = map group_of l.all.items ++ merged (λ g. g) (map group_of l.group-iterator.rest.items) (map group_of l.rest.items) ≡ merged (λ g. g) (map group_of l.fn.groups.items) (map group_of l.fn.others.items)

abbrev pub invariant-loop-group-2 : goal.invariant-loop-group-2
invariant-loop-group-2 l = map group_of l.all.items ++ map group_of l.rest.items ≡ merged (λ g. g) (map group_of l.fn.groups.items) (map group_of l.fn.others.items)

abbrev pub decreases-loop-group-2 : goal.decreases-loop-group-2
decreases-loop-group-2 l = length l.rest.items

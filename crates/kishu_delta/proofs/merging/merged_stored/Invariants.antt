use Rattle.std.proofs.Common.{◌≡◌, ◌++◌, length}
use Rattle.kishu_delta.specs.Compared.{group_in, with_pictures}
use Rattle.kishu_delta.specs.Merged.{merged}
use Rattle.kishu_delta.proofs.merging.merged_stored.Given as goal

abbrev pub invariant-loop-group : goal.invariant-loop-group
invariant-loop-group l = with_pictures l.all.items ++ merged group_in (with_pictures l.group-iterator.rest.items) (with_pictures l.rest.items) ≡ merged group_in (with_pictures l.fn.groups.items) (with_pictures l.fn.others.items)

abbrev pub invariant-loop-group-2 : goal.invariant-loop-group-2
invariant-loop-group-2 l = with_pictures l.all.items ++ with_pictures l.rest.items ≡ merged group_in (with_pictures l.fn.groups.items) (with_pictures l.fn.others.items)

abbrev pub decreases-loop-group-2 : goal.decreases-loop-group-2
decreases-loop-group-2 l = length l.rest.items

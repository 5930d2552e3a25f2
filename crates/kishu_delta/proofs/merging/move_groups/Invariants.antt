use Rattle.std.proofs.Common.{length, map}
use Rattle.kishu_names.specs.Record.{texts_of}
use Rattle.kishu_delta.specs.Found.{group_of}
use Rattle.kishu_delta.specs.Merged.{MovesSome}
use Rattle.kishu_delta.proofs.merging.move_groups.Given as goal

abbrev pub invariant-loop-group : goal.invariant-loop-group
invariant-loop-group l = MovesSome (λ g. g) (texts_of l.names) (map group_of l.initial.all.items) (map group_of l.initial.rest.items) (map group_of l.all.items) (map group_of l.rest.items)

abbrev pub decreases-loop-group : goal.decreases-loop-group
decreases-loop-group l = length l.rest.items

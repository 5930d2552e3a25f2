use Rattle.std.proofs.Common.{ℕ, List, length}
use Rattle.kishu_names.specs.Record.{texts_of}
use Rattle.kishu_delta.specs.Compared.{group_in, with_pictures}
use Rattle.kishu_delta.specs.Merged.{MovesSome}
use Rattle.kishu_delta.proofs.merging.move_stored.Given as goal

abbrev pub invariant-loop-group : goal.invariant-loop-group
invariant-loop-group l = (bytes : List ℕ) → MovesSome group_in (texts_of l.names, bytes) (with_pictures l.initial.all.items) (with_pictures l.initial.rest.items) (with_pictures l.all.items) (with_pictures l.rest.items)

abbrev pub decreases-loop-group : goal.decreases-loop-group
decreases-loop-group l = length l.rest.items

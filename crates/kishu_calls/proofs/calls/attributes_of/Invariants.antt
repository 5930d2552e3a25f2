use Rattle.std.proofs.Common.{◌≡◌, ◌++◌, length}
use Rattle.std.specs.Vec.Iter.{into_iter_items, into_iter_len}
use Rattle.kishu_heap.specs.Cells.{attributes_of}
use Rattle.kishu_calls.specs.Calls.{named_of}
use Rattle.kishu_calls.proofs.calls.attributes_of.Given as goal

-- what is left of the keywords goes on from here
abbrev pub invariant-loop-name : goal.invariant-loop-name
invariant-loop-name l = record {
  told : attributes_of l.attributes.entries ++ named_of (into_iter_items l.name-iterator) ≡ named_of (into_iter_items l.initial.name-iterator);
  left : into_iter_len l.name-iterator ≡ length (into_iter_items l.name-iterator);
}

use Rattle.std.proofs.Common.{◌≡◌, ◌++◌, map, length}
use Rattle.std.specs.Vec.Iter.{into_iter_items, into_iter_len}
use Rattle.kishu_meaning.specs.values.Texts.{code_points}
use Rattle.kishu_meaning.specs.values.Values.{text, value_of}
use Rattle.kishu_methods.proofs.pieces.text_values.Given as goal

-- what is left of the texts goes on from here
abbrev pub invariant-loop-text : goal.invariant-loop-text
invariant-loop-text l = record {
  told : map value_of l.values.items ++ map text (code_points (into_iter_items l.text-iterator)) ≡ map text (code_points (into_iter_items l.initial.text-iterator));
  left : into_iter_len l.text-iterator ≡ length (into_iter_items l.text-iterator);
}

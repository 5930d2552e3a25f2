use Rattle.std.proofs.Common.{◌≡◌, IsTrue, length, map, drop}
use Rattle.kishu_meaning.specs.values.Keys.{key_of}
use Rattle.kishu_meaning.specs.items.KeyOf.{values_of_keys}
use Rattle.kishu_meaning.specs.moments.Moment.{and_then}
use Rattle.kishu_meaning.specs.values.Sound.{are_sound}
use Rattle.kishu_meaning.specs.values.Values.{value_of}
use Rattle.kishu_heap.specs.Costs.{Spends}
use Rattle.kishu_items.specs.Called.{moment_of}
use Rattle.kishu_items.specs.Contents.{IsGrown}
use Rattle.kishu_items.specs.Gathering.{behind}
use Rattle.kishu_items.proofs.keys.values_of_keys.Given as goal

abbrev pub invariant-loop-i : goal.invariant-loop-i
invariant-loop-i g l = record {
  told : values_of_keys (map key_of l.keys) (moment_of l.fn.heap l.fn.budget) ≡ and_then (values_of_keys (map key_of (drop l.i l.keys)) (moment_of l.heap l.budget)) (behind (map value_of l.values.items));
  sound : IsTrue (are_sound (length l.heap) (map value_of l.values.items));
  more : IsGrown l.i l.fn.heap l.heap;
  spends : Spends 0 l.fn.budget l.fn.steps l.budget l.steps;
}

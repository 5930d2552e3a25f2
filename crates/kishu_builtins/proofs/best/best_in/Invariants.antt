use Rattle.std.proofs.Common.{◌≡◌, suc, ◌+◌, ◌-◌, ◌≤◌, IsTrue, length, None}
use Rattle.std.specs.Prelude.{IfSome, option_map}
use Rattle.kishu_meaning.specs.calls.Builtins.{folded, better}
use Rattle.kishu_meaning.specs.values.Sound.{is_sound}
use Rattle.kishu_meaning.specs.values.Values.{value_of}
use Rattle.kishu_heap.specs.Costs.{GrowsPaid, Spends}
use Rattle.kishu_builtins.specs.Called.{moment_of}
use Rattle.kishu_builtins.specs.Extremes.{comparison_of}
use Rattle.kishu_items.specs.Walks.{is_sound_walk, walk_of}
use Rattle.kishu_builtins.proofs.best.best_in.Given as goal

abbrev pub invariant-loop-at : goal.invariant-loop-at
invariant-loop-at g l = record {
  told : folded (better (comparison_of l.which)) (suc l.fn.budget.left) (walk_of l.walk) 0 None (moment_of l.fn.heap l.fn.budget) ≡ folded (better (comparison_of l.which)) (suc l.fn.budget.left - l.at) (walk_of l.walk) l.at (option_map value_of l.best) (moment_of l.heap l.budget);
  best : IfSome l.best (λ v. IsTrue (is_sound (length l.heap) (value_of v)));
  sound : IsTrue (is_sound_walk (length l.heap) (walk_of l.walk));
  grows : GrowsPaid 0 l.fn.heap l.fn.budget l.heap l.budget;
  spends : Spends 0 l.fn.budget l.fn.steps l.budget l.steps;
  turns : l.budget.left + l.at ≤ l.fn.budget.left;
}

use Rattle.std.proofs.Common.{◌≡◌, suc, ◌+◌, ◌-◌, ◌≤◌, IsTrue, length}
use Rattle.std.specs.Prelude.{pos}
use Rattle.kishu_meaning.specs.calls.Builtins.{folded, added}
use Rattle.kishu_meaning.specs.values.Values.{integer}
use Rattle.kishu_heap.specs.Costs.{GrowsPaid, Spends}
use Rattle.kishu_builtins.specs.Called.{moment_of}
use Rattle.kishu_items.specs.Walks.{is_sound_walk, walk_of}
use Rattle.kishu_builtins.proofs.sums.total.Given as goal

abbrev pub invariant-loop-at : goal.invariant-loop-at
invariant-loop-at g l = record {
  told : folded added (suc l.fn.budget.left) (walk_of l.walk) 0 (integer (pos 0)) (moment_of l.fn.heap l.fn.budget) ≡ folded added (suc l.fn.budget.left - l.at) (walk_of l.walk) l.at (integer l.sum) (moment_of l.heap l.budget);
  sound : IsTrue (is_sound_walk (length l.heap) (walk_of l.walk));
  grows : GrowsPaid 0 l.fn.heap l.fn.budget l.heap l.budget;
  spends : Spends 0 l.fn.budget l.fn.steps l.budget l.steps;
  turns : l.budget.left + l.at ≤ l.fn.budget.left;
}

use Rattle.std.proofs.Common.{◌∙◌, ap, refl, sym, subst, arith, suc, ◌-◌, ◌+◌, length, Option, Some, None}
use Rattle.std.specs.Prelude.{option_map}
use Rattle.std.proofs.lemmas.Result.{err_from_is_err_and}
use Rattle.kishu_meaning.specs.calls.Builtins.{folded, better}
use Rattle.kishu_meaning.specs.values.Values.{Value, value_of}
use Rattle.kishu_builtins.specs.Called.{moment_of, Fails}
use Rattle.kishu_builtins.specs.Extremes.{comparison_of}
use Rattle.kishu_items.specs.Walks.{walk_of}
use Rattle.kishu_builtins.proofs.Stays.{some_stays}
use Rattle.kishu_builtins.proofs.Visits.{fuel, next, start, folded_fault, folded_none, folded_item_fault, folded_further}
use Rattle.kishu_builtins.proofs.best.best_in.Goals as goal

pub loop-at-init : goal.loop-at-init
loop-at-init g c = record {
  told = ap (λ n. folded (better (comparison_of c.args.which)) n (walk_of c.args.walk.now) 0 None (moment_of c.args.heap.now c.args.budget.now)) (start c.args.budget.now.left);
  best = tt;
  sound = c.requires.sound;
  grows = (omega arith, omega arith);
  spends = (refl, omega arith, omega arith, omega arith);
  turns = omega arith;
}

pub returns-in_err-item-clause-gives : goal.returns-in_err-item-clause-gives
returns-in_err-item-clause-gives g c =
    let i = c.loop-at.invariant in
    let at = c.loop-at.at in
    let n = suc c.args.budget.now.left in
    let s = moment_of c.loop-at.heap c.loop-at.budget in
    let t = moment_of c.visited.new.heap c.visited.new.budget in
    let p = err_from_is_err_and c.from_residual.result c.from_residual.ensures.1 in
    let h = c.in_err-item.ensures.gives in
    rw (p.1, p.2) (subst (λ e. Fails {A = Option Value} c.in_err-item.field-0.0 t e) (sym i.told)
    (folded_fault (better (comparison_of c.args.which)) (walk_of c.args.walk.now) (n - at) (n - (at + 1)) at (at + 1) (fuel c.args.budget.now.left at c.loop-at-test.true) (next at) (option_map value_of c.loop-at.best) s t c.in_err-item.field-0.0 h))

pub returns-in_default-clause-gives : goal.returns-in_default-clause-gives
returns-in_default-clause-gives g c =
    let i = c.loop-at.invariant in
    let at = c.loop-at.at in
    let n = suc c.args.budget.now.left in
    let s = moment_of c.loop-at.heap c.loop-at.budget in
    let t = moment_of c.visited.new.heap c.visited.new.budget in
    let h = rw c.in_default.is at c.in_ok-item.ensures.gives in
    i.told ∙ folded_none (better (comparison_of c.args.which)) (walk_of c.args.walk.now) (n - at) (n - (at + 1)) at (at + 1) (fuel c.args.budget.now.left at c.loop-at-test.true) (next at) (option_map value_of c.loop-at.best) s t h

pub returns-in_default-clause-sound : goal.returns-in_default-clause-sound
returns-in_default-clause-sound g c = some_stays (length c.loop-at.heap) (length c.visited.new.heap) c.in_ok-item.ensures.grows.0 c.loop-at.best c.loop-at.invariant.best

pub better-requires-clause-best : goal.better-requires-clause-best
better-requires-clause-best g c = some_stays (length c.loop-at.heap) (length c.visited.new.heap) c.in_ok-item.ensures.grows.0 c.loop-at.best c.loop-at.invariant.best

pub better-requires-clause-value : goal.better-requires-clause-value
better-requires-clause-value g c = rw c.in-Some.is at c.in_ok-item.ensures.sound

pub returns-in_err-better-clause-gives : goal.returns-in_err-better-clause-gives
returns-in_err-better-clause-gives g c =
    let i = c.loop-at.invariant in
    let at = c.loop-at.at in
    let n = suc c.args.budget.now.left in
    let s = moment_of c.loop-at.heap c.loop-at.budget in
    let t = moment_of c.visited.new.heap c.visited.new.budget in
    let u = moment_of c.visited.new.heap c.better.new.budget in
    let p = err_from_is_err_and c.from_residual-in_err-better.result c.from_residual-in_err-better.ensures.1 in
    let h = rw c.in-Some.is at c.in_ok-item.ensures.gives in
    rw (p.1, p.2) (subst (λ e. Fails {A = Option Value} c.in_err-better.field-0.0 u e) (sym i.told)
    (folded_item_fault (better (comparison_of c.args.which)) (walk_of c.args.walk.now) (n - at) (n - (at + 1)) at (at + 1) (fuel c.args.budget.now.left at c.loop-at-test.true) (next at) (option_map value_of c.loop-at.best) s t
    (value_of c.in-Some.item) u c.in_err-better.field-0.0 h c.in_err-better.ensures.gives))

pub loop-at-preserved : goal.loop-at-preserved
loop-at-preserved g c =
    let i = c.loop-at.invariant in
    let at = c.loop-at.at in
    let n = suc c.args.budget.now.left in
    let s = moment_of c.loop-at.heap c.loop-at.budget in
    let t = moment_of c.visited.new.heap c.visited.new.budget in
    let u = moment_of c.visited.new.heap c.better.new.budget in
    let h = rw c.in-Some.is at c.in_ok-item.ensures.gives in
    let room = rw c.in-Some.is at c.in_ok-item.ensures.room in
    let paid = rw c.in-Some.is at c.in_ok-item.ensures.paid in
    record {
      told = i.told ∙ folded_further (better (comparison_of c.args.which)) (walk_of c.args.walk.now) (n - at) (n - (at + 1)) at (at + 1) (fuel c.args.budget.now.left at c.loop-at-test.true) (next at) (option_map value_of c.loop-at.best) s t
          (value_of c.in-Some.item) (Some (value_of c.in_ok-better.field-0)) u h c.in_ok-better.ensures.gives;
      best = c.in_ok-better.ensures.sound;
      sound = rw c.in-Some.is at c.in_ok-item.ensures.walk;
      grows = (omega (arith, c.in_ok-item.ensures.grows.0, i.grows.0), omega (arith, room, i.grows.1, c.in_ok-better.ensures.spends.1));
      spends = (c.in_ok-better.ensures.spends.0 ∙ (c.in_ok-item.ensures.spends.0 ∙ i.spends.0), omega (arith, c.in_ok-better.ensures.spends.1, c.in_ok-item.ensures.spends.1, i.spends.1), omega (arith, c.in_ok-better.ensures.spends.2, c.in_ok-item.ensures.spends.2, i.spends.2), omega (arith, paid, i.spends.3, c.in_ok-better.ensures.spends.3));
      turns = omega (arith, paid, c.in_ok-item.ensures.spends.2, i.turns, c.in_ok-better.ensures.spends.1);
    }

-- Each turn takes a step, so no turn is left over.
pub returns-clause-gives : goal.returns-clause-gives
returns-clause-gives g c = absurd (omega (arith, c.loop-at-test.false, c.loop-at.invariant.turns))

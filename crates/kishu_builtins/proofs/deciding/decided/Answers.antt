use Rattle.std.proofs.Common.{◌∙◌, ap, refl, sym, subst, arith, suc, ◌-◌, ◌+◌}
use Rattle.std.proofs.lemmas.Result.{err_from_is_err_and}
use Rattle.kishu_meaning.specs.calls.Builtins.{decided}
use Rattle.kishu_meaning.specs.values.Values.{value_of}
use Rattle.kishu_builtins.specs.Called.{moment_of, Fails}
use Rattle.kishu_items.specs.Walks.{walk_of}
use Rattle.kishu_builtins.proofs.Visits.{fuel, next, start, decided_fault, decided_none, decided_here, decided_further}
use Rattle.kishu_builtins.proofs.deciding.decided.Goals as goal

pub loop-at-init : goal.loop-at-init
loop-at-init g c = record {
  told = ap (λ n. decided c.args.which n (walk_of c.args.walk.now) 0 (moment_of c.args.heap.now c.args.budget.now)) (start c.args.budget.now.left);
  sound = c.requires.sound;
  grows = (omega arith, omega arith);
  spends = (refl, omega arith, omega arith, omega arith);
  turns = omega arith;
}

pub returns-in_err-item-clause-gives : goal.returns-in_err-item-clause-gives
returns-in_err-item-clause-gives g c =
    let i = c.loop-at.invariant in
    let at = c.loop-at.at in
    let n = suc c.args.budget.now.left in
    let s = moment_of c.loop-at.heap c.loop-at.budget in
    let t = moment_of c.visited.new.heap c.visited.new.budget in
    let p = err_from_is_err_and c.from_residual.result c.from_residual.ensures.1 in
    let h = c.in_err-item.ensures.gives in
    rw (p.1, p.2) (subst (λ e. Fails c.in_err-item.field-0.0 t e) (sym i.told)
    (decided_fault c.args.which (walk_of c.args.walk.now) (n - at) (n - (at + 1)) at (at + 1) (fuel c.args.budget.now.left at c.loop-at-test.true) (next at) s t c.in_err-item.field-0.0 h))

pub returns-in_default-clause-gives : goal.returns-in_default-clause-gives
returns-in_default-clause-gives g c =
    let i = c.loop-at.invariant in
    let at = c.loop-at.at in
    let n = suc c.args.budget.now.left in
    let s = moment_of c.loop-at.heap c.loop-at.budget in
    let t = moment_of c.visited.new.heap c.visited.new.budget in
    let h = rw c.in_default.is at c.in_ok-item.ensures.gives in
    i.told ∙ decided_none c.args.which (walk_of c.args.walk.now) (n - at) (n - (at + 1)) at (at + 1) (fuel c.args.budget.now.left at c.loop-at-test.true) (next at) s t h

pub returns-then-is_true-which-clause-gives : goal.returns-then-is_true-which-clause-gives
returns-then-is_true-which-clause-gives g c =
    let i = c.loop-at.invariant in
    let at = c.loop-at.at in
    let n = suc c.args.budget.now.left in
    let s = moment_of c.loop-at.heap c.loop-at.budget in
    let t = moment_of c.visited.new.heap c.visited.new.budget in
    let h = rw c.in-Some.is at c.in_ok-item.ensures.gives in
    i.told ∙ decided_here c.args.which (walk_of c.args.walk.now) (n - at) (n - (at + 1)) at (at + 1) (fuel c.args.budget.now.left at c.loop-at-test.true) (next at) s t
    (value_of c.in-Some.item) c.is_true.result h (c.is_true.ensures.is c.visited.new.budget) c.if-is_true-which.true

pub loop-at-preserved : goal.loop-at-preserved
loop-at-preserved g c =
    let i = c.loop-at.invariant in
    let at = c.loop-at.at in
    let n = suc c.args.budget.now.left in
    let s = moment_of c.loop-at.heap c.loop-at.budget in
    let t = moment_of c.visited.new.heap c.visited.new.budget in
    let h = rw c.in-Some.is at c.in_ok-item.ensures.gives in
    let room = rw c.in-Some.is at c.in_ok-item.ensures.room in
    let paid = rw c.in-Some.is at c.in_ok-item.ensures.paid in
    record {
      told = i.told ∙ decided_further c.args.which (walk_of c.args.walk.now) (n - at) (n - (at + 1)) at (at + 1) (fuel c.args.budget.now.left at c.loop-at-test.true) (next at) s t
          (value_of c.in-Some.item) c.is_true.result h (c.is_true.ensures.is c.visited.new.budget) c.if-is_true-which.false;
      sound = rw c.in-Some.is at c.in_ok-item.ensures.walk;
      grows = (omega (arith, c.in_ok-item.ensures.grows.0, i.grows.0), omega (arith, room, i.grows.1));
      spends = (c.in_ok-item.ensures.spends.0 ∙ i.spends.0, omega (arith, c.in_ok-item.ensures.spends.1, i.spends.1), omega (arith, c.in_ok-item.ensures.spends.2, i.spends.2, c.is_true.ensures.reads.0), omega (arith, paid, i.spends.3, c.is_true.ensures.reads.1));
      turns = omega (arith, paid, c.in_ok-item.ensures.spends.2, i.turns);
    }

-- Each turn takes a step, so no turn is left over.
pub returns-clause-gives : goal.returns-clause-gives
returns-clause-gives g c = absurd (omega (arith, c.loop-at-test.false, c.loop-at.invariant.turns))

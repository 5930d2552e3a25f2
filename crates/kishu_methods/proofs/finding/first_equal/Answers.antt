use Rattle.std.proofs.Common.{◌∙◌, arith}
use Rattle.std.proofs.lemmas.Result.{err_from_is_err_and}
use Rattle.kishu_meaning.specs.values.Values.{value_of}
use Rattle.kishu_methods.proofs.Finds.{place_fault, place_here, place_further}
use Rattle.kishu_methods.proofs.finding.first_equal.Goals as goal

pub returns-in_err-is_item-clause-gives : goal.returns-in_err-is_item-clause-gives
returns-in_err-is_item-clause-gives g c =
    let p = err_from_is_err_and c.from_residual.result c.from_residual.ensures.1 in
    rw (c.loop-i.invariant.told, p.1, p.2)
    (place_fault c.args.heap.now c.args.budget.now.depth (value_of c.args.value.now) c.args.items.now c.loop-i.i c.index-items-i.result (omega arith) c.index-items-i.is c.loop-i.budget.left c.is_item.new.budget.left c.loop-i.i c.in_err-is_item.field-0.0 (rw c.loop-i.invariant.spends.0 at c.in_err-is_item.ensures.gives))

pub returns-then-branch-clause-gives : goal.returns-then-branch-clause-gives
returns-then-branch-clause-gives g c =
    c.loop-i.invariant.told ∙ place_here c.args.heap.now c.args.budget.now.depth (value_of c.args.value.now) c.args.items.now c.loop-i.i c.index-items-i.result (omega arith) c.index-items-i.is c.loop-i.budget.left c.is_item.new.budget.left c.loop-i.i (rw (c.loop-i.invariant.spends.0, c.if-branch.true) at c.in_ok-is_item.ensures.gives)

pub loop-i-preserved : goal.loop-i-preserved
loop-i-preserved g c = record {
  told = c.loop-i.invariant.told ∙ place_further c.args.heap.now c.args.budget.now.depth (value_of c.args.value.now) c.args.items.now c.loop-i.i c.index-items-i.result (omega arith) c.index-items-i.is c.loop-i.budget.left c.is_item.new.budget.left c.loop-i.i (rw (c.loop-i.invariant.spends.0, c.if-branch.false) at c.in_ok-is_item.ensures.gives);
  spends = (c.is_item.ensures.depth ∙ c.loop-i.invariant.spends.0, omega arith, omega arith, omega arith);
}

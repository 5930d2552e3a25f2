use Rattle.std.proofs.Common.{◌∙◌, arith}
use Rattle.std.proofs.lemmas.Result.{err_from_is_err_and}
use Rattle.kishu_meaning.specs.values.Values.{value_of}
use Rattle.kishu_methods.proofs.Finds.{count_fault, count_further, one_more_at_most}
use Rattle.kishu_methods.proofs.finding.all_equal.Goals as goal

pub returns-in_err-same-clause-gives : goal.returns-in_err-same-clause-gives
returns-in_err-same-clause-gives g c =
    let p = err_from_is_err_and c.from_residual.result c.from_residual.ensures.1 in
    rw (c.loop-i.invariant.told, p.1, p.2)
    (count_fault c.args.heap.now c.args.budget.now.depth (value_of c.args.value.now) c.args.items.now c.loop-i.i c.index-items-i.result (omega arith) c.index-items-i.is c.loop-i.budget.left c.is_item.new.budget.left c.loop-i.found c.in_err-same.field-0.0 (rw c.loop-i.invariant.spends.0 at c.in_err-same.ensures.gives))

pub loop-i-preserved : goal.loop-i-preserved
loop-i-preserved g c = record {
  told = c.loop-i.invariant.told ∙ count_further c.args.heap.now c.args.budget.now.depth (value_of c.args.value.now) c.args.items.now c.loop-i.i c.index-items-i.result (omega arith) c.index-items-i.is c.loop-i.budget.left c.is_item.new.budget.left c.loop-i.found c.one_more_if-found.result c.in_ok-same.same (rw c.loop-i.invariant.spends.0 at c.in_ok-same.ensures.gives) c.one_more_if-found.ensures;
  few = one_more_at_most c.in_ok-same.same c.loop-i.found c.one_more_if-found.result c.loop-i.i c.one_more_if-found.ensures c.loop-i.invariant.few;
  spends = (c.is_item.ensures.depth ∙ c.loop-i.invariant.spends.0, omega arith, omega arith, omega arith);
}

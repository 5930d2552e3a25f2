use Rattle.std.proofs.Common.{◌∙◌, arith}
use Rattle.std.proofs.lemmas.Result.{err_from_is_err_and}
use Rattle.kishu_meaning.specs.comparing.Equal.{equal_nodes, pair_turned, less_nodes}
use Rattle.kishu_heap.proofs.OrderWalks.{one_read, order_fault, order_differs, order_goes_on, order_end}
use Rattle.kishu_heap.proofs.less.+less.Goals as goal

pub less_items-returns-in_err-pair_turned-clause-gives :
    goal.less_items-returns-in_err-pair_turned-clause-gives
less_items-returns-in_err-pair_turned-clause-gives g t c =
    let p = err_from_is_err_and c.from_residual.result c.from_residual.ensures.1 in
    rw (c.loop-i.invariant.told, p.1, p.2)
    (order_fault (pair_turned c.args.turned (equal_nodes c.args.heap.now c.args.room)) (less_nodes c.args.turned c.args.heap.now c.args.room) c.args.a.now c.args.b.now c.loop-i.i c.index-a-i.result c.index-b-i.result (omega arith) (omega arith) c.index-a-i.is c.index-b-i.is c.loop-i.left c.pair_turned.new.left c.in_err-pair_turned.field-0.0 c.in_err-pair_turned.ensures.gives)

pub less_items-returns-then-not-branch-clause-gives :
    goal.less_items-returns-then-not-branch-clause-gives
less_items-returns-then-not-branch-clause-gives g t c =
    let x = one_read c.args.a.now c.loop-i.i c.index-a-i.result c.index-a-i-then-not-branch.result (omega arith) c.index-a-i.is c.index-a-i-then-not-branch.is in
    let y = one_read c.args.b.now c.loop-i.i c.index-b-i.result c.index-b-i-then-not-branch.result (omega arith) c.index-b-i.is c.index-b-i-then-not-branch.is in
    rw (c.loop-i.invariant.told, order_differs (pair_turned c.args.turned (equal_nodes c.args.heap.now c.args.room)) (less_nodes c.args.turned c.args.heap.now c.args.room) c.args.a.now c.args.b.now c.loop-i.i c.index-a-i.result c.index-b-i.result (omega arith) (omega arith) c.index-a-i.is c.index-b-i.is c.loop-i.left c.pair_turned.new.left (rw c.if-not-branch.true at c.in_ok-pair_turned.ensures.gives), x, y) c.less_values.ensures.gives

pub less_items-loop-i-preserved : goal.less_items-loop-i-preserved
less_items-loop-i-preserved g t c = record {
  told = c.loop-i.invariant.told ∙ order_goes_on (pair_turned c.args.turned (equal_nodes c.args.heap.now c.args.room)) (less_nodes c.args.turned c.args.heap.now c.args.room) c.args.a.now c.args.b.now c.loop-i.i c.index-a-i.result c.index-b-i.result (omega arith) (omega arith) c.index-a-i.is c.index-b-i.is c.loop-i.left c.pair_turned.new.left (rw c.if-not-branch.false at c.in_ok-pair_turned.ensures.gives);
  takes = (omega arith, omega arith, omega arith);
}

pub less_items-returns-clause-gives : goal.less_items-returns-clause-gives
less_items-returns-clause-gives g t c =
    c.loop-i.invariant.told ∙ order_end (pair_turned c.args.turned (equal_nodes c.args.heap.now c.args.room)) (less_nodes c.args.turned c.args.heap.now c.args.room) c.args.a.now c.args.b.now c.loop-i.i c.loop-i.left (omega arith) (omega arith)

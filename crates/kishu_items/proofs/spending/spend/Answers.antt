use Rattle.std.proofs.Common.{arith}
use Rattle.kishu_items.specs.Spends.{enough, short}
use Rattle.kishu_items.proofs.spending.spend.Goals as goal

pub returns-then-budget-eq0-clause-gives : goal.returns-then-budget-eq0-clause-gives
returns-then-budget-eq0-clause-gives g c ns =
    short ns c.args.count c.args.budget.now.left c.args.budget.now.depth c.loop.budget.left c.loop.budget.depth (omega arith) (omega arith) c.loop.invariant.depth

pub returns-clause-gives : goal.returns-clause-gives
returns-clause-gives g c ns =
    enough ns c.args.count c.args.budget.now.left c.args.budget.now.depth c.loop.budget.left c.loop.budget.depth (omega arith) c.loop.invariant.depth

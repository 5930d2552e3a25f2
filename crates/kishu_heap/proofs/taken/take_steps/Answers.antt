use Rattle.std.proofs.Common.{◌∙◌, ap, arith}
use Rattle.kishu_meaning.specs.moments.Counting.{answer}
use Rattle.kishu_heap.proofs.Counts.{enough, short}
use Rattle.kishu_heap.proofs.taken.take_steps.Goals as goal

pub returns-then-left-eq0-clause-gives : goal.returns-then-left-eq0-clause-gives
returns-then-left-eq0-clause-gives g c = rw c.if-left-eq0.true (short c.args.count c.args.left.now (omega arith))

pub returns-clause-gives : goal.returns-clause-gives
returns-clause-gives g c = enough c.args.count c.args.left.now (omega arith) ∙ ap (answer tt) (omega arith)

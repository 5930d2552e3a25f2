use Rattle.std.proofs.Common.{arith}
use Rattle.kishu_lexer.proofs.Values.{past}
use Rattle.kishu_lexer.proofs.numerals.digits_value.Goals as goal

pub returns-in_err-n-clause-none : goal.returns-in_err-n-clause-none
returns-in_err-n-clause-none c = rw c.from_residual.ensures (past c.args.base c.args.digits.now c.loop-c.c-index c.c-item.result c.loop-c.n _ (omega arith) c.loop-c-test.true c.c-item.is c.in_err-n.ensures.none c.loop-c.invariant)

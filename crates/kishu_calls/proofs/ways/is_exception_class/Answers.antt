use Rattle.std.proofs.Common.{arith}
use Rattle.std.proofs.lemmas.Bool.Decides.{nat_tests}
use Rattle.kishu_calls.proofs.ways.is_exception_class.Goals as goal

pub returns-then-class : goal.returns-then-class
returns-then-class c = grind (arith, nat_tests)

pub returns-else-class : goal.returns-else-class
returns-else-class c = grind (arith, nat_tests)

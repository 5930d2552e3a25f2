use Rattle.std.proofs.Common.{map}
use Rattle.kishu_meaning.specs.items.Finding.{count_from}
use Rattle.kishu_meaning.specs.values.Values.{value_of}
use Rattle.kishu_methods.specs.Called.{moment_of}
use Rattle.kishu_methods.proofs.finding.count_among.Goals as goal

pub returns-clause-gives : goal.returns-clause-gives
returns-clause-gives g c =
    rw c.all_equal.ensures.spends.0
    (c.compared.ensures (count_from c.args.heap.now c.args.budget.now.depth (value_of c.args.value.now) 0 (map value_of c.args.items.now) c.args.budget.now.left) (moment_of c.args.heap.now c.args.budget.now) c.all_equal.new.budget.left c.all_equal.ensures.gives)

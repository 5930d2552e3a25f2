use Rattle.std.proofs.Common.{◌<◌, length, map}
use Rattle.std.specs.Prelude.{IfSome}
use Rattle.kishu_meaning.specs.items.Finding.{place_from}
use Rattle.kishu_meaning.specs.values.Values.{value_of}
use Rattle.kishu_methods.specs.Called.{moment_of}
use Rattle.kishu_methods.proofs.Passing.{answer_holds}
use Rattle.kishu_methods.proofs.finding.place_among.Goals as goal

pub returns-clause-gives : goal.returns-clause-gives
returns-clause-gives g c =
    rw c.first_equal.ensures.spends.0
    (c.compared.ensures (place_from c.args.heap.now c.args.budget.now.depth (value_of c.args.value.now) 0 (map value_of c.args.items.now) c.args.budget.now.left) (moment_of c.args.heap.now c.args.budget.now) c.first_equal.new.budget.left c.first_equal.ensures.gives)

pub returns-clause-within : goal.returns-clause-within
returns-clause-within g c =
    let seen = place_from c.args.heap.now c.args.budget.now.depth (value_of c.args.value.now) 0 (map value_of c.args.items.now) c.args.budget.now.left in
    let s = moment_of c.args.heap.now c.args.budget.now in
    answer_holds (λ o. IfSome o (λ place. place < length c.args.items.now)) c.first_equal.result c.compared.result c.first_equal.new.budget.left seen s c.first_equal.ensures.gives (c.compared.ensures seen s c.first_equal.new.budget.left c.first_equal.ensures.gives) c.first_equal.ensures.within

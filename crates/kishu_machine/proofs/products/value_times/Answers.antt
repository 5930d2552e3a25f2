use Rattle.std.proofs.Common.{SFits, rules}
use Rattle.std.specs.Int.{w128}
use Rattle.std.proofs.lemmas.Int.{to_z-of_z}
use Rattle.kishu_meaning.specs.values.Values.{value_of}
use Rattle.kishu_machine.specs.Machine.{moment_of}
use Rattle.kishu_machine.proofs.Sequences.{times_nothing}
use Rattle.kishu_machine.proofs.products.value_times.Goals as goal

pub returns-in-Some-clause-gives : goal.returns-in-Some-clause-gives
returns-in-Some-clause-gives g c =
    let z = c.in-Some.number in
    let f : SFits w128 z = search rules in
    rw c.in-Some.is (rw (to_z-of_z w128 z f) at c.value_often.ensures.gives)

pub returns-in-None-clause-gives : goal.returns-in-None-clause-gives
returns-in-None-clause-gives g c = rw c.in-None.is (times_nothing (value_of c.args.value.now) (moment_of c.args.machine.now))

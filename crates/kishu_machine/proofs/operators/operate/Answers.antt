use Rattle.std.proofs.Common.{subst, Option, ℤ, SFits, rules}
use Rattle.std.specs.Int.{w128}
use Rattle.std.proofs.lemmas.Int.{to_z-of_z}
use Rattle.kishu_meaning.specs.comparing.Equal.{number_in}
use Rattle.kishu_meaning.specs.calls.Operators.{on_numbers, on_sequences}
use Rattle.kishu_meaning.specs.values.Values.{value_of}
use Rattle.kishu_machine.specs.Machine.{Gives, moment_of}
use Rattle.kishu_machine.proofs.operators.operate.Goals as goal

pub returns-in-Some-clause-gives : goal.returns-in-Some-clause-gives
returns-in-Some-clause-gives g c =
    let a = value_of c.args.a.now in
    let b = value_of c.args.b.now in
    let t = moment_of c.with_number.new.machine in
    let z = c.in-Some.number in
    let f : SFits w128 z = search rules in
    subst (λ (o : Option ℤ). Gives value_of c.with_number.result t (on_numbers c.args.operator o (number_in b) (on_sequences c.args.operator a b) (moment_of c.args.machine.now))) c.in-Some.ensures (rw (to_z-of_z w128 z f) at c.with_number.ensures.gives)

pub returns-in-None-clause-gives : goal.returns-in-None-clause-gives
returns-in-None-clause-gives g c =
    let a = value_of c.args.a.now in
    let b = value_of c.args.b.now in
    let t = moment_of c.on_sequences.new.machine in
    subst (λ (o : Option ℤ). Gives value_of c.on_sequences.result t (on_numbers c.args.operator o (number_in b) (on_sequences c.args.operator a b) (moment_of c.args.machine.now))) c.in-None.ensures c.on_sequences.ensures.gives

use Rattle.std.proofs.Common.{length, subst, Option, Some, ℤ, SFits, rules}
use Rattle.std.specs.Int.{w128}
use Rattle.std.proofs.lemmas.Int.{to_z-of_z}
use Rattle.kishu_meaning.specs.calls.Operators.{arithmetic, on_numbers, on_sequences}
use Rattle.kishu_meaning.specs.values.Values.{value_of}
use Rattle.kishu_machine.specs.Machine.{Gives, moment_of}
use Rattle.kishu_machine.proofs.Sequences.{arithmetic_sound, value_sound}
use Rattle.kishu_machine.proofs.operators.with_number.Goals as goal

pub returns-in-Some-clause-gives : goal.returns-in-Some-clause-gives
returns-in-Some-clause-gives g c =
    let s = moment_of c.args.machine.now in
    let other = on_sequences c.args.operator (value_of c.args.a.now) (value_of c.args.b.now) in
    let z = c.in-Some.other in
    let f : SFits w128 z = search rules in
    subst (λ (o : Option ℤ). Gives value_of c.arithmetic.result s (on_numbers c.args.operator (Some c.args.number) o other s)) c.in-Some.ensures (rw (to_z-of_z w128 c.args.number c.ranges.number, to_z-of_z w128 z f) at (c.arithmetic.ensures s))

pub returns-in-Some-clause-sound : goal.returns-in-Some-clause-sound
returns-in-Some-clause-sound g c =
    let s = moment_of c.args.machine.now in
    let n = length s.nodes in
    let z = c.in-Some.other in
    let f : SFits w128 z = search rules in
    value_sound n c.arithmetic.result s (arithmetic c.args.operator c.args.number c.in-Some.other s) (arithmetic_sound n c.args.operator c.args.number c.in-Some.other s) (rw (to_z-of_z w128 c.args.number c.ranges.number, to_z-of_z w128 z f) at (c.arithmetic.ensures s))

pub returns-in-None-clause-gives : goal.returns-in-None-clause-gives
returns-in-None-clause-gives g c =
    let s = moment_of c.args.machine.now in
    let t = moment_of c.on_sequences.new.machine in
    let other = on_sequences c.args.operator (value_of c.args.a.now) (value_of c.args.b.now) in
    subst (λ (o : Option ℤ). Gives value_of c.on_sequences.result t (on_numbers c.args.operator (Some c.args.number) o other s)) c.in-None.ensures c.on_sequences.ensures.gives

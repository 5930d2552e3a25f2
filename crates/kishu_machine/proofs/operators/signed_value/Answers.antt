use Rattle.std.proofs.Common.{refl, subst, Option, ℤ, SFits, rules}
use Rattle.std.specs.Int.{w128}
use Rattle.std.proofs.lemmas.Int.{to_z-of_z}
use Rattle.kishu_meaning.specs.calls.Operators.{sign_text, signed_in, signed_number, whole}
use Rattle.kishu_meaning.specs.values.Sound.{is_sound}
use Rattle.kishu_meaning.specs.values.Values.{value_of}
use Rattle.kishu_machine.specs.Machine.{Gives, moment_of}
use Rattle.kishu_machine.proofs.Sequences.{operand_as, raised_all, value_sound, whole_sound}
use Rattle.kishu_machine.proofs.operators.signed_value.Goals as goal

pub returns-in-Some-clause-gives : goal.returns-in-Some-clause-gives
returns-in-Some-clause-gives g c =
    let s = moment_of c.args.machine.now in
    let v = value_of c.args.value.now in
    let z = c.in-Some.number in
    let f : SFits w128 z = search rules in
    subst (λ (o : Option ℤ). Gives value_of c.signed_number.result s (signed_in c.args.sign v o s)) c.in-Some.ensures (rw (to_z-of_z w128 z f) at (c.signed_number.ensures s))

pub returns-in-None-clause-gives : goal.returns-in-None-clause-gives
returns-in-None-clause-gives g c =
    let s = moment_of c.args.machine.now in
    let v = value_of c.args.value.now in
    subst (λ (o : Option ℤ). Gives value_of c.bad_operand.result s (signed_in c.args.sign v o s)) c.in-None.ensures
    (operand_as (λ x. x) value_of c.bad_operand.result (sign_text c.args.sign) v s s (rw c.sign_text.ensures.is at c.bad_operand.ensures.gives))

pub returns-in-Some-clause-sound : goal.returns-in-Some-clause-sound
returns-in-Some-clause-sound g c = λ n.
    let s = moment_of c.args.machine.now in
    let z = c.in-Some.number in
    let f : SFits w128 z = search rules in
    let to = signed_number c.args.sign z in
    value_sound n c.signed_number.result s (whole to s) (whole_sound n to s) (rw (to_z-of_z w128 z f) at (c.signed_number.ensures s))

pub returns-in-None-clause-sound : goal.returns-in-None-clause-sound
returns-in-None-clause-sound g c = λ n. let s = moment_of c.args.machine.now in raised_all (λ x. x) (λ v. is_sound n (value_of v)) n c.bad_operand.result _ s s refl c.bad_operand.ensures.gives

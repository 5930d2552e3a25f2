use Rattle.std.proofs.Common.{length}
use Rattle.kishu_meaning.specs.calls.Operators.{operator_sign}
use Rattle.kishu_meaning.specs.values.Sound.{is_sound}
use Rattle.kishu_meaning.specs.values.Values.{value_of}
use Rattle.kishu_machine.specs.Machine.{moment_of}
use Rattle.kishu_machine.proofs.Sequences.{bad_as, bad_sound}
use Rattle.kishu_machine.proofs.operators.bad_values.Goals as goal

pub returns-clause-gives : goal.returns-clause-gives
returns-clause-gives g c =
    let s = moment_of c.args.machine.now in
    bad_as (λ x. x) c.bad_operands.result (operator_sign c.args.operator) (value_of c.args.a.now) (value_of c.args.b.now) s s value_of (rw c.operator_sign.ensures.is at c.bad_operands.ensures.gives)

pub returns-clause-sound : goal.returns-clause-sound
returns-clause-sound g c =
    let s = moment_of c.args.machine.now in
    let n = length s.nodes in
    bad_sound (λ x. x) c.bad_operands.result (operator_sign c.args.operator) (value_of c.args.a.now) (value_of c.args.b.now) s s (λ v. is_sound n (value_of v)) n (rw c.operator_sign.ensures.is at c.bad_operands.ensures.gives)

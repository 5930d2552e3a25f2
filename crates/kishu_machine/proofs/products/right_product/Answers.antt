use Rattle.std.proofs.Common.{None, Some, refl}
use Rattle.std.proofs.lemmas.Result.{err_from_is_err_and}
use Rattle.std.specs.Prelude.{Ok}
use Rattle.kishu_language.specs.declared.tree.Operator.TheVariants as operators
use Rattle.kishu_meaning.specs.comparing.Equal.{number_in}
use Rattle.kishu_meaning.specs.calls.Operators.{bad_operands, operator_sign}
use Rattle.kishu_meaning.specs.values.Values.{value_of}
use Rattle.kishu_machine.specs.Machine.{moment_of}
use Rattle.kishu_machine.proofs.Sequences.{value_fails, value_gives}
use Rattle.kishu_machine.proofs.products.right_product.Goals as goal

pub returns-in_err-made-clause-gives : goal.returns-in_err-made-clause-gives
returns-in_err-made-clause-gives g c =
    let a = value_of c.args.a.now in
    let b = value_of c.args.b.now in
    let p = err_from_is_err_and c.from_residual.result c.from_residual.ensures.1 in
    rw (p.1, p.2) (value_fails b (number_in a) (bad_operands (operator_sign operators.Multiply) a b) (moment_of c.args.machine.now) c.in_err-made.field-0.0 (moment_of c.value_times.new.machine) (rw c.number_in.ensures at c.in_err-made.ensures.gives))

pub returns-in-Some-clause-gives : goal.returns-in-Some-clause-gives
returns-in-Some-clause-gives g c =
    let a = value_of c.args.a.now in
    let b = value_of c.args.b.now in
    let u = moment_of c.value_times.new.machine in
    value_gives b (number_in a) (bad_operands (operator_sign operators.Multiply) a b) (moment_of c.args.machine.now) (Ok c.in-Some.value) (Some (value_of c.in-Some.value)) u u (rw (c.in-Some.is, c.number_in.ensures) at c.in_ok-made.ensures.gives) refl

pub returns-in-None-clause-gives : goal.returns-in-None-clause-gives
returns-in-None-clause-gives g c =
    let a = value_of c.args.a.now in
    let b = value_of c.args.b.now in
    let u = moment_of c.value_times.new.machine in
    value_gives b (number_in a) (bad_operands (operator_sign operators.Multiply) a b) (moment_of c.args.machine.now) c.bad_values.result None u u (rw (c.in-None.is, c.number_in.ensures) at c.in_ok-made.ensures.gives) c.bad_values.ensures.gives

use Rattle.std.proofs.Common.{None, Some, refl}
use Rattle.std.proofs.lemmas.Result.{err_from_is_err_and}
use Rattle.std.specs.Prelude.{Ok}
use Rattle.kishu_language.specs.declared.tree.Operator.TheVariants as operators
use Rattle.kishu_meaning.specs.comparing.Equal.{number_in}
use Rattle.kishu_meaning.specs.calls.Operators.{bad_operands, operator_sign, value_times}
use Rattle.kishu_meaning.specs.values.Values.{value_of}
use Rattle.kishu_machine.specs.Machine.{moment_of}
use Rattle.kishu_machine.proofs.Sequences.{value_fails, value_gives}
use Rattle.kishu_machine.proofs.products.product_of.Goals as goal

pub returns-in_err-made-clause-gives : goal.returns-in_err-made-clause-gives
returns-in_err-made-clause-gives g c =
    let a = value_of c.args.a.now in
    let b = value_of c.args.b.now in
    let other = value_times b (number_in a) (bad_operands (operator_sign operators.Multiply) a b) in
    let p = err_from_is_err_and c.from_residual.result c.from_residual.ensures.1 in
    rw (p.1, p.2) (value_fails a (number_in b) other (moment_of c.args.machine.now) c.in_err-made.field-0.0 (moment_of c.value_times.new.machine) (rw c.number_in.ensures at c.in_err-made.ensures.gives))

pub returns-in-Some-clause-gives : goal.returns-in-Some-clause-gives
returns-in-Some-clause-gives g c =
    let a = value_of c.args.a.now in
    let b = value_of c.args.b.now in
    let other = value_times b (number_in a) (bad_operands (operator_sign operators.Multiply) a b) in
    let u = moment_of c.value_times.new.machine in
    value_gives a (number_in b) other (moment_of c.args.machine.now) (Ok c.in-Some.value) (Some (value_of c.in-Some.value)) u u (rw (c.in-Some.is, c.number_in.ensures) at c.in_ok-made.ensures.gives) refl

pub returns-in-None-clause-gives : goal.returns-in-None-clause-gives
returns-in-None-clause-gives g c =
    let a = value_of c.args.a.now in
    let b = value_of c.args.b.now in
    let other = value_times b (number_in a) (bad_operands (operator_sign operators.Multiply) a b) in
    let u = moment_of c.value_times.new.machine in
    value_gives a (number_in b) other (moment_of c.args.machine.now) c.right_product.result None u (moment_of c.right_product.new.machine) (rw (c.in-None.is, c.number_in.ensures) at c.in_ok-made.ensures.gives) c.right_product.ensures.gives

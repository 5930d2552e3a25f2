use Rattle.std.proofs.Common.{None, Some, map}
use Rattle.std.proofs.lemmas.Result.{err_from_is_err_and}
use Rattle.kishu_language.specs.declared.tree.Operator.TheVariants as operators
use Rattle.kishu_meaning.specs.moments.Moment.{node_at}
use Rattle.kishu_meaning.specs.calls.Operators.{bad_operands, new_tuple, operator_sign, tuple_from}
use Rattle.kishu_meaning.specs.values.Values.{value_of}
use Rattle.kishu_machine.specs.Machine.{moment_of}
use Rattle.kishu_machine.proofs.Sequences.{sum_fails, sum_gives}
use Rattle.kishu_machine.proofs.sums.sum_of_tuples.Goals as goal

pub returns-in_err-found-clause-gives : goal.returns-in_err-found-clause-gives
returns-in_err-found-clause-gives g c =
    let s = moment_of c.args.machine.now in
    let a = value_of c.args.a.now in
    let b = value_of c.args.b.now in
    let p = err_from_is_err_and c.from_residual.result c.from_residual.ensures.1 in
    rw (p.1, p.2) (sum_fails new_tuple (bad_operands (operator_sign operators.Add) a b) (tuple_from (node_at s.nodes a)) (tuple_from (node_at s.nodes b)) s c.in_err-found.field-0.0 (moment_of c.tuple_sum.new.machine) c.in_err-found.ensures.gives)

pub returns-in-Some-clause-gives : goal.returns-in-Some-clause-gives
returns-in-Some-clause-gives g c =
    let s = moment_of c.args.machine.now in
    let a = value_of c.args.a.now in
    let b = value_of c.args.b.now in
    sum_gives new_tuple (bad_operands (operator_sign operators.Add) a b) (tuple_from (node_at s.nodes a)) (tuple_from (node_at s.nodes b)) s c.new_tuple.result (Some (map value_of c.in-Some.items.items)) (moment_of c.tuple_sum.new.machine) (moment_of c.new_tuple.new.machine)
    (rw c.in-Some.is at c.in_ok-found.ensures.gives) c.new_tuple.ensures.gives

pub returns-in-None-clause-gives : goal.returns-in-None-clause-gives
returns-in-None-clause-gives g c =
    let s = moment_of c.args.machine.now in
    let u = moment_of c.tuple_sum.new.machine in
    let a = value_of c.args.a.now in
    let b = value_of c.args.b.now in
    sum_gives new_tuple (bad_operands (operator_sign operators.Add) a b) (tuple_from (node_at s.nodes a)) (tuple_from (node_at s.nodes b)) s c.bad_values.result None u u
    (rw c.in-None.is at c.in_ok-found.ensures.gives) c.bad_values.ensures.gives

use Rattle.std.proofs.Common.{None, Some, map, List, subst}
use Rattle.std.proofs.lemmas.Result.{err_from_is_err_and}
use Rattle.kishu_language.specs.declared.tree.Operator.TheVariants as operators
use Rattle.kishu_meaning.specs.moments.Moment.{node_at}
use Rattle.kishu_meaning.specs.calls.Operators.{bad_operands, new_list, operator_sign, list_from}
use Rattle.kishu_meaning.specs.values.Values.{Node, value_of}
use Rattle.kishu_machine.specs.Machine.{Gives, moment_of}
use Rattle.kishu_machine.proofs.Sequences.{sum_fails, sum_gives, tuples_or}
use Rattle.kishu_machine.proofs.sums.sum_of_nodes.Goals as goal

pub returns-in_err-found-clause-gives : goal.returns-in_err-found-clause-gives
returns-in_err-found-clause-gives g c =
    let s = moment_of c.args.machine.now in
    let a = value_of c.args.a.now in
    let b = value_of c.args.b.now in
    let p = err_from_is_err_and c.from_residual.result c.from_residual.ensures.1 in
    rw (p.1, p.2) (sum_fails new_list (tuples_or a b (bad_operands (operator_sign operators.Add) a b) s.nodes) (list_from (node_at s.nodes a)) (list_from (node_at s.nodes b)) s c.in_err-found.field-0.0 (moment_of c.list_sum.new.machine) c.in_err-found.ensures.gives)

pub returns-in-Some-clause-gives : goal.returns-in-Some-clause-gives
returns-in-Some-clause-gives g c =
    let s = moment_of c.args.machine.now in
    let a = value_of c.args.a.now in
    let b = value_of c.args.b.now in
    sum_gives new_list (tuples_or a b (bad_operands (operator_sign operators.Add) a b) s.nodes) (list_from (node_at s.nodes a)) (list_from (node_at s.nodes b)) s c.new_list.result (Some (map value_of c.in-Some.items.items)) (moment_of c.list_sum.new.machine) (moment_of c.new_list.new.machine)
    (rw c.in-Some.is at c.in_ok-found.ensures.gives) c.new_list.ensures.gives

pub returns-in-None-clause-gives : goal.returns-in-None-clause-gives
returns-in-None-clause-gives g c =
    let s = moment_of c.args.machine.now in
    let u = moment_of c.list_sum.new.machine in
    let t = moment_of c.sum_of_tuples.new.machine in
    let a = value_of c.args.a.now in
    let b = value_of c.args.b.now in
    let other = bad_operands (operator_sign operators.Add) a b in
    sum_gives new_list (tuples_or a b other s.nodes) (list_from (node_at s.nodes a)) (list_from (node_at s.nodes b)) s c.sum_of_tuples.result None u t
    (rw c.in-None.is at c.in_ok-found.ensures.gives)
    (subst (λ (ns : List Node). Gives value_of c.sum_of_tuples.result t (tuples_or a b other ns u)) c.in_ok-found.ensures.heap c.sum_of_tuples.ensures.gives)

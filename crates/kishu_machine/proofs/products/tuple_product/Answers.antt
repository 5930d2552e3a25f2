use Rattle.std.proofs.Common.{Some, ap, map, length}
use Rattle.std.proofs.lemmas.Result.{err_from_is_err_and}
use Rattle.std.specs.Int.{w128}
use Rattle.std.proofs.lemmas.Int.{to_z-of_z}
use Rattle.kishu_meaning.specs.moments.Moment.{and_then, node_at}
use Rattle.kishu_meaning.specs.calls.Operators.{new_tuple, times, tuple_from}
use Rattle.kishu_meaning.specs.values.Values.{value_of}
use Rattle.kishu_machine.specs.Composing.{fails_on, gives_on}
use Rattle.kishu_machine.specs.Forms.{maybe_often, some_tuple, some_value}
use Rattle.kishu_machine.specs.Lists.{values_in}
use Rattle.kishu_machine.specs.Machine.{moment_of}
use Rattle.kishu_machine.proofs.Sequences.{some_gives, some_sound, some_there}
use Rattle.kishu_machine.proofs.products.tuple_product.Goals as goal

pub returns-in_err-found-clause-gives : goal.returns-in_err-found-clause-gives
returns-in_err-found-clause-gives g c =
    let s = moment_of c.args.machine.now in
    let e = maybe_often (tuple_from (node_at s.nodes (value_of c.args.value.now))) (times c.args.number) s in
    let p = err_from_is_err_and c.from_residual.result c.from_residual.ensures.1 in
    rw (p.1, p.2) (fails_on some_tuple c.in_err-found.field-0.0 (moment_of c.tuple_times.new.machine) e (rw (c.times.ensures, to_z-of_z w128 c.args.number c.ranges.number) at c.in_err-found.ensures.gives))

pub returns-in-Some-clause-gives : goal.returns-in-Some-clause-gives
returns-in-Some-clause-gives g c =
    let s = moment_of c.args.machine.now in
    let u = moment_of c.tuple_times.new.machine in
    let t = moment_of c.new_tuple.new.machine in
    let vs = map value_of c.in-Some.items.items in
    let e = maybe_often (tuple_from (node_at s.nodes (value_of c.args.value.now))) (times c.args.number) s in
    rw c.some_value.ensures
    (gives_on some_tuple values_in (some_value c.new_tuple.result) (Some vs) u t e (rw (c.in-Some.is, c.times.ensures, to_z-of_z w128 c.args.number c.ranges.number) at c.in_ok-found.ensures.gives) (some_gives c.new_tuple.result t (new_tuple vs u) c.new_tuple.ensures.gives))

pub returns-in-Some-clause-sound : goal.returns-in-Some-clause-sound
returns-in-Some-clause-sound g c = rw c.some_value.ensures (some_sound c.new_tuple.result (length c.new_tuple.new.machine.heap) c.new_tuple.ensures.sound)

pub returns-in-Some-clause-unmade : goal.returns-in-Some-clause-unmade
returns-in-Some-clause-unmade g c = rw c.some_value.ensures (some_there c.new_tuple.result _)

pub returns-in-None-clause-gives : goal.returns-in-None-clause-gives
returns-in-None-clause-gives g c =
    ap (λ x. and_then x some_tuple) (rw (c.in-None.is, c.times.ensures, to_z-of_z w128 c.args.number c.ranges.number) at c.in_ok-found.ensures.gives)

use Rattle.std.proofs.Common.{None, Some, map, List, length, subst, arith}
use Rattle.std.proofs.lemmas.Result.{err_from_is_err_and}
use Rattle.std.specs.Int.{w128}
use Rattle.std.proofs.lemmas.Int.{to_z-of_z}
use Rattle.kishu_meaning.specs.moments.Moment.{node_at}
use Rattle.kishu_meaning.specs.calls.Operators.{new_list}
use Rattle.kishu_meaning.specs.values.Values.{Node, value_of}
use Rattle.kishu_machine.specs.Forms.{some_value, maybe_tuple_times}
use Rattle.kishu_machine.specs.Lists.{values_in}
use Rattle.kishu_machine.specs.Machine.{Gives, moment_of}
use Rattle.kishu_machine.proofs.Sequences.{product_fails, product_gives, some_gives, some_sound, some_there, unmade_on}
use Rattle.kishu_machine.proofs.products.node_times.Goals as goal

pub returns-in_err-found-clause-gives : goal.returns-in_err-found-clause-gives
returns-in_err-found-clause-gives g c =
    let s = moment_of c.args.machine.now in
    let p = err_from_is_err_and c.from_residual.result c.from_residual.ensures.1 in
    rw (p.1, p.2) (product_fails (node_at s.nodes (value_of c.args.value.now)) c.args.number s c.in_err-found.field-0.0 (moment_of c.list_times.new.machine) (rw (c.times.ensures, to_z-of_z w128 c.args.number c.ranges.number) at c.in_err-found.ensures.gives))

pub returns-in-Some-clause-gives : goal.returns-in-Some-clause-gives
returns-in-Some-clause-gives g c =
    let s = moment_of c.args.machine.now in
    let u = moment_of c.list_times.new.machine in
    let t = moment_of c.new_list.new.machine in
    let vs = map value_of c.in-Some.items.items in
    rw c.some_value.ensures
    (product_gives (node_at s.nodes (value_of c.args.value.now)) c.args.number s (some_value c.new_list.result) (Some vs) u t
    (rw (c.in-Some.is, c.times.ensures, to_z-of_z w128 c.args.number c.ranges.number) at c.in_ok-found.ensures.gives) (some_gives c.new_list.result t (new_list vs u) c.new_list.ensures.gives))

pub returns-in-Some-clause-sound : goal.returns-in-Some-clause-sound
returns-in-Some-clause-sound g c = rw c.some_value.ensures (some_sound c.new_list.result (length c.new_list.new.machine.heap) c.new_list.ensures.sound)

pub returns-in-Some-clause-unmade : goal.returns-in-Some-clause-unmade
returns-in-Some-clause-unmade g c = rw c.some_value.ensures (some_there c.new_list.result _)

pub returns-in-None-clause-gives : goal.returns-in-None-clause-gives
returns-in-None-clause-gives g c =
    let s = moment_of c.args.machine.now in
    let u = moment_of c.list_times.new.machine in
    let t = moment_of c.tuple_product.new.machine in
    let v = value_of c.args.value.now in
    product_gives (node_at s.nodes v) c.args.number s c.tuple_product.result None u t (rw (c.in-None.is, c.times.ensures, to_z-of_z w128 c.args.number c.ranges.number) at c.in_ok-found.ensures.gives)
    (subst (λ (ns : List Node). Gives values_in c.tuple_product.result t (maybe_tuple_times (node_at ns v) c.args.number u)) c.in_ok-found.ensures.heap (rw (to_z-of_z w128 c.args.number c.ranges.number) at c.tuple_product.ensures.gives))

pub returns-in-None-clause-unmade : goal.returns-in-None-clause-unmade
returns-in-None-clause-unmade g c = unmade_on c.tuple_product.result _ _ (λ h. (omega arith, omega arith, omega arith)) c.tuple_product.ensures.unmade

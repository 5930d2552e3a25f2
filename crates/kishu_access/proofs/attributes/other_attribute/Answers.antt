use Rattle.std.proofs.Common.{length, map}
use Rattle.kishu_meaning.specs.values.Values.{value_of}
use Rattle.kishu_machine.specs.Machine.{moment_of}
use Rattle.kishu_meaning.specs.values.Sound.{is_sound}
use Rattle.kishu_meaning.specs.moments.Moment.{node_at}
use Rattle.kishu_meaning.specs.calls.Operators.{new_tuple}
use Rattle.kishu_meaning.specs.items.Subscripts.{node_attribute}
use Rattle.kishu_access.proofs.Attributing.{arguments_found, nothing_found}
use Rattle.kishu_access.proofs.Ends.{by_end, unnamed, unnamed_sound}
use Rattle.kishu_access.proofs.attributes.other_attribute.Goals as goal

pub new_tuple-requires-clause-sound : goal.new_tuple-requires-clause-sound
new_tuple-requires-clause-sound g c = rw c.in-Some.is at c.in_ok-items.ensures.sound

pub returns-in-Some-clause-gives : goal.returns-in-Some-clause-gives
returns-in-Some-clause-gives g c =
    let v = value_of c.args.value.now in
    let s = moment_of c.args.machine.now in
    let vs = map value_of c.in-Some.items.items in
    let there = rw c.in-Some.is at c.in_ok-items.ensures.found in
    by_end value_of c.new_tuple.result (moment_of c.new_tuple.new.machine) (node_attribute v c.args.name.now (node_at s.nodes v) s) (new_tuple vs s) (arguments_found v c.args.name.now s (node_at s.nodes v) vs there) c.new_tuple.ensures.gives

pub returns-in-None-clause-gives : goal.returns-in-None-clause-gives
returns-in-None-clause-gives g c =
    let v = value_of c.args.value.now in
    let s = moment_of c.args.machine.now in
    let x = c.args.name.now in
    let there = rw c.in-None.is at c.in_ok-items.ensures.found in
    by_end value_of c.no_attribute.result s (node_attribute v x (node_at s.nodes v) s) _ (nothing_found v x s (node_at s.nodes v) c.requires.none there) (unnamed s c.no_attribute.result v value_of x c.no_attribute.ensures.gives)

pub returns-in-None-clause-sound : goal.returns-in-None-clause-sound
returns-in-None-clause-sound g c =
    let n = length c.args.machine.now.heap in
    unnamed_sound (moment_of c.args.machine.now) c.no_attribute.result (value_of c.args.value.now) (λ v. is_sound n (value_of v)) n c.args.name.now c.no_attribute.ensures.gives

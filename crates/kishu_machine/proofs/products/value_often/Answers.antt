use Rattle.std.proofs.Common.{length}
use Rattle.std.specs.Str.{chars}
use Rattle.std.specs.Int.{w128}
use Rattle.std.proofs.lemmas.Int.{to_z-of_z}
use Rattle.kishu_meaning.specs.calls.Operators.{repeated}
use Rattle.kishu_meaning.specs.values.Values.{value_of}
use Rattle.kishu_machine.specs.Machine.{moment_of}
use Rattle.kishu_machine.proofs.Sequences.{some_gives, some_sound, some_there, times_text, times_node}
use Rattle.kishu_machine.proofs.products.value_often.Goals as goal

pub returns-in-Some-clause-gives : goal.returns-in-Some-clause-gives
returns-in-Some-clause-gives g c =
    let s = moment_of c.args.machine.now in
    let cs = chars c.in-Some.text.now in
    rw (c.some_value.ensures, times_text (value_of c.args.value.now) c.args.number cs s c.in-Some.ensures)
    (some_gives c.repeated.result (moment_of c.repeated.new.machine) (repeated cs c.args.number s) (rw (to_z-of_z w128 c.args.number c.ranges.number) at c.repeated.ensures.gives))

pub returns-in-Some-clause-sound : goal.returns-in-Some-clause-sound
returns-in-Some-clause-sound g c = rw c.some_value.ensures (some_sound c.repeated.result (length c.repeated.new.machine.heap) c.repeated.ensures.sound)

pub returns-in-Some-clause-unmade : goal.returns-in-Some-clause-unmade
returns-in-Some-clause-unmade g c = rw c.some_value.ensures (some_there c.repeated.result _)

pub returns-in-None-clause-gives : goal.returns-in-None-clause-gives
returns-in-None-clause-gives g c = rw (times_node (value_of c.args.value.now) c.args.number (moment_of c.args.machine.now) c.in-None.ensures) (rw (to_z-of_z w128 c.args.number c.ranges.number) at c.node_times.ensures.gives)

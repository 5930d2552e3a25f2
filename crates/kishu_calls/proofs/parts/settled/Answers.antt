use Rattle.std.specs.Prelude.{length}
use Rattle.kishu_meaning.specs.values.Sound.{is_sound}
use Rattle.kishu_meaning.specs.values.Values.{value_of, node}
use Rattle.kishu_machine.specs.Machine.{moment_of}
use Rattle.kishu_calls.proofs.Passing.{unnamed, unnamed_sound}
use Rattle.kishu_calls.proofs.parts.settled.Goals as goal

pub returns-in-Dotted-clause-gives : goal.returns-in-Dotted-clause-gives
returns-in-Dotted-clause-gives g c = rw c.in-Dotted.is (rw c.as_str.ensures.value at c.attribute.ensures.gives)

pub returns-in-Viewed-clause-gives : goal.returns-in-Viewed-clause-gives
returns-in-Viewed-clause-gives g c =
    let s = moment_of c.args.machine.now in
    rw c.in-Viewed.is (unnamed s c.no_attribute.result (node c.in-Viewed.id.0) _ value_of (rw c.name.ensures at c.no_attribute.ensures.gives))

pub returns-in-Viewed-clause-sound : goal.returns-in-Viewed-clause-sound
returns-in-Viewed-clause-sound g c =
    let n = length c.args.machine.now.heap in
    unnamed_sound (moment_of c.args.machine.now) c.no_attribute.result (node c.in-Viewed.id.0) _ (λ v. is_sound n (value_of v)) n c.no_attribute.ensures.gives

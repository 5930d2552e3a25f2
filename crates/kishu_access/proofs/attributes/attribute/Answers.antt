use Rattle.kishu_meaning.specs.values.Values.{value_of}
use Rattle.kishu_machine.specs.Machine.{moment_of}
use Rattle.kishu_meaning.specs.moments.Moment.{node_at}
use Rattle.kishu_access.proofs.Attributing.{attribute_found}
use Rattle.kishu_access.proofs.attributes.attribute.Goals as goal

pub returns-in-Some-clause-gives : goal.returns-in-Some-clause-gives
returns-in-Some-clause-gives g c =
    let v = value_of c.args.value.now in
    let s = moment_of c.args.machine.now in
    attribute_found v c.args.name.now s (node_at s.nodes v) (value_of c.in-Some.found) (rw c.in-Some.is at c.in_ok-found.ensures.found)

pub returns-in-Some-clause-sound : goal.returns-in-Some-clause-sound
returns-in-Some-clause-sound g c = rw c.in-Some.is at c.in_ok-found.ensures.sound

pub other_attribute-requires-clause-none : goal.other_attribute-requires-clause-none
other_attribute-requires-clause-none g c = rw c.in-None.is at c.in_ok-found.ensures.found

use Rattle.std.proofs.Common.{length}
use Rattle.kishu_machine.specs.Machine.{moment_of}
use Rattle.kishu_machine.proofs.comparing.in_node.Goals as goal

pub returns-in-Some-List-clause-gives : goal.returns-in-Some-List-clause-gives
returns-in-Some-List-clause-gives g c = rw (← c.in-Some-List.ensures.node, c.in-Some-List.field-0-is) (rw c.as_slice.ensures.value at (c.among.ensures.gives (moment_of c.args.machine.now)))

pub returns-in-Some-List-clause-sound : goal.returns-in-Some-List-clause-sound
returns-in-Some-List-clause-sound g c = c.among.ensures.sound (length c.args.machine.now.heap)

pub returns-in-Some-Tuple-clause-gives : goal.returns-in-Some-Tuple-clause-gives
returns-in-Some-Tuple-clause-gives g c = rw (← c.in-Some-Tuple.ensures.node, c.in-Some-Tuple.field-0-is) (rw c.as_slice-in-Some-Tuple.ensures.value at (c.among-in-Some-Tuple.ensures.gives (moment_of c.args.machine.now)))

pub returns-in-Some-Tuple-clause-sound : goal.returns-in-Some-Tuple-clause-sound
returns-in-Some-Tuple-clause-sound g c = c.among-in-Some-Tuple.ensures.sound (length c.args.machine.now.heap)

pub returns-in-Some-Dict-clause-gives : goal.returns-in-Some-Dict-clause-gives
returns-in-Some-Dict-clause-gives g c = rw (← c.in-Some-Dict.ensures.node, c.in-Some-Dict.field-0-is) (c.has_key.ensures.gives (moment_of c.args.machine.now))

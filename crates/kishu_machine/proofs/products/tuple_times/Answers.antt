use Rattle.std.proofs.Common.{length, arith}
use Rattle.kishu_machine.specs.Machine.{moment_of}
use Rattle.kishu_machine.proofs.products.tuple_times.Goals as goal

pub returns-clause-gives : goal.returns-clause-gives
returns-clause-gives g c = rw c.tuple_at-part.ensures.items at (c.items_times.ensures.gives (moment_of c.args.machine.now))

pub returns-clause-sound : goal.returns-clause-sound
returns-clause-sound g c = c.items_times.ensures.sound (length c.args.machine.now.heap) c.tuple_at-part.ensures.sound

pub returns-clause-costs : goal.returns-clause-costs
returns-clause-costs g c = record { kept = (omega arith, omega arith, omega arith); reads = omega arith }

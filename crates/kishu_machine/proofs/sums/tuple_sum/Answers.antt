use Rattle.std.proofs.Common.{length, arith}
use Rattle.kishu_machine.specs.Machine.{moment_of}
use Rattle.kishu_machine.proofs.sums.tuple_sum.Goals as goal

pub returns-clause-gives : goal.returns-clause-gives
returns-clause-gives g c = rw (c.tuple_at-x.ensures.items, c.tuple_at-y.ensures.items) at (c.both_items.ensures.gives (moment_of c.args.machine.now))

pub returns-clause-sound : goal.returns-clause-sound
returns-clause-sound g c = c.both_items.ensures.sound (length c.args.machine.now.heap) c.tuple_at-x.ensures.sound c.tuple_at-y.ensures.sound

pub returns-clause-costs : goal.returns-clause-costs
returns-clause-costs g c = record { kept = (omega arith, omega arith, omega arith); reads = omega arith }

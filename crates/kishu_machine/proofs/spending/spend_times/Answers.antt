use Rattle.std.proofs.Common.{length}
use Rattle.kishu_machine.specs.Machine.{moment_of}
use Rattle.kishu_machine.proofs.spending.spend_times.Goals as goal

pub returns-clause-gives : goal.returns-clause-gives
returns-clause-gives g c = c.spend_product.ensures.gives (moment_of c.args.machine.now)

pub returns-clause-sound : goal.returns-clause-sound
returns-clause-sound g c = c.spend_product.ensures.sound (length c.args.machine.now.heap)

use Rattle.kishu_machine.specs.Machine.{moment_of}
use Rattle.kishu_machine.proofs.shows.show.Goals as goal

pub returns-clause-gives : goal.returns-clause-gives
returns-clause-gives g c = rw c.show-text.ensures.spends.0 (c.made.ensures.gives (moment_of c.args.machine.now) c.show-text.new.budget.left _ c.show-text.ensures.gives)

pub returns-clause-sound : goal.returns-clause-sound
returns-clause-sound g c = c.made.ensures.sound _

use Rattle.std.proofs.Common.{refl}
use Rattle.kishu_machine.proofs.comparing.ordered.Goals as goal

pub returns-in-Ok-clause-gives : goal.returns-in-Ok-clause-gives
returns-in-Ok-clause-gives g c = λ e h. rw (rw c.in-Ok.is at h) refl

pub returns-in-Err-clause-gives : goal.returns-in-Err-clause-gives
returns-in-Err-clause-gives g c = λ e h. c.unanswered.ensures.gives e (rw c.in-Err.is at h)

use Rattle.std.proofs.Common.{length, refl, true}
use Rattle.std.specs.Prelude.{codes}
use Rattle.kishu_machine.specs.Machine.{moment_of}
use Rattle.kishu_machine.specs.Raising.{raises_text, sound_text}
use Rattle.kishu_machine.proofs.comparing.unanswered.Goals as goal
use Rattle.kishu_meaning.specs.values.Classes.{recursion_error_class}

pub returns-in-Unordered-clause-gives : goal.returns-in-Unordered-clause-gives
returns-in-Unordered-clause-gives g c = λ e h. rw (rw c.in-Unordered.is at h) c.no_comparison.ensures.gives

pub returns-in-Depth-clause-gives : goal.returns-in-Depth-clause-gives
returns-in-Depth-clause-gives g c = λ e h. rw (rw c.in-Depth.is at h) (raises_text (λ b. b) recursion_error_class (codes "depth limit reached") c.too_deep.result (moment_of c.args.machine.now) c.too_deep.ensures)

pub returns-in-Depth-clause-sound : goal.returns-in-Depth-clause-sound
returns-in-Depth-clause-sound g c = sound_text (λ _. true) (length c.args.machine.now.heap) recursion_error_class (codes "depth limit reached") c.too_deep.result c.too_deep.ensures refl

pub returns-in-Spent-clause-gives : goal.returns-in-Spent-clause-gives
returns-in-Spent-clause-gives g c = λ e h. rw (rw c.in-Spent.is at h) refl

use Rattle.std.proofs.Common.{◌≡◌, ◌∙◌, ap}
use Rattle.std.specs.Prelude.{◌-ℤ◌}
use Rattle.std.specs.Int.{w128}
use Rattle.std.proofs.lemmas.Int.{to_z-of_z}
use Rattle.kishu_machine.specs.Forms.{natural, is_step_on}
use Rattle.kishu_machine.proofs.RangeSteps.{steps_up, steps_down, no_steps}
use Rattle.kishu_machine.proofs.comparing.is_number_of.Goals as goal

pub returns-then-step-gt0 : goal.returns-then-step-gt0
returns-then-step-gt0 c =
    let z = c.args.number in
    let start = c.args.start in
    let stop = c.args.stop in
    let up = rw (to_z-of_z w128 c.args.step c.ranges.step) at c.if-step-gt0.true in
    let size = rw (to_z-of_z w128 c.args.step c.ranges.step) at c.unsigned_abs-size.ensures.value in
    let above : c.is_above.result ≡ is_step_on (natural (z -ℤ start)) (natural (stop -ℤ start)) c.unsigned_abs-size.result = rw (to_z-of_z w128 z c.ranges.number, to_z-of_z w128 start c.ranges.start, to_z-of_z w128 stop c.ranges.stop) at c.is_above.ensures in
    above ∙ ap (is_step_on (natural (z -ℤ start)) (natural (stop -ℤ start))) size ∙ steps_up z start stop c.args.step up

pub returns-then-step-lt0 : goal.returns-then-step-lt0
returns-then-step-lt0 c =
    let z = c.args.number in
    let start = c.args.start in
    let stop = c.args.stop in
    let down = rw (to_z-of_z w128 c.args.step c.ranges.step) at c.if-step-lt0.true in
    let size = rw (to_z-of_z w128 c.args.step c.ranges.step) at c.unsigned_abs-size.ensures.value in
    let below : c.is_below.result ≡ is_step_on (natural (start -ℤ z)) (natural (start -ℤ stop)) c.unsigned_abs-size.result = rw (to_z-of_z w128 z c.ranges.number, to_z-of_z w128 start c.ranges.start, to_z-of_z w128 stop c.ranges.stop) at c.is_below.ensures in
    below ∙ ap (is_step_on (natural (start -ℤ z)) (natural (start -ℤ stop))) size ∙ steps_down z start stop c.args.step down

pub returns : goal.returns
returns c =
    let up = rw (to_z-of_z w128 c.args.step c.ranges.step) at c.if-step-gt0.false in
    let down = rw (to_z-of_z w128 c.args.step c.ranges.step) at c.if-step-lt0.false in
    no_steps c.args.number c.args.start c.args.stop c.args.step up down

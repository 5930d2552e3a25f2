use Rattle.std.proofs.Common.{length}
use Rattle.kishu_meaning.specs.values.Values.{value_of}
use Rattle.kishu_machine.specs.Machine.{moment_of}
use Rattle.kishu_meaning.specs.values.Sound.{is_sound}
use Rattle.kishu_meaning.specs.items.Subscripts.{slice}
use Rattle.kishu_access.proofs.Others.{no_slice}
use Rattle.kishu_access.proofs.Ends.{by_end, refused, refused_sound}
use Rattle.kishu_access.proofs.slices.slice.Goals as goal

pub returns-in_default-clause-gives : goal.returns-in_default-clause-gives
returns-in_default-clause-gives g c =
    let v = c.args.value.now in
    let s = moment_of c.args.machine.now in
    by_end value_of c.not_subscriptable.result s (slice (value_of v) (value_of c.args.bounds.now.start.now) (value_of c.args.bounds.now.stop.now) (value_of c.args.bounds.now.step.now) s) _ (no_slice v (value_of c.args.bounds.now.start.now) (value_of c.args.bounds.now.stop.now) (value_of c.args.bounds.now.step.now) s c.in_default.not-Text c.in_default.not-Node) (refused s c.not_subscriptable.result (value_of v) value_of c.not_subscriptable.ensures.gives)

pub returns-in_default-clause-sound : goal.returns-in_default-clause-sound
returns-in_default-clause-sound g c =
    let n = length c.args.machine.now.heap in
    let s = moment_of c.args.machine.now in
    refused_sound s c.not_subscriptable.result (value_of c.args.value.now) (λ v. is_sound n (value_of v)) n c.not_subscriptable.ensures.gives

pub returns-in-Text-clause-gives : goal.returns-in-Text-clause-gives
returns-in-Text-clause-gives g c = rw c.in-Text.is (rw c.as_str.ensures.value at c.text_slice.ensures.gives)

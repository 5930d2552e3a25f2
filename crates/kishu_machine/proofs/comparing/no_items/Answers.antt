use Rattle.std.proofs.Common.{Bool, length}
use Rattle.kishu_meaning.specs.values.Kinds.{not_iterable}
use Rattle.kishu_meaning.specs.values.Values.{value_of}
use Rattle.kishu_machine.specs.Machine.{moment_of}
use Rattle.kishu_machine.specs.Raising.{RaisesSound, not_iterable_raises}
use Rattle.kishu_machine.proofs.Sequences.{raised_sound}
use Rattle.kishu_machine.proofs.comparing.no_items.Goals as goal

pub returns-clause-sound : goal.returns-clause-sound
returns-clause-sound g c =
    let s = moment_of c.args.machine.now in
    let v = value_of c.args.value.now in
    let n = length s.nodes in
    let h : RaisesSound n (not_iterable {A = Bool} v) = not_iterable_raises n v in
    raised_sound (λ b. b) n c.not_iterable.result s (not_iterable {A = Bool} v s) (h.raises s) c.not_iterable.ensures.gives

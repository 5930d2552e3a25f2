use Rattle.std.proofs.Common.{true}
use Rattle.std.proofs.lemmas.Result.{err_from_is_err_and}
use Rattle.kishu_machine.specs.Lists.{are_sound_in, items_in}
use Rattle.kishu_machine.proofs.Sequences.{fault_sound}
use Rattle.kishu_machine.proofs.sums.both_items.Goals as goal

pub returns-in_err-spend_from-clause-sound : goal.returns-in_err-spend_from-clause-sound
returns-in_err-spend_from-clause-sound g c = λ n h k.
    let p = err_from_is_err_and c.from_residual.result c.from_residual.ensures.1 in
    rw (p.1, p.2) (fault_sound {X = Unit {0}} (λ _. true) (λ o. are_sound_in n (items_in o)) n c.in_err-spend_from.field-0.0 (c.in_err-spend_from.ensures.sound n))

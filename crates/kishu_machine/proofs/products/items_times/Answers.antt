use Rattle.std.proofs.Common.{true, map}
use Rattle.std.proofs.lemmas.Result.{err_from_is_err_and}
use Rattle.kishu_meaning.specs.values.Values.{value_of}
use Rattle.kishu_machine.specs.Lists.{are_sound_in, items_in}
use Rattle.kishu_machine.proofs.Sequences.{fault_sound, sound_often}
use Rattle.kishu_machine.proofs.products.items_times.Goals as goal

pub returns-in_err-spend_product-clause-sound : goal.returns-in_err-spend_product-clause-sound
returns-in_err-spend_product-clause-sound g c = λ n h.
    let p = err_from_is_err_and c.from_residual.result c.from_residual.ensures.1 in
    rw (p.1, p.2) (fault_sound {X = Unit {0}} (λ _. true) (λ o. are_sound_in n (items_in o)) n c.in_err-spend_product.field-0.0 (c.in_err-spend_product.ensures.sound n))

pub returns-clause-sound : goal.returns-clause-sound
returns-clause-sound g c = λ n h.
    rw c.in_ok-many_items.ensures (sound_often n c.args.times (map value_of c.in-Some.part.now) (rw c.in-Some.is at h))

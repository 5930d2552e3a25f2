use Rattle.std.proofs.Common.{◌∙◌, ap, sym, ℕ, true, length, map, Some}
use Rattle.kishu_meaning.specs.values.Values.{Value, value_of}
use Rattle.kishu_machine.specs.Machine.{moment_of}
use Rattle.std.proofs.lemmas.Result.{err_from_is_err_and}
use Rattle.kishu_meaning.specs.values.Sound.{is_sound}
use Rattle.std.proofs.lemmas.List.{length-map}
use Rattle.kishu_meaning.specs.declared.value.Value as rust
use Rattle.kishu_access.proofs.Ends.{passed_on}
use Rattle.kishu_access.proofs.Taking.{at_index, taken_at, taken_fails, sound_there}
use Rattle.kishu_access.proofs.subscripts.taken.Goals as goal

pub returns-in_err-place-clause-gives : goal.returns-in_err-place-clause-gives
returns-in_err-place-clause-gives g c =
    let s = moment_of c.args.machine.now in
    let xs = c.args.items.now in
    let p = err_from_is_err_and c.from_residual.result c.from_residual.ensures.1 in
    rw (p.1, p.2) (taken_fails (map value_of xs) (value_of c.args.index.now) s s (length xs) (sym (length-map xs value_of)) c.in_err-place.field-0.0 c.in_err-place.ensures.gives)

pub returns-in_err-place-clause-sound : goal.returns-in_err-place-clause-sound
returns-in_err-place-clause-sound g c =
    let n = length c.args.machine.now.heap in
    let p = err_from_is_err_and c.from_residual.result c.from_residual.ensures.1 in
    rw (p.1, p.2) (passed_on (λ (k : ℕ). true) (λ (v : rust.Value). is_sound n (value_of v)) n c.in_err-place.field-0.0 c.in_err-place.ensures.sound)

pub returns-clause-gives : goal.returns-clause-gives
returns-clause-gives g c =
    let s = moment_of c.args.machine.now in
    let xs = c.args.items.now in
    let k = c.in_ok-place.place in
    let here = at_index xs k c.index-items-place.result c.in_ok-place.ensures.within c.index-items-place.is ∙ ap (λ (v : Value). Some v) (sym c.in_ok-item.ensures) in
    taken_at (map value_of xs) (value_of c.args.index.now) s s (length xs) (sym (length-map xs value_of)) k (value_of c.in_ok-item.item) c.in_ok-place.ensures.gives here

pub returns-clause-sound : goal.returns-clause-sound
returns-clause-sound g c =
    let xs = c.args.items.now in
    let k = c.in_ok-place.place in
    let here = at_index xs k c.index-items-place.result c.in_ok-place.ensures.within c.index-items-place.is ∙ ap (λ (v : Value). Some v) (sym c.in_ok-item.ensures) in
    sound_there (length c.args.machine.now.heap) (map value_of xs) k (value_of c.in_ok-item.item) here c.requires.sound_items

use Rattle.std.proofs.Common.{ℕ, true, length}
use Rattle.std.specs.Str.{chars}
use Rattle.kishu_meaning.specs.values.Values.{value_of}
use Rattle.kishu_machine.specs.Machine.{moment_of}
use Rattle.std.proofs.lemmas.Result.{err_from_is_err_and}
use Rattle.kishu_meaning.specs.values.Sound.{is_sound}
use Rattle.kishu_meaning.specs.declared.value.Value as rust
use Rattle.kishu_access.proofs.Ends.{passed_on}
use Rattle.kishu_access.proofs.Taking.{text_at, text_fails, character_sound}
use Rattle.kishu_access.proofs.subscripts.text_item.Goals as goal

pub returns-in_err-place-clause-gives : goal.returns-in_err-place-clause-gives
returns-in_err-place-clause-gives g c =
    let s = moment_of c.args.machine.now in
    let p = err_from_is_err_and c.from_residual.result c.from_residual.ensures.1 in
    rw (p.1, p.2) (text_fails (chars c.args.text.now) (value_of c.args.index.now) s s c.count.result c.count.ensures c.in_err-place.field-0.0 c.in_err-place.ensures.gives)

pub returns-in_err-place-clause-sound : goal.returns-in_err-place-clause-sound
returns-in_err-place-clause-sound g c =
    let n = length c.args.machine.now.heap in
    let p = err_from_is_err_and c.from_residual.result c.from_residual.ensures.1 in
    rw (p.1, p.2) (passed_on (λ (k : ℕ). true) (λ (v : rust.Value). is_sound n (value_of v)) n c.in_err-place.field-0.0 c.in_err-place.ensures.sound)

pub returns-clause-gives : goal.returns-clause-gives
returns-clause-gives g c =
    let s = moment_of c.args.machine.now in
    text_at (chars c.args.text.now) (value_of c.args.index.now) s s c.count.result c.count.ensures c.in_ok-place.place (value_of c.in_ok-item.item) c.in_ok-place.ensures.gives c.in_ok-item.ensures

pub returns-clause-sound : goal.returns-clause-sound
returns-clause-sound g c = character_sound (length c.args.machine.now.heap) (value_of c.in_ok-item.item) (chars c.args.text.now) c.in_ok-place.place c.in_ok-item.ensures

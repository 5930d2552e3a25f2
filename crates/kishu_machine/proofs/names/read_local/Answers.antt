use Rattle.std.proofs.Common.{◌≡◌, IsTrue, Option, Some, subst}
use Rattle.kishu_meaning.specs.values.Values.{Value, value_of}
use Rattle.kishu_machine.specs.Frames.{locals_of, own_value}
use Rattle.kishu_machine.proofs.OwnNames.{own_value_sound}
use Rattle.kishu_machine.specs.SoundNames.{is_sound_found}
use Rattle.kishu_machine.proofs.names.read_local.Goals as goal

pub returns-in_ok-copied-in-Some-clause-sound : goal.returns-in_ok-copied-in-Some-clause-sound
returns-in_ok-copied-in-Some-clause-sound c = λ n h.
    let l = locals_of c.args.locals.now in
    let found : own_value c.args.name.now l ≡ Some (value_of c.in_ok-copied-in-Some.field-0) = cc (c.in-Some.ensures, c.in_ok-copied-in-Some.ensures) in
    subst (λ (o : Option Value). IsTrue (is_sound_found n o)) found (own_value_sound n c.args.name.now l h)

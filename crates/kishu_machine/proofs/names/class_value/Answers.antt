use Rattle.std.proofs.Common.{◌≡◌, Some}
use Rattle.kishu_language.specs.tokens.Names.{place_among}
use Rattle.kishu_meaning.specs.values.BuiltinNames.{class_names}
use Rattle.kishu_machine.specs.SoundNames.{class_sound}
use Rattle.kishu_machine.proofs.names.class_value.Goals as goal

pub returns-in-Some-clause-sound : goal.returns-in-Some-clause-sound
returns-in-Some-clause-sound c = λ n.
    let place : place_among c.args.name.now class_names ≡ Some c.in-Some.class.0 = cc (c.in-Some.ensures, c.as_bytes.ensures.value) in
    class_sound n c.args.name.now c.in-Some.class.0 place

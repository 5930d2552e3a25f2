use Rattle.std.proofs.Common.{◌≡◌, Some}
use Rattle.kishu_language.specs.tokens.Names.{place_among}
use Rattle.kishu_meaning.specs.values.BuiltinNames.{builtin_names}
use Rattle.kishu_machine.specs.SoundNames.{builtin_sound}
use Rattle.kishu_machine.proofs.names.builtin_value.Goals as goal

pub returns-in-Some-clause-sound : goal.returns-in-Some-clause-sound
returns-in-Some-clause-sound c = λ n.
    let place : place_among c.args.name.now builtin_names ≡ Some c.in-Some.builtin.0 = cc (c.in-Some.ensures, c.as_bytes.ensures.value) in
    builtin_sound n c.args.name.now c.in-Some.builtin.0 place

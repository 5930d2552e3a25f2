use Rattle.std.specs.Prelude.{option_map}
use Rattle.kishu_meaning.specs.values.Values.{value_of}
use Rattle.kishu_machine.specs.Frames.{locals_of}
use Rattle.std.proofs.Common.{◌≡◌, ◌∙◌, sym, ap, length, Some, subst, IsTrue, Option}
use Rattle.kishu_meaning.specs.values.Values.{Value, find}
use Rattle.kishu_machine.specs.SoundNames.{is_sound_found, finds_sound}
use Rattle.kishu_machine.specs.SoundMore.{names_in_run}
use Rattle.kishu_machine.proofs.names.read_global.Goals as goal

pub returns-in-Some-clause-sound : goal.returns-in-Some-clause-sound
returns-in-Some-clause-sound c =
    let m = c.args.machine.now in
    let n = length m.heap in
    let found : find c.args.name.now m.names.bound ≡ Some (value_of c.in-Some.value) = sym c.in_ok-value.ensures.value ∙ ap (option_map value_of) c.in-Some.is in
    subst (λ (o : Option Value). IsTrue (is_sound_found n o)) found (finds_sound n c.args.name.now m.names.bound (names_in_run m.heap m.names.bound (locals_of m.locals) (option_map value_of m.handled) m.sound))

pub returns-in-None-clause-sound : goal.returns-in-None-clause-sound
returns-in-None-clause-sound c = c.builtin_value.ensures.sound (length c.args.machine.now.heap)

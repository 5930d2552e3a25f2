use Rattle.std.specs.Prelude.{option_map}
use Rattle.kishu_meaning.specs.values.Values.{value_of}
use Rattle.kishu_items.specs.Gathering.{grown_least}
use Rattle.kishu_machine.specs.Frames.{locals_of}
use Rattle.kishu_machine.specs.SoundMore.{sound_more_run}
use Rattle.std.specs.Prelude.{map, length}
use Rattle.kishu_meaning_laws.specs.BareLaws.{walked_bare}
use Rattle.kishu_meaning.specs.items.Sequences.{walked}
use Rattle.kishu_meaning.specs.values.Sound.{are_sound}
use Rattle.kishu_machine.specs.Lifted.{lifted}
use Rattle.kishu_machine.specs.Machine.{moment_of}
use Rattle.kishu_items.specs.Called as called
use Rattle.kishu_machine.specs.Raising.{passed_sound, walked_raises}
use Rattle.kishu_machine.proofs.keys.walked.Goals as goal

pub invariant_of-machine : goal.invariant_of-machine
invariant_of-machine g c = (
    let m = c.args.machine.now in
    record { sound = sound_more_run m.heap c.walked-items.new.heap m.names.bound (locals_of m.locals) (option_map value_of m.handled) (grown_least _ m.heap c.walked-items.new.heap c.walked-items.ensures.more) m.sound })

pub returns-clause-gives : goal.returns-clause-gives
returns-clause-gives g c =
    let v = value_of c.args.value.now in
    let s = moment_of c.args.machine.now in
    let t = called.moment_of c.walked-items.new.heap c.walked-items.new.budget in
    rw (c.passed.ensures, c.walked-items.ensures.spends.0) (lifted (λ v. map value_of v.items) (walked v) (walked_bare v) s t c.walked-items.result c.walked-items.ensures.gives)

pub returns-clause-sound : goal.returns-clause-sound
returns-clause-sound g c =
    let v = value_of c.args.value.now in
    let n = length c.walked-items.new.heap in
    let s = called.moment_of c.args.machine.now.heap c.args.machine.now.budget in
    let t = called.moment_of c.walked-items.new.heap c.walked-items.new.budget in
    rw c.passed.ensures (passed_sound n (λ v. map value_of v.items) (λ v. are_sound n (map value_of v.items)) (walked v) s t c.walked-items.result (walked_raises n v) c.walked-items.ensures.sound c.walked-items.ensures.gives)

use Rattle.std.specs.Prelude.{option_map}
use Rattle.kishu_meaning.specs.values.Values.{value_of}
use Rattle.kishu_items.specs.Gathering.{grown_least}
use Rattle.kishu_machine.specs.Frames.{locals_of}
use Rattle.kishu_machine.specs.SoundMore.{sound_more_run}
use Rattle.std.specs.Prelude.{map, length}
use Rattle.kishu_meaning_laws.specs.BareLaws.{items_bare}
use Rattle.kishu_meaning.specs.items.Sequences.{items_of}
use Rattle.kishu_meaning.specs.values.Sound.{are_sound}
use Rattle.kishu_machine.specs.Lifted.{lifted}
use Rattle.kishu_machine.specs.Machine.{moment_of}
use Rattle.kishu_items.specs.Called as called
use Rattle.kishu_machine.specs.Raising.{passed_sound, items_raise}
use Rattle.kishu_machine.proofs.keys.items_of.Goals as goal

pub invariant_of-machine : goal.invariant_of-machine
invariant_of-machine g c = (
    let m = c.args.machine.now in
    record { sound = sound_more_run m.heap c.items_of-items.new.heap m.names.bound (locals_of m.locals) (option_map value_of m.handled) (grown_least _ m.heap c.items_of-items.new.heap c.items_of-items.ensures.more) m.sound })

pub returns-clause-gives : goal.returns-clause-gives
returns-clause-gives g c =
    let v = value_of c.args.value.now in
    let s = moment_of c.args.machine.now in
    let t = called.moment_of c.items_of-items.new.heap c.items_of-items.new.budget in
    rw (c.passed.ensures, c.items_of-items.ensures.spends.0) (lifted (λ v. map value_of v.items) (items_of v) (items_bare v) s t c.items_of-items.result c.items_of-items.ensures.gives)

pub returns-clause-sound : goal.returns-clause-sound
returns-clause-sound g c =
    let v = value_of c.args.value.now in
    let n = length c.items_of-items.new.heap in
    let s = called.moment_of c.args.machine.now.heap c.args.machine.now.budget in
    let t = called.moment_of c.items_of-items.new.heap c.items_of-items.new.budget in
    rw c.passed.ensures (passed_sound n (λ v. map value_of v.items) (λ v. are_sound n (map value_of v.items)) (items_of v) s t c.items_of-items.result (items_raise n v) c.items_of-items.ensures.sound c.items_of-items.ensures.gives)

use Rattle.std.specs.Prelude.{option_map}
use Rattle.kishu_meaning.specs.values.Values.{value_of}
use Rattle.kishu_machine.proofs.Makes.{made_least}
use Rattle.kishu_machine.specs.Frames.{locals_of}
use Rattle.kishu_machine.specs.SoundMore.{sound_more_run}
use Rattle.kishu_machine.proofs.nodes.make.Goals as goal

pub invariant_of-machine : goal.invariant_of-machine
invariant_of-machine c = (
    let m = c.args.machine.now in
    record { sound = sound_more_run m.heap c.make.new.self m.names.bound (locals_of m.locals) (option_map value_of m.handled) (made_least m.heap _ c.make.new.self c.make.result c.make.ensures.ok c.make.ensures.err) m.sound })

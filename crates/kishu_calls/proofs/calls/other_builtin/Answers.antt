use Rattle.std.specs.Prelude.{map, option_map}
use Rattle.kishu_meaning.specs.values.Values.{value_of}
use Rattle.kishu_machine.specs.Frames.{locals_of}
use Rattle.kishu_machine.specs.Machine.{moment_of}
use Rattle.kishu_machine.specs.SoundMore.{sound_more_run}
use Rattle.std.proofs.Common.{arith, length}
use Rattle.kishu_calls.proofs.BuiltinCalls.{builtin_gives, told_sound}
use Rattle.kishu_calls.proofs.calls.other_builtin.Goals as goal

pub invariant_of-machine : goal.invariant_of-machine
invariant_of-machine g c = (
    let m = c.args.machine.now in
    record { sound = sound_more_run m.heap c.call_builtin.new.heap m.names.bound (locals_of m.locals) (option_map value_of m.handled) c.call_builtin.ensures.grows.0 m.sound })

pub returns-clause-gives : goal.returns-clause-gives
returns-clause-gives g c =
    let s = moment_of c.args.machine.now in
    rw c.passed.ensures (builtin_gives c.args.builtin.0 (map value_of c.args.values.now) s c.call_builtin.new.heap c.call_builtin.new.budget c.call_builtin.result c.call_builtin.ensures.spends.0 c.requires.no_print c.call_builtin.ensures.gives)

pub returns-clause-sound : goal.returns-clause-sound
returns-clause-sound g c = rw c.passed.ensures (told_sound (length c.call_builtin.new.heap) c.call_builtin.result c.call_builtin.ensures.sound c.call_builtin.ensures.thrown)

pub returns-clause-costs : goal.returns-clause-costs
returns-clause-costs g c = (
    let e = c.call_builtin.ensures in
    record { kept = (e.grows.0, omega (arith, e.grows.1, e.spends.1), omega (arith, e.spends.2)); reads = omega (arith, e.spends.3, e.spends.1) })

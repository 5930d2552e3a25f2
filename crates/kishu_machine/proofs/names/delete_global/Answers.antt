use Rattle.std.specs.Prelude.{option_map}
use Rattle.kishu_meaning.specs.values.Values.{value_of}
use Rattle.kishu_machine.specs.Frames.{locals_of}
use Rattle.kishu_machine.specs.Machine.{moment_of}
use Rattle.std.proofs.Common.{◌≡◌, ◌∙◌, sym, ap, false}
use Rattle.std.specs.Prelude.{is_some}
use Rattle.kishu_meaning.specs.values.Values.{find}
use Rattle.kishu_machine.proofs.OwnNames.{missing_global, some_mapped}
use Rattle.kishu_machine.specs.SoundNames.{unbound_run}
use Rattle.kishu_machine.proofs.names.delete_global.Goals as goal

pub invariant_of-machine : goal.invariant_of-machine
invariant_of-machine c =
    (let m = c.args.machine.now in
    record { sound = unbound_run m.heap m.names c.unbind.new.self (locals_of m.locals) (option_map value_of m.handled) c.args.name.now c.unbind.result c.unbind.ensures.bound c.unbind.ensures.err m.sound })

pub returns-else-was_bound-clause-gives : goal.returns-else-was_bound-clause-gives
returns-else-was_bound-clause-gives c =
    let m = c.args.machine.now in
    let none : is_some (find c.args.name.now m.names.bound) ≡ false = sym (ap is_some c.in_ok-unbind.ensures.value) ∙ some_mapped value_of c.in_ok-unbind.field-0 ∙ sym c.is_some-was_bound.ensures ∙ c.if-was_bound.false in
    missing_global c.args.name.now (moment_of m) c.unbind.new.self.bound c.unbind.new.self.accessed c.name_error.result c.in_ok-unbind.ensures.bound c.in_ok-unbind.ensures.accessed none c.name_error.ensures

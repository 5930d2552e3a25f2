use Rattle.std.specs.Prelude.{option_map}
use Rattle.kishu_meaning.specs.values.Values.{value_of}
use Rattle.kishu_machine.specs.Frames.{locals_of}
use Rattle.kishu_machine.specs.Machine.{moment_of}
use Rattle.std.proofs.Common.{◌∙◌, sym, ap, Option}
use Rattle.kishu_meaning.specs.moments.Moment.{Locals, fine}
use Rattle.kishu_machine.proofs.OwnNames.{forget_own, forget_other, forgotten_global, own_unbound_run}
use Rattle.kishu_machine.specs.SoundNames.{unbound_run}
use Rattle.kishu_machine.proofs.names.forget.Goals as goal

pub invariant_of-machine : goal.invariant_of-machine
invariant_of-machine c =
    (let m = c.args.machine.now in
    record { sound = own_unbound_run m.heap m.names.bound (locals_of m.locals) (locals_of c.take_own-gone.new.locals) (option_map value_of m.handled) c.args.name.now c.take_own-gone.ensures.locals m.sound })

pub invariant_of-machine-2 : goal.invariant_of-machine-2
invariant_of-machine-2 c =
    (let m = c.args.machine.now in
    record { sound = unbound_run m.heap m.names c.unbind.new.self (locals_of m.locals) (option_map value_of m.handled) c.args.name.now c.unbind.result c.unbind.ensures.bound c.unbind.ensures.err m.sound })

pub returns-then-is_own-clause-gives : goal.returns-then-is_own-clause-gives
returns-then-is_own-clause-gives c =
    let m = c.args.machine.now in
    let s = moment_of m in
    let l = locals_of m.locals in
    forget_own c.args.name.now s l (sym c.is_own.ensures ∙ c.if-is_own.true) ∙ ap (λ (k : Option Locals). fine tt (record s { locals = k })) (sym c.take_own-gone.ensures.locals)

pub returns-clause-gives : goal.returns-clause-gives
returns-clause-gives c =
    let m = c.args.machine.now in
    let s = moment_of m in
    forget_other c.args.name.now s (locals_of m.locals) (sym c.is_own.ensures ∙ c.if-is_own.false) ∙ forgotten_global c.args.name.now s c.unbind.new.self.bound c.unbind.new.self.accessed c.in_ok-_gone.ensures.bound c.in_ok-_gone.ensures.accessed

use Rattle.std.specs.Prelude.{option_map}
use Rattle.kishu_meaning.specs.values.Values.{value_of}
use Rattle.kishu_machine.specs.Frames.{locals_of}
use Rattle.kishu_machine.specs.Machine.{moment_of, Gives}
use Rattle.std.proofs.Common.{◌∙◌, sym, subst}
use Rattle.kishu_meaning.specs.moments.Moment.{Ends}
use Rattle.kishu_machine.proofs.OwnNames.{deleted_own, delete_other, own_unbound_run}
use Rattle.kishu_machine.proofs.names.delete.Goals as goal

pub invariant_of-machine : goal.invariant_of-machine
invariant_of-machine c =
    (let m = c.args.machine.now in
    record { sound = own_unbound_run m.heap m.names.bound (locals_of m.locals) (locals_of c.delete_local.new.locals) (option_map value_of m.handled) c.args.name.now c.delete_local.ensures.locals m.sound })

pub returns-then-is_own-clause-gives : goal.returns-then-is_own-clause-gives
returns-then-is_own-clause-gives c =
    let m = c.args.machine.now in
    deleted_own c.args.name.now (moment_of m) (locals_of m.locals) (locals_of c.delete_local.new.locals) c.delete_local.result (sym c.is_own.ensures ∙ c.if-is_own.true) c.delete_local.ensures.locals c.delete_local.ensures.some c.delete_local.ensures.none

pub returns-clause-gives : goal.returns-clause-gives
returns-clause-gives c =
    let m = c.args.machine.now in
    subst (λ (e : Ends (Unit {0})). Gives (λ u. u) c.delete_global.result (moment_of c.delete_global.new.machine) e) (sym (delete_other c.args.name.now (moment_of m) (locals_of m.locals) (sym c.is_own.ensures ∙ c.if-is_own.false))) c.delete_global.ensures.gives

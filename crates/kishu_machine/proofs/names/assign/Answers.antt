use Rattle.std.specs.Prelude.{option_map}
use Rattle.kishu_meaning.specs.values.Values.{value_of}
use Rattle.kishu_machine.specs.Frames.{locals_of}
use Rattle.kishu_machine.specs.Machine.{moment_of}
use Rattle.std.proofs.Common.{◌≡◌, ◌∙◌, sym, ap, true, false, Option, List, ℕ}
use Rattle.std.specs.Rc.{rc_str_bytes}
use Rattle.kishu_meaning.specs.moments.Moment.{Locals, fine}
use Rattle.kishu_machine.specs.Frames.{is_own}
use Rattle.kishu_machine.proofs.OwnNames.{assign_own, assign_other, bound_global, own_bound_run}
use Rattle.kishu_machine.specs.SoundNames.{bound_run}
use Rattle.kishu_machine.proofs.names.assign.Goals as goal

pub invariant_of-machine : goal.invariant_of-machine
invariant_of-machine c =
    (let m = c.args.machine.now in
    record { sound = own_bound_run m.heap m.names.bound (locals_of m.locals) (locals_of c.set_own.new.locals) (option_map value_of m.handled) (rc_str_bytes c.args.name.now) (value_of c.args.value) c.set_own.result c.requires.name c.requires.sound c.set_own.ensures.ok c.set_own.ensures.err m.sound })

pub invariant_of-machine-2 : goal.invariant_of-machine-2
invariant_of-machine-2 c =
    (let m = c.args.machine.now in
    let x = c.as_str-2.result.now in
    let named = rw (← c.as_str-2.ensures.value) at c.requires.name in
    record { sound = bound_run m.heap m.names c.bind.new.self (locals_of m.locals) (option_map value_of m.handled) x (value_of c.args.value) c.bind.result named c.requires.sound c.bind.ensures.bound c.bind.ensures.err m.sound })

pub returns-then-is_own-clause-gives : goal.returns-then-is_own-clause-gives
returns-then-is_own-clause-gives c =
    let m = c.args.machine.now in
    let s = moment_of m in
    let l = locals_of m.locals in
    let own : is_own (rc_str_bytes c.args.name.now) l ≡ true = ap (λ (y : List ℕ). is_own y l) (sym c.as_str.ensures.value) ∙ sym c.is_own.ensures ∙ c.if-is_own.true in
    assign_own (rc_str_bytes c.args.name.now) (value_of c.args.value) s l own ∙ ap (λ (k : Option Locals). fine tt (record s { locals = k })) (sym c.in_ok-set_own.ensures.ok)

pub returns-clause-gives : goal.returns-clause-gives
returns-clause-gives c =
    let m = c.args.machine.now in
    let s = moment_of m in
    let l = locals_of m.locals in
    let x = rc_str_bytes c.args.name.now in
    let v = value_of c.args.value in
    let other : is_own x l ≡ false = ap (λ (y : List ℕ). is_own y l) (sym c.as_str.ensures.value) ∙ sym c.is_own.ensures ∙ c.if-is_own.false in
    let bound = rw c.as_str-2.ensures.value at c.in_ok-bind.ensures.bound in
    let accessed = rw c.as_str-2.ensures.value at c.in_ok-bind.ensures.accessed in
    assign_other x v s l other ∙ bound_global x s v c.bind.new.self.bound c.bind.new.self.accessed bound accessed

use Rattle.std.specs.Prelude.{option_map}
use Rattle.kishu_meaning.specs.values.Values.{value_of}
use Rattle.kishu_machine.specs.Frames.{locals_of}
use Rattle.kishu_machine.specs.Machine.{moment_of, Gives}
use Rattle.std.proofs.Common.{◌∙◌, sym, length, subst}
use Rattle.kishu_meaning.specs.values.Values.{Value}
use Rattle.kishu_meaning.specs.moments.Moment.{Ends}
use Rattle.kishu_machine.specs.SoundMore.{locals_in_run}
use Rattle.kishu_machine.proofs.OwnNames.{read_own, read_other}
use Rattle.kishu_machine.proofs.names.read.Goals as goal

pub returns-then-is_own-clause-gives : goal.returns-then-is_own-clause-gives
returns-then-is_own-clause-gives c =
    let m = c.args.machine.now in
    let s = moment_of m in
    subst (λ (e : Ends Value). Gives value_of c.read_local.result s e) (sym (read_own c.args.name.now s (locals_of m.locals) (sym c.is_own.ensures ∙ c.if-is_own.true))) (c.read_local.ensures.gives s)

pub returns-then-is_own-clause-sound : goal.returns-then-is_own-clause-sound
returns-then-is_own-clause-sound c =
    let m = c.args.machine.now in
    c.read_local.ensures.sound (length m.heap) (locals_in_run m.heap m.names.bound (locals_of m.locals) (option_map value_of m.handled) m.sound)

pub returns-clause-gives : goal.returns-clause-gives
returns-clause-gives c =
    let m = c.args.machine.now in
    let s = moment_of m in
    subst (λ (e : Ends Value). Gives value_of c.read_global.result (moment_of c.read_global.new.machine) e) (sym (read_other c.args.name.now s (locals_of m.locals) (sym c.is_own.ensures ∙ c.if-is_own.false))) c.read_global.ensures.gives

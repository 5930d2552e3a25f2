use Rattle.std.proofs.Common.{◌++◌, true, length, map}
use Rattle.std.specs.Prelude.{option_map}
use Rattle.kishu_meaning.specs.values.Values.{value_of}
use Rattle.kishu_meaning.specs.values.Sound.{are_sound}
use Rattle.kishu_machine.specs.Machine.{moment_of}
use Rattle.std.proofs.lemmas.Result.{err_from_is_err_and}
use Rattle.std.specs.declared.alloc.Global.{Global}
use Rattle.std.specs.declared.vec.Vec.{Vec}
use Rattle.kishu_meaning.specs.declared.value.Value as rust
use Rattle.kishu_meaning.specs.moments.Moment.{change}
use Rattle.kishu_meaning.specs.values.Nodes.{on_list}
use Rattle.kishu_meaning.specs.items.Sequences.{walked}
use Rattle.kishu_machine.specs.Frames.{locals_of}
use Rattle.kishu_machine.specs.Composing.{fails_on}
use Rattle.kishu_access.proofs.Changing.{as_long}
use Rattle.kishu_access.proofs.Ends.{passed_on}
use Rattle.kishu_access.proofs.walks.extend.Goals as goal

pub invariant_of-machine : goal.invariant_of-machine
invariant_of-machine g c =
    (let m = c.walked.new.machine in
    record { sound = as_long m.heap c.push_all.new.heap m.names.bound (locals_of m.locals) (option_map value_of m.handled) c.push_all.ensures.long m.sound })

pub returns-in_err-more-clause-gives : goal.returns-in_err-more-clause-gives
returns-in_err-more-clause-gives g c =
    let v = value_of c.args.value.now in
    let s = moment_of c.args.machine.now in
    let p = err_from_is_err_and c.from_residual.result c.from_residual.ensures.1 in
    rw (p.1, p.2) (fails_on (λ more. change c.args.id.0 (on_list (λ items. items ++ more))) c.in_err-more.field-0.0 (moment_of c.walked.new.machine) (walked v s) c.in_err-more.ensures.gives)

pub returns-in_err-more-clause-sound : goal.returns-in_err-more-clause-sound
returns-in_err-more-clause-sound g c =
    let n = length c.walked.new.machine.heap in
    let p = err_from_is_err_and c.from_residual.result c.from_residual.ensures.1 in
    rw (p.1, p.2) (passed_on (λ (v : Vec rust.Value Global). are_sound n (map value_of v.items)) (λ (u : Unit {0}). true) n c.in_err-more.field-0.0 c.in_err-more.ensures.sound)

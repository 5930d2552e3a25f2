use Rattle.std.proofs.lemmas.Result.{err_from_is_err_and}
use Rattle.std.specs.Prelude.{true}
use Rattle.std.specs.Rc.{rc_str_bytes}
use Rattle.kishu_meaning.specs.calls.Callees.{dotted, settled}
use Rattle.kishu_meaning.specs.moments.Moment.{give}
use Rattle.kishu_meaning.specs.declared.value.Value as rust
use Rattle.kishu_meaning.specs.values.Values.{Value}
use Rattle.kishu_calls.specs.declared.parts.Part as part
use Rattle.kishu_machine.specs.Composing.{fails_on}
use Rattle.kishu_machine.specs.Machine.{moment_of}
use Rattle.kishu_calls.specs.Calls.{part_of}
use Rattle.kishu_calls.proofs.Passing.{passed_on}
use Rattle.kishu_calls.proofs.parts.dotted_part.Goals as goal

pub returns-in_err-value-clause-gives : goal.returns-in_err-value-clause-gives
returns-in_err-value-clause-gives g c =
    let p = err_from_is_err_and c.from_residual.result c.from_residual.ensures.1 in
    rw (p.1, p.2) (fails_on (λ (v : Value). give (dotted v (rc_str_bytes c.args.name.now))) c.in_err-value.field-0.0 _ (settled (part_of c.args.part) (moment_of c.args.machine.now)) c.in_err-value.ensures.gives)

pub returns-in_err-value-clause-sound : goal.returns-in_err-value-clause-sound
returns-in_err-value-clause-sound g c =
    let p = err_from_is_err_and c.from_residual.result c.from_residual.ensures.1 in
    rw (p.1, p.2) (passed_on (λ (v : rust.Value). true) (λ (p : part.Part). true) _ c.in_err-value.field-0.0 c.in_err-value.ensures.sound)

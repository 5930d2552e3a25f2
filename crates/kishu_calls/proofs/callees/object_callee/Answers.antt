use Rattle.std.proofs.lemmas.Result.{err_from_is_err_and}
use Rattle.std.specs.Prelude.{true}
use Rattle.kishu_meaning.specs.declared.value.Value as rust
use Rattle.kishu_calls.specs.declared.callees.Callee as called
use Rattle.kishu_meaning.specs.calls.Callees.{function}
use Rattle.kishu_meaning.specs.moments.Moment.{give}
use Rattle.kishu_meaning.specs.items.Subscripts.{attribute}
use Rattle.kishu_meaning.specs.values.Values.{Value, value_of}
use Rattle.kishu_machine.specs.Composing.{fails_on}
use Rattle.kishu_machine.specs.Machine.{moment_of}
use Rattle.kishu_calls.proofs.Passing.{passed_on}
use Rattle.kishu_calls.proofs.callees.object_callee.Goals as goal

pub returns-in_err-function-clause-gives : goal.returns-in_err-function-clause-gives
returns-in_err-function-clause-gives g c =
    let p = err_from_is_err_and c.from_residual.result c.from_residual.ensures.1 in
    rw (p.1, p.2) (fails_on (λ (v : Value). give (function v)) c.in_err-function.field-0.0 _ (attribute (value_of c.args.value.now) c.args.name.now (moment_of c.args.machine.now)) c.in_err-function.ensures.gives)

pub returns-in_err-function-clause-sound : goal.returns-in_err-function-clause-sound
returns-in_err-function-clause-sound g c =
    let p = err_from_is_err_and c.from_residual.result c.from_residual.ensures.1 in
    rw (p.1, p.2) (passed_on (λ (v : rust.Value). true) (λ (p : called.Callee). true) _ c.in_err-function.field-0.0 c.in_err-function.ensures.sound)

use Rattle.std.proofs.Common.{[], map}
use Rattle.std.proofs.lemmas.Result.{err_from_is_err_and}
use Rattle.std.specs.Prelude.{length, true}
use Rattle.kishu_meaning.specs.values.Values.{value_of}
use Rattle.kishu_meaning.specs.declared.value.Value as rust
use Rattle.kishu_machine.specs.Machine.{moment_of}
use Rattle.kishu_calls.specs.Calls.{named_of}
use Rattle.kishu_calls.proofs.Prints.{marks_fail, marks_sound}
use Rattle.kishu_calls.proofs.calls.print_by.Goals as goal

pub returns-in_err-marks-clause-gives : goal.returns-in_err-marks-clause-gives
returns-in_err-marks-clause-gives g c =
    let p = err_from_is_err_and c.from_residual.result c.from_residual.ensures.1 in
    let s = moment_of c.args.machine.now in
    let vs = map value_of c.args.given.now.plain.items in
    let told = rw c.as_slice.ensures.value at (c.in_err-marks.ensures s vs) in
    rw (p.1, p.2) (marks_fail c.in_err-marks.field-0.0 (named_of c.args.given.now.named.items) vs s told)

pub returns-in_err-marks-clause-sound : goal.returns-in_err-marks-clause-sound
returns-in_err-marks-clause-sound g c =
    let p = err_from_is_err_and c.from_residual.result c.from_residual.ensures.1 in
    rw (p.1, p.2) (marks_sound (length c.args.machine.now.heap) (λ (v : rust.Value). true) c.in_err-marks.field-0.0 (named_of c.as_slice.result.now) (moment_of c.args.machine.now) (c.in_err-marks.ensures (moment_of c.args.machine.now) []))

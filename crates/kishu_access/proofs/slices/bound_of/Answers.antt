use Rattle.std.proofs.Common.{◌≡◌, ◌∙◌, refl, ap, sym, SFits, rules, true, length, Option, Some}
use Rattle.kishu_machine.specs.Machine.{moment_of}
use Rattle.std.proofs.lemmas.Result.{err_from_is_err_and}
use Rattle.std.specs.Prelude.{ℤ}
use Rattle.std.proofs.Common.{to_z, of_z}
use mir.Syntax.{w128}
use Rattle.std.proofs.lemmas.Int.{to_z-of_z}
use Rattle.kishu_meaning.specs.moments.Moment.{fine}
use Rattle.kishu_access.proofs.Ends.{passed_on}
use Rattle.kishu_access.proofs.Slicing.{bound_fails, bound_number}
use Rattle.kishu_access.proofs.slices.bound_of.Goals as goal

pub returns-in-None-clause-gives : goal.returns-in-None-clause-gives
returns-in-None-clause-gives g c = rw c.in-None.is refl

pub returns-in_err-number-clause-gives : goal.returns-in_err-number-clause-gives
returns-in_err-number-clause-gives g c =
    let s = moment_of c.args.machine.now in
    let p = err_from_is_err_and c.from_residual.result c.from_residual.ensures.1 in
    rw (p.1, p.2) (bound_fails c.args.bound.now s c.in_err-number.field-0.0 c.in_default.not-None c.in_err-number.ensures.gives)

pub returns-in_err-number-clause-sound : goal.returns-in_err-number-clause-sound
returns-in_err-number-clause-sound g c =
    let n = length c.args.machine.now.heap in
    let p = err_from_is_err_and c.from_residual.result c.from_residual.ensures.1 in
    rw (p.1, p.2) (passed_on (λ (z : ℤ). true) (λ (o : Option ℤ). true) n c.in_err-number.field-0.0 c.in_err-number.ensures.sound)

pub returns-clause-gives : goal.returns-clause-gives
returns-clause-gives g c =
    let s = moment_of c.args.machine.now in
    let z = c.in_ok-number.number in
    let f : SFits w128 z = search rules in
    let same : to_z w128 (of_z w128 z) ≡ z = to_z-of_z w128 z f in
    bound_number c.args.bound.now s z c.in_default.not-None c.in_ok-number.ensures.gives ∙ ap (λ (y : ℤ). fine (Some y) s) (sym same)

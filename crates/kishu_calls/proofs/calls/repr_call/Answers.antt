use Rattle.std.proofs.Common.{◌≡◌, refl, arith, length}
use Rattle.std.specs.Prelude.{codes}
use Rattle.std.proofs.lemmas.Bool.Decides.{nat_tests}
use Rattle.kishu_machine.specs.Machine.{moment_of}
use Rattle.kishu_calls.proofs.Refused.{refused_one}
use Rattle.kishu_calls.proofs.calls.repr_call.Goals.{in_default-via-then-values-lt1, in_default-via-else-values-lt1+else-values-lt2}
use Rattle.kishu_calls.proofs.calls.repr_call.Goals as goal

pub returns-in_default-clause-gives : goal.returns-in_default-clause-gives
returns-in_default-clause-gives g c =
    let other : length c.args.values.now ≡ 1 → ⊥ = elim c.in_default.branch [
      | in_default-via-then-values-lt1 w ↦ (λ e. grind (arith, nat_tests))
      | in_default-via-else-values-lt1+else-values-lt2 w ↦ (λ e. grind (arith, nat_tests))
    ] in
    refused_one (codes "repr") refl c.bad_arguments.result (moment_of c.args.machine.now) c.bad_arguments.ensures _ c.args.values.now other

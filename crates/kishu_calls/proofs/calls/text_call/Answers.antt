use Rattle.std.proofs.Common.{refl, arith}
use Rattle.std.specs.Prelude.{codes}
use Rattle.std.specs.Rc.{rc_str_bytes}
use Rattle.kishu_machine.specs.Machine.{moment_of}
use Rattle.kishu_calls.proofs.Refused.{none_given, refused_few}
use Rattle.kishu_calls.proofs.calls.text_call.Goals as goal

pub returns-in_ok-from_str-in-empty-clause-gives : goal.returns-in_ok-from_str-in-empty-clause-gives
returns-in_ok-from_str-in-empty-clause-gives g c =
    none_given (codes "str") _ c.args.values.now (moment_of c.args.machine.now) (rc_str_bytes c.in_ok-from_str-in-empty.field-0) c.in-empty.len_below c.in_ok-from_str-in-empty.ensures.ok

pub returns-in_default-clause-gives : goal.returns-in_default-clause-gives
returns-in_default-clause-gives g c =
    refused_few (codes "str") refl c.bad_arguments.result (moment_of c.args.machine.now) c.bad_arguments.ensures _ _ c.args.values.now (λ e. absurd (omega arith)) (λ e. absurd (omega arith))

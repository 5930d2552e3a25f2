use Rattle.std.proofs.Common.{arith}
use Rattle.kishu_machine.specs.Machine.{moment_of}
use Rattle.kishu_calls.specs.Calls.{given_of}
use Rattle.kishu_calls.proofs.Refused.{plain_there, refused_object}
use Rattle.kishu_calls.proofs.calls.new_object.Goals as goal

pub returns-then-not-is_empty-clause-gives : goal.returns-then-not-is_empty-clause-gives
returns-then-not-is_empty-clause-gives c =
    let plain = c.args.given.plain in
    refused_object c.bad_arguments.result (moment_of c.args.machine.now) (given_of c.args.given)
    (plain_there plain.items plain.len c.is_empty.result (omega (arith, plain.ok.0)) c.is_empty.ensures c.if-not-is_empty.true) c.bad_arguments.ensures

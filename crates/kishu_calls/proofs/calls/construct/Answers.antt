use Rattle.std.proofs.Common.{arith}
use Rattle.std.proofs.lemmas.Bool.Decides.{nat_tests}
use Rattle.kishu_machine.specs.Machine.{moment_of}
use Rattle.kishu_calls.specs.Calls.{given_of}
use Rattle.kishu_calls.proofs.Called.{named_there}
use Rattle.kishu_calls.proofs.Refused.{refused_construct}
use Rattle.kishu_calls.proofs.calls.construct.Goals as goal

pub returns-then-not-is_empty-clause-gives : goal.returns-then-not-is_empty-clause-gives
returns-then-not-is_empty-clause-gives g c =
    let named = c.args.given.named in
    refused_construct c.bad_arguments.result (moment_of c.args.machine.now) c.args.class.0 (given_of c.args.given) c.class_name.result.now (λ e. grind (arith, nat_tests))
    (named_there named.items named.len c.is_empty.result (omega (arith, named.ok.0)) c.is_empty.ensures c.if-not-is_empty.true) c.class_name.ensures c.bad_arguments.ensures

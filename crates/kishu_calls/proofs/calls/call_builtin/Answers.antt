use Rattle.std.proofs.Common.{[], ◌∷◌, arith, map}
use Rattle.std.proofs.lemmas.Bool.Decides.{nat_tests}
use Rattle.std.specs.Prelude.{codes, length}
use Rattle.kishu_meaning.specs.calls.Callees.{print_by}
use Rattle.kishu_language.specs.tokens.Lines.{line_feed}
use Rattle.kishu_meaning.specs.values.Values.{value_of}
use Rattle.kishu_machine.specs.Machine.{moment_of}
use Rattle.kishu_calls.specs.Calls.{given_of, named_of}
use Rattle.kishu_calls.proofs.Called.{named_there}
use Rattle.kishu_calls.proofs.Prints.{print_by_none, printed_sound}
use Rattle.kishu_calls.proofs.Refused.{refused_builtin}
use Rattle.kishu_calls.proofs.calls.call_builtin.Goals as goal

pub returns-then-builtin-clause-sound : goal.returns-then-builtin-clause-sound
returns-then-builtin-clause-sound g c =
    let s = moment_of c.args.machine.now in
    let ks = named_of c.args.given.now.named.items in
    let vs = map value_of c.args.given.now.plain.items in
    printed_sound (length c.print_by.new.machine.heap) c.print_by.result (moment_of c.print_by.new.machine) (print_by ks (codes " ") (line_feed ∷ []) vs s) c.print_by.ensures.gives (print_by_none ks (codes " ") (line_feed ∷ []) vs s) c.print_by.ensures.sound

pub returns-then-not-is_empty-clause-gives : goal.returns-then-not-is_empty-clause-gives
returns-then-not-is_empty-clause-gives g c =
    let named = c.args.given.now.named in
    refused_builtin c.bad_arguments.result (moment_of c.args.machine.now) c.args.builtin.0 (given_of c.args.given.now) c.builtin_name.result.now (λ e. grind (arith, nat_tests))
    (named_there named.items named.len c.is_empty.result (omega (arith, named.ok.0)) c.is_empty.ensures c.if-not-is_empty.true) c.builtin_name.ensures c.bad_arguments.ensures

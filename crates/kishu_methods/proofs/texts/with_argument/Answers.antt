use Rattle.std.specs.Str.{chars}
use Rattle.kishu_meaning.specs.values.Values.{value_of}
use Rattle.kishu_methods.specs.Called.{moment_of}
use Rattle.kishu_methods.proofs.TextRows.{refused, one_refused}
use Rattle.kishu_methods.proofs.texts.with_argument.Goals as goal

pub returns-in_default-clause-gives : goal.returns-in_default-clause-gives
returns-in_default-clause-gives g c =
    refused c.bad_arguments.result _ _ (moment_of c.args.heap.now c.args.budget.now)
    (one_refused c.args.method (chars c.args.text.now) (value_of c.args.argument.now) c.in_default.not-StartsWith c.in_default.not-EndsWith c.in_default.not-Find c.in_default.not-Count c.in_default.not-Split c.in_default.not-Join)
    (c.bad_arguments.ensures (moment_of c.args.heap.now c.args.budget.now))

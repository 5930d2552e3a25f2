use Rattle.std.specs.Str.{chars}
use Rattle.kishu_methods.specs.Called.{moment_of}
use Rattle.kishu_methods.proofs.TextRows.{refused, none_refused}
use Rattle.kishu_methods.proofs.texts.without_arguments.Goals as goal

pub returns-in_default-clause-gives : goal.returns-in_default-clause-gives
returns-in_default-clause-gives g c =
    refused c.bad_arguments.result _ _ (moment_of c.args.heap.now c.args.budget.now)
    (none_refused c.args.method (chars c.args.text.now) c.in_default.not-Strip c.in_default.not-IsDigit c.in_default.not-Split)
    (c.bad_arguments.ensures (moment_of c.args.heap.now c.args.budget.now))

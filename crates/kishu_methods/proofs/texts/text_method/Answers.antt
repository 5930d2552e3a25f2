use Rattle.std.specs.Str.{chars}
use Rattle.kishu_methods.specs.Called.{moment_of}
use Rattle.kishu_methods.proofs.TextRows.{refused, many_refused}
use Rattle.kishu_methods.proofs.texts.text_method.Goals as goal

pub returns-in_default-clause-gives : goal.returns-in_default-clause-gives
returns-in_default-clause-gives g c =
    refused c.bad_arguments.result _ _ (moment_of c.args.heap.now c.args.budget.now)
    (many_refused c.args.method (chars c.args.text.now) c.args.args.now c.in_default.len_at_least) (c.bad_arguments.ensures (moment_of c.args.heap.now c.args.budget.now))

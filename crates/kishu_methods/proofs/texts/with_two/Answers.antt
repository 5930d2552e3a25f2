use Rattle.std.specs.Str.{chars}
use Rattle.kishu_meaning.specs.values.Values.{value_of}
use Rattle.kishu_methods.specs.Called.{moment_of}
use Rattle.kishu_methods.proofs.TextRows.{refused, two_refused}
use Rattle.kishu_methods.proofs.texts.with_two.Goals as goal

pub returns-in_default-clause-gives : goal.returns-in_default-clause-gives
returns-in_default-clause-gives g c =
    λ ns. refused c.bad_arguments.result _ _ (moment_of ns c.args.budget.now)
    (two_refused c.args.method (chars c.args.text.now) (value_of c.args.first.now) (value_of c.args.second.now) c.in_default.not-Replace) (c.bad_arguments.ensures (moment_of ns c.args.budget.now))

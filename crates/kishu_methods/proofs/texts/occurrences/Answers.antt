use Rattle.std.proofs.Common.{◌∙◌, ap, ℕ}
use Rattle.std.specs.Prelude.{pos}
use Rattle.std.specs.Str.{chars}
use Rattle.kishu_meaning.specs.values.Values.{value_of, integer}
use Rattle.kishu_methods.specs.Called.{moment_of}
use Rattle.kishu_methods.proofs.TextSteps.{counted_row}
use Rattle.kishu_methods.proofs.texts.occurrences.Goals as goal

pub returns-clause-gives : goal.returns-clause-gives
returns-clause-gives g c =
    λ ns. counted_row (value_of c.args.argument.now) (chars c.in-Some.part.now) (chars c.args.text.now) (value_of c.number.result) c.in_ok-check_separator.field-0 c.in_ok-spend_search.field-0
    (moment_of ns c.args.budget.now) (moment_of ns c.spend_search.new.budget)
    c.in-Some.ensures (c.in_ok-check_separator.ensures.gives (moment_of ns c.args.budget.now)) (c.in_ok-spend_search.ensures.gives ns) (c.number.ensures ∙ ap (λ (k : ℕ). integer (pos k)) c.occurrences.ensures)

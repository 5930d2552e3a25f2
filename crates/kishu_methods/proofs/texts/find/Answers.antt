use Rattle.std.proofs.Common.{SFits, rules}
use Rattle.std.specs.Int.{w128}
use Rattle.std.specs.Str.{chars}
use Rattle.std.proofs.lemmas.Int.{to_z-of_z}
use Rattle.kishu_meaning.specs.values.Values.{value_of}
use Rattle.kishu_methods.specs.Called.{moment_of}
use Rattle.kishu_methods.proofs.TextSteps.{found_row}
use Rattle.kishu_methods.proofs.texts.find.Goals as goal

pub returns-clause-gives : goal.returns-clause-gives
returns-clause-gives g c =
    let place = c.place_or_minus_one.result in
    let fits : SFits w128 place = search rules in
    λ ns. found_row (value_of c.args.argument.now) (chars c.in-Some.part.now) (chars c.args.text.now) place _ c.in_ok-spend_search.field-0 (moment_of ns c.args.budget.now) (moment_of ns c.spend_search.new.budget)
    c.in-Some.ensures (c.in_ok-spend_search.ensures.gives ns) c.place_or_minus_one.ensures (to_z-of_z w128 place fits)

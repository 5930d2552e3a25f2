use Rattle.std.proofs.Common.{◌∙◌, ap, subst}
use Rattle.std.specs.Int.{w128}
use Rattle.std.proofs.lemmas.Int.{to_z-of_z}
use Rattle.kishu_meaning.specs.values.Values.{integer}
use Rattle.kishu_builtins.specs.Answered.{answered}
use Rattle.kishu_builtins.specs.Called.{Gives}
use Rattle.kishu_builtins.proofs.Wholes.{same_quotient}
use Rattle.kishu_builtins.proofs.numbers.quotient.Goals as goal

pub returns : goal.returns
returns c = λ s.
    let e = rw (to_z-of_z w128 c.args.a c.ranges.a, to_z-of_z w128 c.args.b c.ranges.b) at c.floor_div.ensures.value in
    subst (λ x. Gives integer c.number_or_raise.result s x) (ap (λ r. answered r s) e ∙ same_quotient c.args.a c.args.b s) (c.number_or_raise.ensures s)

use Rattle.std.proofs.Common.{◌∙◌, SFits, ap, rules, subst}
use Rattle.std.specs.Int.{w128}
use Rattle.std.proofs.lemmas.Int.{to_z-of_z}
use Rattle.kishu_meaning.specs.values.Values.{integer}
use Rattle.kishu_builtins.specs.Answered.{answered}
use Rattle.kishu_builtins.specs.Called.{Gives}
use Rattle.kishu_builtins.proofs.Wholes.{same_sum}
use Rattle.kishu_builtins.proofs.sums.further.Goals as goal

pub returns-in-Some : goal.returns-in-Some
returns-in-Some c = λ s.
    let n = c.in-Some.number in
    let f : SFits w128 n = search rules in
    let e = rw (to_z-of_z w128 c.args.sum c.ranges.sum, to_z-of_z w128 n f) at c.add.ensures in
    rw (← c.in-Some.ensures) (subst (λ x. Gives integer c.number_or_raise.result s x) (ap (λ r. answered r s) e ∙ same_sum c.args.sum n s) (c.number_or_raise.ensures s))

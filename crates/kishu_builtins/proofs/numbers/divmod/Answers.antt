use Rattle.std.proofs.Common.{SFits, rules}
use Rattle.std.specs.Int.{w128}
use Rattle.std.proofs.lemmas.Int.{to_z-of_z}
use Rattle.kishu_builtins.proofs.numbers.divmod.Goals as goal

pub returns-in-Some-Some-clause-gives : goal.returns-in-Some-Some-clause-gives
returns-in-Some-Some-clause-gives c = λ b.
    let f : SFits w128 c.in-Some-Some.a = search rules in
    let g : SFits w128 c.in-Some-Some.b = search rules in
    rw (← c.in-Some-Some.ensures, ← c.in-Some-Some.ensures') (rw (to_z-of_z w128 c.in-Some-Some.a f, to_z-of_z w128 c.in-Some-Some.b g) at (c.quotient_and_remainder.ensures.gives b))

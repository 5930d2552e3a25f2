use Rattle.std.proofs.Common.{SFits, rules}
use Rattle.std.specs.Int.{w128}
use Rattle.std.proofs.lemmas.Int.{to_z-of_z}
use Rattle.kishu_builtins.proofs.numbers.abs.Goals as goal

pub returns-in-Some : goal.returns-in-Some
returns-in-Some c = λ s.
    let f : SFits w128 c.in-Some.number = search rules in
    let e = rw (to_z-of_z w128 c.in-Some.number f) at c.unsigned_abs.ensures.value in
    rw (← c.in-Some.ensures, ← e) (c.whole.ensures s)

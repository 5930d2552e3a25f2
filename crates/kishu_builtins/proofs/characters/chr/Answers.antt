use Rattle.std.proofs.Common.{SFits, rules}
use Rattle.std.specs.Int.{w128}
use Rattle.std.proofs.lemmas.Int.{to_z-of_z}
use Rattle.kishu_builtins.proofs.characters.chr.Goals as goal

pub returns-in-Some : goal.returns-in-Some
returns-in-Some c = λ s.
    let f : SFits w128 c.in-Some.number = search rules in
    rw (← c.in-Some.ensures) (rw (to_z-of_z w128 c.in-Some.number f) at (c.character.ensures s))

use Rattle.std.proofs.Common.{SFits, rules, refl}
use Rattle.std.specs.Int.{w128}
use Rattle.std.proofs.lemmas.Int.{to_z-of_z}
use Rattle.kishu_builtins.proofs.Written.{same_number}
use Rattle.kishu_builtins.proofs.reading.number_written.Goals as goal

pub returns-in-Some-clause-gives : goal.returns-in-Some-clause-gives
returns-in-Some-clause-gives g c = λ ns.
    let f : SFits w128 c.in-Some.number = search rules in
    let e = rw c.count.ensures at (c.in_ok-spend.ensures.gives ns) in
    rw (e, same_number c.args.text.now c.utf8.text, ← c.in-Some.ensures, to_z-of_z w128 c.in-Some.number f) refl

pub returns-in_ok-plain_text-in-None-clause-gives : goal.returns-in_ok-plain_text-in-None-clause-gives
returns-in_ok-plain_text-in-None-clause-gives g c = λ ns.
    let e = rw c.count.ensures at (c.in_ok-spend.ensures.gives ns) in
    rw (c.raise.ensures, e, same_number c.args.text.now c.utf8.text, ← c.in-None.ensures, c.in_ok-plain_text-in-None.ensures) refl

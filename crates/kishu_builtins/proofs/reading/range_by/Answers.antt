use Rattle.std.proofs.Common.{SFits, rules}
use Rattle.std.specs.Int.{w128}
use Rattle.std.proofs.lemmas.Int.{to_z-of_z}
use Rattle.kishu_builtins.proofs.reading.range_by.Goals as goal

pub returns-in-Some-Some-Some : goal.returns-in-Some-Some-Some
returns-in-Some-Some-Some c = λ s.
    let start : SFits w128 c.in-Some-Some-Some.start = search rules in
    let stop : SFits w128 c.in-Some-Some-Some.stop = search rules in
    let step : SFits w128 c.in-Some-Some-Some.step = search rules in
    rw (← c.in-Some-Some-Some.ensures, ← c.in-Some-Some-Some.ensures', ← c.in-Some-Some-Some.ensures'') (rw (to_z-of_z w128 c.in-Some-Some-Some.start start, to_z-of_z w128 c.in-Some-Some-Some.stop stop, to_z-of_z w128 c.in-Some-Some-Some.step step) at (c.checked_range.ensures s))

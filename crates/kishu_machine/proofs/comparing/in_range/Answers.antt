use Rattle.std.proofs.Common.{SFits, rules}
use Rattle.std.specs.Int.{w128}
use Rattle.std.proofs.lemmas.Int.{to_z-of_z}
use Rattle.kishu_machine.proofs.comparing.in_range.Goals as goal

pub returns-in-Some : goal.returns-in-Some
returns-in-Some c =
    let z = c.in-Some.number in
    let f : SFits w128 z = search rules in
    let e = rw (to_z-of_z w128 z f, to_z-of_z w128 c.args.start c.ranges.start, to_z-of_z w128 c.args.stop c.ranges.stop, to_z-of_z w128 c.args.step c.ranges.step) at c.is_number_of.ensures in
    rw (← c.in-Some.ensures) e

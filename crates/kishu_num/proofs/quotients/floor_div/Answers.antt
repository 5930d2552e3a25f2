use Rattle.std.proofs.Common.{ap, of_z}
use Rattle.std.specs.Int.{w128}
use Rattle.std.proofs.lemmas.Int.{to_z-of_z}
use Rattle.kishu_num.proofs.Division.{quotient_law}
use Rattle.kishu_num.proofs.quotients.floor_div.Goals as goal

pub returns-else-b-eq0-clause-law : goal.returns-else-b-eq0-clause-law
returns-else-b-eq0-clause-law c =
    let a = to_z-of_z w128 c.args.a c.ranges.a in
    let b = to_z-of_z w128 c.args.b c.ranges.b in
    quotient_law c.args.a c.args.b c.quotient.result (λ e. c.if-b-eq0.false (ap (of_z w128) e)) (simp (a, b) at c.quotient.ensures)

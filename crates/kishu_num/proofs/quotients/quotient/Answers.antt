use Rattle.std.specs.Int.{w128}
use Rattle.std.proofs.lemmas.Int.{to_z-of_z}
use Rattle.kishu_num.proofs.Division.{quotient_up}
use Rattle.kishu_num.proofs.quotients.quotient.Goals as goal

pub returns-then-b-lt0 : goal.returns-then-b-lt0
returns-then-b-lt0 c =
    let a = to_z-of_z w128 c.args.a c.ranges.a in
    let b = to_z-of_z w128 c.args.b c.ranges.b in
    simp (a, b) (quotient_up c.args.a c.args.b c.ranges.a (simp a at c.if-a-gt0.true) (simp b at c.if-b-lt0.true))

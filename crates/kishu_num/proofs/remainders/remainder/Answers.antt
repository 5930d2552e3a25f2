use Rattle.std.specs.Int.{w128}
use Rattle.std.proofs.lemmas.Int.{to_z-of_z}
use Rattle.kishu_num.proofs.Division.{remainder_down, remainder_up}
use Rattle.kishu_num.proofs.remainders.remainder.Goals as goal

pub returns-then-b-gt0 : goal.returns-then-b-gt0
returns-then-b-gt0 c =
    let a = to_z-of_z w128 c.args.a c.ranges.a in
    let b = to_z-of_z w128 c.args.b c.ranges.b in
    simp (a, b) (remainder_down c.args.a c.args.b c.ranges.a c.ranges.b (simp a at c.if-a-lt0.true) (simp b at c.if-b-gt0.true))

pub returns-then-b-lt0 : goal.returns-then-b-lt0
returns-then-b-lt0 c =
    let a = to_z-of_z w128 c.args.a c.ranges.a in
    let b = to_z-of_z w128 c.args.b c.ranges.b in
    simp (a, b) (remainder_up c.args.a c.args.b c.ranges.a c.ranges.b (simp a at c.if-a-gt0.true) (simp b at c.if-b-lt0.true))

use Rattle.std.proofs.Common.{◌≡◌, ◌∙◌, subst, ◌-◌, sym, arith, ◌+ℤ◌, to_z, of_z}
use mir.Syntax.{w128}
use mir.Val.{SFits}
use Rattle.std.proofs.lemmas.Int.{ints, to_z-of_z}
use Rattle.kishu_value_tests.proofs.Slices.{grown_within}
use Rattle.kishu_value_tests.proofs.texts.fits.Goals as goal

pub loop-left-preserved-in-Some : goal.loop-left-preserved-in-Some
loop-left-preserved-in-Some c = λ rest.
    let place = to_z w128 c.loop-left.place-bits in
    let step = to_z w128 (of_z w128 c.args.step) in
    let next = to_z w128 (of_z w128 c.in-Some.next) in
    let sum = c.in-Some.ensures in
    let same : next ≡ place +ℤ step = to_z-of_z w128 c.in-Some.next (subst (SFits w128) (sym sum.1) sum.0) ∙ sum.1 in
    c.loop-left.invariant (grown_within c.args.size place next step c.loop-left.left (c.loop-left.left - 1) (omega arith) (grind (arith, ints)) (grind (arith, ints)) (λ some. same) rest)

use Rattle.std.proofs.Common.{◌≡◌, ◌∙◌, ap, subst}
use Rattle.std.specs.Prelude.{pos, ◌-ℤ◌, neg_ℤ}
use Rattle.kishu_num.specs.Results.{in_range}
use Rattle.kishu_meaning.specs.values.Values.{value_of}
use Rattle.kishu_machine.specs.Machine.{Gives}
use Rattle.kishu_machine.specs.Forms.{answered}
use Rattle.kishu_machine.proofs.Arithmetic.{same_whole}
use Rattle.std.specs.Int.{w128}
use Rattle.std.proofs.lemmas.Int.{ints, to_z-of_z}
use Rattle.std.proofs.Common.{arith}
use Rattle.kishu_machine.proofs.numbers.signed_number.Goals as goal

pub returns-in-Minus : goal.returns-in-Minus
returns-in-Minus c = λ s.
    let z = c.args.number in
    let negated : pos 0 -ℤ z ≡ neg_ℤ z = omega (arith, ints) in
    let e = rw (to_z-of_z w128 c.args.number c.ranges.number) at c.sub.ensures in
    rw c.in-Minus.is (subst (λ x. Gives value_of c.number_value.result s x) (ap (λ r. answered r s) e ∙ ap (λ y. answered (in_range y) s) negated ∙ same_whole (neg_ℤ z) s) (c.number_value.ensures s))

use Rattle.std.proofs.Common.{◌≡◌, ◌/◌, ◌*ℤ◌, refl, sym, ap, ◌∙◌, arith, rules, FitsSigned}
use Rattle.std.specs.Int.{w128}
use Rattle.std.proofs.lemmas.Int.{to_z-of_z}
use Rattle.std.proofs.lemmas.Int.Digits.{length-digits_of_step}
use Rattle.std.proofs.lemmas.Result.{err_from_is_err_and}
use Rattle.kishu_meaning.specs.values.Numbers.{power}
use Rattle.kishu_num.specs.Results.{in_range}
use Rattle.kishu_num.proofs.Ranges.{from_ok}
use Rattle.kishu_num.proofs.Halves.{power_zero, beyond, beyond_square, even_power, odd_power}
use Rattle.kishu_num.proofs.powers.+raise.Goals as goal

pub raise-requires : goal.raise-requires
raise-requires t c = (omega (arith, length-digits_of_step 2 c.args.exponent (omega arith) (omega arith)), tt)

pub returns-then-exponent-eq0 : goal.returns-then-exponent-eq0
returns-then-exponent-eq0 t c = rw (c.if-exponent-eq0.true, power_zero c.args.base) refl

pub returns-in_err-half : goal.returns-in_err-half
returns-in_err-half t c =
    let p = err_from_is_err_and c.from_residual.result c.from_residual.ensures.1 in
    let base = to_z-of_z w128 c.args.base c.ranges.base in
    p.1 ∙ rw p.2 (beyond c.args.base (c.args.exponent / 2) c.args.exponent c.in_err-half.field-0.0 (sym (simp base at c.in_err-half.ensures)) (omega arith))

pub returns-in_err-square : goal.returns-in_err-square
returns-in_err-square t c =
    let p = err_from_is_err_and c.from_residual-in_err-square.result c.from_residual-in_err-square.ensures.1 in
    let fits : FitsSigned w128 c.in_ok-half.half = search rules in
    let base = to_z-of_z w128 c.args.base c.ranges.base in
    let same = to_z-of_z w128 c.in_ok-half.half fits in
    let half : power c.args.base (c.args.exponent / 2) ≡ c.in_ok-half.half = from_ok _ _ (sym (simp base at c.in_ok-half.ensures)) in
    p.1 ∙ rw p.2 (beyond_square c.args.base c.in_ok-half.half c.args.exponent c.in_err-square.field-0.0 half (sym (simp same at c.in_err-square.ensures)))

pub returns-then-exponent-eq0-2 : goal.returns-then-exponent-eq0-2
returns-then-exponent-eq0-2 t c =
    let fits : FitsSigned w128 c.in_ok-half.half = search rules in
    let fits' : FitsSigned w128 c.in_ok-square.square = search rules in
    let base = to_z-of_z w128 c.args.base c.ranges.base in
    let same = to_z-of_z w128 c.in_ok-half.half fits in
    let half : power c.args.base (c.args.exponent / 2) ≡ c.in_ok-half.half = from_ok _ _ (sym (simp base at c.in_ok-half.ensures)) in
    rw (to_z-of_z w128 c.in_ok-square.square fits') (simp same at c.in_ok-square.ensures ∙ ap in_range (even_power c.args.base c.in_ok-half.half c.args.exponent half c.if-exponent-eq0-2.true))

pub returns-else-exponent-eq0-2 : goal.returns-else-exponent-eq0-2
returns-else-exponent-eq0-2 t c =
    let fits : FitsSigned w128 c.in_ok-half.half = search rules in
    let fits' : FitsSigned w128 c.in_ok-square.square = search rules in
    let base = to_z-of_z w128 c.args.base c.ranges.base in
    let same = to_z-of_z w128 c.in_ok-half.half fits in
    let same' = to_z-of_z w128 c.in_ok-square.square fits' in
    let half : power c.args.base (c.args.exponent / 2) ≡ c.in_ok-half.half = from_ok _ _ (sym (simp base at c.in_ok-half.ensures)) in
    let square : c.in_ok-half.half *ℤ c.in_ok-half.half ≡ c.in_ok-square.square = from_ok _ _ (sym (simp same at c.in_ok-square.ensures)) in
    simp (base, same') at c.mul-else-exponent-eq0-2.ensures ∙ ap in_range (ap (λ z. z *ℤ c.args.base) (sym square) ∙ odd_power c.args.base c.in_ok-half.half c.args.exponent half c.if-exponent-eq0-2.false)

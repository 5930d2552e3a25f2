-- How the code comes to the quotient that is rounded down, and to what it leaves.
use Rattle.std.proofs.Common.{◌≡◌, ◌≢◌, ℕ, zero, suc, ◌/◌, ◌%◌, ◌^◌, ◌<◌, ℤ, pos, negsuc, neg_ℤ, ◌+ℤ◌, ◌-ℤ◌, ◌*ℤ◌, true, refl, sym, ap, ◌∙◌, arith, to_z, of_z}
use Rattle.std.specs.Prelude.{Result, Ok, Err, IfOk, int_lt, unsigned_abs}
use Rattle.std.specs.Int.RustNames.{int_div, int_rem, FitsSigned}
use Rattle.std.specs.Int.{w128}
use Rattle.std.proofs.Math.Nat.{div-le_self, zero-mod}
use Rattle.std.proofs.lemmas.Int.{ints}
use borrow.Author.Tests.{ltb-true}
use Rattle.kishu_meaning_laws.specs.NumberLaws.{division}
use Rattle.kishu_meaning.specs.values.Numbers.{floor_quotient, floor_remainder, IsDivision}
use Rattle.kishu_num.specs.declared.fault.NumFault.{NumFault}
use Rattle.kishu_num.specs.Results.{in_range}
use Rattle.kishu_num.proofs.Ranges.{ok_in_range, from_ok}

pub quotient_law : (a b : ℤ) (r : Result ℤ NumFault) → b ≢ pos 0 → r ≡ in_range (floor_quotient a b) → IfOk r (λ q. IsDivision a b q (a -ℤ q *ℤ b))
quotient_law a b (Ok q) h e = rw (← (from_ok (floor_quotient a b) q (sym e))) (division a b h)
quotient_law a b (Err f) h e = tt

-- ---- where the signs differ

one_less : (q : ℕ) → q < 2 ^ 127 → to_z w128 (of_z w128 (to_z w128 (of_z w128 (neg_ℤ (pos q))) -ℤ pos 1)) ≡ negsuc q
one_less q h = omega (arith, ints)

pub quotient_up : (a b : ℤ) → FitsSigned w128 a → int_lt (pos 0) a ≡ true → int_lt b (pos 0) ≡ true
    → Ok (to_z w128 (of_z w128 (to_z w128 (of_z w128 (int_div (to_z w128 (of_z w128 (a -ℤ pos 1))) b)) -ℤ pos 1))) ≡ in_range (floor_quotient a b)
quotient_up (pos zero) b f h k = absurd (omega (arith, ltb-true 0 0 h))
quotient_up (negsuc a) b f h k = absurd (cc)
quotient_up (pos (suc a)) (pos b) f h k = absurd (omega (arith, ltb-true b 0 k))
quotient_up (pos (suc a)) (negsuc b) f h k =
    let small : suc a < 2 ^ 127 = f.sfits in
    let below : a / suc b < 2 ^ 127 = omega (arith, div-le_self a (suc b)) in
    let less : to_z w128 (of_z w128 (pos (suc a) -ℤ pos 1)) ≡ pos a = omega (arith, ints) in
    ok_in_range _ _ (ap (λ z. to_z w128 (of_z w128 (to_z w128 (of_z w128 (int_div z (negsuc b))) -ℤ pos 1))) less ∙ one_less (a / suc b) below) (rw (less, one_less (a / suc b) below) (record { sfits = below }))

remainder_down_step : (a b r : ℕ) → r < b → b < 2 ^ 127 → to_z w128 (of_z w128 (to_z w128 (of_z w128 (neg_ℤ (pos r))) +ℤ to_z w128 (of_z w128 (pos b -ℤ pos 1)))) ≡ pos b -ℤ pos 1 -ℤ pos r
remainder_down_step a b r h f = omega (arith, ints)

negated_rem : (a : ℕ) (b : ℤ) → int_rem (neg_ℤ (pos a)) b ≡ neg_ℤ (pos (a % unsigned_abs b))
negated_rem zero b = rw (zero-mod (unsigned_abs b)) refl
negated_rem (suc a) b = refl

pub remainder_down : (a b : ℤ) → FitsSigned w128 a → FitsSigned w128 b → int_lt a (pos 0) ≡ true → int_lt (pos 0) b ≡ true
    → to_z w128 (of_z w128 (to_z w128 (of_z w128 (int_rem (to_z w128 (of_z w128 (a +ℤ pos 1))) b)) +ℤ to_z w128 (of_z w128 (b -ℤ pos 1)))) ≡ floor_remainder a b
remainder_down (pos a) b f g h k = absurd (omega (arith, ltb-true a 0 h))
remainder_down (negsuc a) (negsuc b) f g h k = absurd (cc)
remainder_down (negsuc a) (pos b) f g h k =
    let small : a < 2 ^ 127 = f.sfits in
    let size : b < 2 ^ 127 = g.sfits in
    let some : 0 < b = ltb-true 0 b k in
    let less : to_z w128 (of_z w128 (negsuc a +ℤ pos 1)) ≡ neg_ℤ (pos a) = omega (arith, ints) in
    rw (less, negated_rem a (pos b), remainder_down_step a b (a % b) (omega arith) size) (omega (arith, ints))

remainder_up_step : (r b : ℕ) → r < suc b → b < 2 ^ 127 → to_z w128 (of_z w128 (to_z w128 (of_z w128 (pos r)) +ℤ to_z w128 (of_z w128 (negsuc b +ℤ pos 1)))) ≡ negsuc b +ℤ pos 1 +ℤ pos r
remainder_up_step r b h f = omega (arith, ints)

pub remainder_up : (a b : ℤ) → FitsSigned w128 a → FitsSigned w128 b → int_lt (pos 0) a ≡ true → int_lt b (pos 0) ≡ true
    → to_z w128 (of_z w128 (to_z w128 (of_z w128 (int_rem (to_z w128 (of_z w128 (a -ℤ pos 1))) b)) +ℤ to_z w128 (of_z w128 (b +ℤ pos 1)))) ≡ floor_remainder a b
remainder_up (pos zero) b f g h k = absurd (omega (arith, ltb-true 0 0 h))
remainder_up (negsuc a) b f g h k = absurd (cc)
remainder_up (pos (suc a)) (pos b) f g h k = absurd (omega (arith, ltb-true b 0 k))
remainder_up (pos (suc a)) (negsuc b) f g h k =
    let small : suc a < 2 ^ 127 = f.sfits in
    let size : b < 2 ^ 127 = g.sfits in
    let less : to_z w128 (of_z w128 (pos (suc a) -ℤ pos 1)) ≡ pos a = omega (arith, ints) in
    rw (less, remainder_up_step (a % suc b) b (omega arith) size) (omega (arith, ints))

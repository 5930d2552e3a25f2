-- Whole numbers, in range or not.
use Rattle.std.proofs.Common.{◌≡◌, ◌∙◌, ap, refl, arith, [], ◌∷◌, ℕ, ◌<◌, ◌≤◌, ◌^◌, Bool, true, false}
use Rattle.std.specs.Prelude.{ℤ, pos, ◌+ℤ◌, Ok, Err, codes, if◌then◌else◌}
use Rattle.std.specs.Ordering.{int_eq}
use Rattle.std.proofs.lemmas.Bool.Decides.{nat_tests}
use Rattle.kishu_num.specs.declared.fault.NumFault.TheVariants.{Overflow, ZeroDivisor}
use Rattle.kishu_num.specs.Results.{in_range, divided_by}
use Rattle.kishu_meaning.specs.values.Classes.{overflow_error_class, zero_division_error_class}
use Rattle.kishu_meaning.specs.values.Numbers.{is_whole, floor_quotient, floor_remainder}
use Rattle.kishu_language.specs.declared.tree.Operator.TheVariants as operators
use Rattle.kishu_meaning.specs.values.Values.{integer}
use Rattle.kishu_meaning.specs.moments.Moment.{Moment, fine, and_then, ◌>>=◌, give, raise}
use Rattle.kishu_meaning.specs.calls.Operators.{whole, operate, new_tuple}
use Rattle.kishu_meaning.specs.calls.Builtins.{quotient_and_remainder}
use Rattle.kishu_builtins.specs.Answered.{answered}

in_range_by : (b : Bool) (z : ℤ) (s : Moment) → answered (if b then Ok z else Err Overflow) s ≡ (if b then give (integer z) else raise overflow_error_class (codes "whole number too large")) s
in_range_by true z s = refl
in_range_by false z s = refl

same_whole : (z : ℤ) (s : Moment) → answered (in_range z) s ≡ whole z s
same_whole z s = in_range_by (is_whole z) z s

divided_if : (b : Bool) (z : ℤ) (s : Moment) → answered (if b then Err ZeroDivisor else in_range z) s ≡ (if b then raise zero_division_error_class (codes "division by zero") else whole z) s
divided_if true z s = refl
divided_if false z s = same_whole z s

pub same_sum : (a b : ℤ) (s : Moment) → answered (in_range (a +ℤ b)) s ≡ operate operators.Add (integer a) (integer b) s
same_sum a b s = same_whole (a +ℤ b) s

pub same_quotient : (a b : ℤ) (s : Moment) → answered (divided_by b (floor_quotient a b)) s ≡ operate operators.FloorDivide (integer a) (integer b) s
same_quotient a b s = divided_if (int_eq b (pos 0)) (floor_quotient a b) s

pub same_remainder : (a b : ℤ) (s : Moment) → answered (divided_by b (floor_remainder a b)) s ≡ operate operators.Modulo (integer a) (integer b) s
same_remainder a b s = divided_if (int_eq b (pos 0)) (floor_remainder a b) s

pub within : (n : ℕ) (s : Moment) → n < 2 ^ 127 → whole (pos n) s ≡ fine (integer (pos n)) s
within n s h =
    let e : is_whole (pos n) ≡ true = grind (arith, nat_tests) in
    rw e refl

pub beyond : (n : ℕ) (s : Moment) → 2 ^ 127 ≤ n → whole (pos n) s ≡ raise overflow_error_class (codes "whole number too large") s
beyond n s h =
    let e : is_whole (pos n) ≡ false = grind (arith, nat_tests) in
    rw e refl

-- ---- both of two numbers

pub first_number : (x y q : ℤ) (s : Moment) → operate operators.FloorDivide (integer x) (integer y) s ≡ fine (integer q) s
    → quotient_and_remainder x y s ≡ and_then (operate operators.Modulo (integer x) (integer y) s) (λ r. new_tuple (integer q ∷ (r ∷ [])))
first_number x y q s h = ap (λ e. and_then e (λ p. operate operators.Modulo (integer x) (integer y) >>= λ r. new_tuple (p ∷ (r ∷ [])))) h

pub both_numbers : (x y q r : ℤ) (s : Moment) → operate operators.FloorDivide (integer x) (integer y) s ≡ fine (integer q) s → operate operators.Modulo (integer x) (integer y) s ≡ fine (integer r) s
    → quotient_and_remainder x y s ≡ new_tuple (integer q ∷ (integer r ∷ [])) s
both_numbers x y q r s h k = first_number x y q s h ∙ ap (λ e. and_then e (λ p. new_tuple (integer q ∷ (p ∷ [])))) k

-- What the operators on numbers answer is what the definition says.
use Rattle.std.proofs.Common.{◌≡◌, refl, Bool, true, false}
use Rattle.std.specs.Prelude.{ℤ, pos, negsuc, ◌+ℤ◌, ◌-ℤ◌, ◌*ℤ◌, Ok, Err, codes, if◌then◌else◌}
use Rattle.std.specs.Ordering.{int_eq}
use Rattle.kishu_num.specs.declared.fault.NumFault.TheVariants.{Overflow, ZeroDivisor}
use Rattle.kishu_num.specs.Results.{in_range, divided_by, raised_to}
use Rattle.kishu_language.specs.declared.tree.Operator.{Operator}
use Rattle.kishu_language.specs.declared.tree.Operator.TheVariants as operators
use Rattle.kishu_meaning.specs.values.Numbers.{is_whole, floor_quotient, floor_remainder, power}
use Rattle.kishu_meaning.specs.values.Values.{integer}
use Rattle.kishu_meaning.specs.moments.Moment.{Moment, give, raise}
use Rattle.kishu_meaning.specs.calls.Operators.{whole, divided, arithmetic}
use Rattle.kishu_meaning.specs.calls.Operators as op
use Rattle.kishu_meaning.specs.values.Classes.{overflow_error_class, zero_division_error_class}
use Rattle.kishu_machine.specs.Forms.{answered, answer_of}

in_range_by : (b : Bool) (z : ℤ) (s : Moment) → answered (if b then Ok z else Err Overflow) s ≡ (if b then give (integer z) else raise overflow_error_class (codes "whole number too large")) s
in_range_by true z s = refl
in_range_by false z s = refl

pub same_whole : (z : ℤ) (s : Moment) → answered (in_range z) s ≡ whole z s
same_whole z s = in_range_by (is_whole z) z s

divided_if : (b : Bool) (z : ℤ) (s : Moment) → answered (if b then Err ZeroDivisor else in_range z) s ≡ (if b then raise zero_division_error_class (codes "division by zero") else whole z) s
divided_if true z s = refl
divided_if false z s = same_whole z s

same_divided : (a z : ℤ) (s : Moment) → answered (divided_by a z) s ≡ divided a z s
same_divided a z s = divided_if (int_eq a (pos 0)) z s

same_power : (a b : ℤ) (s : Moment) → answered (raised_to a b) s ≡ op.raised_to a b s
same_power a (pos n) s = same_whole (power a n) s
same_power a (negsuc n) s = refl

pub same_answer : (o : Operator) (a b : ℤ) (s : Moment) → answered (answer_of o a b) s ≡ arithmetic o a b s
same_answer operators.Add a b s = same_whole (a +ℤ b) s
same_answer operators.Subtract a b s = same_whole (a -ℤ b) s
same_answer operators.Multiply a b s = same_whole (a *ℤ b) s
same_answer operators.FloorDivide a b s = same_divided b (floor_quotient a b) s
same_answer operators.Modulo a b s = same_divided b (floor_remainder a b) s
same_answer operators.Power a b s = same_power a b s

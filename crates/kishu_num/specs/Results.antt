-- What the operators answer, from what they mean.
use Rattle.std.specs.Prelude.{ℤ, pos, negsuc, if◌then◌else◌, Result, Ok, Err}
use Rattle.std.specs.Ordering.{int_eq}
use Rattle.kishu_meaning.specs.values.Numbers.{is_whole, power}
use Rattle.kishu_num.specs.declared.fault.NumFault.{NumFault}
use Rattle.kishu_num.specs.declared.fault.NumFault.TheVariants.{Overflow, ZeroDivisor, NegativePower}

-- the true result, where it lies in -2^127 to 2^127-1
abbrev pub in_range : ℤ → Result ℤ NumFault
in_range z = if is_whole z then Ok z else Err Overflow

-- the true result of a division by b, where there is one
abbrev pub divided_by : ℤ → ℤ → Result ℤ NumFault
divided_by b z = if int_eq b (pos 0) then Err ZeroDivisor else in_range z

-- a to the power b, where b isn't negative
abbrev pub raised_to : ℤ → ℤ → Result ℤ NumFault
raised_to a (pos n) = in_range (power a n)
raised_to a (negsuc n) = Err NegativePower

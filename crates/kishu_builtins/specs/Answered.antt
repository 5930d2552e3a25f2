-- What an operation on numbers answers, as the end of a call.
use Rattle.std.specs.Prelude.{ℤ, codes, Result, Ok, Err}
use Rattle.kishu_meaning.specs.values.Classes.{overflow_error_class, zero_division_error_class}
use Rattle.kishu_meaning.specs.values.Kinds.{value_error}
use Rattle.kishu_meaning.specs.moments.Moment.{M, give, raise}
use Rattle.kishu_meaning.specs.values.Values.{Value, integer}
use Rattle.kishu_num.specs.declared.fault.NumFault.{NumFault}
use Rattle.kishu_num.specs.declared.fault.NumFault.TheVariants as faults

abbrev pub answered : Result ℤ NumFault → M Value
answered (Ok z) = give (integer z)
answered (Err faults.Overflow) = raise overflow_error_class (codes "whole number too large")
answered (Err faults.ZeroDivisor) = raise zero_division_error_class (codes "division by zero")
answered (Err faults.NegativePower) = value_error (codes "negative power")

-- The range of whole numbers, and the answers that it gives.
use Rattle.std.proofs.Common.{◌≡◌, ◌^◌, ◌<◌, ◌≤◌, ℤ, pos, negsuc, Bool, true, false, refl, sym, ap, ◌∙◌, arith}
use Rattle.std.specs.Prelude.{Ok, Err, unsigned_abs}
use Rattle.std.specs.Int.RustNames.{FitsSigned}
use Rattle.std.specs.Int.{w128}
use Rattle.std.proofs.lemmas.Bool.Decides.{nat_tests}
use Rattle.kishu_meaning.specs.values.Numbers.{is_whole}
use Rattle.kishu_num.specs.declared.fault.NumFault.{NumFault}
use Rattle.kishu_num.specs.declared.fault.NumFault.TheVariants.{Overflow}
use Rattle.kishu_num.specs.Results.{in_range}

pub whole_fits : (z : ℤ) → FitsSigned w128 z → is_whole z ≡ true
whole_fits (pos n) f = let below : n < 2 ^ 127 = f.sfits in grind (arith, nat_tests)
whole_fits (negsuc n) f = let below : n < 2 ^ 127 = f.sfits in grind (arith, nat_tests)

-- a number that isn't in the range is 2^127 or more apart from its sign
pub outside : (z : ℤ) → is_whole z ≡ false → 2 ^ 127 ≤ unsigned_abs z
outside (pos n) h = grind (arith, nat_tests)
outside (negsuc n) h = grind (arith, nat_tests)

pub too_great : (z : ℤ) → 2 ^ 127 < unsigned_abs z → is_whole z ≡ false
too_great (pos n) h = grind (arith, nat_tests)
too_great (negsuc n) h = grind (arith, nat_tests)

pub ok_in_range : (v z : ℤ) → v ≡ z → FitsSigned w128 v → Ok v ≡ in_range z
ok_in_range v z e f = let whole : is_whole z ≡ true = ap is_whole (sym e) ∙ whole_fits v f in rw (whole, e) refl

ok_step : (z v : ℤ) (b : Bool) → is_whole z ≡ b → in_range z ≡ Ok v → z ≡ v
ok_step z v true e h = let is : Ok z ≡ Ok v = rw e at h in cc
ok_step z v false e h = let is : Err Overflow ≡ Ok v = rw e at h in absurd (cc)

-- an answer is the true result
pub from_ok : (z v : ℤ) → in_range z ≡ Ok v → z ≡ v
from_ok z v h = ok_step z v (is_whole z) refl h

err_step : (z : ℤ) (f : NumFault) (b : Bool) → is_whole z ≡ b → in_range z ≡ Err f → (is_whole z ≡ false) × (f ≡ Overflow)
err_step z f true e h = let is : Ok z ≡ Err f = rw e at h in absurd (cc)
err_step z f false e h = let is : Err Overflow ≡ Err f = rw e at h in (e, cc)

pub from_err : (z : ℤ) (f : NumFault) → in_range z ≡ Err f → (is_whole z ≡ false) × (f ≡ Overflow)
from_err z f h = err_step z f (is_whole z) refl h

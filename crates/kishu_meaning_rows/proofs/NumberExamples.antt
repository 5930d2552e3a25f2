-- Worked numbers, computed on the definitions.
use Rattle.std.proofs.Common.{◌≡◌, ◌-◌, ◌^◌, pos, negsuc, [], ◌∷◌, codes, Some, None, true, false, refl}
use Rattle.kishu_meaning.specs.values.Numbers.{is_whole, floor_quotient, floor_remainder, power, number_read}

greatest : is_whole (pos (2 ^ 127 - 1)) ≡ true
greatest = refl

beyond_greatest : is_whole (pos (2 ^ 127)) ≡ false
beyond_greatest = refl

-- `negsuc n` is -(n + 1)
least : is_whole (negsuc (2 ^ 127 - 1)) ≡ true
least = refl

beyond_least : is_whole (negsuc (2 ^ 127)) ≡ false
beyond_least = refl

-- 7 by 2, -7 by 2, 7 by -2 and -7 by -2
seven_quotients : floor_quotient (pos 7) (pos 2) ∷ floor_quotient (negsuc 6) (pos 2) ∷ floor_quotient (pos 7) (negsuc 1) ∷ floor_quotient (negsuc 6) (negsuc 1) ∷ [] ≡ pos 3 ∷ negsuc 3 ∷ negsuc 3 ∷ pos 3 ∷ []
seven_quotients = refl

seven_remainders : floor_remainder (pos 7) (pos 2) ∷ floor_remainder (negsuc 6) (pos 2) ∷ floor_remainder (pos 7) (negsuc 1) ∷ floor_remainder (negsuc 6) (negsuc 1) ∷ [] ≡ pos 1 ∷ pos 1 ∷ negsuc 0 ∷ negsuc 0 ∷ []
seven_remainders = refl

least_by_minus_one : floor_quotient (negsuc (2 ^ 127 - 1)) (negsuc 0) ≡ pos (2 ^ 127)
least_by_minus_one = refl

nothing_left : floor_remainder (negsuc (2 ^ 127 - 1)) (negsuc 0) ≡ pos 0
nothing_left = refl

powers : power (pos 0) 0 ∷ power (pos 2) 10 ∷ power (negsuc 1) 127 ∷ power (pos 3) 80 ∷ [] ≡ pos 1 ∷ pos 1024 ∷ negsuc (2 ^ 127 - 1) ∷ pos 147808829414345923316083210206383297601 ∷ []
unfolding power
powers = refl

read_numbers : number_read (codes " 42 ") ∷ number_read (codes "\t\n+007") ∷ number_read (codes "-0") ∷ number_read (codes "-7") ∷ [] ≡ Some (pos 42) ∷ Some (pos 7) ∷ Some (pos 0) ∷ Some (negsuc 6) ∷ []
read_numbers = refl

no_numbers : number_read (codes "") ∷ number_read (codes " + ") ∷ number_read (codes "1_0") ∷ number_read (codes "0x1") ∷ number_read (codes "- 1") ∷ number_read (codes "1 2") ∷ [] ≡ None ∷ None ∷ None ∷ None ∷ None ∷ None ∷ []
no_numbers = refl

read_bounds : number_read (codes "170141183460469231731687303715884105727") ∷ number_read (codes "170141183460469231731687303715884105728") ∷ number_read (codes "-170141183460469231731687303715884105728") ∷ number_read (codes "-170141183460469231731687303715884105729") ∷ []
    ≡ Some (pos (2 ^ 127 - 1)) ∷ None ∷ Some (negsuc (2 ^ 127 - 1)) ∷ None ∷ []
read_bounds = refl

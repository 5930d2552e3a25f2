-- The results of operations and their faults, as CPython's numbers tell: computed on the definition. Made by tools/rows/text_rows.py.
use Rattle.std.proofs.Common.{◌≡◌, refl}
use Rattle.std.specs.Prelude.{pos, negsuc, Ok, Err}
use Rattle.kishu_num.specs.declared.fault.NumFault.TheVariants.{Overflow, ZeroDivisor, NegativePower}
use Rattle.kishu_meaning.specs.values.Numbers.{power}
use Rattle.kishu_num.specs.Results.{in_range, divided_by, raised_to}

result_1 : in_range (negsuc 340282366920938463463374607431768211455) ≡ Err Overflow
unfolding power
result_1 = refl

result_2 : in_range (negsuc 170141183460469231731687303715884105727) ≡ Ok (negsuc 170141183460469231731687303715884105727)
unfolding power
result_2 = refl

result_3 : in_range (negsuc 20) ≡ Ok (negsuc 20)
unfolding power
result_3 = refl

result_4 : in_range (negsuc 0) ≡ Ok (negsuc 0)
unfolding power
result_4 = refl

result_5 : in_range (pos 170141183460469231722463931679029329920) ≡ Ok (pos 170141183460469231722463931679029329920)
unfolding power
result_5 = refl

result_6 : in_range (pos 170141183460469231731687303715884105727) ≡ Ok (pos 170141183460469231731687303715884105727)
unfolding power
result_6 = refl

result_7 : in_range (pos 170141183460469231731687303715884105729) ≡ Err Overflow
unfolding power
result_7 = refl

result_8 : in_range (pos 340282366920938463463374607431768211454) ≡ Err Overflow
unfolding power
result_8 = refl

result_9 : divided_by (pos 2) (pos 3) ≡ Ok (pos 3)
unfolding power
result_9 = refl

result_10 : divided_by (negsuc 1) (negsuc 3) ≡ Ok (negsuc 3)
unfolding power
result_10 = refl

result_11 : divided_by (pos 3) (pos 2) ≡ Ok (pos 2)
unfolding power
result_11 = refl

result_12 : divided_by (negsuc 2) (negsuc 1) ≡ Ok (negsuc 1)
unfolding power
result_12 = refl

result_13 : divided_by (pos 5) (pos 0) ≡ Ok (pos 0)
unfolding power
result_13 = refl

result_14 : divided_by (pos 170141183460469231731687303715884105727) (pos 0) ≡ Ok (pos 0)
unfolding power
result_14 = refl

result_15 : divided_by (negsuc 170141183460469231731687303715884105727) (negsuc 0) ≡ Ok (negsuc 0)
unfolding power
result_15 = refl

result_16 : divided_by (pos 170141183460469231731687303715884105727) (pos 1) ≡ Ok (pos 1)
unfolding power
result_16 = refl

result_17 : divided_by (pos 170141183460469231731687303715884105727) (negsuc 1) ≡ Ok (negsuc 1)
unfolding power
result_17 = refl

result_18 : divided_by (pos 1) (negsuc 170141183460469231731687303715884105727) ≡ Ok (negsuc 170141183460469231731687303715884105727)
unfolding power
result_18 = refl

result_19 : divided_by (negsuc 0) (negsuc 170141183460469231731687303715884105726) ≡ Ok (negsuc 170141183460469231731687303715884105726)
unfolding power
result_19 = refl

result_20 : divided_by (pos 2) (negsuc 85070591730234615865843651857942052863) ≡ Ok (negsuc 85070591730234615865843651857942052863)
unfolding power
result_20 = refl

result_21 : divided_by (pos 10) (pos 17014118346046923173168730371588410572) ≡ Ok (pos 17014118346046923173168730371588410572)
unfolding power
result_21 = refl

result_22 : divided_by (pos 0) (pos 0) ≡ Err ZeroDivisor
unfolding power
result_22 = refl

result_23 : divided_by (negsuc 0) (pos 170141183460469231731687303715884105728) ≡ Err Overflow
unfolding power
result_23 = refl

result_24 : divided_by (pos 0) (pos 0) ≡ Err ZeroDivisor
unfolding power
result_24 = refl

result_25 : raised_to (pos 0) (pos 0) ≡ Ok (pos 1)
unfolding power
result_25 = refl

result_26 : raised_to (pos 0) (pos 1) ≡ Ok (pos 0)
unfolding power
result_26 = refl

result_27 : raised_to (pos 0) (pos 5) ≡ Ok (pos 0)
unfolding power
result_27 = refl

result_28 : raised_to (pos 1) (pos 1000) ≡ Ok (pos 1)
unfolding power
result_28 = refl

result_29 : raised_to (negsuc 0) (pos 3) ≡ Ok (negsuc 0)
unfolding power
result_29 = refl

result_30 : raised_to (negsuc 0) (pos 4) ≡ Ok (pos 1)
unfolding power
result_30 = refl

result_31 : raised_to (pos 2) (pos 10) ≡ Ok (pos 1024)
unfolding power
result_31 = refl

result_32 : raised_to (pos 2) (pos 126) ≡ Ok (pos 85070591730234615865843651857942052864)
unfolding power
result_32 = refl

result_33 : raised_to (pos 2) (pos 127) ≡ Err Overflow
unfolding power
result_33 = refl

result_34 : raised_to (negsuc 1) (pos 127) ≡ Ok (negsuc 170141183460469231731687303715884105727)
unfolding power
result_34 = refl

result_35 : raised_to (negsuc 1) (pos 128) ≡ Err Overflow
unfolding power
result_35 = refl

result_36 : raised_to (negsuc 1) (pos 3) ≡ Ok (negsuc 7)
unfolding power
result_36 = refl

result_37 : raised_to (pos 3) (pos 80) ≡ Ok (pos 147808829414345923316083210206383297601)
unfolding power
result_37 = refl

result_38 : raised_to (pos 3) (pos 81) ≡ Err Overflow
unfolding power
result_38 = refl

result_39 : raised_to (pos 170141183460469231731687303715884105727) (pos 1) ≡ Ok (pos 170141183460469231731687303715884105727)
unfolding power
result_39 = refl

result_40 : raised_to (pos 170141183460469231731687303715884105727) (pos 2) ≡ Err Overflow
unfolding power
result_40 = refl

result_41 : raised_to (negsuc 170141183460469231731687303715884105727) (pos 1) ≡ Ok (negsuc 170141183460469231731687303715884105727)
unfolding power
result_41 = refl

result_42 : raised_to (negsuc 170141183460469231731687303715884105727) (pos 0) ≡ Ok (pos 1)
unfolding power
result_42 = refl

result_43 : raised_to (pos 7) (pos 45) ≡ Ok (pos 107006904423598033356356300384937784807)
unfolding power
result_43 = refl

result_44 : raised_to (pos 7) (pos 46) ≡ Err Overflow
unfolding power
result_44 = refl

result_45 : raised_to (negsuc 6) (pos 45) ≡ Ok (negsuc 107006904423598033356356300384937784806)
unfolding power
result_45 = refl

result_46 : raised_to (pos 10) (pos 38) ≡ Ok (pos 100000000000000000000000000000000000000)
unfolding power
result_46 = refl

result_47 : raised_to (pos 10) (pos 39) ≡ Err Overflow
unfolding power
result_47 = refl

result_48 : raised_to (pos 2) (negsuc 0) ≡ Err NegativePower
unfolding power
result_48 = refl

result_49 : raised_to (pos 0) (negsuc 0) ≡ Err NegativePower
unfolding power
result_49 = refl

result_50 : raised_to (pos 1) (negsuc 0) ≡ Err NegativePower
unfolding power
result_50 = refl

result_51 : raised_to (negsuc 0) (negsuc 1) ≡ Err NegativePower
unfolding power
result_51 = refl

result_52 : raised_to (pos 5) (negsuc 170141183460469231731687303715884105727) ≡ Err NegativePower
unfolding power
result_52 = refl

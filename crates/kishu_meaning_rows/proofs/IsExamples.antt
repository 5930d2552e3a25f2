-- Which values are the same, and which ranges are equal and how long, as CPython tells where the languages agree: computed on the definition. Made by tools/rows/state_rows.py.
use Rattle.std.proofs.Common.{◌≡◌, refl, [], true, false}
use Rattle.std.specs.Prelude.{pos, negsuc, codes}
use Rattle.kishu_meaning.specs.values.Values.{none, bool, integer, text, range, builtin, class, node}
use Rattle.kishu_meaning.specs.comparing.Equal.{is_same, is_equal, range_length}

is_1 : is_same none none ≡ true
is_1 = refl

is_2 : is_same (bool true) (bool true) ≡ true
is_2 = refl

is_3 : is_same (bool true) (bool false) ≡ false
is_3 = refl

is_4 : is_same (bool true) (integer (pos 1)) ≡ false
is_4 = refl

is_5 : is_same (integer (pos 1)) (bool true) ≡ false
is_5 = refl

is_6 : is_same (integer (pos 0)) (bool false) ≡ false
is_6 = refl

is_7 : is_same (integer (pos 1)) (integer (pos 1)) ≡ true
is_7 = refl

is_8 : is_same (integer (pos 1)) (integer (pos 2)) ≡ false
is_8 = refl

is_9 : is_same (integer (negsuc 0)) (integer (pos 1)) ≡ false
is_9 = refl

is_10 : is_same (text []) (text []) ≡ true
is_10 = refl

is_11 : is_same (text (codes "a")) (text (codes "a")) ≡ true
is_11 = refl

is_12 : is_same (text (codes "a")) (text (codes "b")) ≡ false
is_12 = refl

is_13 : is_same (text (codes "ab")) (text (codes "a")) ≡ false
is_13 = refl

is_14 : is_same (text (codes "1")) (integer (pos 1)) ≡ false
is_14 = refl

is_15 : is_same none (integer (pos 0)) ≡ false
is_15 = refl

is_16 : is_same none (bool false) ≡ false
is_16 = refl

is_17 : is_same (range (pos 0) (pos 3) (pos 1)) (range (pos 0) (pos 3) (pos 1)) ≡ true
is_17 = refl

is_18 : is_same (range (pos 0) (pos 3) (pos 1)) (range (pos 0) (pos 3) (pos 1)) ≡ true
is_18 = refl

is_19 : is_same (range (pos 0) (pos 3) (pos 2)) (range (pos 0) (pos 4) (pos 2)) ≡ false
is_19 = refl

is_20 : is_same (range (pos 0) (pos 0) (pos 1)) (range (pos 5) (pos 5) (pos 1)) ≡ false
is_20 = refl

is_21 : is_same (range (pos 0) (pos 0) (pos 1)) (range (pos 0) (negsuc 0) (pos 1)) ≡ false
is_21 = refl

is_22 : is_same (range (pos 0) (pos 1) (pos 1)) (range (pos 0) (pos 1) (pos 5)) ≡ false
is_22 = refl

is_23 : is_same (builtin 10) (builtin 10) ≡ true
is_23 = refl

is_24 : is_same (builtin 10) (builtin 6) ≡ false
is_24 = refl

is_25 : is_same (class 3) (class 3) ≡ true
is_25 = refl

is_26 : is_same (class 3) (class 7) ≡ false
is_26 = refl

is_27 : is_same (builtin 10) (class 3) ≡ false
is_27 = refl

is_28 : is_same (node 0) (node 0) ≡ true
is_28 = refl

is_29 : is_same (node 0) (node 1) ≡ false
is_29 = refl

is_30 : is_same (node 0) (integer (pos 1)) ≡ false
is_30 = refl

is_31 : is_same none (node 0) ≡ false
is_31 = refl

is_32 : is_same (node 0) (node 0) ≡ true
is_32 = refl

is_33 : is_same (node 0) (node 1) ≡ false
is_33 = refl

is_34 : is_same (node 0) (node 0) ≡ true
is_34 = refl

is_35 : is_same (node 0) (node 1) ≡ false
is_35 = refl

is_36 : is_same (node 0) (node 1) ≡ false
is_36 = refl

is_37 : is_same (node 0) (node 1) ≡ false
is_37 = refl

is_38 : is_equal (range (pos 0) (pos 3) (pos 1)) (range (pos 0) (pos 3) (pos 1)) ≡ true
is_38 = refl

is_39 : is_equal (range (pos 0) (pos 3) (pos 2)) (range (pos 0) (pos 4) (pos 2)) ≡ true
is_39 = refl

is_40 : is_equal (range (pos 0) (pos 0) (pos 1)) (range (pos 5) (pos 5) (pos 1)) ≡ true
is_40 = refl

is_41 : is_equal (range (pos 0) (pos 1) (pos 1)) (range (pos 0) (pos 1) (pos 5)) ≡ true
is_41 = refl

is_42 : is_equal (range (pos 0) (pos 3) (pos 1)) (range (pos 0) (pos 4) (pos 1)) ≡ false
is_42 = refl

is_43 : is_equal (range (pos 3) (pos 0) (negsuc 0)) (range (pos 1) (pos 4) (pos 1)) ≡ false
is_43 = refl

is_44 : is_equal (range (pos 0) (pos 6) (pos 2)) (range (pos 0) (pos 6) (pos 3)) ≡ false
is_44 = refl

is_45 : is_equal (range (pos 5) (pos 0) (negsuc 1)) (range (pos 5) (negsuc 0) (negsuc 1)) ≡ true
is_45 = refl

is_46 : range_length (pos 0) (pos 0) (pos 1) ≡ 0
is_46 = refl

is_47 : range_length (pos 0) (pos 5) (pos 1) ≡ 5
is_47 = refl

is_48 : range_length (pos 2) (pos 9) (pos 3) ≡ 3
is_48 = refl

is_49 : range_length (pos 9) (pos 2) (negsuc 2) ≡ 3
is_49 = refl

is_50 : range_length (pos 5) (pos 1) (pos 1) ≡ 0
is_50 = refl

is_51 : range_length (pos 1) (pos 5) (negsuc 0) ≡ 0
is_51 = refl

is_52 : range_length (pos 0) (pos 1000000000000000000000000000000) (pos 1) ≡ 1000000000000000000000000000000
is_52 = refl

is_53 : range_length (negsuc 4) (pos 5) (pos 1) ≡ 10
is_53 = refl

is_54 : range_length (pos 0) (pos 10) (pos 3) ≡ 4
is_54 = refl

is_55 : range_length (pos 0) (pos 9) (pos 3) ≡ 3
is_55 = refl

is_56 : range_length (negsuc 170141183460469231731687303715884105727) (pos 170141183460469231731687303715884105727) (pos 1) ≡ 340282366920938463463374607431768211455
is_56 = refl

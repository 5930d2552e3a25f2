-- Places by an index and by a bound, as CPython tells: computed on the definition. Made by tools/rows/state_rows.py.
use Rattle.std.proofs.Common.{◌≡◌, refl, [], ◌∷◌, true, false}
use Rattle.std.specs.Prelude.{pos, negsuc, codes, Some, None}
use Rattle.kishu_meaning.specs.values.Values.{none, bool, integer, text, range, builtin, class}
use Rattle.kishu_meaning_laws.specs.Bare.{bare}
use Rattle.kishu_meaning.specs.moments.Moment.{fresh, fine, raised}
use Rattle.kishu_meaning.specs.items.Indexes.{index_of, place_in, place_of, bound_in}

place_1 : place_in 1 (pos 0) ≡ Some 0
place_1 = refl

place_2 : place_in 1 (pos 1) ≡ None
place_2 = refl

place_3 : place_in 1 (pos 2) ≡ None
place_3 = refl

place_4 : place_in 1 (negsuc 0) ≡ Some 0
place_4 = refl

place_5 : place_in 1 (negsuc 1) ≡ None
place_5 = refl

place_6 : place_in 1 (pos 170141183460469231731687303715884105727) ≡ None
place_6 = refl

place_7 : place_in 1 (negsuc 170141183460469231731687303715884105727) ≡ None
place_7 = refl

place_8 : place_in 2 (pos 0) ≡ Some 0
place_8 = refl

place_9 : place_in 2 (pos 1) ≡ Some 1
place_9 = refl

place_10 : place_in 2 (pos 2) ≡ None
place_10 = refl

place_11 : place_in 2 (pos 3) ≡ None
place_11 = refl

place_12 : place_in 2 (negsuc 0) ≡ Some 1
place_12 = refl

place_13 : place_in 2 (negsuc 1) ≡ Some 0
place_13 = refl

place_14 : place_in 2 (negsuc 2) ≡ None
place_14 = refl

place_15 : place_in 2 (pos 170141183460469231731687303715884105727) ≡ None
place_15 = refl

place_16 : place_in 2 (negsuc 170141183460469231731687303715884105727) ≡ None
place_16 = refl

place_17 : place_in 5 (pos 0) ≡ Some 0
place_17 = refl

place_18 : place_in 5 (pos 1) ≡ Some 1
place_18 = refl

place_19 : place_in 5 (pos 4) ≡ Some 4
place_19 = refl

place_20 : place_in 5 (pos 5) ≡ None
place_20 = refl

place_21 : place_in 5 (pos 6) ≡ None
place_21 = refl

place_22 : place_in 5 (negsuc 0) ≡ Some 4
place_22 = refl

place_23 : place_in 5 (negsuc 4) ≡ Some 0
place_23 = refl

place_24 : place_in 5 (negsuc 5) ≡ None
place_24 = refl

place_25 : place_in 5 (pos 170141183460469231731687303715884105727) ≡ None
place_25 = refl

place_26 : place_in 5 (negsuc 170141183460469231731687303715884105727) ≡ None
place_26 = refl

place_27 : bound_in 1 (pos 0) ≡ 0
place_27 = refl

place_28 : bound_in 1 (pos 1) ≡ 1
place_28 = refl

place_29 : bound_in 1 (pos 2) ≡ 1
place_29 = refl

place_30 : bound_in 1 (negsuc 0) ≡ 0
place_30 = refl

place_31 : bound_in 1 (negsuc 1) ≡ 0
place_31 = refl

place_32 : bound_in 1 (pos 170141183460469231731687303715884105727) ≡ 1
place_32 = refl

place_33 : bound_in 1 (negsuc 170141183460469231731687303715884105727) ≡ 0
place_33 = refl

place_34 : bound_in 4 (pos 0) ≡ 0
place_34 = refl

place_35 : bound_in 4 (pos 1) ≡ 1
place_35 = refl

place_36 : bound_in 4 (pos 4) ≡ 4
place_36 = refl

place_37 : bound_in 4 (pos 5) ≡ 4
place_37 = refl

place_38 : bound_in 4 (negsuc 0) ≡ 3
place_38 = refl

place_39 : bound_in 4 (negsuc 3) ≡ 0
place_39 = refl

place_40 : bound_in 4 (negsuc 4) ≡ 0
place_40 = refl

place_41 : bound_in 4 (pos 170141183460469231731687303715884105727) ≡ 4
place_41 = refl

place_42 : bound_in 4 (negsuc 170141183460469231731687303715884105727) ≡ 0
place_42 = refl

place_43 : index_of (integer (pos 0)) (bare [] 9 0) ≡ fine (pos 0) (bare [] 9 0)
place_43 = refl

place_44 : index_of (integer (negsuc 2)) (bare [] 9 0) ≡ fine (negsuc 2) (bare [] 9 0)
place_44 = refl

place_45 : index_of (bool true) (bare [] 9 0) ≡ fine (pos 1) (bare [] 9 0)
place_45 = refl

place_46 : index_of (bool false) (bare [] 9 0) ≡ fine (pos 0) (bare [] 9 0)
place_46 = refl

place_47 : index_of (integer (pos 170141183460469231731687303715884105727)) (bare [] 9 0) ≡ fine (pos 170141183460469231731687303715884105727) (bare [] 9 0)
place_47 = refl

place_48 : index_of none (bare [] 9 0) ≡ raised (fresh 23 (text (codes "bad index type: 'NoneType'") ∷ [])) (bare [] 9 0)
place_48 = refl

place_49 : index_of (text (codes "1")) (bare [] 9 0) ≡ raised (fresh 23 (text (codes "bad index type: 'str'") ∷ [])) (bare [] 9 0)
place_49 = refl

place_50 : index_of (range (pos 0) (pos 1) (pos 1)) (bare [] 9 0) ≡ raised (fresh 23 (text (codes "bad index type: 'range'") ∷ [])) (bare [] 9 0)
place_50 = refl

place_51 : index_of (builtin 10) (bare [] 9 0) ≡ raised (fresh 23 (text (codes "bad index type: 'builtin'") ∷ [])) (bare [] 9 0)
place_51 = refl

place_52 : index_of (class 2) (bare [] 9 0) ≡ raised (fresh 23 (text (codes "bad index type: 'class'") ∷ [])) (bare [] 9 0)
place_52 = refl

place_53 : place_of 0 (pos 0) (bare [] 9 0) ≡ raised (fresh 15 (text (codes "index out of range") ∷ [])) (bare [] 9 0)
place_53 = refl

place_54 : place_of 3 (pos 2) (bare [] 9 0) ≡ fine 2 (bare [] 9 0)
place_54 = refl

place_55 : place_of 3 (pos 3) (bare [] 9 0) ≡ raised (fresh 15 (text (codes "index out of range") ∷ [])) (bare [] 9 0)
place_55 = refl

place_56 : place_of 3 (negsuc 2) (bare [] 9 0) ≡ fine 0 (bare [] 9 0)
place_56 = refl

place_57 : place_of 3 (negsuc 3) (bare [] 9 0) ≡ raised (fresh 15 (text (codes "index out of range") ∷ [])) (bare [] 9 0)
place_57 = refl

place_58 : place_of 1 (negsuc 0) (bare [] 9 0) ≡ fine 0 (bare [] 9 0)
place_58 = refl

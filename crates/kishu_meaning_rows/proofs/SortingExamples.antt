-- Values in order, as CPython sorts them, and the steps of a sort: computed on the definition. Made by tools/rows/state_rows.py.
use Rattle.std.proofs.Common.{◌≡◌, refl, [], ◌∷◌, true, false}
use Rattle.std.specs.Prelude.{pos, negsuc, codes, Some, None}
use Rattle.kishu_meaning.specs.values.Values.{none, bool, integer, text, range, builtin, class, node}
use Rattle.kishu_meaning.specs.items.Sorting.{in_order, sort_steps}

sorting_1 : in_order [] ≡ Some []
sorting_1 = refl

sorting_2 : in_order ((integer (pos 1)) ∷ []) ≡ Some ((integer (pos 1)) ∷ [])
sorting_2 = refl

sorting_3 : in_order ((integer (pos 2)) ∷ (integer (pos 1)) ∷ []) ≡ Some ((integer (pos 1)) ∷ (integer (pos 2)) ∷ [])
sorting_3 = refl

sorting_4 : in_order ((integer (pos 1)) ∷ (integer (pos 2)) ∷ []) ≡ Some ((integer (pos 1)) ∷ (integer (pos 2)) ∷ [])
sorting_4 = refl

sorting_5 : in_order ((integer (pos 3)) ∷ (integer (pos 1)) ∷ (integer (pos 2)) ∷ []) ≡ Some ((integer (pos 1)) ∷ (integer (pos 2)) ∷ (integer (pos 3)) ∷ [])
sorting_5 = refl

sorting_6 : in_order ((integer (pos 1)) ∷ (integer (pos 1)) ∷ (integer (pos 1)) ∷ []) ≡ Some ((integer (pos 1)) ∷ (integer (pos 1)) ∷ (integer (pos 1)) ∷ [])
sorting_6 = refl

sorting_7 : in_order ((integer (pos 5)) ∷ (integer (pos 4)) ∷ (integer (pos 3)) ∷ (integer (pos 2)) ∷ (integer (pos 1)) ∷ []) ≡ Some ((integer (pos 1)) ∷ (integer (pos 2)) ∷ (integer (pos 3)) ∷ (integer (pos 4)) ∷ (integer (pos 5)) ∷ [])
sorting_7 = refl

sorting_8 : in_order ((integer (pos 0)) ∷ (integer (negsuc 0)) ∷ (integer (pos 1)) ∷ (integer (negsuc 1)) ∷ []) ≡ Some ((integer (negsuc 1)) ∷ (integer (negsuc 0)) ∷ (integer (pos 0)) ∷ (integer (pos 1)) ∷ [])
sorting_8 = refl

sorting_9 : in_order ((bool true) ∷ (integer (pos 0)) ∷ (integer (pos 1)) ∷ (bool false) ∷ []) ≡ Some ((integer (pos 0)) ∷ (bool false) ∷ (bool true) ∷ (integer (pos 1)) ∷ [])
sorting_9 = refl

sorting_10 : in_order ((integer (pos 1)) ∷ (bool true) ∷ []) ≡ Some ((integer (pos 1)) ∷ (bool true) ∷ [])
sorting_10 = refl

sorting_11 : in_order ((bool true) ∷ (integer (pos 1)) ∷ []) ≡ Some ((bool true) ∷ (integer (pos 1)) ∷ [])
sorting_11 = refl

sorting_12 : in_order ((bool false) ∷ (integer (pos 0)) ∷ (bool true) ∷ (integer (pos 1)) ∷ []) ≡ Some ((bool false) ∷ (integer (pos 0)) ∷ (bool true) ∷ (integer (pos 1)) ∷ [])
sorting_12 = refl

sorting_13 : in_order ((integer (pos 170141183460469231731687303715884105727)) ∷ (integer (negsuc 170141183460469231731687303715884105727)) ∷ (integer (pos 0)) ∷ []) ≡ Some ((integer (negsuc 170141183460469231731687303715884105727)) ∷ (integer (pos 0)) ∷ (integer (pos 170141183460469231731687303715884105727)) ∷ [])
sorting_13 = refl

sorting_14 : in_order ((text []) ∷ []) ≡ Some ((text []) ∷ [])
sorting_14 = refl

sorting_15 : in_order ((text (codes "a")) ∷ []) ≡ Some ((text (codes "a")) ∷ [])
sorting_15 = refl

sorting_16 : in_order ((text (codes "b")) ∷ (text (codes "a")) ∷ []) ≡ Some ((text (codes "a")) ∷ (text (codes "b")) ∷ [])
sorting_16 = refl

sorting_17 : in_order ((text (codes "a")) ∷ (text (codes "B")) ∷ (text (codes "_")) ∷ (text (codes "0")) ∷ []) ≡ Some ((text (codes "0")) ∷ (text (codes "B")) ∷ (text (codes "_")) ∷ (text (codes "a")) ∷ [])
sorting_17 = refl

sorting_18 : in_order ((text (codes "ab")) ∷ (text (codes "a")) ∷ (text (codes "abc")) ∷ (text []) ∷ []) ≡ Some ((text []) ∷ (text (codes "a")) ∷ (text (codes "ab")) ∷ (text (codes "abc")) ∷ [])
sorting_18 = refl

sorting_19 : in_order ((text (233 ∷ [])) ∷ (text (codes "e")) ∷ (text (codes "z")) ∷ []) ≡ Some ((text (codes "e")) ∷ (text (codes "z")) ∷ (text (233 ∷ [])) ∷ [])
sorting_19 = refl

sorting_20 : in_order ((text (128512 ∷ [])) ∷ (text (65535 ∷ [])) ∷ (text (codes "a")) ∷ []) ≡ Some ((text (codes "a")) ∷ (text (65535 ∷ [])) ∷ (text (128512 ∷ [])) ∷ [])
sorting_20 = refl

sorting_21 : in_order ((text (codes "aa")) ∷ (text (codes "a")) ∷ (text (codes "aa")) ∷ []) ≡ Some ((text (codes "a")) ∷ (text (codes "aa")) ∷ (text (codes "aa")) ∷ [])
sorting_21 = refl

sorting_22 : in_order ((integer (pos 1)) ∷ (text (codes "a")) ∷ []) ≡ None
sorting_22 = refl

sorting_23 : in_order ((text (codes "a")) ∷ (integer (pos 1)) ∷ []) ≡ None
sorting_23 = refl

sorting_24 : in_order (none ∷ []) ≡ None
sorting_24 = refl

sorting_25 : in_order ((integer (pos 1)) ∷ none ∷ []) ≡ None
sorting_25 = refl

sorting_26 : in_order ((node 0) ∷ []) ≡ None
sorting_26 = refl

sorting_27 : in_order ((node 0) ∷ (node 1) ∷ []) ≡ None
sorting_27 = refl

sorting_28 : in_order ((range (pos 0) (pos 2) (pos 1)) ∷ []) ≡ None
sorting_28 = refl

sorting_29 : in_order ((text (codes "a")) ∷ none ∷ []) ≡ None
sorting_29 = refl

sorting_30 : in_order ((bool true) ∷ (text (codes "a")) ∷ []) ≡ None
sorting_30 = refl

sorting_31 : in_order ((builtin 10) ∷ []) ≡ None
sorting_31 = refl

sorting_32 : in_order ((integer (pos 1)) ∷ (integer (pos 2)) ∷ (text (codes "3")) ∷ []) ≡ None
sorting_32 = refl

sorting_33 : in_order ((class 3) ∷ (integer (pos 1)) ∷ []) ≡ None
sorting_33 = refl

sorting_34 : sort_steps 0 ≡ 0
sorting_34 = refl

sorting_35 : sort_steps 1 ≡ 2
sorting_35 = refl

sorting_36 : sort_steps 2 ≡ 6
sorting_36 = refl

sorting_37 : sort_steps 3 ≡ 9
sorting_37 = refl

sorting_38 : sort_steps 4 ≡ 16
sorting_38 = refl

sorting_39 : sort_steps 5 ≡ 20
sorting_39 = refl

sorting_40 : sort_steps 15 ≡ 75
sorting_40 = refl

sorting_41 : sort_steps 16 ≡ 96
sorting_41 = refl

sorting_42 : sort_steps 17 ≡ 102
sorting_42 = refl

sorting_43 : sort_steps 100 ≡ 800
sorting_43 = refl

sorting_44 : sort_steps 255 ≡ 2295
sorting_44 = refl

sorting_45 : sort_steps 256 ≡ 2560
sorting_45 = refl

sorting_46 : sort_steps 1000 ≡ 11000
sorting_46 = refl

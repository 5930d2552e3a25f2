-- Slices, as CPython tells where the languages agree, with the steps that are left: computed on the definition. Made by tools/rows/state_rows.py.
use Rattle.std.proofs.Common.{◌≡◌, refl, [], ◌∷◌, true, false}
use Rattle.std.specs.Prelude.{pos, negsuc, codes}
use Rattle.kishu_meaning.specs.values.Values.{none, bool, integer, text, range, builtin, class, node, list, tuple, dict, object, exception}
use Rattle.kishu_meaning_laws.specs.Bare.{bare}
use Rattle.kishu_meaning.specs.moments.Moment.{fresh, fine, raised, stopped}
use Rattle.kishu_meaning.specs.values.BuiltinNames.{class_names}
use Rattle.kishu_meaning.specs.items.Subscripts.{slice}

slice_1 : slice (text (codes "abc")) none none none (bare [] 100 0) ≡ fine (text (codes "abc")) (bare [] 97 0)
unfolding class_names
slice_1 = refl

slice_2 : slice (text (codes "abc")) (integer (pos 1)) none none (bare [] 100 0) ≡ fine (text (codes "bc")) (bare [] 98 0)
unfolding class_names
slice_2 = refl

slice_3 : slice (text (codes "abc")) none (integer (pos 2)) none (bare [] 100 0) ≡ fine (text (codes "ab")) (bare [] 98 0)
unfolding class_names
slice_3 = refl

slice_4 : slice (text (codes "abc")) (integer (negsuc 0)) none none (bare [] 100 0) ≡ fine (text (codes "c")) (bare [] 99 0)
unfolding class_names
slice_4 = refl

slice_5 : slice (text (codes "abc")) none (integer (negsuc 0)) none (bare [] 100 0) ≡ fine (text (codes "ab")) (bare [] 98 0)
unfolding class_names
slice_5 = refl

slice_6 : slice (text (codes "abc")) (integer (pos 5)) none none (bare [] 100 0) ≡ fine (text []) (bare [] 100 0)
unfolding class_names
slice_6 = refl

slice_7 : slice (text (codes "abc")) (integer (negsuc 8)) (integer (pos 9)) none (bare [] 100 0) ≡ fine (text (codes "abc")) (bare [] 97 0)
unfolding class_names
slice_7 = refl

slice_8 : slice (text (codes "abc")) (integer (pos 2)) (integer (pos 1)) none (bare [] 100 0) ≡ fine (text []) (bare [] 100 0)
unfolding class_names
slice_8 = refl

slice_9 : slice (text (codes "abc")) none none (integer (negsuc 0)) (bare [] 100 0) ≡ fine (text (codes "cba")) (bare [] 97 0)
unfolding class_names
slice_9 = refl

slice_10 : slice (text (codes "abc")) none none (integer (pos 2)) (bare [] 100 0) ≡ fine (text (codes "ac")) (bare [] 98 0)
unfolding class_names
slice_10 = refl

slice_11 : slice (text (codes "abcdef")) (integer (pos 1)) (integer (pos 5)) (integer (pos 2)) (bare [] 100 0) ≡ fine (text (codes "bd")) (bare [] 98 0)
unfolding class_names
slice_11 = refl

slice_12 : slice (text (codes "abcdef")) (integer (pos 5)) (integer (pos 1)) (integer (negsuc 1)) (bare [] 100 0) ≡ fine (text (codes "fd")) (bare [] 98 0)
unfolding class_names
slice_12 = refl

slice_13 : slice (text (codes "abcdef")) none (integer (pos 1)) (integer (negsuc 0)) (bare [] 100 0) ≡ fine (text (codes "fedc")) (bare [] 96 0)
unfolding class_names
slice_13 = refl

slice_14 : slice (text (codes "abcdef")) (integer (pos 3)) none (integer (negsuc 0)) (bare [] 100 0) ≡ fine (text (codes "dcba")) (bare [] 96 0)
unfolding class_names
slice_14 = refl

slice_15 : slice (text (codes "abc")) (bool true) none none (bare [] 100 0) ≡ fine (text (codes "bc")) (bare [] 98 0)
unfolding class_names
slice_15 = refl

slice_16 : slice (text (codes "abc")) (bool false) (bool true) (bool true) (bare [] 100 0) ≡ fine (text (codes "a")) (bare [] 99 0)
unfolding class_names
slice_16 = refl

slice_17 : slice (text []) none none (integer (negsuc 0)) (bare [] 100 0) ≡ fine (text []) (bare [] 100 0)
unfolding class_names
slice_17 = refl

slice_18 : slice (node 0) (integer (pos 1)) none none (bare ((list ((integer (pos 1)) ∷ (integer (pos 2)) ∷ (integer (pos 3)) ∷ [])) ∷ []) 100 0) ≡ fine (node 1) (bare ((list ((integer (pos 1)) ∷ (integer (pos 2)) ∷ (integer (pos 3)) ∷ [])) ∷ (list ((integer (pos 2)) ∷ (integer (pos 3)) ∷ [])) ∷ []) 98 0)
unfolding class_names
slice_18 = refl

slice_19 : slice (node 0) none none (integer (negsuc 0)) (bare ((tuple ((integer (pos 1)) ∷ (integer (pos 2)) ∷ (integer (pos 3)) ∷ [])) ∷ []) 100 0) ≡ fine (node 1) (bare ((tuple ((integer (pos 1)) ∷ (integer (pos 2)) ∷ (integer (pos 3)) ∷ [])) ∷ (tuple ((integer (pos 3)) ∷ (integer (pos 2)) ∷ (integer (pos 1)) ∷ [])) ∷ []) 97 0)
unfolding class_names
slice_19 = refl

slice_20 : slice (node 0) none none none (bare ((list []) ∷ []) 100 0) ≡ fine (node 1) (bare ((list []) ∷ (list []) ∷ []) 100 0)
unfolding class_names
slice_20 = refl

slice_21 : slice (node 0) (integer (pos 1)) (integer (pos 2)) (integer (pos 3)) (bare ((tuple []) ∷ []) 100 0) ≡ fine (node 1) (bare ((tuple []) ∷ (tuple []) ∷ []) 100 0)
unfolding class_names
slice_21 = refl

slice_22 : slice (text (codes "abc")) none none (integer (pos 85070591730234615865843651857942052864)) (bare [] 100 0) ≡ fine (text (codes "a")) (bare [] 99 0)
unfolding class_names
slice_22 = refl

slice_23 : slice (text (codes "abc")) (integer (negsuc 170141183460469231731687303715884105727)) (integer (pos 170141183460469231731687303715884105727)) none (bare [] 100 0) ≡ fine (text (codes "abc")) (bare [] 97 0)
unfolding class_names
slice_23 = refl

slice_24 : slice (text (codes "abc")) (integer (pos 170141183460469231731687303715884105727)) (integer (negsuc 170141183460469231731687303715884105727)) (integer (negsuc 170141183460469231731687303715884105727)) (bare [] 100 0) ≡ fine (text (codes "c")) (bare [] 99 0)
unfolding class_names
slice_24 = refl

slice_25 : slice (text (codes "abc")) (text (codes "a")) none none (bare [] 100 0) ≡ raised (fresh 23 ((text (codes "bad index type: 'str'")) ∷ [])) (bare [] 100 0)
unfolding class_names
slice_25 = refl

slice_26 : slice (text (codes "abc")) none (text (codes "a")) none (bare [] 100 0) ≡ raised (fresh 23 ((text (codes "bad index type: 'str'")) ∷ [])) (bare [] 100 0)
unfolding class_names
slice_26 = refl

slice_27 : slice (text (codes "abc")) none none (text (codes "a")) (bare [] 100 0) ≡ raised (fresh 23 ((text (codes "bad index type: 'str'")) ∷ [])) (bare [] 100 0)
unfolding class_names
slice_27 = refl

slice_28 : slice (text (codes "abc")) none none (integer (pos 0)) (bare [] 100 0) ≡ raised (fresh 24 ((text (codes "step is zero")) ∷ [])) (bare [] 100 0)
unfolding class_names
slice_28 = refl

slice_29 : slice (text (codes "abc")) none none (bool false) (bare [] 100 0) ≡ raised (fresh 24 ((text (codes "step is zero")) ∷ [])) (bare [] 100 0)
unfolding class_names
slice_29 = refl

slice_30 : slice (node 0) (text (codes "a")) (node 1) none (bare ((list ((integer (pos 1)) ∷ [])) ∷ (list []) ∷ []) 100 0) ≡ raised (fresh 23 ((text (codes "bad index type: 'str'")) ∷ [])) (bare ((list ((integer (pos 1)) ∷ [])) ∷ (list []) ∷ []) 100 0)
unfolding class_names
slice_30 = refl

slice_31 : slice (node 0) (node 1) (text (codes "a")) none (bare ((list ((integer (pos 1)) ∷ [])) ∷ (list []) ∷ []) 100 0) ≡ raised (fresh 23 ((text (codes "bad index type: 'list'")) ∷ [])) (bare ((list ((integer (pos 1)) ∷ [])) ∷ (list []) ∷ []) 100 0)
unfolding class_names
slice_31 = refl

slice_32 : slice (node 0) none none (node 1) (bare ((list ((integer (pos 1)) ∷ [])) ∷ (dict []) ∷ []) 100 0) ≡ raised (fresh 23 ((text (codes "bad index type: 'dict'")) ∷ [])) (bare ((list ((integer (pos 1)) ∷ [])) ∷ (dict []) ∷ []) 100 0)
unfolding class_names
slice_32 = refl

slice_33 : slice (node 0) (range (pos 0) (pos 2) (pos 1)) (integer (pos 1)) (integer (pos 1)) (bare ((tuple ((integer (pos 1)) ∷ [])) ∷ []) 100 0) ≡ raised (fresh 23 ((text (codes "bad index type: 'range'")) ∷ [])) (bare ((tuple ((integer (pos 1)) ∷ [])) ∷ []) 100 0)
unfolding class_names
slice_33 = refl

slice_34 : slice (text (codes "abc")) (integer (pos 1)) (integer (pos 2)) (node 0) (bare ((tuple []) ∷ []) 100 0) ≡ raised (fresh 23 ((text (codes "bad index type: 'tuple'")) ∷ [])) (bare ((tuple []) ∷ []) 100 0)
unfolding class_names
slice_34 = refl

slice_35 : slice (text (codes "abc")) (integer (pos 1)) (class 3) (integer (pos 1)) (bare [] 100 0) ≡ raised (fresh 23 ((text (codes "bad index type: 'class'")) ∷ [])) (bare [] 100 0)
unfolding class_names
slice_35 = refl

slice_36 : slice none none none none (bare [] 100 0) ≡ raised (fresh 23 ((text (codes "'NoneType' object is not subscriptable")) ∷ [])) (bare [] 100 0)
unfolding class_names
slice_36 = refl

slice_37 : slice (bool true) none none none (bare [] 100 0) ≡ raised (fresh 23 ((text (codes "'bool' object is not subscriptable")) ∷ [])) (bare [] 100 0)
unfolding class_names
slice_37 = refl

slice_38 : slice (integer (pos 7)) none none none (bare [] 100 0) ≡ raised (fresh 23 ((text (codes "'int' object is not subscriptable")) ∷ [])) (bare [] 100 0)
unfolding class_names
slice_38 = refl

slice_39 : slice (range (pos 0) (pos 3) (pos 1)) none none none (bare [] 100 0) ≡ raised (fresh 23 ((text (codes "'range' object is not subscriptable")) ∷ [])) (bare [] 100 0)
unfolding class_names
slice_39 = refl

slice_40 : slice (builtin 10) none none none (bare [] 100 0) ≡ raised (fresh 23 ((text (codes "'builtin' object is not subscriptable")) ∷ [])) (bare [] 100 0)
unfolding class_names
slice_40 = refl

slice_41 : slice (class 3) none none none (bare [] 100 0) ≡ raised (fresh 23 ((text (codes "'class' object is not subscriptable")) ∷ [])) (bare [] 100 0)
unfolding class_names
slice_41 = refl

slice_42 : slice (node 0) none none none (bare ((dict []) ∷ []) 100 0) ≡ raised (fresh 23 ((text (codes "'dict' object is not subscriptable")) ∷ [])) (bare ((dict []) ∷ []) 100 0)
unfolding class_names
slice_42 = refl

slice_43 : slice (node 0) none none none (bare ((object []) ∷ []) 100 0) ≡ raised (fresh 23 ((text (codes "'SimpleNamespace' object is not subscriptable")) ∷ [])) (bare ((object []) ∷ []) 100 0)
unfolding class_names
slice_43 = refl

slice_44 : slice (node 0) none none none (bare ((exception 24 []) ∷ []) 100 0) ≡ raised (fresh 23 ((text (codes "'ValueError' object is not subscriptable")) ∷ [])) (bare ((exception 24 []) ∷ []) 100 0)
unfolding class_names
slice_44 = refl

slice_45 : slice none (text (codes "a")) (text (codes "b")) (integer (pos 0)) (bare [] 100 0) ≡ raised (fresh 23 ((text (codes "'NoneType' object is not subscriptable")) ∷ [])) (bare [] 100 0)
unfolding class_names
slice_45 = refl

slice_46 : slice (text (codes "abcd")) (integer (pos 1)) none none (bare [] 2 0) ≡ stopped (bare [] 0 0)
unfolding class_names
slice_46 = refl

slice_47 : slice (text (codes "abcd")) (integer (pos 1)) none none (bare [] 3 0) ≡ fine (text (codes "bcd")) (bare [] 0 0)
unfolding class_names
slice_47 = refl

slice_48 : slice (node 0) none none none (bare ((list ((integer (pos 1)) ∷ (integer (pos 2)) ∷ [])) ∷ []) 1 0) ≡ stopped (bare ((list ((integer (pos 1)) ∷ (integer (pos 2)) ∷ [])) ∷ []) 0 0)
unfolding class_names
slice_48 = refl

slice_49 : slice (node 0) none none none (bare ((list ((integer (pos 1)) ∷ (integer (pos 2)) ∷ [])) ∷ []) 2 0) ≡ fine (node 1) (bare ((list ((integer (pos 1)) ∷ (integer (pos 2)) ∷ [])) ∷ (list ((integer (pos 1)) ∷ (integer (pos 2)) ∷ [])) ∷ []) 0 0)
unfolding class_names
slice_49 = refl

slice_50 : slice (text (codes "abc")) (text (codes "a")) none none (bare [] 0 0) ≡ raised (fresh 23 ((text (codes "bad index type: 'str'")) ∷ [])) (bare [] 0 0)
unfolding class_names
slice_50 = refl

-- How many items some values have, which, and what they are as keys and in order, as CPython tells where the languages agree: computed on the definition. Made by tools/rows/values.py.
use Rattle.std.proofs.Common.{◌≡◌, refl, [], ◌∷◌, true, false}
use Rattle.std.specs.Prelude.{pos, negsuc, codes, Some, None}
use Rattle.kishu_meaning.specs.values.Keys as p
use Rattle.kishu_meaning.specs.values.Values.{none, bool, integer, text, range, builtin, class, node, list, tuple, dict, object, exception}
use Rattle.kishu_meaning.specs.moments.Moment.{fresh, fine, raised, stopped}
use Rattle.kishu_meaning.specs.values.BuiltinNames.{class_names}
use Rattle.kishu_meaning.specs.items.Indexes.{place_in, bound_in}
use Rattle.kishu_meaning.specs.items.KeyOf.{key_of_value}
use Rattle.kishu_meaning.specs.items.Sequences.{count_of, items_of, walked}
use Rattle.kishu_meaning.specs.items.Sorting.{in_order, sort_steps}
use Rattle.kishu_meaning_laws.specs.Bare.{bare}

sequence_1 : count_of (node 0) (bare ((tuple []) ∷ []) 100 0) ≡ fine 0 (bare ((tuple []) ∷ []) 100 0)
unfolding class_names
sequence_1 = refl

sequence_2 : count_of (text []) (bare [] 100 0) ≡ fine 0 (bare [] 100 0)
unfolding class_names
sequence_2 = refl

sequence_3 : count_of (text (codes "ab")) (bare [] 100 0) ≡ fine 2 (bare [] 100 0)
unfolding class_names
sequence_3 = refl

sequence_4 : count_of (text (233 ∷ 128512 ∷ [])) (bare [] 100 0) ≡ fine 2 (bare [] 100 0)
unfolding class_names
sequence_4 = refl

sequence_5 : count_of (range (pos 0) (pos 0) (pos 1)) (bare [] 100 0) ≡ fine 0 (bare [] 100 0)
unfolding class_names
sequence_5 = refl

sequence_6 : count_of (range (pos 0) (pos 4) (pos 1)) (bare [] 100 0) ≡ fine 4 (bare [] 100 0)
unfolding class_names
sequence_6 = refl

sequence_7 : count_of (range (pos 5) (negsuc 1) (negsuc 2)) (bare [] 100 0) ≡ fine 3 (bare [] 100 0)
unfolding class_names
sequence_7 = refl

sequence_8 : count_of (node 0) (bare ((list []) ∷ []) 100 0) ≡ fine 0 (bare ((list []) ∷ []) 100 0)
unfolding class_names
sequence_8 = refl

sequence_9 : count_of (node 0) (bare ((list ((integer (pos 1)) ∷ (text (codes "a")) ∷ none ∷ [])) ∷ []) 100 0) ≡ fine 3 (bare ((list ((integer (pos 1)) ∷ (text (codes "a")) ∷ none ∷ [])) ∷ []) 100 0)
unfolding class_names
sequence_9 = refl

sequence_10 : count_of (node 0) (bare ((tuple ((integer (pos 1)) ∷ (node 1) ∷ [])) ∷ (list ((integer (pos 2)) ∷ [])) ∷ []) 100 0) ≡ fine 2 (bare ((tuple ((integer (pos 1)) ∷ (node 1) ∷ [])) ∷ (list ((integer (pos 2)) ∷ [])) ∷ []) 100 0)
unfolding class_names
sequence_10 = refl

sequence_11 : count_of (node 0) (bare ((dict []) ∷ []) 100 0) ≡ fine 0 (bare ((dict []) ∷ []) 100 0)
unfolding class_names
sequence_11 = refl

sequence_12 : count_of (node 0) (bare ((dict (((p.single (p.integer (pos 1))), (integer (pos 2))) ∷ ((p.single (p.text (codes "a"))), (node 1)) ∷ [])) ∷ (list ((integer (pos 3)) ∷ [])) ∷ []) 100 0) ≡ fine 2 (bare ((dict (((p.single (p.integer (pos 1))), (integer (pos 2))) ∷ ((p.single (p.text (codes "a"))), (node 1)) ∷ [])) ∷ (list ((integer (pos 3)) ∷ [])) ∷ []) 100 0)
unfolding class_names
sequence_12 = refl

sequence_13 : count_of (node 0) (bare ((dict (((p.tuple ((p.integer (pos 1)) ∷ (p.integer (pos 2)) ∷ [])), (integer (pos 0))) ∷ ((p.single p.none), (integer (pos 1))) ∷ ((p.tuple []), (integer (pos 2))) ∷ ((p.tuple ((p.bool true) ∷ [])), (integer (pos 3))) ∷ [])) ∷ []) 100 0) ≡ fine 4 (bare ((dict (((p.tuple ((p.integer (pos 1)) ∷ (p.integer (pos 2)) ∷ [])), (integer (pos 0))) ∷ ((p.single p.none), (integer (pos 1))) ∷ ((p.tuple []), (integer (pos 2))) ∷ ((p.tuple ((p.bool true) ∷ [])), (integer (pos 3))) ∷ [])) ∷ []) 100 0)
unfolding class_names
sequence_13 = refl

sequence_14 : count_of none (bare [] 100 0) ≡ raised (fresh 23 ((text (codes "'NoneType' object is not iterable")) ∷ [])) (bare [] 100 0)
unfolding class_names
sequence_14 = refl

sequence_15 : count_of (bool true) (bare [] 100 0) ≡ raised (fresh 23 ((text (codes "'bool' object is not iterable")) ∷ [])) (bare [] 100 0)
unfolding class_names
sequence_15 = refl

sequence_16 : count_of (integer (pos 5)) (bare [] 100 0) ≡ raised (fresh 23 ((text (codes "'int' object is not iterable")) ∷ [])) (bare [] 100 0)
unfolding class_names
sequence_16 = refl

sequence_17 : count_of (builtin 10) (bare [] 100 0) ≡ raised (fresh 23 ((text (codes "'builtin' object is not iterable")) ∷ [])) (bare [] 100 0)
unfolding class_names
sequence_17 = refl

sequence_18 : count_of (class 3) (bare [] 100 0) ≡ raised (fresh 23 ((text (codes "'class' object is not iterable")) ∷ [])) (bare [] 100 0)
unfolding class_names
sequence_18 = refl

sequence_19 : count_of (node 0) (bare ((object (((codes "a"), (integer (pos 1))) ∷ [])) ∷ []) 100 0) ≡ raised (fresh 23 ((text (codes "'SimpleNamespace' object is not iterable")) ∷ [])) (bare ((object (((codes "a"), (integer (pos 1))) ∷ [])) ∷ []) 100 0)
unfolding class_names
sequence_19 = refl

sequence_20 : count_of (node 0) (bare ((exception 24 ((text (codes "x")) ∷ [])) ∷ []) 100 0) ≡ raised (fresh 23 ((text (codes "'ValueError' object is not iterable")) ∷ [])) (bare ((exception 24 ((text (codes "x")) ∷ [])) ∷ []) 100 0)
unfolding class_names
sequence_20 = refl

sequence_21 : count_of (range (pos 0) (pos 1000000000000000000000000000000) (pos 1)) (bare [] 100 0) ≡ fine 1000000000000000000000000000000 (bare [] 100 0)
unfolding class_names
sequence_21 = refl

sequence_22 : items_of (node 0) (bare ((tuple []) ∷ []) 100 0) ≡ fine [] (bare ((tuple []) ∷ []) 100 0)
unfolding class_names
sequence_22 = refl

sequence_23 : items_of (text []) (bare [] 100 0) ≡ fine [] (bare [] 100 0)
unfolding class_names
sequence_23 = refl

sequence_24 : items_of (text (codes "ab")) (bare [] 100 0) ≡ fine ((text (codes "a")) ∷ (text (codes "b")) ∷ []) (bare [] 100 0)
unfolding class_names
sequence_24 = refl

sequence_25 : items_of (text (233 ∷ 128512 ∷ [])) (bare [] 100 0) ≡ fine ((text (233 ∷ [])) ∷ (text (128512 ∷ [])) ∷ []) (bare [] 100 0)
unfolding class_names
sequence_25 = refl

sequence_26 : items_of (range (pos 0) (pos 0) (pos 1)) (bare [] 100 0) ≡ fine [] (bare [] 100 0)
unfolding class_names
sequence_26 = refl

sequence_27 : items_of (range (pos 0) (pos 4) (pos 1)) (bare [] 100 0) ≡ fine ((integer (pos 0)) ∷ (integer (pos 1)) ∷ (integer (pos 2)) ∷ (integer (pos 3)) ∷ []) (bare [] 100 0)
unfolding class_names
sequence_27 = refl

sequence_28 : items_of (range (pos 5) (negsuc 1) (negsuc 2)) (bare [] 100 0) ≡ fine ((integer (pos 5)) ∷ (integer (pos 2)) ∷ (integer (negsuc 0)) ∷ []) (bare [] 100 0)
unfolding class_names
sequence_28 = refl

sequence_29 : items_of (node 0) (bare ((list []) ∷ []) 100 0) ≡ fine [] (bare ((list []) ∷ []) 100 0)
unfolding class_names
sequence_29 = refl

sequence_30 : items_of (node 0) (bare ((list ((integer (pos 1)) ∷ (text (codes "a")) ∷ none ∷ [])) ∷ []) 100 0) ≡ fine ((integer (pos 1)) ∷ (text (codes "a")) ∷ none ∷ []) (bare ((list ((integer (pos 1)) ∷ (text (codes "a")) ∷ none ∷ [])) ∷ []) 100 0)
unfolding class_names
sequence_30 = refl

sequence_31 : items_of (node 0) (bare ((tuple ((integer (pos 1)) ∷ (node 1) ∷ [])) ∷ (list ((integer (pos 2)) ∷ [])) ∷ []) 100 0) ≡ fine ((integer (pos 1)) ∷ (node 1) ∷ []) (bare ((tuple ((integer (pos 1)) ∷ (node 1) ∷ [])) ∷ (list ((integer (pos 2)) ∷ [])) ∷ []) 100 0)
unfolding class_names
sequence_31 = refl

sequence_32 : items_of (node 0) (bare ((dict []) ∷ []) 100 0) ≡ fine [] (bare ((dict []) ∷ []) 100 0)
unfolding class_names
sequence_32 = refl

sequence_33 : items_of (node 0) (bare ((dict (((p.single (p.integer (pos 1))), (integer (pos 2))) ∷ ((p.single (p.text (codes "a"))), (node 1)) ∷ [])) ∷ (list ((integer (pos 3)) ∷ [])) ∷ []) 100 0) ≡ fine ((integer (pos 1)) ∷ (text (codes "a")) ∷ []) (bare ((dict (((p.single (p.integer (pos 1))), (integer (pos 2))) ∷ ((p.single (p.text (codes "a"))), (node 1)) ∷ [])) ∷ (list ((integer (pos 3)) ∷ [])) ∷ []) 100 0)
unfolding class_names
sequence_33 = refl

sequence_34 : items_of (node 0) (bare ((dict (((p.tuple ((p.integer (pos 1)) ∷ (p.integer (pos 2)) ∷ [])), (integer (pos 0))) ∷ ((p.single p.none), (integer (pos 1))) ∷ ((p.tuple []), (integer (pos 2))) ∷ ((p.tuple ((p.bool true) ∷ [])), (integer (pos 3))) ∷ [])) ∷ []) 100 0) ≡ fine ((node 1) ∷ none ∷ (node 2) ∷ (node 3) ∷ []) (bare ((dict (((p.tuple ((p.integer (pos 1)) ∷ (p.integer (pos 2)) ∷ [])), (integer (pos 0))) ∷ ((p.single p.none), (integer (pos 1))) ∷ ((p.tuple []), (integer (pos 2))) ∷ ((p.tuple ((p.bool true) ∷ [])), (integer (pos 3))) ∷ [])) ∷ (tuple ((integer (pos 1)) ∷ (integer (pos 2)) ∷ [])) ∷ (tuple []) ∷ (tuple ((bool true) ∷ [])) ∷ []) 97 0)
unfolding class_names
sequence_34 = refl

sequence_35 : items_of none (bare [] 100 0) ≡ raised (fresh 23 ((text (codes "'NoneType' object is not iterable")) ∷ [])) (bare [] 100 0)
unfolding class_names
sequence_35 = refl

sequence_36 : items_of (bool true) (bare [] 100 0) ≡ raised (fresh 23 ((text (codes "'bool' object is not iterable")) ∷ [])) (bare [] 100 0)
unfolding class_names
sequence_36 = refl

sequence_37 : items_of (integer (pos 5)) (bare [] 100 0) ≡ raised (fresh 23 ((text (codes "'int' object is not iterable")) ∷ [])) (bare [] 100 0)
unfolding class_names
sequence_37 = refl

sequence_38 : items_of (builtin 10) (bare [] 100 0) ≡ raised (fresh 23 ((text (codes "'builtin' object is not iterable")) ∷ [])) (bare [] 100 0)
unfolding class_names
sequence_38 = refl

sequence_39 : items_of (class 3) (bare [] 100 0) ≡ raised (fresh 23 ((text (codes "'class' object is not iterable")) ∷ [])) (bare [] 100 0)
unfolding class_names
sequence_39 = refl

sequence_40 : items_of (node 0) (bare ((object (((codes "a"), (integer (pos 1))) ∷ [])) ∷ []) 100 0) ≡ raised (fresh 23 ((text (codes "'SimpleNamespace' object is not iterable")) ∷ [])) (bare ((object (((codes "a"), (integer (pos 1))) ∷ [])) ∷ []) 100 0)
unfolding class_names
sequence_40 = refl

sequence_41 : items_of (node 0) (bare ((exception 24 ((text (codes "x")) ∷ [])) ∷ []) 100 0) ≡ raised (fresh 23 ((text (codes "'ValueError' object is not iterable")) ∷ [])) (bare ((exception 24 ((text (codes "x")) ∷ [])) ∷ []) 100 0)
unfolding class_names
sequence_41 = refl

sequence_42 : items_of (node 0) (bare ((dict (((p.tuple ((p.integer (pos 1)) ∷ (p.integer (pos 2)) ∷ [])), (integer (pos 0))) ∷ ((p.tuple ((p.integer (pos 3)) ∷ (p.integer (pos 4)) ∷ [])), (integer (pos 1))) ∷ [])) ∷ []) 3 0) ≡ stopped (bare ((dict (((p.tuple ((p.integer (pos 1)) ∷ (p.integer (pos 2)) ∷ [])), (integer (pos 0))) ∷ ((p.tuple ((p.integer (pos 3)) ∷ (p.integer (pos 4)) ∷ [])), (integer (pos 1))) ∷ [])) ∷ (tuple ((integer (pos 1)) ∷ (integer (pos 2)) ∷ [])) ∷ []) 0 0)
unfolding class_names
sequence_42 = refl

sequence_43 : items_of (node 0) (bare ((dict (((p.tuple ((p.integer (pos 1)) ∷ (p.integer (pos 2)) ∷ [])), (integer (pos 0))) ∷ ((p.tuple ((p.integer (pos 3)) ∷ (p.integer (pos 4)) ∷ [])), (integer (pos 1))) ∷ [])) ∷ []) 4 0) ≡ fine ((node 1) ∷ (node 2) ∷ []) (bare ((dict (((p.tuple ((p.integer (pos 1)) ∷ (p.integer (pos 2)) ∷ [])), (integer (pos 0))) ∷ ((p.tuple ((p.integer (pos 3)) ∷ (p.integer (pos 4)) ∷ [])), (integer (pos 1))) ∷ [])) ∷ (tuple ((integer (pos 1)) ∷ (integer (pos 2)) ∷ [])) ∷ (tuple ((integer (pos 3)) ∷ (integer (pos 4)) ∷ [])) ∷ []) 0 0)
unfolding class_names
sequence_43 = refl

sequence_44 : walked (text (codes "ab")) (bare [] 100 0) ≡ fine ((text (codes "a")) ∷ (text (codes "b")) ∷ []) (bare [] 98 0)
unfolding class_names
sequence_44 = refl

sequence_45 : walked (text (233 ∷ 128512 ∷ [])) (bare [] 100 0) ≡ fine ((text (233 ∷ [])) ∷ (text (128512 ∷ [])) ∷ []) (bare [] 98 0)
unfolding class_names
sequence_45 = refl

sequence_46 : walked (range (pos 0) (pos 0) (pos 1)) (bare [] 100 0) ≡ fine [] (bare [] 100 0)
unfolding class_names
sequence_46 = refl

sequence_47 : walked (range (pos 0) (pos 4) (pos 1)) (bare [] 100 0) ≡ fine ((integer (pos 0)) ∷ (integer (pos 1)) ∷ (integer (pos 2)) ∷ (integer (pos 3)) ∷ []) (bare [] 96 0)
unfolding class_names
sequence_47 = refl

sequence_48 : walked (range (pos 5) (negsuc 1) (negsuc 2)) (bare [] 100 0) ≡ fine ((integer (pos 5)) ∷ (integer (pos 2)) ∷ (integer (negsuc 0)) ∷ []) (bare [] 97 0)
unfolding class_names
sequence_48 = refl

sequence_49 : walked (node 0) (bare ((list []) ∷ []) 100 0) ≡ fine [] (bare ((list []) ∷ []) 100 0)
unfolding class_names
sequence_49 = refl

sequence_50 : walked (node 0) (bare ((list ((integer (pos 1)) ∷ (text (codes "a")) ∷ none ∷ [])) ∷ []) 100 0) ≡ fine ((integer (pos 1)) ∷ (text (codes "a")) ∷ none ∷ []) (bare ((list ((integer (pos 1)) ∷ (text (codes "a")) ∷ none ∷ [])) ∷ []) 97 0)
unfolding class_names
sequence_50 = refl

sequence_51 : walked (node 0) (bare ((tuple ((integer (pos 1)) ∷ (node 1) ∷ [])) ∷ (list ((integer (pos 2)) ∷ [])) ∷ []) 100 0) ≡ fine ((integer (pos 1)) ∷ (node 1) ∷ []) (bare ((tuple ((integer (pos 1)) ∷ (node 1) ∷ [])) ∷ (list ((integer (pos 2)) ∷ [])) ∷ []) 98 0)
unfolding class_names
sequence_51 = refl

sequence_52 : walked (node 0) (bare ((dict []) ∷ []) 100 0) ≡ fine [] (bare ((dict []) ∷ []) 100 0)
unfolding class_names
sequence_52 = refl

sequence_53 : walked (node 0) (bare ((dict (((p.single (p.integer (pos 1))), (integer (pos 2))) ∷ ((p.single (p.text (codes "a"))), (node 1)) ∷ [])) ∷ (list ((integer (pos 3)) ∷ [])) ∷ []) 100 0) ≡ fine ((integer (pos 1)) ∷ (text (codes "a")) ∷ []) (bare ((dict (((p.single (p.integer (pos 1))), (integer (pos 2))) ∷ ((p.single (p.text (codes "a"))), (node 1)) ∷ [])) ∷ (list ((integer (pos 3)) ∷ [])) ∷ []) 98 0)
unfolding class_names
sequence_53 = refl

sequence_54 : walked (node 0) (bare ((dict (((p.tuple ((p.integer (pos 1)) ∷ (p.integer (pos 2)) ∷ [])), (integer (pos 0))) ∷ ((p.single p.none), (integer (pos 1))) ∷ ((p.tuple []), (integer (pos 2))) ∷ ((p.tuple ((p.bool true) ∷ [])), (integer (pos 3))) ∷ [])) ∷ []) 100 0) ≡ fine ((node 1) ∷ none ∷ (node 2) ∷ (node 3) ∷ []) (bare ((dict (((p.tuple ((p.integer (pos 1)) ∷ (p.integer (pos 2)) ∷ [])), (integer (pos 0))) ∷ ((p.single p.none), (integer (pos 1))) ∷ ((p.tuple []), (integer (pos 2))) ∷ ((p.tuple ((p.bool true) ∷ [])), (integer (pos 3))) ∷ [])) ∷ (tuple ((integer (pos 1)) ∷ (integer (pos 2)) ∷ [])) ∷ (tuple []) ∷ (tuple ((bool true) ∷ [])) ∷ []) 93 0)
unfolding class_names
sequence_54 = refl

sequence_55 : walked none (bare [] 100 0) ≡ raised (fresh 23 ((text (codes "'NoneType' object is not iterable")) ∷ [])) (bare [] 100 0)
unfolding class_names
sequence_55 = refl

sequence_56 : walked (text (codes "abc")) (bare [] 2 0) ≡ stopped (bare [] 0 0)
unfolding class_names
sequence_56 = refl

sequence_57 : walked (text (codes "abc")) (bare [] 3 0) ≡ fine ((text (codes "a")) ∷ (text (codes "b")) ∷ (text (codes "c")) ∷ []) (bare [] 0 0)
unfolding class_names
sequence_57 = refl

sequence_58 : walked (node 0) (bare ((dict (((p.tuple ((p.integer (pos 1)) ∷ (p.integer (pos 2)) ∷ [])), (integer (pos 0))) ∷ ((p.single (p.integer (pos 5))), (integer (pos 1))) ∷ [])) ∷ []) 1 0) ≡ stopped (bare ((dict (((p.tuple ((p.integer (pos 1)) ∷ (p.integer (pos 2)) ∷ [])), (integer (pos 0))) ∷ ((p.single (p.integer (pos 5))), (integer (pos 1))) ∷ [])) ∷ []) 0 0)
unfolding class_names
sequence_58 = refl

sequence_59 : walked (node 0) (bare ((dict (((p.tuple ((p.integer (pos 1)) ∷ (p.integer (pos 2)) ∷ [])), (integer (pos 0))) ∷ ((p.single (p.integer (pos 5))), (integer (pos 1))) ∷ [])) ∷ []) 3 0) ≡ stopped (bare ((dict (((p.tuple ((p.integer (pos 1)) ∷ (p.integer (pos 2)) ∷ [])), (integer (pos 0))) ∷ ((p.single (p.integer (pos 5))), (integer (pos 1))) ∷ [])) ∷ []) 0 0)
unfolding class_names
sequence_59 = refl

sequence_60 : walked (range (pos 0) (pos 1000000000000000000000000000000) (pos 1)) (bare [] 100 0) ≡ stopped (bare [] 0 0)
unfolding class_names
sequence_60 = refl

sequence_61 : key_of_value none (bare [] 100 0) ≡ fine (p.single p.none) (bare [] 100 0)
unfolding class_names
sequence_61 = refl

sequence_62 : key_of_value (bool true) (bare [] 100 0) ≡ fine (p.single (p.bool true)) (bare [] 100 0)
unfolding class_names
sequence_62 = refl

sequence_63 : key_of_value (integer (pos 7)) (bare [] 100 0) ≡ fine (p.single (p.integer (pos 7))) (bare [] 100 0)
unfolding class_names
sequence_63 = refl

sequence_64 : key_of_value (text (codes "ab")) (bare [] 100 0) ≡ fine (p.single (p.text (codes "ab"))) (bare [] 100 0)
unfolding class_names
sequence_64 = refl

sequence_65 : key_of_value (node 0) (bare ((tuple []) ∷ []) 100 0) ≡ fine (p.tuple []) (bare ((tuple []) ∷ []) 100 0)
unfolding class_names
sequence_65 = refl

sequence_66 : key_of_value (node 0) (bare ((tuple ((integer (pos 1)) ∷ [])) ∷ []) 100 0) ≡ fine (p.tuple ((p.integer (pos 1)) ∷ [])) (bare ((tuple ((integer (pos 1)) ∷ [])) ∷ []) 99 0)
unfolding class_names
sequence_66 = refl

sequence_67 : key_of_value (node 0) (bare ((tuple ((integer (pos 1)) ∷ (text (codes "a")) ∷ none ∷ (bool false) ∷ [])) ∷ []) 100 0) ≡ fine (p.tuple ((p.integer (pos 1)) ∷ (p.text (codes "a")) ∷ p.none ∷ (p.bool false) ∷ [])) (bare ((tuple ((integer (pos 1)) ∷ (text (codes "a")) ∷ none ∷ (bool false) ∷ [])) ∷ []) 96 0)
unfolding class_names
sequence_67 = refl

sequence_68 : key_of_value (node 0) (bare ((list []) ∷ []) 100 0) ≡ raised (fresh 23 ((text (codes "unhashable key: 'list'")) ∷ [])) (bare ((list []) ∷ []) 100 0)
unfolding class_names
sequence_68 = refl

sequence_69 : key_of_value (node 0) (bare ((dict []) ∷ []) 100 0) ≡ raised (fresh 23 ((text (codes "unhashable key: 'dict'")) ∷ [])) (bare ((dict []) ∷ []) 100 0)
unfolding class_names
sequence_69 = refl

sequence_70 : key_of_value (range (pos 0) (pos 3) (pos 1)) (bare [] 100 0) ≡ raised (fresh 23 ((text (codes "unhashable key: 'range'")) ∷ [])) (bare [] 100 0)
unfolding class_names
sequence_70 = refl

sequence_71 : key_of_value (builtin 10) (bare [] 100 0) ≡ raised (fresh 23 ((text (codes "unhashable key: 'builtin'")) ∷ [])) (bare [] 100 0)
unfolding class_names
sequence_71 = refl

sequence_72 : key_of_value (class 2) (bare [] 100 0) ≡ raised (fresh 23 ((text (codes "unhashable key: 'class'")) ∷ [])) (bare [] 100 0)
unfolding class_names
sequence_72 = refl

sequence_73 : key_of_value (node 0) (bare ((exception 24 ((text (codes "x")) ∷ [])) ∷ []) 100 0) ≡ raised (fresh 23 ((text (codes "unhashable key: 'ValueError'")) ∷ [])) (bare ((exception 24 ((text (codes "x")) ∷ [])) ∷ []) 100 0)
unfolding class_names
sequence_73 = refl

sequence_74 : key_of_value (node 0) (bare ((object []) ∷ []) 100 0) ≡ raised (fresh 23 ((text (codes "unhashable key: 'SimpleNamespace'")) ∷ [])) (bare ((object []) ∷ []) 100 0)
unfolding class_names
sequence_74 = refl

sequence_75 : key_of_value (node 0) (bare ((tuple ((integer (pos 1)) ∷ (node 1) ∷ [])) ∷ (list ((integer (pos 2)) ∷ [])) ∷ []) 100 0) ≡ raised (fresh 23 ((text (codes "unhashable key: 'list'")) ∷ [])) (bare ((tuple ((integer (pos 1)) ∷ (node 1) ∷ [])) ∷ (list ((integer (pos 2)) ∷ [])) ∷ []) 98 0)
unfolding class_names
sequence_75 = refl

sequence_76 : key_of_value (node 0) (bare ((tuple ((node 1) ∷ [])) ∷ (tuple ((integer (pos 1)) ∷ [])) ∷ []) 100 0) ≡ raised (fresh 23 ((text (codes "unhashable key: 'tuple'")) ∷ [])) (bare ((tuple ((node 1) ∷ [])) ∷ (tuple ((integer (pos 1)) ∷ [])) ∷ []) 99 0)
unfolding class_names
sequence_76 = refl

sequence_77 : key_of_value (node 0) (bare ((tuple ((range (pos 0) (pos 2) (pos 1)) ∷ (node 1) ∷ [])) ∷ (list []) ∷ []) 100 0) ≡ raised (fresh 23 ((text (codes "unhashable key: 'range'")) ∷ [])) (bare ((tuple ((range (pos 0) (pos 2) (pos 1)) ∷ (node 1) ∷ [])) ∷ (list []) ∷ []) 98 0)
unfolding class_names
sequence_77 = refl

sequence_78 : key_of_value (node 0) (bare ((tuple ((integer (pos 1)) ∷ (integer (pos 2)) ∷ (integer (pos 3)) ∷ [])) ∷ []) 2 0) ≡ stopped (bare ((tuple ((integer (pos 1)) ∷ (integer (pos 2)) ∷ (integer (pos 3)) ∷ [])) ∷ []) 0 0)
unfolding class_names
sequence_78 = refl

sequence_79 : key_of_value (node 0) (bare ((tuple ((integer (pos 1)) ∷ (integer (pos 2)) ∷ (integer (pos 3)) ∷ [])) ∷ []) 3 0) ≡ fine (p.tuple ((p.integer (pos 1)) ∷ (p.integer (pos 2)) ∷ (p.integer (pos 3)) ∷ [])) (bare ((tuple ((integer (pos 1)) ∷ (integer (pos 2)) ∷ (integer (pos 3)) ∷ [])) ∷ []) 0 0)
unfolding class_names
sequence_79 = refl

sequence_80 : key_of_value (node 0) (bare ((tuple ((integer (pos 1)) ∷ (node 1) ∷ [])) ∷ (list []) ∷ []) 1 0) ≡ stopped (bare ((tuple ((integer (pos 1)) ∷ (node 1) ∷ [])) ∷ (list []) ∷ []) 0 0)
unfolding class_names
sequence_80 = refl

sequence_81 : place_in 0 (pos 0) ≡ None
unfolding class_names
sequence_81 = refl

sequence_82 : place_in 0 (pos 1) ≡ None
unfolding class_names
sequence_82 = refl

sequence_83 : place_in 0 (pos 2) ≡ None
unfolding class_names
sequence_83 = refl

sequence_84 : place_in 0 (pos 3) ≡ None
unfolding class_names
sequence_84 = refl

sequence_85 : place_in 0 (negsuc 0) ≡ None
unfolding class_names
sequence_85 = refl

sequence_86 : place_in 0 (negsuc 2) ≡ None
unfolding class_names
sequence_86 = refl

sequence_87 : place_in 0 (negsuc 3) ≡ None
unfolding class_names
sequence_87 = refl

sequence_88 : place_in 1 (pos 0) ≡ Some 0
unfolding class_names
sequence_88 = refl

sequence_89 : place_in 1 (pos 1) ≡ None
unfolding class_names
sequence_89 = refl

sequence_90 : place_in 1 (pos 2) ≡ None
unfolding class_names
sequence_90 = refl

sequence_91 : place_in 1 (pos 3) ≡ None
unfolding class_names
sequence_91 = refl

sequence_92 : place_in 1 (negsuc 0) ≡ Some 0
unfolding class_names
sequence_92 = refl

sequence_93 : place_in 1 (negsuc 2) ≡ None
unfolding class_names
sequence_93 = refl

sequence_94 : place_in 1 (negsuc 3) ≡ None
unfolding class_names
sequence_94 = refl

sequence_95 : place_in 3 (pos 0) ≡ Some 0
unfolding class_names
sequence_95 = refl

sequence_96 : place_in 3 (pos 1) ≡ Some 1
unfolding class_names
sequence_96 = refl

sequence_97 : place_in 3 (pos 2) ≡ Some 2
unfolding class_names
sequence_97 = refl

sequence_98 : place_in 3 (pos 3) ≡ None
unfolding class_names
sequence_98 = refl

sequence_99 : place_in 3 (negsuc 0) ≡ Some 2
unfolding class_names
sequence_99 = refl

sequence_100 : place_in 3 (negsuc 2) ≡ Some 0
unfolding class_names
sequence_100 = refl

sequence_101 : place_in 3 (negsuc 3) ≡ None
unfolding class_names
sequence_101 = refl

sequence_102 : bound_in 0 (pos 0) ≡ 0
unfolding class_names
sequence_102 = refl

sequence_103 : bound_in 0 (pos 1) ≡ 0
unfolding class_names
sequence_103 = refl

sequence_104 : bound_in 0 (pos 3) ≡ 0
unfolding class_names
sequence_104 = refl

sequence_105 : bound_in 0 (pos 9) ≡ 0
unfolding class_names
sequence_105 = refl

sequence_106 : bound_in 0 (negsuc 0) ≡ 0
unfolding class_names
sequence_106 = refl

sequence_107 : bound_in 0 (negsuc 2) ≡ 0
unfolding class_names
sequence_107 = refl

sequence_108 : bound_in 0 (negsuc 3) ≡ 0
unfolding class_names
sequence_108 = refl

sequence_109 : bound_in 0 (negsuc 8) ≡ 0
unfolding class_names
sequence_109 = refl

sequence_110 : bound_in 3 (pos 0) ≡ 0
unfolding class_names
sequence_110 = refl

sequence_111 : bound_in 3 (pos 1) ≡ 1
unfolding class_names
sequence_111 = refl

sequence_112 : bound_in 3 (pos 3) ≡ 3
unfolding class_names
sequence_112 = refl

sequence_113 : bound_in 3 (pos 9) ≡ 3
unfolding class_names
sequence_113 = refl

sequence_114 : bound_in 3 (negsuc 0) ≡ 2
unfolding class_names
sequence_114 = refl

sequence_115 : bound_in 3 (negsuc 2) ≡ 0
unfolding class_names
sequence_115 = refl

sequence_116 : bound_in 3 (negsuc 3) ≡ 0
unfolding class_names
sequence_116 = refl

sequence_117 : bound_in 3 (negsuc 8) ≡ 0
unfolding class_names
sequence_117 = refl

sequence_118 : in_order [] ≡ Some []
unfolding class_names
sequence_118 = refl

sequence_119 : in_order ((integer (pos 2)) ∷ (integer (pos 1)) ∷ []) ≡ Some ((integer (pos 1)) ∷ (integer (pos 2)) ∷ [])
unfolding class_names
sequence_119 = refl

sequence_120 : in_order ((integer (pos 1)) ∷ (bool true) ∷ (integer (pos 0)) ∷ (bool false) ∷ (integer (negsuc 0)) ∷ []) ≡ Some ((integer (negsuc 0)) ∷ (integer (pos 0)) ∷ (bool false) ∷ (integer (pos 1)) ∷ (bool true) ∷ [])
unfolding class_names
sequence_120 = refl

sequence_121 : in_order ((text (codes "b")) ∷ (text (codes "a")) ∷ (text (codes "ab")) ∷ (text []) ∷ (text (codes "B")) ∷ []) ≡ Some ((text []) ∷ (text (codes "B")) ∷ (text (codes "a")) ∷ (text (codes "ab")) ∷ (text (codes "b")) ∷ [])
unfolding class_names
sequence_121 = refl

sequence_122 : in_order ((integer (pos 3)) ∷ (integer (pos 1)) ∷ (integer (pos 2)) ∷ (integer (pos 1)) ∷ (integer (pos 3)) ∷ []) ≡ Some ((integer (pos 1)) ∷ (integer (pos 1)) ∷ (integer (pos 2)) ∷ (integer (pos 3)) ∷ (integer (pos 3)) ∷ [])
unfolding class_names
sequence_122 = refl

sequence_123 : in_order ((integer (pos 1)) ∷ (text (codes "a")) ∷ []) ≡ None
unfolding class_names
sequence_123 = refl

sequence_124 : in_order ((text (codes "a")) ∷ none ∷ []) ≡ None
unfolding class_names
sequence_124 = refl

sequence_125 : in_order (none ∷ []) ≡ None
unfolding class_names
sequence_125 = refl

sequence_126 : in_order ((node 0) ∷ []) ≡ None
unfolding class_names
sequence_126 = refl

sequence_127 : in_order ((text (233 ∷ [])) ∷ (text (codes "z")) ∷ (text (128512 ∷ [])) ∷ (text (codes "~")) ∷ []) ≡ Some ((text (codes "z")) ∷ (text (codes "~")) ∷ (text (233 ∷ [])) ∷ (text (128512 ∷ [])) ∷ [])
unfolding class_names
sequence_127 = refl

sequence_128 : sort_steps 0 ≡ 0
unfolding class_names
sequence_128 = refl

sequence_129 : sort_steps 1 ≡ 2
unfolding class_names
sequence_129 = refl

sequence_130 : sort_steps 2 ≡ 6
unfolding class_names
sequence_130 = refl

sequence_131 : sort_steps 3 ≡ 9
unfolding class_names
sequence_131 = refl

sequence_132 : sort_steps 4 ≡ 16
unfolding class_names
sequence_132 = refl

sequence_133 : sort_steps 7 ≡ 28
unfolding class_names
sequence_133 = refl

sequence_134 : sort_steps 8 ≡ 40
unfolding class_names
sequence_134 = refl

sequence_135 : sort_steps 1000 ≡ 11000
unfolding class_names
sequence_135 = refl

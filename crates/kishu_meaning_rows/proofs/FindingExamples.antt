-- Items that are equal to a value, as CPython tells, with the steps that are left: computed on the definition. Made by tools/rows/state_rows.py.
use Rattle.std.proofs.Common.{◌≡◌, refl, [], ◌∷◌, true, false}
use Rattle.std.specs.Prelude.{pos, codes, Some, None}
use Rattle.kishu_meaning.specs.values.Keys as p
use Rattle.kishu_meaning.specs.values.Values.{none, bool, integer, text, range, builtin, class, node, list, tuple, dict, exception}
use Rattle.kishu_meaning_laws.specs.Bare.{bare}
use Rattle.kishu_meaning.specs.moments.Moment.{fresh, fine, raised, stopped}
use Rattle.kishu_meaning.specs.items.Finding.{place_among, count_among}

found_1 : place_among (integer (pos 1)) [] (bare [] 100 0) ≡ fine None (bare [] 100 0)
found_1 = refl

found_2 : count_among (integer (pos 1)) [] (bare [] 100 0) ≡ fine 0 (bare [] 100 0)
found_2 = refl

found_3 : place_among (integer (pos 1)) ((integer (pos 1)) ∷ []) (bare [] 100 0) ≡ fine (Some 0) (bare [] 99 0)
found_3 = refl

found_4 : count_among (integer (pos 1)) ((integer (pos 1)) ∷ []) (bare [] 100 0) ≡ fine 1 (bare [] 99 0)
found_4 = refl

found_5 : place_among (integer (pos 1)) ((integer (pos 1)) ∷ (integer (pos 2)) ∷ (integer (pos 1)) ∷ []) (bare [] 100 0) ≡ fine (Some 0) (bare [] 99 0)
found_5 = refl

found_6 : count_among (integer (pos 1)) ((integer (pos 1)) ∷ (integer (pos 2)) ∷ (integer (pos 1)) ∷ []) (bare [] 100 0) ≡ fine 2 (bare [] 97 0)
found_6 = refl

found_7 : place_among (integer (pos 1)) ((integer (pos 2)) ∷ (integer (pos 3)) ∷ []) (bare [] 100 0) ≡ fine None (bare [] 98 0)
found_7 = refl

found_8 : count_among (integer (pos 1)) ((integer (pos 2)) ∷ (integer (pos 3)) ∷ []) (bare [] 100 0) ≡ fine 0 (bare [] 98 0)
found_8 = refl

found_9 : place_among (integer (pos 1)) ((integer (pos 0)) ∷ (bool true) ∷ (integer (pos 1)) ∷ []) (bare [] 100 0) ≡ fine (Some 1) (bare [] 98 0)
found_9 = refl

found_10 : count_among (integer (pos 1)) ((integer (pos 0)) ∷ (bool true) ∷ (integer (pos 1)) ∷ []) (bare [] 100 0) ≡ fine 2 (bare [] 97 0)
found_10 = refl

found_11 : place_among (integer (pos 0)) ((bool false) ∷ []) (bare [] 100 0) ≡ fine (Some 0) (bare [] 99 0)
found_11 = refl

found_12 : count_among (integer (pos 0)) ((bool false) ∷ []) (bare [] 100 0) ≡ fine 1 (bare [] 99 0)
found_12 = refl

found_13 : place_among (text (codes "ab")) ((text (codes "a")) ∷ (text (codes "ab")) ∷ []) (bare [] 100 0) ≡ fine (Some 1) (bare [] 95 0)
found_13 = refl

found_14 : count_among (text (codes "ab")) ((text (codes "a")) ∷ (text (codes "ab")) ∷ []) (bare [] 100 0) ≡ fine 1 (bare [] 95 0)
found_14 = refl

found_15 : place_among (text (codes "ab")) ((text (codes "ab")) ∷ (text (codes "ac")) ∷ (text (codes "ab")) ∷ []) (bare [] 100 0) ≡ fine (Some 0) (bare [] 97 0)
found_15 = refl

found_16 : count_among (text (codes "ab")) ((text (codes "ab")) ∷ (text (codes "ac")) ∷ (text (codes "ab")) ∷ []) (bare [] 100 0) ≡ fine 2 (bare [] 91 0)
found_16 = refl

found_17 : place_among none (none ∷ (integer (pos 0)) ∷ []) (bare [] 100 0) ≡ fine (Some 0) (bare [] 99 0)
found_17 = refl

found_18 : count_among none (none ∷ (integer (pos 0)) ∷ []) (bare [] 100 0) ≡ fine 1 (bare [] 98 0)
found_18 = refl

found_19 : place_among (integer (pos 1)) ((text (codes "1")) ∷ []) (bare [] 100 0) ≡ fine None (bare [] 99 0)
found_19 = refl

found_20 : count_among (integer (pos 1)) ((text (codes "1")) ∷ []) (bare [] 100 0) ≡ fine 0 (bare [] 99 0)
found_20 = refl

found_21 : place_among (node 0) ((node 1) ∷ (node 2) ∷ []) (bare ((list ((integer (pos 2)) ∷ [])) ∷ (list ((integer (pos 1)) ∷ [])) ∷ (list ((integer (pos 2)) ∷ [])) ∷ []) 100 0) ≡ fine (Some 1) (bare ((list ((integer (pos 2)) ∷ [])) ∷ (list ((integer (pos 1)) ∷ [])) ∷ (list ((integer (pos 2)) ∷ [])) ∷ []) 96 0)
found_21 = refl

found_22 : count_among (node 0) ((node 1) ∷ (node 2) ∷ []) (bare ((list ((integer (pos 2)) ∷ [])) ∷ (list ((integer (pos 1)) ∷ [])) ∷ (list ((integer (pos 2)) ∷ [])) ∷ []) 100 0) ≡ fine 1 (bare ((list ((integer (pos 2)) ∷ [])) ∷ (list ((integer (pos 1)) ∷ [])) ∷ (list ((integer (pos 2)) ∷ [])) ∷ []) 96 0)
found_22 = refl

found_23 : place_among (node 0) ((node 0) ∷ (node 1) ∷ []) (bare ((list ((integer (pos 1)) ∷ [])) ∷ (list ((integer (pos 1)) ∷ [])) ∷ []) 100 0) ≡ fine (Some 0) (bare ((list ((integer (pos 1)) ∷ [])) ∷ (list ((integer (pos 1)) ∷ [])) ∷ []) 99 0)
found_23 = refl

found_24 : count_among (node 0) ((node 0) ∷ (node 1) ∷ []) (bare ((list ((integer (pos 1)) ∷ [])) ∷ (list ((integer (pos 1)) ∷ [])) ∷ []) 100 0) ≡ fine 2 (bare ((list ((integer (pos 1)) ∷ [])) ∷ (list ((integer (pos 1)) ∷ [])) ∷ []) 97 0)
found_24 = refl

found_25 : place_among (node 0) ((node 1) ∷ (node 0) ∷ []) (bare ((list ((integer (pos 1)) ∷ [])) ∷ (list ((integer (pos 1)) ∷ [])) ∷ []) 100 0) ≡ fine (Some 0) (bare ((list ((integer (pos 1)) ∷ [])) ∷ (list ((integer (pos 1)) ∷ [])) ∷ []) 98 0)
found_25 = refl

found_26 : count_among (node 0) ((node 1) ∷ (node 0) ∷ []) (bare ((list ((integer (pos 1)) ∷ [])) ∷ (list ((integer (pos 1)) ∷ [])) ∷ []) 100 0) ≡ fine 2 (bare ((list ((integer (pos 1)) ∷ [])) ∷ (list ((integer (pos 1)) ∷ [])) ∷ []) 97 0)
found_26 = refl

found_27 : place_among (node 0) ((node 0) ∷ (node 1) ∷ []) (bare ((exception 24 ((text (codes "x")) ∷ [])) ∷ (exception 24 ((text (codes "x")) ∷ [])) ∷ []) 100 0) ≡ fine (Some 0) (bare ((exception 24 ((text (codes "x")) ∷ [])) ∷ (exception 24 ((text (codes "x")) ∷ [])) ∷ []) 99 0)
found_27 = refl

found_28 : count_among (node 0) ((node 0) ∷ (node 1) ∷ []) (bare ((exception 24 ((text (codes "x")) ∷ [])) ∷ (exception 24 ((text (codes "x")) ∷ [])) ∷ []) 100 0) ≡ fine 1 (bare ((exception 24 ((text (codes "x")) ∷ [])) ∷ (exception 24 ((text (codes "x")) ∷ [])) ∷ []) 98 0)
found_28 = refl

found_29 : place_among (node 0) ((node 1) ∷ []) (bare ((exception 24 ((text (codes "x")) ∷ [])) ∷ (exception 24 ((text (codes "x")) ∷ [])) ∷ []) 100 0) ≡ fine None (bare ((exception 24 ((text (codes "x")) ∷ [])) ∷ (exception 24 ((text (codes "x")) ∷ [])) ∷ []) 99 0)
found_29 = refl

found_30 : count_among (node 0) ((node 1) ∷ []) (bare ((exception 24 ((text (codes "x")) ∷ [])) ∷ (exception 24 ((text (codes "x")) ∷ [])) ∷ []) 100 0) ≡ fine 0 (bare ((exception 24 ((text (codes "x")) ∷ [])) ∷ (exception 24 ((text (codes "x")) ∷ [])) ∷ []) 99 0)
found_30 = refl

found_31 : place_among (range (pos 0) (pos 3) (pos 1)) ((range (pos 0) (pos 3) (pos 1)) ∷ (integer (pos 1)) ∷ []) (bare [] 100 0) ≡ fine (Some 0) (bare [] 99 0)
found_31 = refl

found_32 : count_among (range (pos 0) (pos 3) (pos 1)) ((range (pos 0) (pos 3) (pos 1)) ∷ (integer (pos 1)) ∷ []) (bare [] 100 0) ≡ fine 1 (bare [] 98 0)
found_32 = refl

found_33 : place_among (node 0) ((node 1) ∷ []) (bare ((dict (((p.single (p.bool true)), (integer (pos 2))) ∷ [])) ∷ (dict (((p.single (p.integer (pos 1))), (integer (pos 2))) ∷ [])) ∷ []) 100 0) ≡ fine (Some 0) (bare ((dict (((p.single (p.bool true)), (integer (pos 2))) ∷ [])) ∷ (dict (((p.single (p.integer (pos 1))), (integer (pos 2))) ∷ [])) ∷ []) 98 0)
found_33 = refl

found_34 : count_among (node 0) ((node 1) ∷ []) (bare ((dict (((p.single (p.bool true)), (integer (pos 2))) ∷ [])) ∷ (dict (((p.single (p.integer (pos 1))), (integer (pos 2))) ∷ [])) ∷ []) 100 0) ≡ fine 1 (bare ((dict (((p.single (p.bool true)), (integer (pos 2))) ∷ [])) ∷ (dict (((p.single (p.integer (pos 1))), (integer (pos 2))) ∷ [])) ∷ []) 98 0)
found_34 = refl

found_35 : place_among (node 0) ((node 1) ∷ (node 0) ∷ []) (bare ((tuple ((integer (pos 1)) ∷ (integer (pos 3)) ∷ [])) ∷ (tuple ((integer (pos 1)) ∷ (integer (pos 2)) ∷ [])) ∷ []) 100 0) ≡ fine (Some 1) (bare ((tuple ((integer (pos 1)) ∷ (integer (pos 3)) ∷ [])) ∷ (tuple ((integer (pos 1)) ∷ (integer (pos 2)) ∷ [])) ∷ []) 96 0)
found_35 = refl

found_36 : count_among (node 0) ((node 1) ∷ (node 0) ∷ []) (bare ((tuple ((integer (pos 1)) ∷ (integer (pos 3)) ∷ [])) ∷ (tuple ((integer (pos 1)) ∷ (integer (pos 2)) ∷ [])) ∷ []) 100 0) ≡ fine 1 (bare ((tuple ((integer (pos 1)) ∷ (integer (pos 3)) ∷ [])) ∷ (tuple ((integer (pos 1)) ∷ (integer (pos 2)) ∷ [])) ∷ []) 96 0)
found_36 = refl

found_37 : place_among (class 3) ((builtin 10) ∷ (class 3) ∷ []) (bare [] 100 0) ≡ fine (Some 1) (bare [] 98 0)
found_37 = refl

found_38 : count_among (class 3) ((builtin 10) ∷ (class 3) ∷ []) (bare [] 100 0) ≡ fine 1 (bare [] 98 0)
found_38 = refl

found_39 : place_among (node 0) ((node 1) ∷ (node 2) ∷ []) (bare ((list ((node 3) ∷ [])) ∷ (list ((node 4) ∷ [])) ∷ (list ((node 5) ∷ [])) ∷ (list ((integer (pos 2)) ∷ [])) ∷ (list ((integer (pos 1)) ∷ [])) ∷ (list ((integer (pos 2)) ∷ [])) ∷ []) 100 0) ≡ fine (Some 1) (bare ((list ((node 3) ∷ [])) ∷ (list ((node 4) ∷ [])) ∷ (list ((node 5) ∷ [])) ∷ (list ((integer (pos 2)) ∷ [])) ∷ (list ((integer (pos 1)) ∷ [])) ∷ (list ((integer (pos 2)) ∷ [])) ∷ []) 94 0)
found_39 = refl

found_40 : count_among (node 0) ((node 1) ∷ (node 2) ∷ []) (bare ((list ((node 3) ∷ [])) ∷ (list ((node 4) ∷ [])) ∷ (list ((node 5) ∷ [])) ∷ (list ((integer (pos 2)) ∷ [])) ∷ (list ((integer (pos 1)) ∷ [])) ∷ (list ((integer (pos 2)) ∷ [])) ∷ []) 100 0) ≡ fine 1 (bare ((list ((node 3) ∷ [])) ∷ (list ((node 4) ∷ [])) ∷ (list ((node 5) ∷ [])) ∷ (list ((integer (pos 2)) ∷ [])) ∷ (list ((integer (pos 1)) ∷ [])) ∷ (list ((integer (pos 2)) ∷ [])) ∷ []) 94 0)
found_40 = refl

found_41 : place_among (text (codes "abd")) ((text (codes "abc")) ∷ (text (codes "abd")) ∷ []) (bare [] 0 0) ≡ stopped (bare [] 0 0)
found_41 = refl

found_42 : place_among (text (codes "abd")) ((text (codes "abc")) ∷ (text (codes "abd")) ∷ []) (bare [] 1 0) ≡ stopped (bare [] 0 0)
found_42 = refl

found_43 : place_among (text (codes "abd")) ((text (codes "abc")) ∷ (text (codes "abd")) ∷ []) (bare [] 3 0) ≡ stopped (bare [] 0 0)
found_43 = refl

found_44 : place_among (text (codes "abd")) ((text (codes "abc")) ∷ (text (codes "abd")) ∷ []) (bare [] 4 0) ≡ stopped (bare [] 0 0)
found_44 = refl

found_45 : place_among (text (codes "abd")) ((text (codes "abc")) ∷ (text (codes "abd")) ∷ []) (bare [] 7 0) ≡ stopped (bare [] 0 0)
found_45 = refl

found_46 : place_among (text (codes "abd")) ((text (codes "abc")) ∷ (text (codes "abd")) ∷ []) (bare [] 8 0) ≡ fine (Some 1) (bare [] 0 0)
found_46 = refl

found_47 : count_among (text (codes "abd")) ((text (codes "abc")) ∷ (text (codes "abd")) ∷ []) (bare [] 0 0) ≡ stopped (bare [] 0 0)
found_47 = refl

found_48 : count_among (text (codes "abd")) ((text (codes "abc")) ∷ (text (codes "abd")) ∷ []) (bare [] 1 0) ≡ stopped (bare [] 0 0)
found_48 = refl

found_49 : count_among (text (codes "abd")) ((text (codes "abc")) ∷ (text (codes "abd")) ∷ []) (bare [] 3 0) ≡ stopped (bare [] 0 0)
found_49 = refl

found_50 : count_among (text (codes "abd")) ((text (codes "abc")) ∷ (text (codes "abd")) ∷ []) (bare [] 4 0) ≡ stopped (bare [] 0 0)
found_50 = refl

found_51 : count_among (text (codes "abd")) ((text (codes "abc")) ∷ (text (codes "abd")) ∷ []) (bare [] 7 0) ≡ stopped (bare [] 0 0)
found_51 = refl

found_52 : count_among (text (codes "abd")) ((text (codes "abc")) ∷ (text (codes "abd")) ∷ []) (bare [] 8 0) ≡ fine 1 (bare [] 0 0)
found_52 = refl

found_53 : place_among (node 0) ((node 1) ∷ []) (bare ((list ((node 2) ∷ [])) ∷ (list ((node 3) ∷ [])) ∷ (list ((node 4) ∷ [])) ∷ (list ((node 5) ∷ [])) ∷ (list ((integer (pos 1)) ∷ [])) ∷ (list ((integer (pos 1)) ∷ [])) ∷ []) 100 997) ≡ fine (Some 0) (bare ((list ((node 2) ∷ [])) ∷ (list ((node 3) ∷ [])) ∷ (list ((node 4) ∷ [])) ∷ (list ((node 5) ∷ [])) ∷ (list ((integer (pos 1)) ∷ [])) ∷ (list ((integer (pos 1)) ∷ [])) ∷ []) 96 997)
found_53 = refl

found_54 : place_among (node 0) ((node 1) ∷ []) (bare ((list ((node 2) ∷ [])) ∷ (list ((node 3) ∷ [])) ∷ (list ((node 4) ∷ [])) ∷ (list ((node 5) ∷ [])) ∷ (list ((integer (pos 1)) ∷ [])) ∷ (list ((integer (pos 1)) ∷ [])) ∷ []) 100 998) ≡ fine (Some 0) (bare ((list ((node 2) ∷ [])) ∷ (list ((node 3) ∷ [])) ∷ (list ((node 4) ∷ [])) ∷ (list ((node 5) ∷ [])) ∷ (list ((integer (pos 1)) ∷ [])) ∷ (list ((integer (pos 1)) ∷ [])) ∷ []) 96 998)
found_54 = refl

found_55 : place_among (node 0) ((node 1) ∷ []) (bare ((list ((node 2) ∷ [])) ∷ (list ((node 3) ∷ [])) ∷ (list ((node 4) ∷ [])) ∷ (list ((node 5) ∷ [])) ∷ (list ((integer (pos 1)) ∷ [])) ∷ (list ((integer (pos 1)) ∷ [])) ∷ []) 100 999) ≡ raised (fresh 21 (text (codes "depth limit reached") ∷ [])) (bare ((list ((node 2) ∷ [])) ∷ (list ((node 3) ∷ [])) ∷ (list ((node 4) ∷ [])) ∷ (list ((node 5) ∷ [])) ∷ (list ((integer (pos 1)) ∷ [])) ∷ (list ((integer (pos 1)) ∷ [])) ∷ []) 97 999)
found_55 = refl

found_56 : place_among (node 0) ((node 1) ∷ []) (bare ((list ((node 2) ∷ [])) ∷ (list ((node 3) ∷ [])) ∷ (list ((node 4) ∷ [])) ∷ (list ((node 5) ∷ [])) ∷ (list ((integer (pos 1)) ∷ [])) ∷ (list ((integer (pos 1)) ∷ [])) ∷ []) 100 1000) ≡ raised (fresh 21 (text (codes "depth limit reached") ∷ [])) (bare ((list ((node 2) ∷ [])) ∷ (list ((node 3) ∷ [])) ∷ (list ((node 4) ∷ [])) ∷ (list ((node 5) ∷ [])) ∷ (list ((integer (pos 1)) ∷ [])) ∷ (list ((integer (pos 1)) ∷ [])) ∷ []) 98 1000)
found_56 = refl

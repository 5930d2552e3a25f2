-- How some comparisons end, as CPython tells, with the steps that are left: computed on the definition. Made by tools/rows/nodes.py.
use Rattle.std.proofs.Common.{◌≡◌, refl, [], ◌∷◌, true, false}
use Rattle.std.specs.Prelude.{pos, negsuc, codes, Some, None}
use Rattle.kishu_meaning.specs.values.Keys as p
use Rattle.kishu_meaning.specs.values.Values.{none, bool, integer, text, range, builtin, class, node, list, tuple, dict, object, exception}
use Rattle.kishu_meaning.specs.moments.Counting.{answer, too_deep, spent}
use Rattle.kishu_meaning.specs.comparing.Equal.{equal_in, less_in, greater_in}

compare_1 : equal_in [] 0 none none 100 ≡ answer true 100
compare_1 = refl

compare_2 : equal_in [] 0 none (integer (pos 0)) 100 ≡ answer false 100
compare_2 = refl

compare_3 : equal_in [] 0 (integer (pos 1)) (bool true) 100 ≡ answer true 100
compare_3 = refl

compare_4 : equal_in [] 0 (bool true) (integer (pos 1)) 100 ≡ answer true 100
compare_4 = refl

compare_5 : equal_in [] 0 (bool false) (integer (pos 0)) 100 ≡ answer true 100
compare_5 = refl

compare_6 : equal_in [] 0 (bool false) none 100 ≡ answer false 100
compare_6 = refl

compare_7 : equal_in [] 0 (integer (pos 1)) (integer (pos 2)) 100 ≡ answer false 100
compare_7 = refl

compare_8 : equal_in [] 0 (integer (negsuc 2)) (integer (negsuc 2)) 100 ≡ answer true 100
compare_8 = refl

compare_9 : equal_in [] 0 (text (codes "ab")) (text (codes "ab")) 100 ≡ answer true 98
compare_9 = refl

compare_10 : equal_in [] 0 (text (codes "ab")) (text (codes "abc")) 100 ≡ answer false 98
compare_10 = refl

compare_11 : equal_in [] 0 (text []) (text (codes "a")) 100 ≡ answer false 100
compare_11 = refl

compare_12 : equal_in [] 0 (text (codes "1")) (integer (pos 1)) 100 ≡ answer false 100
compare_12 = refl

compare_13 : equal_in [] 0 (text (233 ∷ [])) (text (233 ∷ [])) 100 ≡ answer true 99
compare_13 = refl

compare_14 : equal_in [] 0 (text (codes "abc")) (text (codes "abc")) 2 ≡ spent 0
compare_14 = refl

compare_15 : equal_in [] 0 (text (codes "abc")) (text (codes "abc")) 3 ≡ answer true 0
compare_15 = refl

compare_16 : equal_in [] 0 (range (pos 0) (pos 3) (pos 1)) (range (pos 0) (pos 3) (pos 1)) 100 ≡ answer true 100
compare_16 = refl

compare_17 : equal_in [] 0 (range (pos 0) (pos 0) (pos 1)) (range (pos 5) (pos 5) (pos 1)) 100 ≡ answer true 100
compare_17 = refl

compare_18 : equal_in [] 0 (range (pos 0) (pos 3) (pos 2)) (range (pos 0) (pos 4) (pos 2)) 100 ≡ answer true 100
compare_18 = refl

compare_19 : equal_in [] 0 (range (pos 1) (pos 2) (pos 1)) (range (pos 1) (pos 9) (pos 8)) 100 ≡ answer true 100
compare_19 = refl

compare_20 : equal_in [] 0 (range (pos 0) (pos 3) (pos 1)) (range (pos 0) (pos 4) (pos 1)) 100 ≡ answer false 100
compare_20 = refl

compare_21 : equal_in [] 0 (range (pos 0) (pos 6) (pos 2)) (range (pos 0) (pos 6) (pos 3)) 100 ≡ answer false 100
compare_21 = refl

compare_22 : equal_in [] 0 (range (pos 3) (pos 0) (negsuc 0)) (range (pos 3) (pos 0) (negsuc 0)) 100 ≡ answer true 100
compare_22 = refl

compare_23 : equal_in [] 0 (range (pos 0) (pos 3) (pos 1)) (integer (pos 3)) 100 ≡ answer false 100
compare_23 = refl

compare_24 : equal_in [] 0 (builtin 10) (builtin 10) 100 ≡ answer true 100
compare_24 = refl

compare_25 : equal_in [] 0 (class 3) (class 3) 100 ≡ answer true 100
compare_25 = refl

compare_26 : equal_in [] 0 (builtin 10) (class 3) 100 ≡ answer false 100
compare_26 = refl

compare_27 : equal_in ((list []) ∷ (list []) ∷ []) 0 (node 0) (node 1) 100 ≡ answer true 100
compare_27 = refl

compare_28 : equal_in ((list []) ∷ (tuple []) ∷ []) 0 (node 0) (node 1) 100 ≡ answer false 100
compare_28 = refl

compare_29 : equal_in ((list ((integer (pos 1)) ∷ [])) ∷ (list ((bool true) ∷ [])) ∷ []) 0 (node 0) (node 1) 100 ≡ answer true 99
compare_29 = refl

compare_30 : equal_in ((list ((integer (pos 1)) ∷ (integer (pos 2)) ∷ [])) ∷ (list ((integer (pos 1)) ∷ (integer (pos 3)) ∷ [])) ∷ []) 0 (node 0) (node 1) 100 ≡ answer false 98
compare_30 = refl

compare_31 : equal_in ((list ((integer (pos 1)) ∷ (integer (pos 2)) ∷ [])) ∷ (list ((integer (pos 1)) ∷ [])) ∷ []) 0 (node 0) (node 1) 100 ≡ answer false 100
compare_31 = refl

compare_32 : equal_in ((tuple ((integer (pos 1)) ∷ (text (codes "ab")) ∷ [])) ∷ []) 0 (node 0) (node 0) 100 ≡ answer true 96
compare_32 = refl

compare_33 : equal_in ((list ((integer (pos 1)) ∷ (integer (pos 2)) ∷ [])) ∷ (list ((integer (pos 1)) ∷ (integer (pos 2)) ∷ [])) ∷ []) 0 (node 0) (node 1) 1 ≡ spent 0
compare_33 = refl

compare_34 : equal_in ((list ((integer (pos 1)) ∷ (integer (pos 2)) ∷ [])) ∷ (list ((integer (pos 1)) ∷ (integer (pos 2)) ∷ [])) ∷ []) 0 (node 0) (node 1) 2 ≡ answer true 0
compare_34 = refl

compare_35 : equal_in ((list ((node 2) ∷ [])) ∷ (list ((node 3) ∷ [])) ∷ (list ((integer (pos 1)) ∷ [])) ∷ (list ((integer (pos 1)) ∷ [])) ∷ []) 0 (node 0) (node 1) 100 ≡ answer true 98
compare_35 = refl

compare_36 : equal_in ((list ((node 2) ∷ (node 2) ∷ [])) ∷ (list ((node 2) ∷ (node 3) ∷ [])) ∷ (list ((integer (pos 1)) ∷ [])) ∷ (list ((integer (pos 1)) ∷ [])) ∷ []) 0 (node 0) (node 1) 100 ≡ answer true 97
compare_36 = refl

compare_37 : equal_in ((list ((text (codes "ab")) ∷ [])) ∷ (list ((text (codes "ac")) ∷ [])) ∷ []) 0 (node 0) (node 1) 100 ≡ answer false 97
compare_37 = refl

compare_38 : equal_in ((dict []) ∷ (dict []) ∷ []) 0 (node 0) (node 1) 100 ≡ answer true 100
compare_38 = refl

compare_39 : equal_in ((dict (((p.single (p.integer (pos 1))), (integer (pos 2))) ∷ [])) ∷ (dict (((p.single (p.bool true)), (integer (pos 2))) ∷ [])) ∷ []) 0 (node 0) (node 1) 100 ≡ answer true 99
compare_39 = refl

compare_40 : equal_in ((dict (((p.single (p.integer (pos 1))), (text (codes "a"))) ∷ ((p.single (p.integer (pos 2))), (text (codes "b"))) ∷ [])) ∷ (dict (((p.single (p.integer (pos 2))), (text (codes "b"))) ∷ ((p.single (p.integer (pos 1))), (text (codes "a"))) ∷ [])) ∷ []) 0 (node 0) (node 1) 100 ≡ answer true 96
compare_40 = refl

compare_41 : equal_in ((dict (((p.single (p.integer (pos 1))), (integer (pos 1))) ∷ [])) ∷ (dict (((p.single (p.integer (pos 2))), (integer (pos 1))) ∷ [])) ∷ []) 0 (node 0) (node 1) 100 ≡ answer false 100
compare_41 = refl

compare_42 : equal_in ((dict (((p.single (p.integer (pos 1))), (integer (pos 1))) ∷ ((p.single (p.integer (pos 2))), (integer (pos 2))) ∷ [])) ∷ (dict (((p.single (p.integer (pos 1))), (integer (pos 1))) ∷ ((p.single (p.integer (pos 2))), (integer (pos 3))) ∷ [])) ∷ []) 0 (node 0) (node 1) 100 ≡ answer false 98
compare_42 = refl

compare_43 : equal_in ((dict (((p.tuple ((p.integer (pos 1)) ∷ [])), (node 2)) ∷ [])) ∷ (dict (((p.tuple ((p.bool true) ∷ [])), (node 3)) ∷ [])) ∷ (list []) ∷ (list []) ∷ []) 0 (node 0) (node 1) 100 ≡ answer true 99
compare_43 = refl

compare_44 : equal_in ((dict (((p.single (p.integer (pos 1))), (integer (pos 1))) ∷ [])) ∷ (dict (((p.single (p.integer (pos 1))), (integer (pos 1))) ∷ ((p.single (p.integer (pos 2))), (integer (pos 2))) ∷ [])) ∷ []) 0 (node 0) (node 1) 100 ≡ answer false 100
compare_44 = refl

compare_45 : equal_in ((object (((codes "a"), (integer (pos 1))) ∷ ((codes "b"), (node 2)) ∷ [])) ∷ (object (((codes "b"), (node 3)) ∷ ((codes "a"), (bool true)) ∷ [])) ∷ (list []) ∷ (list []) ∷ []) 0 (node 0) (node 1) 100 ≡ answer true 98
compare_45 = refl

compare_46 : equal_in ((object (((codes "a"), (integer (pos 1))) ∷ ((codes "b"), (node 2)) ∷ [])) ∷ (object (((codes "a"), (integer (pos 1))) ∷ [])) ∷ (list []) ∷ []) 0 (node 0) (node 1) 100 ≡ answer false 100
compare_46 = refl

compare_47 : equal_in ((object (((codes "a"), (integer (pos 1))) ∷ ((codes "b"), (node 1)) ∷ [])) ∷ (list []) ∷ []) 0 (node 0) (node 0) 100 ≡ answer true 98
compare_47 = refl

compare_48 : equal_in ((exception 24 ((text (codes "x")) ∷ [])) ∷ []) 0 (node 0) (node 0) 100 ≡ answer true 100
compare_48 = refl

compare_49 : equal_in ((exception 24 ((text (codes "x")) ∷ [])) ∷ (exception 24 ((text (codes "x")) ∷ [])) ∷ []) 0 (node 0) (node 1) 100 ≡ answer false 100
compare_49 = refl

compare_50 : equal_in ((list ((node 2) ∷ [])) ∷ (list ((node 2) ∷ [])) ∷ (exception 24 ((text (codes "x")) ∷ [])) ∷ []) 0 (node 0) (node 1) 100 ≡ answer true 99
compare_50 = refl

compare_51 : equal_in ((list ((integer (pos 1)) ∷ [])) ∷ []) 0 (node 0) (integer (pos 1)) 100 ≡ answer false 100
compare_51 = refl

compare_52 : equal_in ((list ((integer (pos 1)) ∷ [])) ∷ []) 0 (integer (pos 1)) (node 0) 100 ≡ answer false 100
compare_52 = refl

compare_53 : equal_in ((list ((node 2) ∷ [])) ∷ (list ((integer (pos 1)) ∷ [])) ∷ (list ((integer (pos 1)) ∷ [])) ∷ []) 0 (node 0) (node 1) 100 ≡ answer false 99
compare_53 = refl

compare_54 : equal_in ((list ((node 0) ∷ [])) ∷ []) 0 (node 0) (node 0) 100 ≡ answer true 99
compare_54 = refl

compare_55 : equal_in ((list ((node 2) ∷ [])) ∷ (list ((node 2) ∷ [])) ∷ (list ((node 2) ∷ [])) ∷ []) 0 (node 0) (node 1) 100 ≡ answer true 99
compare_55 = refl

compare_56 : equal_in ((list ((node 0) ∷ [])) ∷ (list ((node 1) ∷ [])) ∷ []) 0 (node 0) (node 1) 5 ≡ spent 0
compare_56 = refl

compare_57 : equal_in ((list ((node 0) ∷ [])) ∷ (list ((node 1) ∷ [])) ∷ []) 997 (node 0) (node 1) 100 ≡ too_deep 96
compare_57 = refl

compare_58 : equal_in ((list ((node 0) ∷ [])) ∷ (list ((node 1) ∷ [])) ∷ []) 997 (node 0) (node 1) 2 ≡ spent 0
compare_58 = refl

compare_59 : equal_in ((list ((node 2) ∷ [])) ∷ (list ((node 3) ∷ [])) ∷ (list ((node 4) ∷ [])) ∷ (list ((node 5) ∷ [])) ∷ (list ((integer (pos 1)) ∷ [])) ∷ (list ((integer (pos 1)) ∷ [])) ∷ []) 998 (node 0) (node 1) 100 ≡ answer true 97
compare_59 = refl

compare_60 : equal_in ((list ((node 2) ∷ [])) ∷ (list ((node 3) ∷ [])) ∷ (list ((node 4) ∷ [])) ∷ (list ((node 5) ∷ [])) ∷ (list ((node 6) ∷ [])) ∷ (list ((node 7) ∷ [])) ∷ (list ((integer (pos 1)) ∷ [])) ∷ (list ((integer (pos 1)) ∷ [])) ∷ []) 998 (node 0) (node 1) 100 ≡ too_deep 97
compare_60 = refl

compare_61 : equal_in ((list ((integer (pos 1)) ∷ [])) ∷ (list ((integer (pos 1)) ∷ [])) ∷ []) 1000 (node 0) (node 1) 100 ≡ answer true 99
compare_61 = refl

compare_62 : equal_in ((list ((node 2) ∷ [])) ∷ (list ((node 3) ∷ [])) ∷ (list []) ∷ (list []) ∷ []) 1000 (node 0) (node 1) 100 ≡ too_deep 99
compare_62 = refl

compare_63 : equal_in ((list ((node 2) ∷ [])) ∷ (list ((node 2) ∷ [])) ∷ (list ((integer (pos 1)) ∷ [])) ∷ []) 1000 (node 0) (node 1) 100 ≡ answer true 99
compare_63 = refl

compare_64 : equal_in ((list ((node 2) ∷ [])) ∷ (list ((integer (pos 1)) ∷ [])) ∷ (list ((integer (pos 1)) ∷ [])) ∷ []) 1000 (node 0) (node 1) 100 ≡ answer false 99
compare_64 = refl

compare_65 : less_in [] 0 (integer (pos 1)) (integer (pos 2)) 100 ≡ answer (Some true) 100
compare_65 = refl

compare_66 : less_in [] 0 (integer (pos 2)) (integer (pos 1)) 100 ≡ answer (Some false) 100
compare_66 = refl

compare_67 : less_in [] 0 (bool true) (integer (pos 2)) 100 ≡ answer (Some true) 100
compare_67 = refl

compare_68 : less_in [] 0 (text (codes "a")) (text (codes "b")) 100 ≡ answer (Some true) 99
compare_68 = refl

compare_69 : less_in [] 0 (text (codes "ab")) (text (codes "a")) 100 ≡ answer (Some false) 99
compare_69 = refl

compare_70 : less_in [] 0 (text (codes "B")) (text (codes "a")) 100 ≡ answer (Some true) 99
compare_70 = refl

compare_71 : less_in [] 0 (text []) (text []) 100 ≡ answer (Some false) 100
compare_71 = refl

compare_72 : less_in [] 0 (text (codes "abc")) (text (codes "abd")) 2 ≡ spent 0
compare_72 = refl

compare_73 : less_in [] 0 (integer (pos 1)) (text (codes "a")) 100 ≡ answer None 100
compare_73 = refl

compare_74 : less_in [] 0 none none 100 ≡ answer None 100
compare_74 = refl

compare_75 : less_in [] 0 (range (pos 0) (pos 3) (pos 1)) (range (pos 0) (pos 4) (pos 1)) 100 ≡ answer None 100
compare_75 = refl

compare_76 : less_in ((dict []) ∷ (dict []) ∷ []) 0 (node 0) (node 1) 100 ≡ answer None 100
compare_76 = refl

compare_77 : less_in ((list ((integer (pos 1)) ∷ [])) ∷ []) 0 (node 0) (integer (pos 1)) 100 ≡ answer None 100
compare_77 = refl

compare_78 : less_in ((list []) ∷ (tuple []) ∷ []) 0 (node 0) (node 1) 100 ≡ answer None 100
compare_78 = refl

compare_79 : less_in ((list []) ∷ (list []) ∷ []) 0 (node 0) (node 1) 100 ≡ answer (Some false) 100
compare_79 = refl

compare_80 : less_in ((list []) ∷ (list ((integer (pos 1)) ∷ [])) ∷ []) 0 (node 0) (node 1) 100 ≡ answer (Some true) 100
compare_80 = refl

compare_81 : less_in ((list ((integer (pos 1)) ∷ [])) ∷ (list []) ∷ []) 0 (node 0) (node 1) 100 ≡ answer (Some false) 100
compare_81 = refl

compare_82 : less_in ((list ((integer (pos 1)) ∷ (integer (pos 2)) ∷ [])) ∷ (list ((integer (pos 1)) ∷ (integer (pos 3)) ∷ [])) ∷ []) 0 (node 0) (node 1) 100 ≡ answer (Some true) 98
compare_82 = refl

compare_83 : less_in ((list ((integer (pos 1)) ∷ (integer (pos 3)) ∷ [])) ∷ (list ((integer (pos 1)) ∷ (integer (pos 2)) ∷ [])) ∷ []) 0 (node 0) (node 1) 100 ≡ answer (Some false) 98
compare_83 = refl

compare_84 : less_in ((tuple ((integer (pos 1)) ∷ (text (codes "ab")) ∷ [])) ∷ (tuple ((integer (pos 1)) ∷ (text (codes "ac")) ∷ [])) ∷ []) 0 (node 0) (node 1) 100 ≡ answer (Some true) 94
compare_84 = refl

compare_85 : less_in ((list ((integer (pos 1)) ∷ (integer (pos 2)) ∷ [])) ∷ (list ((integer (pos 1)) ∷ (integer (pos 2)) ∷ (integer (pos 0)) ∷ [])) ∷ []) 0 (node 0) (node 1) 100 ≡ answer (Some true) 98
compare_85 = refl

compare_86 : less_in ((list ((node 2) ∷ (node 3) ∷ [])) ∷ (list ((node 4) ∷ (node 5) ∷ [])) ∷ (list ((integer (pos 1)) ∷ [])) ∷ (list ((integer (pos 2)) ∷ [])) ∷ (list ((integer (pos 1)) ∷ [])) ∷ (list ((integer (pos 3)) ∷ [])) ∷ []) 0 (node 0) (node 1) 100 ≡ answer (Some true) 95
compare_86 = refl

compare_87 : less_in ((list ((node 2) ∷ [])) ∷ (list ((node 3) ∷ [])) ∷ (list ((integer (pos 1)) ∷ (integer (pos 5)) ∷ [])) ∷ (list ((integer (pos 1)) ∷ (integer (pos 6)) ∷ [])) ∷ []) 0 (node 0) (node 1) 100 ≡ answer (Some true) 95
compare_87 = refl

compare_88 : less_in ((list (none ∷ (integer (pos 1)) ∷ [])) ∷ (list (none ∷ (integer (pos 2)) ∷ [])) ∷ []) 0 (node 0) (node 1) 100 ≡ answer (Some true) 98
compare_88 = refl

compare_89 : less_in ((list (none ∷ [])) ∷ (list ((integer (pos 1)) ∷ [])) ∷ []) 0 (node 0) (node 1) 100 ≡ answer None 99
compare_89 = refl

compare_90 : less_in ((list ((node 2) ∷ [])) ∷ (list ((node 3) ∷ [])) ∷ (dict []) ∷ (dict []) ∷ []) 0 (node 0) (node 1) 100 ≡ answer (Some false) 99
compare_90 = refl

compare_91 : less_in ((list ((node 2) ∷ [])) ∷ (list ((node 3) ∷ [])) ∷ (dict (((p.single (p.integer (pos 1))), (integer (pos 1))) ∷ [])) ∷ (dict []) ∷ []) 0 (node 0) (node 1) 100 ≡ answer None 99
compare_91 = refl

compare_92 : less_in ((list ((text (codes "a")) ∷ (integer (pos 1)) ∷ [])) ∷ (list ((text (codes "b")) ∷ (integer (pos 2)) ∷ [])) ∷ []) 0 (node 0) (node 1) 100 ≡ answer (Some true) 97
compare_92 = refl

compare_93 : less_in ((list ((node 0) ∷ [])) ∷ []) 0 (node 0) (node 0) 100 ≡ answer (Some false) 99
compare_93 = refl

compare_94 : less_in ((list ((node 0) ∷ [])) ∷ (list ((node 1) ∷ [])) ∷ []) 0 (node 0) (node 1) 5 ≡ spent 0
compare_94 = refl

compare_95 : less_in ((list ((node 0) ∷ [])) ∷ (list ((node 1) ∷ [])) ∷ []) 997 (node 0) (node 1) 100 ≡ too_deep 96
compare_95 = refl

compare_96 : less_in ((list ((node 2) ∷ [])) ∷ (list ((node 3) ∷ [])) ∷ (list ((integer (pos 1)) ∷ [])) ∷ (list ((integer (pos 2)) ∷ [])) ∷ []) 1000 (node 0) (node 1) 100 ≡ too_deep 99
compare_96 = refl

compare_97 : less_in ((list ((node 2) ∷ [])) ∷ (list ((node 3) ∷ [])) ∷ (list ((integer (pos 1)) ∷ [])) ∷ (list ((integer (pos 2)) ∷ [])) ∷ []) 999 (node 0) (node 1) 100 ≡ answer (Some true) 97
compare_97 = refl

compare_98 : less_in ((list ((integer (pos 1)) ∷ [])) ∷ (list ((integer (pos 2)) ∷ [])) ∷ []) 0 (node 0) (node 1) 0 ≡ spent 0
compare_98 = refl

compare_99 : less_in ((list ((integer (pos 1)) ∷ [])) ∷ (list ((integer (pos 2)) ∷ [])) ∷ []) 0 (node 0) (node 1) 1 ≡ answer (Some true) 0
compare_99 = refl

compare_100 : greater_in [] 0 (integer (pos 2)) (integer (pos 1)) 100 ≡ answer (Some true) 100
compare_100 = refl

compare_101 : greater_in [] 0 (integer (pos 1)) (integer (pos 2)) 100 ≡ answer (Some false) 100
compare_101 = refl

compare_102 : greater_in [] 0 (text (codes "ab")) (text (codes "a")) 100 ≡ answer (Some true) 99
compare_102 = refl

compare_103 : greater_in ((list []) ∷ (list ((integer (pos 1)) ∷ [])) ∷ []) 0 (node 0) (node 1) 100 ≡ answer (Some false) 100
compare_103 = refl

compare_104 : greater_in ((list ((integer (pos 1)) ∷ (integer (pos 3)) ∷ [])) ∷ (list ((integer (pos 1)) ∷ (integer (pos 2)) ∷ [])) ∷ []) 0 (node 0) (node 1) 100 ≡ answer (Some true) 98
compare_104 = refl

compare_105 : greater_in ((tuple ((integer (pos 1)) ∷ (integer (pos 2)) ∷ [])) ∷ []) 0 (node 0) (node 0) 100 ≡ answer (Some false) 98
compare_105 = refl

compare_106 : greater_in ((list ((node 2) ∷ [])) ∷ (list ((node 3) ∷ [])) ∷ (list ((integer (pos 1)) ∷ (integer (pos 6)) ∷ [])) ∷ (list ((integer (pos 1)) ∷ (integer (pos 5)) ∷ [])) ∷ []) 0 (node 0) (node 1) 100 ≡ answer (Some true) 95
compare_106 = refl

compare_107 : greater_in [] 0 none (integer (pos 1)) 100 ≡ answer None 100
compare_107 = refl

compare_108 : greater_in ((list ((node 2) ∷ [])) ∷ (list ((node 3) ∷ [])) ∷ (dict (((p.single (p.integer (pos 1))), (integer (pos 1))) ∷ ((p.single (p.integer (pos 2))), (integer (pos 2))) ∷ [])) ∷ (dict (((p.single (p.integer (pos 2))), (integer (pos 3))) ∷ ((p.single (p.integer (pos 1))), (integer (pos 1))) ∷ [])) ∷ []) 0 (node 0) (node 1) 100 ≡ answer None 97
compare_108 = refl

compare_109 : greater_in ((list ((node 2) ∷ [])) ∷ (list ((node 3) ∷ [])) ∷ (dict (((p.single (p.integer (pos 2))), (integer (pos 3))) ∷ ((p.single (p.integer (pos 1))), (integer (pos 1))) ∷ [])) ∷ (dict (((p.single (p.integer (pos 1))), (integer (pos 1))) ∷ ((p.single (p.integer (pos 2))), (integer (pos 2))) ∷ [])) ∷ []) 0 (node 0) (node 1) 100 ≡ answer None 98
compare_109 = refl

compare_110 : less_in ((list ((node 2) ∷ [])) ∷ (list ((node 3) ∷ [])) ∷ (dict (((p.single (p.integer (pos 1))), (integer (pos 1))) ∷ ((p.single (p.integer (pos 2))), (integer (pos 2))) ∷ [])) ∷ (dict (((p.single (p.integer (pos 2))), (integer (pos 3))) ∷ ((p.single (p.integer (pos 1))), (integer (pos 1))) ∷ [])) ∷ []) 0 (node 0) (node 1) 100 ≡ answer None 97
compare_110 = refl

compare_111 : less_in ((list ((node 2) ∷ [])) ∷ (list ((node 3) ∷ [])) ∷ (dict (((p.single (p.integer (pos 2))), (integer (pos 3))) ∷ ((p.single (p.integer (pos 1))), (integer (pos 1))) ∷ [])) ∷ (dict (((p.single (p.integer (pos 1))), (integer (pos 1))) ∷ ((p.single (p.integer (pos 2))), (integer (pos 2))) ∷ [])) ∷ []) 0 (node 0) (node 1) 100 ≡ answer None 98
compare_111 = refl

compare_112 : greater_in ((list ((node 2) ∷ [])) ∷ (list ((node 3) ∷ [])) ∷ (dict (((p.single (p.integer (pos 1))), (node 4)) ∷ ((p.single (p.integer (pos 2))), (integer (pos 2))) ∷ [])) ∷ (dict (((p.single (p.integer (pos 2))), (integer (pos 3))) ∷ ((p.single (p.integer (pos 1))), (node 5)) ∷ [])) ∷ (list ((node 4) ∷ [])) ∷ (list ((node 5) ∷ [])) ∷ []) 990 (node 0) (node 1) 100 ≡ too_deep 89
compare_112 = refl

compare_113 : greater_in ((list ((node 2) ∷ [])) ∷ (list ((node 3) ∷ [])) ∷ (dict (((p.single (p.integer (pos 2))), (integer (pos 3))) ∷ ((p.single (p.integer (pos 1))), (node 4)) ∷ [])) ∷ (dict (((p.single (p.integer (pos 1))), (node 5)) ∷ ((p.single (p.integer (pos 2))), (integer (pos 2))) ∷ [])) ∷ (list ((node 4) ∷ [])) ∷ (list ((node 5) ∷ [])) ∷ []) 990 (node 0) (node 1) 100 ≡ answer None 98
compare_113 = refl

compare_114 : greater_in ((list ((node 2) ∷ [])) ∷ (list ((node 3) ∷ [])) ∷ (object (((codes "a"), (integer (pos 1))) ∷ ((codes "b"), (integer (pos 2))) ∷ [])) ∷ (object (((codes "b"), (integer (pos 3))) ∷ ((codes "a"), (integer (pos 1))) ∷ [])) ∷ []) 0 (node 0) (node 1) 100 ≡ answer None 97
compare_114 = refl

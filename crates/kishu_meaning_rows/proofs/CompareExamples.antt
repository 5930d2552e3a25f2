-- What comparisons answer on values of each kind, as CPython tells, with the steps that are left: computed on the definition. Made by tools/rows/call_rows.py.
use Rattle.std.proofs.Common.{◌≡◌, refl, [], ◌∷◌, true, false}
use Rattle.std.specs.Prelude.{pos, negsuc, codes}
use Rattle.kishu_meaning.specs.values.Keys as p
use Rattle.kishu_language.specs.declared.profile.Profile.TheVariants.{One}
use Rattle.kishu_language.specs.declared.tree.Comparison.TheVariants as comparisons
use Rattle.kishu_meaning.specs.values.Values.{none, bool, integer, text, range, builtin, node, list, tuple, dict, object, function, exception}
use Rattle.kishu_meaning_laws.specs.Bare.{bare}
use Rattle.kishu_meaning.specs.moments.Moment.{fresh, fine, raised, stopped}
use Rattle.kishu_meaning.specs.values.BuiltinNames.{class_names}
use Rattle.kishu_meaning.specs.comparing.Comparing.{compare}

comparison_1 : compare comparisons.Less (integer (pos 1)) (integer (pos 2)) (bare [] 100 0) ≡ fine true (bare [] 100 0)
unfolding class_names
comparison_1 = refl

comparison_2 : compare comparisons.LessEqual (integer (pos 2)) (integer (pos 1)) (bare [] 100 0) ≡ fine false (bare [] 100 0)
unfolding class_names
comparison_2 = refl

comparison_3 : compare comparisons.Greater (integer (pos 2)) (integer (pos 2)) (bare [] 100 0) ≡ fine false (bare [] 100 0)
unfolding class_names
comparison_3 = refl

comparison_4 : compare comparisons.GreaterEqual (bool true) (integer (pos 1)) (bare [] 100 0) ≡ fine true (bare [] 100 0)
unfolding class_names
comparison_4 = refl

comparison_5 : compare comparisons.Less (text (codes "a")) (text (codes "b")) (bare [] 100 0) ≡ fine true (bare [] 99 0)
unfolding class_names
comparison_5 = refl

comparison_6 : compare comparisons.GreaterEqual (text (codes "b")) (text (codes "a")) (bare [] 100 0) ≡ fine true (bare [] 99 0)
unfolding class_names
comparison_6 = refl

comparison_7 : compare comparisons.LessEqual (text (codes "ab")) (text (codes "abc")) (bare [] 100 0) ≡ fine true (bare [] 98 0)
unfolding class_names
comparison_7 = refl

comparison_8 : compare comparisons.Less (text []) (text []) (bare [] 100 0) ≡ fine false (bare [] 100 0)
unfolding class_names
comparison_8 = refl

comparison_9 : compare comparisons.LessEqual (node 0) (node 1) (bare ((list ((integer (pos 1)) ∷ [])) ∷ (list ((integer (pos 2)) ∷ [])) ∷ []) 100 0) ≡ fine true (bare ((list ((integer (pos 1)) ∷ [])) ∷ (list ((integer (pos 2)) ∷ [])) ∷ []) 99 0)
unfolding class_names
comparison_9 = refl

comparison_10 : compare comparisons.Greater (node 0) (node 1) (bare ((list ((integer (pos 1)) ∷ (integer (pos 2)) ∷ [])) ∷ (list ((integer (pos 1)) ∷ [])) ∷ []) 100 0) ≡ fine true (bare ((list ((integer (pos 1)) ∷ (integer (pos 2)) ∷ [])) ∷ (list ((integer (pos 1)) ∷ [])) ∷ []) 99 0)
unfolding class_names
comparison_10 = refl

comparison_11 : compare comparisons.GreaterEqual (node 0) (node 1) (bare ((tuple []) ∷ (tuple ((integer (pos 0)) ∷ [])) ∷ []) 100 0) ≡ fine false (bare ((tuple []) ∷ (tuple ((integer (pos 0)) ∷ [])) ∷ []) 100 0)
unfolding class_names
comparison_11 = refl

comparison_12 : compare comparisons.Less (node 0) (node 1) (bare ((list ((integer (pos 1)) ∷ (text (codes "a")) ∷ [])) ∷ (list ((integer (pos 1)) ∷ (text (codes "b")) ∷ [])) ∷ []) 100 0) ≡ fine true (bare ((list ((integer (pos 1)) ∷ (text (codes "a")) ∷ [])) ∷ (list ((integer (pos 1)) ∷ (text (codes "b")) ∷ [])) ∷ []) 96 0)
unfolding class_names
comparison_12 = refl

comparison_13 : compare comparisons.GreaterEqual (integer (pos 1)) (text (codes "a")) (bare [] 100 0) ≡ raised (fresh 23 ((text (codes "bad operand types for >=: 'int' and 'str'")) ∷ [])) (bare [] 100 0)
unfolding class_names
comparison_13 = refl

comparison_14 : compare comparisons.LessEqual (text (codes "a")) (integer (pos 1)) (bare [] 100 0) ≡ raised (fresh 23 ((text (codes "bad operand types for <=: 'str' and 'int'")) ∷ [])) (bare [] 100 0)
unfolding class_names
comparison_14 = refl

comparison_15 : compare comparisons.Less none none (bare [] 100 0) ≡ raised (fresh 23 ((text (codes "bad operand types for <: 'NoneType' and 'NoneType'")) ∷ [])) (bare [] 100 0)
unfolding class_names
comparison_15 = refl

comparison_16 : compare comparisons.LessEqual (node 0) (node 1) (bare ((dict []) ∷ (dict []) ∷ []) 100 0) ≡ raised (fresh 23 ((text (codes "bad operand types for <=: 'dict' and 'dict'")) ∷ [])) (bare ((dict []) ∷ (dict []) ∷ []) 100 0)
unfolding class_names
comparison_16 = refl

comparison_17 : compare comparisons.Greater (node 0) (node 1) (bare ((list ((integer (pos 1)) ∷ [])) ∷ (list ((text (codes "a")) ∷ [])) ∷ []) 100 0) ≡ raised (fresh 23 ((text (codes "bad operand types for >: 'list' and 'list'")) ∷ [])) (bare ((list ((integer (pos 1)) ∷ [])) ∷ (list ((text (codes "a")) ∷ [])) ∷ []) 99 0)
unfolding class_names
comparison_17 = refl

comparison_18 : compare comparisons.GreaterEqual (node 0) (node 1) (bare ((list ((integer (pos 1)) ∷ [])) ∷ (tuple ((integer (pos 1)) ∷ [])) ∷ []) 100 0) ≡ raised (fresh 23 ((text (codes "bad operand types for >=: 'list' and 'tuple'")) ∷ [])) (bare ((list ((integer (pos 1)) ∷ [])) ∷ (tuple ((integer (pos 1)) ∷ [])) ∷ []) 100 0)
unfolding class_names
comparison_18 = refl

comparison_19 : compare comparisons.Less (range (pos 0) (pos 1) (pos 1)) (range (pos 0) (pos 2) (pos 1)) (bare [] 100 0) ≡ raised (fresh 23 ((text (codes "bad operand types for <: 'range' and 'range'")) ∷ [])) (bare [] 100 0)
unfolding class_names
comparison_19 = refl

comparison_20 : compare comparisons.GreaterEqual (builtin 10) (builtin 10) (bare [] 100 0) ≡ raised (fresh 23 ((text (codes "bad operand types for >=: 'builtin' and 'builtin'")) ∷ [])) (bare [] 100 0)
unfolding class_names
comparison_20 = refl

comparison_21 : compare comparisons.LessEqual (node 0) (node 1) (bare ((list (none ∷ [])) ∷ (list (none ∷ [])) ∷ []) 100 0) ≡ fine true (bare ((list (none ∷ [])) ∷ (list (none ∷ [])) ∷ []) 99 0)
unfolding class_names
comparison_21 = refl

comparison_22 : compare comparisons.Less (node 0) (node 1) (bare ((list (none ∷ [])) ∷ (list ((integer (pos 1)) ∷ [])) ∷ []) 100 0) ≡ raised (fresh 23 ((text (codes "bad operand types for <: 'list' and 'list'")) ∷ [])) (bare ((list (none ∷ [])) ∷ (list ((integer (pos 1)) ∷ [])) ∷ []) 99 0)
unfolding class_names
comparison_22 = refl

comparison_23 : compare comparisons.LessEqual (integer (pos 1)) (integer (pos 2)) (bare [] 100 0) ≡ fine true (bare [] 100 0)
unfolding class_names
comparison_23 = refl

comparison_24 : compare comparisons.Greater (integer (pos 2)) (integer (pos 1)) (bare [] 100 0) ≡ fine true (bare [] 100 0)
unfolding class_names
comparison_24 = refl

comparison_25 : compare comparisons.GreaterEqual (integer (pos 2)) (integer (pos 2)) (bare [] 100 0) ≡ fine true (bare [] 100 0)
unfolding class_names
comparison_25 = refl

comparison_26 : compare comparisons.Less (bool true) (integer (pos 1)) (bare [] 100 0) ≡ fine false (bare [] 100 0)
unfolding class_names
comparison_26 = refl

comparison_27 : compare comparisons.GreaterEqual (text (codes "a")) (text (codes "b")) (bare [] 100 0) ≡ fine false (bare [] 99 0)
unfolding class_names
comparison_27 = refl

comparison_28 : compare comparisons.LessEqual (text (codes "b")) (text (codes "a")) (bare [] 100 0) ≡ fine false (bare [] 99 0)
unfolding class_names
comparison_28 = refl

comparison_29 : compare comparisons.Less (text (codes "ab")) (text (codes "abc")) (bare [] 100 0) ≡ fine true (bare [] 98 0)
unfolding class_names
comparison_29 = refl

comparison_30 : compare comparisons.LessEqual (text []) (text []) (bare [] 100 0) ≡ fine true (bare [] 100 0)
unfolding class_names
comparison_30 = refl

comparison_31 : compare comparisons.Greater (node 0) (node 1) (bare ((list ((integer (pos 1)) ∷ [])) ∷ (list ((integer (pos 2)) ∷ [])) ∷ []) 100 0) ≡ fine false (bare ((list ((integer (pos 1)) ∷ [])) ∷ (list ((integer (pos 2)) ∷ [])) ∷ []) 99 0)
unfolding class_names
comparison_31 = refl

comparison_32 : compare comparisons.GreaterEqual (node 0) (node 1) (bare ((list ((integer (pos 1)) ∷ (integer (pos 2)) ∷ [])) ∷ (list ((integer (pos 1)) ∷ [])) ∷ []) 100 0) ≡ fine true (bare ((list ((integer (pos 1)) ∷ (integer (pos 2)) ∷ [])) ∷ (list ((integer (pos 1)) ∷ [])) ∷ []) 99 0)
unfolding class_names
comparison_32 = refl

comparison_33 : compare comparisons.Less (node 0) (node 1) (bare ((tuple []) ∷ (tuple ((integer (pos 0)) ∷ [])) ∷ []) 100 0) ≡ fine true (bare ((tuple []) ∷ (tuple ((integer (pos 0)) ∷ [])) ∷ []) 100 0)
unfolding class_names
comparison_33 = refl

comparison_34 : compare comparisons.GreaterEqual (node 0) (node 1) (bare ((list ((integer (pos 1)) ∷ (text (codes "a")) ∷ [])) ∷ (list ((integer (pos 1)) ∷ (text (codes "b")) ∷ [])) ∷ []) 100 0) ≡ fine false (bare ((list ((integer (pos 1)) ∷ (text (codes "a")) ∷ [])) ∷ (list ((integer (pos 1)) ∷ (text (codes "b")) ∷ [])) ∷ []) 96 0)
unfolding class_names
comparison_34 = refl

comparison_35 : compare comparisons.LessEqual (integer (pos 1)) (text (codes "a")) (bare [] 100 0) ≡ raised (fresh 23 ((text (codes "bad operand types for <=: 'int' and 'str'")) ∷ [])) (bare [] 100 0)
unfolding class_names
comparison_35 = refl

comparison_36 : compare comparisons.Less (text (codes "a")) (integer (pos 1)) (bare [] 100 0) ≡ raised (fresh 23 ((text (codes "bad operand types for <: 'str' and 'int'")) ∷ [])) (bare [] 100 0)
unfolding class_names
comparison_36 = refl

comparison_37 : compare comparisons.LessEqual none none (bare [] 100 0) ≡ raised (fresh 23 ((text (codes "bad operand types for <=: 'NoneType' and 'NoneType'")) ∷ [])) (bare [] 100 0)
unfolding class_names
comparison_37 = refl

comparison_38 : compare comparisons.Greater (node 0) (node 1) (bare ((dict []) ∷ (dict []) ∷ []) 100 0) ≡ raised (fresh 23 ((text (codes "bad operand types for >: 'dict' and 'dict'")) ∷ [])) (bare ((dict []) ∷ (dict []) ∷ []) 100 0)
unfolding class_names
comparison_38 = refl

comparison_39 : compare comparisons.GreaterEqual (node 0) (node 1) (bare ((list ((integer (pos 1)) ∷ [])) ∷ (list ((text (codes "a")) ∷ [])) ∷ []) 100 0) ≡ raised (fresh 23 ((text (codes "bad operand types for >=: 'list' and 'list'")) ∷ [])) (bare ((list ((integer (pos 1)) ∷ [])) ∷ (list ((text (codes "a")) ∷ [])) ∷ []) 99 0)
unfolding class_names
comparison_39 = refl

comparison_40 : compare comparisons.Less (node 0) (node 1) (bare ((list ((integer (pos 1)) ∷ [])) ∷ (tuple ((integer (pos 1)) ∷ [])) ∷ []) 100 0) ≡ raised (fresh 23 ((text (codes "bad operand types for <: 'list' and 'tuple'")) ∷ [])) (bare ((list ((integer (pos 1)) ∷ [])) ∷ (tuple ((integer (pos 1)) ∷ [])) ∷ []) 100 0)
unfolding class_names
comparison_40 = refl

comparison_41 : compare comparisons.GreaterEqual (range (pos 0) (pos 1) (pos 1)) (range (pos 0) (pos 2) (pos 1)) (bare [] 100 0) ≡ raised (fresh 23 ((text (codes "bad operand types for >=: 'range' and 'range'")) ∷ [])) (bare [] 100 0)
unfolding class_names
comparison_41 = refl

comparison_42 : compare comparisons.LessEqual (builtin 10) (builtin 10) (bare [] 100 0) ≡ raised (fresh 23 ((text (codes "bad operand types for <=: 'builtin' and 'builtin'")) ∷ [])) (bare [] 100 0)
unfolding class_names
comparison_42 = refl

comparison_43 : compare comparisons.Less (node 0) (node 1) (bare ((list (none ∷ [])) ∷ (list (none ∷ [])) ∷ []) 100 0) ≡ fine false (bare ((list (none ∷ [])) ∷ (list (none ∷ [])) ∷ []) 99 0)
unfolding class_names
comparison_43 = refl

comparison_44 : compare comparisons.LessEqual (node 0) (node 1) (bare ((list (none ∷ [])) ∷ (list ((integer (pos 1)) ∷ [])) ∷ []) 100 0) ≡ raised (fresh 23 ((text (codes "bad operand types for <=: 'list' and 'list'")) ∷ [])) (bare ((list (none ∷ [])) ∷ (list ((integer (pos 1)) ∷ [])) ∷ []) 99 0)
unfolding class_names
comparison_44 = refl

comparison_45 : compare comparisons.Equal (integer (pos 1)) (bool true) (bare [] 100 0) ≡ fine true (bare [] 100 0)
unfolding class_names
comparison_45 = refl

comparison_46 : compare comparisons.Equal (integer (pos 1)) (text (codes "1")) (bare [] 100 0) ≡ fine false (bare [] 100 0)
unfolding class_names
comparison_46 = refl

comparison_47 : compare comparisons.Equal (text (codes "ab")) (text (codes "ab")) (bare [] 100 0) ≡ fine true (bare [] 98 0)
unfolding class_names
comparison_47 = refl

comparison_48 : compare comparisons.Equal (text (codes "ab")) (text (codes "ac")) (bare [] 100 0) ≡ fine false (bare [] 98 0)
unfolding class_names
comparison_48 = refl

comparison_49 : compare comparisons.Equal (node 0) (node 1) (bare ((list ((integer (pos 1)) ∷ (integer (pos 2)) ∷ [])) ∷ (list ((integer (pos 1)) ∷ (integer (pos 2)) ∷ [])) ∷ []) 100 0) ≡ fine true (bare ((list ((integer (pos 1)) ∷ (integer (pos 2)) ∷ [])) ∷ (list ((integer (pos 1)) ∷ (integer (pos 2)) ∷ [])) ∷ []) 98 0)
unfolding class_names
comparison_49 = refl

comparison_50 : compare comparisons.Equal (node 0) (node 1) (bare ((list ((integer (pos 1)) ∷ [])) ∷ (tuple ((integer (pos 1)) ∷ [])) ∷ []) 100 0) ≡ fine false (bare ((list ((integer (pos 1)) ∷ [])) ∷ (tuple ((integer (pos 1)) ∷ [])) ∷ []) 100 0)
unfolding class_names
comparison_50 = refl

comparison_51 : compare comparisons.Equal (node 0) (node 1) (bare ((dict (((p.single (p.integer (pos 1))), (integer (pos 2))) ∷ [])) ∷ (dict (((p.single (p.bool true)), (integer (pos 2))) ∷ [])) ∷ []) 100 0) ≡ fine true (bare ((dict (((p.single (p.integer (pos 1))), (integer (pos 2))) ∷ [])) ∷ (dict (((p.single (p.bool true)), (integer (pos 2))) ∷ [])) ∷ []) 99 0)
unfolding class_names
comparison_51 = refl

comparison_52 : compare comparisons.Equal none (bool false) (bare [] 100 0) ≡ fine false (bare [] 100 0)
unfolding class_names
comparison_52 = refl

comparison_53 : compare comparisons.Equal (range (pos 0) (pos 2) (pos 1)) (range (pos 0) (pos 2) (pos 1)) (bare [] 100 0) ≡ fine true (bare [] 100 0)
unfolding class_names
comparison_53 = refl

comparison_54 : compare comparisons.Equal (node 0) (node 0) (bare ((list ((integer (pos 1)) ∷ [])) ∷ []) 100 0) ≡ fine true (bare ((list ((integer (pos 1)) ∷ [])) ∷ []) 99 0)
unfolding class_names
comparison_54 = refl

comparison_55 : compare comparisons.Equal (node 0) (node 1) (bare ((function One (codes "def f(): pass") []) ∷ (function One (codes "def f(): pass") []) ∷ []) 100 0) ≡ fine false (bare ((function One (codes "def f(): pass") []) ∷ (function One (codes "def f(): pass") []) ∷ []) 100 0)
unfolding class_names
comparison_55 = refl

comparison_56 : compare comparisons.Equal (node 0) (node 1) (bare ((object (((codes "a"), (integer (pos 1))) ∷ [])) ∷ (object (((codes "a"), (integer (pos 1))) ∷ [])) ∷ []) 100 0) ≡ fine true (bare ((object (((codes "a"), (integer (pos 1))) ∷ [])) ∷ (object (((codes "a"), (integer (pos 1))) ∷ [])) ∷ []) 99 0)
unfolding class_names
comparison_56 = refl

comparison_57 : compare comparisons.NotEqual (integer (pos 1)) (bool true) (bare [] 100 0) ≡ fine false (bare [] 100 0)
unfolding class_names
comparison_57 = refl

comparison_58 : compare comparisons.NotEqual (integer (pos 1)) (text (codes "1")) (bare [] 100 0) ≡ fine true (bare [] 100 0)
unfolding class_names
comparison_58 = refl

comparison_59 : compare comparisons.NotEqual (text (codes "ab")) (text (codes "ab")) (bare [] 100 0) ≡ fine false (bare [] 98 0)
unfolding class_names
comparison_59 = refl

comparison_60 : compare comparisons.NotEqual (text (codes "ab")) (text (codes "ac")) (bare [] 100 0) ≡ fine true (bare [] 98 0)
unfolding class_names
comparison_60 = refl

comparison_61 : compare comparisons.NotEqual (node 0) (node 1) (bare ((list ((integer (pos 1)) ∷ (integer (pos 2)) ∷ [])) ∷ (list ((integer (pos 1)) ∷ (integer (pos 2)) ∷ [])) ∷ []) 100 0) ≡ fine false (bare ((list ((integer (pos 1)) ∷ (integer (pos 2)) ∷ [])) ∷ (list ((integer (pos 1)) ∷ (integer (pos 2)) ∷ [])) ∷ []) 98 0)
unfolding class_names
comparison_61 = refl

comparison_62 : compare comparisons.NotEqual (node 0) (node 1) (bare ((list ((integer (pos 1)) ∷ [])) ∷ (tuple ((integer (pos 1)) ∷ [])) ∷ []) 100 0) ≡ fine true (bare ((list ((integer (pos 1)) ∷ [])) ∷ (tuple ((integer (pos 1)) ∷ [])) ∷ []) 100 0)
unfolding class_names
comparison_62 = refl

comparison_63 : compare comparisons.NotEqual (node 0) (node 1) (bare ((dict (((p.single (p.integer (pos 1))), (integer (pos 2))) ∷ [])) ∷ (dict (((p.single (p.bool true)), (integer (pos 2))) ∷ [])) ∷ []) 100 0) ≡ fine false (bare ((dict (((p.single (p.integer (pos 1))), (integer (pos 2))) ∷ [])) ∷ (dict (((p.single (p.bool true)), (integer (pos 2))) ∷ [])) ∷ []) 99 0)
unfolding class_names
comparison_63 = refl

comparison_64 : compare comparisons.NotEqual none (bool false) (bare [] 100 0) ≡ fine true (bare [] 100 0)
unfolding class_names
comparison_64 = refl

comparison_65 : compare comparisons.NotEqual (range (pos 0) (pos 2) (pos 1)) (range (pos 0) (pos 2) (pos 1)) (bare [] 100 0) ≡ fine false (bare [] 100 0)
unfolding class_names
comparison_65 = refl

comparison_66 : compare comparisons.NotEqual (node 0) (node 0) (bare ((list ((integer (pos 1)) ∷ [])) ∷ []) 100 0) ≡ fine false (bare ((list ((integer (pos 1)) ∷ [])) ∷ []) 99 0)
unfolding class_names
comparison_66 = refl

comparison_67 : compare comparisons.NotEqual (node 0) (node 1) (bare ((function One (codes "def f(): pass") []) ∷ (function One (codes "def f(): pass") []) ∷ []) 100 0) ≡ fine true (bare ((function One (codes "def f(): pass") []) ∷ (function One (codes "def f(): pass") []) ∷ []) 100 0)
unfolding class_names
comparison_67 = refl

comparison_68 : compare comparisons.NotEqual (node 0) (node 1) (bare ((object (((codes "a"), (integer (pos 1))) ∷ [])) ∷ (object (((codes "a"), (integer (pos 1))) ∷ [])) ∷ []) 100 0) ≡ fine false (bare ((object (((codes "a"), (integer (pos 1))) ∷ [])) ∷ (object (((codes "a"), (integer (pos 1))) ∷ [])) ∷ []) 99 0)
unfolding class_names
comparison_68 = refl

comparison_69 : compare comparisons.In (text (codes "a")) (text (codes "banana")) (bare [] 100 0) ≡ fine true (bare [] 94 0)
unfolding class_names
comparison_69 = refl

comparison_70 : compare comparisons.In (text []) (text (codes "ab")) (bare [] 100 0) ≡ fine true (bare [] 98 0)
unfolding class_names
comparison_70 = refl

comparison_71 : compare comparisons.In (text (codes "x")) (text []) (bare [] 100 0) ≡ fine false (bare [] 100 0)
unfolding class_names
comparison_71 = refl

comparison_72 : compare comparisons.In (text (codes "nan")) (text (codes "banana")) (bare [] 100 0) ≡ fine true (bare [] 82 0)
unfolding class_names
comparison_72 = refl

comparison_73 : compare comparisons.In (integer (pos 1)) (text (codes "1")) (bare [] 100 0) ≡ raised (fresh 23 ((text (codes "bad operand types for in: 'int' and 'str'")) ∷ [])) (bare [] 100 0)
unfolding class_names
comparison_73 = refl

comparison_74 : compare comparisons.In none (text (codes "a")) (bare [] 100 0) ≡ raised (fresh 23 ((text (codes "bad operand types for in: 'NoneType' and 'str'")) ∷ [])) (bare [] 100 0)
unfolding class_names
comparison_74 = refl

comparison_75 : compare comparisons.In (integer (pos 2)) (node 0) (bare ((list ((integer (pos 1)) ∷ (integer (pos 2)) ∷ [])) ∷ []) 100 0) ≡ fine true (bare ((list ((integer (pos 1)) ∷ (integer (pos 2)) ∷ [])) ∷ []) 98 0)
unfolding class_names
comparison_75 = refl

comparison_76 : compare comparisons.In (bool true) (node 0) (bare ((tuple ((integer (pos 0)) ∷ (integer (pos 1)) ∷ [])) ∷ []) 100 0) ≡ fine true (bare ((tuple ((integer (pos 0)) ∷ (integer (pos 1)) ∷ [])) ∷ []) 98 0)
unfolding class_names
comparison_76 = refl

comparison_77 : compare comparisons.In (text (codes "a")) (node 0) (bare ((list []) ∷ []) 100 0) ≡ fine false (bare ((list []) ∷ []) 100 0)
unfolding class_names
comparison_77 = refl

comparison_78 : compare comparisons.In (text (codes "ab")) (node 0) (bare ((list ((text (codes "a")) ∷ (text (codes "ab")) ∷ [])) ∷ []) 100 0) ≡ fine true (bare ((list ((text (codes "a")) ∷ (text (codes "ab")) ∷ [])) ∷ []) 95 0)
unfolding class_names
comparison_78 = refl

comparison_79 : compare comparisons.In (integer (pos 1)) (node 0) (bare ((dict (((p.single (p.bool true)), (integer (pos 0))) ∷ [])) ∷ []) 100 0) ≡ fine true (bare ((dict (((p.single (p.bool true)), (integer (pos 0))) ∷ [])) ∷ []) 100 0)
unfolding class_names
comparison_79 = refl

comparison_80 : compare comparisons.In (node 0) (node 1) (bare ((list []) ∷ (dict []) ∷ []) 100 0) ≡ raised (fresh 23 ((text (codes "unhashable key: 'list'")) ∷ [])) (bare ((list []) ∷ (dict []) ∷ []) 100 0)
unfolding class_names
comparison_80 = refl

comparison_81 : compare comparisons.In (node 0) (node 1) (bare ((tuple ((integer (pos 1)) ∷ (integer (pos 2)) ∷ [])) ∷ (dict (((p.tuple ((p.integer (pos 1)) ∷ (p.integer (pos 2)) ∷ [])), (integer (pos 0))) ∷ [])) ∷ []) 100 0) ≡ fine true (bare ((tuple ((integer (pos 1)) ∷ (integer (pos 2)) ∷ [])) ∷ (dict (((p.tuple ((p.integer (pos 1)) ∷ (p.integer (pos 2)) ∷ [])), (integer (pos 0))) ∷ [])) ∷ []) 98 0)
unfolding class_names
comparison_81 = refl

comparison_82 : compare comparisons.In (integer (pos 3)) (range (pos 0) (pos 4) (pos 1)) (bare [] 100 0) ≡ fine true (bare [] 100 0)
unfolding class_names
comparison_82 = refl

comparison_83 : compare comparisons.In (integer (pos 3)) (range (pos 0) (pos 4) (pos 2)) (bare [] 100 0) ≡ fine false (bare [] 100 0)
unfolding class_names
comparison_83 = refl

comparison_84 : compare comparisons.In (integer (negsuc 0)) (range (pos 3) (negsuc 2) (negsuc 1)) (bare [] 100 0) ≡ fine true (bare [] 100 0)
unfolding class_names
comparison_84 = refl

comparison_85 : compare comparisons.In (text (codes "a")) (range (pos 0) (pos 3) (pos 1)) (bare [] 100 0) ≡ fine false (bare [] 100 0)
unfolding class_names
comparison_85 = refl

comparison_86 : compare comparisons.In (bool true) (range (pos 0) (pos 2) (pos 1)) (bare [] 100 0) ≡ fine true (bare [] 100 0)
unfolding class_names
comparison_86 = refl

comparison_87 : compare comparisons.In (integer (pos 1)) (integer (pos 5)) (bare [] 100 0) ≡ raised (fresh 23 ((text (codes "'int' object is not iterable")) ∷ [])) (bare [] 100 0)
unfolding class_names
comparison_87 = refl

comparison_88 : compare comparisons.In none none (bare [] 100 0) ≡ raised (fresh 23 ((text (codes "'NoneType' object is not iterable")) ∷ [])) (bare [] 100 0)
unfolding class_names
comparison_88 = refl

comparison_89 : compare comparisons.In (node 0) (node 1) (bare ((list ((integer (pos 1)) ∷ [])) ∷ (list ((node 2) ∷ [])) ∷ (list ((integer (pos 1)) ∷ [])) ∷ []) 100 0) ≡ fine true (bare ((list ((integer (pos 1)) ∷ [])) ∷ (list ((node 2) ∷ [])) ∷ (list ((integer (pos 1)) ∷ [])) ∷ []) 98 0)
unfolding class_names
comparison_89 = refl

comparison_90 : compare comparisons.In (integer (pos 1)) (node 0) (bare ((object []) ∷ []) 100 0) ≡ raised (fresh 23 ((text (codes "'SimpleNamespace' object is not iterable")) ∷ [])) (bare ((object []) ∷ []) 100 0)
unfolding class_names
comparison_90 = refl

comparison_91 : compare comparisons.In (integer (pos 1)) (node 0) (bare ((exception 24 []) ∷ []) 100 0) ≡ raised (fresh 23 ((text (codes "'ValueError' object is not iterable")) ∷ [])) (bare ((exception 24 []) ∷ []) 100 0)
unfolding class_names
comparison_91 = refl

comparison_92 : compare comparisons.NotIn (text (codes "a")) (text (codes "banana")) (bare [] 100 0) ≡ fine false (bare [] 94 0)
unfolding class_names
comparison_92 = refl

comparison_93 : compare comparisons.NotIn (text (codes "nan")) (text (codes "banana")) (bare [] 100 0) ≡ fine false (bare [] 82 0)
unfolding class_names
comparison_93 = refl

comparison_94 : compare comparisons.NotIn (integer (pos 2)) (node 0) (bare ((list ((integer (pos 1)) ∷ (integer (pos 2)) ∷ [])) ∷ []) 100 0) ≡ fine false (bare ((list ((integer (pos 1)) ∷ (integer (pos 2)) ∷ [])) ∷ []) 98 0)
unfolding class_names
comparison_94 = refl

comparison_95 : compare comparisons.NotIn (text (codes "ab")) (node 0) (bare ((list ((text (codes "a")) ∷ (text (codes "ab")) ∷ [])) ∷ []) 100 0) ≡ fine false (bare ((list ((text (codes "a")) ∷ (text (codes "ab")) ∷ [])) ∷ []) 95 0)
unfolding class_names
comparison_95 = refl

comparison_96 : compare comparisons.NotIn (node 0) (node 1) (bare ((tuple ((integer (pos 1)) ∷ (integer (pos 2)) ∷ [])) ∷ (dict (((p.tuple ((p.integer (pos 1)) ∷ (p.integer (pos 2)) ∷ [])), (integer (pos 0))) ∷ [])) ∷ []) 100 0) ≡ fine false (bare ((tuple ((integer (pos 1)) ∷ (integer (pos 2)) ∷ [])) ∷ (dict (((p.tuple ((p.integer (pos 1)) ∷ (p.integer (pos 2)) ∷ [])), (integer (pos 0))) ∷ [])) ∷ []) 98 0)
unfolding class_names
comparison_96 = refl

comparison_97 : compare comparisons.NotIn (integer (negsuc 0)) (range (pos 3) (negsuc 2) (negsuc 1)) (bare [] 100 0) ≡ fine false (bare [] 100 0)
unfolding class_names
comparison_97 = refl

comparison_98 : compare comparisons.NotIn (integer (pos 1)) (integer (pos 5)) (bare [] 100 0) ≡ raised (fresh 23 ((text (codes "'int' object is not iterable")) ∷ [])) (bare [] 100 0)
unfolding class_names
comparison_98 = refl

comparison_99 : compare comparisons.NotIn (integer (pos 1)) (node 0) (bare ((object []) ∷ []) 100 0) ≡ raised (fresh 23 ((text (codes "'SimpleNamespace' object is not iterable")) ∷ [])) (bare ((object []) ∷ []) 100 0)
unfolding class_names
comparison_99 = refl

comparison_100 : compare comparisons.NotIn (integer (pos 1)) (text (codes "1")) (bare [] 100 0) ≡ raised (fresh 23 ((text (codes "bad operand types for not in: 'int' and 'str'")) ∷ [])) (bare [] 100 0)
unfolding class_names
comparison_100 = refl

comparison_101 : compare comparisons.NotIn (integer (pos 1)) (integer (pos 5)) (bare [] 100 0) ≡ raised (fresh 23 ((text (codes "'int' object is not iterable")) ∷ [])) (bare [] 100 0)
unfolding class_names
comparison_101 = refl

comparison_102 : compare comparisons.Is (integer (pos 1)) (integer (pos 1)) (bare [] 100 0) ≡ fine true (bare [] 100 0)
unfolding class_names
comparison_102 = refl

comparison_103 : compare comparisons.Is (integer (pos 1)) (bool true) (bare [] 100 0) ≡ fine false (bare [] 100 0)
unfolding class_names
comparison_103 = refl

comparison_104 : compare comparisons.Is (text (codes "ab")) (text (codes "ab")) (bare [] 100 0) ≡ fine true (bare [] 98 0)
unfolding class_names
comparison_104 = refl

comparison_105 : compare comparisons.Is (text (codes "ab")) (text (codes "abc")) (bare [] 100 0) ≡ fine false (bare [] 98 0)
unfolding class_names
comparison_105 = refl

comparison_106 : compare comparisons.Is (node 0) (node 0) (bare ((list ((integer (pos 1)) ∷ [])) ∷ []) 100 0) ≡ fine true (bare ((list ((integer (pos 1)) ∷ [])) ∷ []) 100 0)
unfolding class_names
comparison_106 = refl

comparison_107 : compare comparisons.Is (node 0) (node 1) (bare ((list ((integer (pos 1)) ∷ [])) ∷ (list ((integer (pos 1)) ∷ [])) ∷ []) 100 0) ≡ fine false (bare ((list ((integer (pos 1)) ∷ [])) ∷ (list ((integer (pos 1)) ∷ [])) ∷ []) 100 0)
unfolding class_names
comparison_107 = refl

comparison_108 : compare comparisons.Is (range (pos 0) (pos 2) (pos 1)) (range (pos 0) (pos 2) (pos 1)) (bare [] 100 0) ≡ fine true (bare [] 100 0)
unfolding class_names
comparison_108 = refl

comparison_109 : compare comparisons.Is none none (bare [] 100 0) ≡ fine true (bare [] 100 0)
unfolding class_names
comparison_109 = refl

comparison_110 : compare comparisons.Is (builtin 10) (builtin 6) (bare [] 100 0) ≡ fine false (bare [] 100 0)
unfolding class_names
comparison_110 = refl

comparison_111 : compare comparisons.IsNot (integer (pos 1)) (integer (pos 1)) (bare [] 100 0) ≡ fine false (bare [] 100 0)
unfolding class_names
comparison_111 = refl

comparison_112 : compare comparisons.IsNot (integer (pos 1)) (bool true) (bare [] 100 0) ≡ fine true (bare [] 100 0)
unfolding class_names
comparison_112 = refl

comparison_113 : compare comparisons.IsNot (text (codes "ab")) (text (codes "ab")) (bare [] 100 0) ≡ fine false (bare [] 98 0)
unfolding class_names
comparison_113 = refl

comparison_114 : compare comparisons.IsNot (text (codes "ab")) (text (codes "abc")) (bare [] 100 0) ≡ fine true (bare [] 98 0)
unfolding class_names
comparison_114 = refl

comparison_115 : compare comparisons.IsNot (node 0) (node 0) (bare ((list ((integer (pos 1)) ∷ [])) ∷ []) 100 0) ≡ fine false (bare ((list ((integer (pos 1)) ∷ [])) ∷ []) 100 0)
unfolding class_names
comparison_115 = refl

comparison_116 : compare comparisons.IsNot (node 0) (node 1) (bare ((list ((integer (pos 1)) ∷ [])) ∷ (list ((integer (pos 1)) ∷ [])) ∷ []) 100 0) ≡ fine true (bare ((list ((integer (pos 1)) ∷ [])) ∷ (list ((integer (pos 1)) ∷ [])) ∷ []) 100 0)
unfolding class_names
comparison_116 = refl

comparison_117 : compare comparisons.IsNot (range (pos 0) (pos 2) (pos 1)) (range (pos 0) (pos 2) (pos 1)) (bare [] 100 0) ≡ fine false (bare [] 100 0)
unfolding class_names
comparison_117 = refl

comparison_118 : compare comparisons.IsNot none none (bare [] 100 0) ≡ fine false (bare [] 100 0)
unfolding class_names
comparison_118 = refl

comparison_119 : compare comparisons.IsNot (builtin 10) (builtin 6) (bare [] 100 0) ≡ fine true (bare [] 100 0)
unfolding class_names
comparison_119 = refl

comparison_120 : compare comparisons.Is (text (codes "abc")) (text (codes "abd")) (bare [] 2 0) ≡ stopped (bare [] 0 0)
unfolding class_names
comparison_120 = refl

comparison_121 : compare comparisons.Is (text (codes "abc")) (text (codes "abd")) (bare [] 3 0) ≡ fine false (bare [] 0 0)
unfolding class_names
comparison_121 = refl

comparison_122 : compare comparisons.In (text (codes "ab")) (text (codes "abc")) (bare [] 5 0) ≡ stopped (bare [] 0 0)
unfolding class_names
comparison_122 = refl

comparison_123 : compare comparisons.In (text (codes "ab")) (text (codes "abc")) (bare [] 6 0) ≡ fine true (bare [] 0 0)
unfolding class_names
comparison_123 = refl

comparison_124 : compare comparisons.Equal (node 0) (node 1) (bare ((list ((integer (pos 1)) ∷ (integer (pos 2)) ∷ [])) ∷ (list ((integer (pos 1)) ∷ (integer (pos 2)) ∷ [])) ∷ []) 1 0) ≡ stopped (bare ((list ((integer (pos 1)) ∷ (integer (pos 2)) ∷ [])) ∷ (list ((integer (pos 1)) ∷ (integer (pos 2)) ∷ [])) ∷ []) 0 0)
unfolding class_names
comparison_124 = refl

comparison_125 : compare comparisons.Equal (node 0) (node 1) (bare ((list ((integer (pos 1)) ∷ (integer (pos 2)) ∷ [])) ∷ (list ((integer (pos 1)) ∷ (integer (pos 2)) ∷ [])) ∷ []) 2 0) ≡ fine true (bare ((list ((integer (pos 1)) ∷ (integer (pos 2)) ∷ [])) ∷ (list ((integer (pos 1)) ∷ (integer (pos 2)) ∷ [])) ∷ []) 0 0)
unfolding class_names
comparison_125 = refl

comparison_126 : compare comparisons.Less (node 0) (node 1) (bare ((list ((text (codes "ab")) ∷ [])) ∷ (list ((text (codes "ac")) ∷ [])) ∷ []) 4 0) ≡ stopped (bare ((list ((text (codes "ab")) ∷ [])) ∷ (list ((text (codes "ac")) ∷ [])) ∷ []) 0 0)
unfolding class_names
comparison_126 = refl

comparison_127 : compare comparisons.Less (node 0) (node 1) (bare ((list ((text (codes "ab")) ∷ [])) ∷ (list ((text (codes "ac")) ∷ [])) ∷ []) 5 0) ≡ fine true (bare ((list ((text (codes "ab")) ∷ [])) ∷ (list ((text (codes "ac")) ∷ [])) ∷ []) 0 0)
unfolding class_names
comparison_127 = refl

comparison_128 : compare comparisons.Equal (node 0) (node 1) (bare ((list ((node 2) ∷ [])) ∷ (list ((node 3) ∷ [])) ∷ (list ((integer (pos 1)) ∷ [])) ∷ (list ((integer (pos 1)) ∷ [])) ∷ []) 100 999) ≡ fine true (bare ((list ((node 2) ∷ [])) ∷ (list ((node 3) ∷ [])) ∷ (list ((integer (pos 1)) ∷ [])) ∷ (list ((integer (pos 1)) ∷ [])) ∷ []) 98 999)
unfolding class_names
comparison_128 = refl

comparison_129 : compare comparisons.Equal (node 0) (node 1) (bare ((list ((node 2) ∷ [])) ∷ (list ((node 3) ∷ [])) ∷ (list ((integer (pos 1)) ∷ [])) ∷ (list ((integer (pos 1)) ∷ [])) ∷ []) 100 1000) ≡ raised (fresh 21 (text (codes "depth limit reached") ∷ [])) (bare ((list ((node 2) ∷ [])) ∷ (list ((node 3) ∷ [])) ∷ (list ((integer (pos 1)) ∷ [])) ∷ (list ((integer (pos 1)) ∷ [])) ∷ []) 99 1000)
unfolding class_names
comparison_129 = refl

comparison_130 : compare comparisons.Less (node 0) (node 1) (bare ((list ((node 2) ∷ [])) ∷ (list ((node 3) ∷ [])) ∷ (list ((integer (pos 1)) ∷ [])) ∷ (list ((integer (pos 1)) ∷ [])) ∷ []) 100 999) ≡ fine false (bare ((list ((node 2) ∷ [])) ∷ (list ((node 3) ∷ [])) ∷ (list ((integer (pos 1)) ∷ [])) ∷ (list ((integer (pos 1)) ∷ [])) ∷ []) 98 999)
unfolding class_names
comparison_130 = refl

comparison_131 : compare comparisons.Less (node 0) (node 1) (bare ((list ((node 2) ∷ [])) ∷ (list ((node 3) ∷ [])) ∷ (list ((integer (pos 1)) ∷ [])) ∷ (list ((integer (pos 1)) ∷ [])) ∷ []) 100 1000) ≡ raised (fresh 21 (text (codes "depth limit reached") ∷ [])) (bare ((list ((node 2) ∷ [])) ∷ (list ((node 3) ∷ [])) ∷ (list ((integer (pos 1)) ∷ [])) ∷ (list ((integer (pos 1)) ∷ [])) ∷ []) 99 1000)
unfolding class_names
comparison_131 = refl

-- What operators answer on values of each kind, as CPython tells, with the steps that are left: computed on the definition. Made by tools/rows/call_rows.py.
use Rattle.std.proofs.Common.{◌≡◌, refl, [], ◌∷◌, true, false}
use Rattle.std.specs.Prelude.{pos, negsuc, codes}
use Rattle.kishu_meaning.specs.values.Keys as p
use Rattle.kishu_language.specs.declared.profile.Profile.TheVariants.{One}
use Rattle.kishu_language.specs.declared.tree.Operator.TheVariants as operators
use Rattle.kishu_language.specs.declared.tree.Sign.TheVariants as signs
use Rattle.kishu_meaning.specs.values.Values.{none, bool, integer, text, range, builtin, class, node, list, tuple, dict, object, function, exception}
use Rattle.kishu_meaning_laws.specs.Bare.{bare}
use Rattle.kishu_meaning.specs.moments.Moment.{fresh, fine, raised, stopped}
use Rattle.kishu_meaning.specs.values.BuiltinNames.{class_names}
use Rattle.kishu_meaning.specs.values.Numbers.{power}
use Rattle.kishu_meaning.specs.calls.Operators.{truth, operate, signed_value}

operator_1 : operate operators.Add (integer (pos 1)) (bool true) (bare [] 100 0) ≡ fine (integer (pos 2)) (bare [] 100 0)
unfolding class_names power
operator_1 = refl

operator_2 : operate operators.Add (text (codes "ab")) (text (codes "c")) (bare [] 100 0) ≡ fine (text (codes "abc")) (bare [] 97 0)
unfolding class_names power
operator_2 = refl

operator_3 : operate operators.Add (text []) (text []) (bare [] 100 0) ≡ fine (text []) (bare [] 100 0)
unfolding class_names power
operator_3 = refl

operator_4 : operate operators.Add (node 0) (node 1) (bare ((list ((integer (pos 1)) ∷ [])) ∷ (list ((integer (pos 2)) ∷ (integer (pos 3)) ∷ [])) ∷ []) 100 0) ≡ fine (node 2) (bare ((list ((integer (pos 1)) ∷ [])) ∷ (list ((integer (pos 2)) ∷ (integer (pos 3)) ∷ [])) ∷ (list ((integer (pos 1)) ∷ (integer (pos 2)) ∷ (integer (pos 3)) ∷ [])) ∷ []) 97 0)
unfolding class_names power
operator_4 = refl

operator_5 : operate operators.Add (node 0) (node 1) (bare ((list []) ∷ (list []) ∷ []) 100 0) ≡ fine (node 2) (bare ((list []) ∷ (list []) ∷ (list []) ∷ []) 100 0)
unfolding class_names power
operator_5 = refl

operator_6 : operate operators.Add (node 0) (node 1) (bare ((tuple ((integer (pos 1)) ∷ [])) ∷ (tuple []) ∷ []) 100 0) ≡ fine (node 2) (bare ((tuple ((integer (pos 1)) ∷ [])) ∷ (tuple []) ∷ (tuple ((integer (pos 1)) ∷ [])) ∷ []) 99 0)
unfolding class_names power
operator_6 = refl

operator_7 : operate operators.Add (node 0) (node 0) (bare ((tuple []) ∷ []) 100 0) ≡ fine (node 1) (bare ((tuple []) ∷ (tuple []) ∷ []) 100 0)
unfolding class_names power
operator_7 = refl

operator_8 : operate operators.Multiply (text (codes "ab")) (integer (pos 3)) (bare [] 100 0) ≡ fine (text (codes "ababab")) (bare [] 94 0)
unfolding class_names power
operator_8 = refl

operator_9 : operate operators.Multiply (integer (pos 3)) (text (codes "ab")) (bare [] 100 0) ≡ fine (text (codes "ababab")) (bare [] 94 0)
unfolding class_names power
operator_9 = refl

operator_10 : operate operators.Multiply (text (codes "ab")) (integer (pos 0)) (bare [] 100 0) ≡ fine (text []) (bare [] 100 0)
unfolding class_names power
operator_10 = refl

operator_11 : operate operators.Multiply (text (codes "ab")) (integer (negsuc 1)) (bare [] 100 0) ≡ fine (text []) (bare [] 100 0)
unfolding class_names power
operator_11 = refl

operator_12 : operate operators.Multiply (bool true) (text (codes "a")) (bare [] 100 0) ≡ fine (text (codes "a")) (bare [] 99 0)
unfolding class_names power
operator_12 = refl

operator_13 : operate operators.Multiply (node 0) (integer (pos 2)) (bare ((list ((integer (pos 1)) ∷ (integer (pos 2)) ∷ [])) ∷ []) 100 0) ≡ fine (node 1) (bare ((list ((integer (pos 1)) ∷ (integer (pos 2)) ∷ [])) ∷ (list ((integer (pos 1)) ∷ (integer (pos 2)) ∷ (integer (pos 1)) ∷ (integer (pos 2)) ∷ [])) ∷ []) 96 0)
unfolding class_names power
operator_13 = refl

operator_14 : operate operators.Multiply (integer (pos 2)) (node 0) (bare ((list ((integer (pos 1)) ∷ [])) ∷ []) 100 0) ≡ fine (node 1) (bare ((list ((integer (pos 1)) ∷ [])) ∷ (list ((integer (pos 1)) ∷ (integer (pos 1)) ∷ [])) ∷ []) 98 0)
unfolding class_names power
operator_14 = refl

operator_15 : operate operators.Multiply (node 0) (integer (pos 3)) (bare ((tuple ((integer (pos 1)) ∷ [])) ∷ []) 100 0) ≡ fine (node 1) (bare ((tuple ((integer (pos 1)) ∷ [])) ∷ (tuple ((integer (pos 1)) ∷ (integer (pos 1)) ∷ (integer (pos 1)) ∷ [])) ∷ []) 97 0)
unfolding class_names power
operator_15 = refl

operator_16 : operate operators.Multiply (bool false) (node 0) (bare ((tuple ((integer (pos 1)) ∷ [])) ∷ []) 100 0) ≡ fine (node 1) (bare ((tuple ((integer (pos 1)) ∷ [])) ∷ (tuple []) ∷ []) 100 0)
unfolding class_names power
operator_16 = refl

operator_17 : operate operators.Multiply (node 0) (integer (pos 5)) (bare ((list []) ∷ []) 100 0) ≡ fine (node 1) (bare ((list []) ∷ (list []) ∷ []) 100 0)
unfolding class_names power
operator_17 = refl

operator_18 : operate operators.Add (integer (pos 1)) (text (codes "a")) (bare [] 100 0) ≡ raised (fresh 23 ((text (codes "bad operand types for +: 'int' and 'str'")) ∷ [])) (bare [] 100 0)
unfolding class_names power
operator_18 = refl

operator_19 : operate operators.Add (text (codes "a")) (integer (pos 1)) (bare [] 100 0) ≡ raised (fresh 23 ((text (codes "bad operand types for +: 'str' and 'int'")) ∷ [])) (bare [] 100 0)
unfolding class_names power
operator_19 = refl

operator_20 : operate operators.Add (node 0) (node 1) (bare ((list ((integer (pos 1)) ∷ [])) ∷ (tuple ((integer (pos 1)) ∷ [])) ∷ []) 100 0) ≡ raised (fresh 23 ((text (codes "bad operand types for +: 'list' and 'tuple'")) ∷ [])) (bare ((list ((integer (pos 1)) ∷ [])) ∷ (tuple ((integer (pos 1)) ∷ [])) ∷ []) 100 0)
unfolding class_names power
operator_20 = refl

operator_21 : operate operators.Add none none (bare [] 100 0) ≡ raised (fresh 23 ((text (codes "bad operand types for +: 'NoneType' and 'NoneType'")) ∷ [])) (bare [] 100 0)
unfolding class_names power
operator_21 = refl

operator_22 : operate operators.Add (node 0) (node 1) (bare ((dict []) ∷ (dict []) ∷ []) 100 0) ≡ raised (fresh 23 ((text (codes "bad operand types for +: 'dict' and 'dict'")) ∷ [])) (bare ((dict []) ∷ (dict []) ∷ []) 100 0)
unfolding class_names power
operator_22 = refl

operator_23 : operate operators.Multiply (text (codes "a")) (text (codes "b")) (bare [] 100 0) ≡ raised (fresh 23 ((text (codes "bad operand types for *: 'str' and 'str'")) ∷ [])) (bare [] 100 0)
unfolding class_names power
operator_23 = refl

operator_24 : operate operators.Multiply (node 0) (node 1) (bare ((list ((integer (pos 1)) ∷ [])) ∷ (list ((integer (pos 2)) ∷ [])) ∷ []) 100 0) ≡ raised (fresh 23 ((text (codes "bad operand types for *: 'list' and 'list'")) ∷ [])) (bare ((list ((integer (pos 1)) ∷ [])) ∷ (list ((integer (pos 2)) ∷ [])) ∷ []) 100 0)
unfolding class_names power
operator_24 = refl

operator_25 : operate operators.Multiply none (integer (pos 2)) (bare [] 100 0) ≡ raised (fresh 23 ((text (codes "bad operand types for *: 'NoneType' and 'int'")) ∷ [])) (bare [] 100 0)
unfolding class_names power
operator_25 = refl

operator_26 : operate operators.Subtract (text (codes "a")) (text (codes "b")) (bare [] 100 0) ≡ raised (fresh 23 ((text (codes "bad operand types for -: 'str' and 'str'")) ∷ [])) (bare [] 100 0)
unfolding class_names power
operator_26 = refl

operator_27 : operate operators.Subtract (node 0) (node 1) (bare ((list ((integer (pos 1)) ∷ [])) ∷ (list ((integer (pos 1)) ∷ [])) ∷ []) 100 0) ≡ raised (fresh 23 ((text (codes "bad operand types for -: 'list' and 'list'")) ∷ [])) (bare ((list ((integer (pos 1)) ∷ [])) ∷ (list ((integer (pos 1)) ∷ [])) ∷ []) 100 0)
unfolding class_names power
operator_27 = refl

operator_28 : operate operators.Subtract (bool true) (bool true) (bare [] 100 0) ≡ fine (integer (pos 0)) (bare [] 100 0)
unfolding class_names power
operator_28 = refl

operator_29 : operate operators.FloorDivide (text (codes "a")) (integer (pos 2)) (bare [] 100 0) ≡ raised (fresh 23 ((text (codes "bad operand types for //: 'str' and 'int'")) ∷ [])) (bare [] 100 0)
unfolding class_names power
operator_29 = refl

operator_30 : operate operators.FloorDivide (node 0) (node 1) (bare ((list []) ∷ (list []) ∷ []) 100 0) ≡ raised (fresh 23 ((text (codes "bad operand types for //: 'list' and 'list'")) ∷ [])) (bare ((list []) ∷ (list []) ∷ []) 100 0)
unfolding class_names power
operator_30 = refl

operator_31 : operate operators.Modulo (text (codes "a")) (integer (pos 1)) (bare [] 100 0) ≡ raised (fresh 23 ((text (codes "bad operand types for %: 'str' and 'int'")) ∷ [])) (bare [] 100 0)
unfolding class_names power
operator_31 = refl

operator_32 : operate operators.Modulo none (integer (pos 1)) (bare [] 100 0) ≡ raised (fresh 23 ((text (codes "bad operand types for %: 'NoneType' and 'int'")) ∷ [])) (bare [] 100 0)
unfolding class_names power
operator_32 = refl

operator_33 : operate operators.Power (text (codes "a")) (integer (pos 2)) (bare [] 100 0) ≡ raised (fresh 23 ((text (codes "bad operand types for **: 'str' and 'int'")) ∷ [])) (bare [] 100 0)
unfolding class_names power
operator_33 = refl

operator_34 : operate operators.Power (integer (pos 2)) none (bare [] 100 0) ≡ raised (fresh 23 ((text (codes "bad operand types for **: 'int' and 'NoneType'")) ∷ [])) (bare [] 100 0)
unfolding class_names power
operator_34 = refl

operator_35 : operate operators.Power (bool true) (integer (pos 3)) (bare [] 100 0) ≡ fine (integer (pos 1)) (bare [] 100 0)
unfolding class_names power
operator_35 = refl

operator_36 : operate operators.Add (builtin 10) (builtin 6) (bare [] 100 0) ≡ raised (fresh 23 ((text (codes "bad operand types for +: 'builtin' and 'builtin'")) ∷ [])) (bare [] 100 0)
unfolding class_names power
operator_36 = refl

operator_37 : operate operators.Add (range (pos 0) (pos 1) (pos 1)) (range (pos 0) (pos 1) (pos 1)) (bare [] 100 0) ≡ raised (fresh 23 ((text (codes "bad operand types for +: 'range' and 'range'")) ∷ [])) (bare [] 100 0)
unfolding class_names power
operator_37 = refl

operator_38 : operate operators.Subtract (class 2) (integer (pos 1)) (bare [] 100 0) ≡ raised (fresh 23 ((text (codes "bad operand types for -: 'class' and 'int'")) ∷ [])) (bare [] 100 0)
unfolding class_names power
operator_38 = refl

operator_39 : operate operators.Multiply (range (pos 0) (pos 2) (pos 1)) (integer (pos 2)) (bare [] 100 0) ≡ raised (fresh 23 ((text (codes "bad operand types for *: 'range' and 'int'")) ∷ [])) (bare [] 100 0)
unfolding class_names power
operator_39 = refl

operator_40 : operate operators.Add (node 0) (node 1) (bare ((exception 24 []) ∷ (exception 24 []) ∷ []) 100 0) ≡ raised (fresh 23 ((text (codes "bad operand types for +: 'ValueError' and 'ValueError'")) ∷ [])) (bare ((exception 24 []) ∷ (exception 24 []) ∷ []) 100 0)
unfolding class_names power
operator_40 = refl

operator_41 : operate operators.Add (node 0) (integer (pos 1)) (bare ((function One (codes "def f(): pass") []) ∷ []) 100 0) ≡ raised (fresh 23 ((text (codes "bad operand types for +: 'function' and 'int'")) ∷ [])) (bare ((function One (codes "def f(): pass") []) ∷ []) 100 0)
unfolding class_names power
operator_41 = refl

operator_42 : operate operators.Add (text (codes "ab")) (text (codes "cd")) (bare [] 3 0) ≡ stopped (bare [] 0 0)
unfolding class_names power
operator_42 = refl

operator_43 : operate operators.Add (text (codes "ab")) (text (codes "cd")) (bare [] 4 0) ≡ fine (text (codes "abcd")) (bare [] 0 0)
unfolding class_names power
operator_43 = refl

operator_44 : operate operators.Add (node 0) (node 1) (bare ((list ((integer (pos 1)) ∷ [])) ∷ (list ((integer (pos 2)) ∷ [])) ∷ []) 1 0) ≡ stopped (bare ((list ((integer (pos 1)) ∷ [])) ∷ (list ((integer (pos 2)) ∷ [])) ∷ []) 0 0)
unfolding class_names power
operator_44 = refl

operator_45 : operate operators.Add (node 0) (node 1) (bare ((list ((integer (pos 1)) ∷ [])) ∷ (list ((integer (pos 2)) ∷ [])) ∷ []) 2 0) ≡ fine (node 2) (bare ((list ((integer (pos 1)) ∷ [])) ∷ (list ((integer (pos 2)) ∷ [])) ∷ (list ((integer (pos 1)) ∷ (integer (pos 2)) ∷ [])) ∷ []) 0 0)
unfolding class_names power
operator_45 = refl

operator_46 : operate operators.Multiply (text (codes "ab")) (integer (pos 3)) (bare [] 5 0) ≡ stopped (bare [] 0 0)
unfolding class_names power
operator_46 = refl

operator_47 : operate operators.Multiply (text (codes "ab")) (integer (pos 3)) (bare [] 6 0) ≡ fine (text (codes "ababab")) (bare [] 0 0)
unfolding class_names power
operator_47 = refl

operator_48 : operate operators.Multiply (node 0) (integer (pos 2)) (bare ((tuple ((integer (pos 1)) ∷ (integer (pos 2)) ∷ [])) ∷ []) 3 0) ≡ stopped (bare ((tuple ((integer (pos 1)) ∷ (integer (pos 2)) ∷ [])) ∷ []) 0 0)
unfolding class_names power
operator_48 = refl

operator_49 : operate operators.Multiply (node 0) (integer (pos 2)) (bare ((tuple ((integer (pos 1)) ∷ (integer (pos 2)) ∷ [])) ∷ []) 4 0) ≡ fine (node 1) (bare ((tuple ((integer (pos 1)) ∷ (integer (pos 2)) ∷ [])) ∷ (tuple ((integer (pos 1)) ∷ (integer (pos 2)) ∷ (integer (pos 1)) ∷ (integer (pos 2)) ∷ [])) ∷ []) 0 0)
unfolding class_names power
operator_49 = refl

operator_50 : operate operators.Multiply (text (codes "a")) (integer (pos 1000000000000000000000000000000)) (bare [] 100 0) ≡ stopped (bare [] 0 0)
unfolding class_names power
operator_50 = refl

operator_51 : operate operators.Add (integer (pos 1)) (integer (pos 2)) (bare [] 0 0) ≡ fine (integer (pos 3)) (bare [] 0 0)
unfolding class_names power
operator_51 = refl

operator_52 : truth none (bare [] 100 0) ≡ fine false (bare [] 100 0)
unfolding class_names power
operator_52 = refl

operator_53 : truth (bool true) (bare [] 100 0) ≡ fine true (bare [] 100 0)
unfolding class_names power
operator_53 = refl

operator_54 : truth (bool false) (bare [] 100 0) ≡ fine false (bare [] 100 0)
unfolding class_names power
operator_54 = refl

operator_55 : truth (integer (pos 0)) (bare [] 100 0) ≡ fine false (bare [] 100 0)
unfolding class_names power
operator_55 = refl

operator_56 : truth (integer (pos 1)) (bare [] 100 0) ≡ fine true (bare [] 100 0)
unfolding class_names power
operator_56 = refl

operator_57 : truth (integer (negsuc 6)) (bare [] 100 0) ≡ fine true (bare [] 100 0)
unfolding class_names power
operator_57 = refl

operator_58 : truth (text []) (bare [] 100 0) ≡ fine false (bare [] 100 0)
unfolding class_names power
operator_58 = refl

operator_59 : truth (text (codes "a")) (bare [] 100 0) ≡ fine true (bare [] 100 0)
unfolding class_names power
operator_59 = refl

operator_60 : truth (range (pos 0) (pos 0) (pos 1)) (bare [] 100 0) ≡ fine false (bare [] 100 0)
unfolding class_names power
operator_60 = refl

operator_61 : truth (range (pos 0) (pos 3) (pos 1)) (bare [] 100 0) ≡ fine true (bare [] 100 0)
unfolding class_names power
operator_61 = refl

operator_62 : truth (builtin 10) (bare [] 100 0) ≡ fine true (bare [] 100 0)
unfolding class_names power
operator_62 = refl

operator_63 : truth (class 3) (bare [] 100 0) ≡ fine true (bare [] 100 0)
unfolding class_names power
operator_63 = refl

operator_64 : truth (node 0) (bare ((list []) ∷ []) 100 0) ≡ fine false (bare ((list []) ∷ []) 100 0)
unfolding class_names power
operator_64 = refl

operator_65 : truth (node 0) (bare ((list ((integer (pos 0)) ∷ [])) ∷ []) 100 0) ≡ fine true (bare ((list ((integer (pos 0)) ∷ [])) ∷ []) 100 0)
unfolding class_names power
operator_65 = refl

operator_66 : truth (node 0) (bare ((tuple []) ∷ []) 100 0) ≡ fine false (bare ((tuple []) ∷ []) 100 0)
unfolding class_names power
operator_66 = refl

operator_67 : truth (node 0) (bare ((tuple (none ∷ [])) ∷ []) 100 0) ≡ fine true (bare ((tuple (none ∷ [])) ∷ []) 100 0)
unfolding class_names power
operator_67 = refl

operator_68 : truth (node 0) (bare ((dict []) ∷ []) 100 0) ≡ fine false (bare ((dict []) ∷ []) 100 0)
unfolding class_names power
operator_68 = refl

operator_69 : truth (node 0) (bare ((dict (((p.single (p.integer (pos 1))), (integer (pos 2))) ∷ [])) ∷ []) 100 0) ≡ fine true (bare ((dict (((p.single (p.integer (pos 1))), (integer (pos 2))) ∷ [])) ∷ []) 100 0)
unfolding class_names power
operator_69 = refl

operator_70 : truth (node 0) (bare ((object []) ∷ []) 100 0) ≡ fine true (bare ((object []) ∷ []) 100 0)
unfolding class_names power
operator_70 = refl

operator_71 : truth (node 0) (bare ((function One (codes "def f(): pass") []) ∷ []) 100 0) ≡ fine true (bare ((function One (codes "def f(): pass") []) ∷ []) 100 0)
unfolding class_names power
operator_71 = refl

operator_72 : truth (node 0) (bare ((exception 24 []) ∷ []) 100 0) ≡ fine true (bare ((exception 24 []) ∷ []) 100 0)
unfolding class_names power
operator_72 = refl

operator_73 : signed_value signs.Plus (integer (pos 5)) (bare [] 100 0) ≡ fine (integer (pos 5)) (bare [] 100 0)
unfolding class_names power
operator_73 = refl

operator_74 : signed_value signs.Plus (integer (negsuc 4)) (bare [] 100 0) ≡ fine (integer (negsuc 4)) (bare [] 100 0)
unfolding class_names power
operator_74 = refl

operator_75 : signed_value signs.Plus (bool true) (bare [] 100 0) ≡ fine (integer (pos 1)) (bare [] 100 0)
unfolding class_names power
operator_75 = refl

operator_76 : signed_value signs.Plus (integer (pos 170141183460469231731687303715884105727)) (bare [] 100 0) ≡ fine (integer (pos 170141183460469231731687303715884105727)) (bare [] 100 0)
unfolding class_names power
operator_76 = refl

operator_77 : signed_value signs.Plus (integer (negsuc 170141183460469231731687303715884105727)) (bare [] 100 0) ≡ fine (integer (negsuc 170141183460469231731687303715884105727)) (bare [] 100 0)
unfolding class_names power
operator_77 = refl

operator_78 : signed_value signs.Plus (text (codes "a")) (bare [] 100 0) ≡ raised (fresh 23 ((text (codes "bad operand type for +: 'str'")) ∷ [])) (bare [] 100 0)
unfolding class_names power
operator_78 = refl

operator_79 : signed_value signs.Plus none (bare [] 100 0) ≡ raised (fresh 23 ((text (codes "bad operand type for +: 'NoneType'")) ∷ [])) (bare [] 100 0)
unfolding class_names power
operator_79 = refl

operator_80 : signed_value signs.Plus (node 0) (bare ((list []) ∷ []) 100 0) ≡ raised (fresh 23 ((text (codes "bad operand type for +: 'list'")) ∷ [])) (bare ((list []) ∷ []) 100 0)
unfolding class_names power
operator_80 = refl

operator_81 : signed_value signs.Plus (builtin 10) (bare [] 100 0) ≡ raised (fresh 23 ((text (codes "bad operand type for +: 'builtin'")) ∷ [])) (bare [] 100 0)
unfolding class_names power
operator_81 = refl

operator_82 : signed_value signs.Plus (range (pos 0) (pos 1) (pos 1)) (bare [] 100 0) ≡ raised (fresh 23 ((text (codes "bad operand type for +: 'range'")) ∷ [])) (bare [] 100 0)
unfolding class_names power
operator_82 = refl

operator_83 : signed_value signs.Minus (integer (pos 5)) (bare [] 100 0) ≡ fine (integer (negsuc 4)) (bare [] 100 0)
unfolding class_names power
operator_83 = refl

operator_84 : signed_value signs.Minus (integer (negsuc 4)) (bare [] 100 0) ≡ fine (integer (pos 5)) (bare [] 100 0)
unfolding class_names power
operator_84 = refl

operator_85 : signed_value signs.Minus (bool true) (bare [] 100 0) ≡ fine (integer (negsuc 0)) (bare [] 100 0)
unfolding class_names power
operator_85 = refl

operator_86 : signed_value signs.Minus (integer (pos 170141183460469231731687303715884105727)) (bare [] 100 0) ≡ fine (integer (negsuc 170141183460469231731687303715884105726)) (bare [] 100 0)
unfolding class_names power
operator_86 = refl

operator_87 : signed_value signs.Minus (integer (negsuc 170141183460469231731687303715884105727)) (bare [] 100 0) ≡ raised (fresh 10 ((text (codes "whole number too large")) ∷ [])) (bare [] 100 0)
unfolding class_names power
operator_87 = refl

operator_88 : signed_value signs.Minus (text (codes "a")) (bare [] 100 0) ≡ raised (fresh 23 ((text (codes "bad operand type for -: 'str'")) ∷ [])) (bare [] 100 0)
unfolding class_names power
operator_88 = refl

operator_89 : signed_value signs.Minus none (bare [] 100 0) ≡ raised (fresh 23 ((text (codes "bad operand type for -: 'NoneType'")) ∷ [])) (bare [] 100 0)
unfolding class_names power
operator_89 = refl

operator_90 : signed_value signs.Minus (node 0) (bare ((list []) ∷ []) 100 0) ≡ raised (fresh 23 ((text (codes "bad operand type for -: 'list'")) ∷ [])) (bare ((list []) ∷ []) 100 0)
unfolding class_names power
operator_90 = refl

operator_91 : signed_value signs.Minus (builtin 10) (bare [] 100 0) ≡ raised (fresh 23 ((text (codes "bad operand type for -: 'builtin'")) ∷ [])) (bare [] 100 0)
unfolding class_names power
operator_91 = refl

operator_92 : signed_value signs.Minus (range (pos 0) (pos 1) (pos 1)) (bare [] 100 0) ≡ raised (fresh 23 ((text (codes "bad operand type for -: 'range'")) ∷ [])) (bare [] 100 0)
unfolding class_names power
operator_92 = refl

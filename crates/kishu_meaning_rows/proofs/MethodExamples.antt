-- What some calls of methods answer and leave, as CPython tells where the languages agree, with the steps that are left: computed on the definition. Made by tools/rows/values.py.
use Rattle.std.proofs.Common.{◌≡◌, refl, [], ◌∷◌, true, false}
use Rattle.std.specs.Prelude.{pos, negsuc, codes}
use Rattle.std.specs.Str.{chars}
use Rattle.kishu_meaning.specs.values.Keys as p
use Rattle.kishu_meaning.specs.values.Values.{none, bool, integer, text, range, builtin, class, node, list, tuple, dict, object, function, exception}
use Rattle.kishu_language.specs.declared.profile.Profile.TheVariants.{One}
use Rattle.kishu_meaning.specs.moments.Moment.{fresh, fine, raised, stopped}
use Rattle.kishu_meaning.specs.values.BuiltinNames.{class_names}
use Rattle.kishu_meaning.specs.calls.Methods.{has_method, call_method}
use Rattle.kishu_meaning_laws.specs.Bare.{bare}

method_1 : call_method (node 0) (codes "append") ((integer (pos 1)) ∷ []) (bare ((list []) ∷ []) 100 0) ≡ fine none (bare ((list ((integer (pos 1)) ∷ [])) ∷ []) 100 0)
unfolding chars class_names
method_1 = refl

method_2 : call_method (node 0) (codes "append") ((node 1) ∷ []) (bare ((list ((integer (pos 1)) ∷ [])) ∷ (list ((integer (pos 2)) ∷ [])) ∷ []) 100 0) ≡ fine none (bare ((list ((integer (pos 1)) ∷ (node 1) ∷ [])) ∷ (list ((integer (pos 2)) ∷ [])) ∷ []) 100 0)
unfolding chars class_names
method_2 = refl

method_3 : call_method (node 0) (codes "append") ((node 0) ∷ []) (bare ((list ((integer (pos 4)) ∷ (integer (pos 5)) ∷ [])) ∷ []) 100 0) ≡ fine none (bare ((list ((integer (pos 4)) ∷ (integer (pos 5)) ∷ (node 0) ∷ [])) ∷ []) 100 0)
unfolding chars class_names
method_3 = refl

method_4 : call_method (node 0) (codes "append") [] (bare ((list []) ∷ []) 100 0) ≡ raised (fresh 23 ((text (codes "append() got bad arguments")) ∷ [])) (bare ((list []) ∷ []) 100 0)
unfolding chars class_names
method_4 = refl

method_5 : call_method (node 0) (codes "append") ((integer (pos 1)) ∷ (integer (pos 2)) ∷ []) (bare ((list []) ∷ []) 100 0) ≡ raised (fresh 23 ((text (codes "append() got bad arguments")) ∷ [])) (bare ((list []) ∷ []) 100 0)
unfolding chars class_names
method_5 = refl

method_6 : call_method (node 0) (codes "pop") [] (bare ((list ((integer (pos 1)) ∷ (integer (pos 2)) ∷ [])) ∷ []) 100 0) ≡ fine (integer (pos 2)) (bare ((list ((integer (pos 1)) ∷ [])) ∷ []) 100 0)
unfolding chars class_names
method_6 = refl

method_7 : call_method (node 0) (codes "pop") [] (bare ((list []) ∷ []) 100 0) ≡ raised (fresh 15 ((text (codes "pop from empty list")) ∷ [])) (bare ((list []) ∷ []) 100 0)
unfolding chars class_names
method_7 = refl

method_8 : call_method (node 0) (codes "pop") ((integer (pos 0)) ∷ []) (bare ((list ((integer (pos 1)) ∷ (integer (pos 2)) ∷ (integer (pos 3)) ∷ [])) ∷ []) 100 0) ≡ fine (integer (pos 1)) (bare ((list ((integer (pos 2)) ∷ (integer (pos 3)) ∷ [])) ∷ []) 97 0)
unfolding chars class_names
method_8 = refl

method_9 : call_method (node 0) (codes "pop") ((integer (negsuc 0)) ∷ []) (bare ((list ((integer (pos 1)) ∷ (integer (pos 2)) ∷ (integer (pos 3)) ∷ [])) ∷ []) 100 0) ≡ fine (integer (pos 3)) (bare ((list ((integer (pos 1)) ∷ (integer (pos 2)) ∷ [])) ∷ []) 97 0)
unfolding chars class_names
method_9 = refl

method_10 : call_method (node 0) (codes "pop") ((integer (negsuc 2)) ∷ []) (bare ((list ((integer (pos 1)) ∷ (integer (pos 2)) ∷ (integer (pos 3)) ∷ [])) ∷ []) 100 0) ≡ fine (integer (pos 1)) (bare ((list ((integer (pos 2)) ∷ (integer (pos 3)) ∷ [])) ∷ []) 97 0)
unfolding chars class_names
method_10 = refl

method_11 : call_method (node 0) (codes "pop") ((bool true) ∷ []) (bare ((list ((integer (pos 1)) ∷ (integer (pos 2)) ∷ (integer (pos 3)) ∷ [])) ∷ []) 100 0) ≡ fine (integer (pos 2)) (bare ((list ((integer (pos 1)) ∷ (integer (pos 3)) ∷ [])) ∷ []) 97 0)
unfolding chars class_names
method_11 = refl

method_12 : call_method (node 0) (codes "pop") ((integer (pos 1)) ∷ []) (bare ((list ((text (codes "a")) ∷ (node 1) ∷ (integer (pos 3)) ∷ [])) ∷ (list ((integer (pos 1)) ∷ [])) ∷ []) 100 0) ≡ fine (node 1) (bare ((list ((text (codes "a")) ∷ (integer (pos 3)) ∷ [])) ∷ (list ((integer (pos 1)) ∷ [])) ∷ []) 97 0)
unfolding chars class_names
method_12 = refl

method_13 : call_method (node 0) (codes "pop") ((integer (pos 2)) ∷ []) (bare ((list ((integer (pos 1)) ∷ (integer (pos 2)) ∷ [])) ∷ []) 100 0) ≡ raised (fresh 15 ((text (codes "index out of range")) ∷ [])) (bare ((list ((integer (pos 1)) ∷ (integer (pos 2)) ∷ [])) ∷ []) 100 0)
unfolding chars class_names
method_13 = refl

method_14 : call_method (node 0) (codes "pop") ((integer (negsuc 2)) ∷ []) (bare ((list ((integer (pos 1)) ∷ (integer (pos 2)) ∷ [])) ∷ []) 100 0) ≡ raised (fresh 15 ((text (codes "index out of range")) ∷ [])) (bare ((list ((integer (pos 1)) ∷ (integer (pos 2)) ∷ [])) ∷ []) 100 0)
unfolding chars class_names
method_14 = refl

method_15 : call_method (node 0) (codes "pop") ((integer (pos 0)) ∷ []) (bare ((list []) ∷ []) 100 0) ≡ raised (fresh 15 ((text (codes "pop from empty list")) ∷ [])) (bare ((list []) ∷ []) 100 0)
unfolding chars class_names
method_15 = refl

method_16 : call_method (node 0) (codes "pop") ((text (codes "a")) ∷ []) (bare ((list ((integer (pos 1)) ∷ [])) ∷ []) 100 0) ≡ raised (fresh 23 ((text (codes "bad index type: 'str'")) ∷ [])) (bare ((list ((integer (pos 1)) ∷ [])) ∷ []) 100 0)
unfolding chars class_names
method_16 = refl

method_17 : call_method (node 0) (codes "pop") (none ∷ []) (bare ((list []) ∷ []) 100 0) ≡ raised (fresh 23 ((text (codes "bad index type: 'NoneType'")) ∷ [])) (bare ((list []) ∷ []) 100 0)
unfolding chars class_names
method_17 = refl

method_18 : call_method (node 0) (codes "pop") ((integer (pos 0)) ∷ (integer (pos 0)) ∷ []) (bare ((list ((integer (pos 1)) ∷ [])) ∷ []) 100 0) ≡ raised (fresh 23 ((text (codes "pop() got bad arguments")) ∷ [])) (bare ((list ((integer (pos 1)) ∷ [])) ∷ []) 100 0)
unfolding chars class_names
method_18 = refl

method_19 : call_method (node 0) (codes "pop") ((integer (pos 0)) ∷ []) (bare ((list ((integer (pos 1)) ∷ (integer (pos 2)) ∷ [])) ∷ []) 1 0) ≡ stopped (bare ((list ((integer (pos 1)) ∷ (integer (pos 2)) ∷ [])) ∷ []) 0 0)
unfolding chars class_names
method_19 = refl

method_20 : call_method (node 0) (codes "pop") ((integer (pos 9)) ∷ []) (bare ((list ((integer (pos 1)) ∷ (integer (pos 2)) ∷ [])) ∷ []) 1 0) ≡ raised (fresh 15 ((text (codes "index out of range")) ∷ [])) (bare ((list ((integer (pos 1)) ∷ (integer (pos 2)) ∷ [])) ∷ []) 1 0)
unfolding chars class_names
method_20 = refl

method_21 : call_method (node 0) (codes "pop") [] (bare ((list ((integer (pos 1)) ∷ (integer (pos 2)) ∷ [])) ∷ []) 0 0) ≡ fine (integer (pos 2)) (bare ((list ((integer (pos 1)) ∷ [])) ∷ []) 0 0)
unfolding chars class_names
method_21 = refl

method_22 : call_method (node 0) (codes "insert") ((integer (pos 0)) ∷ (text (codes "x")) ∷ []) (bare ((list ((integer (pos 1)) ∷ (integer (pos 2)) ∷ [])) ∷ []) 100 0) ≡ fine none (bare ((list ((text (codes "x")) ∷ (integer (pos 1)) ∷ (integer (pos 2)) ∷ [])) ∷ []) 98 0)
unfolding chars class_names
method_22 = refl

method_23 : call_method (node 0) (codes "insert") ((integer (pos 1)) ∷ (text (codes "x")) ∷ []) (bare ((list ((integer (pos 1)) ∷ (integer (pos 2)) ∷ [])) ∷ []) 100 0) ≡ fine none (bare ((list ((integer (pos 1)) ∷ (text (codes "x")) ∷ (integer (pos 2)) ∷ [])) ∷ []) 98 0)
unfolding chars class_names
method_23 = refl

method_24 : call_method (node 0) (codes "insert") ((integer (pos 2)) ∷ (text (codes "x")) ∷ []) (bare ((list ((integer (pos 1)) ∷ (integer (pos 2)) ∷ [])) ∷ []) 100 0) ≡ fine none (bare ((list ((integer (pos 1)) ∷ (integer (pos 2)) ∷ (text (codes "x")) ∷ [])) ∷ []) 98 0)
unfolding chars class_names
method_24 = refl

method_25 : call_method (node 0) (codes "insert") ((integer (pos 9)) ∷ (text (codes "x")) ∷ []) (bare ((list ((integer (pos 1)) ∷ (integer (pos 2)) ∷ [])) ∷ []) 100 0) ≡ fine none (bare ((list ((integer (pos 1)) ∷ (integer (pos 2)) ∷ (text (codes "x")) ∷ [])) ∷ []) 98 0)
unfolding chars class_names
method_25 = refl

method_26 : call_method (node 0) (codes "insert") ((integer (negsuc 0)) ∷ (text (codes "x")) ∷ []) (bare ((list ((integer (pos 1)) ∷ (integer (pos 2)) ∷ [])) ∷ []) 100 0) ≡ fine none (bare ((list ((integer (pos 1)) ∷ (text (codes "x")) ∷ (integer (pos 2)) ∷ [])) ∷ []) 98 0)
unfolding chars class_names
method_26 = refl

method_27 : call_method (node 0) (codes "insert") ((integer (negsuc 1)) ∷ (text (codes "x")) ∷ []) (bare ((list ((integer (pos 1)) ∷ (integer (pos 2)) ∷ [])) ∷ []) 100 0) ≡ fine none (bare ((list ((text (codes "x")) ∷ (integer (pos 1)) ∷ (integer (pos 2)) ∷ [])) ∷ []) 98 0)
unfolding chars class_names
method_27 = refl

method_28 : call_method (node 0) (codes "insert") ((integer (negsuc 8)) ∷ (text (codes "x")) ∷ []) (bare ((list ((integer (pos 1)) ∷ (integer (pos 2)) ∷ [])) ∷ []) 100 0) ≡ fine none (bare ((list ((text (codes "x")) ∷ (integer (pos 1)) ∷ (integer (pos 2)) ∷ [])) ∷ []) 98 0)
unfolding chars class_names
method_28 = refl

method_29 : call_method (node 0) (codes "insert") ((integer (pos 5)) ∷ (integer (pos 1)) ∷ []) (bare ((list []) ∷ []) 100 0) ≡ fine none (bare ((list ((integer (pos 1)) ∷ [])) ∷ []) 100 0)
unfolding chars class_names
method_29 = refl

method_30 : call_method (node 0) (codes "insert") ((integer (negsuc 4)) ∷ (integer (pos 1)) ∷ []) (bare ((list []) ∷ []) 100 0) ≡ fine none (bare ((list ((integer (pos 1)) ∷ [])) ∷ []) 100 0)
unfolding chars class_names
method_30 = refl

method_31 : call_method (node 0) (codes "insert") ((bool true) ∷ none ∷ []) (bare ((list ((integer (pos 1)) ∷ [])) ∷ []) 100 0) ≡ fine none (bare ((list ((integer (pos 1)) ∷ none ∷ [])) ∷ []) 99 0)
unfolding chars class_names
method_31 = refl

method_32 : call_method (node 0) (codes "insert") (none ∷ (integer (pos 2)) ∷ []) (bare ((list ((integer (pos 1)) ∷ [])) ∷ []) 100 0) ≡ raised (fresh 23 ((text (codes "bad index type: 'NoneType'")) ∷ [])) (bare ((list ((integer (pos 1)) ∷ [])) ∷ []) 100 0)
unfolding chars class_names
method_32 = refl

method_33 : call_method (node 0) (codes "insert") ((integer (pos 0)) ∷ []) (bare ((list ((integer (pos 1)) ∷ [])) ∷ []) 100 0) ≡ raised (fresh 23 ((text (codes "insert() got bad arguments")) ∷ [])) (bare ((list ((integer (pos 1)) ∷ [])) ∷ []) 100 0)
unfolding chars class_names
method_33 = refl

method_34 : call_method (node 0) (codes "insert") ((text (codes "0")) ∷ (integer (pos 2)) ∷ (integer (pos 3)) ∷ []) (bare ((list ((integer (pos 1)) ∷ [])) ∷ []) 100 0) ≡ raised (fresh 23 ((text (codes "insert() got bad arguments")) ∷ [])) (bare ((list ((integer (pos 1)) ∷ [])) ∷ []) 100 0)
unfolding chars class_names
method_34 = refl

method_35 : call_method (node 0) (codes "insert") ((integer (pos 0)) ∷ (integer (pos 3)) ∷ []) (bare ((list ((integer (pos 1)) ∷ (integer (pos 2)) ∷ [])) ∷ []) 1 0) ≡ stopped (bare ((list ((integer (pos 1)) ∷ (integer (pos 2)) ∷ [])) ∷ []) 0 0)
unfolding chars class_names
method_35 = refl

method_36 : call_method (node 0) (codes "clear") [] (bare ((list ((integer (pos 1)) ∷ (integer (pos 2)) ∷ [])) ∷ []) 100 0) ≡ fine none (bare ((list []) ∷ []) 100 0)
unfolding chars class_names
method_36 = refl

method_37 : call_method (node 0) (codes "clear") [] (bare ((list []) ∷ []) 100 0) ≡ fine none (bare ((list []) ∷ []) 100 0)
unfolding chars class_names
method_37 = refl

method_38 : call_method (node 0) (codes "clear") ((integer (pos 1)) ∷ []) (bare ((list ((integer (pos 1)) ∷ [])) ∷ []) 100 0) ≡ raised (fresh 23 ((text (codes "clear() got bad arguments")) ∷ [])) (bare ((list ((integer (pos 1)) ∷ [])) ∷ []) 100 0)
unfolding chars class_names
method_38 = refl

method_39 : call_method (node 0) (codes "clear") [] (bare ((list ((integer (pos 1)) ∷ (integer (pos 2)) ∷ [])) ∷ []) 0 0) ≡ fine none (bare ((list []) ∷ []) 0 0)
unfolding chars class_names
method_39 = refl

method_40 : call_method (node 0) (codes "extend") ((node 1) ∷ []) (bare ((list ((integer (pos 1)) ∷ [])) ∷ (list ((integer (pos 2)) ∷ (integer (pos 3)) ∷ [])) ∷ []) 100 0) ≡ fine none (bare ((list ((integer (pos 1)) ∷ (integer (pos 2)) ∷ (integer (pos 3)) ∷ [])) ∷ (list ((integer (pos 2)) ∷ (integer (pos 3)) ∷ [])) ∷ []) 98 0)
unfolding chars class_names
method_40 = refl

method_41 : call_method (node 0) (codes "extend") ((node 0) ∷ []) (bare ((list ((integer (pos 1)) ∷ [])) ∷ []) 100 0) ≡ fine none (bare ((list ((integer (pos 1)) ∷ (integer (pos 1)) ∷ [])) ∷ []) 99 0)
unfolding chars class_names
method_41 = refl

method_42 : call_method (node 0) (codes "extend") ((node 1) ∷ []) (bare ((list ((integer (pos 1)) ∷ [])) ∷ (tuple ((integer (pos 2)) ∷ [])) ∷ []) 100 0) ≡ fine none (bare ((list ((integer (pos 1)) ∷ (integer (pos 2)) ∷ [])) ∷ (tuple ((integer (pos 2)) ∷ [])) ∷ []) 99 0)
unfolding chars class_names
method_42 = refl

method_43 : call_method (node 0) (codes "extend") ((text (codes "ab")) ∷ []) (bare ((list []) ∷ []) 100 0) ≡ fine none (bare ((list ((text (codes "a")) ∷ (text (codes "b")) ∷ [])) ∷ []) 98 0)
unfolding chars class_names
method_43 = refl

method_44 : call_method (node 0) (codes "extend") ((range (pos 1) (pos 7) (pos 2)) ∷ []) (bare ((list ((integer (pos 0)) ∷ [])) ∷ []) 100 0) ≡ fine none (bare ((list ((integer (pos 0)) ∷ (integer (pos 1)) ∷ (integer (pos 3)) ∷ (integer (pos 5)) ∷ [])) ∷ []) 97 0)
unfolding chars class_names
method_44 = refl

method_45 : call_method (node 0) (codes "extend") ((node 1) ∷ []) (bare ((list []) ∷ (dict (((p.single (p.integer (pos 1))), (integer (pos 2))) ∷ ((p.single (p.text (codes "a"))), (integer (pos 3))) ∷ [])) ∷ []) 100 0) ≡ fine none (bare ((list ((integer (pos 1)) ∷ (text (codes "a")) ∷ [])) ∷ (dict (((p.single (p.integer (pos 1))), (integer (pos 2))) ∷ ((p.single (p.text (codes "a"))), (integer (pos 3))) ∷ [])) ∷ []) 98 0)
unfolding chars class_names
method_45 = refl

method_46 : call_method (node 0) (codes "extend") ((node 1) ∷ []) (bare ((list []) ∷ (dict (((p.tuple ((p.integer (pos 1)) ∷ (p.integer (pos 2)) ∷ [])), (integer (pos 0))) ∷ ((p.single (p.integer (pos 3))), (integer (pos 0))) ∷ [])) ∷ []) 100 0) ≡ fine none (bare ((list ((node 2) ∷ (integer (pos 3)) ∷ [])) ∷ (dict (((p.tuple ((p.integer (pos 1)) ∷ (p.integer (pos 2)) ∷ [])), (integer (pos 0))) ∷ ((p.single (p.integer (pos 3))), (integer (pos 0))) ∷ [])) ∷ (tuple ((integer (pos 1)) ∷ (integer (pos 2)) ∷ [])) ∷ []) 96 0)
unfolding chars class_names
method_46 = refl

method_47 : call_method (node 0) (codes "extend") ((node 1) ∷ []) (bare ((list ((integer (pos 1)) ∷ [])) ∷ (list []) ∷ []) 100 0) ≡ fine none (bare ((list ((integer (pos 1)) ∷ [])) ∷ (list []) ∷ []) 100 0)
unfolding chars class_names
method_47 = refl

method_48 : call_method (node 0) (codes "extend") ((integer (pos 5)) ∷ []) (bare ((list ((integer (pos 1)) ∷ [])) ∷ []) 100 0) ≡ raised (fresh 23 ((text (codes "'int' object is not iterable")) ∷ [])) (bare ((list ((integer (pos 1)) ∷ [])) ∷ []) 100 0)
unfolding chars class_names
method_48 = refl

method_49 : call_method (node 0) (codes "extend") (none ∷ []) (bare ((list ((integer (pos 1)) ∷ [])) ∷ []) 100 0) ≡ raised (fresh 23 ((text (codes "'NoneType' object is not iterable")) ∷ [])) (bare ((list ((integer (pos 1)) ∷ [])) ∷ []) 100 0)
unfolding chars class_names
method_49 = refl

method_50 : call_method (node 0) (codes "extend") [] (bare ((list ((integer (pos 1)) ∷ [])) ∷ []) 100 0) ≡ raised (fresh 23 ((text (codes "extend() got bad arguments")) ∷ [])) (bare ((list ((integer (pos 1)) ∷ [])) ∷ []) 100 0)
unfolding chars class_names
method_50 = refl

method_51 : call_method (node 0) (codes "extend") ((node 1) ∷ (node 2) ∷ []) (bare ((list ((integer (pos 1)) ∷ [])) ∷ (list ((integer (pos 1)) ∷ [])) ∷ (list ((integer (pos 2)) ∷ [])) ∷ []) 100 0) ≡ raised (fresh 23 ((text (codes "extend() got bad arguments")) ∷ [])) (bare ((list ((integer (pos 1)) ∷ [])) ∷ (list ((integer (pos 1)) ∷ [])) ∷ (list ((integer (pos 2)) ∷ [])) ∷ []) 100 0)
unfolding chars class_names
method_51 = refl

method_52 : call_method (node 0) (codes "extend") ((node 1) ∷ []) (bare ((list ((integer (pos 1)) ∷ [])) ∷ (list ((integer (pos 2)) ∷ (integer (pos 3)) ∷ [])) ∷ []) 1 0) ≡ stopped (bare ((list ((integer (pos 1)) ∷ [])) ∷ (list ((integer (pos 2)) ∷ (integer (pos 3)) ∷ [])) ∷ []) 0 0)
unfolding chars class_names
method_52 = refl

method_53 : call_method (node 0) (codes "extend") ((node 1) ∷ []) (bare ((list ((integer (pos 1)) ∷ [])) ∷ (dict (((p.tuple ((p.integer (pos 1)) ∷ (p.integer (pos 2)) ∷ [])), (integer (pos 0))) ∷ [])) ∷ []) 2 0) ≡ stopped (bare ((list ((integer (pos 1)) ∷ [])) ∷ (dict (((p.tuple ((p.integer (pos 1)) ∷ (p.integer (pos 2)) ∷ [])), (integer (pos 0))) ∷ [])) ∷ []) 0 0)
unfolding chars class_names
method_53 = refl

method_54 : call_method (node 0) (codes "extend") ((node 1) ∷ []) (bare ((list ((integer (pos 1)) ∷ [])) ∷ (object (((codes "a"), (integer (pos 1))) ∷ [])) ∷ []) 100 0) ≡ raised (fresh 23 ((text (codes "'SimpleNamespace' object is not iterable")) ∷ [])) (bare ((list ((integer (pos 1)) ∷ [])) ∷ (object (((codes "a"), (integer (pos 1))) ∷ [])) ∷ []) 100 0)
unfolding chars class_names
method_54 = refl

method_55 : call_method (node 0) (codes "extend") ((range (pos 0) (pos 1000000000000000000000000000000) (pos 1)) ∷ []) (bare ((list ((integer (pos 1)) ∷ [])) ∷ []) 100 0) ≡ stopped (bare ((list ((integer (pos 1)) ∷ [])) ∷ []) 0 0)
unfolding chars class_names
method_55 = refl

method_56 : call_method (node 0) (codes "remove") ((integer (pos 1)) ∷ []) (bare ((list ((integer (pos 1)) ∷ (integer (pos 2)) ∷ (integer (pos 1)) ∷ [])) ∷ []) 100 0) ≡ fine none (bare ((list ((integer (pos 2)) ∷ (integer (pos 1)) ∷ [])) ∷ []) 99 0)
unfolding chars class_names
method_56 = refl

method_57 : call_method (node 0) (codes "remove") ((integer (pos 2)) ∷ []) (bare ((list ((integer (pos 1)) ∷ (integer (pos 2)) ∷ [])) ∷ []) 100 0) ≡ fine none (bare ((list ((integer (pos 1)) ∷ [])) ∷ []) 98 0)
unfolding chars class_names
method_57 = refl

method_58 : call_method (node 0) (codes "remove") ((integer (pos 3)) ∷ []) (bare ((list ((integer (pos 1)) ∷ (integer (pos 2)) ∷ [])) ∷ []) 100 0) ≡ raised (fresh 24 ((text (codes "value not found")) ∷ [])) (bare ((list ((integer (pos 1)) ∷ (integer (pos 2)) ∷ [])) ∷ []) 98 0)
unfolding chars class_names
method_58 = refl

method_59 : call_method (node 0) (codes "remove") ((integer (pos 1)) ∷ []) (bare ((list []) ∷ []) 100 0) ≡ raised (fresh 24 ((text (codes "value not found")) ∷ [])) (bare ((list []) ∷ []) 100 0)
unfolding chars class_names
method_59 = refl

method_60 : call_method (node 0) (codes "remove") ((integer (pos 1)) ∷ []) (bare ((list ((integer (pos 0)) ∷ (bool true) ∷ [])) ∷ []) 100 0) ≡ fine none (bare ((list ((integer (pos 0)) ∷ [])) ∷ []) 98 0)
unfolding chars class_names
method_60 = refl

method_61 : call_method (node 0) (codes "remove") ((node 1) ∷ []) (bare ((list ((node 2) ∷ (node 3) ∷ [])) ∷ (list ((integer (pos 2)) ∷ [])) ∷ (list ((integer (pos 1)) ∷ [])) ∷ (list ((integer (pos 2)) ∷ [])) ∷ []) 100 0) ≡ fine none (bare ((list ((node 2) ∷ [])) ∷ (list ((integer (pos 2)) ∷ [])) ∷ (list ((integer (pos 1)) ∷ [])) ∷ (list ((integer (pos 2)) ∷ [])) ∷ []) 96 0)
unfolding chars class_names
method_61 = refl

method_62 : call_method (node 0) (codes "remove") ((node 1) ∷ []) (bare ((list ((node 1) ∷ (node 2) ∷ [])) ∷ (list ((integer (pos 2)) ∷ [])) ∷ (list ((integer (pos 2)) ∷ [])) ∷ []) 100 0) ≡ fine none (bare ((list ((node 2) ∷ [])) ∷ (list ((integer (pos 2)) ∷ [])) ∷ (list ((integer (pos 2)) ∷ [])) ∷ []) 99 0)
unfolding chars class_names
method_62 = refl

method_63 : call_method (node 0) (codes "remove") ((text (codes "a")) ∷ []) (bare ((list ((text (codes "ab")) ∷ (text (codes "a")) ∷ [])) ∷ []) 100 0) ≡ fine none (bare ((list ((text (codes "ab")) ∷ [])) ∷ []) 96 0)
unfolding chars class_names
method_63 = refl

method_64 : call_method (node 0) (codes "remove") [] (bare ((list ((integer (pos 1)) ∷ [])) ∷ []) 100 0) ≡ raised (fresh 23 ((text (codes "remove() got bad arguments")) ∷ [])) (bare ((list ((integer (pos 1)) ∷ [])) ∷ []) 100 0)
unfolding chars class_names
method_64 = refl

method_65 : call_method (node 0) (codes "remove") ((text (codes "ac")) ∷ []) (bare ((list ((text (codes "ab")) ∷ (text (codes "ac")) ∷ [])) ∷ []) 4 0) ≡ stopped (bare ((list ((text (codes "ab")) ∷ (text (codes "ac")) ∷ [])) ∷ []) 0 0)
unfolding chars class_names
method_65 = refl

method_66 : call_method (node 0) (codes "remove") ((text (codes "ac")) ∷ []) (bare ((list ((text (codes "ab")) ∷ (text (codes "ac")) ∷ [])) ∷ []) 5 0) ≡ stopped (bare ((list ((text (codes "ab")) ∷ (text (codes "ac")) ∷ [])) ∷ []) 0 0)
unfolding chars class_names
method_66 = refl

method_67 : call_method (node 0) (codes "remove") ((text (codes "ac")) ∷ []) (bare ((list ((text (codes "ab")) ∷ (text (codes "ac")) ∷ [])) ∷ []) 6 0) ≡ fine none (bare ((list ((text (codes "ab")) ∷ [])) ∷ []) 0 0)
unfolding chars class_names
method_67 = refl

method_68 : call_method (node 0) (codes "index") ((integer (pos 1)) ∷ []) (bare ((list ((integer (pos 1)) ∷ (integer (pos 2)) ∷ (integer (pos 1)) ∷ [])) ∷ []) 100 0) ≡ fine (integer (pos 0)) (bare ((list ((integer (pos 1)) ∷ (integer (pos 2)) ∷ (integer (pos 1)) ∷ [])) ∷ []) 99 0)
unfolding chars class_names
method_68 = refl

method_69 : call_method (node 0) (codes "index") ((integer (pos 2)) ∷ []) (bare ((list ((integer (pos 1)) ∷ (bool true) ∷ (integer (pos 2)) ∷ [])) ∷ []) 100 0) ≡ fine (integer (pos 2)) (bare ((list ((integer (pos 1)) ∷ (bool true) ∷ (integer (pos 2)) ∷ [])) ∷ []) 97 0)
unfolding chars class_names
method_69 = refl

method_70 : call_method (node 0) (codes "index") ((text (codes "1")) ∷ []) (bare ((list ((integer (pos 1)) ∷ [])) ∷ []) 100 0) ≡ raised (fresh 24 ((text (codes "value not found")) ∷ [])) (bare ((list ((integer (pos 1)) ∷ [])) ∷ []) 99 0)
unfolding chars class_names
method_70 = refl

method_71 : call_method (node 0) (codes "index") ((integer (pos 1)) ∷ []) (bare ((list []) ∷ []) 100 0) ≡ raised (fresh 24 ((text (codes "value not found")) ∷ [])) (bare ((list []) ∷ []) 100 0)
unfolding chars class_names
method_71 = refl

method_72 : call_method (node 0) (codes "index") ((node 1) ∷ []) (bare ((list ((node 2) ∷ (integer (pos 1)) ∷ [])) ∷ (exception 24 ((text (codes "x")) ∷ [])) ∷ (exception 24 ((text (codes "x")) ∷ [])) ∷ []) 100 0) ≡ raised (fresh 24 ((text (codes "value not found")) ∷ [])) (bare ((list ((node 2) ∷ (integer (pos 1)) ∷ [])) ∷ (exception 24 ((text (codes "x")) ∷ [])) ∷ (exception 24 ((text (codes "x")) ∷ [])) ∷ []) 98 0)
unfolding chars class_names
method_72 = refl

method_73 : call_method (node 0) (codes "index") ((node 1) ∷ []) (bare ((list ((node 2) ∷ (node 1) ∷ [])) ∷ (exception 24 ((text (codes "x")) ∷ [])) ∷ (list ((integer (pos 1)) ∷ [])) ∷ []) 100 0) ≡ fine (integer (pos 1)) (bare ((list ((node 2) ∷ (node 1) ∷ [])) ∷ (exception 24 ((text (codes "x")) ∷ [])) ∷ (list ((integer (pos 1)) ∷ [])) ∷ []) 98 0)
unfolding chars class_names
method_73 = refl

method_74 : call_method (node 0) (codes "index") ((integer (pos 1)) ∷ (integer (pos 0)) ∷ []) (bare ((list ((integer (pos 1)) ∷ [])) ∷ []) 100 0) ≡ raised (fresh 23 ((text (codes "index() got bad arguments")) ∷ [])) (bare ((list ((integer (pos 1)) ∷ [])) ∷ []) 100 0)
unfolding chars class_names
method_74 = refl

method_75 : call_method (node 0) (codes "index") ((node 1) ∷ []) (bare ((list ((node 2) ∷ (node 1) ∷ [])) ∷ (tuple ((integer (pos 1)) ∷ (integer (pos 3)) ∷ [])) ∷ (tuple ((integer (pos 1)) ∷ (integer (pos 2)) ∷ [])) ∷ []) 100 0) ≡ fine (integer (pos 1)) (bare ((list ((node 2) ∷ (node 1) ∷ [])) ∷ (tuple ((integer (pos 1)) ∷ (integer (pos 3)) ∷ [])) ∷ (tuple ((integer (pos 1)) ∷ (integer (pos 2)) ∷ [])) ∷ []) 96 0)
unfolding chars class_names
method_75 = refl

method_76 : call_method (node 0) (codes "index") ((node 0) ∷ []) (bare ((list ((node 0) ∷ [])) ∷ []) 100 0) ≡ fine (integer (pos 0)) (bare ((list ((node 0) ∷ [])) ∷ []) 99 0)
unfolding chars class_names
method_76 = refl

method_77 : call_method (node 0) (codes "index") ((node 1) ∷ []) (bare ((list ((node 2) ∷ [])) ∷ (dict (((p.single (p.integer (pos 3))), (node 3)) ∷ ((p.single (p.integer (pos 1))), (integer (pos 2))) ∷ [])) ∷ (dict (((p.single (p.integer (pos 1))), (integer (pos 2))) ∷ ((p.single (p.integer (pos 3))), (node 4)) ∷ [])) ∷ (list ((integer (pos 5)) ∷ [])) ∷ (list ((integer (pos 4)) ∷ [])) ∷ []) 100 0) ≡ raised (fresh 24 ((text (codes "value not found")) ∷ [])) (bare ((list ((node 2) ∷ [])) ∷ (dict (((p.single (p.integer (pos 3))), (node 3)) ∷ ((p.single (p.integer (pos 1))), (integer (pos 2))) ∷ [])) ∷ (dict (((p.single (p.integer (pos 1))), (integer (pos 2))) ∷ ((p.single (p.integer (pos 3))), (node 4)) ∷ [])) ∷ (list ((integer (pos 5)) ∷ [])) ∷ (list ((integer (pos 4)) ∷ [])) ∷ []) 96 0)
unfolding chars class_names
method_77 = refl

method_78 : call_method (node 0) (codes "index") ((node 1) ∷ []) (bare ((list ((node 2) ∷ [])) ∷ (dict (((p.single (p.integer (pos 1))), (integer (pos 2))) ∷ ((p.single (p.integer (pos 3))), (node 3)) ∷ [])) ∷ (dict (((p.single (p.integer (pos 3))), (node 4)) ∷ ((p.single (p.integer (pos 1))), (integer (pos 2))) ∷ [])) ∷ (list ((integer (pos 4)) ∷ [])) ∷ (list ((integer (pos 5)) ∷ [])) ∷ []) 100 0) ≡ raised (fresh 24 ((text (codes "value not found")) ∷ [])) (bare ((list ((node 2) ∷ [])) ∷ (dict (((p.single (p.integer (pos 1))), (integer (pos 2))) ∷ ((p.single (p.integer (pos 3))), (node 3)) ∷ [])) ∷ (dict (((p.single (p.integer (pos 3))), (node 4)) ∷ ((p.single (p.integer (pos 1))), (integer (pos 2))) ∷ [])) ∷ (list ((integer (pos 4)) ∷ [])) ∷ (list ((integer (pos 5)) ∷ [])) ∷ []) 97 0)
unfolding chars class_names
method_78 = refl

method_79 : call_method (node 0) (codes "index") ((node 1) ∷ []) (bare ((list ((node 2) ∷ [])) ∷ (list ((node 3) ∷ [])) ∷ (list ((node 4) ∷ [])) ∷ (list ((node 5) ∷ [])) ∷ (list ((node 6) ∷ [])) ∷ (list ((integer (pos 1)) ∷ [])) ∷ (list ((integer (pos 1)) ∷ [])) ∷ []) 100 998) ≡ fine (integer (pos 0)) (bare ((list ((node 2) ∷ [])) ∷ (list ((node 3) ∷ [])) ∷ (list ((node 4) ∷ [])) ∷ (list ((node 5) ∷ [])) ∷ (list ((node 6) ∷ [])) ∷ (list ((integer (pos 1)) ∷ [])) ∷ (list ((integer (pos 1)) ∷ [])) ∷ []) 96 998)
unfolding chars class_names
method_79 = refl

method_80 : call_method (node 0) (codes "index") ((node 1) ∷ []) (bare ((list ((node 2) ∷ [])) ∷ (list ((node 3) ∷ [])) ∷ (list ((node 4) ∷ [])) ∷ (list ((node 5) ∷ [])) ∷ (list ((node 6) ∷ [])) ∷ (list ((integer (pos 1)) ∷ [])) ∷ (list ((integer (pos 1)) ∷ [])) ∷ []) 100 999) ≡ raised (fresh 21 (text (codes "depth limit reached") ∷ [])) (bare ((list ((node 2) ∷ [])) ∷ (list ((node 3) ∷ [])) ∷ (list ((node 4) ∷ [])) ∷ (list ((node 5) ∷ [])) ∷ (list ((node 6) ∷ [])) ∷ (list ((integer (pos 1)) ∷ [])) ∷ (list ((integer (pos 1)) ∷ [])) ∷ []) 97 999)
unfolding chars class_names
method_80 = refl

method_81 : call_method (node 0) (codes "index") ((node 1) ∷ []) (bare ((list ((node 1) ∷ [])) ∷ (list ((node 2) ∷ [])) ∷ (list ((node 3) ∷ [])) ∷ (list ((integer (pos 1)) ∷ [])) ∷ []) 100 1000) ≡ fine (integer (pos 0)) (bare ((list ((node 1) ∷ [])) ∷ (list ((node 2) ∷ [])) ∷ (list ((node 3) ∷ [])) ∷ (list ((integer (pos 1)) ∷ [])) ∷ []) 99 1000)
unfolding chars class_names
method_81 = refl

method_82 : call_method (node 0) (codes "count") ((integer (pos 1)) ∷ []) (bare ((list ((integer (pos 1)) ∷ (integer (pos 2)) ∷ (bool true) ∷ [])) ∷ []) 100 0) ≡ fine (integer (pos 2)) (bare ((list ((integer (pos 1)) ∷ (integer (pos 2)) ∷ (bool true) ∷ [])) ∷ []) 97 0)
unfolding chars class_names
method_82 = refl

method_83 : call_method (node 0) (codes "count") ((integer (pos 1)) ∷ []) (bare ((list []) ∷ []) 100 0) ≡ fine (integer (pos 0)) (bare ((list []) ∷ []) 100 0)
unfolding chars class_names
method_83 = refl

method_84 : call_method (node 0) (codes "count") ((text (codes "a")) ∷ []) (bare ((list ((text (codes "a")) ∷ (text (codes "a")) ∷ (text (codes "b")) ∷ [])) ∷ []) 100 0) ≡ fine (integer (pos 2)) (bare ((list ((text (codes "a")) ∷ (text (codes "a")) ∷ (text (codes "b")) ∷ [])) ∷ []) 94 0)
unfolding chars class_names
method_84 = refl

method_85 : call_method (node 0) (codes "count") ((node 1) ∷ []) (bare ((list ((node 2) ∷ (node 3) ∷ (node 4) ∷ [])) ∷ (list []) ∷ (list []) ∷ (list []) ∷ (tuple []) ∷ []) 100 0) ≡ fine (integer (pos 2)) (bare ((list ((node 2) ∷ (node 3) ∷ (node 4) ∷ [])) ∷ (list []) ∷ (list []) ∷ (list []) ∷ (tuple []) ∷ []) 97 0)
unfolding chars class_names
method_85 = refl

method_86 : call_method (node 0) (codes "count") ((node 1) ∷ []) (bare ((list ((node 1) ∷ (node 1) ∷ [])) ∷ (list ((integer (pos 7)) ∷ [])) ∷ []) 1 0) ≡ stopped (bare ((list ((node 1) ∷ (node 1) ∷ [])) ∷ (list ((integer (pos 7)) ∷ [])) ∷ []) 0 0)
unfolding chars class_names
method_86 = refl

method_87 : call_method (node 0) (codes "count") ((integer (pos 3)) ∷ []) (bare ((list ((integer (pos 1)) ∷ (integer (pos 2)) ∷ (integer (pos 3)) ∷ [])) ∷ []) 2 0) ≡ stopped (bare ((list ((integer (pos 1)) ∷ (integer (pos 2)) ∷ (integer (pos 3)) ∷ [])) ∷ []) 0 0)
unfolding chars class_names
method_87 = refl

method_88 : call_method (node 0) (codes "count") [] (bare ((list ((integer (pos 1)) ∷ [])) ∷ []) 100 0) ≡ raised (fresh 23 ((text (codes "count() got bad arguments")) ∷ [])) (bare ((list ((integer (pos 1)) ∷ [])) ∷ []) 100 0)
unfolding chars class_names
method_88 = refl

method_89 : call_method (node 0) (codes "reverse") [] (bare ((list ((integer (pos 1)) ∷ (integer (pos 2)) ∷ (integer (pos 3)) ∷ [])) ∷ []) 100 0) ≡ fine none (bare ((list ((integer (pos 3)) ∷ (integer (pos 2)) ∷ (integer (pos 1)) ∷ [])) ∷ []) 97 0)
unfolding chars class_names
method_89 = refl

method_90 : call_method (node 0) (codes "reverse") [] (bare ((list []) ∷ []) 100 0) ≡ fine none (bare ((list []) ∷ []) 100 0)
unfolding chars class_names
method_90 = refl

method_91 : call_method (node 0) (codes "reverse") [] (bare ((list ((integer (pos 1)) ∷ (integer (pos 2)) ∷ [])) ∷ []) 1 0) ≡ stopped (bare ((list ((integer (pos 1)) ∷ (integer (pos 2)) ∷ [])) ∷ []) 0 0)
unfolding chars class_names
method_91 = refl

method_92 : call_method (node 0) (codes "reverse") ((integer (pos 1)) ∷ []) (bare ((list ((integer (pos 1)) ∷ [])) ∷ []) 100 0) ≡ raised (fresh 23 ((text (codes "reverse() got bad arguments")) ∷ [])) (bare ((list ((integer (pos 1)) ∷ [])) ∷ []) 100 0)
unfolding chars class_names
method_92 = refl

method_93 : call_method (node 0) (codes "copy") [] (bare ((list ((integer (pos 1)) ∷ (node 1) ∷ [])) ∷ (list ((integer (pos 2)) ∷ [])) ∷ []) 100 0) ≡ fine (node 2) (bare ((list ((integer (pos 1)) ∷ (node 1) ∷ [])) ∷ (list ((integer (pos 2)) ∷ [])) ∷ (list ((integer (pos 1)) ∷ (node 1) ∷ [])) ∷ []) 98 0)
unfolding chars class_names
method_93 = refl

method_94 : call_method (node 0) (codes "copy") [] (bare ((list []) ∷ []) 100 0) ≡ fine (node 1) (bare ((list []) ∷ (list []) ∷ []) 100 0)
unfolding chars class_names
method_94 = refl

method_95 : call_method (node 0) (codes "copy") [] (bare ((list ((integer (pos 1)) ∷ (integer (pos 2)) ∷ [])) ∷ []) 1 0) ≡ stopped (bare ((list ((integer (pos 1)) ∷ (integer (pos 2)) ∷ [])) ∷ []) 0 0)
unfolding chars class_names
method_95 = refl

method_96 : call_method (node 0) (codes "copy") ((integer (pos 1)) ∷ []) (bare ((list []) ∷ []) 100 0) ≡ raised (fresh 23 ((text (codes "copy() got bad arguments")) ∷ [])) (bare ((list []) ∷ []) 100 0)
unfolding chars class_names
method_96 = refl

method_97 : call_method (node 0) (codes "sort") [] (bare ((list ((integer (pos 3)) ∷ (integer (pos 1)) ∷ (integer (pos 2)) ∷ [])) ∷ []) 100 0) ≡ fine none (bare ((list ((integer (pos 1)) ∷ (integer (pos 2)) ∷ (integer (pos 3)) ∷ [])) ∷ []) 91 0)
unfolding chars class_names
method_97 = refl

method_98 : call_method (node 0) (codes "sort") [] (bare ((list ((integer (pos 2)) ∷ (bool true) ∷ (integer (pos 1)) ∷ (integer (pos 0)) ∷ (bool false) ∷ [])) ∷ []) 100 0) ≡ fine none (bare ((list ((integer (pos 0)) ∷ (bool false) ∷ (bool true) ∷ (integer (pos 1)) ∷ (integer (pos 2)) ∷ [])) ∷ []) 80 0)
unfolding chars class_names
method_98 = refl

method_99 : call_method (node 0) (codes "sort") [] (bare ((list ((text (codes "b")) ∷ (text []) ∷ (text (codes "a")) ∷ (text (codes "B")) ∷ (text (codes "ab")) ∷ [])) ∷ []) 100 0) ≡ fine none (bare ((list ((text []) ∷ (text (codes "B")) ∷ (text (codes "a")) ∷ (text (codes "ab")) ∷ (text (codes "b")) ∷ [])) ∷ []) 80 0)
unfolding chars class_names
method_99 = refl

method_100 : call_method (node 0) (codes "sort") [] (bare ((list []) ∷ []) 100 0) ≡ fine none (bare ((list []) ∷ []) 100 0)
unfolding chars class_names
method_100 = refl

method_101 : call_method (node 0) (codes "sort") [] (bare ((list ((text (233 ∷ [])) ∷ (text (codes "z")) ∷ [])) ∷ []) 100 0) ≡ fine none (bare ((list ((text (codes "z")) ∷ (text (233 ∷ [])) ∷ [])) ∷ []) 94 0)
unfolding chars class_names
method_101 = refl

method_102 : call_method (node 0) (codes "sort") [] (bare ((list ((integer (negsuc 0)) ∷ (integer (negsuc 2)) ∷ (integer (pos 5)) ∷ [])) ∷ []) 100 0) ≡ fine none (bare ((list ((integer (negsuc 2)) ∷ (integer (negsuc 0)) ∷ (integer (pos 5)) ∷ [])) ∷ []) 91 0)
unfolding chars class_names
method_102 = refl

method_103 : call_method (node 0) (codes "sort") [] (bare ((list ((integer (pos 1)) ∷ (text (codes "a")) ∷ [])) ∷ []) 100 0) ≡ raised (fresh 23 ((text (codes "sort() got bad arguments")) ∷ [])) (bare ((list ((integer (pos 1)) ∷ (text (codes "a")) ∷ [])) ∷ []) 94 0)
unfolding chars class_names
method_103 = refl

method_104 : call_method (node 0) (codes "sort") [] (bare ((list ((node 1) ∷ (node 2) ∷ [])) ∷ (list ((integer (pos 1)) ∷ [])) ∷ (list ((integer (pos 0)) ∷ [])) ∷ []) 100 0) ≡ raised (fresh 23 ((text (codes "sort() got bad arguments")) ∷ [])) (bare ((list ((node 1) ∷ (node 2) ∷ [])) ∷ (list ((integer (pos 1)) ∷ [])) ∷ (list ((integer (pos 0)) ∷ [])) ∷ []) 94 0)
unfolding chars class_names
method_104 = refl

method_105 : call_method (node 0) (codes "sort") [] (bare ((list (none ∷ [])) ∷ []) 100 0) ≡ raised (fresh 23 ((text (codes "sort() got bad arguments")) ∷ [])) (bare ((list (none ∷ [])) ∷ []) 98 0)
unfolding chars class_names
method_105 = refl

method_106 : call_method (node 0) (codes "sort") ((integer (pos 1)) ∷ []) (bare ((list ((integer (pos 2)) ∷ (integer (pos 1)) ∷ [])) ∷ []) 100 0) ≡ raised (fresh 23 ((text (codes "sort() got bad arguments")) ∷ [])) (bare ((list ((integer (pos 2)) ∷ (integer (pos 1)) ∷ [])) ∷ []) 100 0)
unfolding chars class_names
method_106 = refl

method_107 : call_method (node 0) (codes "sort") [] (bare ((list ((integer (pos 3)) ∷ (integer (pos 2)) ∷ (integer (pos 1)) ∷ [])) ∷ []) 8 0) ≡ stopped (bare ((list ((integer (pos 3)) ∷ (integer (pos 2)) ∷ (integer (pos 1)) ∷ [])) ∷ []) 0 0)
unfolding chars class_names
method_107 = refl

method_108 : call_method (node 0) (codes "sort") [] (bare ((list ((integer (pos 3)) ∷ (integer (pos 2)) ∷ (integer (pos 1)) ∷ [])) ∷ []) 9 0) ≡ fine none (bare ((list ((integer (pos 1)) ∷ (integer (pos 2)) ∷ (integer (pos 3)) ∷ [])) ∷ []) 0 0)
unfolding chars class_names
method_108 = refl

method_109 : call_method (node 0) (codes "sort") [] (bare ((list ((integer (pos 1)) ∷ (text (codes "a")) ∷ [])) ∷ []) 5 0) ≡ stopped (bare ((list ((integer (pos 1)) ∷ (text (codes "a")) ∷ [])) ∷ []) 0 0)
unfolding chars class_names
method_109 = refl

method_110 : call_method (node 0) (codes "index") ((integer (pos 2)) ∷ []) (bare ((tuple ((integer (pos 1)) ∷ (integer (pos 2)) ∷ [])) ∷ []) 100 0) ≡ fine (integer (pos 1)) (bare ((tuple ((integer (pos 1)) ∷ (integer (pos 2)) ∷ [])) ∷ []) 98 0)
unfolding chars class_names
method_110 = refl

method_111 : call_method (node 0) (codes "index") ((integer (pos 2)) ∷ []) (bare ((tuple []) ∷ []) 100 0) ≡ raised (fresh 24 ((text (codes "value not found")) ∷ [])) (bare ((tuple []) ∷ []) 100 0)
unfolding chars class_names
method_111 = refl

method_112 : call_method (node 0) (codes "index") ((node 1) ∷ []) (bare ((tuple ((node 2) ∷ (node 3) ∷ [])) ∷ (list ((integer (pos 2)) ∷ [])) ∷ (list ((integer (pos 1)) ∷ [])) ∷ (list ((integer (pos 2)) ∷ [])) ∷ []) 100 0) ≡ fine (integer (pos 1)) (bare ((tuple ((node 2) ∷ (node 3) ∷ [])) ∷ (list ((integer (pos 2)) ∷ [])) ∷ (list ((integer (pos 1)) ∷ [])) ∷ (list ((integer (pos 2)) ∷ [])) ∷ []) 96 0)
unfolding chars class_names
method_112 = refl

method_113 : call_method (node 0) (codes "index") [] (bare ((tuple ((integer (pos 1)) ∷ [])) ∷ []) 100 0) ≡ raised (fresh 23 ((text (codes "index() got bad arguments")) ∷ [])) (bare ((tuple ((integer (pos 1)) ∷ [])) ∷ []) 100 0)
unfolding chars class_names
method_113 = refl

method_114 : call_method (node 0) (codes "index") ((integer (pos 2)) ∷ []) (bare ((tuple ((integer (pos 1)) ∷ (integer (pos 2)) ∷ [])) ∷ []) 1 0) ≡ stopped (bare ((tuple ((integer (pos 1)) ∷ (integer (pos 2)) ∷ [])) ∷ []) 0 0)
unfolding chars class_names
method_114 = refl

method_115 : call_method (node 0) (codes "count") ((integer (pos 1)) ∷ []) (bare ((tuple ((integer (pos 1)) ∷ (bool true) ∷ (integer (pos 2)) ∷ [])) ∷ []) 100 0) ≡ fine (integer (pos 2)) (bare ((tuple ((integer (pos 1)) ∷ (bool true) ∷ (integer (pos 2)) ∷ [])) ∷ []) 97 0)
unfolding chars class_names
method_115 = refl

method_116 : call_method (node 0) (codes "count") (none ∷ []) (bare ((tuple []) ∷ []) 100 0) ≡ fine (integer (pos 0)) (bare ((tuple []) ∷ []) 100 0)
unfolding chars class_names
method_116 = refl

method_117 : call_method (node 0) (codes "count") ((node 1) ∷ []) (bare ((tuple ((node 1) ∷ (node 1) ∷ (node 2) ∷ [])) ∷ (list ((integer (pos 1)) ∷ [])) ∷ (list ((integer (pos 1)) ∷ [])) ∷ []) 100 0) ≡ fine (integer (pos 3)) (bare ((tuple ((node 1) ∷ (node 1) ∷ (node 2) ∷ [])) ∷ (list ((integer (pos 1)) ∷ [])) ∷ (list ((integer (pos 1)) ∷ [])) ∷ []) 96 0)
unfolding chars class_names
method_117 = refl

method_118 : call_method (node 0) (codes "count") ((integer (pos 1)) ∷ (integer (pos 2)) ∷ []) (bare ((tuple ((integer (pos 1)) ∷ [])) ∷ []) 100 0) ≡ raised (fresh 23 ((text (codes "count() got bad arguments")) ∷ [])) (bare ((tuple ((integer (pos 1)) ∷ [])) ∷ []) 100 0)
unfolding chars class_names
method_118 = refl

method_119 : call_method (node 0) (codes "get") ((integer (pos 1)) ∷ []) (bare ((dict (((p.single (p.integer (pos 1))), (text (codes "a"))) ∷ [])) ∷ []) 100 0) ≡ fine (text (codes "a")) (bare ((dict (((p.single (p.integer (pos 1))), (text (codes "a"))) ∷ [])) ∷ []) 100 0)
unfolding chars class_names
method_119 = refl

method_120 : call_method (node 0) (codes "get") ((bool true) ∷ []) (bare ((dict (((p.single (p.integer (pos 1))), (text (codes "a"))) ∷ [])) ∷ []) 100 0) ≡ fine (text (codes "a")) (bare ((dict (((p.single (p.integer (pos 1))), (text (codes "a"))) ∷ [])) ∷ []) 100 0)
unfolding chars class_names
method_120 = refl

method_121 : call_method (node 0) (codes "get") ((integer (pos 2)) ∷ []) (bare ((dict (((p.single (p.integer (pos 1))), (text (codes "a"))) ∷ [])) ∷ []) 100 0) ≡ fine none (bare ((dict (((p.single (p.integer (pos 1))), (text (codes "a"))) ∷ [])) ∷ []) 100 0)
unfolding chars class_names
method_121 = refl

method_122 : call_method (node 0) (codes "get") ((integer (pos 2)) ∷ (text (codes "d")) ∷ []) (bare ((dict (((p.single (p.integer (pos 1))), (text (codes "a"))) ∷ [])) ∷ []) 100 0) ≡ fine (text (codes "d")) (bare ((dict (((p.single (p.integer (pos 1))), (text (codes "a"))) ∷ [])) ∷ []) 100 0)
unfolding chars class_names
method_122 = refl

method_123 : call_method (node 0) (codes "get") ((integer (pos 1)) ∷ (text (codes "d")) ∷ []) (bare ((dict (((p.single (p.integer (pos 1))), (text (codes "a"))) ∷ [])) ∷ []) 100 0) ≡ fine (text (codes "a")) (bare ((dict (((p.single (p.integer (pos 1))), (text (codes "a"))) ∷ [])) ∷ []) 100 0)
unfolding chars class_names
method_123 = refl

method_124 : call_method (node 0) (codes "get") ((node 1) ∷ []) (bare ((dict (((p.tuple ((p.integer (pos 1)) ∷ (p.integer (pos 2)) ∷ [])), (text (codes "a"))) ∷ [])) ∷ (tuple ((integer (pos 1)) ∷ (integer (pos 2)) ∷ [])) ∷ []) 100 0) ≡ fine (text (codes "a")) (bare ((dict (((p.tuple ((p.integer (pos 1)) ∷ (p.integer (pos 2)) ∷ [])), (text (codes "a"))) ∷ [])) ∷ (tuple ((integer (pos 1)) ∷ (integer (pos 2)) ∷ [])) ∷ []) 98 0)
unfolding chars class_names
method_124 = refl

method_125 : call_method (node 0) (codes "get") ((node 1) ∷ []) (bare ((dict []) ∷ (tuple ((integer (pos 1)) ∷ (integer (pos 2)) ∷ [])) ∷ []) 1 0) ≡ stopped (bare ((dict []) ∷ (tuple ((integer (pos 1)) ∷ (integer (pos 2)) ∷ [])) ∷ []) 0 0)
unfolding chars class_names
method_125 = refl

method_126 : call_method (node 0) (codes "get") ((node 1) ∷ []) (bare ((dict []) ∷ (list []) ∷ []) 100 0) ≡ raised (fresh 23 ((text (codes "unhashable key: 'list'")) ∷ [])) (bare ((dict []) ∷ (list []) ∷ []) 100 0)
unfolding chars class_names
method_126 = refl

method_127 : call_method (node 0) (codes "get") ((node 1) ∷ []) (bare ((dict []) ∷ (tuple ((node 2) ∷ [])) ∷ (list []) ∷ []) 100 0) ≡ raised (fresh 23 ((text (codes "unhashable key: 'list'")) ∷ [])) (bare ((dict []) ∷ (tuple ((node 2) ∷ [])) ∷ (list []) ∷ []) 99 0)
unfolding chars class_names
method_127 = refl

method_128 : call_method (node 0) (codes "get") [] (bare ((dict []) ∷ []) 100 0) ≡ raised (fresh 23 ((text (codes "get() got bad arguments")) ∷ [])) (bare ((dict []) ∷ []) 100 0)
unfolding chars class_names
method_128 = refl

method_129 : call_method (node 0) (codes "get") ((integer (pos 1)) ∷ (integer (pos 2)) ∷ (integer (pos 3)) ∷ []) (bare ((dict []) ∷ []) 100 0) ≡ raised (fresh 23 ((text (codes "get() got bad arguments")) ∷ [])) (bare ((dict []) ∷ []) 100 0)
unfolding chars class_names
method_129 = refl

method_130 : call_method (node 0) (codes "get") ((text (codes "a")) ∷ []) (bare ((dict (((p.single (p.text (codes "a"))), (integer (pos 1))) ∷ [])) ∷ []) 0 0) ≡ fine (integer (pos 1)) (bare ((dict (((p.single (p.text (codes "a"))), (integer (pos 1))) ∷ [])) ∷ []) 0 0)
unfolding chars class_names
method_130 = refl

method_131 : call_method (node 0) (codes "get") (none ∷ []) (bare ((dict (((p.single p.none), (integer (pos 1))) ∷ [])) ∷ []) 100 0) ≡ fine (integer (pos 1)) (bare ((dict (((p.single p.none), (integer (pos 1))) ∷ [])) ∷ []) 100 0)
unfolding chars class_names
method_131 = refl

method_132 : call_method (node 0) (codes "get") (none ∷ []) (bare ((dict (((p.single (p.integer (pos 0))), (integer (pos 1))) ∷ ((p.single (p.text [])), (integer (pos 2))) ∷ [])) ∷ []) 100 0) ≡ fine none (bare ((dict (((p.single (p.integer (pos 0))), (integer (pos 1))) ∷ ((p.single (p.text [])), (integer (pos 2))) ∷ [])) ∷ []) 100 0)
unfolding chars class_names
method_132 = refl

method_133 : call_method (node 0) (codes "get") ((bool false) ∷ []) (bare ((dict (((p.single p.none), (integer (pos 1))) ∷ [])) ∷ []) 100 0) ≡ fine none (bare ((dict (((p.single p.none), (integer (pos 1))) ∷ [])) ∷ []) 100 0)
unfolding chars class_names
method_133 = refl

method_134 : call_method (node 0) (codes "get") ((node 1) ∷ []) (bare ((dict []) ∷ (function One (codes "def f(): pass") []) ∷ []) 100 0) ≡ raised (fresh 23 ((text (codes "unhashable key: 'function'")) ∷ [])) (bare ((dict []) ∷ (function One (codes "def f(): pass") []) ∷ []) 100 0)
unfolding chars class_names
method_134 = refl

method_135 : call_method (node 0) (codes "get") ((range (pos 0) (pos 2) (pos 1)) ∷ []) (bare ((dict []) ∷ []) 100 0) ≡ raised (fresh 23 ((text (codes "unhashable key: 'range'")) ∷ [])) (bare ((dict []) ∷ []) 100 0)
unfolding chars class_names
method_135 = refl

method_136 : call_method (node 0) (codes "setdefault") ((integer (pos 1)) ∷ (text (codes "d")) ∷ []) (bare ((dict (((p.single (p.integer (pos 1))), (text (codes "a"))) ∷ [])) ∷ []) 100 0) ≡ fine (text (codes "a")) (bare ((dict (((p.single (p.integer (pos 1))), (text (codes "a"))) ∷ [])) ∷ []) 100 0)
unfolding chars class_names
method_136 = refl

method_137 : call_method (node 0) (codes "setdefault") ((integer (pos 2)) ∷ (text (codes "d")) ∷ []) (bare ((dict (((p.single (p.integer (pos 1))), (text (codes "a"))) ∷ [])) ∷ []) 100 0) ≡ fine (text (codes "d")) (bare ((dict (((p.single (p.integer (pos 1))), (text (codes "a"))) ∷ ((p.single (p.integer (pos 2))), (text (codes "d"))) ∷ [])) ∷ []) 100 0)
unfolding chars class_names
method_137 = refl

method_138 : call_method (node 0) (codes "setdefault") ((integer (pos 2)) ∷ []) (bare ((dict (((p.single (p.integer (pos 1))), (text (codes "a"))) ∷ [])) ∷ []) 100 0) ≡ fine none (bare ((dict (((p.single (p.integer (pos 1))), (text (codes "a"))) ∷ ((p.single (p.integer (pos 2))), none) ∷ [])) ∷ []) 100 0)
unfolding chars class_names
method_138 = refl

method_139 : call_method (node 0) (codes "setdefault") ((node 1) ∷ (node 2) ∷ []) (bare ((dict []) ∷ (tuple ((integer (pos 1)) ∷ (text (codes "x")) ∷ [])) ∷ (list []) ∷ []) 100 0) ≡ fine (node 2) (bare ((dict (((p.tuple ((p.integer (pos 1)) ∷ (p.text (codes "x")) ∷ [])), (node 2)) ∷ [])) ∷ (tuple ((integer (pos 1)) ∷ (text (codes "x")) ∷ [])) ∷ (list []) ∷ []) 98 0)
unfolding chars class_names
method_139 = refl

method_140 : call_method (node 0) (codes "setdefault") ((node 1) ∷ []) (bare ((dict []) ∷ (dict []) ∷ []) 100 0) ≡ raised (fresh 23 ((text (codes "unhashable key: 'dict'")) ∷ [])) (bare ((dict []) ∷ (dict []) ∷ []) 100 0)
unfolding chars class_names
method_140 = refl

method_141 : call_method (node 0) (codes "setdefault") [] (bare ((dict []) ∷ []) 100 0) ≡ raised (fresh 23 ((text (codes "setdefault() got bad arguments")) ∷ [])) (bare ((dict []) ∷ []) 100 0)
unfolding chars class_names
method_141 = refl

method_142 : call_method (node 0) (codes "setdefault") ((integer (pos 1)) ∷ (text (codes "b")) ∷ []) (bare ((dict (((p.single (p.bool true)), (text (codes "a"))) ∷ [])) ∷ []) 100 0) ≡ fine (text (codes "a")) (bare ((dict (((p.single (p.bool true)), (text (codes "a"))) ∷ [])) ∷ []) 100 0)
unfolding chars class_names
method_142 = refl

method_143 : call_method (node 0) (codes "setdefault") ((node 1) ∷ (integer (pos 3)) ∷ []) (bare ((dict (((p.single (p.integer (pos 0))), (integer (pos 1))) ∷ [])) ∷ (tuple ((integer (pos 1)) ∷ (integer (pos 2)) ∷ [])) ∷ []) 1 0) ≡ stopped (bare ((dict (((p.single (p.integer (pos 0))), (integer (pos 1))) ∷ [])) ∷ (tuple ((integer (pos 1)) ∷ (integer (pos 2)) ∷ [])) ∷ []) 0 0)
unfolding chars class_names
method_143 = refl

method_144 : call_method (node 0) (codes "pop") ((integer (pos 1)) ∷ []) (bare ((dict (((p.single (p.integer (pos 1))), (text (codes "a"))) ∷ ((p.single (p.integer (pos 2))), (text (codes "b"))) ∷ [])) ∷ []) 100 0) ≡ fine (text (codes "a")) (bare ((dict (((p.single (p.integer (pos 2))), (text (codes "b"))) ∷ [])) ∷ []) 100 0)
unfolding chars class_names
method_144 = refl

method_145 : call_method (node 0) (codes "pop") ((integer (pos 2)) ∷ []) (bare ((dict (((p.single (p.integer (pos 1))), (text (codes "a"))) ∷ ((p.single (p.integer (pos 2))), (text (codes "b"))) ∷ ((p.single (p.integer (pos 3))), (text (codes "c"))) ∷ [])) ∷ []) 100 0) ≡ fine (text (codes "b")) (bare ((dict (((p.single (p.integer (pos 1))), (text (codes "a"))) ∷ ((p.single (p.integer (pos 3))), (text (codes "c"))) ∷ [])) ∷ []) 100 0)
unfolding chars class_names
method_145 = refl

method_146 : call_method (node 0) (codes "pop") ((bool true) ∷ []) (bare ((dict (((p.single (p.integer (pos 1))), (text (codes "a"))) ∷ [])) ∷ []) 100 0) ≡ fine (text (codes "a")) (bare ((dict []) ∷ []) 100 0)
unfolding chars class_names
method_146 = refl

method_147 : call_method (node 0) (codes "pop") ((integer (pos 2)) ∷ (text (codes "d")) ∷ []) (bare ((dict (((p.single (p.integer (pos 1))), (text (codes "a"))) ∷ [])) ∷ []) 100 0) ≡ fine (text (codes "d")) (bare ((dict (((p.single (p.integer (pos 1))), (text (codes "a"))) ∷ [])) ∷ []) 100 0)
unfolding chars class_names
method_147 = refl

method_148 : call_method (node 0) (codes "pop") ((integer (pos 1)) ∷ (text (codes "d")) ∷ []) (bare ((dict (((p.single (p.integer (pos 1))), (text (codes "a"))) ∷ [])) ∷ []) 100 0) ≡ fine (text (codes "a")) (bare ((dict []) ∷ []) 100 0)
unfolding chars class_names
method_148 = refl

method_149 : call_method (node 0) (codes "pop") ((integer (pos 2)) ∷ []) (bare ((dict (((p.single (p.integer (pos 1))), (text (codes "a"))) ∷ [])) ∷ []) 100 0) ≡ raised (fresh 16 ((integer (pos 2)) ∷ [])) (bare ((dict (((p.single (p.integer (pos 1))), (text (codes "a"))) ∷ [])) ∷ []) 100 0)
unfolding chars class_names
method_149 = refl

method_150 : call_method (node 0) (codes "pop") ((text (codes "k")) ∷ []) (bare ((dict []) ∷ []) 100 0) ≡ raised (fresh 16 ((text (codes "k")) ∷ [])) (bare ((dict []) ∷ []) 100 0)
unfolding chars class_names
method_150 = refl

method_151 : call_method (node 0) (codes "pop") ((node 1) ∷ []) (bare ((dict []) ∷ (tuple ((integer (pos 1)) ∷ (integer (pos 2)) ∷ [])) ∷ []) 100 0) ≡ raised (fresh 16 ((node 1) ∷ [])) (bare ((dict []) ∷ (tuple ((integer (pos 1)) ∷ (integer (pos 2)) ∷ [])) ∷ []) 98 0)
unfolding chars class_names
method_151 = refl

method_152 : call_method (node 0) (codes "pop") ((node 1) ∷ []) (bare ((dict (((p.single (p.integer (pos 1))), (integer (pos 2))) ∷ [])) ∷ (list []) ∷ []) 100 0) ≡ raised (fresh 23 ((text (codes "unhashable key: 'list'")) ∷ [])) (bare ((dict (((p.single (p.integer (pos 1))), (integer (pos 2))) ∷ [])) ∷ (list []) ∷ []) 100 0)
unfolding chars class_names
method_152 = refl

method_153 : call_method (node 0) (codes "pop") ((node 1) ∷ (integer (pos 1)) ∷ []) (bare ((dict []) ∷ (list []) ∷ []) 100 0) ≡ raised (fresh 23 ((text (codes "unhashable key: 'list'")) ∷ [])) (bare ((dict []) ∷ (list []) ∷ []) 100 0)
unfolding chars class_names
method_153 = refl

method_154 : call_method (node 0) (codes "pop") [] (bare ((dict []) ∷ []) 100 0) ≡ raised (fresh 23 ((text (codes "pop() got bad arguments")) ∷ [])) (bare ((dict []) ∷ []) 100 0)
unfolding chars class_names
method_154 = refl

method_155 : call_method (node 0) (codes "pop") ((node 1) ∷ []) (bare ((dict (((p.tuple ((p.integer (pos 1)) ∷ [])), (integer (pos 2))) ∷ ((p.single (p.integer (pos 3))), (integer (pos 4))) ∷ [])) ∷ (tuple ((bool true) ∷ [])) ∷ []) 100 0) ≡ fine (integer (pos 2)) (bare ((dict (((p.single (p.integer (pos 3))), (integer (pos 4))) ∷ [])) ∷ (tuple ((bool true) ∷ [])) ∷ []) 99 0)
unfolding chars class_names
method_155 = refl

method_156 : call_method (node 0) (codes "clear") [] (bare ((dict (((p.single (p.integer (pos 1))), (integer (pos 2))) ∷ [])) ∷ []) 100 0) ≡ fine none (bare ((dict []) ∷ []) 100 0)
unfolding chars class_names
method_156 = refl

method_157 : call_method (node 0) (codes "clear") [] (bare ((dict []) ∷ []) 100 0) ≡ fine none (bare ((dict []) ∷ []) 100 0)
unfolding chars class_names
method_157 = refl

method_158 : call_method (node 0) (codes "clear") ((integer (pos 1)) ∷ []) (bare ((dict (((p.single (p.integer (pos 1))), (integer (pos 2))) ∷ [])) ∷ []) 100 0) ≡ raised (fresh 23 ((text (codes "clear() got bad arguments")) ∷ [])) (bare ((dict (((p.single (p.integer (pos 1))), (integer (pos 2))) ∷ [])) ∷ []) 100 0)
unfolding chars class_names
method_158 = refl

method_159 : call_method (node 0) (codes "update") ((node 1) ∷ []) (bare ((dict (((p.single (p.text (codes "k"))), (integer (pos 1))) ∷ ((p.single (p.text (codes "j"))), (integer (pos 2))) ∷ [])) ∷ (dict (((p.single (p.text (codes "i"))), (integer (pos 3))) ∷ ((p.single (p.text (codes "k"))), (integer (pos 4))) ∷ [])) ∷ []) 100 0) ≡ fine none (bare ((dict (((p.single (p.text (codes "k"))), (integer (pos 4))) ∷ ((p.single (p.text (codes "j"))), (integer (pos 2))) ∷ ((p.single (p.text (codes "i"))), (integer (pos 3))) ∷ [])) ∷ (dict (((p.single (p.text (codes "i"))), (integer (pos 3))) ∷ ((p.single (p.text (codes "k"))), (integer (pos 4))) ∷ [])) ∷ []) 98 0)
unfolding chars class_names
method_159 = refl

method_160 : call_method (node 0) (codes "update") ((node 1) ∷ []) (bare ((dict (((p.single (p.integer (pos 1))), (text (codes "a"))) ∷ [])) ∷ (dict (((p.single (p.bool true)), (text (codes "b"))) ∷ [])) ∷ []) 100 0) ≡ fine none (bare ((dict (((p.single (p.integer (pos 1))), (text (codes "b"))) ∷ [])) ∷ (dict (((p.single (p.bool true)), (text (codes "b"))) ∷ [])) ∷ []) 99 0)
unfolding chars class_names
method_160 = refl

method_161 : call_method (node 0) (codes "update") ((node 1) ∷ []) (bare ((dict []) ∷ (dict []) ∷ []) 100 0) ≡ fine none (bare ((dict []) ∷ (dict []) ∷ []) 100 0)
unfolding chars class_names
method_161 = refl

method_162 : call_method (node 0) (codes "update") ((node 1) ∷ []) (bare ((dict []) ∷ (dict (((p.tuple ((p.integer (pos 1)) ∷ (p.integer (pos 2)) ∷ [])), (node 2)) ∷ ((p.single (p.text (codes "a"))), (integer (pos 5))) ∷ [])) ∷ (list []) ∷ []) 100 0) ≡ fine none (bare ((dict (((p.tuple ((p.integer (pos 1)) ∷ (p.integer (pos 2)) ∷ [])), (node 2)) ∷ ((p.single (p.text (codes "a"))), (integer (pos 5))) ∷ [])) ∷ (dict (((p.tuple ((p.integer (pos 1)) ∷ (p.integer (pos 2)) ∷ [])), (node 2)) ∷ ((p.single (p.text (codes "a"))), (integer (pos 5))) ∷ [])) ∷ (list []) ∷ []) 98 0)
unfolding chars class_names
method_162 = refl

method_163 : call_method (node 0) (codes "update") ((node 0) ∷ []) (bare ((dict (((p.single (p.integer (pos 1))), (integer (pos 2))) ∷ [])) ∷ []) 100 0) ≡ fine none (bare ((dict (((p.single (p.integer (pos 1))), (integer (pos 2))) ∷ [])) ∷ []) 99 0)
unfolding chars class_names
method_163 = refl

method_164 : call_method (node 0) (codes "update") ((node 1) ∷ []) (bare ((dict (((p.single (p.integer (pos 1))), (integer (pos 2))) ∷ [])) ∷ (list []) ∷ []) 100 0) ≡ raised (fresh 23 ((text (codes "update() got bad arguments")) ∷ [])) (bare ((dict (((p.single (p.integer (pos 1))), (integer (pos 2))) ∷ [])) ∷ (list []) ∷ []) 100 0)
unfolding chars class_names
method_164 = refl

method_165 : call_method (node 0) (codes "update") ((integer (pos 5)) ∷ []) (bare ((dict (((p.single (p.integer (pos 1))), (integer (pos 2))) ∷ [])) ∷ []) 100 0) ≡ raised (fresh 23 ((text (codes "update() got bad arguments")) ∷ [])) (bare ((dict (((p.single (p.integer (pos 1))), (integer (pos 2))) ∷ [])) ∷ []) 100 0)
unfolding chars class_names
method_165 = refl

method_166 : call_method (node 0) (codes "update") [] (bare ((dict (((p.single (p.integer (pos 1))), (integer (pos 2))) ∷ [])) ∷ []) 100 0) ≡ raised (fresh 23 ((text (codes "update() got bad arguments")) ∷ [])) (bare ((dict (((p.single (p.integer (pos 1))), (integer (pos 2))) ∷ [])) ∷ []) 100 0)
unfolding chars class_names
method_166 = refl

method_167 : call_method (node 0) (codes "update") ((node 1) ∷ []) (bare ((dict (((p.single (p.integer (pos 1))), (integer (pos 2))) ∷ [])) ∷ (dict (((p.single (p.integer (pos 3))), (integer (pos 4))) ∷ ((p.single (p.integer (pos 5))), (integer (pos 6))) ∷ [])) ∷ []) 1 0) ≡ stopped (bare ((dict (((p.single (p.integer (pos 1))), (integer (pos 2))) ∷ [])) ∷ (dict (((p.single (p.integer (pos 3))), (integer (pos 4))) ∷ ((p.single (p.integer (pos 5))), (integer (pos 6))) ∷ [])) ∷ []) 0 0)
unfolding chars class_names
method_167 = refl

method_168 : call_method (node 0) (codes "update") ((node 1) ∷ []) (bare ((dict (((p.single (p.integer (pos 1))), (integer (pos 2))) ∷ [])) ∷ (dict (((p.single (p.integer (pos 3))), (integer (pos 4))) ∷ ((p.single (p.integer (pos 5))), (integer (pos 6))) ∷ [])) ∷ []) 2 0) ≡ fine none (bare ((dict (((p.single (p.integer (pos 1))), (integer (pos 2))) ∷ ((p.single (p.integer (pos 3))), (integer (pos 4))) ∷ ((p.single (p.integer (pos 5))), (integer (pos 6))) ∷ [])) ∷ (dict (((p.single (p.integer (pos 3))), (integer (pos 4))) ∷ ((p.single (p.integer (pos 5))), (integer (pos 6))) ∷ [])) ∷ []) 0 0)
unfolding chars class_names
method_168 = refl

method_169 : call_method (node 0) (codes "copy") [] (bare ((dict (((p.single (p.integer (pos 1))), (node 1)) ∷ ((p.single (p.text (codes "a"))), (integer (pos 3))) ∷ [])) ∷ (list ((integer (pos 2)) ∷ [])) ∷ []) 100 0) ≡ fine (node 2) (bare ((dict (((p.single (p.integer (pos 1))), (node 1)) ∷ ((p.single (p.text (codes "a"))), (integer (pos 3))) ∷ [])) ∷ (list ((integer (pos 2)) ∷ [])) ∷ (dict (((p.single (p.integer (pos 1))), (node 1)) ∷ ((p.single (p.text (codes "a"))), (integer (pos 3))) ∷ [])) ∷ []) 98 0)
unfolding chars class_names
method_169 = refl

method_170 : call_method (node 0) (codes "copy") [] (bare ((dict []) ∷ []) 100 0) ≡ fine (node 1) (bare ((dict []) ∷ (dict []) ∷ []) 100 0)
unfolding chars class_names
method_170 = refl

method_171 : call_method (node 0) (codes "copy") [] (bare ((dict (((p.single (p.integer (pos 1))), (integer (pos 2))) ∷ [])) ∷ []) 0 0) ≡ stopped (bare ((dict (((p.single (p.integer (pos 1))), (integer (pos 2))) ∷ [])) ∷ []) 0 0)
unfolding chars class_names
method_171 = refl

method_172 : call_method (node 0) (codes "copy") ((integer (pos 1)) ∷ []) (bare ((dict []) ∷ []) 100 0) ≡ raised (fresh 23 ((text (codes "copy() got bad arguments")) ∷ [])) (bare ((dict []) ∷ []) 100 0)
unfolding chars class_names
method_172 = refl

method_173 : call_method (text (codes "abc")) (codes "startswith") ((text (codes "ab")) ∷ []) (bare [] 100 0) ≡ fine (bool true) (bare [] 97 0)
unfolding chars class_names
method_173 = refl

method_174 : call_method (text (codes "abc")) (codes "startswith") ((text (codes "b")) ∷ []) (bare [] 100 0) ≡ fine (bool false) (bare [] 97 0)
unfolding chars class_names
method_174 = refl

method_175 : call_method (text (codes "abc")) (codes "startswith") ((text []) ∷ []) (bare [] 100 0) ≡ fine (bool true) (bare [] 97 0)
unfolding chars class_names
method_175 = refl

method_176 : call_method (text []) (codes "startswith") ((text (codes "a")) ∷ []) (bare [] 100 0) ≡ fine (bool false) (bare [] 100 0)
unfolding chars class_names
method_176 = refl

method_177 : call_method (text (codes "abc")) (codes "startswith") ((integer (pos 1)) ∷ []) (bare [] 100 0) ≡ raised (fresh 23 ((text (codes "startswith() got bad arguments")) ∷ [])) (bare [] 100 0)
unfolding chars class_names
method_177 = refl

method_178 : call_method (text (codes "abc")) (codes "startswith") [] (bare [] 100 0) ≡ raised (fresh 23 ((text (codes "startswith() got bad arguments")) ∷ [])) (bare [] 100 0)
unfolding chars class_names
method_178 = refl

method_179 : call_method (text (codes "abc")) (codes "startswith") ((text (codes "a")) ∷ []) (bare [] 2 0) ≡ stopped (bare [] 0 0)
unfolding chars class_names
method_179 = refl

method_180 : call_method (text (codes "a")) (codes "startswith") ((text (codes "ab")) ∷ []) (bare [] 100 0) ≡ fine (bool false) (bare [] 99 0)
unfolding chars class_names
method_180 = refl

method_181 : call_method (text (codes "abc")) (codes "endswith") ((text (codes "bc")) ∷ []) (bare [] 100 0) ≡ fine (bool true) (bare [] 97 0)
unfolding chars class_names
method_181 = refl

method_182 : call_method (text (codes "abc")) (codes "endswith") ((text (codes "b")) ∷ []) (bare [] 100 0) ≡ fine (bool false) (bare [] 97 0)
unfolding chars class_names
method_182 = refl

method_183 : call_method (text []) (codes "endswith") ((text []) ∷ []) (bare [] 100 0) ≡ fine (bool true) (bare [] 100 0)
unfolding chars class_names
method_183 = refl

method_184 : call_method (text (codes "abc")) (codes "endswith") (none ∷ []) (bare [] 100 0) ≡ raised (fresh 23 ((text (codes "endswith() got bad arguments")) ∷ [])) (bare [] 100 0)
unfolding chars class_names
method_184 = refl

method_185 : call_method (text (codes "abc")) (codes "endswith") ((text (codes "abcd")) ∷ []) (bare [] 100 0) ≡ fine (bool false) (bare [] 97 0)
unfolding chars class_names
method_185 = refl

method_186 : call_method (text (codes "abc")) (codes "endswith") ((text (codes "abc")) ∷ []) (bare [] 3 0) ≡ fine (bool true) (bare [] 0 0)
unfolding chars class_names
method_186 = refl

method_187 : call_method (text (32 ∷ 9 ∷ 10 ∷ 13 ∷ 11 ∷ 12 ∷ 97 ∷ 98 ∷ 32 ∷ 99 ∷ 32 ∷ [])) (codes "strip") [] (bare [] 100 0) ≡ fine (text (codes "ab c")) (bare [] 89 0)
unfolding chars class_names
method_187 = refl

method_188 : call_method (text []) (codes "strip") [] (bare [] 100 0) ≡ fine (text []) (bare [] 100 0)
unfolding chars class_names
method_188 = refl

method_189 : call_method (text (32 ∷ 9 ∷ [])) (codes "strip") [] (bare [] 100 0) ≡ fine (text []) (bare [] 98 0)
unfolding chars class_names
method_189 = refl

method_190 : call_method (text (codes "a")) (codes "strip") ((text (codes "a")) ∷ []) (bare [] 100 0) ≡ raised (fresh 23 ((text (codes "strip() got bad arguments")) ∷ [])) (bare [] 100 0)
unfolding chars class_names
method_190 = refl

method_191 : call_method (text (8 ∷ 97 ∷ 14 ∷ [])) (codes "strip") [] (bare [] 100 0) ≡ fine (text (8 ∷ 97 ∷ 14 ∷ [])) (bare [] 97 0)
unfolding chars class_names
method_191 = refl

method_192 : call_method (text (31 ∷ 97 ∷ 160 ∷ [])) (codes "strip") [] (bare [] 100 0) ≡ fine (text (31 ∷ 97 ∷ 160 ∷ [])) (bare [] 97 0)
unfolding chars class_names
method_192 = refl

method_193 : call_method (text (codes " a")) (codes "strip") [] (bare [] 1 0) ≡ stopped (bare [] 0 0)
unfolding chars class_names
method_193 = refl

method_194 : call_method (text (codes "0123456789")) (codes "isdigit") [] (bare [] 100 0) ≡ fine (bool true) (bare [] 90 0)
unfolding chars class_names
method_194 = refl

method_195 : call_method (text []) (codes "isdigit") [] (bare [] 100 0) ≡ fine (bool false) (bare [] 100 0)
unfolding chars class_names
method_195 = refl

method_196 : call_method (text (codes "1a")) (codes "isdigit") [] (bare [] 100 0) ≡ fine (bool false) (bare [] 98 0)
unfolding chars class_names
method_196 = refl

method_197 : call_method (text (codes "-1")) (codes "isdigit") [] (bare [] 100 0) ≡ fine (bool false) (bare [] 98 0)
unfolding chars class_names
method_197 = refl

method_198 : call_method (text (codes "12")) (codes "isdigit") ((integer (pos 1)) ∷ []) (bare [] 100 0) ≡ raised (fresh 23 ((text (codes "isdigit() got bad arguments")) ∷ [])) (bare [] 100 0)
unfolding chars class_names
method_198 = refl

method_199 : call_method (text (codes "1/")) (codes "isdigit") [] (bare [] 100 0) ≡ fine (bool false) (bare [] 98 0)
unfolding chars class_names
method_199 = refl

method_200 : call_method (text (codes "1:")) (codes "isdigit") [] (bare [] 100 0) ≡ fine (bool false) (bare [] 98 0)
unfolding chars class_names
method_200 = refl

method_201 : call_method (text (178 ∷ [])) (codes "isdigit") [] (bare [] 100 0) ≡ fine (bool false) (bare [] 99 0)
unfolding chars class_names
method_201 = refl

method_202 : call_method (text (codes "12")) (codes "isdigit") [] (bare [] 1 0) ≡ stopped (bare [] 0 0)
unfolding chars class_names
method_202 = refl

method_203 : call_method (text (codes "banana")) (codes "find") ((text (codes "an")) ∷ []) (bare [] 100 0) ≡ fine (integer (pos 1)) (bare [] 88 0)
unfolding chars class_names
method_203 = refl

method_204 : call_method (text (codes "banana")) (codes "find") ((text (codes "x")) ∷ []) (bare [] 100 0) ≡ fine (integer (negsuc 0)) (bare [] 94 0)
unfolding chars class_names
method_204 = refl

method_205 : call_method (text (codes "banana")) (codes "find") ((text []) ∷ []) (bare [] 100 0) ≡ fine (integer (pos 0)) (bare [] 94 0)
unfolding chars class_names
method_205 = refl

method_206 : call_method (text []) (codes "find") ((text []) ∷ []) (bare [] 100 0) ≡ fine (integer (pos 0)) (bare [] 100 0)
unfolding chars class_names
method_206 = refl

method_207 : call_method (text []) (codes "find") ((text (codes "a")) ∷ []) (bare [] 100 0) ≡ fine (integer (negsuc 0)) (bare [] 100 0)
unfolding chars class_names
method_207 = refl

method_208 : call_method (text (233 ∷ 128512 ∷ 233 ∷ [])) (codes "find") ((text (128512 ∷ [])) ∷ []) (bare [] 100 0) ≡ fine (integer (pos 1)) (bare [] 97 0)
unfolding chars class_names
method_208 = refl

method_209 : call_method (text (codes "banana")) (codes "find") ((text (codes "na")) ∷ []) (bare [] 11 0) ≡ stopped (bare [] 0 0)
unfolding chars class_names
method_209 = refl

method_210 : call_method (text (codes "banana")) (codes "find") ((text (codes "na")) ∷ []) (bare [] 12 0) ≡ fine (integer (pos 2)) (bare [] 0 0)
unfolding chars class_names
method_210 = refl

method_211 : call_method (text (codes "banana")) (codes "find") ((integer (pos 1)) ∷ []) (bare [] 100 0) ≡ raised (fresh 23 ((text (codes "find() got bad arguments")) ∷ [])) (bare [] 100 0)
unfolding chars class_names
method_211 = refl

method_212 : call_method (text (codes "banana")) (codes "find") ((text []) ∷ []) (bare [] 5 0) ≡ stopped (bare [] 0 0)
unfolding chars class_names
method_212 = refl

method_213 : call_method (text (codes "banana")) (codes "count") ((text (codes "an")) ∷ []) (bare [] 100 0) ≡ fine (integer (pos 2)) (bare [] 88 0)
unfolding chars class_names
method_213 = refl

method_214 : call_method (text (codes "aaaa")) (codes "count") ((text (codes "aa")) ∷ []) (bare [] 100 0) ≡ fine (integer (pos 2)) (bare [] 92 0)
unfolding chars class_names
method_214 = refl

method_215 : call_method (text (codes "abc")) (codes "count") ((text (codes "x")) ∷ []) (bare [] 100 0) ≡ fine (integer (pos 0)) (bare [] 97 0)
unfolding chars class_names
method_215 = refl

method_216 : call_method (text (codes "abc")) (codes "count") ((text []) ∷ []) (bare [] 100 0) ≡ raised (fresh 24 ((text (codes "empty separator")) ∷ [])) (bare [] 100 0)
unfolding chars class_names
method_216 = refl

method_217 : call_method (text []) (codes "count") ((text (codes "a")) ∷ []) (bare [] 100 0) ≡ fine (integer (pos 0)) (bare [] 100 0)
unfolding chars class_names
method_217 = refl

method_218 : call_method (text (codes "abc")) (codes "count") ((node 0) ∷ []) (bare ((list []) ∷ []) 100 0) ≡ raised (fresh 23 ((text (codes "count() got bad arguments")) ∷ [])) (bare ((list []) ∷ []) 100 0)
unfolding chars class_names
method_218 = refl

method_219 : call_method (text (codes "abc")) (codes "count") ((text (codes "b")) ∷ []) (bare [] 2 0) ≡ stopped (bare [] 0 0)
unfolding chars class_names
method_219 = refl

method_220 : call_method (text (32 ∷ 97 ∷ 32 ∷ 32 ∷ 98 ∷ 9 ∷ 99 ∷ 10 ∷ [])) (codes "split") [] (bare [] 100 0) ≡ fine (node 0) (bare ((list ((text (codes "a")) ∷ (text (codes "b")) ∷ (text (codes "c")) ∷ [])) ∷ []) 92 0)
unfolding chars class_names
method_220 = refl

method_221 : call_method (text []) (codes "split") [] (bare [] 100 0) ≡ fine (node 0) (bare ((list []) ∷ []) 100 0)
unfolding chars class_names
method_221 = refl

method_222 : call_method (text (codes "   ")) (codes "split") [] (bare [] 100 0) ≡ fine (node 0) (bare ((list []) ∷ []) 97 0)
unfolding chars class_names
method_222 = refl

method_223 : call_method (text (97 ∷ 11 ∷ 98 ∷ 12 ∷ 99 ∷ [])) (codes "split") [] (bare [] 100 0) ≡ fine (node 0) (bare ((list ((text (codes "a")) ∷ (text (codes "b")) ∷ (text (codes "c")) ∷ [])) ∷ []) 95 0)
unfolding chars class_names
method_223 = refl

method_224 : call_method (text (97 ∷ 14 ∷ 98 ∷ 8 ∷ 99 ∷ [])) (codes "split") [] (bare [] 100 0) ≡ fine (node 0) (bare ((list ((text (97 ∷ 14 ∷ 98 ∷ 8 ∷ 99 ∷ [])) ∷ [])) ∷ []) 95 0)
unfolding chars class_names
method_224 = refl

method_225 : call_method (text (codes "a b")) (codes "split") [] (bare [] 2 0) ≡ stopped (bare [] 0 0)
unfolding chars class_names
method_225 = refl

method_226 : call_method (text (codes "a b")) (codes "split") [] (bare [] 3 0) ≡ fine (node 0) (bare ((list ((text (codes "a")) ∷ (text (codes "b")) ∷ [])) ∷ []) 0 0)
unfolding chars class_names
method_226 = refl

method_227 : call_method (text (codes "a,b,,c")) (codes "split") ((text (codes ",")) ∷ []) (bare [] 100 0) ≡ fine (node 0) (bare ((list ((text (codes "a")) ∷ (text (codes "b")) ∷ (text []) ∷ (text (codes "c")) ∷ [])) ∷ []) 91 0)
unfolding chars class_names
method_227 = refl

method_228 : call_method (text (codes ",")) (codes "split") ((text (codes ",")) ∷ []) (bare [] 100 0) ≡ fine (node 0) (bare ((list ((text []) ∷ (text []) ∷ [])) ∷ []) 99 0)
unfolding chars class_names
method_228 = refl

method_229 : call_method (text []) (codes "split") ((text (codes ",")) ∷ []) (bare [] 100 0) ≡ fine (node 0) (bare ((list ((text []) ∷ [])) ∷ []) 100 0)
unfolding chars class_names
method_229 = refl

method_230 : call_method (text (codes "aXXbXX")) (codes "split") ((text (codes "XX")) ∷ []) (bare [] 100 0) ≡ fine (node 0) (bare ((list ((text (codes "a")) ∷ (text (codes "b")) ∷ (text []) ∷ [])) ∷ []) 86 0)
unfolding chars class_names
method_230 = refl

method_231 : call_method (text (codes "aaa")) (codes "split") ((text (codes "aa")) ∷ []) (bare [] 100 0) ≡ fine (node 0) (bare ((list ((text []) ∷ (text (codes "a")) ∷ [])) ∷ []) 93 0)
unfolding chars class_names
method_231 = refl

method_232 : call_method (text (codes "abc")) (codes "split") ((text []) ∷ []) (bare [] 100 0) ≡ raised (fresh 24 ((text (codes "empty separator")) ∷ [])) (bare [] 100 0)
unfolding chars class_names
method_232 = refl

method_233 : call_method (text (codes "abc")) (codes "split") (none ∷ []) (bare [] 100 0) ≡ raised (fresh 23 ((text (codes "split() got bad arguments")) ∷ [])) (bare [] 100 0)
unfolding chars class_names
method_233 = refl

method_234 : call_method (text (codes "a,b")) (codes "split") ((text (codes ",")) ∷ []) (bare [] 4 0) ≡ stopped (bare [] 0 0)
unfolding chars class_names
method_234 = refl

method_235 : call_method (text (codes "a,b")) (codes "split") ((text (codes ",")) ∷ []) (bare [] 5 0) ≡ fine (node 0) (bare ((list ((text (codes "a")) ∷ (text (codes "b")) ∷ [])) ∷ []) 0 0)
unfolding chars class_names
method_235 = refl

method_236 : call_method (text (codes "a,b")) (codes "split") ((text (codes ",")) ∷ (integer (pos 1)) ∷ []) (bare [] 100 0) ≡ raised (fresh 23 ((text (codes "split() got bad arguments")) ∷ [])) (bare [] 100 0)
unfolding chars class_names
method_236 = refl

method_237 : call_method (text (codes "aXbX")) (codes "replace") ((text (codes "X")) ∷ (text (codes "--")) ∷ []) (bare [] 100 0) ≡ fine (text (codes "a--b--")) (bare [] 90 0)
unfolding chars class_names
method_237 = refl

method_238 : call_method (text (codes "abc")) (codes "replace") ((text (codes "x")) ∷ (text (codes "y")) ∷ []) (bare [] 100 0) ≡ fine (text (codes "abc")) (bare [] 94 0)
unfolding chars class_names
method_238 = refl

method_239 : call_method (text (codes "aaa")) (codes "replace") ((text (codes "aa")) ∷ (text (codes "b")) ∷ []) (bare [] 100 0) ≡ fine (text (codes "ba")) (bare [] 92 0)
unfolding chars class_names
method_239 = refl

method_240 : call_method (text (codes "ab")) (codes "replace") ((text (codes "ab")) ∷ (text []) ∷ []) (bare [] 100 0) ≡ fine (text []) (bare [] 96 0)
unfolding chars class_names
method_240 = refl

method_241 : call_method (text (codes "abc")) (codes "replace") ((text []) ∷ (text (codes "x")) ∷ []) (bare [] 100 0) ≡ raised (fresh 24 ((text (codes "empty separator")) ∷ [])) (bare [] 100 0)
unfolding chars class_names
method_241 = refl

method_242 : call_method (text (codes "abc")) (codes "replace") ((text (codes "a")) ∷ (integer (pos 1)) ∷ []) (bare [] 100 0) ≡ raised (fresh 23 ((text (codes "replace() got bad arguments")) ∷ [])) (bare [] 100 0)
unfolding chars class_names
method_242 = refl

method_243 : call_method (text (codes "abc")) (codes "replace") ((integer (pos 1)) ∷ (text (codes "a")) ∷ []) (bare [] 100 0) ≡ raised (fresh 23 ((text (codes "replace() got bad arguments")) ∷ [])) (bare [] 100 0)
unfolding chars class_names
method_243 = refl

method_244 : call_method (text (codes "abc")) (codes "replace") ((text (codes "a")) ∷ []) (bare [] 100 0) ≡ raised (fresh 23 ((text (codes "replace() got bad arguments")) ∷ [])) (bare [] 100 0)
unfolding chars class_names
method_244 = refl

method_245 : call_method (text (codes "ab")) (codes "replace") ((text (codes "b")) ∷ (text (codes "ccc")) ∷ []) (bare [] 5 0) ≡ stopped (bare [] 0 0)
unfolding chars class_names
method_245 = refl

method_246 : call_method (text (codes "ab")) (codes "replace") ((text (codes "b")) ∷ (text (codes "ccc")) ∷ []) (bare [] 6 0) ≡ fine (text (codes "accc")) (bare [] 0 0)
unfolding chars class_names
method_246 = refl

method_247 : call_method (text []) (codes "replace") ((text (codes "a")) ∷ (text (codes "b")) ∷ []) (bare [] 100 0) ≡ fine (text []) (bare [] 100 0)
unfolding chars class_names
method_247 = refl

method_248 : call_method (text (codes ",")) (codes "join") ((node 0) ∷ []) (bare ((list ((text (codes "a")) ∷ (text (codes "b")) ∷ [])) ∷ []) 100 0) ≡ fine (text (codes "a,b")) (bare ((list ((text (codes "a")) ∷ (text (codes "b")) ∷ [])) ∷ []) 95 0)
unfolding chars class_names
method_248 = refl

method_249 : call_method (text []) (codes "join") ((node 0) ∷ []) (bare ((tuple ((text (codes "a")) ∷ (text (codes "b")) ∷ (text (codes "c")) ∷ [])) ∷ []) 100 0) ≡ fine (text (codes "abc")) (bare ((tuple ((text (codes "a")) ∷ (text (codes "b")) ∷ (text (codes "c")) ∷ [])) ∷ []) 94 0)
unfolding chars class_names
method_249 = refl

method_250 : call_method (text (codes "--")) (codes "join") ((node 0) ∷ []) (bare ((list []) ∷ []) 100 0) ≡ fine (text []) (bare ((list []) ∷ []) 100 0)
unfolding chars class_names
method_250 = refl

method_251 : call_method (text (codes ",")) (codes "join") ((node 0) ∷ []) (bare ((list ((text (codes "a")) ∷ [])) ∷ []) 100 0) ≡ fine (text (codes "a")) (bare ((list ((text (codes "a")) ∷ [])) ∷ []) 98 0)
unfolding chars class_names
method_251 = refl

method_252 : call_method (text (codes "-")) (codes "join") ((text (codes "abc")) ∷ []) (bare [] 100 0) ≡ fine (text (codes "a-b-c")) (bare [] 92 0)
unfolding chars class_names
method_252 = refl

method_253 : call_method (text (codes ",")) (codes "join") ((node 0) ∷ []) (bare ((dict (((p.single (p.text (codes "a"))), (integer (pos 1))) ∷ ((p.single (p.text (codes "b"))), (integer (pos 2))) ∷ [])) ∷ []) 100 0) ≡ fine (text (codes "a,b")) (bare ((dict (((p.single (p.text (codes "a"))), (integer (pos 1))) ∷ ((p.single (p.text (codes "b"))), (integer (pos 2))) ∷ [])) ∷ []) 95 0)
unfolding chars class_names
method_253 = refl

method_254 : call_method (text (codes ",")) (codes "join") ((node 0) ∷ []) (bare ((list ((text (codes "a")) ∷ (integer (pos 1)) ∷ [])) ∷ []) 100 0) ≡ raised (fresh 23 ((text (codes "join() got bad arguments")) ∷ [])) (bare ((list ((text (codes "a")) ∷ (integer (pos 1)) ∷ [])) ∷ []) 98 0)
unfolding chars class_names
method_254 = refl

method_255 : call_method (text (codes ",")) (codes "join") ((node 0) ∷ []) (bare ((dict (((p.tuple ((p.integer (pos 1)) ∷ (p.integer (pos 2)) ∷ [])), (integer (pos 0))) ∷ ((p.single (p.text (codes "a"))), (integer (pos 1))) ∷ [])) ∷ []) 100 0) ≡ raised (fresh 23 ((text (codes "join() got bad arguments")) ∷ [])) (bare ((dict (((p.tuple ((p.integer (pos 1)) ∷ (p.integer (pos 2)) ∷ [])), (integer (pos 0))) ∷ ((p.single (p.text (codes "a"))), (integer (pos 1))) ∷ [])) ∷ (tuple ((integer (pos 1)) ∷ (integer (pos 2)) ∷ [])) ∷ []) 96 0)
unfolding chars class_names
method_255 = refl

method_256 : call_method (text (codes ",")) (codes "join") ((range (pos 0) (pos 3) (pos 1)) ∷ []) (bare [] 100 0) ≡ raised (fresh 23 ((text (codes "join() got bad arguments")) ∷ [])) (bare [] 97 0)
unfolding chars class_names
method_256 = refl

method_257 : call_method (text (codes ",")) (codes "join") ((range (pos 0) (pos 0) (pos 1)) ∷ []) (bare [] 100 0) ≡ fine (text []) (bare [] 100 0)
unfolding chars class_names
method_257 = refl

method_258 : call_method (text (codes ",")) (codes "join") ((integer (pos 5)) ∷ []) (bare [] 100 0) ≡ raised (fresh 23 ((text (codes "'int' object is not iterable")) ∷ [])) (bare [] 100 0)
unfolding chars class_names
method_258 = refl

method_259 : call_method (text (codes ",")) (codes "join") [] (bare [] 100 0) ≡ raised (fresh 23 ((text (codes "join() got bad arguments")) ∷ [])) (bare [] 100 0)
unfolding chars class_names
method_259 = refl

method_260 : call_method (text (codes ",")) (codes "join") ((node 0) ∷ []) (bare ((list ((text (codes "a")) ∷ (text (codes "b")) ∷ [])) ∷ []) 4 0) ≡ stopped (bare ((list ((text (codes "a")) ∷ (text (codes "b")) ∷ [])) ∷ []) 0 0)
unfolding chars class_names
method_260 = refl

method_261 : call_method (text (codes ",")) (codes "join") ((node 0) ∷ []) (bare ((list ((text (codes "a")) ∷ (text (codes "b")) ∷ [])) ∷ []) 5 0) ≡ fine (text (codes "a,b")) (bare ((list ((text (codes "a")) ∷ (text (codes "b")) ∷ [])) ∷ []) 0 0)
unfolding chars class_names
method_261 = refl

method_262 : call_method (text (codes ",")) (codes "join") ((node 0) ∷ []) (bare ((list ((integer (pos 1)) ∷ [])) ∷ []) 0 0) ≡ stopped (bare ((list ((integer (pos 1)) ∷ [])) ∷ []) 0 0)
unfolding chars class_names
method_262 = refl

method_263 : call_method (node 0) (codes "keys") [] (bare ((list []) ∷ []) 9 0) ≡ raised (fresh 13 (text (codes "'list' object has no attribute 'keys'") ∷ [])) (bare ((list []) ∷ []) 9 0)
unfolding chars class_names
method_263 = refl

method_264 : call_method (node 0) (codes "append") [] (bare ((tuple []) ∷ []) 9 0) ≡ raised (fresh 13 (text (codes "'tuple' object has no attribute 'append'") ∷ [])) (bare ((tuple []) ∷ []) 9 0)
unfolding chars class_names
method_264 = refl

method_265 : call_method (text []) (codes "upper") [] (bare [] 9 0) ≡ raised (fresh 13 (text (codes "'str' object has no attribute 'upper'") ∷ [])) (bare [] 9 0)
unfolding chars class_names
method_265 = refl

method_266 : call_method (integer (pos 1)) (codes "append") [] (bare [] 9 0) ≡ raised (fresh 13 (text (codes "'int' object has no attribute 'append'") ∷ [])) (bare [] 9 0)
unfolding chars class_names
method_266 = refl

method_267 : call_method (node 0) (codes "items") [] (bare ((dict []) ∷ []) 9 0) ≡ raised (fresh 13 (text (codes "'dict' object has no attribute 'items'") ∷ [])) (bare ((dict []) ∷ []) 9 0)
unfolding chars class_names
method_267 = refl

method_268 : call_method (node 0) (codes "pop") [] (bare ((object []) ∷ []) 9 0) ≡ raised (fresh 13 (text (codes "'SimpleNamespace' object has no attribute 'pop'") ∷ [])) (bare ((object []) ∷ []) 9 0)
unfolding chars class_names
method_268 = refl

method_269 : has_method ((list []) ∷ []) (node 0) [] ≡ false
unfolding chars class_names
method_269 = refl

method_270 : has_method ((list []) ∷ []) (node 0) (codes "__len__") ≡ false
unfolding chars class_names
method_270 = refl

method_271 : has_method ((list []) ∷ []) (node 0) (codes "appen") ≡ false
unfolding chars class_names
method_271 = refl

method_272 : has_method ((list []) ∷ []) (node 0) (codes "append") ≡ true
unfolding chars class_names
method_272 = refl

method_273 : has_method ((list []) ∷ []) (node 0) (codes "clear") ≡ true
unfolding chars class_names
method_273 = refl

method_274 : has_method ((list []) ∷ []) (node 0) (codes "copy") ≡ true
unfolding chars class_names
method_274 = refl

method_275 : has_method ((list []) ∷ []) (node 0) (codes "count") ≡ true
unfolding chars class_names
method_275 = refl

method_276 : has_method ((list []) ∷ []) (node 0) (codes "endswith") ≡ false
unfolding chars class_names
method_276 = refl

method_277 : has_method ((list []) ∷ []) (node 0) (codes "extend") ≡ true
unfolding chars class_names
method_277 = refl

method_278 : has_method ((list []) ∷ []) (node 0) (codes "find") ≡ false
unfolding chars class_names
method_278 = refl

method_279 : has_method ((list []) ∷ []) (node 0) (codes "get") ≡ false
unfolding chars class_names
method_279 = refl

method_280 : has_method ((list []) ∷ []) (node 0) (codes "index") ≡ true
unfolding chars class_names
method_280 = refl

method_281 : has_method ((list []) ∷ []) (node 0) (codes "insert") ≡ true
unfolding chars class_names
method_281 = refl

method_282 : has_method ((list []) ∷ []) (node 0) (codes "isdigit") ≡ false
unfolding chars class_names
method_282 = refl

method_283 : has_method ((list []) ∷ []) (node 0) (codes "join") ≡ false
unfolding chars class_names
method_283 = refl

method_284 : has_method ((list []) ∷ []) (node 0) (codes "keys") ≡ false
unfolding chars class_names
method_284 = refl

method_285 : has_method ((list []) ∷ []) (node 0) (codes "pop") ≡ true
unfolding chars class_names
method_285 = refl

method_286 : has_method ((list []) ∷ []) (node 0) (codes "remove") ≡ true
unfolding chars class_names
method_286 = refl

method_287 : has_method ((list []) ∷ []) (node 0) (codes "replace") ≡ false
unfolding chars class_names
method_287 = refl

method_288 : has_method ((list []) ∷ []) (node 0) (codes "reverse") ≡ true
unfolding chars class_names
method_288 = refl

method_289 : has_method ((list []) ∷ []) (node 0) (codes "setdefault") ≡ false
unfolding chars class_names
method_289 = refl

method_290 : has_method ((list []) ∷ []) (node 0) (codes "sort") ≡ true
unfolding chars class_names
method_290 = refl

method_291 : has_method ((list []) ∷ []) (node 0) (codes "split") ≡ false
unfolding chars class_names
method_291 = refl

method_292 : has_method ((list []) ∷ []) (node 0) (codes "startswith") ≡ false
unfolding chars class_names
method_292 = refl

method_293 : has_method ((list []) ∷ []) (node 0) (codes "strip") ≡ false
unfolding chars class_names
method_293 = refl

method_294 : has_method ((list []) ∷ []) (node 0) (codes "update") ≡ false
unfolding chars class_names
method_294 = refl

method_295 : has_method ((list []) ∷ []) (node 0) (codes "upper") ≡ false
unfolding chars class_names
method_295 = refl

method_296 : has_method ((tuple []) ∷ []) (node 0) [] ≡ false
unfolding chars class_names
method_296 = refl

method_297 : has_method ((tuple []) ∷ []) (node 0) (codes "__len__") ≡ false
unfolding chars class_names
method_297 = refl

method_298 : has_method ((tuple []) ∷ []) (node 0) (codes "appen") ≡ false
unfolding chars class_names
method_298 = refl

method_299 : has_method ((tuple []) ∷ []) (node 0) (codes "append") ≡ false
unfolding chars class_names
method_299 = refl

method_300 : has_method ((tuple []) ∷ []) (node 0) (codes "clear") ≡ false
unfolding chars class_names
method_300 = refl

method_301 : has_method ((tuple []) ∷ []) (node 0) (codes "copy") ≡ false
unfolding chars class_names
method_301 = refl

method_302 : has_method ((tuple []) ∷ []) (node 0) (codes "count") ≡ true
unfolding chars class_names
method_302 = refl

method_303 : has_method ((tuple []) ∷ []) (node 0) (codes "endswith") ≡ false
unfolding chars class_names
method_303 = refl

method_304 : has_method ((tuple []) ∷ []) (node 0) (codes "extend") ≡ false
unfolding chars class_names
method_304 = refl

method_305 : has_method ((tuple []) ∷ []) (node 0) (codes "find") ≡ false
unfolding chars class_names
method_305 = refl

method_306 : has_method ((tuple []) ∷ []) (node 0) (codes "get") ≡ false
unfolding chars class_names
method_306 = refl

method_307 : has_method ((tuple []) ∷ []) (node 0) (codes "index") ≡ true
unfolding chars class_names
method_307 = refl

method_308 : has_method ((tuple []) ∷ []) (node 0) (codes "insert") ≡ false
unfolding chars class_names
method_308 = refl

method_309 : has_method ((tuple []) ∷ []) (node 0) (codes "isdigit") ≡ false
unfolding chars class_names
method_309 = refl

method_310 : has_method ((tuple []) ∷ []) (node 0) (codes "join") ≡ false
unfolding chars class_names
method_310 = refl

method_311 : has_method ((tuple []) ∷ []) (node 0) (codes "keys") ≡ false
unfolding chars class_names
method_311 = refl

method_312 : has_method ((tuple []) ∷ []) (node 0) (codes "pop") ≡ false
unfolding chars class_names
method_312 = refl

method_313 : has_method ((tuple []) ∷ []) (node 0) (codes "remove") ≡ false
unfolding chars class_names
method_313 = refl

method_314 : has_method ((tuple []) ∷ []) (node 0) (codes "replace") ≡ false
unfolding chars class_names
method_314 = refl

method_315 : has_method ((tuple []) ∷ []) (node 0) (codes "reverse") ≡ false
unfolding chars class_names
method_315 = refl

method_316 : has_method ((tuple []) ∷ []) (node 0) (codes "setdefault") ≡ false
unfolding chars class_names
method_316 = refl

method_317 : has_method ((tuple []) ∷ []) (node 0) (codes "sort") ≡ false
unfolding chars class_names
method_317 = refl

method_318 : has_method ((tuple []) ∷ []) (node 0) (codes "split") ≡ false
unfolding chars class_names
method_318 = refl

method_319 : has_method ((tuple []) ∷ []) (node 0) (codes "startswith") ≡ false
unfolding chars class_names
method_319 = refl

method_320 : has_method ((tuple []) ∷ []) (node 0) (codes "strip") ≡ false
unfolding chars class_names
method_320 = refl

method_321 : has_method ((tuple []) ∷ []) (node 0) (codes "update") ≡ false
unfolding chars class_names
method_321 = refl

method_322 : has_method ((tuple []) ∷ []) (node 0) (codes "upper") ≡ false
unfolding chars class_names
method_322 = refl

method_323 : has_method ((dict []) ∷ []) (node 0) [] ≡ false
unfolding chars class_names
method_323 = refl

method_324 : has_method ((dict []) ∷ []) (node 0) (codes "__len__") ≡ false
unfolding chars class_names
method_324 = refl

method_325 : has_method ((dict []) ∷ []) (node 0) (codes "appen") ≡ false
unfolding chars class_names
method_325 = refl

method_326 : has_method ((dict []) ∷ []) (node 0) (codes "append") ≡ false
unfolding chars class_names
method_326 = refl

method_327 : has_method ((dict []) ∷ []) (node 0) (codes "clear") ≡ true
unfolding chars class_names
method_327 = refl

method_328 : has_method ((dict []) ∷ []) (node 0) (codes "copy") ≡ true
unfolding chars class_names
method_328 = refl

method_329 : has_method ((dict []) ∷ []) (node 0) (codes "count") ≡ false
unfolding chars class_names
method_329 = refl

method_330 : has_method ((dict []) ∷ []) (node 0) (codes "endswith") ≡ false
unfolding chars class_names
method_330 = refl

method_331 : has_method ((dict []) ∷ []) (node 0) (codes "extend") ≡ false
unfolding chars class_names
method_331 = refl

method_332 : has_method ((dict []) ∷ []) (node 0) (codes "find") ≡ false
unfolding chars class_names
method_332 = refl

method_333 : has_method ((dict []) ∷ []) (node 0) (codes "get") ≡ true
unfolding chars class_names
method_333 = refl

method_334 : has_method ((dict []) ∷ []) (node 0) (codes "index") ≡ false
unfolding chars class_names
method_334 = refl

method_335 : has_method ((dict []) ∷ []) (node 0) (codes "insert") ≡ false
unfolding chars class_names
method_335 = refl

method_336 : has_method ((dict []) ∷ []) (node 0) (codes "isdigit") ≡ false
unfolding chars class_names
method_336 = refl

method_337 : has_method ((dict []) ∷ []) (node 0) (codes "join") ≡ false
unfolding chars class_names
method_337 = refl

method_338 : has_method ((dict []) ∷ []) (node 0) (codes "keys") ≡ false
unfolding chars class_names
method_338 = refl

method_339 : has_method ((dict []) ∷ []) (node 0) (codes "pop") ≡ true
unfolding chars class_names
method_339 = refl

method_340 : has_method ((dict []) ∷ []) (node 0) (codes "remove") ≡ false
unfolding chars class_names
method_340 = refl

method_341 : has_method ((dict []) ∷ []) (node 0) (codes "replace") ≡ false
unfolding chars class_names
method_341 = refl

method_342 : has_method ((dict []) ∷ []) (node 0) (codes "reverse") ≡ false
unfolding chars class_names
method_342 = refl

method_343 : has_method ((dict []) ∷ []) (node 0) (codes "setdefault") ≡ true
unfolding chars class_names
method_343 = refl

method_344 : has_method ((dict []) ∷ []) (node 0) (codes "sort") ≡ false
unfolding chars class_names
method_344 = refl

method_345 : has_method ((dict []) ∷ []) (node 0) (codes "split") ≡ false
unfolding chars class_names
method_345 = refl

method_346 : has_method ((dict []) ∷ []) (node 0) (codes "startswith") ≡ false
unfolding chars class_names
method_346 = refl

method_347 : has_method ((dict []) ∷ []) (node 0) (codes "strip") ≡ false
unfolding chars class_names
method_347 = refl

method_348 : has_method ((dict []) ∷ []) (node 0) (codes "update") ≡ true
unfolding chars class_names
method_348 = refl

method_349 : has_method ((dict []) ∷ []) (node 0) (codes "upper") ≡ false
unfolding chars class_names
method_349 = refl

method_350 : has_method [] (text []) [] ≡ false
unfolding chars class_names
method_350 = refl

method_351 : has_method [] (text []) (codes "__len__") ≡ false
unfolding chars class_names
method_351 = refl

method_352 : has_method [] (text []) (codes "appen") ≡ false
unfolding chars class_names
method_352 = refl

method_353 : has_method [] (text []) (codes "append") ≡ false
unfolding chars class_names
method_353 = refl

method_354 : has_method [] (text []) (codes "clear") ≡ false
unfolding chars class_names
method_354 = refl

method_355 : has_method [] (text []) (codes "copy") ≡ false
unfolding chars class_names
method_355 = refl

method_356 : has_method [] (text []) (codes "count") ≡ true
unfolding chars class_names
method_356 = refl

method_357 : has_method [] (text []) (codes "endswith") ≡ true
unfolding chars class_names
method_357 = refl

method_358 : has_method [] (text []) (codes "extend") ≡ false
unfolding chars class_names
method_358 = refl

method_359 : has_method [] (text []) (codes "find") ≡ true
unfolding chars class_names
method_359 = refl

method_360 : has_method [] (text []) (codes "get") ≡ false
unfolding chars class_names
method_360 = refl

method_361 : has_method [] (text []) (codes "index") ≡ false
unfolding chars class_names
method_361 = refl

method_362 : has_method [] (text []) (codes "insert") ≡ false
unfolding chars class_names
method_362 = refl

method_363 : has_method [] (text []) (codes "isdigit") ≡ true
unfolding chars class_names
method_363 = refl

method_364 : has_method [] (text []) (codes "join") ≡ true
unfolding chars class_names
method_364 = refl

method_365 : has_method [] (text []) (codes "keys") ≡ false
unfolding chars class_names
method_365 = refl

method_366 : has_method [] (text []) (codes "pop") ≡ false
unfolding chars class_names
method_366 = refl

method_367 : has_method [] (text []) (codes "remove") ≡ false
unfolding chars class_names
method_367 = refl

method_368 : has_method [] (text []) (codes "replace") ≡ true
unfolding chars class_names
method_368 = refl

method_369 : has_method [] (text []) (codes "reverse") ≡ false
unfolding chars class_names
method_369 = refl

method_370 : has_method [] (text []) (codes "setdefault") ≡ false
unfolding chars class_names
method_370 = refl

method_371 : has_method [] (text []) (codes "sort") ≡ false
unfolding chars class_names
method_371 = refl

method_372 : has_method [] (text []) (codes "split") ≡ true
unfolding chars class_names
method_372 = refl

method_373 : has_method [] (text []) (codes "startswith") ≡ true
unfolding chars class_names
method_373 = refl

method_374 : has_method [] (text []) (codes "strip") ≡ true
unfolding chars class_names
method_374 = refl

method_375 : has_method [] (text []) (codes "update") ≡ false
unfolding chars class_names
method_375 = refl

method_376 : has_method [] (text []) (codes "upper") ≡ false
unfolding chars class_names
method_376 = refl

method_377 : has_method [] none (codes "append") ≡ false
unfolding chars class_names
method_377 = refl

method_378 : has_method [] none (codes "count") ≡ false
unfolding chars class_names
method_378 = refl

method_379 : has_method [] (bool true) (codes "append") ≡ false
unfolding chars class_names
method_379 = refl

method_380 : has_method [] (bool true) (codes "count") ≡ false
unfolding chars class_names
method_380 = refl

method_381 : has_method [] (integer (pos 1)) (codes "append") ≡ false
unfolding chars class_names
method_381 = refl

method_382 : has_method [] (integer (pos 1)) (codes "count") ≡ false
unfolding chars class_names
method_382 = refl

method_383 : has_method [] (range (pos 0) (pos 3) (pos 1)) (codes "append") ≡ false
unfolding chars class_names
method_383 = refl

method_384 : has_method [] (range (pos 0) (pos 3) (pos 1)) (codes "count") ≡ false
unfolding chars class_names
method_384 = refl

method_385 : has_method [] (builtin 10) (codes "append") ≡ false
unfolding chars class_names
method_385 = refl

method_386 : has_method [] (builtin 10) (codes "count") ≡ false
unfolding chars class_names
method_386 = refl

method_387 : has_method [] (class 3) (codes "append") ≡ false
unfolding chars class_names
method_387 = refl

method_388 : has_method [] (class 3) (codes "count") ≡ false
unfolding chars class_names
method_388 = refl

method_389 : has_method ((object (((codes "append"), (integer (pos 1))) ∷ [])) ∷ []) (node 0) (codes "append") ≡ false
unfolding chars class_names
method_389 = refl

method_390 : has_method ((object (((codes "append"), (integer (pos 1))) ∷ [])) ∷ []) (node 0) (codes "count") ≡ false
unfolding chars class_names
method_390 = refl

method_391 : has_method ((exception 24 []) ∷ []) (node 0) (codes "append") ≡ false
unfolding chars class_names
method_391 = refl

method_392 : has_method ((exception 24 []) ∷ []) (node 0) (codes "count") ≡ false
unfolding chars class_names
method_392 = refl

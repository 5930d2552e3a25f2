-- Items and attributes that are read, stored and deleted, as CPython tells, with the steps that are left: computed on the definition. Made by tools/rows/call_rows.py.
use Rattle.std.proofs.Common.{◌≡◌, refl, [], ◌∷◌, true, false}
use Rattle.std.specs.Prelude.{pos, negsuc, codes}
use Rattle.kishu_meaning.specs.values.Keys as p
use Rattle.kishu_language.specs.declared.profile.Profile.TheVariants.{One}
use Rattle.kishu_meaning.specs.values.Values.{none, bool, integer, text, range, builtin, class, node, list, tuple, dict, object, function, exception}
use Rattle.kishu_meaning_laws.specs.Bare.{bare}
use Rattle.kishu_meaning.specs.moments.Moment.{fresh, fine, raised, stopped}
use Rattle.kishu_meaning.specs.values.BuiltinNames.{class_names}
use Rattle.std.specs.Str.{chars}
use Rattle.kishu_meaning.specs.items.Subscripts.{item, attribute, store_item, store_attribute, delete_item, delete_attribute}

item_1 : item (text (codes "abc")) (integer (pos 0)) (bare [] 9 0) ≡ fine (text (codes "a")) (bare [] 9 0)
unfolding class_names chars
item_1 = refl

item_2 : item (text (codes "abc")) (integer (negsuc 0)) (bare [] 9 0) ≡ fine (text (codes "c")) (bare [] 9 0)
unfolding class_names chars
item_2 = refl

item_3 : item (text (codes "abc")) (integer (pos 3)) (bare [] 9 0) ≡ raised (fresh 15 ((text (codes "index out of range")) ∷ [])) (bare [] 9 0)
unfolding class_names chars
item_3 = refl

item_4 : item (text (codes "abc")) (integer (negsuc 3)) (bare [] 9 0) ≡ raised (fresh 15 ((text (codes "index out of range")) ∷ [])) (bare [] 9 0)
unfolding class_names chars
item_4 = refl

item_5 : item (text (233 ∷ 128512 ∷ [])) (integer (pos 1)) (bare [] 9 0) ≡ fine (text (128512 ∷ [])) (bare [] 9 0)
unfolding class_names chars
item_5 = refl

item_6 : item (node 0) (integer (pos 1)) (bare ((list ((integer (pos 1)) ∷ (integer (pos 2)) ∷ [])) ∷ []) 9 0) ≡ fine (integer (pos 2)) (bare ((list ((integer (pos 1)) ∷ (integer (pos 2)) ∷ [])) ∷ []) 9 0)
unfolding class_names chars
item_6 = refl

item_7 : item (node 0) (bool true) (bare ((list ((integer (pos 1)) ∷ (integer (pos 2)) ∷ [])) ∷ []) 9 0) ≡ fine (integer (pos 2)) (bare ((list ((integer (pos 1)) ∷ (integer (pos 2)) ∷ [])) ∷ []) 9 0)
unfolding class_names chars
item_7 = refl

item_8 : item (node 0) (integer (negsuc 0)) (bare ((list ((integer (pos 1)) ∷ [])) ∷ []) 9 0) ≡ fine (integer (pos 1)) (bare ((list ((integer (pos 1)) ∷ [])) ∷ []) 9 0)
unfolding class_names chars
item_8 = refl

item_9 : item (node 0) (integer (pos 0)) (bare ((list []) ∷ []) 9 0) ≡ raised (fresh 15 ((text (codes "index out of range")) ∷ [])) (bare ((list []) ∷ []) 9 0)
unfolding class_names chars
item_9 = refl

item_10 : item (node 0) (integer (pos 1)) (bare ((tuple ((integer (pos 1)) ∷ (text (codes "a")) ∷ [])) ∷ []) 9 0) ≡ fine (text (codes "a")) (bare ((tuple ((integer (pos 1)) ∷ (text (codes "a")) ∷ [])) ∷ []) 9 0)
unfolding class_names chars
item_10 = refl

item_11 : item (node 0) (integer (negsuc 0)) (bare ((tuple []) ∷ []) 9 0) ≡ raised (fresh 15 ((text (codes "index out of range")) ∷ [])) (bare ((tuple []) ∷ []) 9 0)
unfolding class_names chars
item_11 = refl

item_12 : item (range (pos 0) (pos 3) (pos 1)) (integer (pos 2)) (bare [] 9 0) ≡ fine (integer (pos 2)) (bare [] 9 0)
unfolding class_names chars
item_12 = refl

item_13 : item (range (pos 0) (pos 10) (pos 3)) (integer (negsuc 0)) (bare [] 9 0) ≡ fine (integer (pos 9)) (bare [] 9 0)
unfolding class_names chars
item_13 = refl

item_14 : item (range (pos 0) (pos 3) (pos 1)) (integer (pos 3)) (bare [] 9 0) ≡ raised (fresh 15 ((text (codes "index out of range")) ∷ [])) (bare [] 9 0)
unfolding class_names chars
item_14 = refl

item_15 : item (range (pos 0) (pos 1000000000000000000000000000000) (pos 1)) (integer (pos 100000000000000000000000000000)) (bare [] 9 0) ≡ fine (integer (pos 100000000000000000000000000000)) (bare [] 9 0)
unfolding class_names chars
item_15 = refl

item_16 : item (node 0) (bool true) (bare ((dict (((p.single (p.integer (pos 1))), (text (codes "a"))) ∷ [])) ∷ []) 9 0) ≡ fine (text (codes "a")) (bare ((dict (((p.single (p.integer (pos 1))), (text (codes "a"))) ∷ [])) ∷ []) 9 0)
unfolding class_names chars
item_16 = refl

item_17 : item (node 0) (node 1) (bare ((dict (((p.tuple ((p.integer (pos 1)) ∷ (p.integer (pos 2)) ∷ [])), (text (codes "a"))) ∷ [])) ∷ (tuple ((integer (pos 1)) ∷ (integer (pos 2)) ∷ [])) ∷ []) 9 0) ≡ fine (text (codes "a")) (bare ((dict (((p.tuple ((p.integer (pos 1)) ∷ (p.integer (pos 2)) ∷ [])), (text (codes "a"))) ∷ [])) ∷ (tuple ((integer (pos 1)) ∷ (integer (pos 2)) ∷ [])) ∷ []) 7 0)
unfolding class_names chars
item_17 = refl

item_18 : item (node 0) (text (codes "k")) (bare ((dict []) ∷ []) 9 0) ≡ raised (fresh 16 ((text (codes "k")) ∷ [])) (bare ((dict []) ∷ []) 9 0)
unfolding class_names chars
item_18 = refl

item_19 : item (node 0) none (bare ((dict (((p.single (p.integer (pos 1))), (integer (pos 2))) ∷ [])) ∷ []) 9 0) ≡ raised (fresh 16 (none ∷ [])) (bare ((dict (((p.single (p.integer (pos 1))), (integer (pos 2))) ∷ [])) ∷ []) 9 0)
unfolding class_names chars
item_19 = refl

item_20 : item (node 0) (node 1) (bare ((dict []) ∷ (tuple ((integer (pos 1)) ∷ (integer (pos 2)) ∷ [])) ∷ []) 9 0) ≡ raised (fresh 16 ((node 1) ∷ [])) (bare ((dict []) ∷ (tuple ((integer (pos 1)) ∷ (integer (pos 2)) ∷ [])) ∷ []) 7 0)
unfolding class_names chars
item_20 = refl

item_21 : item (node 0) (node 1) (bare ((dict []) ∷ (list []) ∷ []) 9 0) ≡ raised (fresh 23 ((text (codes "unhashable key: 'list'")) ∷ [])) (bare ((dict []) ∷ (list []) ∷ []) 9 0)
unfolding class_names chars
item_21 = refl

item_22 : item (node 0) (node 1) (bare ((dict []) ∷ (tuple ((node 2) ∷ [])) ∷ (list []) ∷ []) 9 0) ≡ raised (fresh 23 ((text (codes "unhashable key: 'list'")) ∷ [])) (bare ((dict []) ∷ (tuple ((node 2) ∷ [])) ∷ (list []) ∷ []) 8 0)
unfolding class_names chars
item_22 = refl

item_23 : item (text (codes "abc")) (text (codes "a")) (bare [] 9 0) ≡ raised (fresh 23 ((text (codes "bad index type: 'str'")) ∷ [])) (bare [] 9 0)
unfolding class_names chars
item_23 = refl

item_24 : item (text (codes "abc")) none (bare [] 9 0) ≡ raised (fresh 23 ((text (codes "bad index type: 'NoneType'")) ∷ [])) (bare [] 9 0)
unfolding class_names chars
item_24 = refl

item_25 : item (node 0) (text (codes "0")) (bare ((list ((integer (pos 1)) ∷ [])) ∷ []) 9 0) ≡ raised (fresh 23 ((text (codes "bad index type: 'str'")) ∷ [])) (bare ((list ((integer (pos 1)) ∷ [])) ∷ []) 9 0)
unfolding class_names chars
item_25 = refl

item_26 : item (node 0) (node 1) (bare ((list ((integer (pos 1)) ∷ [])) ∷ (list ((integer (pos 0)) ∷ [])) ∷ []) 9 0) ≡ raised (fresh 23 ((text (codes "bad index type: 'list'")) ∷ [])) (bare ((list ((integer (pos 1)) ∷ [])) ∷ (list ((integer (pos 0)) ∷ [])) ∷ []) 9 0)
unfolding class_names chars
item_26 = refl

item_27 : item (node 0) (builtin 10) (bare ((tuple ((integer (pos 1)) ∷ [])) ∷ []) 9 0) ≡ raised (fresh 23 ((text (codes "bad index type: 'builtin'")) ∷ [])) (bare ((tuple ((integer (pos 1)) ∷ [])) ∷ []) 9 0)
unfolding class_names chars
item_27 = refl

item_28 : item (range (pos 0) (pos 2) (pos 1)) (text (codes "a")) (bare [] 9 0) ≡ raised (fresh 23 ((text (codes "bad index type: 'str'")) ∷ [])) (bare [] 9 0)
unfolding class_names chars
item_28 = refl

item_29 : item none (integer (pos 0)) (bare [] 9 0) ≡ raised (fresh 23 ((text (codes "'NoneType' object is not subscriptable")) ∷ [])) (bare [] 9 0)
unfolding class_names chars
item_29 = refl

item_30 : item (integer (pos 5)) (integer (pos 0)) (bare [] 9 0) ≡ raised (fresh 23 ((text (codes "'int' object is not subscriptable")) ∷ [])) (bare [] 9 0)
unfolding class_names chars
item_30 = refl

item_31 : item (bool true) (text (codes "a")) (bare [] 9 0) ≡ raised (fresh 23 ((text (codes "'bool' object is not subscriptable")) ∷ [])) (bare [] 9 0)
unfolding class_names chars
item_31 = refl

item_32 : item (builtin 10) (integer (pos 0)) (bare [] 9 0) ≡ raised (fresh 23 ((text (codes "'builtin' object is not subscriptable")) ∷ [])) (bare [] 9 0)
unfolding class_names chars
item_32 = refl

item_33 : item (class 2) none (bare [] 9 0) ≡ raised (fresh 23 ((text (codes "'class' object is not subscriptable")) ∷ [])) (bare [] 9 0)
unfolding class_names chars
item_33 = refl

item_34 : item (node 0) (text (codes "a")) (bare ((object (((codes "a"), (integer (pos 1))) ∷ [])) ∷ []) 9 0) ≡ raised (fresh 23 ((text (codes "'SimpleNamespace' object is not subscriptable")) ∷ [])) (bare ((object (((codes "a"), (integer (pos 1))) ∷ [])) ∷ []) 9 0)
unfolding class_names chars
item_34 = refl

item_35 : item (node 0) (integer (pos 0)) (bare ((exception 24 ((integer (pos 1)) ∷ [])) ∷ []) 9 0) ≡ raised (fresh 23 ((text (codes "'ValueError' object is not subscriptable")) ∷ [])) (bare ((exception 24 ((integer (pos 1)) ∷ [])) ∷ []) 9 0)
unfolding class_names chars
item_35 = refl

item_36 : item (node 0) (integer (pos 0)) (bare ((function One (codes "def f(): pass") []) ∷ []) 9 0) ≡ raised (fresh 23 ((text (codes "'function' object is not subscriptable")) ∷ [])) (bare ((function One (codes "def f(): pass") []) ∷ []) 9 0)
unfolding class_names chars
item_36 = refl

item_37 : item (node 0) (node 1) (bare ((dict (((p.tuple ((p.integer (pos 1)) ∷ (p.integer (pos 2)) ∷ [])), (integer (pos 0))) ∷ [])) ∷ (tuple ((integer (pos 1)) ∷ (integer (pos 2)) ∷ [])) ∷ []) 1 0) ≡ stopped (bare ((dict (((p.tuple ((p.integer (pos 1)) ∷ (p.integer (pos 2)) ∷ [])), (integer (pos 0))) ∷ [])) ∷ (tuple ((integer (pos 1)) ∷ (integer (pos 2)) ∷ [])) ∷ []) 0 0)
unfolding class_names chars
item_37 = refl

item_38 : item (node 0) (node 1) (bare ((dict (((p.tuple ((p.integer (pos 1)) ∷ (p.integer (pos 2)) ∷ [])), (integer (pos 0))) ∷ [])) ∷ (tuple ((integer (pos 1)) ∷ (integer (pos 2)) ∷ [])) ∷ []) 2 0) ≡ fine (integer (pos 0)) (bare ((dict (((p.tuple ((p.integer (pos 1)) ∷ (p.integer (pos 2)) ∷ [])), (integer (pos 0))) ∷ [])) ∷ (tuple ((integer (pos 1)) ∷ (integer (pos 2)) ∷ [])) ∷ []) 0 0)
unfolding class_names chars
item_38 = refl

item_39 : store_item (node 0) (integer (pos 0)) (text (codes "x")) (bare ((list ((integer (pos 1)) ∷ (integer (pos 2)) ∷ [])) ∷ []) 9 0) ≡ fine tt (bare ((list ((text (codes "x")) ∷ (integer (pos 2)) ∷ [])) ∷ []) 9 0)
unfolding class_names chars
item_39 = refl

item_40 : store_item (node 0) (integer (negsuc 0)) none (bare ((list ((integer (pos 1)) ∷ (integer (pos 2)) ∷ [])) ∷ []) 9 0) ≡ fine tt (bare ((list ((integer (pos 1)) ∷ none ∷ [])) ∷ []) 9 0)
unfolding class_names chars
item_40 = refl

item_41 : store_item (node 0) (integer (pos 1)) (integer (pos 0)) (bare ((list ((integer (pos 1)) ∷ [])) ∷ []) 9 0) ≡ raised (fresh 15 ((text (codes "index out of range")) ∷ [])) (bare ((list ((integer (pos 1)) ∷ [])) ∷ []) 9 0)
unfolding class_names chars
item_41 = refl

item_42 : store_item (node 0) (integer (pos 0)) (integer (pos 0)) (bare ((list []) ∷ []) 9 0) ≡ raised (fresh 15 ((text (codes "index out of range")) ∷ [])) (bare ((list []) ∷ []) 9 0)
unfolding class_names chars
item_42 = refl

item_43 : store_item (node 0) (text (codes "a")) (integer (pos 0)) (bare ((list ((integer (pos 1)) ∷ [])) ∷ []) 9 0) ≡ raised (fresh 23 ((text (codes "bad index type: 'str'")) ∷ [])) (bare ((list ((integer (pos 1)) ∷ [])) ∷ []) 9 0)
unfolding class_names chars
item_43 = refl

item_44 : store_item (node 0) (bool false) (integer (pos 1)) (bare ((list ((integer (pos 0)) ∷ [])) ∷ []) 9 0) ≡ fine tt (bare ((list ((integer (pos 1)) ∷ [])) ∷ []) 9 0)
unfolding class_names chars
item_44 = refl

item_45 : store_item (node 0) (integer (pos 1)) (integer (pos 2)) (bare ((dict []) ∷ []) 9 0) ≡ fine tt (bare ((dict (((p.single (p.integer (pos 1))), (integer (pos 2))) ∷ [])) ∷ []) 9 0)
unfolding class_names chars
item_45 = refl

item_46 : store_item (node 0) (bool true) (integer (pos 3)) (bare ((dict (((p.single (p.integer (pos 1))), (integer (pos 2))) ∷ [])) ∷ []) 9 0) ≡ fine tt (bare ((dict (((p.single (p.integer (pos 1))), (integer (pos 3))) ∷ [])) ∷ []) 9 0)
unfolding class_names chars
item_46 = refl

item_47 : store_item (node 0) (text (codes "a")) (integer (pos 3)) (bare ((dict (((p.single (p.integer (pos 1))), (integer (pos 2))) ∷ [])) ∷ []) 9 0) ≡ fine tt (bare ((dict (((p.single (p.integer (pos 1))), (integer (pos 2))) ∷ ((p.single (p.text (codes "a"))), (integer (pos 3))) ∷ [])) ∷ []) 9 0)
unfolding class_names chars
item_47 = refl

item_48 : store_item (node 0) (node 1) (node 2) (bare ((dict []) ∷ (tuple ((integer (pos 1)) ∷ (integer (pos 2)) ∷ [])) ∷ (list []) ∷ []) 9 0) ≡ fine tt (bare ((dict (((p.tuple ((p.integer (pos 1)) ∷ (p.integer (pos 2)) ∷ [])), (node 2)) ∷ [])) ∷ (tuple ((integer (pos 1)) ∷ (integer (pos 2)) ∷ [])) ∷ (list []) ∷ []) 7 0)
unfolding class_names chars
item_48 = refl

item_49 : store_item (node 0) (node 1) (integer (pos 1)) (bare ((dict []) ∷ (list []) ∷ []) 9 0) ≡ raised (fresh 23 ((text (codes "unhashable key: 'list'")) ∷ [])) (bare ((dict []) ∷ (list []) ∷ []) 9 0)
unfolding class_names chars
item_49 = refl

item_50 : store_item (text (codes "ab")) (integer (pos 0)) (text (codes "c")) (bare [] 9 0) ≡ raised (fresh 23 ((text (codes "'str' object is not subscriptable")) ∷ [])) (bare [] 9 0)
unfolding class_names chars
item_50 = refl

item_51 : store_item (node 0) (integer (pos 0)) (integer (pos 2)) (bare ((tuple ((integer (pos 1)) ∷ [])) ∷ []) 9 0) ≡ raised (fresh 23 ((text (codes "'tuple' object is not subscriptable")) ∷ [])) (bare ((tuple ((integer (pos 1)) ∷ [])) ∷ []) 9 0)
unfolding class_names chars
item_51 = refl

item_52 : store_item (range (pos 0) (pos 3) (pos 1)) (integer (pos 0)) (integer (pos 1)) (bare [] 9 0) ≡ raised (fresh 23 ((text (codes "'range' object is not subscriptable")) ∷ [])) (bare [] 9 0)
unfolding class_names chars
item_52 = refl

item_53 : store_item none (integer (pos 0)) (integer (pos 0)) (bare [] 9 0) ≡ raised (fresh 23 ((text (codes "'NoneType' object is not subscriptable")) ∷ [])) (bare [] 9 0)
unfolding class_names chars
item_53 = refl

item_54 : store_item (integer (pos 5)) (text (codes "a")) (integer (pos 0)) (bare [] 9 0) ≡ raised (fresh 23 ((text (codes "'int' object is not subscriptable")) ∷ [])) (bare [] 9 0)
unfolding class_names chars
item_54 = refl

item_55 : store_item (node 0) (integer (pos 0)) (integer (pos 1)) (bare ((object []) ∷ []) 9 0) ≡ raised (fresh 23 ((text (codes "'SimpleNamespace' object is not subscriptable")) ∷ [])) (bare ((object []) ∷ []) 9 0)
unfolding class_names chars
item_55 = refl

item_56 : store_item (node 0) (integer (pos 0)) (integer (pos 1)) (bare ((exception 24 []) ∷ []) 9 0) ≡ raised (fresh 23 ((text (codes "'ValueError' object is not subscriptable")) ∷ [])) (bare ((exception 24 []) ∷ []) 9 0)
unfolding class_names chars
item_56 = refl

item_57 : delete_item (node 0) (integer (pos 1)) (bare ((list ((integer (pos 1)) ∷ (integer (pos 2)) ∷ (integer (pos 3)) ∷ [])) ∷ []) 9 0) ≡ fine tt (bare ((list ((integer (pos 1)) ∷ (integer (pos 3)) ∷ [])) ∷ []) 9 0)
unfolding class_names chars
item_57 = refl

item_58 : delete_item (node 0) (integer (negsuc 0)) (bare ((list ((integer (pos 1)) ∷ [])) ∷ []) 9 0) ≡ fine tt (bare ((list []) ∷ []) 9 0)
unfolding class_names chars
item_58 = refl

item_59 : delete_item (node 0) (integer (pos 0)) (bare ((list []) ∷ []) 9 0) ≡ raised (fresh 15 ((text (codes "index out of range")) ∷ [])) (bare ((list []) ∷ []) 9 0)
unfolding class_names chars
item_59 = refl

item_60 : delete_item (node 0) none (bare ((list ((integer (pos 1)) ∷ [])) ∷ []) 9 0) ≡ raised (fresh 23 ((text (codes "bad index type: 'NoneType'")) ∷ [])) (bare ((list ((integer (pos 1)) ∷ [])) ∷ []) 9 0)
unfolding class_names chars
item_60 = refl

item_61 : delete_item (node 0) (integer (pos 1)) (bare ((dict (((p.single (p.integer (pos 1))), (integer (pos 2))) ∷ ((p.single (p.integer (pos 3))), (integer (pos 4))) ∷ [])) ∷ []) 9 0) ≡ fine tt (bare ((dict (((p.single (p.integer (pos 3))), (integer (pos 4))) ∷ [])) ∷ []) 9 0)
unfolding class_names chars
item_61 = refl

item_62 : delete_item (node 0) (bool true) (bare ((dict (((p.single (p.integer (pos 1))), (integer (pos 2))) ∷ [])) ∷ []) 9 0) ≡ fine tt (bare ((dict []) ∷ []) 9 0)
unfolding class_names chars
item_62 = refl

item_63 : delete_item (node 0) (text (codes "k")) (bare ((dict []) ∷ []) 9 0) ≡ raised (fresh 16 ((text (codes "k")) ∷ [])) (bare ((dict []) ∷ []) 9 0)
unfolding class_names chars
item_63 = refl

item_64 : delete_item (node 0) (node 1) (bare ((dict (((p.tuple ((p.integer (pos 1)) ∷ [])), (integer (pos 2))) ∷ [])) ∷ (tuple ((bool true) ∷ [])) ∷ []) 9 0) ≡ fine tt (bare ((dict []) ∷ (tuple ((bool true) ∷ [])) ∷ []) 8 0)
unfolding class_names chars
item_64 = refl

item_65 : delete_item (node 0) (node 1) (bare ((dict []) ∷ (list []) ∷ []) 9 0) ≡ raised (fresh 23 ((text (codes "unhashable key: 'list'")) ∷ [])) (bare ((dict []) ∷ (list []) ∷ []) 9 0)
unfolding class_names chars
item_65 = refl

item_66 : delete_item (text (codes "ab")) (integer (pos 0)) (bare [] 9 0) ≡ raised (fresh 23 ((text (codes "'str' object is not subscriptable")) ∷ [])) (bare [] 9 0)
unfolding class_names chars
item_66 = refl

item_67 : delete_item (node 0) (integer (pos 0)) (bare ((tuple ((integer (pos 1)) ∷ [])) ∷ []) 9 0) ≡ raised (fresh 23 ((text (codes "'tuple' object is not subscriptable")) ∷ [])) (bare ((tuple ((integer (pos 1)) ∷ [])) ∷ []) 9 0)
unfolding class_names chars
item_67 = refl

item_68 : delete_item (range (pos 0) (pos 2) (pos 1)) (integer (pos 0)) (bare [] 9 0) ≡ raised (fresh 23 ((text (codes "'range' object is not subscriptable")) ∷ [])) (bare [] 9 0)
unfolding class_names chars
item_68 = refl

item_69 : delete_item none (integer (pos 0)) (bare [] 9 0) ≡ raised (fresh 23 ((text (codes "'NoneType' object is not subscriptable")) ∷ [])) (bare [] 9 0)
unfolding class_names chars
item_69 = refl

item_70 : delete_item (builtin 10) (integer (pos 1)) (bare [] 9 0) ≡ raised (fresh 23 ((text (codes "'builtin' object is not subscriptable")) ∷ [])) (bare [] 9 0)
unfolding class_names chars
item_70 = refl

item_71 : attribute (node 0) (codes "a") (bare ((object (((codes "a"), (integer (pos 1))) ∷ ((codes "b"), (node 1)) ∷ [])) ∷ (list ((integer (pos 2)) ∷ [])) ∷ []) 9 0) ≡ fine (integer (pos 1)) (bare ((object (((codes "a"), (integer (pos 1))) ∷ ((codes "b"), (node 1)) ∷ [])) ∷ (list ((integer (pos 2)) ∷ [])) ∷ []) 9 0)
unfolding class_names chars
item_71 = refl

item_72 : attribute (node 0) (codes "b") (bare ((object (((codes "a"), (integer (pos 1))) ∷ ((codes "b"), (node 1)) ∷ [])) ∷ (list ((integer (pos 2)) ∷ [])) ∷ []) 9 0) ≡ fine (node 1) (bare ((object (((codes "a"), (integer (pos 1))) ∷ ((codes "b"), (node 1)) ∷ [])) ∷ (list ((integer (pos 2)) ∷ [])) ∷ []) 9 0)
unfolding class_names chars
item_72 = refl

item_73 : attribute (node 0) (codes "c") (bare ((object (((codes "a"), (integer (pos 1))) ∷ ((codes "b"), (node 1)) ∷ [])) ∷ (list ((integer (pos 2)) ∷ [])) ∷ []) 9 0) ≡ raised (fresh 13 ((text (codes "'SimpleNamespace' object has no attribute 'c'")) ∷ [])) (bare ((object (((codes "a"), (integer (pos 1))) ∷ ((codes "b"), (node 1)) ∷ [])) ∷ (list ((integer (pos 2)) ∷ [])) ∷ []) 9 0)
unfolding class_names chars
item_73 = refl

item_74 : attribute (node 0) (codes "args") (bare ((exception 24 ((integer (pos 1)) ∷ (text (codes "a")) ∷ [])) ∷ []) 9 0) ≡ fine (node 1) (bare ((exception 24 ((integer (pos 1)) ∷ (text (codes "a")) ∷ [])) ∷ (tuple ((integer (pos 1)) ∷ (text (codes "a")) ∷ [])) ∷ []) 9 0)
unfolding class_names chars
item_74 = refl

item_75 : attribute (node 0) (codes "args") (bare ((exception 24 []) ∷ []) 9 0) ≡ fine (node 1) (bare ((exception 24 []) ∷ (tuple []) ∷ []) 9 0)
unfolding class_names chars
item_75 = refl

item_76 : attribute (node 0) (codes "arg") (bare ((exception 24 []) ∷ []) 9 0) ≡ raised (fresh 13 ((text (codes "'ValueError' object has no attribute 'arg'")) ∷ [])) (bare ((exception 24 []) ∷ []) 9 0)
unfolding class_names chars
item_76 = refl

item_77 : attribute (node 0) (codes "append") (bare ((list []) ∷ []) 9 0) ≡ raised (fresh 13 ((text (codes "'list' object has no attribute 'append'")) ∷ [])) (bare ((list []) ∷ []) 9 0)
unfolding class_names chars
item_77 = refl

item_78 : attribute (text (codes "a")) (codes "strip") (bare [] 9 0) ≡ raised (fresh 13 ((text (codes "'str' object has no attribute 'strip'")) ∷ [])) (bare [] 9 0)
unfolding class_names chars
item_78 = refl

item_79 : attribute none (codes "a") (bare [] 9 0) ≡ raised (fresh 13 ((text (codes "'NoneType' object has no attribute 'a'")) ∷ [])) (bare [] 9 0)
unfolding class_names chars
item_79 = refl

item_80 : attribute (integer (pos 5)) (codes "real") (bare [] 9 0) ≡ raised (fresh 13 ((text (codes "'int' object has no attribute 'real'")) ∷ [])) (bare [] 9 0)
unfolding class_names chars
item_80 = refl

item_81 : attribute (builtin 10) (codes "name") (bare [] 9 0) ≡ raised (fresh 13 ((text (codes "'builtin' object has no attribute 'name'")) ∷ [])) (bare [] 9 0)
unfolding class_names chars
item_81 = refl

item_82 : attribute (class 2) (codes "x") (bare [] 9 0) ≡ raised (fresh 13 ((text (codes "'class' object has no attribute 'x'")) ∷ [])) (bare [] 9 0)
unfolding class_names chars
item_82 = refl

item_83 : attribute (node 0) (codes "keys") (bare ((dict []) ∷ []) 9 0) ≡ raised (fresh 13 ((text (codes "'dict' object has no attribute 'keys'")) ∷ [])) (bare ((dict []) ∷ []) 9 0)
unfolding class_names chars
item_83 = refl

item_84 : attribute (node 0) (codes "code") (bare ((function One (codes "def f(): pass") []) ∷ []) 9 0) ≡ raised (fresh 13 ((text (codes "'function' object has no attribute 'code'")) ∷ [])) (bare ((function One (codes "def f(): pass") []) ∷ []) 9 0)
unfolding class_names chars
item_84 = refl

item_85 : store_attribute (node 0) (codes "a") (integer (pos 2)) (bare ((object (((codes "a"), (integer (pos 1))) ∷ [])) ∷ []) 9 0) ≡ fine tt (bare ((object (((codes "a"), (integer (pos 2))) ∷ [])) ∷ []) 9 0)
unfolding class_names chars
item_85 = refl

item_86 : store_attribute (node 0) (codes "b") none (bare ((object (((codes "a"), (integer (pos 1))) ∷ [])) ∷ []) 9 0) ≡ fine tt (bare ((object (((codes "a"), (integer (pos 1))) ∷ ((codes "b"), none) ∷ [])) ∷ []) 9 0)
unfolding class_names chars
item_86 = refl

item_87 : store_attribute (node 0) (codes "a") (integer (pos 1)) (bare ((list []) ∷ []) 9 0) ≡ raised (fresh 13 ((text (codes "'list' object has no attribute 'a'")) ∷ [])) (bare ((list []) ∷ []) 9 0)
unfolding class_names chars
item_87 = refl

item_88 : store_attribute none (codes "a") (integer (pos 1)) (bare [] 9 0) ≡ raised (fresh 13 ((text (codes "'NoneType' object has no attribute 'a'")) ∷ [])) (bare [] 9 0)
unfolding class_names chars
item_88 = refl

item_89 : store_attribute (node 0) (codes "args") (integer (pos 1)) (bare ((exception 24 []) ∷ []) 9 0) ≡ raised (fresh 13 ((text (codes "'ValueError' object has no attribute 'args'")) ∷ [])) (bare ((exception 24 []) ∷ []) 9 0)
unfolding class_names chars
item_89 = refl

item_90 : delete_attribute (node 0) (codes "a") (bare ((object (((codes "a"), (integer (pos 1))) ∷ ((codes "b"), (integer (pos 2))) ∷ [])) ∷ []) 9 0) ≡ fine tt (bare ((object (((codes "b"), (integer (pos 2))) ∷ [])) ∷ []) 9 0)
unfolding class_names chars
item_90 = refl

item_91 : delete_attribute (node 0) (codes "b") (bare ((object (((codes "a"), (integer (pos 1))) ∷ [])) ∷ []) 9 0) ≡ raised (fresh 13 ((text (codes "'SimpleNamespace' object has no attribute 'b'")) ∷ [])) (bare ((object (((codes "a"), (integer (pos 1))) ∷ [])) ∷ []) 9 0)
unfolding class_names chars
item_91 = refl

item_92 : delete_attribute (node 0) (codes "a") (bare ((list []) ∷ []) 9 0) ≡ raised (fresh 13 ((text (codes "'list' object has no attribute 'a'")) ∷ [])) (bare ((list []) ∷ []) 9 0)
unfolding class_names chars
item_92 = refl

item_93 : delete_attribute (integer (pos 5)) (codes "a") (bare [] 9 0) ≡ raised (fresh 13 ((text (codes "'int' object has no attribute 'a'")) ∷ [])) (bare [] 9 0)
unfolding class_names chars
item_93 = refl

item_94 : delete_attribute (node 0) (codes "args") (bare ((exception 24 []) ∷ []) 9 0) ≡ raised (fresh 13 ((text (codes "'ValueError' object has no attribute 'args'")) ∷ [])) (bare ((exception 24 []) ∷ []) 9 0)
unfolding class_names chars
item_94 = refl

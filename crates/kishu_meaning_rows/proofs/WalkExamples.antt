-- What is walked, and its items, with the steps that are left: computed on the definition. Made by tools/rows/call_rows.py.
use Rattle.std.proofs.Common.{◌≡◌, refl, [], ◌∷◌, true}
use Rattle.std.specs.Prelude.{pos, negsuc, codes, Some, None}
use Rattle.kishu_meaning.specs.values.Keys as p
use Rattle.kishu_language.specs.declared.profile.Profile.TheVariants.{One}
use Rattle.kishu_meaning.specs.values.Values.{none, bool, integer, text, range, builtin, class, node, list, tuple, dict, object, function, exception}
use Rattle.kishu_meaning_laws.specs.Bare.{bare}
use Rattle.kishu_meaning.specs.moments.Moment.{fresh, fine, raised, stopped}
use Rattle.kishu_meaning.specs.values.BuiltinNames.{class_names}
use Rattle.std.specs.Fmt.{digits}
use Rattle.kishu_meaning.specs.items.Walks.{keys, values, items, along_list, along_dict, along_tuple, along_text, along_range, unpacked, walk_of, item_for}

walk_1 : unpacked 0 (node 0) (bare ((list []) ∷ []) 9 0) ≡ fine [] (bare ((list []) ∷ []) 9 0)
unfolding class_names digits
walk_1 = refl

walk_2 : unpacked 1 (node 0) (bare ((list ((integer (pos 5)) ∷ [])) ∷ []) 9 0) ≡ fine ((integer (pos 5)) ∷ []) (bare ((list ((integer (pos 5)) ∷ [])) ∷ []) 8 0)
unfolding class_names digits
walk_2 = refl

walk_3 : unpacked 2 (node 0) (bare ((list ((integer (pos 1)) ∷ (integer (pos 2)) ∷ [])) ∷ []) 9 0) ≡ fine ((integer (pos 1)) ∷ (integer (pos 2)) ∷ []) (bare ((list ((integer (pos 1)) ∷ (integer (pos 2)) ∷ [])) ∷ []) 7 0)
unfolding class_names digits
walk_3 = refl

walk_4 : unpacked 2 (node 0) (bare ((list ((integer (pos 1)) ∷ [])) ∷ []) 9 0) ≡ raised (fresh 24 ((text (codes "cannot unpack into 2")) ∷ [])) (bare ((list ((integer (pos 1)) ∷ [])) ∷ []) 8 0)
unfolding class_names digits
walk_4 = refl

walk_5 : unpacked 2 (node 0) (bare ((list ((integer (pos 1)) ∷ (integer (pos 2)) ∷ (integer (pos 3)) ∷ [])) ∷ []) 9 0) ≡ raised (fresh 24 ((text (codes "cannot unpack into 2")) ∷ [])) (bare ((list ((integer (pos 1)) ∷ (integer (pos 2)) ∷ (integer (pos 3)) ∷ [])) ∷ []) 6 0)
unfolding class_names digits
walk_5 = refl

walk_6 : unpacked 2 (text (codes "ab")) (bare [] 9 0) ≡ fine ((text (codes "a")) ∷ (text (codes "b")) ∷ []) (bare [] 7 0)
unfolding class_names digits
walk_6 = refl

walk_7 : unpacked 1 (text (233 ∷ [])) (bare [] 9 0) ≡ fine ((text (233 ∷ [])) ∷ []) (bare [] 8 0)
unfolding class_names digits
walk_7 = refl

walk_8 : unpacked 2 (text (codes "abc")) (bare [] 9 0) ≡ raised (fresh 24 ((text (codes "cannot unpack into 2")) ∷ [])) (bare [] 6 0)
unfolding class_names digits
walk_8 = refl

walk_9 : unpacked 3 (range (pos 0) (pos 3) (pos 1)) (bare [] 9 0) ≡ fine ((integer (pos 0)) ∷ (integer (pos 1)) ∷ (integer (pos 2)) ∷ []) (bare [] 6 0)
unfolding class_names digits
walk_9 = refl

walk_10 : unpacked 2 (range (pos 0) (pos 3) (pos 1)) (bare [] 9 0) ≡ raised (fresh 24 ((text (codes "cannot unpack into 2")) ∷ [])) (bare [] 6 0)
unfolding class_names digits
walk_10 = refl

walk_11 : unpacked 2 (node 0) (bare ((tuple ((integer (pos 1)) ∷ (node 1) ∷ [])) ∷ (list ((integer (pos 2)) ∷ [])) ∷ []) 9 0) ≡ fine ((integer (pos 1)) ∷ (node 1) ∷ []) (bare ((tuple ((integer (pos 1)) ∷ (node 1) ∷ [])) ∷ (list ((integer (pos 2)) ∷ [])) ∷ []) 7 0)
unfolding class_names digits
walk_11 = refl

walk_12 : unpacked 1 (node 0) (bare ((tuple []) ∷ []) 9 0) ≡ raised (fresh 24 ((text (codes "cannot unpack into 1")) ∷ [])) (bare ((tuple []) ∷ []) 9 0)
unfolding class_names digits
walk_12 = refl

walk_13 : unpacked 2 (node 0) (bare ((dict (((p.single (p.integer (pos 1))), (integer (pos 2))) ∷ ((p.single (p.text (codes "a"))), (integer (pos 3))) ∷ [])) ∷ []) 9 0) ≡ fine ((integer (pos 1)) ∷ (text (codes "a")) ∷ []) (bare ((dict (((p.single (p.integer (pos 1))), (integer (pos 2))) ∷ ((p.single (p.text (codes "a"))), (integer (pos 3))) ∷ [])) ∷ []) 7 0)
unfolding class_names digits
walk_13 = refl

walk_14 : unpacked 1 (node 0) (bare ((dict (((p.single (p.integer (pos 1))), (integer (pos 2))) ∷ ((p.tuple ((p.integer (pos 1)) ∷ (p.integer (pos 2)) ∷ [])), (integer (pos 3))) ∷ [])) ∷ []) 9 0) ≡ raised (fresh 24 ((text (codes "cannot unpack into 1")) ∷ [])) (bare ((dict (((p.single (p.integer (pos 1))), (integer (pos 2))) ∷ ((p.tuple ((p.integer (pos 1)) ∷ (p.integer (pos 2)) ∷ [])), (integer (pos 3))) ∷ [])) ∷ []) 7 0)
unfolding class_names digits
walk_14 = refl

walk_15 : unpacked 2 (node 0) (bare ((dict (((p.single (p.integer (pos 1))), (integer (pos 2))) ∷ ((p.tuple ((p.integer (pos 1)) ∷ (p.integer (pos 2)) ∷ [])), (integer (pos 3))) ∷ [])) ∷ []) 9 0) ≡ fine ((integer (pos 1)) ∷ (node 1) ∷ []) (bare ((dict (((p.single (p.integer (pos 1))), (integer (pos 2))) ∷ ((p.tuple ((p.integer (pos 1)) ∷ (p.integer (pos 2)) ∷ [])), (integer (pos 3))) ∷ [])) ∷ (tuple ((integer (pos 1)) ∷ (integer (pos 2)) ∷ [])) ∷ []) 5 0)
unfolding class_names digits
walk_15 = refl

walk_16 : unpacked 1 (integer (pos 5)) (bare [] 9 0) ≡ raised (fresh 23 ((text (codes "'int' object is not iterable")) ∷ [])) (bare [] 9 0)
unfolding class_names digits
walk_16 = refl

walk_17 : unpacked 0 none (bare [] 9 0) ≡ raised (fresh 23 ((text (codes "'NoneType' object is not iterable")) ∷ [])) (bare [] 9 0)
unfolding class_names digits
walk_17 = refl

walk_18 : unpacked 1 (builtin 10) (bare [] 9 0) ≡ raised (fresh 23 ((text (codes "'builtin' object is not iterable")) ∷ [])) (bare [] 9 0)
unfolding class_names digits
walk_18 = refl

walk_19 : unpacked 2 (node 0) (bare ((object []) ∷ []) 9 0) ≡ raised (fresh 23 ((text (codes "'SimpleNamespace' object is not iterable")) ∷ [])) (bare ((object []) ∷ []) 9 0)
unfolding class_names digits
walk_19 = refl

walk_20 : unpacked 2 (node 0) (bare ((exception 24 ((integer (pos 1)) ∷ (integer (pos 2)) ∷ [])) ∷ []) 9 0) ≡ raised (fresh 23 ((text (codes "'ValueError' object is not iterable")) ∷ [])) (bare ((exception 24 ((integer (pos 1)) ∷ (integer (pos 2)) ∷ [])) ∷ []) 9 0)
unfolding class_names digits
walk_20 = refl

walk_21 : unpacked 2 (range (pos 0) (pos 1000000000000000000000000000000) (pos 1)) (bare [] 9 0) ≡ stopped (bare [] 0 0)
unfolding class_names digits
walk_21 = refl

walk_22 : unpacked 2 (node 0) (bare ((list ((integer (pos 1)) ∷ (integer (pos 2)) ∷ [])) ∷ []) 1 0) ≡ stopped (bare ((list ((integer (pos 1)) ∷ (integer (pos 2)) ∷ [])) ∷ []) 0 0)
unfolding class_names digits
walk_22 = refl

walk_23 : unpacked 2 (node 0) (bare ((list ((integer (pos 1)) ∷ (integer (pos 2)) ∷ [])) ∷ []) 2 0) ≡ fine ((integer (pos 1)) ∷ (integer (pos 2)) ∷ []) (bare ((list ((integer (pos 1)) ∷ (integer (pos 2)) ∷ [])) ∷ []) 0 0)
unfolding class_names digits
walk_23 = refl

walk_24 : unpacked 1 (node 0) (bare ((list ((integer (pos 1)) ∷ (integer (pos 2)) ∷ [])) ∷ []) 1 0) ≡ stopped (bare ((list ((integer (pos 1)) ∷ (integer (pos 2)) ∷ [])) ∷ []) 0 0)
unfolding class_names digits
walk_24 = refl

walk_25 : unpacked 1 (node 0) (bare ((list ((integer (pos 1)) ∷ (integer (pos 2)) ∷ [])) ∷ []) 2 0) ≡ raised (fresh 24 ((text (codes "cannot unpack into 1")) ∷ [])) (bare ((list ((integer (pos 1)) ∷ (integer (pos 2)) ∷ [])) ∷ []) 0 0)
unfolding class_names digits
walk_25 = refl

walk_26 : unpacked 1 (node 0) (bare ((dict (((p.tuple ((p.integer (pos 1)) ∷ (p.integer (pos 2)) ∷ [])), (integer (pos 0))) ∷ [])) ∷ []) 2 0) ≡ stopped (bare ((dict (((p.tuple ((p.integer (pos 1)) ∷ (p.integer (pos 2)) ∷ [])), (integer (pos 0))) ∷ [])) ∷ []) 0 0)
unfolding class_names digits
walk_26 = refl

walk_27 : unpacked 1 (node 0) (bare ((dict (((p.tuple ((p.integer (pos 1)) ∷ (p.integer (pos 2)) ∷ [])), (integer (pos 0))) ∷ [])) ∷ []) 3 0) ≡ fine ((node 1) ∷ []) (bare ((dict (((p.tuple ((p.integer (pos 1)) ∷ (p.integer (pos 2)) ∷ [])), (integer (pos 0))) ∷ [])) ∷ (tuple ((integer (pos 1)) ∷ (integer (pos 2)) ∷ [])) ∷ []) 0 0)
unfolding class_names digits
walk_27 = refl

walk_28 : walk_of (node 0) (bare ((list ((integer (pos 1)) ∷ [])) ∷ []) 9 0) ≡ fine (along_list 0) (bare ((list ((integer (pos 1)) ∷ [])) ∷ []) 9 0)
unfolding class_names digits
walk_28 = refl

walk_29 : walk_of (node 0) (bare ((tuple ((integer (pos 1)) ∷ (integer (pos 2)) ∷ [])) ∷ []) 9 0) ≡ fine (along_tuple (integer (pos 1) ∷ integer (pos 2) ∷ [])) (bare ((tuple ((integer (pos 1)) ∷ (integer (pos 2)) ∷ [])) ∷ []) 9 0)
unfolding class_names digits
walk_29 = refl

walk_30 : walk_of (node 0) (bare ((dict (((p.single (p.integer (pos 1))), (integer (pos 2))) ∷ [])) ∷ []) 9 0) ≡ fine (along_dict 0 1 keys) (bare ((dict (((p.single (p.integer (pos 1))), (integer (pos 2))) ∷ [])) ∷ []) 9 0)
unfolding class_names digits
walk_30 = refl

walk_31 : walk_of (node 0) (bare ((dict []) ∷ []) 9 0) ≡ fine (along_dict 0 0 keys) (bare ((dict []) ∷ []) 9 0)
unfolding class_names digits
walk_31 = refl

walk_32 : walk_of (text (codes "ab")) (bare [] 9 0) ≡ fine (along_text (codes "ab")) (bare [] 9 0)
unfolding class_names digits
walk_32 = refl

walk_33 : walk_of (range (pos 5) (pos 0) (negsuc 1)) (bare [] 9 0) ≡ fine (along_range (pos 5) (pos 0) (negsuc 1)) (bare [] 9 0)
unfolding class_names digits
walk_33 = refl

walk_34 : walk_of none (bare [] 9 0) ≡ raised (fresh 23 ((text (codes "'NoneType' object is not iterable")) ∷ [])) (bare [] 9 0)
unfolding class_names digits
walk_34 = refl

walk_35 : walk_of (bool true) (bare [] 9 0) ≡ raised (fresh 23 ((text (codes "'bool' object is not iterable")) ∷ [])) (bare [] 9 0)
unfolding class_names digits
walk_35 = refl

walk_36 : walk_of (integer (pos 5)) (bare [] 9 0) ≡ raised (fresh 23 ((text (codes "'int' object is not iterable")) ∷ [])) (bare [] 9 0)
unfolding class_names digits
walk_36 = refl

walk_37 : walk_of (builtin 10) (bare [] 9 0) ≡ raised (fresh 23 ((text (codes "'builtin' object is not iterable")) ∷ [])) (bare [] 9 0)
unfolding class_names digits
walk_37 = refl

walk_38 : walk_of (class 2) (bare [] 9 0) ≡ raised (fresh 23 ((text (codes "'class' object is not iterable")) ∷ [])) (bare [] 9 0)
unfolding class_names digits
walk_38 = refl

walk_39 : walk_of (node 0) (bare ((object []) ∷ []) 9 0) ≡ raised (fresh 23 ((text (codes "'SimpleNamespace' object is not iterable")) ∷ [])) (bare ((object []) ∷ []) 9 0)
unfolding class_names digits
walk_39 = refl

walk_40 : walk_of (node 0) (bare ((exception 24 []) ∷ []) 9 0) ≡ raised (fresh 23 ((text (codes "'ValueError' object is not iterable")) ∷ [])) (bare ((exception 24 []) ∷ []) 9 0)
unfolding class_names digits
walk_40 = refl

walk_41 : walk_of (node 0) (bare ((function One (codes "def f(): pass") []) ∷ []) 9 0) ≡ raised (fresh 23 ((text (codes "'function' object is not iterable")) ∷ [])) (bare ((function One (codes "def f(): pass") []) ∷ []) 9 0)
unfolding class_names digits
walk_41 = refl

walk_42 : item_for (along_list 0) 0 (bare ((list ((integer (pos 1)) ∷ (text (codes "a")) ∷ [])) ∷ []) 9 0) ≡ fine (Some (integer (pos 1))) (bare ((list ((integer (pos 1)) ∷ (text (codes "a")) ∷ [])) ∷ []) 9 0)
unfolding class_names digits
walk_42 = refl

walk_43 : item_for (along_list 0) 1 (bare ((list ((integer (pos 1)) ∷ (text (codes "a")) ∷ [])) ∷ []) 9 0) ≡ fine (Some (text (codes "a"))) (bare ((list ((integer (pos 1)) ∷ (text (codes "a")) ∷ [])) ∷ []) 9 0)
unfolding class_names digits
walk_43 = refl

walk_44 : item_for (along_list 0) 2 (bare ((list ((integer (pos 1)) ∷ (text (codes "a")) ∷ [])) ∷ []) 9 0) ≡ fine None (bare ((list ((integer (pos 1)) ∷ (text (codes "a")) ∷ [])) ∷ []) 9 0)
unfolding class_names digits
walk_44 = refl

walk_45 : item_for (along_list 0) 0 (bare ((list []) ∷ []) 9 0) ≡ fine None (bare ((list []) ∷ []) 9 0)
unfolding class_names digits
walk_45 = refl

walk_46 : item_for (along_dict 0 2 keys) 1 (bare ((dict (((p.single (p.integer (pos 1))), (integer (pos 2))) ∷ ((p.single (p.integer (pos 3))), (integer (pos 4))) ∷ [])) ∷ []) 9 0) ≡ fine (Some (integer (pos 3))) (bare ((dict (((p.single (p.integer (pos 1))), (integer (pos 2))) ∷ ((p.single (p.integer (pos 3))), (integer (pos 4))) ∷ [])) ∷ []) 9 0)
unfolding class_names digits
walk_46 = refl

walk_47 : item_for (along_dict 0 2 values) 1 (bare ((dict (((p.single (p.integer (pos 1))), (integer (pos 2))) ∷ ((p.single (p.integer (pos 3))), (integer (pos 4))) ∷ [])) ∷ []) 9 0) ≡ fine (Some (integer (pos 4))) (bare ((dict (((p.single (p.integer (pos 1))), (integer (pos 2))) ∷ ((p.single (p.integer (pos 3))), (integer (pos 4))) ∷ [])) ∷ []) 9 0)
unfolding class_names digits
walk_47 = refl

walk_48 : item_for (along_dict 0 1 keys) 1 (bare ((dict (((p.single (p.integer (pos 1))), (integer (pos 2))) ∷ [])) ∷ []) 9 0) ≡ fine None (bare ((dict (((p.single (p.integer (pos 1))), (integer (pos 2))) ∷ [])) ∷ []) 9 0)
unfolding class_names digits
walk_48 = refl

walk_49 : item_for (along_dict 0 1 values) 1 (bare ((dict (((p.single (p.integer (pos 1))), (integer (pos 2))) ∷ [])) ∷ []) 9 0) ≡ fine None (bare ((dict (((p.single (p.integer (pos 1))), (integer (pos 2))) ∷ [])) ∷ []) 9 0)
unfolding class_names digits
walk_49 = refl

walk_50 : item_for (along_dict 0 0 items) 0 (bare ((dict []) ∷ []) 9 0) ≡ fine None (bare ((dict []) ∷ []) 9 0)
unfolding class_names digits
walk_50 = refl

walk_51 : item_for (along_dict 0 1 items) 0 (bare ((dict (((p.single (p.integer (pos 1))), (integer (pos 2))) ∷ [])) ∷ []) 9 0) ≡ fine (Some (node 1)) (bare ((dict (((p.single (p.integer (pos 1))), (integer (pos 2))) ∷ [])) ∷ (tuple ((integer (pos 1)) ∷ (integer (pos 2)) ∷ [])) ∷ []) 9 0)
unfolding class_names digits
walk_51 = refl

walk_52 : item_for (along_dict 0 1 keys) 0 (bare ((dict (((p.tuple ((p.integer (pos 1)) ∷ (p.integer (pos 2)) ∷ [])), (integer (pos 3))) ∷ [])) ∷ []) 9 0) ≡ fine (Some (node 1)) (bare ((dict (((p.tuple ((p.integer (pos 1)) ∷ (p.integer (pos 2)) ∷ [])), (integer (pos 3))) ∷ [])) ∷ (tuple ((integer (pos 1)) ∷ (integer (pos 2)) ∷ [])) ∷ []) 7 0)
unfolding class_names digits
walk_52 = refl

walk_53 : item_for (along_dict 0 1 values) 0 (bare ((dict (((p.tuple ((p.integer (pos 1)) ∷ (p.integer (pos 2)) ∷ [])), (integer (pos 3))) ∷ [])) ∷ []) 9 0) ≡ fine (Some (integer (pos 3))) (bare ((dict (((p.tuple ((p.integer (pos 1)) ∷ (p.integer (pos 2)) ∷ [])), (integer (pos 3))) ∷ [])) ∷ []) 9 0)
unfolding class_names digits
walk_53 = refl

walk_54 : item_for (along_dict 0 0 keys) 0 (bare ((dict (((p.single (p.integer (pos 1))), (integer (pos 2))) ∷ [])) ∷ []) 9 0) ≡ raised (fresh 19 (text (codes "dictionary changed size during iteration") ∷ [])) (bare ((dict (((p.single (p.integer (pos 1))), (integer (pos 2))) ∷ [])) ∷ []) 9 0)
unfolding class_names digits
walk_54 = refl

walk_55 : item_for (along_dict 0 2 keys) 1 (bare ((dict (((p.single (p.integer (pos 1))), (integer (pos 2))) ∷ [])) ∷ []) 9 0) ≡ raised (fresh 19 (text (codes "dictionary changed size during iteration") ∷ [])) (bare ((dict (((p.single (p.integer (pos 1))), (integer (pos 2))) ∷ [])) ∷ []) 9 0)
unfolding class_names digits
walk_55 = refl

walk_56 : item_for (along_dict 0 2 values) 5 (bare ((dict (((p.single (p.integer (pos 1))), (integer (pos 2))) ∷ [])) ∷ []) 9 0) ≡ raised (fresh 19 (text (codes "dictionary changed size during iteration") ∷ [])) (bare ((dict (((p.single (p.integer (pos 1))), (integer (pos 2))) ∷ [])) ∷ []) 9 0)
unfolding class_names digits
walk_56 = refl

walk_57 : item_for (along_dict 0 0 items) 1 (bare ((dict (((p.single (p.integer (pos 1))), (integer (pos 2))) ∷ [])) ∷ []) 9 0) ≡ raised (fresh 19 (text (codes "dictionary changed size during iteration") ∷ [])) (bare ((dict (((p.single (p.integer (pos 1))), (integer (pos 2))) ∷ [])) ∷ []) 9 0)
unfolding class_names digits
walk_57 = refl

walk_58 : item_for (along_tuple (none ∷ integer (pos 1) ∷ [])) 0 (bare [] 9 0) ≡ fine (Some none) (bare [] 9 0)
unfolding class_names digits
walk_58 = refl

walk_59 : item_for (along_text (codes "ab")) 0 (bare [] 9 0) ≡ fine (Some (text (codes "a"))) (bare [] 9 0)
unfolding class_names digits
walk_59 = refl

walk_60 : item_for (along_tuple (none ∷ integer (pos 1) ∷ [])) 1 (bare [] 9 0) ≡ fine (Some (integer (pos 1))) (bare [] 9 0)
unfolding class_names digits
walk_60 = refl

walk_61 : item_for (along_text (codes "ab")) 1 (bare [] 9 0) ≡ fine (Some (text (codes "b"))) (bare [] 9 0)
unfolding class_names digits
walk_61 = refl

walk_62 : item_for (along_tuple (none ∷ integer (pos 1) ∷ [])) 2 (bare [] 9 0) ≡ fine None (bare [] 9 0)
unfolding class_names digits
walk_62 = refl

walk_63 : item_for (along_text (codes "ab")) 2 (bare [] 9 0) ≡ fine None (bare [] 9 0)
unfolding class_names digits
walk_63 = refl

walk_64 : item_for (along_range (pos 0) (pos 3) (pos 1)) 0 (bare [] 9 0) ≡ fine (Some (integer (pos 0))) (bare [] 9 0)
unfolding class_names digits
walk_64 = refl

walk_65 : item_for (along_range (pos 0) (pos 3) (pos 1)) 1 (bare [] 9 0) ≡ fine (Some (integer (pos 1))) (bare [] 9 0)
unfolding class_names digits
walk_65 = refl

walk_66 : item_for (along_range (pos 0) (pos 3) (pos 1)) 2 (bare [] 9 0) ≡ fine (Some (integer (pos 2))) (bare [] 9 0)
unfolding class_names digits
walk_66 = refl

walk_67 : item_for (along_range (pos 0) (pos 3) (pos 1)) 3 (bare [] 9 0) ≡ fine None (bare [] 9 0)
unfolding class_names digits
walk_67 = refl

walk_68 : item_for (along_range (pos 5) (pos 0) (negsuc 1)) 0 (bare [] 9 0) ≡ fine (Some (integer (pos 5))) (bare [] 9 0)
unfolding class_names digits
walk_68 = refl

walk_69 : item_for (along_range (pos 5) (pos 0) (negsuc 1)) 1 (bare [] 9 0) ≡ fine (Some (integer (pos 3))) (bare [] 9 0)
unfolding class_names digits
walk_69 = refl

walk_70 : item_for (along_range (pos 5) (pos 0) (negsuc 1)) 2 (bare [] 9 0) ≡ fine (Some (integer (pos 1))) (bare [] 9 0)
unfolding class_names digits
walk_70 = refl

walk_71 : item_for (along_range (pos 5) (pos 0) (negsuc 1)) 3 (bare [] 9 0) ≡ fine None (bare [] 9 0)
unfolding class_names digits
walk_71 = refl

walk_72 : item_for (along_range (pos 0) (pos 0) (pos 1)) 0 (bare [] 9 0) ≡ fine None (bare [] 9 0)
unfolding class_names digits
walk_72 = refl

walk_73 : item_for (along_range (pos 0) (pos 0) (pos 1)) 1 (bare [] 9 0) ≡ fine None (bare [] 9 0)
unfolding class_names digits
walk_73 = refl

walk_74 : item_for (along_range (pos 0) (pos 0) (pos 1)) 2 (bare [] 9 0) ≡ fine None (bare [] 9 0)
unfolding class_names digits
walk_74 = refl

walk_75 : item_for (along_range (pos 0) (pos 0) (pos 1)) 3 (bare [] 9 0) ≡ fine None (bare [] 9 0)
unfolding class_names digits
walk_75 = refl

walk_76 : item_for (along_range (negsuc 3) (pos 4) (pos 3)) 0 (bare [] 9 0) ≡ fine (Some (integer (negsuc 3))) (bare [] 9 0)
unfolding class_names digits
walk_76 = refl

walk_77 : item_for (along_range (negsuc 3) (pos 4) (pos 3)) 1 (bare [] 9 0) ≡ fine (Some (integer (negsuc 0))) (bare [] 9 0)
unfolding class_names digits
walk_77 = refl

walk_78 : item_for (along_range (negsuc 3) (pos 4) (pos 3)) 2 (bare [] 9 0) ≡ fine (Some (integer (pos 2))) (bare [] 9 0)
unfolding class_names digits
walk_78 = refl

walk_79 : item_for (along_range (negsuc 3) (pos 4) (pos 3)) 3 (bare [] 9 0) ≡ fine None (bare [] 9 0)
unfolding class_names digits
walk_79 = refl

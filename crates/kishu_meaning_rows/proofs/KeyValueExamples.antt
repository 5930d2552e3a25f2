-- Values as keys and keys as values, with the steps that are left: computed on the definition. Made by tools/rows/state_rows.py.
use Rattle.std.proofs.Common.{◌≡◌, refl, [], ◌∷◌, true, false}
use Rattle.std.specs.Prelude.{pos, negsuc, codes}
use Rattle.kishu_meaning.specs.values.Keys as p
use Rattle.kishu_language.specs.declared.profile.Profile.TheVariants.{One}
use Rattle.kishu_meaning.specs.values.Values.{none, bool, integer, text, range, builtin, class, node, list, tuple, dict, object, function, exception}
use Rattle.kishu_meaning_laws.specs.Bare.{bare}
use Rattle.kishu_meaning.specs.moments.Moment.{fresh, fine, raised, stopped}
use Rattle.kishu_meaning.specs.values.BuiltinNames.{class_names}
use Rattle.kishu_meaning.specs.items.KeyOf.{key_of_value, value_of_key, values_of_keys}

keyed_1 : value_of_key (p.single p.none) (bare [] 9 0) ≡ fine none (bare [] 9 0)
unfolding class_names
keyed_1 = refl

keyed_2 : value_of_key (p.single (p.bool true)) (bare [] 9 0) ≡ fine (bool true) (bare [] 9 0)
unfolding class_names
keyed_2 = refl

keyed_3 : value_of_key (p.single (p.bool false)) (bare [] 9 0) ≡ fine (bool false) (bare [] 9 0)
unfolding class_names
keyed_3 = refl

keyed_4 : value_of_key (p.single (p.integer (pos 0))) (bare [] 9 0) ≡ fine (integer (pos 0)) (bare [] 9 0)
unfolding class_names
keyed_4 = refl

keyed_5 : value_of_key (p.single (p.integer (negsuc 0))) (bare [] 9 0) ≡ fine (integer (negsuc 0)) (bare [] 9 0)
unfolding class_names
keyed_5 = refl

keyed_6 : value_of_key (p.single (p.integer (pos 170141183460469231731687303715884105727))) (bare [] 9 0) ≡ fine (integer (pos 170141183460469231731687303715884105727)) (bare [] 9 0)
unfolding class_names
keyed_6 = refl

keyed_7 : value_of_key (p.single (p.text [])) (bare [] 9 0) ≡ fine (text []) (bare [] 9 0)
unfolding class_names
keyed_7 = refl

keyed_8 : value_of_key (p.single (p.text (codes "a"))) (bare [] 9 0) ≡ fine (text (codes "a")) (bare [] 9 0)
unfolding class_names
keyed_8 = refl

keyed_9 : value_of_key (p.single (p.text (233 ∷ []))) (bare [] 9 0) ≡ fine (text (233 ∷ [])) (bare [] 9 0)
unfolding class_names
keyed_9 = refl

keyed_10 : value_of_key (p.tuple []) (bare [] 9 0) ≡ fine (node 0) (bare ((tuple []) ∷ []) 9 0)
unfolding class_names
keyed_10 = refl

keyed_11 : value_of_key (p.tuple ((p.integer (pos 1)) ∷ [])) (bare [] 9 0) ≡ fine (node 0) (bare ((tuple ((integer (pos 1)) ∷ [])) ∷ []) 8 0)
unfolding class_names
keyed_11 = refl

keyed_12 : value_of_key (p.tuple (p.none ∷ (p.bool true) ∷ (p.text (codes "a")) ∷ [])) (bare [] 9 0) ≡ fine (node 0) (bare ((tuple (none ∷ (bool true) ∷ (text (codes "a")) ∷ [])) ∷ []) 6 0)
unfolding class_names
keyed_12 = refl

keyed_13 : value_of_key (p.tuple ((p.integer (pos 1)) ∷ (p.integer (pos 2)) ∷ (p.integer (pos 3)) ∷ [])) (bare [] 9 0) ≡ fine (node 0) (bare ((tuple ((integer (pos 1)) ∷ (integer (pos 2)) ∷ (integer (pos 3)) ∷ [])) ∷ []) 6 0)
unfolding class_names
keyed_13 = refl

keyed_14 : value_of_key (p.tuple ((p.integer (pos 1)) ∷ (p.integer (pos 2)) ∷ (p.integer (pos 3)) ∷ [])) (bare [] 0 0) ≡ stopped (bare [] 0 0)
unfolding class_names
keyed_14 = refl

keyed_15 : value_of_key (p.tuple ((p.integer (pos 1)) ∷ (p.integer (pos 2)) ∷ (p.integer (pos 3)) ∷ [])) (bare [] 2 0) ≡ stopped (bare [] 0 0)
unfolding class_names
keyed_15 = refl

keyed_16 : value_of_key (p.tuple ((p.integer (pos 1)) ∷ (p.integer (pos 2)) ∷ (p.integer (pos 3)) ∷ [])) (bare [] 3 0) ≡ fine (node 0) (bare ((tuple ((integer (pos 1)) ∷ (integer (pos 2)) ∷ (integer (pos 3)) ∷ [])) ∷ []) 0 0)
unfolding class_names
keyed_16 = refl

keyed_17 : value_of_key (p.single (p.integer (pos 1))) (bare [] 0 0) ≡ fine (integer (pos 1)) (bare [] 0 0)
unfolding class_names
keyed_17 = refl

keyed_18 : value_of_key (p.tuple []) (bare [] 0 0) ≡ fine (node 0) (bare ((tuple []) ∷ []) 0 0)
unfolding class_names
keyed_18 = refl

keyed_19 : values_of_keys [] (bare [] 9 0) ≡ fine [] (bare [] 9 0)
unfolding class_names
keyed_19 = refl

keyed_20 : values_of_keys ((p.single (p.integer (pos 1))) ∷ []) (bare [] 9 0) ≡ fine ((integer (pos 1)) ∷ []) (bare [] 9 0)
unfolding class_names
keyed_20 = refl

keyed_21 : values_of_keys ((p.single (p.integer (pos 1))) ∷ (p.single (p.text (codes "a"))) ∷ (p.single p.none) ∷ []) (bare [] 9 0) ≡ fine ((integer (pos 1)) ∷ (text (codes "a")) ∷ none ∷ []) (bare [] 9 0)
unfolding class_names
keyed_21 = refl

keyed_22 : values_of_keys ((p.tuple ((p.integer (pos 1)) ∷ [])) ∷ []) (bare [] 9 0) ≡ fine ((node 0) ∷ []) (bare ((tuple ((integer (pos 1)) ∷ [])) ∷ []) 8 0)
unfolding class_names
keyed_22 = refl

keyed_23 : values_of_keys ((p.tuple ((p.integer (pos 1)) ∷ [])) ∷ (p.tuple ((p.integer (pos 2)) ∷ (p.integer (pos 3)) ∷ [])) ∷ []) (bare [] 9 0) ≡ fine ((node 0) ∷ (node 1) ∷ []) (bare ((tuple ((integer (pos 1)) ∷ [])) ∷ (tuple ((integer (pos 2)) ∷ (integer (pos 3)) ∷ [])) ∷ []) 6 0)
unfolding class_names
keyed_23 = refl

keyed_24 : values_of_keys ((p.tuple []) ∷ (p.tuple []) ∷ []) (bare [] 9 0) ≡ fine ((node 0) ∷ (node 1) ∷ []) (bare ((tuple []) ∷ (tuple []) ∷ []) 9 0)
unfolding class_names
keyed_24 = refl

keyed_25 : values_of_keys ((p.tuple ((p.integer (pos 1)) ∷ [])) ∷ (p.tuple ((p.integer (pos 2)) ∷ (p.integer (pos 3)) ∷ [])) ∷ []) (bare [] 0 0) ≡ stopped (bare [] 0 0)
unfolding class_names
keyed_25 = refl

keyed_26 : values_of_keys ((p.tuple ((p.integer (pos 1)) ∷ [])) ∷ (p.tuple ((p.integer (pos 2)) ∷ (p.integer (pos 3)) ∷ [])) ∷ []) (bare [] 1 0) ≡ stopped (bare ((tuple ((integer (pos 1)) ∷ [])) ∷ []) 0 0)
unfolding class_names
keyed_26 = refl

keyed_27 : values_of_keys ((p.tuple ((p.integer (pos 1)) ∷ [])) ∷ (p.tuple ((p.integer (pos 2)) ∷ (p.integer (pos 3)) ∷ [])) ∷ []) (bare [] 2 0) ≡ stopped (bare ((tuple ((integer (pos 1)) ∷ [])) ∷ []) 0 0)
unfolding class_names
keyed_27 = refl

keyed_28 : values_of_keys ((p.tuple ((p.integer (pos 1)) ∷ [])) ∷ (p.tuple ((p.integer (pos 2)) ∷ (p.integer (pos 3)) ∷ [])) ∷ []) (bare [] 3 0) ≡ fine ((node 0) ∷ (node 1) ∷ []) (bare ((tuple ((integer (pos 1)) ∷ [])) ∷ (tuple ((integer (pos 2)) ∷ (integer (pos 3)) ∷ [])) ∷ []) 0 0)
unfolding class_names
keyed_28 = refl

keyed_29 : values_of_keys ((p.single (p.integer (pos 1))) ∷ (p.single (p.integer (pos 2))) ∷ []) (bare [] 0 0) ≡ fine ((integer (pos 1)) ∷ (integer (pos 2)) ∷ []) (bare [] 0 0)
unfolding class_names
keyed_29 = refl

keyed_30 : key_of_value (bool false) (bare [] 9 0) ≡ fine (p.single (p.bool false)) (bare [] 9 0)
unfolding class_names
keyed_30 = refl

keyed_31 : key_of_value (integer (negsuc 4)) (bare [] 9 0) ≡ fine (p.single (p.integer (negsuc 4))) (bare [] 9 0)
unfolding class_names
keyed_31 = refl

keyed_32 : key_of_value (text (233 ∷ [])) (bare [] 9 0) ≡ fine (p.single (p.text (233 ∷ []))) (bare [] 9 0)
unfolding class_names
keyed_32 = refl

keyed_33 : key_of_value (node 0) (bare ((tuple ((bool true) ∷ [])) ∷ []) 9 0) ≡ fine (p.tuple ((p.bool true) ∷ [])) (bare ((tuple ((bool true) ∷ [])) ∷ []) 8 0)
unfolding class_names
keyed_33 = refl

keyed_34 : key_of_value (node 0) (bare ((tuple (none ∷ (text []) ∷ [])) ∷ []) 9 0) ≡ fine (p.tuple (p.none ∷ (p.text []) ∷ [])) (bare ((tuple (none ∷ (text []) ∷ [])) ∷ []) 7 0)
unfolding class_names
keyed_34 = refl

keyed_35 : key_of_value (node 0) (bare ((tuple ((node 1) ∷ [])) ∷ (tuple []) ∷ []) 9 0) ≡ raised (fresh 23 ((text (codes "unhashable key: 'tuple'")) ∷ [])) (bare ((tuple ((node 1) ∷ [])) ∷ (tuple []) ∷ []) 8 0)
unfolding class_names
keyed_35 = refl

keyed_36 : key_of_value (node 0) (bare ((tuple ((text (codes "a")) ∷ (node 1) ∷ [])) ∷ (tuple []) ∷ []) 9 0) ≡ raised (fresh 23 ((text (codes "unhashable key: 'tuple'")) ∷ [])) (bare ((tuple ((text (codes "a")) ∷ (node 1) ∷ [])) ∷ (tuple []) ∷ []) 7 0)
unfolding class_names
keyed_36 = refl

keyed_37 : key_of_value (node 0) (bare ((tuple ((integer (pos 1)) ∷ (node 1) ∷ [])) ∷ (list ((integer (pos 2)) ∷ [])) ∷ []) 9 0) ≡ raised (fresh 23 ((text (codes "unhashable key: 'list'")) ∷ [])) (bare ((tuple ((integer (pos 1)) ∷ (node 1) ∷ [])) ∷ (list ((integer (pos 2)) ∷ [])) ∷ []) 7 0)
unfolding class_names
keyed_37 = refl

keyed_38 : key_of_value (node 0) (bare ((tuple ((node 1) ∷ (integer (pos 1)) ∷ [])) ∷ (dict []) ∷ []) 9 0) ≡ raised (fresh 23 ((text (codes "unhashable key: 'dict'")) ∷ [])) (bare ((tuple ((node 1) ∷ (integer (pos 1)) ∷ [])) ∷ (dict []) ∷ []) 7 0)
unfolding class_names
keyed_38 = refl

keyed_39 : key_of_value (node 0) (bare ((tuple ((builtin 10) ∷ [])) ∷ []) 9 0) ≡ raised (fresh 23 ((text (codes "unhashable key: 'builtin'")) ∷ [])) (bare ((tuple ((builtin 10) ∷ [])) ∷ []) 8 0)
unfolding class_names
keyed_39 = refl

keyed_40 : key_of_value (node 0) (bare ((tuple ((class 24) ∷ [])) ∷ []) 9 0) ≡ raised (fresh 23 ((text (codes "unhashable key: 'class'")) ∷ [])) (bare ((tuple ((class 24) ∷ [])) ∷ []) 8 0)
unfolding class_names
keyed_40 = refl

keyed_41 : key_of_value (node 0) (bare ((tuple ((range (pos 0) (pos 1) (pos 1)) ∷ [])) ∷ []) 9 0) ≡ raised (fresh 23 ((text (codes "unhashable key: 'range'")) ∷ [])) (bare ((tuple ((range (pos 0) (pos 1) (pos 1)) ∷ [])) ∷ []) 8 0)
unfolding class_names
keyed_41 = refl

keyed_42 : key_of_value (node 0) (bare ((exception 8 []) ∷ []) 9 0) ≡ raised (fresh 23 ((text (codes "unhashable key: 'Exception'")) ∷ [])) (bare ((exception 8 []) ∷ []) 9 0)
unfolding class_names
keyed_42 = refl

keyed_43 : key_of_value (builtin 6) (bare [] 9 0) ≡ raised (fresh 23 ((text (codes "unhashable key: 'builtin'")) ∷ [])) (bare [] 9 0)
unfolding class_names
keyed_43 = refl

keyed_44 : key_of_value (class 2) (bare [] 9 0) ≡ raised (fresh 23 ((text (codes "unhashable key: 'class'")) ∷ [])) (bare [] 9 0)
unfolding class_names
keyed_44 = refl

keyed_45 : key_of_value (node 0) (bare ((object (((codes "a"), (integer (pos 1))) ∷ [])) ∷ []) 9 0) ≡ raised (fresh 23 ((text (codes "unhashable key: 'SimpleNamespace'")) ∷ [])) (bare ((object (((codes "a"), (integer (pos 1))) ∷ [])) ∷ []) 9 0)
unfolding class_names
keyed_45 = refl

keyed_46 : key_of_value (node 0) (bare ((function One (codes "def f(): pass") []) ∷ []) 9 0) ≡ raised (fresh 23 ((text (codes "unhashable key: 'function'")) ∷ [])) (bare ((function One (codes "def f(): pass") []) ∷ []) 9 0)
unfolding class_names
keyed_46 = refl

keyed_47 : key_of_value (node 0) (bare ((tuple ((integer (pos 1)) ∷ (node 1) ∷ [])) ∷ (list []) ∷ []) 0 0) ≡ stopped (bare ((tuple ((integer (pos 1)) ∷ (node 1) ∷ [])) ∷ (list []) ∷ []) 0 0)
unfolding class_names
keyed_47 = refl

keyed_48 : key_of_value (node 0) (bare ((tuple ((integer (pos 1)) ∷ (node 1) ∷ [])) ∷ (list []) ∷ []) 1 0) ≡ stopped (bare ((tuple ((integer (pos 1)) ∷ (node 1) ∷ [])) ∷ (list []) ∷ []) 0 0)
unfolding class_names
keyed_48 = refl

keyed_49 : key_of_value (node 0) (bare ((tuple ((integer (pos 1)) ∷ (node 1) ∷ [])) ∷ (list []) ∷ []) 2 0) ≡ raised (fresh 23 ((text (codes "unhashable key: 'list'")) ∷ [])) (bare ((tuple ((integer (pos 1)) ∷ (node 1) ∷ [])) ∷ (list []) ∷ []) 0 0)
unfolding class_names
keyed_49 = refl

-- Which values, nodes and names are sound: computed on the definition. Made by tools/rows/state_rows.py.
use Rattle.std.proofs.Common.{◌≡◌, refl, [], ◌∷◌, true, false, replicate}
use Rattle.std.specs.Prelude.{pos, negsuc, codes, Some, None}
use Rattle.kishu_meaning.specs.values.Keys as p
use Rattle.kishu_language.specs.declared.profile.Profile.TheVariants.{One}
use Rattle.kishu_meaning.specs.values.Values.{none, bool, integer, text, range, builtin, class, node, list, tuple, dict, object, function, exception}
use Rattle.kishu_language.specs.tokens.Names.{reserved_words}
use Rattle.kishu_language.specs.trees.Tree as t
use Rattle.kishu_meaning.specs.values.Sound.{is_valid, is_sound, is_exception_class, is_sound_node, is_sound_heap, are_sound_names, default_count}

sound_1 : is_valid none ≡ true
unfolding reserved_words
sound_1 = refl

sound_2 : is_valid (bool true) ≡ true
unfolding reserved_words
sound_2 = refl

sound_3 : is_valid (integer (pos 0)) ≡ true
unfolding reserved_words
sound_3 = refl

sound_4 : is_valid (integer (negsuc 170141183460469231731687303715884105727)) ≡ true
unfolding reserved_words
sound_4 = refl

sound_5 : is_valid (text []) ≡ true
unfolding reserved_words
sound_5 = refl

sound_6 : is_valid (text (codes "a")) ≡ true
unfolding reserved_words
sound_6 = refl

sound_7 : is_valid (range (pos 0) (pos 3) (pos 1)) ≡ true
unfolding reserved_words
sound_7 = refl

sound_8 : is_valid (range (pos 0) (pos 5) (negsuc 1)) ≡ true
unfolding reserved_words
sound_8 = refl

sound_9 : is_valid (builtin 10) ≡ true
unfolding reserved_words
sound_9 = refl

sound_10 : is_valid (class 3) ≡ true
unfolding reserved_words
sound_10 = refl

sound_11 : is_valid (class 24) ≡ true
unfolding reserved_words
sound_11 = refl

sound_12 : is_valid (range (pos 0) (pos 5) (pos 0)) ≡ false
unfolding reserved_words
sound_12 = refl

sound_13 : is_valid (builtin 14) ≡ false
unfolding reserved_words
sound_13 = refl

sound_14 : is_valid (builtin 100) ≡ false
unfolding reserved_words
sound_14 = refl

sound_15 : is_valid (class 25) ≡ false
unfolding reserved_words
sound_15 = refl

sound_16 : is_valid (class 1000) ≡ false
unfolding reserved_words
sound_16 = refl

sound_17 : is_valid (builtin 0) ≡ true
unfolding reserved_words
sound_17 = refl

sound_18 : is_valid (builtin 13) ≡ true
unfolding reserved_words
sound_18 = refl

sound_19 : is_valid (class 0) ≡ true
unfolding reserved_words
sound_19 = refl

sound_20 : is_valid (class 24) ≡ true
unfolding reserved_words
sound_20 = refl

sound_21 : is_valid (node 7) ≡ true
unfolding reserved_words
sound_21 = refl

sound_22 : is_sound 1 (node 0) ≡ true
unfolding reserved_words
sound_22 = refl

sound_23 : is_sound 0 (node 0) ≡ false
unfolding reserved_words
sound_23 = refl

sound_24 : is_sound 3 (node 2) ≡ true
unfolding reserved_words
sound_24 = refl

sound_25 : is_sound 3 (node 3) ≡ false
unfolding reserved_words
sound_25 = refl

sound_26 : is_sound 0 none ≡ true
unfolding reserved_words
sound_26 = refl

sound_27 : is_sound 0 (class 24) ≡ true
unfolding reserved_words
sound_27 = refl

sound_28 : is_sound 5 (class 25) ≡ false
unfolding reserved_words
sound_28 = refl

sound_29 : is_sound 5 (range (pos 1) (pos 1) (pos 0)) ≡ false
unfolding reserved_words
sound_29 = refl

sound_30 : is_exception_class 0 ≡ false
unfolding reserved_words
sound_30 = refl

sound_31 : is_exception_class 5 ≡ false
unfolding reserved_words
sound_31 = refl

sound_32 : is_exception_class 7 ≡ false
unfolding reserved_words
sound_32 = refl

sound_33 : is_exception_class 8 ≡ true
unfolding reserved_words
sound_33 = refl

sound_34 : is_exception_class 9 ≡ true
unfolding reserved_words
sound_34 = refl

sound_35 : is_exception_class 16 ≡ true
unfolding reserved_words
sound_35 = refl

sound_36 : is_exception_class 23 ≡ true
unfolding reserved_words
sound_36 = refl

sound_37 : is_exception_class 24 ≡ true
unfolding reserved_words
sound_37 = refl

sound_38 : is_exception_class 25 ≡ false
unfolding reserved_words
sound_38 = refl

sound_39 : is_sound_node 0 (list []) ≡ true
unfolding reserved_words
sound_39 = refl

sound_40 : is_sound_node 1 (list (node 0 ∷ [])) ≡ true
unfolding reserved_words
sound_40 = refl

sound_41 : is_sound_node 1 (list (node 0 ∷ node 1 ∷ [])) ≡ false
unfolding reserved_words
sound_41 = refl

sound_42 : is_sound_node 4 (tuple (none ∷ builtin 14 ∷ [])) ≡ false
unfolding reserved_words
sound_42 = refl

sound_43 : is_sound_node 4 (tuple (node 3 ∷ [])) ≡ true
unfolding reserved_words
sound_43 = refl

sound_44 : is_sound_node 1 (dict ((p.single p.none, node 0) ∷ [])) ≡ true
unfolding reserved_words
sound_44 = refl

sound_45 : is_sound_node 1 (dict ((p.single p.none, node 1) ∷ [])) ≡ false
unfolding reserved_words
sound_45 = refl

sound_46 : is_sound_node 1 (object ((codes "a", node 0) ∷ [])) ≡ true
unfolding reserved_words
sound_46 = refl

sound_47 : is_sound_node 1 (object ((codes "if", none) ∷ [])) ≡ false
unfolding reserved_words
sound_47 = refl

sound_48 : is_sound_node 1 (object ((codes "1a", none) ∷ [])) ≡ false
unfolding reserved_words
sound_48 = refl

sound_49 : is_sound_node 1 (object (([], none) ∷ [])) ≡ false
unfolding reserved_words
sound_49 = refl

sound_50 : is_sound_node 1 (object ((codes "a", node 1) ∷ [])) ≡ false
unfolding reserved_words
sound_50 = refl

sound_51 : is_sound_node 0 (object ((replicate 255 97, none) ∷ [])) ≡ true
unfolding reserved_words
sound_51 = refl

sound_52 : is_sound_node 0 (object ((replicate 256 97, none) ∷ [])) ≡ false
unfolding reserved_words
sound_52 = refl

sound_53 : is_sound_node 0 (function One (codes "def f(a=1): pass") (integer (pos 1) ∷ [])) ≡ true
unfolding reserved_words
sound_53 = refl

sound_54 : is_sound_node 0 (function One [] (node 0 ∷ [])) ≡ false
unfolding reserved_words
sound_54 = refl

sound_55 : is_sound_node 0 (exception 24 (text [] ∷ [])) ≡ true
unfolding reserved_words
sound_55 = refl

sound_56 : is_sound_node 0 (exception 7 []) ≡ false
unfolding reserved_words
sound_56 = refl

sound_57 : is_sound_node 0 (exception 25 []) ≡ false
unfolding reserved_words
sound_57 = refl

sound_58 : is_sound_node 0 (exception 8 []) ≡ true
unfolding reserved_words
sound_58 = refl

sound_59 : is_sound_node 2 (exception 16 (node 2 ∷ [])) ≡ false
unfolding reserved_words
sound_59 = refl

sound_60 : is_sound_heap [] ≡ true
unfolding reserved_words
sound_60 = refl

sound_61 : is_sound_heap (list (node 0 ∷ []) ∷ []) ≡ true
unfolding reserved_words
sound_61 = refl

sound_62 : is_sound_heap (list (node 1 ∷ []) ∷ []) ≡ false
unfolding reserved_words
sound_62 = refl

sound_63 : is_sound_heap (list (node 1 ∷ []) ∷ tuple (node 0 ∷ []) ∷ []) ≡ true
unfolding reserved_words
sound_63 = refl

sound_64 : is_sound_heap (list [] ∷ tuple (node 2 ∷ []) ∷ []) ≡ false
unfolding reserved_words
sound_64 = refl

sound_65 : is_sound_heap (exception 3 [] ∷ []) ≡ false
unfolding reserved_words
sound_65 = refl

sound_66 : are_sound_names 0 [] ≡ true
unfolding reserved_words
sound_66 = refl

sound_67 : are_sound_names 0 ((codes "a", none) ∷ []) ≡ true
unfolding reserved_words
sound_67 = refl

sound_68 : are_sound_names 0 ((codes "a", node 0) ∷ []) ≡ false
unfolding reserved_words
sound_68 = refl

sound_69 : are_sound_names 1 ((codes "a", node 0) ∷ []) ≡ true
unfolding reserved_words
sound_69 = refl

sound_70 : are_sound_names 1 ((codes "def", none) ∷ []) ≡ false
unfolding reserved_words
sound_70 = refl

sound_71 : are_sound_names 1 ((codes "a", none) ∷ (codes "b c", none) ∷ []) ≡ false
unfolding reserved_words
sound_71 = refl

sound_72 : are_sound_names 0 ((codes "print", none) ∷ []) ≡ true
unfolding reserved_words
sound_72 = refl

sound_73 : default_count (record { title = codes "f"; parameters = []; body = t.no_statements }) ≡ 0
unfolding reserved_words
sound_73 = refl

sound_74 : default_count (record { title = codes "f"; parameters = ((codes "a", None) ∷ []); body = t.no_statements }) ≡ 0
unfolding reserved_words
sound_74 = refl

sound_75 : default_count (record { title = codes "f"; parameters = ((codes "a", Some t.none) ∷ []); body = t.no_statements }) ≡ 1
unfolding reserved_words
sound_75 = refl

sound_76 : default_count (record { title = codes "f"; parameters = ((codes "a", None) ∷ (codes "b", Some t.none) ∷ (codes "c", Some t.none) ∷ []); body = t.no_statements }) ≡ 2
unfolding reserved_words
sound_76 = refl

sound_77 : default_count (record { title = codes "f"; parameters = ((codes "a", None) ∷ (codes "b", None) ∷ []); body = t.no_statements }) ≡ 0
unfolding reserved_words
sound_77 = refl

-- What paths reach, and the children of nodes: computed on the definitions. Made by tools/rows/object_rows.py.
use Rattle.std.specs.Prelude.{◌≡◌, pos, negsuc, true, [], ◌∷◌, codes, Some, None, refl}
use Rattle.kishu_language.specs.declared.profile.Profile.TheVariants.{One}
use Rattle.kishu_meaning.specs.values.Keys as k
use Rattle.kishu_meaning.specs.values.Values.{none, bool, integer, text, range, node, list, tuple, dict, object, function, exception}
use Rattle.kishu_objects.specs.Shape.{children, node_at, child, reached}
use Rattle.kishu_object_rows.proofs.States.{unbound, plain, shared, apart, itself, round, linked, parted, default, defaults, keyed, raised, object_round, wide, diamond, inside, equal, long_chain, twice, twice_there, thrice, once_each}

-- ---- the last step of a path stands first

reached_1 : reached unbound (codes "zz") [] ≡ None
reached_1 = refl

reached_2 : reached plain (codes "Z") [] ≡ Some (integer (pos 1))
reached_2 = refl

reached_3 : reached plain (codes "_") [] ≡ Some none
reached_3 = refl

reached_4 : reached plain (codes "a") [] ≡ Some (bool true)
reached_4 = refl

reached_5 : reached plain (codes "a1") [] ≡ Some (text (233 ∷ []))
reached_5 = refl

reached_6 : reached plain (codes "aa") [] ≡ Some (range (pos 0) (pos 3) (negsuc 0))
reached_6 = refl

reached_7 : reached shared (codes "a") [] ≡ Some (node 1)
reached_7 = refl

reached_8 : reached shared (codes "a") (0 ∷ []) ≡ Some (integer (pos 1))
reached_8 = refl

reached_9 : reached shared (codes "a") (1 ∷ []) ≡ None
reached_9 = refl

reached_10 : reached shared (codes "b") [] ≡ Some (node 1)
reached_10 = refl

reached_11 : reached shared (codes "b") (0 ∷ []) ≡ Some (integer (pos 1))
reached_11 = refl

reached_12 : reached apart (codes "a") [] ≡ Some (node 0)
reached_12 = refl

reached_13 : reached apart (codes "a") (0 ∷ []) ≡ Some (integer (pos 1))
reached_13 = refl

reached_14 : reached apart (codes "a") (1 ∷ []) ≡ None
reached_14 = refl

reached_15 : reached apart (codes "b") [] ≡ Some (node 1)
reached_15 = refl

reached_16 : reached apart (codes "b") (0 ∷ []) ≡ Some (integer (pos 1))
reached_16 = refl

reached_17 : reached itself (codes "a") [] ≡ Some (node 0)
reached_17 = refl

reached_18 : reached itself (codes "a") (0 ∷ []) ≡ Some (node 0)
reached_18 = refl

reached_19 : reached itself (codes "a") (1 ∷ []) ≡ None
reached_19 = refl

reached_20 : reached itself (codes "a") (0 ∷ 0 ∷ []) ≡ Some (node 0)
reached_20 = refl

reached_21 : reached itself (codes "a") (1 ∷ 0 ∷ []) ≡ None
reached_21 = refl

reached_22 : reached round (codes "a") [] ≡ Some (node 1)
reached_22 = refl

reached_23 : reached round (codes "a") (0 ∷ 0 ∷ []) ≡ Some (node 1)
reached_23 = refl

reached_24 : reached round (codes "a") (1 ∷ 0 ∷ 0 ∷ []) ≡ None
reached_24 = refl

reached_25 : reached round (codes "b") (1 ∷ []) ≡ None
reached_25 = refl

reached_26 : reached round (codes "b") (0 ∷ 0 ∷ 0 ∷ []) ≡ Some (node 1)
reached_26 = refl

reached_27 : reached linked (codes "x") [] ≡ Some (node 2)
reached_27 = refl

reached_28 : reached linked (codes "y") [] ≡ Some (node 1)
reached_28 = refl

reached_29 : reached linked (codes "y") (2 ∷ []) ≡ None
reached_29 = refl

reached_30 : reached linked (codes "y") (0 ∷ 1 ∷ []) ≡ Some (integer (pos 2))
reached_30 = refl

reached_31 : reached linked (codes "z") (0 ∷ []) ≡ Some (integer (pos 2))
reached_31 = refl

reached_32 : reached parted (codes "x") [] ≡ Some (node 1)
reached_32 = refl

reached_33 : reached parted (codes "x") (0 ∷ []) ≡ Some (integer (pos 1))
reached_33 = refl

reached_34 : reached parted (codes "x") (1 ∷ []) ≡ None
reached_34 = refl

reached_35 : reached parted (codes "y") [] ≡ Some (integer (pos 0))
reached_35 = refl

reached_36 : reached parted (codes "z") [] ≡ Some (node 2)
reached_36 = refl

reached_37 : reached default (codes "g") [] ≡ Some (node 0)
reached_37 = refl

reached_38 : reached default (codes "g") (1 ∷ []) ≡ None
reached_38 = refl

reached_39 : reached default (codes "g") (1 ∷ 0 ∷ []) ≡ None
reached_39 = refl

reached_40 : reached default (codes "p") (0 ∷ []) ≡ Some (integer (pos 7))
reached_40 = refl

reached_41 : reached default (codes "q") [] ≡ Some (node 2)
reached_41 = refl

reached_42 : reached defaults (codes "f") [] ≡ Some (node 2)
reached_42 = refl

reached_43 : reached defaults (codes "f") (1 ∷ []) ≡ Some (node 1)
reached_43 = refl

reached_44 : reached defaults (codes "f") (0 ∷ 1 ∷ []) ≡ None
reached_44 = refl

reached_45 : reached defaults (codes "g") (0 ∷ []) ≡ Some (node 1)
reached_45 = refl

reached_46 : reached defaults (codes "g") (0 ∷ 0 ∷ []) ≡ None
reached_46 = refl

reached_47 : reached keyed (codes "d") [] ≡ Some (node 0)
reached_47 = refl

reached_48 : reached keyed (codes "d") (2 ∷ []) ≡ Some (node 1)
reached_48 = refl

reached_49 : reached keyed (codes "d") (0 ∷ 1 ∷ []) ≡ None
reached_49 = refl

reached_50 : reached keyed (codes "e") (0 ∷ []) ≡ None
reached_50 = refl

reached_51 : reached keyed (codes "t") (1 ∷ []) ≡ Some (text (233 ∷ []))
reached_51 = refl

reached_52 : reached raised (codes "e") [] ≡ Some (node 0)
reached_52 = refl

reached_53 : reached raised (codes "e") (1 ∷ []) ≡ None
reached_53 = refl

reached_54 : reached raised (codes "x") (0 ∷ []) ≡ Some (node 0)
reached_54 = refl

reached_55 : reached raised (codes "x") (2 ∷ []) ≡ None
reached_55 = refl

reached_56 : reached raised (codes "x") (1 ∷ 0 ∷ []) ≡ None
reached_56 = refl

reached_57 : reached object_round (codes "o") [] ≡ Some (node 1)
reached_57 = refl

reached_58 : reached object_round (codes "o") (2 ∷ []) ≡ None
reached_58 = refl

reached_59 : reached object_round (codes "o") (0 ∷ 1 ∷ []) ≡ Some (node 0)
reached_59 = refl

reached_60 : reached object_round (codes "o") (0 ∷ 0 ∷ 0 ∷ []) ≡ Some (node 0)
reached_60 = refl

reached_61 : reached object_round (codes "o") (0 ∷ 0 ∷ 1 ∷ []) ≡ Some (node 1)
reached_61 = refl

reached_62 : reached wide (codes "a") [] ≡ Some (node 6)
reached_62 = refl

reached_63 : reached wide (codes "a") (3 ∷ []) ≡ None
reached_63 = refl

reached_64 : reached wide (codes "a") (1 ∷ 1 ∷ []) ≡ None
reached_64 = refl

reached_65 : reached wide (codes "a") (1 ∷ 0 ∷ 0 ∷ []) ≡ None
reached_65 = refl

reached_66 : reached wide (codes "b") (0 ∷ 0 ∷ []) ≡ Some (node 3)
reached_66 = refl

reached_67 : reached diamond (codes "t") [] ≡ Some (node 0)
reached_67 = refl

reached_68 : reached diamond (codes "t") (2 ∷ []) ≡ Some (node 2)
reached_68 = refl

reached_69 : reached diamond (codes "t") (0 ∷ 0 ∷ []) ≡ Some (node 2)
reached_69 = refl

reached_70 : reached diamond (codes "t") (1 ∷ 1 ∷ []) ≡ None
reached_70 = refl

reached_71 : reached diamond (codes "t") (0 ∷ 0 ∷ 0 ∷ []) ≡ None
reached_71 = refl

reached_72 : reached inside (codes "a") [] ≡ Some (node 1)
reached_72 = refl

reached_73 : reached inside (codes "a") (0 ∷ 0 ∷ []) ≡ Some (node 3)
reached_73 = refl

reached_74 : reached inside (codes "a") (0 ∷ 0 ∷ 0 ∷ []) ≡ Some (node 4)
reached_74 = refl

reached_75 : reached inside (codes "b") [] ≡ Some (node 3)
reached_75 = refl

reached_76 : reached inside (codes "b") (1 ∷ 0 ∷ []) ≡ None
reached_76 = refl

reached_77 : reached equal (codes "a") [] ≡ Some (node 0)
reached_77 = refl

reached_78 : reached equal (codes "a") (2 ∷ []) ≡ None
reached_78 = refl

reached_79 : reached equal (codes "b") (1 ∷ []) ≡ Some (integer (pos 2))
reached_79 = refl

reached_80 : reached equal (codes "c") (0 ∷ []) ≡ Some (node 3)
reached_80 = refl

reached_81 : reached equal (codes "c") (1 ∷ 0 ∷ []) ≡ Some (integer (pos 2))
reached_81 = refl

reached_82 : reached long_chain (codes "n0") [] ≡ Some (node 10)
reached_82 = refl

reached_83 : reached long_chain (codes "n1") [] ≡ Some (node 7)
reached_83 = refl

reached_84 : reached long_chain (codes "n2") [] ≡ Some (node 5)
reached_84 = refl

reached_85 : reached long_chain (codes "n3") [] ≡ Some (node 3)
reached_85 = refl

reached_86 : reached long_chain (codes "n4") [] ≡ Some (node 1)
reached_86 = refl

reached_87 : reached twice (codes "a") [] ≡ Some (node 0)
reached_87 = refl

reached_88 : reached twice (codes "a") (1 ∷ []) ≡ Some (node 1)
reached_88 = refl

reached_89 : reached twice (codes "a") (3 ∷ []) ≡ None
reached_89 = refl

reached_90 : reached twice (codes "a") (1 ∷ 0 ∷ []) ≡ None
reached_90 = refl

reached_91 : reached twice (codes "a") (1 ∷ 1 ∷ []) ≡ None
reached_91 = refl

reached_92 : reached twice_there (codes "a") [] ≡ Some (node 3)
reached_92 = refl

reached_93 : reached twice_there (codes "a") (1 ∷ []) ≡ Some (node 1)
reached_93 = refl

reached_94 : reached twice_there (codes "a") (3 ∷ []) ≡ None
reached_94 = refl

reached_95 : reached twice_there (codes "a") (1 ∷ 0 ∷ []) ≡ None
reached_95 = refl

reached_96 : reached twice_there (codes "a") (1 ∷ 1 ∷ []) ≡ None
reached_96 = refl

reached_97 : reached thrice (codes "a") [] ≡ Some (node 0)
reached_97 = refl

reached_98 : reached thrice (codes "a") (1 ∷ []) ≡ Some (node 1)
reached_98 = refl

reached_99 : reached thrice (codes "a") (3 ∷ []) ≡ None
reached_99 = refl

reached_100 : reached thrice (codes "a") (1 ∷ 0 ∷ []) ≡ None
reached_100 = refl

reached_101 : reached thrice (codes "a") (1 ∷ 1 ∷ []) ≡ None
reached_101 = refl

reached_102 : reached once_each (codes "a") [] ≡ Some (node 0)
reached_102 = refl

reached_103 : reached once_each (codes "a") (1 ∷ []) ≡ Some (node 2)
reached_103 = refl

reached_104 : reached once_each (codes "a") (3 ∷ []) ≡ None
reached_104 = refl

reached_105 : reached once_each (codes "a") (1 ∷ 0 ∷ []) ≡ None
reached_105 = refl

reached_106 : reached once_each (codes "a") (1 ∷ 1 ∷ []) ≡ None
reached_106 = refl

-- ---- children, by the kind of the node

children_1 : children (list []) ≡ []
children_1 = refl

children_2 : children (list ((integer (pos 1)) ∷ none ∷ [])) ≡ (integer (pos 1)) ∷ none ∷ []
children_2 = refl

children_3 : children (tuple ((text (codes "a")) ∷ (bool true) ∷ [])) ≡ (text (codes "a")) ∷ (bool true) ∷ []
children_3 = refl

children_4 : children (dict (((k.tuple ((k.integer (pos 1)) ∷ (k.integer (pos 2)) ∷ [])), (integer (pos 3))) ∷ ((k.single (k.text (codes "k"))), none) ∷ [])) ≡ (integer (pos 3)) ∷ none ∷ []
children_4 = refl

children_5 : children (dict []) ≡ []
children_5 = refl

children_6 : children (object (((codes "b"), (integer (pos 1))) ∷ ((codes "a"), (integer (pos 2))) ∷ [])) ≡ (integer (pos 1)) ∷ (integer (pos 2)) ∷ []
children_6 = refl

children_7 : children (function One (codes "def f(a=1, b=2): pass") ((integer (pos 1)) ∷ (integer (pos 2)) ∷ [])) ≡ (integer (pos 1)) ∷ (integer (pos 2)) ∷ []
children_7 = refl

children_8 : children (function One (codes "def f(): pass") []) ≡ []
children_8 = refl

children_9 : children (exception 16 ((text (codes "k")) ∷ [])) ≡ (text (codes "k")) ∷ []
children_9 = refl

children_10 : children (exception 8 []) ≡ []
children_10 = refl

-- ---- a node that isn't there is an empty list, and has no child

no_node_1 : node_at ((tuple (none ∷ [])) ∷ []) 0 ≡ tuple (none ∷ [])
no_node_1 = refl

no_node_2 : node_at ((tuple (none ∷ [])) ∷ []) 1 ≡ list []
no_node_2 = refl

no_node_3 : child ((tuple (none ∷ [])) ∷ []) 0 (node 0) ≡ Some none
no_node_3 = refl

no_node_4 : child ((tuple (none ∷ [])) ∷ []) 1 (node 0) ≡ None
no_node_4 = refl

no_node_5 : child ((tuple (none ∷ [])) ∷ []) 0 (node 1) ≡ None
no_node_5 = refl

no_node_6 : child ((tuple (none ∷ [])) ∷ []) 0 (text (codes "a")) ≡ None
no_node_6 = refl

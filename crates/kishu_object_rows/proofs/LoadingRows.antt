-- What a picture leaves that is loaded into a state, and which states stand in the order of first meeting: computed on the definitions. Made by tools/rows/object_rows.py.
use Rattle.std.specs.Prelude.{◌≡◌, pos, negsuc, true, [], ◌∷◌, codes, Some, None, refl}
use Rattle.kishu_meaning.specs.values.Keys as k
use Rattle.kishu_meaning.specs.values.Values.{none, bool, integer, text, range, builtin, class, node, list, tuple, dict, object, exception}
use Rattle.kishu_objects.specs.Loading.{with_picture}
use Rattle.kishu_objects.specs.Picture.{picture}
use Rattle.kishu_objects.specs.Reading.{IsInOrder, counted}
use Rattle.kishu_object_rows.proofs.States.{unbound, plain, shared, apart, itself, round, linked, parted, default, defaults, keyed, raised, object_round, wide, diamond, inside, equal, long_chain, twice, twice_there, thrice, once_each}

-- ---- new nodes stand behind those that are there, and names are bound anew

loaded_1 : with_picture plain (picture unbound []) ≡ record { names = (((codes "Z"), (integer (pos 1))) ∷ ((codes "_"), none) ∷ ((codes "a"), (bool true)) ∷ ((codes "a1"), (text (233 ∷ []))) ∷ ((codes "aa"), (range (pos 0) (pos 3) (negsuc 0))) ∷ ((codes "b"), (builtin 10)) ∷ ((codes "c"), (class 1)) ∷ []); nodes = [] }
loaded_1 = refl

loaded_2 : with_picture itself (picture unbound []) ≡ record { names = (((codes "a"), (node 0)) ∷ []); nodes = ((list ((node 0) ∷ [])) ∷ []) }
loaded_2 = refl

loaded_3 : with_picture raised (picture unbound []) ≡ record { names = (((codes "e"), (node 0)) ∷ ((codes "x"), (node 1)) ∷ ((codes "y"), (node 2)) ∷ []); nodes = ((list ((text (codes "no")) ∷ [])) ∷ (exception 24 ((node 0) ∷ (integer (pos 1)) ∷ [])) ∷ (exception 16 ((text (codes "no")) ∷ [])) ∷ []) }
loaded_3 = refl

loaded_4 : with_picture unbound (picture shared ((codes "a") ∷ (codes "b") ∷ [])) ≡ record { names = (((codes "a"), (node 1)) ∷ ((codes "b"), (node 1)) ∷ []); nodes = ((list []) ∷ (list ((integer (pos 1)) ∷ [])) ∷ []) }
loaded_4 = refl

loaded_5 : with_picture linked (picture shared ((codes "a") ∷ (codes "b") ∷ [])) ≡ record { names = (((codes "a"), (node 3)) ∷ ((codes "b"), (node 3)) ∷ ((codes "x"), (node 2)) ∷ ((codes "y"), (node 1)) ∷ ((codes "z"), (node 0)) ∷ []); nodes = ((list ((integer (pos 2)) ∷ [])) ∷ (list ((node 2) ∷ (node 0) ∷ [])) ∷ (list ((integer (pos 1)) ∷ [])) ∷ (list ((integer (pos 1)) ∷ [])) ∷ []) }
loaded_5 = refl

loaded_6 : with_picture plain (picture apart ((codes "a") ∷ (codes "b") ∷ [])) ≡ record { names = (((codes "Z"), (integer (pos 1))) ∷ ((codes "_"), none) ∷ ((codes "a"), (node 0)) ∷ ((codes "a1"), (text (233 ∷ []))) ∷ ((codes "aa"), (range (pos 0) (pos 3) (negsuc 0))) ∷ ((codes "b"), (node 1)) ∷ ((codes "c"), (class 1)) ∷ []); nodes = ((list ((integer (pos 1)) ∷ [])) ∷ (list ((integer (pos 1)) ∷ [])) ∷ []) }
loaded_6 = refl

loaded_7 : with_picture itself (picture apart ((codes "a") ∷ (codes "b") ∷ [])) ≡ record { names = (((codes "a"), (node 1)) ∷ ((codes "b"), (node 2)) ∷ []); nodes = ((list ((node 0) ∷ [])) ∷ (list ((integer (pos 1)) ∷ [])) ∷ (list ((integer (pos 1)) ∷ [])) ∷ []) }
loaded_7 = refl

loaded_8 : with_picture raised (picture apart ((codes "a") ∷ (codes "b") ∷ [])) ≡ record { names = (((codes "a"), (node 3)) ∷ ((codes "b"), (node 4)) ∷ ((codes "e"), (node 0)) ∷ ((codes "x"), (node 1)) ∷ ((codes "y"), (node 2)) ∷ []); nodes = ((list ((text (codes "no")) ∷ [])) ∷ (exception 24 ((node 0) ∷ (integer (pos 1)) ∷ [])) ∷ (exception 16 ((text (codes "no")) ∷ [])) ∷ (list ((integer (pos 1)) ∷ [])) ∷ (list ((integer (pos 1)) ∷ [])) ∷ []) }
loaded_8 = refl

loaded_9 : with_picture unbound (picture itself ((codes "a") ∷ [])) ≡ record { names = (((codes "a"), (node 1)) ∷ []); nodes = ((list []) ∷ (list ((node 1) ∷ [])) ∷ []) }
loaded_9 = refl

loaded_10 : with_picture shared (picture itself ((codes "a") ∷ [])) ≡ record { names = (((codes "a"), (node 2)) ∷ ((codes "b"), (node 1)) ∷ []); nodes = ((list []) ∷ (list ((integer (pos 1)) ∷ [])) ∷ (list ((node 2) ∷ [])) ∷ []) }
loaded_10 = refl

loaded_11 : with_picture linked (picture itself ((codes "a") ∷ [])) ≡ record { names = (((codes "a"), (node 3)) ∷ ((codes "x"), (node 2)) ∷ ((codes "y"), (node 1)) ∷ ((codes "z"), (node 0)) ∷ []); nodes = ((list ((integer (pos 2)) ∷ [])) ∷ (list ((node 2) ∷ (node 0) ∷ [])) ∷ (list ((integer (pos 1)) ∷ [])) ∷ (list ((node 3) ∷ [])) ∷ []) }
loaded_11 = refl

loaded_12 : with_picture plain (picture round ((codes "a") ∷ (codes "b") ∷ [])) ≡ record { names = (((codes "Z"), (integer (pos 1))) ∷ ((codes "_"), none) ∷ ((codes "a"), (node 0)) ∷ ((codes "a1"), (text (233 ∷ []))) ∷ ((codes "aa"), (range (pos 0) (pos 3) (negsuc 0))) ∷ ((codes "b"), (node 1)) ∷ ((codes "c"), (class 1)) ∷ []); nodes = ((list ((node 1) ∷ [])) ∷ (list ((node 0) ∷ [])) ∷ []) }
loaded_12 = refl

loaded_13 : with_picture itself (picture round ((codes "a") ∷ (codes "b") ∷ [])) ≡ record { names = (((codes "a"), (node 1)) ∷ ((codes "b"), (node 2)) ∷ []); nodes = ((list ((node 0) ∷ [])) ∷ (list ((node 2) ∷ [])) ∷ (list ((node 1) ∷ [])) ∷ []) }
loaded_13 = refl

loaded_14 : with_picture raised (picture round ((codes "a") ∷ (codes "b") ∷ [])) ≡ record { names = (((codes "a"), (node 3)) ∷ ((codes "b"), (node 4)) ∷ ((codes "e"), (node 0)) ∷ ((codes "x"), (node 1)) ∷ ((codes "y"), (node 2)) ∷ []); nodes = ((list ((text (codes "no")) ∷ [])) ∷ (exception 24 ((node 0) ∷ (integer (pos 1)) ∷ [])) ∷ (exception 16 ((text (codes "no")) ∷ [])) ∷ (list ((node 4) ∷ [])) ∷ (list ((node 3) ∷ [])) ∷ []) }
loaded_14 = refl

loaded_15 : with_picture unbound (picture linked ((codes "x") ∷ (codes "y") ∷ (codes "z") ∷ [])) ≡ record { names = (((codes "x"), (node 1)) ∷ ((codes "y"), (node 2)) ∷ ((codes "z"), (node 3)) ∷ []); nodes = ((list []) ∷ (list ((integer (pos 1)) ∷ [])) ∷ (list ((node 1) ∷ (node 3) ∷ [])) ∷ (list ((integer (pos 2)) ∷ [])) ∷ []) }
loaded_15 = refl

loaded_16 : with_picture shared (picture linked ((codes "x") ∷ (codes "y") ∷ (codes "z") ∷ [])) ≡ record { names = (((codes "a"), (node 1)) ∷ ((codes "b"), (node 1)) ∷ ((codes "x"), (node 2)) ∷ ((codes "y"), (node 3)) ∷ ((codes "z"), (node 4)) ∷ []); nodes = ((list []) ∷ (list ((integer (pos 1)) ∷ [])) ∷ (list ((integer (pos 1)) ∷ [])) ∷ (list ((node 2) ∷ (node 4) ∷ [])) ∷ (list ((integer (pos 2)) ∷ [])) ∷ []) }
loaded_16 = refl

loaded_17 : with_picture unbound (picture parted ((codes "x") ∷ (codes "y") ∷ (codes "z") ∷ [])) ≡ record { names = (((codes "x"), (node 1)) ∷ ((codes "y"), (integer (pos 0))) ∷ ((codes "z"), (node 2)) ∷ []); nodes = ((list []) ∷ (list ((integer (pos 1)) ∷ [])) ∷ (list ((integer (pos 2)) ∷ [])) ∷ []) }
loaded_17 = refl

loaded_18 : with_picture shared (picture parted ((codes "x") ∷ (codes "y") ∷ (codes "z") ∷ [])) ≡ record { names = (((codes "a"), (node 1)) ∷ ((codes "b"), (node 1)) ∷ ((codes "x"), (node 2)) ∷ ((codes "y"), (integer (pos 0))) ∷ ((codes "z"), (node 3)) ∷ []); nodes = ((list []) ∷ (list ((integer (pos 1)) ∷ [])) ∷ (list ((integer (pos 1)) ∷ [])) ∷ (list ((integer (pos 2)) ∷ [])) ∷ []) }
loaded_18 = refl

loaded_19 : with_picture linked (picture parted ((codes "x") ∷ (codes "y") ∷ (codes "z") ∷ [])) ≡ record { names = (((codes "x"), (node 3)) ∷ ((codes "y"), (integer (pos 0))) ∷ ((codes "z"), (node 4)) ∷ []); nodes = ((list ((integer (pos 2)) ∷ [])) ∷ (list ((node 2) ∷ (node 0) ∷ [])) ∷ (list ((integer (pos 1)) ∷ [])) ∷ (list ((integer (pos 1)) ∷ [])) ∷ (list ((integer (pos 2)) ∷ [])) ∷ []) }
loaded_19 = refl

loaded_20 : with_picture plain (picture keyed ((codes "d") ∷ (codes "e") ∷ (codes "t") ∷ [])) ≡ record { names = (((codes "Z"), (integer (pos 1))) ∷ ((codes "_"), none) ∷ ((codes "a"), (bool true)) ∷ ((codes "a1"), (text (233 ∷ []))) ∷ ((codes "aa"), (range (pos 0) (pos 3) (negsuc 0))) ∷ ((codes "b"), (builtin 10)) ∷ ((codes "c"), (class 1)) ∷ ((codes "d"), (node 0)) ∷ ((codes "e"), (node 1)) ∷ ((codes "t"), (node 2)) ∷ []); nodes = ((dict (((k.tuple ((k.integer (pos 1)) ∷ (k.text (233 ∷ [])) ∷ [])), (node 1)) ∷ ((k.single k.none), (node 3)) ∷ ((k.single (k.integer (negsuc 0))), (node 1)) ∷ [])) ∷ (list []) ∷ (tuple ((integer (pos 1)) ∷ (text (233 ∷ [])) ∷ [])) ∷ (tuple []) ∷ []) }
loaded_20 = refl

loaded_21 : with_picture itself (picture keyed ((codes "d") ∷ (codes "e") ∷ (codes "t") ∷ [])) ≡ record { names = (((codes "a"), (node 0)) ∷ ((codes "d"), (node 1)) ∷ ((codes "e"), (node 2)) ∷ ((codes "t"), (node 3)) ∷ []); nodes = ((list ((node 0) ∷ [])) ∷ (dict (((k.tuple ((k.integer (pos 1)) ∷ (k.text (233 ∷ [])) ∷ [])), (node 2)) ∷ ((k.single k.none), (node 4)) ∷ ((k.single (k.integer (negsuc 0))), (node 2)) ∷ [])) ∷ (list []) ∷ (tuple ((integer (pos 1)) ∷ (text (233 ∷ [])) ∷ [])) ∷ (tuple []) ∷ []) }
loaded_21 = refl

loaded_22 : with_picture raised (picture keyed ((codes "d") ∷ (codes "e") ∷ (codes "t") ∷ [])) ≡ record { names = (((codes "d"), (node 3)) ∷ ((codes "e"), (node 4)) ∷ ((codes "t"), (node 5)) ∷ ((codes "x"), (node 1)) ∷ ((codes "y"), (node 2)) ∷ []); nodes = ((list ((text (codes "no")) ∷ [])) ∷ (exception 24 ((node 0) ∷ (integer (pos 1)) ∷ [])) ∷ (exception 16 ((text (codes "no")) ∷ [])) ∷ (dict (((k.tuple ((k.integer (pos 1)) ∷ (k.text (233 ∷ [])) ∷ [])), (node 4)) ∷ ((k.single k.none), (node 6)) ∷ ((k.single (k.integer (negsuc 0))), (node 4)) ∷ [])) ∷ (list []) ∷ (tuple ((integer (pos 1)) ∷ (text (233 ∷ [])) ∷ [])) ∷ (tuple []) ∷ []) }
loaded_22 = refl

loaded_23 : with_picture unbound (picture raised ((codes "e") ∷ (codes "x") ∷ (codes "y") ∷ [])) ≡ record { names = (((codes "e"), (node 1)) ∷ ((codes "x"), (node 2)) ∷ ((codes "y"), (node 3)) ∷ []); nodes = ((list []) ∷ (list ((text (codes "no")) ∷ [])) ∷ (exception 24 ((node 1) ∷ (integer (pos 1)) ∷ [])) ∷ (exception 16 ((text (codes "no")) ∷ [])) ∷ []) }
loaded_23 = refl

loaded_24 : with_picture shared (picture raised ((codes "e") ∷ (codes "x") ∷ (codes "y") ∷ [])) ≡ record { names = (((codes "a"), (node 1)) ∷ ((codes "b"), (node 1)) ∷ ((codes "e"), (node 2)) ∷ ((codes "x"), (node 3)) ∷ ((codes "y"), (node 4)) ∷ []); nodes = ((list []) ∷ (list ((integer (pos 1)) ∷ [])) ∷ (list ((text (codes "no")) ∷ [])) ∷ (exception 24 ((node 2) ∷ (integer (pos 1)) ∷ [])) ∷ (exception 16 ((text (codes "no")) ∷ [])) ∷ []) }
loaded_24 = refl

loaded_25 : with_picture linked (picture raised ((codes "e") ∷ (codes "x") ∷ (codes "y") ∷ [])) ≡ record { names = (((codes "e"), (node 3)) ∷ ((codes "x"), (node 4)) ∷ ((codes "y"), (node 5)) ∷ ((codes "z"), (node 0)) ∷ []); nodes = ((list ((integer (pos 2)) ∷ [])) ∷ (list ((node 2) ∷ (node 0) ∷ [])) ∷ (list ((integer (pos 1)) ∷ [])) ∷ (list ((text (codes "no")) ∷ [])) ∷ (exception 24 ((node 3) ∷ (integer (pos 1)) ∷ [])) ∷ (exception 16 ((text (codes "no")) ∷ [])) ∷ []) }
loaded_25 = refl

loaded_26 : with_picture unbound (picture object_round ((codes "o") ∷ [])) ≡ record { names = (((codes "o"), (node 1)) ∷ []); nodes = ((list []) ∷ (object (((codes "left"), (node 2)) ∷ ((codes "self"), (node 1)) ∷ [])) ∷ (list ((node 1) ∷ [])) ∷ []) }
loaded_26 = refl

loaded_27 : with_picture shared (picture object_round ((codes "o") ∷ [])) ≡ record { names = (((codes "a"), (node 1)) ∷ ((codes "b"), (node 1)) ∷ ((codes "o"), (node 2)) ∷ []); nodes = ((list []) ∷ (list ((integer (pos 1)) ∷ [])) ∷ (object (((codes "left"), (node 3)) ∷ ((codes "self"), (node 2)) ∷ [])) ∷ (list ((node 2) ∷ [])) ∷ []) }
loaded_27 = refl

loaded_28 : with_picture linked (picture object_round ((codes "o") ∷ [])) ≡ record { names = (((codes "o"), (node 3)) ∷ ((codes "x"), (node 2)) ∷ ((codes "y"), (node 1)) ∷ ((codes "z"), (node 0)) ∷ []); nodes = ((list ((integer (pos 2)) ∷ [])) ∷ (list ((node 2) ∷ (node 0) ∷ [])) ∷ (list ((integer (pos 1)) ∷ [])) ∷ (object (((codes "left"), (node 4)) ∷ ((codes "self"), (node 3)) ∷ [])) ∷ (list ((node 3) ∷ [])) ∷ []) }
loaded_28 = refl

loaded_29 : with_picture unbound (picture wide ((codes "a") ∷ (codes "b") ∷ [])) ≡ record { names = (((codes "a"), (node 1)) ∷ ((codes "b"), (node 2)) ∷ []); nodes = ((list []) ∷ (list ((node 3) ∷ (node 4) ∷ (node 5) ∷ [])) ∷ (dict (((k.single (k.text (codes "k"))), (node 6)) ∷ [])) ∷ (list ((node 7) ∷ [])) ∷ (list ((integer (pos 2)) ∷ [])) ∷ (list ((text (codes "x")) ∷ [])) ∷ (list ((node 5) ∷ [])) ∷ (list ((node 5) ∷ [])) ∷ []) }
loaded_29 = refl

loaded_30 : with_picture shared (picture wide ((codes "a") ∷ (codes "b") ∷ [])) ≡ record { names = (((codes "a"), (node 2)) ∷ ((codes "b"), (node 3)) ∷ []); nodes = ((list []) ∷ (list ((integer (pos 1)) ∷ [])) ∷ (list ((node 4) ∷ (node 5) ∷ (node 6) ∷ [])) ∷ (dict (((k.single (k.text (codes "k"))), (node 7)) ∷ [])) ∷ (list ((node 8) ∷ [])) ∷ (list ((integer (pos 2)) ∷ [])) ∷ (list ((text (codes "x")) ∷ [])) ∷ (list ((node 6) ∷ [])) ∷ (list ((node 6) ∷ [])) ∷ []) }
loaded_30 = refl

loaded_31 : with_picture linked (picture wide ((codes "a") ∷ (codes "b") ∷ [])) ≡ record { names = (((codes "a"), (node 3)) ∷ ((codes "b"), (node 4)) ∷ ((codes "x"), (node 2)) ∷ ((codes "y"), (node 1)) ∷ ((codes "z"), (node 0)) ∷ []); nodes = ((list ((integer (pos 2)) ∷ [])) ∷ (list ((node 2) ∷ (node 0) ∷ [])) ∷ (list ((integer (pos 1)) ∷ [])) ∷ (list ((node 5) ∷ (node 6) ∷ (node 7) ∷ [])) ∷ (dict (((k.single (k.text (codes "k"))), (node 8)) ∷ [])) ∷ (list ((node 9) ∷ [])) ∷ (list ((integer (pos 2)) ∷ [])) ∷ (list ((text (codes "x")) ∷ [])) ∷ (list ((node 7) ∷ [])) ∷ (list ((node 7) ∷ [])) ∷ []) }
loaded_31 = refl

loaded_32 : with_picture plain (picture diamond ((codes "t") ∷ [])) ≡ record { names = (((codes "Z"), (integer (pos 1))) ∷ ((codes "_"), none) ∷ ((codes "a"), (bool true)) ∷ ((codes "a1"), (text (233 ∷ []))) ∷ ((codes "aa"), (range (pos 0) (pos 3) (negsuc 0))) ∷ ((codes "b"), (builtin 10)) ∷ ((codes "c"), (class 1)) ∷ ((codes "t"), (node 0)) ∷ []); nodes = ((list ((node 1) ∷ (node 2) ∷ (node 3) ∷ (node 3) ∷ [])) ∷ (list ((node 3) ∷ [])) ∷ (list ((node 3) ∷ [])) ∷ (list []) ∷ []) }
loaded_32 = refl

loaded_33 : with_picture itself (picture diamond ((codes "t") ∷ [])) ≡ record { names = (((codes "a"), (node 0)) ∷ ((codes "t"), (node 1)) ∷ []); nodes = ((list ((node 0) ∷ [])) ∷ (list ((node 2) ∷ (node 3) ∷ (node 4) ∷ (node 4) ∷ [])) ∷ (list ((node 4) ∷ [])) ∷ (list ((node 4) ∷ [])) ∷ (list []) ∷ []) }
loaded_33 = refl

loaded_34 : with_picture raised (picture diamond ((codes "t") ∷ [])) ≡ record { names = (((codes "e"), (node 0)) ∷ ((codes "t"), (node 3)) ∷ ((codes "x"), (node 1)) ∷ ((codes "y"), (node 2)) ∷ []); nodes = ((list ((text (codes "no")) ∷ [])) ∷ (exception 24 ((node 0) ∷ (integer (pos 1)) ∷ [])) ∷ (exception 16 ((text (codes "no")) ∷ [])) ∷ (list ((node 4) ∷ (node 5) ∷ (node 6) ∷ (node 6) ∷ [])) ∷ (list ((node 6) ∷ [])) ∷ (list ((node 6) ∷ [])) ∷ (list []) ∷ []) }
loaded_34 = refl

loaded_35 : with_picture unbound (picture inside ((codes "a") ∷ (codes "b") ∷ (codes "c") ∷ [])) ≡ record { names = (((codes "a"), (node 1)) ∷ ((codes "b"), (node 2)) ∷ ((codes "c"), (node 3)) ∷ []); nodes = ((list []) ∷ (list ((node 4) ∷ (node 2) ∷ [])) ∷ (tuple ((node 5) ∷ [])) ∷ (list ((node 5) ∷ [])) ∷ (list ((node 2) ∷ [])) ∷ (list ((integer (pos 1)) ∷ [])) ∷ []) }
loaded_35 = refl

loaded_36 : with_picture shared (picture inside ((codes "a") ∷ (codes "b") ∷ (codes "c") ∷ [])) ≡ record { names = (((codes "a"), (node 2)) ∷ ((codes "b"), (node 3)) ∷ ((codes "c"), (node 4)) ∷ []); nodes = ((list []) ∷ (list ((integer (pos 1)) ∷ [])) ∷ (list ((node 5) ∷ (node 3) ∷ [])) ∷ (tuple ((node 6) ∷ [])) ∷ (list ((node 6) ∷ [])) ∷ (list ((node 3) ∷ [])) ∷ (list ((integer (pos 1)) ∷ [])) ∷ []) }
loaded_36 = refl

loaded_37 : with_picture linked (picture inside ((codes "a") ∷ (codes "b") ∷ (codes "c") ∷ [])) ≡ record { names = (((codes "a"), (node 3)) ∷ ((codes "b"), (node 4)) ∷ ((codes "c"), (node 5)) ∷ ((codes "x"), (node 2)) ∷ ((codes "y"), (node 1)) ∷ ((codes "z"), (node 0)) ∷ []); nodes = ((list ((integer (pos 2)) ∷ [])) ∷ (list ((node 2) ∷ (node 0) ∷ [])) ∷ (list ((integer (pos 1)) ∷ [])) ∷ (list ((node 6) ∷ (node 4) ∷ [])) ∷ (tuple ((node 7) ∷ [])) ∷ (list ((node 7) ∷ [])) ∷ (list ((node 4) ∷ [])) ∷ (list ((integer (pos 1)) ∷ [])) ∷ []) }
loaded_37 = refl

loaded_38 : with_picture plain (picture equal ((codes "a") ∷ (codes "b") ∷ (codes "c") ∷ [])) ≡ record { names = (((codes "Z"), (integer (pos 1))) ∷ ((codes "_"), none) ∷ ((codes "a"), (node 0)) ∷ ((codes "a1"), (text (233 ∷ []))) ∷ ((codes "aa"), (range (pos 0) (pos 3) (negsuc 0))) ∷ ((codes "b"), (node 1)) ∷ ((codes "c"), (node 2)) ∷ []); nodes = ((tuple ((integer (pos 1)) ∷ (integer (pos 2)) ∷ [])) ∷ (tuple ((integer (pos 1)) ∷ (integer (pos 2)) ∷ [])) ∷ (list ((node 3) ∷ [])) ∷ (tuple ((integer (pos 1)) ∷ (integer (pos 2)) ∷ [])) ∷ []) }
loaded_38 = refl

loaded_39 : with_picture itself (picture equal ((codes "a") ∷ (codes "b") ∷ (codes "c") ∷ [])) ≡ record { names = (((codes "a"), (node 1)) ∷ ((codes "b"), (node 2)) ∷ ((codes "c"), (node 3)) ∷ []); nodes = ((list ((node 0) ∷ [])) ∷ (tuple ((integer (pos 1)) ∷ (integer (pos 2)) ∷ [])) ∷ (tuple ((integer (pos 1)) ∷ (integer (pos 2)) ∷ [])) ∷ (list ((node 4) ∷ [])) ∷ (tuple ((integer (pos 1)) ∷ (integer (pos 2)) ∷ [])) ∷ []) }
loaded_39 = refl

loaded_40 : with_picture raised (picture equal ((codes "a") ∷ (codes "b") ∷ (codes "c") ∷ [])) ≡ record { names = (((codes "a"), (node 3)) ∷ ((codes "b"), (node 4)) ∷ ((codes "c"), (node 5)) ∷ ((codes "e"), (node 0)) ∷ ((codes "x"), (node 1)) ∷ ((codes "y"), (node 2)) ∷ []); nodes = ((list ((text (codes "no")) ∷ [])) ∷ (exception 24 ((node 0) ∷ (integer (pos 1)) ∷ [])) ∷ (exception 16 ((text (codes "no")) ∷ [])) ∷ (tuple ((integer (pos 1)) ∷ (integer (pos 2)) ∷ [])) ∷ (tuple ((integer (pos 1)) ∷ (integer (pos 2)) ∷ [])) ∷ (list ((node 6) ∷ [])) ∷ (tuple ((integer (pos 1)) ∷ (integer (pos 2)) ∷ [])) ∷ []) }
loaded_40 = refl

loaded_41 : with_picture plain (picture twice ((codes "a") ∷ [])) ≡ record { names = (((codes "Z"), (integer (pos 1))) ∷ ((codes "_"), none) ∷ ((codes "a"), (node 0)) ∷ ((codes "a1"), (text (233 ∷ []))) ∷ ((codes "aa"), (range (pos 0) (pos 3) (negsuc 0))) ∷ ((codes "b"), (builtin 10)) ∷ ((codes "c"), (class 1)) ∷ []); nodes = ((list ((node 1) ∷ (node 1) ∷ (node 2) ∷ [])) ∷ (list ((integer (pos 1)) ∷ [])) ∷ (list ((integer (pos 1)) ∷ [])) ∷ []) }
loaded_41 = refl

loaded_42 : with_picture itself (picture twice ((codes "a") ∷ [])) ≡ record { names = (((codes "a"), (node 1)) ∷ []); nodes = ((list ((node 0) ∷ [])) ∷ (list ((node 2) ∷ (node 2) ∷ (node 3) ∷ [])) ∷ (list ((integer (pos 1)) ∷ [])) ∷ (list ((integer (pos 1)) ∷ [])) ∷ []) }
loaded_42 = refl

loaded_43 : with_picture raised (picture twice ((codes "a") ∷ [])) ≡ record { names = (((codes "a"), (node 3)) ∷ ((codes "e"), (node 0)) ∷ ((codes "x"), (node 1)) ∷ ((codes "y"), (node 2)) ∷ []); nodes = ((list ((text (codes "no")) ∷ [])) ∷ (exception 24 ((node 0) ∷ (integer (pos 1)) ∷ [])) ∷ (exception 16 ((text (codes "no")) ∷ [])) ∷ (list ((node 4) ∷ (node 4) ∷ (node 5) ∷ [])) ∷ (list ((integer (pos 1)) ∷ [])) ∷ (list ((integer (pos 1)) ∷ [])) ∷ []) }
loaded_43 = refl

loaded_44 : with_picture plain (picture twice_there ((codes "a") ∷ [])) ≡ record { names = (((codes "Z"), (integer (pos 1))) ∷ ((codes "_"), none) ∷ ((codes "a"), (node 0)) ∷ ((codes "a1"), (text (233 ∷ []))) ∷ ((codes "aa"), (range (pos 0) (pos 3) (negsuc 0))) ∷ ((codes "b"), (builtin 10)) ∷ ((codes "c"), (class 1)) ∷ []); nodes = ((list ((node 1) ∷ (node 1) ∷ (node 2) ∷ [])) ∷ (list ((integer (pos 1)) ∷ [])) ∷ (list ((integer (pos 1)) ∷ [])) ∷ []) }
loaded_44 = refl

loaded_45 : with_picture itself (picture twice_there ((codes "a") ∷ [])) ≡ record { names = (((codes "a"), (node 1)) ∷ []); nodes = ((list ((node 0) ∷ [])) ∷ (list ((node 2) ∷ (node 2) ∷ (node 3) ∷ [])) ∷ (list ((integer (pos 1)) ∷ [])) ∷ (list ((integer (pos 1)) ∷ [])) ∷ []) }
loaded_45 = refl

loaded_46 : with_picture raised (picture twice_there ((codes "a") ∷ [])) ≡ record { names = (((codes "a"), (node 3)) ∷ ((codes "e"), (node 0)) ∷ ((codes "x"), (node 1)) ∷ ((codes "y"), (node 2)) ∷ []); nodes = ((list ((text (codes "no")) ∷ [])) ∷ (exception 24 ((node 0) ∷ (integer (pos 1)) ∷ [])) ∷ (exception 16 ((text (codes "no")) ∷ [])) ∷ (list ((node 4) ∷ (node 4) ∷ (node 5) ∷ [])) ∷ (list ((integer (pos 1)) ∷ [])) ∷ (list ((integer (pos 1)) ∷ [])) ∷ []) }
loaded_46 = refl

loaded_47 : with_picture unbound (picture thrice ((codes "a") ∷ [])) ≡ record { names = (((codes "a"), (node 1)) ∷ []); nodes = ((list []) ∷ (list ((node 2) ∷ (node 2) ∷ (node 2) ∷ [])) ∷ (list ((integer (pos 1)) ∷ [])) ∷ []) }
loaded_47 = refl

loaded_48 : with_picture shared (picture thrice ((codes "a") ∷ [])) ≡ record { names = (((codes "a"), (node 2)) ∷ ((codes "b"), (node 1)) ∷ []); nodes = ((list []) ∷ (list ((integer (pos 1)) ∷ [])) ∷ (list ((node 3) ∷ (node 3) ∷ (node 3) ∷ [])) ∷ (list ((integer (pos 1)) ∷ [])) ∷ []) }
loaded_48 = refl

loaded_49 : with_picture linked (picture thrice ((codes "a") ∷ [])) ≡ record { names = (((codes "a"), (node 3)) ∷ ((codes "x"), (node 2)) ∷ ((codes "y"), (node 1)) ∷ ((codes "z"), (node 0)) ∷ []); nodes = ((list ((integer (pos 2)) ∷ [])) ∷ (list ((node 2) ∷ (node 0) ∷ [])) ∷ (list ((integer (pos 1)) ∷ [])) ∷ (list ((node 4) ∷ (node 4) ∷ (node 4) ∷ [])) ∷ (list ((integer (pos 1)) ∷ [])) ∷ []) }
loaded_49 = refl

loaded_50 : with_picture plain (picture once_each ((codes "a") ∷ [])) ≡ record { names = (((codes "Z"), (integer (pos 1))) ∷ ((codes "_"), none) ∷ ((codes "a"), (node 0)) ∷ ((codes "a1"), (text (233 ∷ []))) ∷ ((codes "aa"), (range (pos 0) (pos 3) (negsuc 0))) ∷ ((codes "b"), (builtin 10)) ∷ ((codes "c"), (class 1)) ∷ []); nodes = ((list ((node 1) ∷ (node 2) ∷ (node 3) ∷ [])) ∷ (list ((integer (pos 1)) ∷ [])) ∷ (list ((integer (pos 1)) ∷ [])) ∷ (list ((integer (pos 1)) ∷ [])) ∷ []) }
loaded_50 = refl

loaded_51 : with_picture itself (picture once_each ((codes "a") ∷ [])) ≡ record { names = (((codes "a"), (node 1)) ∷ []); nodes = ((list ((node 0) ∷ [])) ∷ (list ((node 2) ∷ (node 3) ∷ (node 4) ∷ [])) ∷ (list ((integer (pos 1)) ∷ [])) ∷ (list ((integer (pos 1)) ∷ [])) ∷ (list ((integer (pos 1)) ∷ [])) ∷ []) }
loaded_51 = refl

loaded_52 : with_picture raised (picture once_each ((codes "a") ∷ [])) ≡ record { names = (((codes "a"), (node 3)) ∷ ((codes "e"), (node 0)) ∷ ((codes "x"), (node 1)) ∷ ((codes "y"), (node 2)) ∷ []); nodes = ((list ((text (codes "no")) ∷ [])) ∷ (exception 24 ((node 0) ∷ (integer (pos 1)) ∷ [])) ∷ (exception 16 ((text (codes "no")) ∷ [])) ∷ (list ((node 4) ∷ (node 5) ∷ (node 6) ∷ [])) ∷ (list ((integer (pos 1)) ∷ [])) ∷ (list ((integer (pos 1)) ∷ [])) ∷ (list ((integer (pos 1)) ∷ [])) ∷ []) }
loaded_52 = refl

-- ---- pictures stand in the order of first meeting, and their states needn't

in_order_1 : IsInOrder (picture unbound [])
in_order_1 = refl

not_in_order_1 : IsInOrder unbound → ⊥
not_in_order_1 = λ e. cc

in_order_2 : IsInOrder (picture plain ((codes "Z") ∷ (codes "_") ∷ (codes "a") ∷ (codes "a1") ∷ (codes "aa") ∷ (codes "b") ∷ (codes "c") ∷ []))
in_order_2 = refl

in_order_3 : IsInOrder (picture shared ((codes "a") ∷ (codes "b") ∷ []))
in_order_3 = refl

not_in_order_2 : IsInOrder shared → ⊥
not_in_order_2 = λ e. cc

in_order_4 : IsInOrder (picture apart ((codes "a") ∷ (codes "b") ∷ []))
in_order_4 = refl

in_order_5 : IsInOrder (picture itself ((codes "a") ∷ []))
in_order_5 = refl

in_order_6 : IsInOrder (picture round ((codes "a") ∷ (codes "b") ∷ []))
in_order_6 = refl

not_in_order_3 : IsInOrder round → ⊥
not_in_order_3 = λ e. cc

in_order_7 : IsInOrder (picture linked ((codes "x") ∷ (codes "y") ∷ (codes "z") ∷ []))
in_order_7 = refl

not_in_order_4 : IsInOrder linked → ⊥
not_in_order_4 = λ e. cc

in_order_8 : IsInOrder (picture parted ((codes "x") ∷ (codes "y") ∷ (codes "z") ∷ []))
in_order_8 = refl

not_in_order_5 : IsInOrder parted → ⊥
not_in_order_5 = λ e. cc

in_order_9 : IsInOrder (picture default ((codes "g") ∷ (codes "p") ∷ (codes "q") ∷ []))
in_order_9 = refl

in_order_10 : IsInOrder (picture defaults ((codes "f") ∷ (codes "g") ∷ []))
in_order_10 = refl

not_in_order_6 : IsInOrder defaults → ⊥
not_in_order_6 = λ e. cc

in_order_11 : IsInOrder (picture keyed ((codes "d") ∷ (codes "e") ∷ (codes "t") ∷ []))
in_order_11 = refl

not_in_order_7 : IsInOrder keyed → ⊥
not_in_order_7 = λ e. cc

in_order_12 : IsInOrder (picture raised ((codes "e") ∷ (codes "x") ∷ (codes "y") ∷ []))
in_order_12 = refl

in_order_13 : IsInOrder (picture object_round ((codes "o") ∷ []))
in_order_13 = refl

not_in_order_8 : IsInOrder object_round → ⊥
not_in_order_8 = λ e. cc

in_order_14 : IsInOrder (picture wide ((codes "a") ∷ (codes "b") ∷ []))
in_order_14 = refl

not_in_order_9 : IsInOrder wide → ⊥
not_in_order_9 = λ e. cc

in_order_15 : IsInOrder (picture diamond ((codes "t") ∷ []))
in_order_15 = refl

not_in_order_10 : IsInOrder diamond → ⊥
not_in_order_10 = λ e. cc

in_order_16 : IsInOrder (picture inside ((codes "a") ∷ (codes "b") ∷ (codes "c") ∷ []))
in_order_16 = refl

not_in_order_11 : IsInOrder inside → ⊥
not_in_order_11 = λ e. cc

in_order_17 : IsInOrder (picture equal ((codes "a") ∷ (codes "b") ∷ (codes "c") ∷ []))
in_order_17 = refl

in_order_18 : IsInOrder (picture long_chain ((codes "n0") ∷ (codes "n1") ∷ (codes "n2") ∷ (codes "n3") ∷ (codes "n4") ∷ []))
in_order_18 = refl

not_in_order_12 : IsInOrder long_chain → ⊥
not_in_order_12 = λ e. cc

in_order_19 : IsInOrder (picture twice ((codes "a") ∷ []))
in_order_19 = refl

in_order_20 : IsInOrder (picture twice_there ((codes "a") ∷ []))
in_order_20 = refl

not_in_order_13 : IsInOrder twice_there → ⊥
not_in_order_13 = λ e. cc

in_order_21 : IsInOrder (picture thrice ((codes "a") ∷ []))
in_order_21 = refl

in_order_22 : IsInOrder (picture once_each ((codes "a") ∷ []))
in_order_22 = refl

-- ---- how many nodes were met, behind n of them

counted_1 : counted 0 [] ∷ counted 0 (0 ∷ []) ∷ counted 0 (1 ∷ []) ∷ counted 0 (0 ∷ 0 ∷ 1 ∷ []) ∷ counted 0 (0 ∷ 2 ∷ []) ∷ counted 2 (0 ∷ 1 ∷ 2 ∷ []) ∷ counted 2 (3 ∷ []) ∷ counted 2 (2 ∷ 3 ∷ 2 ∷ 4 ∷ []) ∷ counted 3 (1 ∷ 0 ∷ []) ∷ counted 1 (1 ∷ 1 ∷ 1 ∷ []) ∷ []
    ≡ Some 0 ∷ Some 1 ∷ None ∷ Some 2 ∷ None ∷ Some 3 ∷ None ∷ Some 5 ∷ Some 3 ∷ Some 2 ∷ []
counted_1 = refl

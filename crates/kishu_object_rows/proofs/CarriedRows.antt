-- The states that checkouts leave: kept nodes stay where they are, and loaded ones stand behind. Computed on the definitions; made by tools/rows/checkout_rows.py.
use Rattle.std.specs.Prelude.{◌≡◌, pos, true, [], ◌∷◌, codes, refl}
use Rattle.kishu_language.specs.declared.profile.Profile.TheVariants.{One}
use Rattle.kishu_meaning.specs.values.Keys as k
use Rattle.kishu_meaning.specs.values.Values.{none, bool, integer, text, node, list, tuple, dict, object, function, exception}
use Rattle.kishu_objects.specs.Picture.{picture}
use Rattle.kishu_history.specs.Checkout.{without_names, carried}
use Rattle.kishu_object_rows.proofs.Histories.{lists1, lists3, lists4, lists5, lists8, lists11, lists12, ways1, ways2, ways3, ways5, ways4, ways6, ways7, ways8, kinds2, kinds4, kinds8}

-- ---- names are unbound, and nodes stay

without_1 : without_names ((codes "a") ∷ []) ways1 ≡ record { names = (((codes "b"), (node 1)) ∷ ((codes "c"), (node 2)) ∷ []); nodes = ((list ((integer (pos 1)) ∷ [])) ∷ (list ((integer (pos 2)) ∷ [])) ∷ (list ((integer (pos 3)) ∷ [])) ∷ []) }
without_1 = refl

without_2 : without_names ((codes "c") ∷ (codes "b") ∷ (codes "a") ∷ []) ways1 ≡ record { names = []; nodes = ((list ((integer (pos 1)) ∷ [])) ∷ (list ((integer (pos 2)) ∷ [])) ∷ (list ((integer (pos 3)) ∷ [])) ∷ []) }
without_2 = refl

without_3 : without_names ((codes "b") ∷ (codes "c") ∷ (codes "zz") ∷ []) ways1 ≡ record { names = (((codes "a"), (node 0)) ∷ []); nodes = ((list ((integer (pos 1)) ∷ [])) ∷ (list ((integer (pos 2)) ∷ [])) ∷ (list ((integer (pos 3)) ∷ [])) ∷ []) }
without_3 = refl

without_4 : without_names ((codes "x") ∷ []) lists1 ≡ record { names = (((codes "y"), (node 1)) ∷ ((codes "z"), (node 2)) ∷ []); nodes = ((list ((integer (pos 1)) ∷ [])) ∷ (list ((node 0) ∷ [])) ∷ (list ((integer (pos 2)) ∷ [])) ∷ []) }
without_4 = refl

without_5 : without_names ((codes "z") ∷ (codes "y") ∷ (codes "x") ∷ []) lists1 ≡ record { names = []; nodes = ((list ((integer (pos 1)) ∷ [])) ∷ (list ((node 0) ∷ [])) ∷ (list ((integer (pos 2)) ∷ [])) ∷ []) }
without_5 = refl

without_6 : without_names ((codes "y") ∷ (codes "z") ∷ (codes "zz") ∷ []) lists1 ≡ record { names = (((codes "x"), (node 0)) ∷ []); nodes = ((list ((integer (pos 1)) ∷ [])) ∷ (list ((node 0) ∷ [])) ∷ (list ((integer (pos 2)) ∷ [])) ∷ []) }
without_6 = refl

without_7 : without_names ((codes "d") ∷ []) kinds4 ≡ record { names = (((codes "g"), (node 2)) ∷ ((codes "p"), (integer (pos 0))) ∷ ((codes "t"), (node 0)) ∷ []); nodes = ((tuple ((integer (pos 1)) ∷ (integer (pos 2)) ∷ [])) ∷ (list ((integer (pos 1)) ∷ [])) ∷ (function One (codes "def g(x, acc=[]): acc.append(x); return acc") ((node 1) ∷ [])) ∷ (dict (((k.single (k.integer (pos 1))), (text (codes "a"))) ∷ ((k.tuple ((k.integer (pos 1)) ∷ (k.bool true) ∷ [])), none) ∷ [])) ∷ []) }
without_7 = refl

without_8 : without_names ((codes "t") ∷ (codes "p") ∷ (codes "g") ∷ (codes "d") ∷ []) kinds4 ≡ record { names = []; nodes = ((tuple ((integer (pos 1)) ∷ (integer (pos 2)) ∷ [])) ∷ (list ((integer (pos 1)) ∷ [])) ∷ (function One (codes "def g(x, acc=[]): acc.append(x); return acc") ((node 1) ∷ [])) ∷ (dict (((k.single (k.integer (pos 1))), (text (codes "a"))) ∷ ((k.tuple ((k.integer (pos 1)) ∷ (k.bool true) ∷ [])), none) ∷ [])) ∷ []) }
without_8 = refl

without_9 : without_names ((codes "g") ∷ (codes "p") ∷ (codes "t") ∷ (codes "zz") ∷ []) kinds4 ≡ record { names = (((codes "d"), (node 3)) ∷ []); nodes = ((tuple ((integer (pos 1)) ∷ (integer (pos 2)) ∷ [])) ∷ (list ((integer (pos 1)) ∷ [])) ∷ (function One (codes "def g(x, acc=[]): acc.append(x); return acc") ((node 1) ∷ [])) ∷ (dict (((k.single (k.integer (pos 1))), (text (codes "a"))) ∷ ((k.tuple ((k.integer (pos 1)) ∷ (k.bool true) ∷ [])), none) ∷ [])) ∷ []) }
without_9 = refl

-- ---- carried from one commit to another

carried_1 : carried (((codes "a") ∷ []) ∷ ((codes "b") ∷ []) ∷ []) ((picture ways3 ((codes "a") ∷ [])) ∷ (picture ways3 ((codes "b") ∷ [])) ∷ []) ways1 ≡ record { names = (((codes "a"), (node 3)) ∷ ((codes "b"), (node 4)) ∷ ((codes "c"), (node 2)) ∷ []); nodes = ((list ((integer (pos 1)) ∷ [])) ∷ (list ((integer (pos 2)) ∷ [])) ∷ (list ((integer (pos 3)) ∷ [])) ∷ (list ((integer (pos 1)) ∷ (integer (pos 0)) ∷ [])) ∷ (list ((integer (pos 2)) ∷ (integer (pos 7)) ∷ [])) ∷ []) }
carried_1 = refl

carried_2 : carried (((codes "a") ∷ []) ∷ ((codes "b") ∷ []) ∷ []) ((picture ways6 ((codes "a") ∷ (codes "d") ∷ [])) ∷ (picture ways6 ((codes "b") ∷ [])) ∷ []) ways1 ≡ record { names = (((codes "a"), (node 3)) ∷ ((codes "b"), (node 4)) ∷ ((codes "c"), (node 2)) ∷ ((codes "d"), (node 3)) ∷ []); nodes = ((list ((integer (pos 1)) ∷ [])) ∷ (list ((integer (pos 2)) ∷ [])) ∷ (list ((integer (pos 3)) ∷ [])) ∷ (list ((integer (pos 1)) ∷ (integer (pos 0)) ∷ [])) ∷ (list ((integer (pos 2)) ∷ (integer (pos 7)) ∷ [])) ∷ []) }
carried_2 = refl

carried_3 : carried (((codes "c") ∷ []) ∷ []) [] ways1 ≡ record { names = (((codes "a"), (node 0)) ∷ ((codes "b"), (node 1)) ∷ []); nodes = ((list ((integer (pos 1)) ∷ [])) ∷ (list ((integer (pos 2)) ∷ [])) ∷ (list ((integer (pos 3)) ∷ [])) ∷ []) }
carried_3 = refl

carried_4 : carried (((codes "b") ∷ []) ∷ []) ((picture ways3 ((codes "b") ∷ [])) ∷ []) ways2 ≡ record { names = (((codes "a"), (node 2)) ∷ ((codes "b"), (node 3)) ∷ ((codes "c"), (node 0)) ∷ []); nodes = ((list ((integer (pos 3)) ∷ [])) ∷ (list ((integer (pos 2)) ∷ [])) ∷ (list ((integer (pos 1)) ∷ (integer (pos 0)) ∷ [])) ∷ (list ((integer (pos 2)) ∷ (integer (pos 7)) ∷ [])) ∷ []) }
carried_4 = refl

carried_5 : carried (((codes "a") ∷ []) ∷ ((codes "b") ∷ []) ∷ []) ((picture ways6 ((codes "a") ∷ (codes "d") ∷ [])) ∷ (picture ways6 ((codes "b") ∷ [])) ∷ []) ways2 ≡ record { names = (((codes "a"), (node 3)) ∷ ((codes "b"), (node 4)) ∷ ((codes "c"), (node 0)) ∷ ((codes "d"), (node 3)) ∷ []); nodes = ((list ((integer (pos 3)) ∷ [])) ∷ (list ((integer (pos 2)) ∷ [])) ∷ (list ((integer (pos 1)) ∷ (integer (pos 0)) ∷ [])) ∷ (list ((integer (pos 1)) ∷ (integer (pos 0)) ∷ [])) ∷ (list ((integer (pos 2)) ∷ (integer (pos 7)) ∷ [])) ∷ []) }
carried_5 = refl

carried_6 : carried (((codes "a") ∷ []) ∷ ((codes "c") ∷ []) ∷ []) ((picture ways8 ((codes "a") ∷ [])) ∷ []) ways2 ≡ record { names = (((codes "a"), (node 3)) ∷ ((codes "b"), (node 1)) ∷ []); nodes = ((list ((integer (pos 3)) ∷ [])) ∷ (list ((integer (pos 2)) ∷ [])) ∷ (list ((integer (pos 1)) ∷ (integer (pos 0)) ∷ [])) ∷ (list ((integer (pos 1)) ∷ [])) ∷ []) }
carried_6 = refl

carried_7 : carried (((codes "b") ∷ []) ∷ ((codes "c") ∷ []) ∷ []) ((picture ways5 ((codes "b") ∷ (codes "c") ∷ [])) ∷ []) ways3 ≡ record { names = (((codes "a"), (node 1)) ∷ ((codes "b"), (node 4)) ∷ ((codes "c"), (node 5)) ∷ []); nodes = ((list []) ∷ (list ((integer (pos 1)) ∷ (integer (pos 0)) ∷ [])) ∷ (list ((integer (pos 2)) ∷ (integer (pos 7)) ∷ [])) ∷ (list ((integer (pos 3)) ∷ [])) ∷ (list ((integer (pos 2)) ∷ (integer (pos 7)) ∷ [])) ∷ (list ((integer (pos 3)) ∷ (node 4) ∷ [])) ∷ []) }
carried_7 = refl

carried_8 : carried (((codes "a") ∷ []) ∷ ((codes "b") ∷ []) ∷ []) ((picture ways7 ((codes "a") ∷ [])) ∷ (picture ways7 ((codes "b") ∷ [])) ∷ []) ways3 ≡ record { names = (((codes "a"), (node 4)) ∷ ((codes "b"), (node 5)) ∷ ((codes "c"), (node 3)) ∷ []); nodes = ((list []) ∷ (list ((integer (pos 1)) ∷ (integer (pos 0)) ∷ [])) ∷ (list ((integer (pos 2)) ∷ (integer (pos 7)) ∷ [])) ∷ (list ((integer (pos 3)) ∷ [])) ∷ (list ((integer (pos 1)) ∷ (integer (pos 0)) ∷ [])) ∷ (list ((integer (pos 2)) ∷ (integer (pos 7)) ∷ [])) ∷ []) }
carried_8 = refl

carried_9 : carried (((codes "a") ∷ []) ∷ ((codes "b") ∷ (codes "c") ∷ []) ∷ []) ((picture ways1 ((codes "a") ∷ [])) ∷ (picture ways1 ((codes "b") ∷ [])) ∷ (picture ways1 ((codes "c") ∷ [])) ∷ []) ways5 ≡ record { names = (((codes "a"), (node 3)) ∷ ((codes "b"), (node 4)) ∷ ((codes "c"), (node 5)) ∷ []); nodes = ((list ((integer (pos 1)) ∷ (integer (pos 0)) ∷ [])) ∷ (list ((integer (pos 2)) ∷ (integer (pos 7)) ∷ [])) ∷ (list ((integer (pos 3)) ∷ (node 1) ∷ [])) ∷ (list ((integer (pos 1)) ∷ [])) ∷ (list ((integer (pos 2)) ∷ [])) ∷ (list ((integer (pos 3)) ∷ [])) ∷ []) }
carried_9 = refl

carried_10 : carried (((codes "a") ∷ []) ∷ ((codes "b") ∷ (codes "c") ∷ []) ∷ []) ((picture ways6 ((codes "a") ∷ (codes "d") ∷ [])) ∷ (picture ways6 ((codes "b") ∷ [])) ∷ (picture ways6 ((codes "c") ∷ [])) ∷ []) ways5 ≡ record { names = (((codes "a"), (node 3)) ∷ ((codes "b"), (node 4)) ∷ ((codes "c"), (node 5)) ∷ ((codes "d"), (node 3)) ∷ []); nodes = ((list ((integer (pos 1)) ∷ (integer (pos 0)) ∷ [])) ∷ (list ((integer (pos 2)) ∷ (integer (pos 7)) ∷ [])) ∷ (list ((integer (pos 3)) ∷ (node 1) ∷ [])) ∷ (list ((integer (pos 1)) ∷ (integer (pos 0)) ∷ [])) ∷ (list ((integer (pos 2)) ∷ (integer (pos 7)) ∷ [])) ∷ (list ((integer (pos 3)) ∷ [])) ∷ []) }
carried_10 = refl

carried_11 : carried (((codes "a") ∷ []) ∷ ((codes "b") ∷ (codes "c") ∷ []) ∷ []) ((picture ways8 ((codes "a") ∷ [])) ∷ (picture ways8 ((codes "b") ∷ [])) ∷ []) ways5 ≡ record { names = (((codes "a"), (node 3)) ∷ ((codes "b"), (node 4)) ∷ []); nodes = ((list ((integer (pos 1)) ∷ (integer (pos 0)) ∷ [])) ∷ (list ((integer (pos 2)) ∷ (integer (pos 7)) ∷ [])) ∷ (list ((integer (pos 3)) ∷ (node 1) ∷ [])) ∷ (list ((integer (pos 1)) ∷ [])) ∷ (list ((integer (pos 2)) ∷ [])) ∷ []) }
carried_11 = refl

carried_12 : carried (((codes "b") ∷ []) ∷ []) ((picture ways3 ((codes "b") ∷ [])) ∷ []) ways4 ≡ record { names = (((codes "a"), (node 2)) ∷ ((codes "b"), (node 3)) ∷ ((codes "c"), (node 0)) ∷ []); nodes = ((list ((integer (pos 3)) ∷ [])) ∷ (list ((integer (pos 2)) ∷ (integer (pos 7)) ∷ [])) ∷ (list ((integer (pos 1)) ∷ (integer (pos 0)) ∷ [])) ∷ (list ((integer (pos 2)) ∷ (integer (pos 7)) ∷ [])) ∷ []) }
carried_12 = refl

carried_13 : carried (((codes "a") ∷ []) ∷ []) ((picture ways6 ((codes "a") ∷ (codes "d") ∷ [])) ∷ []) ways4 ≡ record { names = (((codes "a"), (node 3)) ∷ ((codes "b"), (node 1)) ∷ ((codes "c"), (node 0)) ∷ ((codes "d"), (node 3)) ∷ []); nodes = ((list ((integer (pos 3)) ∷ [])) ∷ (list ((integer (pos 2)) ∷ (integer (pos 7)) ∷ [])) ∷ (list ((integer (pos 1)) ∷ (integer (pos 0)) ∷ [])) ∷ (list ((integer (pos 1)) ∷ (integer (pos 0)) ∷ [])) ∷ []) }
carried_13 = refl

carried_14 : carried (((codes "a") ∷ []) ∷ ((codes "b") ∷ []) ∷ ((codes "c") ∷ []) ∷ []) ((picture ways8 ((codes "a") ∷ [])) ∷ (picture ways8 ((codes "b") ∷ [])) ∷ []) ways4 ≡ record { names = (((codes "a"), (node 3)) ∷ ((codes "b"), (node 4)) ∷ []); nodes = ((list ((integer (pos 3)) ∷ [])) ∷ (list ((integer (pos 2)) ∷ (integer (pos 7)) ∷ [])) ∷ (list ((integer (pos 1)) ∷ (integer (pos 0)) ∷ [])) ∷ (list ((integer (pos 1)) ∷ [])) ∷ (list ((integer (pos 2)) ∷ [])) ∷ []) }
carried_14 = refl

carried_15 : carried (((codes "a") ∷ (codes "d") ∷ []) ∷ ((codes "b") ∷ []) ∷ []) ((picture ways3 ((codes "a") ∷ [])) ∷ (picture ways3 ((codes "b") ∷ [])) ∷ []) ways6 ≡ record { names = (((codes "a"), (node 4)) ∷ ((codes "b"), (node 5)) ∷ ((codes "c"), (node 0)) ∷ []); nodes = ((list ((integer (pos 3)) ∷ [])) ∷ (list ((integer (pos 2)) ∷ (integer (pos 7)) ∷ [])) ∷ (list ((integer (pos 1)) ∷ (integer (pos 0)) ∷ [])) ∷ (list []) ∷ (list ((integer (pos 1)) ∷ (integer (pos 0)) ∷ [])) ∷ (list ((integer (pos 2)) ∷ (integer (pos 7)) ∷ [])) ∷ []) }
carried_15 = refl

carried_16 : carried (((codes "a") ∷ (codes "d") ∷ []) ∷ []) ((picture ways7 ((codes "a") ∷ [])) ∷ []) ways6 ≡ record { names = (((codes "a"), (node 4)) ∷ ((codes "b"), (node 1)) ∷ ((codes "c"), (node 0)) ∷ []); nodes = ((list ((integer (pos 3)) ∷ [])) ∷ (list ((integer (pos 2)) ∷ (integer (pos 7)) ∷ [])) ∷ (list ((integer (pos 1)) ∷ (integer (pos 0)) ∷ [])) ∷ (list []) ∷ (list ((integer (pos 1)) ∷ (integer (pos 0)) ∷ [])) ∷ []) }
carried_16 = refl

carried_17 : carried (((codes "a") ∷ []) ∷ ((codes "b") ∷ []) ∷ []) ((picture ways1 ((codes "a") ∷ [])) ∷ (picture ways1 ((codes "b") ∷ [])) ∷ []) ways7 ≡ record { names = (((codes "a"), (node 3)) ∷ ((codes "b"), (node 4)) ∷ ((codes "c"), (node 2)) ∷ []); nodes = ((list ((integer (pos 1)) ∷ (integer (pos 0)) ∷ [])) ∷ (list ((integer (pos 2)) ∷ (integer (pos 7)) ∷ [])) ∷ (list ((integer (pos 3)) ∷ [])) ∷ (list ((integer (pos 1)) ∷ [])) ∷ (list ((integer (pos 2)) ∷ [])) ∷ []) }
carried_17 = refl

carried_18 : carried (((codes "a") ∷ []) ∷ ((codes "b") ∷ []) ∷ ((codes "c") ∷ []) ∷ []) ((picture ways5 ((codes "a") ∷ [])) ∷ (picture ways5 ((codes "b") ∷ (codes "c") ∷ [])) ∷ []) ways7 ≡ record { names = (((codes "a"), (node 3)) ∷ ((codes "b"), (node 4)) ∷ ((codes "c"), (node 5)) ∷ []); nodes = ((list ((integer (pos 1)) ∷ (integer (pos 0)) ∷ [])) ∷ (list ((integer (pos 2)) ∷ (integer (pos 7)) ∷ [])) ∷ (list ((integer (pos 3)) ∷ [])) ∷ (list ((integer (pos 1)) ∷ (integer (pos 0)) ∷ [])) ∷ (list ((integer (pos 2)) ∷ (integer (pos 7)) ∷ [])) ∷ (list ((integer (pos 3)) ∷ (node 4) ∷ [])) ∷ []) }
carried_18 = refl

carried_19 : carried (((codes "a") ∷ []) ∷ ((codes "b") ∷ []) ∷ ((codes "c") ∷ []) ∷ []) ((picture ways8 ((codes "a") ∷ [])) ∷ (picture ways8 ((codes "b") ∷ [])) ∷ []) ways7 ≡ record { names = (((codes "a"), (node 3)) ∷ ((codes "b"), (node 4)) ∷ []); nodes = ((list ((integer (pos 1)) ∷ (integer (pos 0)) ∷ [])) ∷ (list ((integer (pos 2)) ∷ (integer (pos 7)) ∷ [])) ∷ (list ((integer (pos 3)) ∷ [])) ∷ (list ((integer (pos 1)) ∷ [])) ∷ (list ((integer (pos 2)) ∷ [])) ∷ []) }
carried_19 = refl

carried_20 : carried (((codes "a") ∷ []) ∷ ((codes "b") ∷ []) ∷ []) ((picture ways3 ((codes "a") ∷ [])) ∷ (picture ways3 ((codes "b") ∷ [])) ∷ (picture ways3 ((codes "c") ∷ [])) ∷ []) ways8 ≡ record { names = (((codes "a"), (node 2)) ∷ ((codes "b"), (node 3)) ∷ ((codes "c"), (node 4)) ∷ []); nodes = ((list ((integer (pos 2)) ∷ [])) ∷ (list ((integer (pos 1)) ∷ [])) ∷ (list ((integer (pos 1)) ∷ (integer (pos 0)) ∷ [])) ∷ (list ((integer (pos 2)) ∷ (integer (pos 7)) ∷ [])) ∷ (list ((integer (pos 3)) ∷ [])) ∷ []) }
carried_20 = refl

carried_21 : carried (((codes "a") ∷ []) ∷ ((codes "b") ∷ []) ∷ []) ((picture ways6 ((codes "a") ∷ (codes "d") ∷ [])) ∷ (picture ways6 ((codes "b") ∷ [])) ∷ (picture ways6 ((codes "c") ∷ [])) ∷ []) ways8 ≡ record { names = (((codes "a"), (node 2)) ∷ ((codes "b"), (node 3)) ∷ ((codes "c"), (node 4)) ∷ ((codes "d"), (node 2)) ∷ []); nodes = ((list ((integer (pos 2)) ∷ [])) ∷ (list ((integer (pos 1)) ∷ [])) ∷ (list ((integer (pos 1)) ∷ (integer (pos 0)) ∷ [])) ∷ (list ((integer (pos 2)) ∷ (integer (pos 7)) ∷ [])) ∷ (list ((integer (pos 3)) ∷ [])) ∷ []) }
carried_21 = refl

carried_22 : carried (((codes "x") ∷ (codes "y") ∷ []) ∷ []) ((picture lists1 ((codes "x") ∷ (codes "y") ∷ [])) ∷ []) lists3 ≡ record { names = (((codes "x"), (node 4)) ∷ ((codes "y"), (node 5)) ∷ ((codes "z"), (node 3)) ∷ []); nodes = ((list []) ∷ (list ((integer (pos 1)) ∷ [])) ∷ (list ((node 1) ∷ [])) ∷ (list ((integer (pos 2)) ∷ [])) ∷ (list ((integer (pos 1)) ∷ [])) ∷ (list ((node 4) ∷ [])) ∷ []) }
carried_22 = refl

carried_23 : carried (((codes "x") ∷ []) ∷ ((codes "y") ∷ []) ∷ ((codes "z") ∷ []) ∷ []) ((picture lists1 ((codes "x") ∷ (codes "y") ∷ [])) ∷ (picture lists1 ((codes "z") ∷ [])) ∷ []) lists8 ≡ record { names = (((codes "x"), (node 4)) ∷ ((codes "y"), (node 5)) ∷ ((codes "z"), (node 6)) ∷ []); nodes = ((list ((integer (pos 2)) ∷ (integer (pos 3)) ∷ [])) ∷ (list ((integer (pos 1)) ∷ [])) ∷ (list ((node 1) ∷ [])) ∷ (list ((integer (pos 1)) ∷ [])) ∷ (list ((integer (pos 1)) ∷ [])) ∷ (list ((node 4) ∷ [])) ∷ (list ((integer (pos 2)) ∷ [])) ∷ []) }
carried_23 = refl

carried_24 : carried (((codes "w") ∷ (codes "z") ∷ []) ∷ []) ((picture lists4 ((codes "z") ∷ [])) ∷ []) lists5 ≡ record { names = (((codes "x"), (node 1)) ∷ ((codes "y"), (node 2)) ∷ ((codes "z"), (node 3)) ∷ []); nodes = ((list ((integer (pos 2)) ∷ (integer (pos 3)) ∷ [])) ∷ (list ((integer (pos 1)) ∷ [])) ∷ (list ((node 1) ∷ [])) ∷ (list ((integer (pos 2)) ∷ (integer (pos 3)) ∷ [])) ∷ []) }
carried_24 = refl

carried_25 : carried [] ((picture lists11 ((codes "w") ∷ [])) ∷ (picture lists11 ((codes "x") ∷ [])) ∷ (picture lists11 ((codes "y") ∷ [])) ∷ (picture lists11 ((codes "z") ∷ [])) ∷ []) lists12 ≡ record { names = (((codes "w"), (bool true)) ∷ ((codes "x"), (node 1)) ∷ ((codes "y"), (node 2)) ∷ ((codes "z"), (node 4)) ∷ []); nodes = ((list []) ∷ (list ((integer (pos 1)) ∷ [])) ∷ (list ((node 3) ∷ [])) ∷ (list ((integer (pos 1)) ∷ [])) ∷ (list ((integer (pos 2)) ∷ (integer (pos 3)) ∷ [])) ∷ []) }
carried_25 = refl

carried_26 : carried (((codes "d") ∷ []) ∷ ((codes "e") ∷ (codes "o") ∷ (codes "t") ∷ []) ∷ ((codes "g") ∷ []) ∷ ((codes "p") ∷ []) ∷ []) ((picture kinds2 ((codes "g") ∷ (codes "p") ∷ [])) ∷ []) kinds8 ≡ record { names = (((codes "g"), (node 7)) ∷ ((codes "p"), (node 8)) ∷ []); nodes = ((object (((codes "t"), (node 3)) ∷ [])) ∷ (list ((integer (pos 1)) ∷ [])) ∷ (function One (codes "def g(x, acc=[]): acc.append(x); return acc") ((node 1) ∷ [])) ∷ (tuple ((integer (pos 1)) ∷ (integer (pos 2)) ∷ [])) ∷ (exception 24 ((node 3) ∷ [])) ∷ (tuple ((integer (pos 1)) ∷ (integer (pos 2)) ∷ [])) ∷ (dict (((k.tuple ((k.integer (pos 1)) ∷ (k.bool true) ∷ [])), (node 5)) ∷ ((k.single (k.integer (pos 1))), (text (codes "a"))) ∷ [])) ∷ (function One (codes "def g(x, acc=[]): acc.append(x); return acc") ((node 8) ∷ [])) ∷ (list ((integer (pos 1)) ∷ [])) ∷ []) }
carried_26 = refl

carried_27 : carried (((codes "g") ∷ (codes "p") ∷ []) ∷ []) ((picture kinds8 ((codes "d") ∷ [])) ∷ (picture kinds8 ((codes "e") ∷ (codes "o") ∷ (codes "t") ∷ [])) ∷ (picture kinds8 ((codes "g") ∷ [])) ∷ (picture kinds8 ((codes "p") ∷ [])) ∷ []) kinds2 ≡ record { names = (((codes "d"), (node 2)) ∷ ((codes "e"), (node 4)) ∷ ((codes "g"), (node 7)) ∷ ((codes "o"), (node 5)) ∷ ((codes "p"), (integer (pos 0))) ∷ ((codes "t"), (node 6)) ∷ []); nodes = ((list ((integer (pos 1)) ∷ [])) ∷ (function One (codes "def g(x, acc=[]): acc.append(x); return acc") ((node 0) ∷ [])) ∷ (dict (((k.tuple ((k.integer (pos 1)) ∷ (k.bool true) ∷ [])), (node 3)) ∷ ((k.single (k.integer (pos 1))), (text (codes "a"))) ∷ [])) ∷ (tuple ((integer (pos 1)) ∷ (integer (pos 2)) ∷ [])) ∷ (exception 24 ((node 6) ∷ [])) ∷ (object (((codes "t"), (node 6)) ∷ [])) ∷ (tuple ((integer (pos 1)) ∷ (integer (pos 2)) ∷ [])) ∷ (function One (codes "def g(x, acc=[]): acc.append(x); return acc") ((node 8) ∷ [])) ∷ (list ((integer (pos 1)) ∷ [])) ∷ []) }
carried_27 = refl

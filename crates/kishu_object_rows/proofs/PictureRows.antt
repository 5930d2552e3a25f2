-- The pictures of names: computed on the definition. Made by tools/rows/object_rows.py.
use Rattle.std.specs.Prelude.{◌≡◌, pos, negsuc, true, [], ◌∷◌, codes, refl}
use Rattle.kishu_language.specs.declared.profile.Profile.TheVariants.{One}
use Rattle.kishu_meaning.specs.values.Keys as k
use Rattle.kishu_meaning.specs.values.Values.{none, bool, integer, text, range, builtin, class, node, list, tuple, dict, object, function, exception}
use Rattle.kishu_objects.specs.Picture.{picture, whole}
use Rattle.kishu_object_rows.proofs.States.{unbound, plain, shared, apart, itself, round, linked, parted, default, defaults, keyed, raised, object_round, wide, diamond, inside, equal, long_chain, twice, twice_there, thrice, once_each}

-- ---- no name is bound, and one node stands

picture_unbound_1 : picture unbound [] ≡ record { names = []; nodes = [] }
picture_unbound_1 = refl

picture_unbound_2 : picture unbound ((codes "zz") ∷ []) ≡ record { names = []; nodes = [] }
picture_unbound_2 = refl

whole_unbound_1 : whole unbound ≡ record { names = []; nodes = [] }
whole_unbound_1 = refl

-- ---- values without an identity, at names in byte order

picture_plain_1 : picture plain ((codes "Z") ∷ []) ≡ record { names = (((codes "Z"), (integer (pos 1))) ∷ []); nodes = [] }
picture_plain_1 = refl

picture_plain_2 : picture plain ((codes "_") ∷ []) ≡ record { names = (((codes "_"), none) ∷ []); nodes = [] }
picture_plain_2 = refl

picture_plain_3 : picture plain ((codes "a") ∷ []) ≡ record { names = (((codes "a"), (bool true)) ∷ []); nodes = [] }
picture_plain_3 = refl

picture_plain_4 : picture plain ((codes "a1") ∷ []) ≡ record { names = (((codes "a1"), (text (233 ∷ []))) ∷ []); nodes = [] }
picture_plain_4 = refl

picture_plain_5 : picture plain ((codes "aa") ∷ []) ≡ record { names = (((codes "aa"), (range (pos 0) (pos 3) (negsuc 0))) ∷ []); nodes = [] }
picture_plain_5 = refl

picture_plain_6 : picture plain ((codes "b") ∷ []) ≡ record { names = (((codes "b"), (builtin 10)) ∷ []); nodes = [] }
picture_plain_6 = refl

whole_plain_1 : whole plain ≡ record { names = (((codes "Z"), (integer (pos 1))) ∷ ((codes "_"), none) ∷ ((codes "a"), (bool true)) ∷ ((codes "a1"), (text (233 ∷ []))) ∷ ((codes "aa"), (range (pos 0) (pos 3) (negsuc 0))) ∷ ((codes "b"), (builtin 10)) ∷ ((codes "c"), (class 1)) ∷ []); nodes = [] }
whole_plain_1 = refl

-- ---- a = [1]; b = a

picture_shared_1 : picture shared ((codes "a") ∷ []) ≡ record { names = (((codes "a"), (node 0)) ∷ []); nodes = ((list ((integer (pos 1)) ∷ [])) ∷ []) }
picture_shared_1 = refl

picture_shared_2 : picture shared ((codes "b") ∷ []) ≡ record { names = (((codes "b"), (node 0)) ∷ []); nodes = ((list ((integer (pos 1)) ∷ [])) ∷ []) }
picture_shared_2 = refl

picture_shared_3 : picture shared ((codes "a") ∷ (codes "b") ∷ []) ≡ record { names = (((codes "a"), (node 0)) ∷ ((codes "b"), (node 0)) ∷ []); nodes = ((list ((integer (pos 1)) ∷ [])) ∷ []) }
picture_shared_3 = refl

picture_shared_4 : picture shared ((codes "b") ∷ (codes "zz") ∷ []) ≡ record { names = (((codes "b"), (node 0)) ∷ []); nodes = ((list ((integer (pos 1)) ∷ [])) ∷ []) }
picture_shared_4 = refl

whole_shared_1 : whole shared ≡ record { names = (((codes "a"), (node 0)) ∷ ((codes "b"), (node 0)) ∷ []); nodes = ((list ((integer (pos 1)) ∷ [])) ∷ []) }
whole_shared_1 = refl

-- ---- a = [1]; b = [1]

picture_apart_1 : picture apart ((codes "a") ∷ []) ≡ record { names = (((codes "a"), (node 0)) ∷ []); nodes = ((list ((integer (pos 1)) ∷ [])) ∷ []) }
picture_apart_1 = refl

picture_apart_2 : picture apart ((codes "b") ∷ []) ≡ record { names = (((codes "b"), (node 0)) ∷ []); nodes = ((list ((integer (pos 1)) ∷ [])) ∷ []) }
picture_apart_2 = refl

picture_apart_3 : picture apart ((codes "a") ∷ (codes "b") ∷ []) ≡ record { names = (((codes "a"), (node 0)) ∷ ((codes "b"), (node 1)) ∷ []); nodes = ((list ((integer (pos 1)) ∷ [])) ∷ (list ((integer (pos 1)) ∷ [])) ∷ []) }
picture_apart_3 = refl

picture_apart_4 : picture apart ((codes "b") ∷ (codes "zz") ∷ []) ≡ record { names = (((codes "b"), (node 0)) ∷ []); nodes = ((list ((integer (pos 1)) ∷ [])) ∷ []) }
picture_apart_4 = refl

whole_apart_1 : whole apart ≡ record { names = (((codes "a"), (node 0)) ∷ ((codes "b"), (node 1)) ∷ []); nodes = ((list ((integer (pos 1)) ∷ [])) ∷ (list ((integer (pos 1)) ∷ [])) ∷ []) }
whole_apart_1 = refl

-- ---- a = []; a.append(a)

picture_itself_1 : picture itself ((codes "a") ∷ []) ≡ record { names = (((codes "a"), (node 0)) ∷ []); nodes = ((list ((node 0) ∷ [])) ∷ []) }
picture_itself_1 = refl

picture_itself_2 : picture itself ((codes "zz") ∷ []) ≡ record { names = []; nodes = [] }
picture_itself_2 = refl

whole_itself_1 : whole itself ≡ record { names = (((codes "a"), (node 0)) ∷ []); nodes = ((list ((node 0) ∷ [])) ∷ []) }
whole_itself_1 = refl

-- ---- a and b hold each other

picture_round_1 : picture round ((codes "a") ∷ []) ≡ record { names = (((codes "a"), (node 0)) ∷ []); nodes = ((list ((node 1) ∷ [])) ∷ (list ((node 0) ∷ [])) ∷ []) }
picture_round_1 = refl

picture_round_2 : picture round ((codes "b") ∷ []) ≡ record { names = (((codes "b"), (node 0)) ∷ []); nodes = ((list ((node 1) ∷ [])) ∷ (list ((node 0) ∷ [])) ∷ []) }
picture_round_2 = refl

picture_round_3 : picture round ((codes "a") ∷ (codes "b") ∷ []) ≡ record { names = (((codes "a"), (node 0)) ∷ ((codes "b"), (node 1)) ∷ []); nodes = ((list ((node 1) ∷ [])) ∷ (list ((node 0) ∷ [])) ∷ []) }
picture_round_3 = refl

picture_round_4 : picture round ((codes "b") ∷ (codes "zz") ∷ []) ≡ record { names = (((codes "b"), (node 0)) ∷ []); nodes = ((list ((node 1) ∷ [])) ∷ (list ((node 0) ∷ [])) ∷ []) }
picture_round_4 = refl

whole_round_1 : whole round ≡ record { names = (((codes "a"), (node 0)) ∷ ((codes "b"), (node 1)) ∷ []); nodes = ((list ((node 1) ∷ [])) ∷ (list ((node 0) ∷ [])) ∷ []) }
whole_round_1 = refl

-- ---- x and z share nothing, and y holds both

picture_linked_1 : picture linked ((codes "x") ∷ []) ≡ record { names = (((codes "x"), (node 0)) ∷ []); nodes = ((list ((integer (pos 1)) ∷ [])) ∷ []) }
picture_linked_1 = refl

picture_linked_2 : picture linked ((codes "y") ∷ []) ≡ record { names = (((codes "y"), (node 0)) ∷ []); nodes = ((list ((node 1) ∷ (node 2) ∷ [])) ∷ (list ((integer (pos 1)) ∷ [])) ∷ (list ((integer (pos 2)) ∷ [])) ∷ []) }
picture_linked_2 = refl

picture_linked_3 : picture linked ((codes "z") ∷ []) ≡ record { names = (((codes "z"), (node 0)) ∷ []); nodes = ((list ((integer (pos 2)) ∷ [])) ∷ []) }
picture_linked_3 = refl

picture_linked_4 : picture linked ((codes "x") ∷ (codes "y") ∷ (codes "z") ∷ []) ≡ record { names = (((codes "x"), (node 0)) ∷ ((codes "y"), (node 1)) ∷ ((codes "z"), (node 2)) ∷ []); nodes = ((list ((integer (pos 1)) ∷ [])) ∷ (list ((node 0) ∷ (node 2) ∷ [])) ∷ (list ((integer (pos 2)) ∷ [])) ∷ []) }
picture_linked_4 = refl

picture_linked_5 : picture linked ((codes "x") ∷ (codes "z") ∷ []) ≡ record { names = (((codes "x"), (node 0)) ∷ ((codes "z"), (node 1)) ∷ []); nodes = ((list ((integer (pos 1)) ∷ [])) ∷ (list ((integer (pos 2)) ∷ [])) ∷ []) }
picture_linked_5 = refl

picture_linked_6 : picture linked ((codes "y") ∷ (codes "z") ∷ (codes "zz") ∷ []) ≡ record { names = (((codes "y"), (node 0)) ∷ ((codes "z"), (node 1)) ∷ []); nodes = ((list ((node 2) ∷ (node 1) ∷ [])) ∷ (list ((integer (pos 2)) ∷ [])) ∷ (list ((integer (pos 1)) ∷ [])) ∷ []) }
picture_linked_6 = refl

whole_linked_1 : whole linked ≡ record { names = (((codes "x"), (node 0)) ∷ ((codes "y"), (node 1)) ∷ ((codes "z"), (node 2)) ∷ []); nodes = ((list ((integer (pos 1)) ∷ [])) ∷ (list ((node 0) ∷ (node 2) ∷ [])) ∷ (list ((integer (pos 2)) ∷ [])) ∷ []) }
whole_linked_1 = refl

-- ---- as `linked`, with y bound to a number

picture_parted_1 : picture parted ((codes "x") ∷ []) ≡ record { names = (((codes "x"), (node 0)) ∷ []); nodes = ((list ((integer (pos 1)) ∷ [])) ∷ []) }
picture_parted_1 = refl

picture_parted_2 : picture parted ((codes "y") ∷ []) ≡ record { names = (((codes "y"), (integer (pos 0))) ∷ []); nodes = [] }
picture_parted_2 = refl

picture_parted_3 : picture parted ((codes "z") ∷ []) ≡ record { names = (((codes "z"), (node 0)) ∷ []); nodes = ((list ((integer (pos 2)) ∷ [])) ∷ []) }
picture_parted_3 = refl

picture_parted_4 : picture parted ((codes "x") ∷ (codes "y") ∷ (codes "z") ∷ []) ≡ record { names = (((codes "x"), (node 0)) ∷ ((codes "y"), (integer (pos 0))) ∷ ((codes "z"), (node 1)) ∷ []); nodes = ((list ((integer (pos 1)) ∷ [])) ∷ (list ((integer (pos 2)) ∷ [])) ∷ []) }
picture_parted_4 = refl

picture_parted_5 : picture parted ((codes "x") ∷ (codes "z") ∷ []) ≡ record { names = (((codes "x"), (node 0)) ∷ ((codes "z"), (node 1)) ∷ []); nodes = ((list ((integer (pos 1)) ∷ [])) ∷ (list ((integer (pos 2)) ∷ [])) ∷ []) }
picture_parted_5 = refl

picture_parted_6 : picture parted ((codes "y") ∷ (codes "z") ∷ (codes "zz") ∷ []) ≡ record { names = (((codes "y"), (integer (pos 0))) ∷ ((codes "z"), (node 0)) ∷ []); nodes = ((list ((integer (pos 2)) ∷ [])) ∷ []) }
picture_parted_6 = refl

whole_parted_1 : whole parted ≡ record { names = (((codes "x"), (node 0)) ∷ ((codes "y"), (integer (pos 0))) ∷ ((codes "z"), (node 1)) ∷ []); nodes = ((list ((integer (pos 1)) ∷ [])) ∷ (list ((integer (pos 2)) ∷ [])) ∷ []) }
whole_parted_1 = refl

-- ---- a list is a function's default and p's value

picture_default_1 : picture default ((codes "g") ∷ []) ≡ record { names = (((codes "g"), (node 0)) ∷ []); nodes = ((function One (codes "def g(x, acc=[]): return acc") ((node 1) ∷ [])) ∷ (list ((integer (pos 7)) ∷ [])) ∷ []) }
picture_default_1 = refl

picture_default_2 : picture default ((codes "p") ∷ []) ≡ record { names = (((codes "p"), (node 0)) ∷ []); nodes = ((list ((integer (pos 7)) ∷ [])) ∷ []) }
picture_default_2 = refl

picture_default_3 : picture default ((codes "q") ∷ []) ≡ record { names = (((codes "q"), (node 0)) ∷ []); nodes = ((list ((integer (pos 7)) ∷ [])) ∷ []) }
picture_default_3 = refl

picture_default_4 : picture default ((codes "g") ∷ (codes "p") ∷ (codes "q") ∷ []) ≡ record { names = (((codes "g"), (node 0)) ∷ ((codes "p"), (node 1)) ∷ ((codes "q"), (node 2)) ∷ []); nodes = ((function One (codes "def g(x, acc=[]): return acc") ((node 1) ∷ [])) ∷ (list ((integer (pos 7)) ∷ [])) ∷ (list ((integer (pos 7)) ∷ [])) ∷ []) }
picture_default_4 = refl

picture_default_5 : picture default ((codes "g") ∷ (codes "q") ∷ []) ≡ record { names = (((codes "g"), (node 0)) ∷ ((codes "q"), (node 1)) ∷ []); nodes = ((function One (codes "def g(x, acc=[]): return acc") ((node 2) ∷ [])) ∷ (list ((integer (pos 7)) ∷ [])) ∷ (list ((integer (pos 7)) ∷ [])) ∷ []) }
picture_default_5 = refl

picture_default_6 : picture default ((codes "p") ∷ (codes "q") ∷ (codes "zz") ∷ []) ≡ record { names = (((codes "p"), (node 0)) ∷ ((codes "q"), (node 1)) ∷ []); nodes = ((list ((integer (pos 7)) ∷ [])) ∷ (list ((integer (pos 7)) ∷ [])) ∷ []) }
picture_default_6 = refl

whole_default_1 : whole default ≡ record { names = (((codes "g"), (node 0)) ∷ ((codes "p"), (node 1)) ∷ ((codes "q"), (node 2)) ∷ []); nodes = ((function One (codes "def g(x, acc=[]): return acc") ((node 1) ∷ [])) ∷ (list ((integer (pos 7)) ∷ [])) ∷ (list ((integer (pos 7)) ∷ [])) ∷ []) }
whole_default_1 = refl

-- ---- two functions have one default

picture_defaults_1 : picture defaults ((codes "f") ∷ []) ≡ record { names = (((codes "f"), (node 0)) ∷ []); nodes = ((function One (codes "def f(a=1, b=[]): pass") ((integer (pos 1)) ∷ (node 1) ∷ [])) ∷ (list []) ∷ []) }
picture_defaults_1 = refl

picture_defaults_2 : picture defaults ((codes "g") ∷ []) ≡ record { names = (((codes "g"), (node 0)) ∷ []); nodes = ((function One (codes "def g(b=[]): pass") ((node 1) ∷ [])) ∷ (list []) ∷ []) }
picture_defaults_2 = refl

picture_defaults_3 : picture defaults ((codes "f") ∷ (codes "g") ∷ []) ≡ record { names = (((codes "f"), (node 0)) ∷ ((codes "g"), (node 1)) ∷ []); nodes = ((function One (codes "def f(a=1, b=[]): pass") ((integer (pos 1)) ∷ (node 2) ∷ [])) ∷ (function One (codes "def g(b=[]): pass") ((node 2) ∷ [])) ∷ (list []) ∷ []) }
picture_defaults_3 = refl

picture_defaults_4 : picture defaults ((codes "g") ∷ (codes "zz") ∷ []) ≡ record { names = (((codes "g"), (node 0)) ∷ []); nodes = ((function One (codes "def g(b=[]): pass") ((node 1) ∷ [])) ∷ (list []) ∷ []) }
picture_defaults_4 = refl

whole_defaults_1 : whole defaults ≡ record { names = (((codes "f"), (node 0)) ∷ ((codes "g"), (node 1)) ∷ []); nodes = ((function One (codes "def f(a=1, b=[]): pass") ((integer (pos 1)) ∷ (node 2) ∷ [])) ∷ (function One (codes "def g(b=[]): pass") ((node 2) ∷ [])) ∷ (list []) ∷ []) }
whole_defaults_1 = refl

-- ---- a dict has a tuple for a key, which is no node, and a list at two of its keys

picture_keyed_1 : picture keyed ((codes "d") ∷ []) ≡ record { names = (((codes "d"), (node 0)) ∷ []); nodes = ((dict (((k.tuple ((k.integer (pos 1)) ∷ (k.text (233 ∷ [])) ∷ [])), (node 1)) ∷ ((k.single k.none), (node 2)) ∷ ((k.single (k.integer (negsuc 0))), (node 1)) ∷ [])) ∷ (list []) ∷ (tuple []) ∷ []) }
picture_keyed_1 = refl

picture_keyed_2 : picture keyed ((codes "e") ∷ []) ≡ record { names = (((codes "e"), (node 0)) ∷ []); nodes = ((list []) ∷ []) }
picture_keyed_2 = refl

picture_keyed_3 : picture keyed ((codes "t") ∷ []) ≡ record { names = (((codes "t"), (node 0)) ∷ []); nodes = ((tuple ((integer (pos 1)) ∷ (text (233 ∷ [])) ∷ [])) ∷ []) }
picture_keyed_3 = refl

picture_keyed_4 : picture keyed ((codes "d") ∷ (codes "e") ∷ (codes "t") ∷ []) ≡ record { names = (((codes "d"), (node 0)) ∷ ((codes "e"), (node 1)) ∷ ((codes "t"), (node 2)) ∷ []); nodes = ((dict (((k.tuple ((k.integer (pos 1)) ∷ (k.text (233 ∷ [])) ∷ [])), (node 1)) ∷ ((k.single k.none), (node 3)) ∷ ((k.single (k.integer (negsuc 0))), (node 1)) ∷ [])) ∷ (list []) ∷ (tuple ((integer (pos 1)) ∷ (text (233 ∷ [])) ∷ [])) ∷ (tuple []) ∷ []) }
picture_keyed_4 = refl

picture_keyed_5 : picture keyed ((codes "d") ∷ (codes "t") ∷ []) ≡ record { names = (((codes "d"), (node 0)) ∷ ((codes "t"), (node 1)) ∷ []); nodes = ((dict (((k.tuple ((k.integer (pos 1)) ∷ (k.text (233 ∷ [])) ∷ [])), (node 2)) ∷ ((k.single k.none), (node 3)) ∷ ((k.single (k.integer (negsuc 0))), (node 2)) ∷ [])) ∷ (tuple ((integer (pos 1)) ∷ (text (233 ∷ [])) ∷ [])) ∷ (list []) ∷ (tuple []) ∷ []) }
picture_keyed_5 = refl

picture_keyed_6 : picture keyed ((codes "e") ∷ (codes "t") ∷ (codes "zz") ∷ []) ≡ record { names = (((codes "e"), (node 0)) ∷ ((codes "t"), (node 1)) ∷ []); nodes = ((list []) ∷ (tuple ((integer (pos 1)) ∷ (text (233 ∷ [])) ∷ [])) ∷ []) }
picture_keyed_6 = refl

whole_keyed_1 : whole keyed ≡ record { names = (((codes "d"), (node 0)) ∷ ((codes "e"), (node 1)) ∷ ((codes "t"), (node 2)) ∷ []); nodes = ((dict (((k.tuple ((k.integer (pos 1)) ∷ (k.text (233 ∷ [])) ∷ [])), (node 1)) ∷ ((k.single k.none), (node 3)) ∷ ((k.single (k.integer (negsuc 0))), (node 1)) ∷ [])) ∷ (list []) ∷ (tuple ((integer (pos 1)) ∷ (text (233 ∷ [])) ∷ [])) ∷ (tuple []) ∷ []) }
whole_keyed_1 = refl

-- ---- an exception holds a list that e is, too

picture_raised_1 : picture raised ((codes "e") ∷ []) ≡ record { names = (((codes "e"), (node 0)) ∷ []); nodes = ((list ((text (codes "no")) ∷ [])) ∷ []) }
picture_raised_1 = refl

picture_raised_2 : picture raised ((codes "x") ∷ []) ≡ record { names = (((codes "x"), (node 0)) ∷ []); nodes = ((exception 24 ((node 1) ∷ (integer (pos 1)) ∷ [])) ∷ (list ((text (codes "no")) ∷ [])) ∷ []) }
picture_raised_2 = refl

picture_raised_3 : picture raised ((codes "y") ∷ []) ≡ record { names = (((codes "y"), (node 0)) ∷ []); nodes = ((exception 16 ((text (codes "no")) ∷ [])) ∷ []) }
picture_raised_3 = refl

picture_raised_4 : picture raised ((codes "e") ∷ (codes "x") ∷ (codes "y") ∷ []) ≡ record { names = (((codes "e"), (node 0)) ∷ ((codes "x"), (node 1)) ∷ ((codes "y"), (node 2)) ∷ []); nodes = ((list ((text (codes "no")) ∷ [])) ∷ (exception 24 ((node 0) ∷ (integer (pos 1)) ∷ [])) ∷ (exception 16 ((text (codes "no")) ∷ [])) ∷ []) }
picture_raised_4 = refl

picture_raised_5 : picture raised ((codes "e") ∷ (codes "y") ∷ []) ≡ record { names = (((codes "e"), (node 0)) ∷ ((codes "y"), (node 1)) ∷ []); nodes = ((list ((text (codes "no")) ∷ [])) ∷ (exception 16 ((text (codes "no")) ∷ [])) ∷ []) }
picture_raised_5 = refl

picture_raised_6 : picture raised ((codes "x") ∷ (codes "y") ∷ (codes "zz") ∷ []) ≡ record { names = (((codes "x"), (node 0)) ∷ ((codes "y"), (node 1)) ∷ []); nodes = ((exception 24 ((node 2) ∷ (integer (pos 1)) ∷ [])) ∷ (exception 16 ((text (codes "no")) ∷ [])) ∷ (list ((text (codes "no")) ∷ [])) ∷ []) }
picture_raised_6 = refl

whole_raised_1 : whole raised ≡ record { names = (((codes "e"), (node 0)) ∷ ((codes "x"), (node 1)) ∷ ((codes "y"), (node 2)) ∷ []); nodes = ((list ((text (codes "no")) ∷ [])) ∷ (exception 24 ((node 0) ∷ (integer (pos 1)) ∷ [])) ∷ (exception 16 ((text (codes "no")) ∷ [])) ∷ []) }
whole_raised_1 = refl

-- ---- an object holds itself, and a list that holds it

picture_object_round_1 : picture object_round ((codes "o") ∷ []) ≡ record { names = (((codes "o"), (node 0)) ∷ []); nodes = ((object (((codes "left"), (node 1)) ∷ ((codes "self"), (node 0)) ∷ [])) ∷ (list ((node 0) ∷ [])) ∷ []) }
picture_object_round_1 = refl

picture_object_round_2 : picture object_round ((codes "zz") ∷ []) ≡ record { names = []; nodes = [] }
picture_object_round_2 = refl

whole_object_round_1 : whole object_round ≡ record { names = (((codes "o"), (node 0)) ∷ []); nodes = ((object (((codes "left"), (node 1)) ∷ ((codes "self"), (node 0)) ∷ [])) ∷ (list ((node 0) ∷ [])) ∷ []) }
whole_object_round_1 = refl

-- ---- what is near comes before what is deep

picture_wide_1 : picture wide ((codes "a") ∷ []) ≡ record { names = (((codes "a"), (node 0)) ∷ []); nodes = ((list ((node 1) ∷ (node 2) ∷ (node 3) ∷ [])) ∷ (list ((node 4) ∷ [])) ∷ (list ((integer (pos 2)) ∷ [])) ∷ (list ((text (codes "x")) ∷ [])) ∷ (list ((node 3) ∷ [])) ∷ []) }
picture_wide_1 = refl

picture_wide_2 : picture wide ((codes "b") ∷ []) ≡ record { names = (((codes "b"), (node 0)) ∷ []); nodes = ((dict (((k.single (k.text (codes "k"))), (node 1)) ∷ [])) ∷ (list ((node 2) ∷ [])) ∷ (list ((text (codes "x")) ∷ [])) ∷ []) }
picture_wide_2 = refl

picture_wide_3 : picture wide ((codes "a") ∷ (codes "b") ∷ []) ≡ record { names = (((codes "a"), (node 0)) ∷ ((codes "b"), (node 1)) ∷ []); nodes = ((list ((node 2) ∷ (node 3) ∷ (node 4) ∷ [])) ∷ (dict (((k.single (k.text (codes "k"))), (node 5)) ∷ [])) ∷ (list ((node 6) ∷ [])) ∷ (list ((integer (pos 2)) ∷ [])) ∷ (list ((text (codes "x")) ∷ [])) ∷ (list ((node 4) ∷ [])) ∷ (list ((node 4) ∷ [])) ∷ []) }
picture_wide_3 = refl

picture_wide_4 : picture wide ((codes "b") ∷ (codes "zz") ∷ []) ≡ record { names = (((codes "b"), (node 0)) ∷ []); nodes = ((dict (((k.single (k.text (codes "k"))), (node 1)) ∷ [])) ∷ (list ((node 2) ∷ [])) ∷ (list ((text (codes "x")) ∷ [])) ∷ []) }
picture_wide_4 = refl

whole_wide_1 : whole wide ≡ record { names = (((codes "a"), (node 0)) ∷ ((codes "b"), (node 1)) ∷ []); nodes = ((list ((node 2) ∷ (node 3) ∷ (node 4) ∷ [])) ∷ (dict (((k.single (k.text (codes "k"))), (node 5)) ∷ [])) ∷ (list ((node 6) ∷ [])) ∷ (list ((integer (pos 2)) ∷ [])) ∷ (list ((text (codes "x")) ∷ [])) ∷ (list ((node 4) ∷ [])) ∷ (list ((node 4) ∷ [])) ∷ []) }
whole_wide_1 = refl

-- ---- one list is reached in three ways

picture_diamond_1 : picture diamond ((codes "t") ∷ []) ≡ record { names = (((codes "t"), (node 0)) ∷ []); nodes = ((list ((node 1) ∷ (node 2) ∷ (node 3) ∷ (node 3) ∷ [])) ∷ (list ((node 3) ∷ [])) ∷ (list ((node 3) ∷ [])) ∷ (list []) ∷ []) }
picture_diamond_1 = refl

picture_diamond_2 : picture diamond ((codes "zz") ∷ []) ≡ record { names = []; nodes = [] }
picture_diamond_2 = refl

whole_diamond_1 : whole diamond ≡ record { names = (((codes "t"), (node 0)) ∷ []); nodes = ((list ((node 1) ∷ (node 2) ∷ (node 3) ∷ (node 3) ∷ [])) ∷ (list ((node 3) ∷ [])) ∷ (list ((node 3) ∷ [])) ∷ (list []) ∷ []) }
whole_diamond_1 = refl

-- ---- b is what lies inside a

picture_inside_1 : picture inside ((codes "a") ∷ []) ≡ record { names = (((codes "a"), (node 0)) ∷ []); nodes = ((list ((node 1) ∷ (node 2) ∷ [])) ∷ (list ((node 2) ∷ [])) ∷ (tuple ((node 3) ∷ [])) ∷ (list ((integer (pos 1)) ∷ [])) ∷ []) }
picture_inside_1 = refl

picture_inside_2 : picture inside ((codes "b") ∷ []) ≡ record { names = (((codes "b"), (node 0)) ∷ []); nodes = ((tuple ((node 1) ∷ [])) ∷ (list ((integer (pos 1)) ∷ [])) ∷ []) }
picture_inside_2 = refl

picture_inside_3 : picture inside ((codes "c") ∷ []) ≡ record { names = (((codes "c"), (node 0)) ∷ []); nodes = ((list ((node 1) ∷ [])) ∷ (list ((integer (pos 1)) ∷ [])) ∷ []) }
picture_inside_3 = refl

picture_inside_4 : picture inside ((codes "a") ∷ (codes "b") ∷ (codes "c") ∷ []) ≡ record { names = (((codes "a"), (node 0)) ∷ ((codes "b"), (node 1)) ∷ ((codes "c"), (node 2)) ∷ []); nodes = ((list ((node 3) ∷ (node 1) ∷ [])) ∷ (tuple ((node 4) ∷ [])) ∷ (list ((node 4) ∷ [])) ∷ (list ((node 1) ∷ [])) ∷ (list ((integer (pos 1)) ∷ [])) ∷ []) }
picture_inside_4 = refl

picture_inside_5 : picture inside ((codes "a") ∷ (codes "c") ∷ []) ≡ record { names = (((codes "a"), (node 0)) ∷ ((codes "c"), (node 1)) ∷ []); nodes = ((list ((node 2) ∷ (node 3) ∷ [])) ∷ (list ((node 4) ∷ [])) ∷ (list ((node 3) ∷ [])) ∷ (tuple ((node 4) ∷ [])) ∷ (list ((integer (pos 1)) ∷ [])) ∷ []) }
picture_inside_5 = refl

picture_inside_6 : picture inside ((codes "b") ∷ (codes "c") ∷ (codes "zz") ∷ []) ≡ record { names = (((codes "b"), (node 0)) ∷ ((codes "c"), (node 1)) ∷ []); nodes = ((tuple ((node 2) ∷ [])) ∷ (list ((node 2) ∷ [])) ∷ (list ((integer (pos 1)) ∷ [])) ∷ []) }
picture_inside_6 = refl

whole_inside_1 : whole inside ≡ record { names = (((codes "a"), (node 0)) ∷ ((codes "b"), (node 1)) ∷ ((codes "c"), (node 2)) ∷ []); nodes = ((list ((node 3) ∷ (node 1) ∷ [])) ∷ (tuple ((node 4) ∷ [])) ∷ (list ((node 4) ∷ [])) ∷ (list ((node 1) ∷ [])) ∷ (list ((integer (pos 1)) ∷ [])) ∷ []) }
whole_inside_1 = refl

-- ---- equal tuples, each a node of its own

picture_equal_1 : picture equal ((codes "a") ∷ []) ≡ record { names = (((codes "a"), (node 0)) ∷ []); nodes = ((tuple ((integer (pos 1)) ∷ (integer (pos 2)) ∷ [])) ∷ []) }
picture_equal_1 = refl

picture_equal_2 : picture equal ((codes "b") ∷ []) ≡ record { names = (((codes "b"), (node 0)) ∷ []); nodes = ((tuple ((integer (pos 1)) ∷ (integer (pos 2)) ∷ [])) ∷ []) }
picture_equal_2 = refl

picture_equal_3 : picture equal ((codes "c") ∷ []) ≡ record { names = (((codes "c"), (node 0)) ∷ []); nodes = ((list ((node 1) ∷ [])) ∷ (tuple ((integer (pos 1)) ∷ (integer (pos 2)) ∷ [])) ∷ []) }
picture_equal_3 = refl

picture_equal_4 : picture equal ((codes "a") ∷ (codes "b") ∷ (codes "c") ∷ []) ≡ record { names = (((codes "a"), (node 0)) ∷ ((codes "b"), (node 1)) ∷ ((codes "c"), (node 2)) ∷ []); nodes = ((tuple ((integer (pos 1)) ∷ (integer (pos 2)) ∷ [])) ∷ (tuple ((integer (pos 1)) ∷ (integer (pos 2)) ∷ [])) ∷ (list ((node 3) ∷ [])) ∷ (tuple ((integer (pos 1)) ∷ (integer (pos 2)) ∷ [])) ∷ []) }
picture_equal_4 = refl

picture_equal_5 : picture equal ((codes "a") ∷ (codes "c") ∷ []) ≡ record { names = (((codes "a"), (node 0)) ∷ ((codes "c"), (node 1)) ∷ []); nodes = ((tuple ((integer (pos 1)) ∷ (integer (pos 2)) ∷ [])) ∷ (list ((node 2) ∷ [])) ∷ (tuple ((integer (pos 1)) ∷ (integer (pos 2)) ∷ [])) ∷ []) }
picture_equal_5 = refl

picture_equal_6 : picture equal ((codes "b") ∷ (codes "c") ∷ (codes "zz") ∷ []) ≡ record { names = (((codes "b"), (node 0)) ∷ ((codes "c"), (node 1)) ∷ []); nodes = ((tuple ((integer (pos 1)) ∷ (integer (pos 2)) ∷ [])) ∷ (list ((node 2) ∷ [])) ∷ (tuple ((integer (pos 1)) ∷ (integer (pos 2)) ∷ [])) ∷ []) }
picture_equal_6 = refl

whole_equal_1 : whole equal ≡ record { names = (((codes "a"), (node 0)) ∷ ((codes "b"), (node 1)) ∷ ((codes "c"), (node 2)) ∷ []); nodes = ((tuple ((integer (pos 1)) ∷ (integer (pos 2)) ∷ [])) ∷ (tuple ((integer (pos 1)) ∷ (integer (pos 2)) ∷ [])) ∷ (list ((node 3) ∷ [])) ∷ (tuple ((integer (pos 1)) ∷ (integer (pos 2)) ∷ [])) ∷ []) }
whole_equal_1 = refl

-- ---- each name shares a node with the next alone

picture_long_chain_1 : picture long_chain ((codes "n0") ∷ []) ≡ record { names = (((codes "n0"), (node 0)) ∷ []); nodes = ((list ((node 1) ∷ (node 2) ∷ [])) ∷ (list ((integer (pos 0)) ∷ [])) ∷ (list ((integer (pos 1)) ∷ [])) ∷ []) }
picture_long_chain_1 = refl

picture_long_chain_2 : picture long_chain ((codes "n1") ∷ []) ≡ record { names = (((codes "n1"), (node 0)) ∷ []); nodes = ((list ((node 1) ∷ (node 2) ∷ [])) ∷ (list ((integer (pos 1)) ∷ [])) ∷ (list ((integer (pos 2)) ∷ [])) ∷ []) }
picture_long_chain_2 = refl

picture_long_chain_3 : picture long_chain ((codes "n2") ∷ []) ≡ record { names = (((codes "n2"), (node 0)) ∷ []); nodes = ((list ((node 1) ∷ (node 2) ∷ [])) ∷ (list ((integer (pos 2)) ∷ [])) ∷ (list ((integer (pos 3)) ∷ [])) ∷ []) }
picture_long_chain_3 = refl

picture_long_chain_4 : picture long_chain ((codes "n3") ∷ []) ≡ record { names = (((codes "n3"), (node 0)) ∷ []); nodes = ((list ((node 1) ∷ (node 2) ∷ [])) ∷ (list ((integer (pos 3)) ∷ [])) ∷ (list ((integer (pos 4)) ∷ [])) ∷ []) }
picture_long_chain_4 = refl

picture_long_chain_5 : picture long_chain ((codes "n4") ∷ []) ≡ record { names = (((codes "n4"), (node 0)) ∷ []); nodes = ((list ((node 1) ∷ (node 2) ∷ [])) ∷ (list ((integer (pos 4)) ∷ [])) ∷ (list ((integer (pos 5)) ∷ [])) ∷ []) }
picture_long_chain_5 = refl

picture_long_chain_6 : picture long_chain ((codes "n0") ∷ (codes "n1") ∷ (codes "n2") ∷ (codes "n3") ∷ (codes "n4") ∷ []) ≡ record { names = (((codes "n0"), (node 0)) ∷ ((codes "n1"), (node 1)) ∷ ((codes "n2"), (node 2)) ∷ ((codes "n3"), (node 3)) ∷ ((codes "n4"), (node 4)) ∷ []); nodes = ((list ((node 5) ∷ (node 6) ∷ [])) ∷ (list ((node 6) ∷ (node 7) ∷ [])) ∷ (list ((node 7) ∷ (node 8) ∷ [])) ∷ (list ((node 8) ∷ (node 9) ∷ [])) ∷ (list ((node 9) ∷ (node 10) ∷ [])) ∷ (list ((integer (pos 0)) ∷ [])) ∷ (list ((integer (pos 1)) ∷ [])) ∷ (list ((integer (pos 2)) ∷ [])) ∷ (list ((integer (pos 3)) ∷ [])) ∷ (list ((integer (pos 4)) ∷ [])) ∷ (list ((integer (pos 5)) ∷ [])) ∷ []) }
picture_long_chain_6 = refl

whole_long_chain_1 : whole long_chain ≡ record { names = (((codes "n0"), (node 0)) ∷ ((codes "n1"), (node 1)) ∷ ((codes "n2"), (node 2)) ∷ ((codes "n3"), (node 3)) ∷ ((codes "n4"), (node 4)) ∷ []); nodes = ((list ((node 5) ∷ (node 6) ∷ [])) ∷ (list ((node 6) ∷ (node 7) ∷ [])) ∷ (list ((node 7) ∷ (node 8) ∷ [])) ∷ (list ((node 8) ∷ (node 9) ∷ [])) ∷ (list ((node 9) ∷ (node 10) ∷ [])) ∷ (list ((integer (pos 0)) ∷ [])) ∷ (list ((integer (pos 1)) ∷ [])) ∷ (list ((integer (pos 2)) ∷ [])) ∷ (list ((integer (pos 3)) ∷ [])) ∷ (list ((integer (pos 4)) ∷ [])) ∷ (list ((integer (pos 5)) ∷ [])) ∷ []) }
whole_long_chain_1 = refl

-- ---- a holds one list twice, and an equal one

picture_twice_1 : picture twice ((codes "a") ∷ []) ≡ record { names = (((codes "a"), (node 0)) ∷ []); nodes = ((list ((node 1) ∷ (node 1) ∷ (node 2) ∷ [])) ∷ (list ((integer (pos 1)) ∷ [])) ∷ (list ((integer (pos 1)) ∷ [])) ∷ []) }
picture_twice_1 = refl

picture_twice_2 : picture twice ((codes "zz") ∷ []) ≡ record { names = []; nodes = [] }
picture_twice_2 = refl

whole_twice_1 : whole twice ≡ record { names = (((codes "a"), (node 0)) ∷ []); nodes = ((list ((node 1) ∷ (node 1) ∷ (node 2) ∷ [])) ∷ (list ((integer (pos 1)) ∷ [])) ∷ (list ((integer (pos 1)) ∷ [])) ∷ []) }
whole_twice_1 = refl

-- ---- the same with other numbers

picture_twice_there_1 : picture twice_there ((codes "a") ∷ []) ≡ record { names = (((codes "a"), (node 0)) ∷ []); nodes = ((list ((node 1) ∷ (node 1) ∷ (node 2) ∷ [])) ∷ (list ((integer (pos 1)) ∷ [])) ∷ (list ((integer (pos 1)) ∷ [])) ∷ []) }
picture_twice_there_1 = refl

picture_twice_there_2 : picture twice_there ((codes "zz") ∷ []) ≡ record { names = []; nodes = [] }
picture_twice_there_2 = refl

whole_twice_there_1 : whole twice_there ≡ record { names = (((codes "a"), (node 0)) ∷ []); nodes = ((list ((node 1) ∷ (node 1) ∷ (node 2) ∷ [])) ∷ (list ((integer (pos 1)) ∷ [])) ∷ (list ((integer (pos 1)) ∷ [])) ∷ []) }
whole_twice_there_1 = refl

-- ---- a holds one list three times

picture_thrice_1 : picture thrice ((codes "a") ∷ []) ≡ record { names = (((codes "a"), (node 0)) ∷ []); nodes = ((list ((node 1) ∷ (node 1) ∷ (node 1) ∷ [])) ∷ (list ((integer (pos 1)) ∷ [])) ∷ []) }
picture_thrice_1 = refl

picture_thrice_2 : picture thrice ((codes "zz") ∷ []) ≡ record { names = []; nodes = [] }
picture_thrice_2 = refl

whole_thrice_1 : whole thrice ≡ record { names = (((codes "a"), (node 0)) ∷ []); nodes = ((list ((node 1) ∷ (node 1) ∷ (node 1) ∷ [])) ∷ (list ((integer (pos 1)) ∷ [])) ∷ []) }
whole_thrice_1 = refl

-- ---- a holds three lists

picture_once_each_1 : picture once_each ((codes "a") ∷ []) ≡ record { names = (((codes "a"), (node 0)) ∷ []); nodes = ((list ((node 1) ∷ (node 2) ∷ (node 3) ∷ [])) ∷ (list ((integer (pos 1)) ∷ [])) ∷ (list ((integer (pos 1)) ∷ [])) ∷ (list ((integer (pos 1)) ∷ [])) ∷ []) }
picture_once_each_1 = refl

picture_once_each_2 : picture once_each ((codes "zz") ∷ []) ≡ record { names = []; nodes = [] }
picture_once_each_2 = refl

whole_once_each_1 : whole once_each ≡ record { names = (((codes "a"), (node 0)) ∷ []); nodes = ((list ((node 1) ∷ (node 2) ∷ (node 3) ∷ [])) ∷ (list ((integer (pos 1)) ∷ [])) ∷ (list ((integer (pos 1)) ∷ [])) ∷ (list ((integer (pos 1)) ∷ [])) ∷ []) }
whole_once_each_1 = refl

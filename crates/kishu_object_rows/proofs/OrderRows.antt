-- The nodes that names reach, in the order of first meeting: computed on the definition. Made by tools/rows/object_rows.py.
use Rattle.std.specs.Prelude.{◌≡◌, [], ◌∷◌, codes, refl}
use Rattle.kishu_objects.specs.Picture.{order}
use Rattle.kishu_object_rows.proofs.States.{unbound, plain, shared, apart, itself, round, linked, parted, default, defaults, keyed, raised, object_round, wide, diamond, inside, equal, long_chain, twice, twice_there, thrice, once_each}

-- ---- no name is bound, and one node stands

order_unbound_1 : order unbound [] ≡ []
order_unbound_1 = refl

order_unbound_2 : order unbound ((codes "zz") ∷ []) ≡ []
order_unbound_2 = refl

-- ---- values without an identity, at names in byte order

order_plain_1 : order plain ((codes "Z") ∷ []) ≡ []
order_plain_1 = refl

order_plain_2 : order plain ((codes "_") ∷ []) ≡ []
order_plain_2 = refl

order_plain_3 : order plain ((codes "a") ∷ []) ≡ []
order_plain_3 = refl

order_plain_4 : order plain ((codes "a1") ∷ []) ≡ []
order_plain_4 = refl

order_plain_5 : order plain ((codes "aa") ∷ []) ≡ []
order_plain_5 = refl

order_plain_6 : order plain ((codes "b") ∷ []) ≡ []
order_plain_6 = refl

order_plain_7 : order plain ((codes "c") ∷ []) ≡ []
order_plain_7 = refl

order_plain_8 : order plain ((codes "Z") ∷ (codes "_") ∷ (codes "a") ∷ (codes "a1") ∷ (codes "aa") ∷ (codes "b") ∷ (codes "c") ∷ []) ≡ []
order_plain_8 = refl

order_plain_9 : order plain ((codes "Z") ∷ (codes "c") ∷ []) ≡ []
order_plain_9 = refl

order_plain_10 : order plain ((codes "_") ∷ (codes "a") ∷ (codes "a1") ∷ (codes "aa") ∷ (codes "b") ∷ (codes "c") ∷ (codes "zz") ∷ []) ≡ []
order_plain_10 = refl

-- ---- a = [1]; b = a

order_shared_1 : order shared ((codes "a") ∷ []) ≡ (1 ∷ [])
order_shared_1 = refl

order_shared_2 : order shared ((codes "b") ∷ []) ≡ (1 ∷ [])
order_shared_2 = refl

order_shared_3 : order shared ((codes "a") ∷ (codes "b") ∷ []) ≡ (1 ∷ [])
order_shared_3 = refl

order_shared_4 : order shared ((codes "b") ∷ (codes "zz") ∷ []) ≡ (1 ∷ [])
order_shared_4 = refl

-- ---- a = [1]; b = [1]

order_apart_1 : order apart ((codes "a") ∷ []) ≡ (0 ∷ [])
order_apart_1 = refl

order_apart_2 : order apart ((codes "b") ∷ []) ≡ (1 ∷ [])
order_apart_2 = refl

order_apart_3 : order apart ((codes "a") ∷ (codes "b") ∷ []) ≡ (0 ∷ 1 ∷ [])
order_apart_3 = refl

order_apart_4 : order apart ((codes "b") ∷ (codes "zz") ∷ []) ≡ (1 ∷ [])
order_apart_4 = refl

-- ---- a = []; a.append(a)

order_itself_1 : order itself ((codes "a") ∷ []) ≡ (0 ∷ [])
order_itself_1 = refl

order_itself_2 : order itself ((codes "zz") ∷ []) ≡ []
order_itself_2 = refl

-- ---- a and b hold each other

order_round_1 : order round ((codes "a") ∷ []) ≡ (1 ∷ 0 ∷ [])
order_round_1 = refl

order_round_2 : order round ((codes "b") ∷ []) ≡ (0 ∷ 1 ∷ [])
order_round_2 = refl

order_round_3 : order round ((codes "a") ∷ (codes "b") ∷ []) ≡ (1 ∷ 0 ∷ [])
order_round_3 = refl

order_round_4 : order round ((codes "b") ∷ (codes "zz") ∷ []) ≡ (0 ∷ 1 ∷ [])
order_round_4 = refl

-- ---- x and z share nothing, and y holds both

order_linked_1 : order linked ((codes "x") ∷ []) ≡ (2 ∷ [])
order_linked_1 = refl

order_linked_2 : order linked ((codes "y") ∷ []) ≡ (1 ∷ 2 ∷ 0 ∷ [])
order_linked_2 = refl

order_linked_3 : order linked ((codes "z") ∷ []) ≡ (0 ∷ [])
order_linked_3 = refl

order_linked_4 : order linked ((codes "x") ∷ (codes "y") ∷ (codes "z") ∷ []) ≡ (2 ∷ 1 ∷ 0 ∷ [])
order_linked_4 = refl

order_linked_5 : order linked ((codes "x") ∷ (codes "z") ∷ []) ≡ (2 ∷ 0 ∷ [])
order_linked_5 = refl

order_linked_6 : order linked ((codes "y") ∷ (codes "z") ∷ (codes "zz") ∷ []) ≡ (1 ∷ 0 ∷ 2 ∷ [])
order_linked_6 = refl

-- ---- as `linked`, with y bound to a number

order_parted_1 : order parted ((codes "x") ∷ []) ≡ (1 ∷ [])
order_parted_1 = refl

order_parted_2 : order parted ((codes "y") ∷ []) ≡ []
order_parted_2 = refl

order_parted_3 : order parted ((codes "z") ∷ []) ≡ (2 ∷ [])
order_parted_3 = refl

order_parted_4 : order parted ((codes "x") ∷ (codes "y") ∷ (codes "z") ∷ []) ≡ (1 ∷ 2 ∷ [])
order_parted_4 = refl

order_parted_5 : order parted ((codes "x") ∷ (codes "z") ∷ []) ≡ (1 ∷ 2 ∷ [])
order_parted_5 = refl

order_parted_6 : order parted ((codes "y") ∷ (codes "z") ∷ (codes "zz") ∷ []) ≡ (2 ∷ [])
order_parted_6 = refl

-- ---- a list is a function's default and p's value

order_default_1 : order default ((codes "g") ∷ []) ≡ (0 ∷ 1 ∷ [])
order_default_1 = refl

order_default_2 : order default ((codes "p") ∷ []) ≡ (1 ∷ [])
order_default_2 = refl

order_default_3 : order default ((codes "q") ∷ []) ≡ (2 ∷ [])
order_default_3 = refl

order_default_4 : order default ((codes "g") ∷ (codes "p") ∷ (codes "q") ∷ []) ≡ (0 ∷ 1 ∷ 2 ∷ [])
order_default_4 = refl

order_default_5 : order default ((codes "g") ∷ (codes "q") ∷ []) ≡ (0 ∷ 2 ∷ 1 ∷ [])
order_default_5 = refl

order_default_6 : order default ((codes "p") ∷ (codes "q") ∷ (codes "zz") ∷ []) ≡ (1 ∷ 2 ∷ [])
order_default_6 = refl

-- ---- two functions have one default

order_defaults_1 : order defaults ((codes "f") ∷ []) ≡ (2 ∷ 1 ∷ [])
order_defaults_1 = refl

order_defaults_2 : order defaults ((codes "g") ∷ []) ≡ (0 ∷ 1 ∷ [])
order_defaults_2 = refl

order_defaults_3 : order defaults ((codes "f") ∷ (codes "g") ∷ []) ≡ (2 ∷ 0 ∷ 1 ∷ [])
order_defaults_3 = refl

order_defaults_4 : order defaults ((codes "g") ∷ (codes "zz") ∷ []) ≡ (0 ∷ 1 ∷ [])
order_defaults_4 = refl

-- ---- a dict has a tuple for a key, which is no node, and a list at two of its keys

order_keyed_1 : order keyed ((codes "d") ∷ []) ≡ (0 ∷ 1 ∷ 2 ∷ [])
order_keyed_1 = refl

order_keyed_2 : order keyed ((codes "e") ∷ []) ≡ (1 ∷ [])
order_keyed_2 = refl

order_keyed_3 : order keyed ((codes "t") ∷ []) ≡ (3 ∷ [])
order_keyed_3 = refl

order_keyed_4 : order keyed ((codes "d") ∷ (codes "e") ∷ (codes "t") ∷ []) ≡ (0 ∷ 1 ∷ 3 ∷ 2 ∷ [])
order_keyed_4 = refl

order_keyed_5 : order keyed ((codes "d") ∷ (codes "t") ∷ []) ≡ (0 ∷ 3 ∷ 1 ∷ 2 ∷ [])
order_keyed_5 = refl

order_keyed_6 : order keyed ((codes "e") ∷ (codes "t") ∷ (codes "zz") ∷ []) ≡ (1 ∷ 3 ∷ [])
order_keyed_6 = refl

-- ---- an exception holds a list that e is, too

order_raised_1 : order raised ((codes "e") ∷ []) ≡ (0 ∷ [])
order_raised_1 = refl

order_raised_2 : order raised ((codes "x") ∷ []) ≡ (1 ∷ 0 ∷ [])
order_raised_2 = refl

order_raised_3 : order raised ((codes "y") ∷ []) ≡ (2 ∷ [])
order_raised_3 = refl

order_raised_4 : order raised ((codes "e") ∷ (codes "x") ∷ (codes "y") ∷ []) ≡ (0 ∷ 1 ∷ 2 ∷ [])
order_raised_4 = refl

order_raised_5 : order raised ((codes "e") ∷ (codes "y") ∷ []) ≡ (0 ∷ 2 ∷ [])
order_raised_5 = refl

order_raised_6 : order raised ((codes "x") ∷ (codes "y") ∷ (codes "zz") ∷ []) ≡ (1 ∷ 2 ∷ 0 ∷ [])
order_raised_6 = refl

-- ---- an object holds itself, and a list that holds it

order_object_round_1 : order object_round ((codes "o") ∷ []) ≡ (1 ∷ 0 ∷ [])
order_object_round_1 = refl

order_object_round_2 : order object_round ((codes "zz") ∷ []) ≡ []
order_object_round_2 = refl

-- ---- what is near comes before what is deep

order_wide_1 : order wide ((codes "a") ∷ []) ≡ (6 ∷ 5 ∷ 2 ∷ 3 ∷ 4 ∷ [])
order_wide_1 = refl

order_wide_2 : order wide ((codes "b") ∷ []) ≡ (1 ∷ 0 ∷ 3 ∷ [])
order_wide_2 = refl

order_wide_3 : order wide ((codes "a") ∷ (codes "b") ∷ []) ≡ (6 ∷ 1 ∷ 5 ∷ 2 ∷ 3 ∷ 0 ∷ 4 ∷ [])
order_wide_3 = refl

order_wide_4 : order wide ((codes "b") ∷ (codes "zz") ∷ []) ≡ (1 ∷ 0 ∷ 3 ∷ [])
order_wide_4 = refl

-- ---- one list is reached in three ways

order_diamond_1 : order diamond ((codes "t") ∷ []) ≡ (0 ∷ 1 ∷ 3 ∷ 2 ∷ [])
order_diamond_1 = refl

order_diamond_2 : order diamond ((codes "zz") ∷ []) ≡ []
order_diamond_2 = refl

-- ---- b is what lies inside a

order_inside_1 : order inside ((codes "a") ∷ []) ≡ (1 ∷ 2 ∷ 3 ∷ 4 ∷ [])
order_inside_1 = refl

order_inside_2 : order inside ((codes "b") ∷ []) ≡ (3 ∷ 4 ∷ [])
order_inside_2 = refl

order_inside_3 : order inside ((codes "c") ∷ []) ≡ (5 ∷ 4 ∷ [])
order_inside_3 = refl

order_inside_4 : order inside ((codes "a") ∷ (codes "b") ∷ (codes "c") ∷ []) ≡ (1 ∷ 3 ∷ 5 ∷ 2 ∷ 4 ∷ [])
order_inside_4 = refl

order_inside_5 : order inside ((codes "a") ∷ (codes "c") ∷ []) ≡ (1 ∷ 5 ∷ 2 ∷ 3 ∷ 4 ∷ [])
order_inside_5 = refl

order_inside_6 : order inside ((codes "b") ∷ (codes "c") ∷ (codes "zz") ∷ []) ≡ (3 ∷ 5 ∷ 4 ∷ [])
order_inside_6 = refl

-- ---- equal tuples, each a node of its own

order_equal_1 : order equal ((codes "a") ∷ []) ≡ (0 ∷ [])
order_equal_1 = refl

order_equal_2 : order equal ((codes "b") ∷ []) ≡ (1 ∷ [])
order_equal_2 = refl

order_equal_3 : order equal ((codes "c") ∷ []) ≡ (2 ∷ 3 ∷ [])
order_equal_3 = refl

order_equal_4 : order equal ((codes "a") ∷ (codes "b") ∷ (codes "c") ∷ []) ≡ (0 ∷ 1 ∷ 2 ∷ 3 ∷ [])
order_equal_4 = refl

order_equal_5 : order equal ((codes "a") ∷ (codes "c") ∷ []) ≡ (0 ∷ 2 ∷ 3 ∷ [])
order_equal_5 = refl

order_equal_6 : order equal ((codes "b") ∷ (codes "c") ∷ (codes "zz") ∷ []) ≡ (1 ∷ 2 ∷ 3 ∷ [])
order_equal_6 = refl

-- ---- each name shares a node with the next alone

order_long_chain_1 : order long_chain ((codes "n0") ∷ []) ≡ (10 ∷ 9 ∷ 8 ∷ [])
order_long_chain_1 = refl

order_long_chain_2 : order long_chain ((codes "n1") ∷ []) ≡ (7 ∷ 8 ∷ 6 ∷ [])
order_long_chain_2 = refl

order_long_chain_3 : order long_chain ((codes "n2") ∷ []) ≡ (5 ∷ 6 ∷ 4 ∷ [])
order_long_chain_3 = refl

order_long_chain_4 : order long_chain ((codes "n3") ∷ []) ≡ (3 ∷ 4 ∷ 2 ∷ [])
order_long_chain_4 = refl

order_long_chain_5 : order long_chain ((codes "n4") ∷ []) ≡ (1 ∷ 2 ∷ 0 ∷ [])
order_long_chain_5 = refl

order_long_chain_6 : order long_chain ((codes "n0") ∷ (codes "n1") ∷ (codes "n2") ∷ (codes "n3") ∷ (codes "n4") ∷ []) ≡ (10 ∷ 7 ∷ 5 ∷ 3 ∷ 1 ∷ 9 ∷ 8 ∷ 6 ∷ 4 ∷ 2 ∷ 0 ∷ [])
order_long_chain_6 = refl

order_long_chain_7 : order long_chain ((codes "n0") ∷ (codes "n4") ∷ []) ≡ (10 ∷ 1 ∷ 9 ∷ 8 ∷ 2 ∷ 0 ∷ [])
order_long_chain_7 = refl

order_long_chain_8 : order long_chain ((codes "n1") ∷ (codes "n2") ∷ (codes "n3") ∷ (codes "n4") ∷ (codes "zz") ∷ []) ≡ (7 ∷ 5 ∷ 3 ∷ 1 ∷ 8 ∷ 6 ∷ 4 ∷ 2 ∷ 0 ∷ [])
order_long_chain_8 = refl

-- ---- a holds one list twice, and an equal one

order_twice_1 : order twice ((codes "a") ∷ []) ≡ (0 ∷ 1 ∷ 2 ∷ [])
order_twice_1 = refl

order_twice_2 : order twice ((codes "zz") ∷ []) ≡ []
order_twice_2 = refl

-- ---- the same with other numbers

order_twice_there_1 : order twice_there ((codes "a") ∷ []) ≡ (3 ∷ 1 ∷ 2 ∷ [])
order_twice_there_1 = refl

order_twice_there_2 : order twice_there ((codes "zz") ∷ []) ≡ []
order_twice_there_2 = refl

-- ---- a holds one list three times

order_thrice_1 : order thrice ((codes "a") ∷ []) ≡ (0 ∷ 1 ∷ [])
order_thrice_1 = refl

order_thrice_2 : order thrice ((codes "zz") ∷ []) ≡ []
order_thrice_2 = refl

-- ---- a holds three lists

order_once_each_1 : order once_each ((codes "a") ∷ []) ≡ (0 ∷ 1 ∷ 2 ∷ 3 ∷ [])
order_once_each_1 = refl

order_once_each_2 : order once_each ((codes "zz") ∷ []) ≡ []
order_once_each_2 = refl

-- Which names stand together: computed on the definitions. Made by tools/rows/object_rows.py.
use Rattle.std.specs.Prelude.{◌≡◌, true, false, [], ◌∷◌, codes, refl}
use Rattle.kishu_objects.specs.Groups.{groups_of, groups, touches}
use Rattle.kishu_object_rows.proofs.States.{unbound, plain, shared, apart, itself, round, linked, parted, default, defaults, keyed, raised, object_round, wide, diamond, inside, equal, long_chain, twice, twice_there, thrice, once_each}

-- ---- no name is bound, and one node stands

groups_unbound_1 : groups_of unbound ≡ []
groups_unbound_1 = refl

-- ---- values without an identity, at names in byte order

groups_plain_1 : groups_of plain ≡ (((codes "Z") ∷ []) ∷ ((codes "_") ∷ []) ∷ ((codes "a") ∷ []) ∷ ((codes "a1") ∷ []) ∷ ((codes "aa") ∷ []) ∷ ((codes "b") ∷ []) ∷ ((codes "c") ∷ []) ∷ [])
groups_plain_1 = refl

among_plain_1 : groups plain ((codes "Z") ∷ (codes "c") ∷ []) ≡ (((codes "Z") ∷ []) ∷ ((codes "c") ∷ []) ∷ [])
among_plain_1 = refl

among_plain_2 : groups plain ((codes "Z") ∷ (codes "a") ∷ (codes "aa") ∷ (codes "c") ∷ []) ≡ (((codes "Z") ∷ []) ∷ ((codes "a") ∷ []) ∷ ((codes "aa") ∷ []) ∷ ((codes "c") ∷ []) ∷ [])
among_plain_2 = refl

touches_plain_1 : touches plain (codes "Z") (codes "_") ≡ false
touches_plain_1 = refl

touches_plain_2 : touches plain (codes "_") (codes "a") ≡ false
touches_plain_2 = refl

touches_plain_3 : touches plain (codes "a") (codes "a1") ≡ false
touches_plain_3 = refl

-- ---- a = [1]; b = a

groups_shared_1 : groups_of shared ≡ (((codes "a") ∷ (codes "b") ∷ []) ∷ [])
groups_shared_1 = refl

touches_shared_1 : touches shared (codes "a") (codes "b") ≡ true
touches_shared_1 = refl

-- ---- a = [1]; b = [1]

groups_apart_1 : groups_of apart ≡ (((codes "a") ∷ []) ∷ ((codes "b") ∷ []) ∷ [])
groups_apart_1 = refl

touches_apart_1 : touches apart (codes "a") (codes "b") ≡ false
touches_apart_1 = refl

-- ---- a = []; a.append(a)

groups_itself_1 : groups_of itself ≡ (((codes "a") ∷ []) ∷ [])
groups_itself_1 = refl

-- ---- a and b hold each other

groups_round_1 : groups_of round ≡ (((codes "a") ∷ (codes "b") ∷ []) ∷ [])
groups_round_1 = refl

touches_round_1 : touches round (codes "a") (codes "b") ≡ true
touches_round_1 = refl

-- ---- x and z share nothing, and y holds both

groups_linked_1 : groups_of linked ≡ (((codes "x") ∷ (codes "y") ∷ (codes "z") ∷ []) ∷ [])
groups_linked_1 = refl

among_linked_1 : groups linked ((codes "x") ∷ (codes "z") ∷ []) ≡ (((codes "x") ∷ []) ∷ ((codes "z") ∷ []) ∷ [])
among_linked_1 = refl

among_linked_2 : groups linked ((codes "x") ∷ (codes "z") ∷ []) ≡ (((codes "x") ∷ []) ∷ ((codes "z") ∷ []) ∷ [])
among_linked_2 = refl

touches_linked_1 : touches linked (codes "x") (codes "y") ≡ true
touches_linked_1 = refl

touches_linked_2 : touches linked (codes "y") (codes "z") ≡ true
touches_linked_2 = refl

-- ---- as `linked`, with y bound to a number

groups_parted_1 : groups_of parted ≡ (((codes "x") ∷ []) ∷ ((codes "y") ∷ []) ∷ ((codes "z") ∷ []) ∷ [])
groups_parted_1 = refl

among_parted_1 : groups parted ((codes "x") ∷ (codes "z") ∷ []) ≡ (((codes "x") ∷ []) ∷ ((codes "z") ∷ []) ∷ [])
among_parted_1 = refl

among_parted_2 : groups parted ((codes "x") ∷ (codes "z") ∷ []) ≡ (((codes "x") ∷ []) ∷ ((codes "z") ∷ []) ∷ [])
among_parted_2 = refl

touches_parted_1 : touches parted (codes "x") (codes "y") ≡ false
touches_parted_1 = refl

touches_parted_2 : touches parted (codes "y") (codes "z") ≡ false
touches_parted_2 = refl

-- ---- a list is a function's default and p's value

groups_default_1 : groups_of default ≡ (((codes "g") ∷ (codes "p") ∷ []) ∷ ((codes "q") ∷ []) ∷ [])
groups_default_1 = refl

among_default_1 : groups default ((codes "g") ∷ (codes "q") ∷ []) ≡ (((codes "g") ∷ []) ∷ ((codes "q") ∷ []) ∷ [])
among_default_1 = refl

among_default_2 : groups default ((codes "g") ∷ (codes "q") ∷ []) ≡ (((codes "g") ∷ []) ∷ ((codes "q") ∷ []) ∷ [])
among_default_2 = refl

touches_default_1 : touches default (codes "g") (codes "p") ≡ true
touches_default_1 = refl

touches_default_2 : touches default (codes "p") (codes "q") ≡ false
touches_default_2 = refl

-- ---- two functions have one default

groups_defaults_1 : groups_of defaults ≡ (((codes "f") ∷ (codes "g") ∷ []) ∷ [])
groups_defaults_1 = refl

touches_defaults_1 : touches defaults (codes "f") (codes "g") ≡ true
touches_defaults_1 = refl

-- ---- a dict has a tuple for a key, which is no node, and a list at two of its keys

groups_keyed_1 : groups_of keyed ≡ (((codes "d") ∷ (codes "e") ∷ []) ∷ ((codes "t") ∷ []) ∷ [])
groups_keyed_1 = refl

among_keyed_1 : groups keyed ((codes "d") ∷ (codes "t") ∷ []) ≡ (((codes "d") ∷ []) ∷ ((codes "t") ∷ []) ∷ [])
among_keyed_1 = refl

among_keyed_2 : groups keyed ((codes "d") ∷ (codes "t") ∷ []) ≡ (((codes "d") ∷ []) ∷ ((codes "t") ∷ []) ∷ [])
among_keyed_2 = refl

touches_keyed_1 : touches keyed (codes "d") (codes "e") ≡ true
touches_keyed_1 = refl

touches_keyed_2 : touches keyed (codes "e") (codes "t") ≡ false
touches_keyed_2 = refl

-- ---- an exception holds a list that e is, too

groups_raised_1 : groups_of raised ≡ (((codes "e") ∷ (codes "x") ∷ []) ∷ ((codes "y") ∷ []) ∷ [])
groups_raised_1 = refl

among_raised_1 : groups raised ((codes "e") ∷ (codes "y") ∷ []) ≡ (((codes "e") ∷ []) ∷ ((codes "y") ∷ []) ∷ [])
among_raised_1 = refl

among_raised_2 : groups raised ((codes "e") ∷ (codes "y") ∷ []) ≡ (((codes "e") ∷ []) ∷ ((codes "y") ∷ []) ∷ [])
among_raised_2 = refl

touches_raised_1 : touches raised (codes "e") (codes "x") ≡ true
touches_raised_1 = refl

touches_raised_2 : touches raised (codes "x") (codes "y") ≡ false
touches_raised_2 = refl

-- ---- an object holds itself, and a list that holds it

groups_object_round_1 : groups_of object_round ≡ (((codes "o") ∷ []) ∷ [])
groups_object_round_1 = refl

-- ---- what is near comes before what is deep

groups_wide_1 : groups_of wide ≡ (((codes "a") ∷ (codes "b") ∷ []) ∷ [])
groups_wide_1 = refl

touches_wide_1 : touches wide (codes "a") (codes "b") ≡ true
touches_wide_1 = refl

-- ---- one list is reached in three ways

groups_diamond_1 : groups_of diamond ≡ (((codes "t") ∷ []) ∷ [])
groups_diamond_1 = refl

-- ---- b is what lies inside a

groups_inside_1 : groups_of inside ≡ (((codes "a") ∷ (codes "b") ∷ (codes "c") ∷ []) ∷ [])
groups_inside_1 = refl

among_inside_1 : groups inside ((codes "a") ∷ (codes "c") ∷ []) ≡ (((codes "a") ∷ (codes "c") ∷ []) ∷ [])
among_inside_1 = refl

among_inside_2 : groups inside ((codes "a") ∷ (codes "c") ∷ []) ≡ (((codes "a") ∷ (codes "c") ∷ []) ∷ [])
among_inside_2 = refl

touches_inside_1 : touches inside (codes "a") (codes "b") ≡ true
touches_inside_1 = refl

touches_inside_2 : touches inside (codes "b") (codes "c") ≡ true
touches_inside_2 = refl

-- ---- equal tuples, each a node of its own

groups_equal_1 : groups_of equal ≡ (((codes "a") ∷ []) ∷ ((codes "b") ∷ []) ∷ ((codes "c") ∷ []) ∷ [])
groups_equal_1 = refl

among_equal_1 : groups equal ((codes "a") ∷ (codes "c") ∷ []) ≡ (((codes "a") ∷ []) ∷ ((codes "c") ∷ []) ∷ [])
among_equal_1 = refl

among_equal_2 : groups equal ((codes "a") ∷ (codes "c") ∷ []) ≡ (((codes "a") ∷ []) ∷ ((codes "c") ∷ []) ∷ [])
among_equal_2 = refl

touches_equal_1 : touches equal (codes "a") (codes "b") ≡ false
touches_equal_1 = refl

touches_equal_2 : touches equal (codes "b") (codes "c") ≡ false
touches_equal_2 = refl

-- ---- each name shares a node with the next alone

groups_long_chain_1 : groups_of long_chain ≡ (((codes "n0") ∷ (codes "n1") ∷ (codes "n2") ∷ (codes "n3") ∷ (codes "n4") ∷ []) ∷ [])
groups_long_chain_1 = refl

among_long_chain_1 : groups long_chain ((codes "n0") ∷ (codes "n4") ∷ []) ≡ (((codes "n0") ∷ []) ∷ ((codes "n4") ∷ []) ∷ [])
among_long_chain_1 = refl

among_long_chain_2 : groups long_chain ((codes "n0") ∷ (codes "n2") ∷ (codes "n4") ∷ []) ≡ (((codes "n0") ∷ []) ∷ ((codes "n2") ∷ []) ∷ ((codes "n4") ∷ []) ∷ [])
among_long_chain_2 = refl

touches_long_chain_1 : touches long_chain (codes "n0") (codes "n1") ≡ true
touches_long_chain_1 = refl

touches_long_chain_2 : touches long_chain (codes "n1") (codes "n2") ≡ true
touches_long_chain_2 = refl

touches_long_chain_3 : touches long_chain (codes "n2") (codes "n3") ≡ true
touches_long_chain_3 = refl

-- ---- a holds one list twice, and an equal one

groups_twice_1 : groups_of twice ≡ (((codes "a") ∷ []) ∷ [])
groups_twice_1 = refl

-- ---- the same with other numbers

groups_twice_there_1 : groups_of twice_there ≡ (((codes "a") ∷ []) ∷ [])
groups_twice_there_1 = refl

-- ---- a holds one list three times

groups_thrice_1 : groups_of thrice ≡ (((codes "a") ∷ []) ∷ [])
groups_thrice_1 = refl

-- ---- a holds three lists

groups_once_each_1 : groups_of once_each ≡ (((codes "a") ∷ []) ∷ [])
groups_once_each_1 = refl

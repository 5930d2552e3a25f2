-- How many bytes the pictures of a state's groups take: computed on the definitions. Made by tools/rows/same_rows.py.
use Rattle.std.specs.Prelude.{◌≡◌, [], ◌∷◌, codes, refl}
use Rattle.std.specs.Char.{encode_utf8}
use Rattle.kishu_bytes.specs.Numbers.{sixteen}
use Rattle.kishu_objects.specs.Bytes.{in_four}
use Rattle.kishu_objects.specs.Sizes.{size, size_among}
use Rattle.kishu_object_rows.proofs.States.{unbound, plain, shared, apart, itself, round, linked, parted, default, defaults, keyed, raised, object_round, wide, diamond, inside, equal, long_chain, twice, twice_there, thrice, once_each}

-- ---- no name is bound, and one node stands

size_unbound_1 : size unbound ≡ 0
unfolding in_four sixteen encode_utf8
size_unbound_1 = refl

first_unbound_1 : size_among ([]) unbound ≡ 0
unfolding in_four sixteen encode_utf8
first_unbound_1 = refl

-- ---- values without an identity, at names in byte order

size_plain_1 : size plain ≡ 151
unfolding in_four sixteen encode_utf8
size_plain_1 = refl

first_plain_1 : size_among (((codes "Z") ∷ []) ∷ []) plain ≡ 27
unfolding in_four sixteen encode_utf8
first_plain_1 = refl

-- ---- a = [1]; b = a

size_shared_1 : size shared ≡ 44
unfolding in_four sixteen encode_utf8
size_shared_1 = refl

first_shared_1 : size_among (((codes "a") ∷ (codes "b") ∷ []) ∷ []) shared ≡ 44
unfolding in_four sixteen encode_utf8
first_shared_1 = refl

-- ---- a = [1]; b = [1]

size_apart_1 : size apart ≡ 74
unfolding in_four sixteen encode_utf8
size_apart_1 = refl

first_apart_1 : size_among (((codes "a") ∷ []) ∷ []) apart ≡ 37
unfolding in_four sixteen encode_utf8
first_apart_1 = refl

-- ---- a = []; a.append(a)

size_itself_1 : size itself ≡ 25
unfolding in_four sixteen encode_utf8
size_itself_1 = refl

first_itself_1 : size_among (((codes "a") ∷ []) ∷ []) itself ≡ 25
unfolding in_four sixteen encode_utf8
first_itself_1 = refl

-- ---- a and b hold each other

size_round_1 : size round ≡ 42
unfolding in_four sixteen encode_utf8
size_round_1 = refl

first_round_1 : size_among (((codes "a") ∷ (codes "b") ∷ []) ∷ []) round ≡ 42
unfolding in_four sixteen encode_utf8
first_round_1 = refl

-- ---- x and z share nothing, and y holds both

size_linked_1 : size linked ≡ 88
unfolding in_four sixteen encode_utf8
size_linked_1 = refl

first_linked_1 : size_among (((codes "x") ∷ (codes "y") ∷ (codes "z") ∷ []) ∷ []) linked ≡ 88
unfolding in_four sixteen encode_utf8
first_linked_1 = refl

-- ---- as `linked`, with y bound to a number

size_parted_1 : size parted ≡ 101
unfolding in_four sixteen encode_utf8
size_parted_1 = refl

first_parted_1 : size_among (((codes "x") ∷ []) ∷ []) parted ≡ 37
unfolding in_four sixteen encode_utf8
first_parted_1 = refl

-- ---- a list is a function's default and p's value

size_default_1 : size default ≡ 124
unfolding in_four sixteen encode_utf8
size_default_1 = refl

first_default_1 : size_among (((codes "g") ∷ (codes "p") ∷ []) ∷ []) default ≡ 87
unfolding in_four sixteen encode_utf8
first_default_1 = refl

-- ---- two functions have one default

size_defaults_1 : size defaults ≡ 113
unfolding in_four sixteen encode_utf8
size_defaults_1 = refl

first_defaults_1 : size_among (((codes "f") ∷ (codes "g") ∷ []) ∷ []) defaults ≡ 113
unfolding in_four sixteen encode_utf8
first_defaults_1 = refl

-- ---- a dict has a tuple for a key, which is no node, and a list at two of its keys

size_keyed_1 : size keyed ≡ 143
unfolding in_four sixteen encode_utf8
size_keyed_1 = refl

first_keyed_1 : size_among (((codes "d") ∷ (codes "e") ∷ []) ∷ []) keyed ≡ 99
unfolding in_four sixteen encode_utf8
first_keyed_1 = refl

-- ---- an exception holds a list that e is, too

size_raised_1 : size raised ≡ 90
unfolding in_four sixteen encode_utf8
size_raised_1 = refl

first_raised_1 : size_among (((codes "e") ∷ (codes "x") ∷ []) ∷ []) raised ≡ 62
unfolding in_four sixteen encode_utf8
first_raised_1 = refl

-- ---- an object holds itself, and a list that holds it

size_object_round_1 : size object_round ≡ 50
unfolding in_four sixteen encode_utf8
size_object_round_1 = refl

first_object_round_1 : size_among (((codes "o") ∷ []) ∷ []) object_round ≡ 50
unfolding in_four sixteen encode_utf8
first_object_round_1 = refl

-- ---- what is near comes before what is deep

size_wide_1 : size wide ≡ 121
unfolding in_four sixteen encode_utf8
size_wide_1 = refl

first_wide_1 : size_among (((codes "a") ∷ (codes "b") ∷ []) ∷ []) wide ≡ 121
unfolding in_four sixteen encode_utf8
first_wide_1 = refl

-- ---- one list is reached in three ways

size_diamond_1 : size diamond ≡ 65
unfolding in_four sixteen encode_utf8
size_diamond_1 = refl

first_diamond_1 : size_among (((codes "t") ∷ []) ∷ []) diamond ≡ 65
unfolding in_four sixteen encode_utf8
first_diamond_1 = refl

-- ---- b is what lies inside a

size_inside_1 : size inside ≡ 96
unfolding in_four sixteen encode_utf8
size_inside_1 = refl

first_inside_1 : size_among (((codes "a") ∷ (codes "b") ∷ (codes "c") ∷ []) ∷ []) inside ≡ 96
unfolding in_four sixteen encode_utf8
first_inside_1 = refl

-- ---- equal tuples, each a node of its own

size_equal_1 : size equal ≡ 172
unfolding in_four sixteen encode_utf8
size_equal_1 = refl

first_equal_1 : size_among (((codes "a") ∷ []) ∷ []) equal ≡ 54
unfolding in_four sixteen encode_utf8
first_equal_1 = refl

-- ---- each name shares a node with the next alone

size_long_chain_1 : size long_chain ≡ 255
unfolding in_four sixteen encode_utf8
size_long_chain_1 = refl

first_long_chain_1 : size_among (((codes "n0") ∷ (codes "n1") ∷ (codes "n2") ∷ (codes "n3") ∷ (codes "n4") ∷ []) ∷ []) long_chain ≡ 255
unfolding in_four sixteen encode_utf8
first_long_chain_1 = refl

-- ---- a holds one list twice, and an equal one

size_twice_1 : size twice ≡ 79
unfolding in_four sixteen encode_utf8
size_twice_1 = refl

first_twice_1 : size_among (((codes "a") ∷ []) ∷ []) twice ≡ 79
unfolding in_four sixteen encode_utf8
first_twice_1 = refl

-- ---- the same with other numbers

size_twice_there_1 : size twice_there ≡ 79
unfolding in_four sixteen encode_utf8
size_twice_there_1 = refl

first_twice_there_1 : size_among (((codes "a") ∷ []) ∷ []) twice_there ≡ 79
unfolding in_four sixteen encode_utf8
first_twice_there_1 = refl

-- ---- a holds one list three times

size_thrice_1 : size thrice ≡ 57
unfolding in_four sixteen encode_utf8
size_thrice_1 = refl

first_thrice_1 : size_among (((codes "a") ∷ []) ∷ []) thrice ≡ 57
unfolding in_four sixteen encode_utf8
first_thrice_1 = refl

-- ---- a holds three lists

size_once_each_1 : size once_each ≡ 101
unfolding in_four sixteen encode_utf8
size_once_each_1 = refl

first_once_each_1 : size_among (((codes "a") ∷ []) ∷ []) once_each ≡ 101
unfolding in_four sixteen encode_utf8
first_once_each_1 = refl

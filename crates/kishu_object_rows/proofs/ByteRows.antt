-- The bytes of values, keys, nodes and pictures: computed on the definitions. Made by tools/rows/same_rows.py.
use Rattle.std.specs.Prelude.{◌≡◌, pos, negsuc, true, false, [], ◌∷◌, codes, refl}
use Rattle.std.specs.Char.{encode_utf8}
use Rattle.kishu_bytes.specs.Numbers.{sixteen}
use Rattle.kishu_language.specs.declared.profile.Profile.TheVariants.{One}
use Rattle.kishu_meaning.specs.values.Keys as k
use Rattle.kishu_meaning.specs.values.Values.{none, bool, integer, text, range, builtin, class, node, list, tuple, dict, object, function, exception}
use Rattle.kishu_objects.specs.Bytes.{in_four, value_bytes, key_bytes, row_bytes}

-- ---- values

value_1 : value_bytes none ≡ (0 ∷ [])
unfolding in_four sixteen encode_utf8
value_1 = refl

value_2 : value_bytes (bool false) ≡ (1 ∷ [])
unfolding in_four sixteen encode_utf8
value_2 = refl

value_3 : value_bytes (bool true) ≡ (2 ∷ [])
unfolding in_four sixteen encode_utf8
value_3 = refl

value_4 : value_bytes (integer (pos 0)) ≡ (3 ∷ 0 ∷ 0 ∷ 0 ∷ 0 ∷ 0 ∷ 0 ∷ 0 ∷ 0 ∷ 0 ∷ 0 ∷ 0 ∷ 0 ∷ 0 ∷ 0 ∷ 0 ∷ 0 ∷ [])
unfolding in_four sixteen encode_utf8
value_4 = refl

value_5 : value_bytes (integer (pos 1)) ≡ (3 ∷ 0 ∷ 0 ∷ 0 ∷ 0 ∷ 0 ∷ 0 ∷ 0 ∷ 0 ∷ 0 ∷ 0 ∷ 0 ∷ 0 ∷ 0 ∷ 0 ∷ 0 ∷ 1 ∷ [])
unfolding in_four sixteen encode_utf8
value_5 = refl

value_6 : value_bytes (integer (pos 255)) ≡ (3 ∷ 0 ∷ 0 ∷ 0 ∷ 0 ∷ 0 ∷ 0 ∷ 0 ∷ 0 ∷ 0 ∷ 0 ∷ 0 ∷ 0 ∷ 0 ∷ 0 ∷ 0 ∷ 255 ∷ [])
unfolding in_four sixteen encode_utf8
value_6 = refl

value_7 : value_bytes (integer (pos 256)) ≡ (3 ∷ 0 ∷ 0 ∷ 0 ∷ 0 ∷ 0 ∷ 0 ∷ 0 ∷ 0 ∷ 0 ∷ 0 ∷ 0 ∷ 0 ∷ 0 ∷ 0 ∷ 1 ∷ 0 ∷ [])
unfolding in_four sixteen encode_utf8
value_7 = refl

value_8 : value_bytes (integer (negsuc 0)) ≡ (3 ∷ 255 ∷ 255 ∷ 255 ∷ 255 ∷ 255 ∷ 255 ∷ 255 ∷ 255 ∷ 255 ∷ 255 ∷ 255 ∷ 255 ∷ 255 ∷ 255 ∷ 255 ∷ 255 ∷ [])
unfolding in_four sixteen encode_utf8
value_8 = refl

value_9 : value_bytes (integer (negsuc 1)) ≡ (3 ∷ 255 ∷ 255 ∷ 255 ∷ 255 ∷ 255 ∷ 255 ∷ 255 ∷ 255 ∷ 255 ∷ 255 ∷ 255 ∷ 255 ∷ 255 ∷ 255 ∷ 255 ∷ 254 ∷ [])
unfolding in_four sixteen encode_utf8
value_9 = refl

value_10 : value_bytes (integer (negsuc 127)) ≡ (3 ∷ 255 ∷ 255 ∷ 255 ∷ 255 ∷ 255 ∷ 255 ∷ 255 ∷ 255 ∷ 255 ∷ 255 ∷ 255 ∷ 255 ∷ 255 ∷ 255 ∷ 255 ∷ 128 ∷ [])
unfolding in_four sixteen encode_utf8
value_10 = refl

value_11 : value_bytes (integer (pos 18446744073709551616)) ≡ (3 ∷ 0 ∷ 0 ∷ 0 ∷ 0 ∷ 0 ∷ 0 ∷ 0 ∷ 1 ∷ 0 ∷ 0 ∷ 0 ∷ 0 ∷ 0 ∷ 0 ∷ 0 ∷ 0 ∷ [])
unfolding in_four sixteen encode_utf8
value_11 = refl

value_12 : value_bytes (integer (pos 170141183460469231731687303715884105727)) ≡ (3 ∷ 127 ∷ 255 ∷ 255 ∷ 255 ∷ 255 ∷ 255 ∷ 255 ∷ 255 ∷ 255 ∷ 255 ∷ 255 ∷ 255 ∷ 255 ∷ 255 ∷ 255 ∷ 255 ∷ [])
unfolding in_four sixteen encode_utf8
value_12 = refl

value_13 : value_bytes (integer (negsuc 170141183460469231731687303715884105727)) ≡ (3 ∷ 128 ∷ 0 ∷ 0 ∷ 0 ∷ 0 ∷ 0 ∷ 0 ∷ 0 ∷ 0 ∷ 0 ∷ 0 ∷ 0 ∷ 0 ∷ 0 ∷ 0 ∷ 0 ∷ [])
unfolding in_four sixteen encode_utf8
value_13 = refl

value_14 : value_bytes (text []) ≡ (4 ∷ 0 ∷ 0 ∷ 0 ∷ 0 ∷ [])
unfolding in_four sixteen encode_utf8
value_14 = refl

value_15 : value_bytes (text (codes "a")) ≡ (4 ∷ 0 ∷ 0 ∷ 0 ∷ 1 ∷ 97 ∷ [])
unfolding in_four sixteen encode_utf8
value_15 = refl

value_16 : value_bytes (text (233 ∷ [])) ≡ (4 ∷ 0 ∷ 0 ∷ 0 ∷ 2 ∷ 195 ∷ 169 ∷ [])
unfolding in_four sixteen encode_utf8
value_16 = refl

value_17 : value_bytes (text (8364 ∷ [])) ≡ (4 ∷ 0 ∷ 0 ∷ 0 ∷ 3 ∷ 226 ∷ 130 ∷ 172 ∷ [])
unfolding in_four sixteen encode_utf8
value_17 = refl

value_18 : value_bytes (text (128512 ∷ [])) ≡ (4 ∷ 0 ∷ 0 ∷ 0 ∷ 4 ∷ 240 ∷ 159 ∷ 152 ∷ 128 ∷ [])
unfolding in_four sixteen encode_utf8
value_18 = refl

value_19 : value_bytes (text (97 ∷ 0 ∷ 98 ∷ [])) ≡ (4 ∷ 0 ∷ 0 ∷ 0 ∷ 3 ∷ 97 ∷ 0 ∷ 98 ∷ [])
unfolding in_four sixteen encode_utf8
value_19 = refl

value_20 : value_bytes (text (65535 ∷ 65536 ∷ [])) ≡ (4 ∷ 0 ∷ 0 ∷ 0 ∷ 7 ∷ 239 ∷ 191 ∷ 191 ∷ 240 ∷ 144 ∷ 128 ∷ 128 ∷ [])
unfolding in_four sixteen encode_utf8
value_20 = refl

value_21 : value_bytes (range (pos 0) (pos 3) (negsuc 0)) ≡ (5 ∷ 0 ∷ 0 ∷ 0 ∷ 0 ∷ 0 ∷ 0 ∷ 0 ∷ 0 ∷ 0 ∷ 0 ∷ 0 ∷ 0 ∷ 0 ∷ 0 ∷ 0 ∷ 0 ∷ 0 ∷ 0 ∷ 0 ∷ 0 ∷ 0 ∷ 0 ∷ 0 ∷ 0 ∷ 0 ∷ 0 ∷ 0 ∷ 0 ∷ 0 ∷ 0 ∷ 0 ∷ 3 ∷ 255 ∷ 255 ∷ 255 ∷ 255 ∷ 255 ∷ 255 ∷ 255 ∷ 255 ∷ 255 ∷ 255 ∷ 255 ∷ 255 ∷ 255 ∷ 255 ∷ 255 ∷ 255 ∷ [])
unfolding in_four sixteen encode_utf8
value_21 = refl

value_22 : value_bytes (range (negsuc 0) (pos 170141183460469231731687303715884105727) (pos 5)) ≡ (5 ∷ 255 ∷ 255 ∷ 255 ∷ 255 ∷ 255 ∷ 255 ∷ 255 ∷ 255 ∷ 255 ∷ 255 ∷ 255 ∷ 255 ∷ 255 ∷ 255 ∷ 255 ∷ 255 ∷ 127 ∷ 255 ∷ 255 ∷ 255 ∷ 255 ∷ 255 ∷ 255 ∷ 255 ∷ 255 ∷ 255 ∷ 255 ∷ 255 ∷ 255 ∷ 255 ∷ 255 ∷ 255 ∷ 0 ∷ 0 ∷ 0 ∷ 0 ∷ 0 ∷ 0 ∷ 0 ∷ 0 ∷ 0 ∷ 0 ∷ 0 ∷ 0 ∷ 0 ∷ 0 ∷ 0 ∷ 5 ∷ [])
unfolding in_four sixteen encode_utf8
value_22 = refl

value_23 : value_bytes (builtin 0) ≡ (6 ∷ 0 ∷ [])
unfolding in_four sixteen encode_utf8
value_23 = refl

value_24 : value_bytes (builtin 13) ≡ (6 ∷ 13 ∷ [])
unfolding in_four sixteen encode_utf8
value_24 = refl

value_25 : value_bytes (class 0) ≡ (7 ∷ 0 ∷ [])
unfolding in_four sixteen encode_utf8
value_25 = refl

value_26 : value_bytes (class 24) ≡ (7 ∷ 24 ∷ [])
unfolding in_four sixteen encode_utf8
value_26 = refl

value_27 : value_bytes (node 0) ≡ (8 ∷ 0 ∷ 0 ∷ 0 ∷ 0 ∷ [])
unfolding in_four sixteen encode_utf8
value_27 = refl

value_28 : value_bytes (node 255) ≡ (8 ∷ 0 ∷ 0 ∷ 0 ∷ 255 ∷ [])
unfolding in_four sixteen encode_utf8
value_28 = refl

value_29 : value_bytes (node 256) ≡ (8 ∷ 0 ∷ 0 ∷ 1 ∷ 0 ∷ [])
unfolding in_four sixteen encode_utf8
value_29 = refl

value_30 : value_bytes (node 4294967295) ≡ (8 ∷ 255 ∷ 255 ∷ 255 ∷ 255 ∷ [])
unfolding in_four sixteen encode_utf8
value_30 = refl

-- ---- keys: one part as that part, and a tuple behind a number of its own

key_1 : key_bytes (k.single k.none) ≡ (0 ∷ [])
unfolding in_four sixteen encode_utf8
key_1 = refl

key_2 : key_bytes (k.single (k.bool false)) ≡ (1 ∷ [])
unfolding in_four sixteen encode_utf8
key_2 = refl

key_3 : key_bytes (k.single (k.bool true)) ≡ (2 ∷ [])
unfolding in_four sixteen encode_utf8
key_3 = refl

key_4 : key_bytes (k.single (k.integer (pos 1))) ≡ (3 ∷ 0 ∷ 0 ∷ 0 ∷ 0 ∷ 0 ∷ 0 ∷ 0 ∷ 0 ∷ 0 ∷ 0 ∷ 0 ∷ 0 ∷ 0 ∷ 0 ∷ 0 ∷ 1 ∷ [])
unfolding in_four sixteen encode_utf8
key_4 = refl

key_5 : key_bytes (k.single (k.integer (negsuc 0))) ≡ (3 ∷ 255 ∷ 255 ∷ 255 ∷ 255 ∷ 255 ∷ 255 ∷ 255 ∷ 255 ∷ 255 ∷ 255 ∷ 255 ∷ 255 ∷ 255 ∷ 255 ∷ 255 ∷ 255 ∷ [])
unfolding in_four sixteen encode_utf8
key_5 = refl

key_6 : key_bytes (k.single (k.text [])) ≡ (4 ∷ 0 ∷ 0 ∷ 0 ∷ 0 ∷ [])
unfolding in_four sixteen encode_utf8
key_6 = refl

key_7 : key_bytes (k.single (k.text (233 ∷ []))) ≡ (4 ∷ 0 ∷ 0 ∷ 0 ∷ 2 ∷ 195 ∷ 169 ∷ [])
unfolding in_four sixteen encode_utf8
key_7 = refl

key_8 : key_bytes (k.tuple []) ≡ (9 ∷ 0 ∷ 0 ∷ 0 ∷ 0 ∷ [])
unfolding in_four sixteen encode_utf8
key_8 = refl

key_9 : key_bytes (k.tuple ((k.integer (pos 1)) ∷ [])) ≡ (9 ∷ 0 ∷ 0 ∷ 0 ∷ 1 ∷ 3 ∷ 0 ∷ 0 ∷ 0 ∷ 0 ∷ 0 ∷ 0 ∷ 0 ∷ 0 ∷ 0 ∷ 0 ∷ 0 ∷ 0 ∷ 0 ∷ 0 ∷ 0 ∷ 1 ∷ [])
unfolding in_four sixteen encode_utf8
key_9 = refl

key_10 : key_bytes (k.tuple ((k.bool true) ∷ [])) ≡ (9 ∷ 0 ∷ 0 ∷ 0 ∷ 1 ∷ 2 ∷ [])
unfolding in_four sixteen encode_utf8
key_10 = refl

key_11 : key_bytes (k.tuple (k.none ∷ (k.text (codes "k")) ∷ (k.integer (negsuc 0)) ∷ (k.bool false) ∷ [])) ≡ (9 ∷ 0 ∷ 0 ∷ 0 ∷ 4 ∷ 0 ∷ 4 ∷ 0 ∷ 0 ∷ 0 ∷ 1 ∷ 107 ∷ 3 ∷ 255 ∷ 255 ∷ 255 ∷ 255 ∷ 255 ∷ 255 ∷ 255 ∷ 255 ∷ 255 ∷ 255 ∷ 255 ∷ 255 ∷ 255 ∷ 255 ∷ 255 ∷ 255 ∷ 1 ∷ [])
unfolding in_four sixteen encode_utf8
key_11 = refl

key_12 : key_bytes (k.tuple ((k.integer (pos 170141183460469231731687303715884105727)) ∷ [])) ≡ (9 ∷ 0 ∷ 0 ∷ 0 ∷ 1 ∷ 3 ∷ 127 ∷ 255 ∷ 255 ∷ 255 ∷ 255 ∷ 255 ∷ 255 ∷ 255 ∷ 255 ∷ 255 ∷ 255 ∷ 255 ∷ 255 ∷ 255 ∷ 255 ∷ 255 ∷ [])
unfolding in_four sixteen encode_utf8
key_12 = refl

-- ---- nodes, whose children are no nodes

row_1 : row_bytes (list []) ≡ (1 ∷ 0 ∷ 0 ∷ 0 ∷ 0 ∷ [])
unfolding in_four sixteen encode_utf8
row_1 = refl

row_2 : row_bytes (list ((integer (pos 1)) ∷ [])) ≡ (1 ∷ 0 ∷ 0 ∷ 0 ∷ 1 ∷ 3 ∷ 0 ∷ 0 ∷ 0 ∷ 0 ∷ 0 ∷ 0 ∷ 0 ∷ 0 ∷ 0 ∷ 0 ∷ 0 ∷ 0 ∷ 0 ∷ 0 ∷ 0 ∷ 1 ∷ [])
unfolding in_four sixteen encode_utf8
row_2 = refl

row_3 : row_bytes (tuple []) ≡ (2 ∷ 0 ∷ 0 ∷ 0 ∷ 0 ∷ [])
unfolding in_four sixteen encode_utf8
row_3 = refl

row_4 : row_bytes (tuple (none ∷ (text (codes "a")) ∷ [])) ≡ (2 ∷ 0 ∷ 0 ∷ 0 ∷ 2 ∷ 0 ∷ 4 ∷ 0 ∷ 0 ∷ 0 ∷ 1 ∷ 97 ∷ [])
unfolding in_four sixteen encode_utf8
row_4 = refl

row_5 : row_bytes (dict []) ≡ (3 ∷ 0 ∷ 0 ∷ 0 ∷ 0 ∷ [])
unfolding in_four sixteen encode_utf8
row_5 = refl

row_6 : row_bytes (dict (((k.single (k.text (codes "k"))), (integer (pos 1))) ∷ ((k.tuple []), none) ∷ [])) ≡ (3 ∷ 0 ∷ 0 ∷ 0 ∷ 2 ∷ 4 ∷ 0 ∷ 0 ∷ 0 ∷ 1 ∷ 107 ∷ 3 ∷ 0 ∷ 0 ∷ 0 ∷ 0 ∷ 0 ∷ 0 ∷ 0 ∷ 0 ∷ 0 ∷ 0 ∷ 0 ∷ 0 ∷ 0 ∷ 0 ∷ 0 ∷ 1 ∷ 9 ∷ 0 ∷ 0 ∷ 0 ∷ 0 ∷ 0 ∷ [])
unfolding in_four sixteen encode_utf8
row_6 = refl

row_7 : row_bytes (dict (((k.single (k.bool true)), (bool false)) ∷ [])) ≡ (3 ∷ 0 ∷ 0 ∷ 0 ∷ 1 ∷ 2 ∷ 1 ∷ [])
unfolding in_four sixteen encode_utf8
row_7 = refl

row_8 : row_bytes (object []) ≡ (4 ∷ 0 ∷ 0 ∷ 0 ∷ 0 ∷ [])
unfolding in_four sixteen encode_utf8
row_8 = refl

row_9 : row_bytes (object (((codes "b"), none) ∷ ((codes "a"), (bool true)) ∷ [])) ≡ (4 ∷ 0 ∷ 0 ∷ 0 ∷ 2 ∷ 1 ∷ 98 ∷ 0 ∷ 1 ∷ 97 ∷ 2 ∷ [])
unfolding in_four sixteen encode_utf8
row_9 = refl

row_10 : row_bytes (function One (codes "def f(): pass") []) ≡ (5 ∷ 1 ∷ 0 ∷ 0 ∷ 0 ∷ 13 ∷ 100 ∷ 101 ∷ 102 ∷ 32 ∷ 102 ∷ 40 ∷ 41 ∷ 58 ∷ 32 ∷ 112 ∷ 97 ∷ 115 ∷ 115 ∷ 0 ∷ 0 ∷ 0 ∷ 0 ∷ [])
unfolding in_four sixteen encode_utf8
row_10 = refl

row_11 : row_bytes (function One (codes "def f(a=1, b=None): pass") ((integer (pos 1)) ∷ none ∷ [])) ≡ (5 ∷ 1 ∷ 0 ∷ 0 ∷ 0 ∷ 24 ∷ 100 ∷ 101 ∷ 102 ∷ 32 ∷ 102 ∷ 40 ∷ 97 ∷ 61 ∷ 49 ∷ 44 ∷ 32 ∷ 98 ∷ 61 ∷ 78 ∷ 111 ∷ 110 ∷ 101 ∷ 41 ∷ 58 ∷ 32 ∷ 112 ∷ 97 ∷ 115 ∷ 115 ∷ 0 ∷ 0 ∷ 0 ∷ 2 ∷ 3 ∷ 0 ∷ 0 ∷ 0 ∷ 0 ∷ 0 ∷ 0 ∷ 0 ∷ 0 ∷ 0 ∷ 0 ∷ 0 ∷ 0 ∷ 0 ∷ 0 ∷ 0 ∷ 1 ∷ 0 ∷ [])
unfolding in_four sixteen encode_utf8
row_11 = refl

row_12 : row_bytes (exception 8 []) ≡ (6 ∷ 8 ∷ 0 ∷ 0 ∷ 0 ∷ 0 ∷ [])
unfolding in_four sixteen encode_utf8
row_12 = refl

row_13 : row_bytes (exception 24 ((text (codes "x")) ∷ (integer (pos 1)) ∷ [])) ≡ (6 ∷ 24 ∷ 0 ∷ 0 ∷ 0 ∷ 2 ∷ 4 ∷ 0 ∷ 0 ∷ 0 ∷ 1 ∷ 120 ∷ 3 ∷ 0 ∷ 0 ∷ 0 ∷ 0 ∷ 0 ∷ 0 ∷ 0 ∷ 0 ∷ 0 ∷ 0 ∷ 0 ∷ 0 ∷ 0 ∷ 0 ∷ 0 ∷ 1 ∷ [])
unfolding in_four sixteen encode_utf8
row_13 = refl

row_14 : row_bytes (exception 16 (none ∷ [])) ≡ (6 ∷ 16 ∷ 0 ∷ 0 ∷ 0 ∷ 1 ∷ 0 ∷ [])
unfolding in_four sixteen encode_utf8
row_14 = refl

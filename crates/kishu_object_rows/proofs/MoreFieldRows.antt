-- Pictures in which one field is cut or changed: what is read, or the place of the first field at fault. Computed on the definition; made by tools/rows/reading_rows.py.
use Rattle.std.specs.Prelude.{◌≡◌, ℕ, pos, negsuc, true, List, [], ◌∷◌, ◌++◌, codes, Ok, Err, refl}
use Rattle.std.specs.Prelude.{◌+◌, take, drop}
use Rattle.std.specs.Char.{encode_utf8}
use Rattle.std.specs.Str.{chars}
use Rattle.kishu_language.specs.tokens.Names.{reserved_words}
use Rattle.kishu_meaning.specs.values.Keys as k
use Rattle.kishu_meaning.specs.values.Values.{none, bool, integer, text, node, list, tuple, dict, object, exception}
use Rattle.kishu_reading.specs.FromBytes.{read_picture}

-- the bytes, with others in the place of so many of them
abbrev put : (at out : ℕ) → (new bs : List ℕ) → List ℕ
put at out new bs = take at bs ++ (new ++ drop (at + out) bs)

-- ---- a dict

abbrev base4 : List ℕ
base4 = 0 ∷ 0 ∷ 0 ∷ 1 ∷ 1 ∷ 100 ∷ 8 ∷ 0 ∷ 0 ∷ 0 ∷ 0 ∷ 0 ∷ 0 ∷ 0 ∷ 2 ∷ 3 ∷ 0 ∷ 0 ∷ 0 ∷ 3 ∷ 0 ∷ 2 ∷ 9 ∷ 0 ∷ 0 ∷ 0 ∷ 2 ∷ 3 ∷ 0 ∷ 0 ∷ 0 ∷ 0 ∷ 0 ∷ 0 ∷ 0 ∷ 0 ∷ 0 ∷ 0 ∷ 0 ∷ 0 ∷ 0 ∷ 0 ∷ 0 ∷ 1 ∷ 4 ∷ 0 ∷ 0 ∷ 0 ∷ 1 ∷ 107 ∷ 8 ∷ 0 ∷ 0 ∷ 0 ∷ 1 ∷ 4 ∷ 0 ∷ 0 ∷ 0 ∷ 1 ∷ 107 ∷ 3 ∷ 0 ∷ 0 ∷ 0 ∷ 0 ∷ 0 ∷ 0 ∷ 0 ∷ 0 ∷ 0 ∷ 0 ∷ 0 ∷ 0 ∷ 0 ∷ 0 ∷ 0 ∷ 2 ∷ 1 ∷ 0 ∷ 0 ∷ 0 ∷ 0 ∷ []

whole_1 : read_picture base4 ∷ read_picture (base4 ++ 0 ∷ []) ∷ []
    ≡ Ok (record { names = (((codes "d"), (node 0)) ∷ []); nodes = ((dict (((k.single k.none), (bool true)) ∷ ((k.tuple ((k.integer (pos 1)) ∷ (k.text (codes "k")) ∷ [])), (node 1)) ∷ ((k.single (k.text (codes "k"))), (integer (pos 2))) ∷ [])) ∷ (list []) ∷ []) }) ∷ Err 83 ∷ []
unfolding read_picture reserved_words chars encode_utf8
whole_1 = refl

-- number of names, at 0
at_fault_1 : read_picture (take 3 base4) ∷ read_picture (put 0 4 (0 ∷ 0 ∷ 0 ∷ 0 ∷ []) base4) ∷ read_picture (put 0 4 (0 ∷ 0 ∷ 0 ∷ 9 ∷ []) base4) ∷ read_picture (put 0 4 (255 ∷ 255 ∷ 255 ∷ 255 ∷ []) base4) ∷ []
    ≡ Err 0 ∷ Err 8 ∷ Err 11 ∷ Err 11 ∷ []
unfolding read_picture reserved_words chars encode_utf8
at_fault_1 = refl

-- length of a name, at 4
at_fault_2 : read_picture (take 4 base4) ∷ read_picture (put 4 1 (0 ∷ []) base4) ∷ read_picture (put 4 1 (255 ∷ []) base4) ∷ read_picture (put 4 1 (2 ∷ []) base4) ∷ []
    ≡ Err 4 ∷ Err 4 ∷ Err 5 ∷ Err 5 ∷ []
unfolding read_picture reserved_words chars encode_utf8
at_fault_2 = refl

-- name, at 5
at_fault_3 : read_picture (take 5 base4) ∷ read_picture (put 5 1 (49 ∷ []) base4) ∷ read_picture (put 5 1 (45 ∷ []) base4) ∷ read_picture (put 5 1 (195 ∷ []) base4) ∷ read_picture (put 5 1 (0 ∷ []) base4) ∷ []
    ≡ Err 5 ∷ Err 5 ∷ Err 5 ∷ Err 5 ∷ Err 5 ∷ []
unfolding read_picture reserved_words chars encode_utf8
at_fault_3 = refl

-- kind of a value, at 6
at_fault_4 : read_picture (take 6 base4) ∷ read_picture (put 6 1 (9 ∷ []) base4) ∷ read_picture (put 6 1 (255 ∷ []) base4) ∷ read_picture (put 6 1 (0 ∷ []) base4) ∷ read_picture (put 6 1 (3 ∷ []) base4) ∷ read_picture (put 6 1 (4 ∷ []) base4) ∷ read_picture (put 6 1 (5 ∷ []) base4) ∷ []
    ≡ Err 6 ∷ Err 6 ∷ Err 6 ∷ Err 11 ∷ Err 27 ∷ Err 15 ∷ Err 59 ∷ []
unfolding read_picture reserved_words chars encode_utf8
at_fault_4 = refl

-- node, at 7
at_fault_5 : read_picture (take 10 base4) ∷ read_picture (put 7 4 (0 ∷ 0 ∷ 0 ∷ 1 ∷ []) base4) ∷ read_picture (put 7 4 (0 ∷ 0 ∷ 0 ∷ 2 ∷ []) base4) ∷ read_picture (put 7 4 (255 ∷ 255 ∷ 255 ∷ 255 ∷ []) base4) ∷ []
    ≡ Err 7 ∷ Err 7 ∷ Err 7 ∷ Err 7 ∷ []
unfolding read_picture reserved_words chars encode_utf8
at_fault_5 = refl

-- number of nodes, at 11
at_fault_6 : read_picture (take 14 base4) ∷ read_picture (put 11 4 (0 ∷ 0 ∷ 0 ∷ 0 ∷ []) base4) ∷ read_picture (put 11 4 (0 ∷ 0 ∷ 0 ∷ 1 ∷ []) base4) ∷ read_picture (put 11 4 (0 ∷ 0 ∷ 0 ∷ 7 ∷ []) base4) ∷ read_picture (put 11 4 (255 ∷ 255 ∷ 255 ∷ 255 ∷ []) base4) ∷ []
    ≡ Err 11 ∷ Err 11 ∷ Err 51 ∷ Err 83 ∷ Err 83 ∷ []
unfolding read_picture reserved_words chars encode_utf8
at_fault_6 = refl

-- kind of a row, at 15
at_fault_7 : read_picture (take 15 base4) ∷ read_picture (put 15 1 (0 ∷ []) base4) ∷ read_picture (put 15 1 (7 ∷ []) base4) ∷ read_picture (put 15 1 (1 ∷ []) base4) ∷ read_picture (put 15 1 (2 ∷ []) base4) ∷ []
    ≡ Err 15 ∷ Err 15 ∷ Err 15 ∷ Err 22 ∷ Err 22 ∷ []
unfolding read_picture reserved_words chars encode_utf8
at_fault_7 = refl

-- number of entries, at 16
at_fault_8 : read_picture (take 19 base4) ∷ read_picture (put 16 4 (0 ∷ 0 ∷ 0 ∷ 0 ∷ []) base4) ∷ read_picture (put 16 4 (0 ∷ 0 ∷ 0 ∷ 1 ∷ []) base4) ∷ read_picture (put 16 4 (0 ∷ 0 ∷ 0 ∷ 9 ∷ []) base4) ∷ []
    ≡ Err 16 ∷ Err 20 ∷ Err 22 ∷ Err 80 ∷ []
unfolding read_picture reserved_words chars encode_utf8
at_fault_8 = refl

-- kind of a key, at 20
at_fault_9 : read_picture (take 20 base4) ∷ read_picture (put 20 1 (5 ∷ []) base4) ∷ read_picture (put 20 1 (8 ∷ []) base4) ∷ read_picture (put 20 1 (10 ∷ []) base4) ∷ []
    ≡ Err 20 ∷ Err 20 ∷ Err 20 ∷ Err 20 ∷ []
unfolding read_picture reserved_words chars encode_utf8
at_fault_9 = refl

-- kind of a value, at 21
at_fault_10 : read_picture (take 21 base4) ∷ read_picture (put 21 1 (9 ∷ []) base4) ∷ read_picture (put 21 1 (255 ∷ []) base4) ∷ read_picture (put 21 1 (0 ∷ []) base4) ∷ read_picture (put 21 1 (3 ∷ []) base4) ∷ read_picture (put 21 1 (4 ∷ []) base4) ∷ read_picture (put 21 1 (5 ∷ []) base4) ∷ read_picture (put 21 1 (8 ∷ []) base4) ∷ []
    ≡ Err 21 ∷ Err 21 ∷ Err 21 ∷ Ok (record { names = (((codes "d"), (node 0)) ∷ []); nodes = ((dict (((k.single k.none), none) ∷ ((k.tuple ((k.integer (pos 1)) ∷ (k.text (codes "k")) ∷ [])), (node 1)) ∷ ((k.single (k.text (codes "k"))), (integer (pos 2))) ∷ [])) ∷ (list []) ∷ []) }) ∷ Err 38 ∷ Err 26 ∷ Err 70 ∷ Err 22 ∷ []
unfolding read_picture reserved_words chars encode_utf8
at_fault_10 = refl

-- kind of a key, at 22
at_fault_11 : read_picture (take 22 base4) ∷ read_picture (put 22 1 (5 ∷ []) base4) ∷ read_picture (put 22 1 (8 ∷ []) base4) ∷ read_picture (put 22 1 (10 ∷ []) base4) ∷ read_picture (put 22 1 (0 ∷ []) base4) ∷ []
    ≡ Err 22 ∷ Err 22 ∷ Err 22 ∷ Err 22 ∷ Err 22 ∷ []
unfolding read_picture reserved_words chars encode_utf8
at_fault_11 = refl

-- number of parts, at 23
at_fault_12 : read_picture (take 26 base4) ∷ read_picture (put 23 4 (0 ∷ 0 ∷ 0 ∷ 0 ∷ []) base4) ∷ read_picture (put 23 4 (0 ∷ 0 ∷ 0 ∷ 3 ∷ []) base4) ∷ []
    ≡ Err 23 ∷ Err 61 ∷ Err 50 ∷ []
unfolding read_picture reserved_words chars encode_utf8
at_fault_12 = refl

-- kind of a part, at 27
at_fault_13 : read_picture (take 27 base4) ∷ read_picture (put 27 1 (5 ∷ []) base4) ∷ read_picture (put 27 1 (9 ∷ []) base4) ∷ read_picture (put 27 1 (0 ∷ []) base4) ∷ []
    ≡ Err 27 ∷ Err 27 ∷ Err 27 ∷ Err 30 ∷ []
unfolding read_picture reserved_words chars encode_utf8
at_fault_13 = refl

-- whole number, at 28
at_fault_14 : read_picture (take 43 base4) ∷ read_picture (put 28 16 (128 ∷ 0 ∷ 0 ∷ 0 ∷ 0 ∷ 0 ∷ 0 ∷ 0 ∷ 0 ∷ 0 ∷ 0 ∷ 0 ∷ 0 ∷ 0 ∷ 0 ∷ 0 ∷ []) base4) ∷ read_picture (put 28 16 (127 ∷ 255 ∷ 255 ∷ 255 ∷ 255 ∷ 255 ∷ 255 ∷ 255 ∷ 255 ∷ 255 ∷ 255 ∷ 255 ∷ 255 ∷ 255 ∷ 255 ∷ 255 ∷ []) base4) ∷ []
    ≡ Err 28 ∷ Ok (record { names = (((codes "d"), (node 0)) ∷ []); nodes = ((dict (((k.single k.none), (bool true)) ∷ ((k.tuple ((k.integer (negsuc 170141183460469231731687303715884105727)) ∷ (k.text (codes "k")) ∷ [])), (node 1)) ∷ ((k.single (k.text (codes "k"))), (integer (pos 2))) ∷ [])) ∷ (list []) ∷ []) }) ∷ Ok (record { names = (((codes "d"), (node 0)) ∷ []); nodes = ((dict (((k.single k.none), (bool true)) ∷ ((k.tuple ((k.integer (pos 170141183460469231731687303715884105727)) ∷ (k.text (codes "k")) ∷ [])), (node 1)) ∷ ((k.single (k.text (codes "k"))), (integer (pos 2))) ∷ [])) ∷ (list []) ∷ []) }) ∷ []
unfolding read_picture reserved_words chars encode_utf8
at_fault_14 = refl

-- kind of a part, at 44
at_fault_15 : read_picture (take 44 base4) ∷ read_picture (put 44 1 (5 ∷ []) base4) ∷ read_picture (put 44 1 (9 ∷ []) base4) ∷ read_picture (put 44 1 (0 ∷ []) base4) ∷ []
    ≡ Err 44 ∷ Err 44 ∷ Err 44 ∷ Err 46 ∷ []
unfolding read_picture reserved_words chars encode_utf8
at_fault_15 = refl

-- length of a text, at 45
at_fault_16 : read_picture (take 48 base4) ∷ read_picture (put 45 4 (0 ∷ 0 ∷ 0 ∷ 0 ∷ []) base4) ∷ read_picture (put 45 4 (255 ∷ 255 ∷ 255 ∷ 255 ∷ []) base4) ∷ []
    ≡ Err 45 ∷ Err 49 ∷ Err 49 ∷ []
unfolding read_picture reserved_words chars encode_utf8
at_fault_16 = refl

-- text, at 49
at_fault_17 : read_picture (take 49 base4) ∷ read_picture (put 49 1 (255 ∷ []) base4) ∷ read_picture (put 49 1 (237 ∷ 160 ∷ 128 ∷ []) base4) ∷ read_picture (put 49 1 (244 ∷ 144 ∷ 128 ∷ 128 ∷ []) base4) ∷ read_picture (put 49 1 (192 ∷ 128 ∷ []) base4) ∷ read_picture (put 49 1 (226 ∷ 130 ∷ []) base4) ∷ []
    ≡ Err 49 ∷ Err 49 ∷ Err 49 ∷ Err 49 ∷ Err 49 ∷ Err 49 ∷ []
unfolding read_picture reserved_words chars encode_utf8
at_fault_17 = refl

-- kind of a value, at 50
at_fault_18 : read_picture (take 50 base4) ∷ read_picture (put 50 1 (9 ∷ []) base4) ∷ read_picture (put 50 1 (255 ∷ []) base4) ∷ read_picture (put 50 1 (0 ∷ []) base4) ∷ read_picture (put 50 1 (3 ∷ []) base4) ∷ read_picture (put 50 1 (4 ∷ []) base4) ∷ read_picture (put 50 1 (5 ∷ []) base4) ∷ []
    ≡ Err 50 ∷ Err 50 ∷ Err 50 ∷ Err 51 ∷ Err 67 ∷ Err 56 ∷ Err 83 ∷ []
unfolding read_picture reserved_words chars encode_utf8
at_fault_18 = refl

-- node, at 51
at_fault_19 : read_picture (take 54 base4) ∷ read_picture (put 51 4 (0 ∷ 0 ∷ 0 ∷ 0 ∷ []) base4) ∷ read_picture (put 51 4 (0 ∷ 0 ∷ 0 ∷ 2 ∷ []) base4) ∷ read_picture (put 51 4 (255 ∷ 255 ∷ 255 ∷ 255 ∷ []) base4) ∷ []
    ≡ Err 51 ∷ Err 78 ∷ Err 51 ∷ Err 51 ∷ []
unfolding read_picture reserved_words chars encode_utf8
at_fault_19 = refl

-- kind of a key, at 55
at_fault_20 : read_picture (take 55 base4) ∷ read_picture (put 55 1 (5 ∷ []) base4) ∷ read_picture (put 55 1 (8 ∷ []) base4) ∷ read_picture (put 55 1 (10 ∷ []) base4) ∷ read_picture (put 55 1 (0 ∷ []) base4) ∷ []
    ≡ Err 55 ∷ Err 55 ∷ Err 55 ∷ Err 55 ∷ Err 55 ∷ []
unfolding read_picture reserved_words chars encode_utf8
at_fault_20 = refl

-- length of a text, at 56
at_fault_21 : read_picture (take 59 base4) ∷ read_picture (put 56 4 (0 ∷ 0 ∷ 0 ∷ 0 ∷ []) base4) ∷ read_picture (put 56 4 (255 ∷ 255 ∷ 255 ∷ 255 ∷ []) base4) ∷ []
    ≡ Err 56 ∷ Err 60 ∷ Err 60 ∷ []
unfolding read_picture reserved_words chars encode_utf8
at_fault_21 = refl

-- text, at 60
at_fault_22 : read_picture (take 60 base4) ∷ read_picture (put 60 1 (255 ∷ []) base4) ∷ read_picture (put 60 1 (237 ∷ 160 ∷ 128 ∷ []) base4) ∷ read_picture (put 60 1 (244 ∷ 144 ∷ 128 ∷ 128 ∷ []) base4) ∷ read_picture (put 60 1 (192 ∷ 128 ∷ []) base4) ∷ read_picture (put 60 1 (226 ∷ 130 ∷ []) base4) ∷ []
    ≡ Err 60 ∷ Err 60 ∷ Err 60 ∷ Err 60 ∷ Err 60 ∷ Err 60 ∷ []
unfolding read_picture reserved_words chars encode_utf8
at_fault_22 = refl

-- kind of a value, at 61
at_fault_23 : read_picture (take 61 base4) ∷ read_picture (put 61 1 (9 ∷ []) base4) ∷ read_picture (put 61 1 (255 ∷ []) base4) ∷ read_picture (put 61 1 (0 ∷ []) base4) ∷ read_picture (put 61 1 (4 ∷ []) base4) ∷ read_picture (put 61 1 (5 ∷ []) base4) ∷ read_picture (put 61 1 (8 ∷ []) base4) ∷ []
    ≡ Err 61 ∷ Err 61 ∷ Err 61 ∷ Err 62 ∷ Err 66 ∷ Err 78 ∷ Err 66 ∷ []
unfolding read_picture reserved_words chars encode_utf8
at_fault_23 = refl

-- whole number, at 62
at_fault_24 : read_picture (take 77 base4) ∷ read_picture (put 62 16 (128 ∷ 0 ∷ 0 ∷ 0 ∷ 0 ∷ 0 ∷ 0 ∷ 0 ∷ 0 ∷ 0 ∷ 0 ∷ 0 ∷ 0 ∷ 0 ∷ 0 ∷ 0 ∷ []) base4) ∷ read_picture (put 62 16 (127 ∷ 255 ∷ 255 ∷ 255 ∷ 255 ∷ 255 ∷ 255 ∷ 255 ∷ 255 ∷ 255 ∷ 255 ∷ 255 ∷ 255 ∷ 255 ∷ 255 ∷ 255 ∷ []) base4) ∷ []
    ≡ Err 62 ∷ Ok (record { names = (((codes "d"), (node 0)) ∷ []); nodes = ((dict (((k.single k.none), (bool true)) ∷ ((k.tuple ((k.integer (pos 1)) ∷ (k.text (codes "k")) ∷ [])), (node 1)) ∷ ((k.single (k.text (codes "k"))), (integer (negsuc 170141183460469231731687303715884105727))) ∷ [])) ∷ (list []) ∷ []) }) ∷ Ok (record { names = (((codes "d"), (node 0)) ∷ []); nodes = ((dict (((k.single k.none), (bool true)) ∷ ((k.tuple ((k.integer (pos 1)) ∷ (k.text (codes "k")) ∷ [])), (node 1)) ∷ ((k.single (k.text (codes "k"))), (integer (pos 170141183460469231731687303715884105727))) ∷ [])) ∷ (list []) ∷ []) }) ∷ []
unfolding read_picture reserved_words chars encode_utf8
at_fault_24 = refl

-- kind of a row, at 78
at_fault_25 : read_picture (take 78 base4) ∷ read_picture (put 78 1 (0 ∷ []) base4) ∷ read_picture (put 78 1 (7 ∷ []) base4) ∷ read_picture (put 78 1 (2 ∷ []) base4) ∷ []
    ≡ Err 78 ∷ Err 78 ∷ Err 78 ∷ Ok (record { names = (((codes "d"), (node 0)) ∷ []); nodes = ((dict (((k.single k.none), (bool true)) ∷ ((k.tuple ((k.integer (pos 1)) ∷ (k.text (codes "k")) ∷ [])), (node 1)) ∷ ((k.single (k.text (codes "k"))), (integer (pos 2))) ∷ [])) ∷ (tuple []) ∷ []) }) ∷ []
unfolding read_picture reserved_words chars encode_utf8
at_fault_25 = refl

-- number of items, at 79
at_fault_26 : read_picture (take 82 base4) ∷ read_picture (put 79 4 (0 ∷ 0 ∷ 0 ∷ 9 ∷ []) base4) ∷ []
    ≡ Err 79 ∷ Err 83 ∷ []
unfolding read_picture reserved_words chars encode_utf8
at_fault_26 = refl

-- ---- an object and a tuple

abbrev base5 : List ℕ
base5 = 0 ∷ 0 ∷ 0 ∷ 1 ∷ 1 ∷ 111 ∷ 8 ∷ 0 ∷ 0 ∷ 0 ∷ 0 ∷ 0 ∷ 0 ∷ 0 ∷ 2 ∷ 4 ∷ 0 ∷ 0 ∷ 0 ∷ 2 ∷ 1 ∷ 120 ∷ 8 ∷ 0 ∷ 0 ∷ 0 ∷ 1 ∷ 2 ∷ 121 ∷ 95 ∷ 0 ∷ 2 ∷ 0 ∷ 0 ∷ 0 ∷ 0 ∷ []

whole_2 : read_picture base5 ∷ read_picture (base5 ++ 0 ∷ []) ∷ []
    ≡ Ok (record { names = (((codes "o"), (node 0)) ∷ []); nodes = ((object (((codes "x"), (node 1)) ∷ ((codes "y_"), none) ∷ [])) ∷ (tuple []) ∷ []) }) ∷ Err 36 ∷ []
unfolding read_picture reserved_words chars encode_utf8
whole_2 = refl

-- number of names, at 0
at_fault_27 : read_picture (take 3 base5) ∷ read_picture (put 0 4 (0 ∷ 0 ∷ 0 ∷ 0 ∷ []) base5) ∷ read_picture (put 0 4 (0 ∷ 0 ∷ 0 ∷ 9 ∷ []) base5) ∷ read_picture (put 0 4 (255 ∷ 255 ∷ 255 ∷ 255 ∷ []) base5) ∷ []
    ≡ Err 0 ∷ Err 8 ∷ Err 11 ∷ Err 11 ∷ []
unfolding read_picture reserved_words chars encode_utf8
at_fault_27 = refl

-- length of a name, at 4
at_fault_28 : read_picture (take 4 base5) ∷ read_picture (put 4 1 (0 ∷ []) base5) ∷ read_picture (put 4 1 (255 ∷ []) base5) ∷ read_picture (put 4 1 (2 ∷ []) base5) ∷ []
    ≡ Err 4 ∷ Err 4 ∷ Err 5 ∷ Err 5 ∷ []
unfolding read_picture reserved_words chars encode_utf8
at_fault_28 = refl

-- name, at 5
at_fault_29 : read_picture (take 5 base5) ∷ read_picture (put 5 1 (49 ∷ []) base5) ∷ read_picture (put 5 1 (45 ∷ []) base5) ∷ read_picture (put 5 1 (195 ∷ []) base5) ∷ read_picture (put 5 1 (0 ∷ []) base5) ∷ []
    ≡ Err 5 ∷ Err 5 ∷ Err 5 ∷ Err 5 ∷ Err 5 ∷ []
unfolding read_picture reserved_words chars encode_utf8
at_fault_29 = refl

-- kind of a value, at 6
at_fault_30 : read_picture (take 6 base5) ∷ read_picture (put 6 1 (9 ∷ []) base5) ∷ read_picture (put 6 1 (255 ∷ []) base5) ∷ read_picture (put 6 1 (0 ∷ []) base5) ∷ read_picture (put 6 1 (3 ∷ []) base5) ∷ read_picture (put 6 1 (4 ∷ []) base5) ∷ read_picture (put 6 1 (5 ∷ []) base5) ∷ []
    ≡ Err 6 ∷ Err 6 ∷ Err 6 ∷ Err 11 ∷ Err 27 ∷ Err 15 ∷ Err 23 ∷ []
unfolding read_picture reserved_words chars encode_utf8
at_fault_30 = refl

-- node, at 7
at_fault_31 : read_picture (take 10 base5) ∷ read_picture (put 7 4 (0 ∷ 0 ∷ 0 ∷ 1 ∷ []) base5) ∷ read_picture (put 7 4 (0 ∷ 0 ∷ 0 ∷ 2 ∷ []) base5) ∷ read_picture (put 7 4 (255 ∷ 255 ∷ 255 ∷ 255 ∷ []) base5) ∷ []
    ≡ Err 7 ∷ Err 7 ∷ Err 7 ∷ Err 7 ∷ []
unfolding read_picture reserved_words chars encode_utf8
at_fault_31 = refl

-- number of nodes, at 11
at_fault_32 : read_picture (take 14 base5) ∷ read_picture (put 11 4 (0 ∷ 0 ∷ 0 ∷ 0 ∷ []) base5) ∷ read_picture (put 11 4 (0 ∷ 0 ∷ 0 ∷ 1 ∷ []) base5) ∷ read_picture (put 11 4 (0 ∷ 0 ∷ 0 ∷ 7 ∷ []) base5) ∷ read_picture (put 11 4 (255 ∷ 255 ∷ 255 ∷ 255 ∷ []) base5) ∷ []
    ≡ Err 11 ∷ Err 11 ∷ Err 23 ∷ Err 36 ∷ Err 36 ∷ []
unfolding read_picture reserved_words chars encode_utf8
at_fault_32 = refl

-- kind of a row, at 15
at_fault_33 : read_picture (take 15 base5) ∷ read_picture (put 15 1 (0 ∷ []) base5) ∷ read_picture (put 15 1 (7 ∷ []) base5) ∷ read_picture (put 15 1 (1 ∷ []) base5) ∷ read_picture (put 15 1 (2 ∷ []) base5) ∷ []
    ≡ Err 15 ∷ Err 15 ∷ Err 15 ∷ Err 21 ∷ Err 21 ∷ []
unfolding read_picture reserved_words chars encode_utf8
at_fault_33 = refl

-- number of entries, at 16
at_fault_34 : read_picture (take 19 base5) ∷ read_picture (put 16 4 (0 ∷ 0 ∷ 0 ∷ 0 ∷ []) base5) ∷ read_picture (put 16 4 (0 ∷ 0 ∷ 0 ∷ 1 ∷ []) base5) ∷ read_picture (put 16 4 (0 ∷ 0 ∷ 0 ∷ 9 ∷ []) base5) ∷ []
    ≡ Err 16 ∷ Err 20 ∷ Err 36 ∷ Err 32 ∷ []
unfolding read_picture reserved_words chars encode_utf8
at_fault_34 = refl

-- length of a name, at 20
at_fault_35 : read_picture (take 20 base5) ∷ read_picture (put 20 1 (0 ∷ []) base5) ∷ read_picture (put 20 1 (255 ∷ []) base5) ∷ read_picture (put 20 1 (2 ∷ []) base5) ∷ []
    ≡ Err 20 ∷ Err 20 ∷ Err 21 ∷ Err 21 ∷ []
unfolding read_picture reserved_words chars encode_utf8
at_fault_35 = refl

-- name, at 21
at_fault_36 : read_picture (take 21 base5) ∷ read_picture (put 21 1 (49 ∷ []) base5) ∷ read_picture (put 21 1 (45 ∷ []) base5) ∷ read_picture (put 21 1 (195 ∷ []) base5) ∷ read_picture (put 21 1 (0 ∷ []) base5) ∷ []
    ≡ Err 21 ∷ Err 21 ∷ Err 21 ∷ Err 21 ∷ Err 21 ∷ []
unfolding read_picture reserved_words chars encode_utf8
at_fault_36 = refl

-- kind of a value, at 22
at_fault_37 : read_picture (take 22 base5) ∷ read_picture (put 22 1 (9 ∷ []) base5) ∷ read_picture (put 22 1 (255 ∷ []) base5) ∷ read_picture (put 22 1 (0 ∷ []) base5) ∷ read_picture (put 22 1 (3 ∷ []) base5) ∷ read_picture (put 22 1 (4 ∷ []) base5) ∷ read_picture (put 22 1 (5 ∷ []) base5) ∷ []
    ≡ Err 22 ∷ Err 22 ∷ Err 22 ∷ Err 23 ∷ Err 23 ∷ Err 29 ∷ Err 23 ∷ []
unfolding read_picture reserved_words chars encode_utf8
at_fault_37 = refl

-- node, at 23
at_fault_38 : read_picture (take 26 base5) ∷ read_picture (put 23 4 (0 ∷ 0 ∷ 0 ∷ 0 ∷ []) base5) ∷ read_picture (put 23 4 (0 ∷ 0 ∷ 0 ∷ 2 ∷ []) base5) ∷ read_picture (put 23 4 (255 ∷ 255 ∷ 255 ∷ 255 ∷ []) base5) ∷ []
    ≡ Err 23 ∷ Err 31 ∷ Err 23 ∷ Err 23 ∷ []
unfolding read_picture reserved_words chars encode_utf8
at_fault_38 = refl

-- length of a name, at 27
at_fault_39 : read_picture (take 27 base5) ∷ read_picture (put 27 1 (0 ∷ []) base5) ∷ read_picture (put 27 1 (255 ∷ []) base5) ∷ []
    ≡ Err 27 ∷ Err 27 ∷ Err 28 ∷ []
unfolding read_picture reserved_words chars encode_utf8
at_fault_39 = refl

-- name, at 28
at_fault_40 : read_picture (take 29 base5) ∷ read_picture (put 28 2 (49 ∷ []) base5) ∷ read_picture (put 28 2 (45 ∷ []) base5) ∷ read_picture (put 28 2 (195 ∷ []) base5) ∷ read_picture (put 28 2 (0 ∷ []) base5) ∷ []
    ≡ Err 28 ∷ Err 28 ∷ Err 28 ∷ Err 28 ∷ Err 28 ∷ []
unfolding read_picture reserved_words chars encode_utf8
at_fault_40 = refl

-- kind of a value, at 30
at_fault_41 : read_picture (take 30 base5) ∷ read_picture (put 30 1 (9 ∷ []) base5) ∷ read_picture (put 30 1 (255 ∷ []) base5) ∷ read_picture (put 30 1 (3 ∷ []) base5) ∷ read_picture (put 30 1 (4 ∷ []) base5) ∷ read_picture (put 30 1 (5 ∷ []) base5) ∷ read_picture (put 30 1 (8 ∷ []) base5) ∷ []
    ≡ Err 30 ∷ Err 30 ∷ Err 30 ∷ Err 31 ∷ Err 35 ∷ Err 31 ∷ Err 31 ∷ []
unfolding read_picture reserved_words chars encode_utf8
at_fault_41 = refl

-- kind of a row, at 31
at_fault_42 : read_picture (take 31 base5) ∷ read_picture (put 31 1 (0 ∷ []) base5) ∷ read_picture (put 31 1 (7 ∷ []) base5) ∷ read_picture (put 31 1 (1 ∷ []) base5) ∷ []
    ≡ Err 31 ∷ Err 31 ∷ Err 31 ∷ Ok (record { names = (((codes "o"), (node 0)) ∷ []); nodes = ((object (((codes "x"), (node 1)) ∷ ((codes "y_"), none) ∷ [])) ∷ (list []) ∷ []) }) ∷ []
unfolding read_picture reserved_words chars encode_utf8
at_fault_42 = refl

-- number of items, at 32
at_fault_43 : read_picture (take 35 base5) ∷ read_picture (put 32 4 (0 ∷ 0 ∷ 0 ∷ 9 ∷ []) base5) ∷ []
    ≡ Err 32 ∷ Err 36 ∷ []
unfolding read_picture reserved_words chars encode_utf8
at_fault_43 = refl

-- ---- an exception

abbrev base6 : List ℕ
base6 = 0 ∷ 0 ∷ 0 ∷ 1 ∷ 1 ∷ 101 ∷ 8 ∷ 0 ∷ 0 ∷ 0 ∷ 0 ∷ 0 ∷ 0 ∷ 0 ∷ 2 ∷ 6 ∷ 16 ∷ 0 ∷ 0 ∷ 0 ∷ 2 ∷ 4 ∷ 0 ∷ 0 ∷ 0 ∷ 1 ∷ 107 ∷ 8 ∷ 0 ∷ 0 ∷ 0 ∷ 1 ∷ 1 ∷ 0 ∷ 0 ∷ 0 ∷ 0 ∷ []

whole_3 : read_picture base6 ∷ read_picture (base6 ++ 0 ∷ []) ∷ []
    ≡ Ok (record { names = (((codes "e"), (node 0)) ∷ []); nodes = ((exception 16 ((text (codes "k")) ∷ (node 1) ∷ [])) ∷ (list []) ∷ []) }) ∷ Err 37 ∷ []
unfolding read_picture reserved_words chars encode_utf8
whole_3 = refl

-- number of names, at 0
at_fault_44 : read_picture (take 3 base6) ∷ read_picture (put 0 4 (0 ∷ 0 ∷ 0 ∷ 0 ∷ []) base6) ∷ read_picture (put 0 4 (0 ∷ 0 ∷ 0 ∷ 9 ∷ []) base6) ∷ read_picture (put 0 4 (255 ∷ 255 ∷ 255 ∷ 255 ∷ []) base6) ∷ []
    ≡ Err 0 ∷ Err 8 ∷ Err 11 ∷ Err 11 ∷ []
unfolding read_picture reserved_words chars encode_utf8
at_fault_44 = refl

-- length of a name, at 4
at_fault_45 : read_picture (take 4 base6) ∷ read_picture (put 4 1 (0 ∷ []) base6) ∷ read_picture (put 4 1 (255 ∷ []) base6) ∷ read_picture (put 4 1 (2 ∷ []) base6) ∷ []
    ≡ Err 4 ∷ Err 4 ∷ Err 5 ∷ Err 5 ∷ []
unfolding read_picture reserved_words chars encode_utf8
at_fault_45 = refl

-- name, at 5
at_fault_46 : read_picture (take 5 base6) ∷ read_picture (put 5 1 (49 ∷ []) base6) ∷ read_picture (put 5 1 (45 ∷ []) base6) ∷ read_picture (put 5 1 (195 ∷ []) base6) ∷ read_picture (put 5 1 (0 ∷ []) base6) ∷ []
    ≡ Err 5 ∷ Err 5 ∷ Err 5 ∷ Err 5 ∷ Err 5 ∷ []
unfolding read_picture reserved_words chars encode_utf8
at_fault_46 = refl

-- kind of a value, at 6
at_fault_47 : read_picture (take 6 base6) ∷ read_picture (put 6 1 (9 ∷ []) base6) ∷ read_picture (put 6 1 (255 ∷ []) base6) ∷ read_picture (put 6 1 (0 ∷ []) base6) ∷ read_picture (put 6 1 (3 ∷ []) base6) ∷ read_picture (put 6 1 (4 ∷ []) base6) ∷ read_picture (put 6 1 (5 ∷ []) base6) ∷ []
    ≡ Err 6 ∷ Err 6 ∷ Err 6 ∷ Err 11 ∷ Err 27 ∷ Err 15 ∷ Err 23 ∷ []
unfolding read_picture reserved_words chars encode_utf8
at_fault_47 = refl

-- node, at 7
at_fault_48 : read_picture (take 10 base6) ∷ read_picture (put 7 4 (0 ∷ 0 ∷ 0 ∷ 1 ∷ []) base6) ∷ read_picture (put 7 4 (0 ∷ 0 ∷ 0 ∷ 2 ∷ []) base6) ∷ read_picture (put 7 4 (255 ∷ 255 ∷ 255 ∷ 255 ∷ []) base6) ∷ []
    ≡ Err 7 ∷ Err 7 ∷ Err 7 ∷ Err 7 ∷ []
unfolding read_picture reserved_words chars encode_utf8
at_fault_48 = refl

-- number of nodes, at 11
at_fault_49 : read_picture (take 14 base6) ∷ read_picture (put 11 4 (0 ∷ 0 ∷ 0 ∷ 0 ∷ []) base6) ∷ read_picture (put 11 4 (0 ∷ 0 ∷ 0 ∷ 1 ∷ []) base6) ∷ read_picture (put 11 4 (0 ∷ 0 ∷ 0 ∷ 7 ∷ []) base6) ∷ read_picture (put 11 4 (255 ∷ 255 ∷ 255 ∷ 255 ∷ []) base6) ∷ []
    ≡ Err 11 ∷ Err 11 ∷ Err 28 ∷ Err 37 ∷ Err 37 ∷ []
unfolding read_picture reserved_words chars encode_utf8
at_fault_49 = refl

-- kind of a row, at 15
at_fault_50 : read_picture (take 15 base6) ∷ read_picture (put 15 1 (0 ∷ []) base6) ∷ read_picture (put 15 1 (7 ∷ []) base6) ∷ read_picture (put 15 1 (1 ∷ []) base6) ∷ read_picture (put 15 1 (2 ∷ []) base6) ∷ []
    ≡ Err 15 ∷ Err 15 ∷ Err 15 ∷ Err 37 ∷ Err 37 ∷ []
unfolding read_picture reserved_words chars encode_utf8
at_fault_50 = refl

-- class of an exception, at 16
at_fault_51 : read_picture (take 16 base6) ∷ read_picture (put 16 1 (7 ∷ []) base6) ∷ read_picture (put 16 1 (8 ∷ []) base6) ∷ read_picture (put 16 1 (25 ∷ []) base6) ∷ []
    ≡ Err 16 ∷ Err 16 ∷ Ok (record { names = (((codes "e"), (node 0)) ∷ []); nodes = ((exception 8 ((text (codes "k")) ∷ (node 1) ∷ [])) ∷ (list []) ∷ []) }) ∷ Err 16 ∷ []
unfolding read_picture reserved_words chars encode_utf8
at_fault_51 = refl

-- number of items, at 17
at_fault_52 : read_picture (take 20 base6) ∷ read_picture (put 17 4 (0 ∷ 0 ∷ 0 ∷ 0 ∷ []) base6) ∷ read_picture (put 17 4 (0 ∷ 0 ∷ 0 ∷ 9 ∷ []) base6) ∷ []
    ≡ Err 17 ∷ Err 21 ∷ Err 37 ∷ []
unfolding read_picture reserved_words chars encode_utf8
at_fault_52 = refl

-- kind of a value, at 21
at_fault_53 : read_picture (take 21 base6) ∷ read_picture (put 21 1 (9 ∷ []) base6) ∷ read_picture (put 21 1 (255 ∷ []) base6) ∷ read_picture (put 21 1 (0 ∷ []) base6) ∷ read_picture (put 21 1 (3 ∷ []) base6) ∷ read_picture (put 21 1 (5 ∷ []) base6) ∷ read_picture (put 21 1 (8 ∷ []) base6) ∷ []
    ≡ Err 21 ∷ Err 21 ∷ Err 21 ∷ Err 23 ∷ Err 22 ∷ Err 22 ∷ Err 26 ∷ []
unfolding read_picture reserved_words chars encode_utf8
at_fault_53 = refl

-- length of a text, at 22
at_fault_54 : read_picture (take 25 base6) ∷ read_picture (put 22 4 (0 ∷ 0 ∷ 0 ∷ 0 ∷ []) base6) ∷ read_picture (put 22 4 (255 ∷ 255 ∷ 255 ∷ 255 ∷ []) base6) ∷ []
    ≡ Err 22 ∷ Err 26 ∷ Err 26 ∷ []
unfolding read_picture reserved_words chars encode_utf8
at_fault_54 = refl

-- text, at 26
at_fault_55 : read_picture (take 26 base6) ∷ read_picture (put 26 1 (255 ∷ []) base6) ∷ read_picture (put 26 1 (237 ∷ 160 ∷ 128 ∷ []) base6) ∷ read_picture (put 26 1 (244 ∷ 144 ∷ 128 ∷ 128 ∷ []) base6) ∷ read_picture (put 26 1 (192 ∷ 128 ∷ []) base6) ∷ read_picture (put 26 1 (226 ∷ 130 ∷ []) base6) ∷ []
    ≡ Err 26 ∷ Err 26 ∷ Err 26 ∷ Err 26 ∷ Err 26 ∷ Err 26 ∷ []
unfolding read_picture reserved_words chars encode_utf8
at_fault_55 = refl

-- kind of a value, at 27
at_fault_56 : read_picture (take 27 base6) ∷ read_picture (put 27 1 (9 ∷ []) base6) ∷ read_picture (put 27 1 (255 ∷ []) base6) ∷ read_picture (put 27 1 (0 ∷ []) base6) ∷ read_picture (put 27 1 (3 ∷ []) base6) ∷ read_picture (put 27 1 (4 ∷ []) base6) ∷ read_picture (put 27 1 (5 ∷ []) base6) ∷ []
    ≡ Err 27 ∷ Err 27 ∷ Err 27 ∷ Err 28 ∷ Err 28 ∷ Err 33 ∷ Err 28 ∷ []
unfolding read_picture reserved_words chars encode_utf8
at_fault_56 = refl

-- node, at 28
at_fault_57 : read_picture (take 31 base6) ∷ read_picture (put 28 4 (0 ∷ 0 ∷ 0 ∷ 0 ∷ []) base6) ∷ read_picture (put 28 4 (0 ∷ 0 ∷ 0 ∷ 2 ∷ []) base6) ∷ read_picture (put 28 4 (255 ∷ 255 ∷ 255 ∷ 255 ∷ []) base6) ∷ []
    ≡ Err 28 ∷ Err 32 ∷ Err 28 ∷ Err 28 ∷ []
unfolding read_picture reserved_words chars encode_utf8
at_fault_57 = refl

-- kind of a row, at 32
at_fault_58 : read_picture (take 32 base6) ∷ read_picture (put 32 1 (0 ∷ []) base6) ∷ read_picture (put 32 1 (7 ∷ []) base6) ∷ read_picture (put 32 1 (2 ∷ []) base6) ∷ []
    ≡ Err 32 ∷ Err 32 ∷ Err 32 ∷ Ok (record { names = (((codes "e"), (node 0)) ∷ []); nodes = ((exception 16 ((text (codes "k")) ∷ (node 1) ∷ [])) ∷ (tuple []) ∷ []) }) ∷ []
unfolding read_picture reserved_words chars encode_utf8
at_fault_58 = refl

-- number of items, at 33
at_fault_59 : read_picture (take 36 base6) ∷ read_picture (put 33 4 (0 ∷ 0 ∷ 0 ∷ 9 ∷ []) base6) ∷ []
    ≡ Err 33 ∷ Err 37 ∷ []
unfolding read_picture reserved_words chars encode_utf8
at_fault_59 = refl

-- Pictures in which one field is cut or changed: what is read, or the place of the first field at fault. Computed on the definition; made by tools/rows/reading_rows.py.
use Rattle.std.specs.Prelude.{◌≡◌, ℕ, pos, negsuc, List, [], ◌∷◌, ◌++◌, codes, Ok, Err, refl}
use Rattle.std.specs.Prelude.{◌+◌, take, drop}
use Rattle.std.specs.Char.{encode_utf8}
use Rattle.std.specs.Str.{chars}
use Rattle.kishu_language.specs.tokens.Names.{reserved_words}
use Rattle.kishu_meaning.specs.values.Values.{integer, text, range, builtin, class, node, list, tuple}
use Rattle.kishu_reading.specs.FromBytes.{read_picture}

-- the bytes, with others in the place of so many of them
abbrev put : (at out : ℕ) → (new bs : List ℕ) → List ℕ
put at out new bs = take at bs ++ (new ++ drop (at + out) bs)

-- ---- a whole number, a text and a range

abbrev base1 : List ℕ
base1 = 0 ∷ 0 ∷ 0 ∷ 3 ∷ 1 ∷ 97 ∷ 3 ∷ 0 ∷ 0 ∷ 0 ∷ 0 ∷ 0 ∷ 0 ∷ 0 ∷ 0 ∷ 0 ∷ 0 ∷ 0 ∷ 0 ∷ 0 ∷ 0 ∷ 0 ∷ 5 ∷ 1 ∷ 98 ∷ 4 ∷ 0 ∷ 0 ∷ 0 ∷ 2 ∷ 195 ∷ 169 ∷ 1 ∷ 114 ∷ 5 ∷ 0 ∷ 0 ∷ 0 ∷ 0 ∷ 0 ∷ 0 ∷ 0 ∷ 0 ∷ 0 ∷ 0 ∷ 0 ∷ 0 ∷ 0 ∷ 0 ∷ 0 ∷ 1 ∷ 0 ∷ 0 ∷ 0 ∷ 0 ∷ 0 ∷ 0 ∷ 0 ∷ 0 ∷ 0 ∷ 0 ∷ 0 ∷ 0 ∷ 0 ∷ 0 ∷ 0 ∷ 2 ∷ 0 ∷ 0 ∷ 0 ∷ 0 ∷ 0 ∷ 0 ∷ 0 ∷ 0 ∷ 0 ∷ 0 ∷ 0 ∷ 0 ∷ 0 ∷ 0 ∷ 0 ∷ 3 ∷ 0 ∷ 0 ∷ 0 ∷ 0 ∷ []

whole_1 : read_picture base1 ∷ read_picture (base1 ++ 0 ∷ []) ∷ []
    ≡ Ok (record { names = (((codes "a"), (integer (pos 5))) ∷ ((codes "b"), (text (233 ∷ []))) ∷ ((codes "r"), (range (pos 1) (pos 2) (pos 3))) ∷ []); nodes = [] }) ∷ Err 87 ∷ []
unfolding read_picture reserved_words chars encode_utf8
whole_1 = refl

-- number of names, at 0
at_fault_1 : read_picture (take 3 base1) ∷ read_picture (put 0 4 (0 ∷ 0 ∷ 0 ∷ 0 ∷ []) base1) ∷ read_picture (put 0 4 (0 ∷ 0 ∷ 0 ∷ 9 ∷ []) base1) ∷ read_picture (put 0 4 (255 ∷ 255 ∷ 255 ∷ 255 ∷ []) base1) ∷ []
    ≡ Err 0 ∷ Err 8 ∷ Err 83 ∷ Err 83 ∷ []
unfolding read_picture reserved_words chars encode_utf8
at_fault_1 = refl

-- length of a name, at 4
at_fault_2 : read_picture (take 4 base1) ∷ read_picture (put 4 1 (0 ∷ []) base1) ∷ read_picture (put 4 1 (255 ∷ []) base1) ∷ read_picture (put 4 1 (2 ∷ []) base1) ∷ []
    ≡ Err 4 ∷ Err 4 ∷ Err 5 ∷ Err 5 ∷ []
unfolding read_picture reserved_words chars encode_utf8
at_fault_2 = refl

-- name, at 5
at_fault_3 : read_picture (take 5 base1) ∷ read_picture (put 5 1 (49 ∷ []) base1) ∷ read_picture (put 5 1 (45 ∷ []) base1) ∷ read_picture (put 5 1 (195 ∷ []) base1) ∷ read_picture (put 5 1 (0 ∷ []) base1) ∷ []
    ≡ Err 5 ∷ Err 5 ∷ Err 5 ∷ Err 5 ∷ Err 5 ∷ []
unfolding read_picture reserved_words chars encode_utf8
at_fault_3 = refl

-- kind of a value, at 6
at_fault_4 : read_picture (take 6 base1) ∷ read_picture (put 6 1 (9 ∷ []) base1) ∷ read_picture (put 6 1 (255 ∷ []) base1) ∷ read_picture (put 6 1 (0 ∷ []) base1) ∷ read_picture (put 6 1 (4 ∷ []) base1) ∷ read_picture (put 6 1 (5 ∷ []) base1) ∷ read_picture (put 6 1 (8 ∷ []) base1) ∷ []
    ≡ Err 6 ∷ Err 6 ∷ Err 6 ∷ Err 7 ∷ Err 11 ∷ Err 55 ∷ Err 11 ∷ []
unfolding read_picture reserved_words chars encode_utf8
at_fault_4 = refl

-- whole number, at 7
at_fault_5 : read_picture (take 22 base1) ∷ read_picture (put 7 16 (128 ∷ 0 ∷ 0 ∷ 0 ∷ 0 ∷ 0 ∷ 0 ∷ 0 ∷ 0 ∷ 0 ∷ 0 ∷ 0 ∷ 0 ∷ 0 ∷ 0 ∷ 0 ∷ []) base1) ∷ read_picture (put 7 16 (127 ∷ 255 ∷ 255 ∷ 255 ∷ 255 ∷ 255 ∷ 255 ∷ 255 ∷ 255 ∷ 255 ∷ 255 ∷ 255 ∷ 255 ∷ 255 ∷ 255 ∷ 255 ∷ []) base1) ∷ []
    ≡ Err 7 ∷ Ok (record { names = (((codes "a"), (integer (negsuc 170141183460469231731687303715884105727))) ∷ ((codes "b"), (text (233 ∷ []))) ∷ ((codes "r"), (range (pos 1) (pos 2) (pos 3))) ∷ []); nodes = [] }) ∷ Ok (record { names = (((codes "a"), (integer (pos 170141183460469231731687303715884105727))) ∷ ((codes "b"), (text (233 ∷ []))) ∷ ((codes "r"), (range (pos 1) (pos 2) (pos 3))) ∷ []); nodes = [] }) ∷ []
unfolding read_picture reserved_words chars encode_utf8
at_fault_5 = refl

-- length of a name, at 23
at_fault_6 : read_picture (take 23 base1) ∷ read_picture (put 23 1 (0 ∷ []) base1) ∷ read_picture (put 23 1 (255 ∷ []) base1) ∷ read_picture (put 23 1 (2 ∷ []) base1) ∷ []
    ≡ Err 23 ∷ Err 23 ∷ Err 24 ∷ Err 24 ∷ []
unfolding read_picture reserved_words chars encode_utf8
at_fault_6 = refl

-- name, at 24
at_fault_7 : read_picture (take 24 base1) ∷ read_picture (put 24 1 (49 ∷ []) base1) ∷ read_picture (put 24 1 (45 ∷ []) base1) ∷ read_picture (put 24 1 (195 ∷ []) base1) ∷ read_picture (put 24 1 (0 ∷ []) base1) ∷ []
    ≡ Err 24 ∷ Err 24 ∷ Err 24 ∷ Err 24 ∷ Err 24 ∷ []
unfolding read_picture reserved_words chars encode_utf8
at_fault_7 = refl

-- kind of a value, at 25
at_fault_8 : read_picture (take 25 base1) ∷ read_picture (put 25 1 (9 ∷ []) base1) ∷ read_picture (put 25 1 (255 ∷ []) base1) ∷ read_picture (put 25 1 (0 ∷ []) base1) ∷ read_picture (put 25 1 (3 ∷ []) base1) ∷ read_picture (put 25 1 (5 ∷ []) base1) ∷ read_picture (put 25 1 (8 ∷ []) base1) ∷ []
    ≡ Err 25 ∷ Err 25 ∷ Err 25 ∷ Err 26 ∷ Err 42 ∷ Err 74 ∷ Err 26 ∷ []
unfolding read_picture reserved_words chars encode_utf8
at_fault_8 = refl

-- length of a text, at 26
at_fault_9 : read_picture (take 29 base1) ∷ read_picture (put 26 4 (0 ∷ 0 ∷ 0 ∷ 0 ∷ []) base1) ∷ read_picture (put 26 4 (0 ∷ 0 ∷ 0 ∷ 1 ∷ []) base1) ∷ read_picture (put 26 4 (255 ∷ 255 ∷ 255 ∷ 255 ∷ []) base1) ∷ []
    ≡ Err 26 ∷ Err 31 ∷ Err 30 ∷ Err 30 ∷ []
unfolding read_picture reserved_words chars encode_utf8
at_fault_9 = refl

-- text, at 30
at_fault_10 : read_picture (take 31 base1) ∷ read_picture (put 30 2 (255 ∷ []) base1) ∷ read_picture (put 30 2 (237 ∷ 160 ∷ 128 ∷ []) base1) ∷ read_picture (put 30 2 (244 ∷ 144 ∷ 128 ∷ 128 ∷ []) base1) ∷ read_picture (put 30 2 (192 ∷ 128 ∷ []) base1) ∷ read_picture (put 30 2 (226 ∷ 130 ∷ []) base1) ∷ []
    ≡ Err 30 ∷ Err 30 ∷ Err 30 ∷ Err 30 ∷ Err 30 ∷ Err 30 ∷ []
unfolding read_picture reserved_words chars encode_utf8
at_fault_10 = refl

-- length of a name, at 32
at_fault_11 : read_picture (take 32 base1) ∷ read_picture (put 32 1 (0 ∷ []) base1) ∷ read_picture (put 32 1 (255 ∷ []) base1) ∷ read_picture (put 32 1 (2 ∷ []) base1) ∷ []
    ≡ Err 32 ∷ Err 32 ∷ Err 33 ∷ Err 33 ∷ []
unfolding read_picture reserved_words chars encode_utf8
at_fault_11 = refl

-- name, at 33
at_fault_12 : read_picture (take 33 base1) ∷ read_picture (put 33 1 (49 ∷ []) base1) ∷ read_picture (put 33 1 (45 ∷ []) base1) ∷ read_picture (put 33 1 (195 ∷ []) base1) ∷ read_picture (put 33 1 (0 ∷ []) base1) ∷ []
    ≡ Err 33 ∷ Err 33 ∷ Err 33 ∷ Err 33 ∷ Err 33 ∷ []
unfolding read_picture reserved_words chars encode_utf8
at_fault_12 = refl

-- kind of a value, at 34
at_fault_13 : read_picture (take 34 base1) ∷ read_picture (put 34 1 (9 ∷ []) base1) ∷ read_picture (put 34 1 (255 ∷ []) base1) ∷ read_picture (put 34 1 (0 ∷ []) base1) ∷ read_picture (put 34 1 (3 ∷ []) base1) ∷ read_picture (put 34 1 (4 ∷ []) base1) ∷ read_picture (put 34 1 (8 ∷ []) base1) ∷ []
    ≡ Err 34 ∷ Err 34 ∷ Err 34 ∷ Err 39 ∷ Err 55 ∷ Err 43 ∷ Err 39 ∷ []
unfolding read_picture reserved_words chars encode_utf8
at_fault_13 = refl

-- whole number, at 35
at_fault_14 : read_picture (take 50 base1) ∷ read_picture (put 35 16 (128 ∷ 0 ∷ 0 ∷ 0 ∷ 0 ∷ 0 ∷ 0 ∷ 0 ∷ 0 ∷ 0 ∷ 0 ∷ 0 ∷ 0 ∷ 0 ∷ 0 ∷ 0 ∷ []) base1) ∷ read_picture (put 35 16 (127 ∷ 255 ∷ 255 ∷ 255 ∷ 255 ∷ 255 ∷ 255 ∷ 255 ∷ 255 ∷ 255 ∷ 255 ∷ 255 ∷ 255 ∷ 255 ∷ 255 ∷ 255 ∷ []) base1) ∷ []
    ≡ Err 35 ∷ Ok (record { names = (((codes "a"), (integer (pos 5))) ∷ ((codes "b"), (text (233 ∷ []))) ∷ ((codes "r"), (range (negsuc 170141183460469231731687303715884105727) (pos 2) (pos 3))) ∷ []); nodes = [] }) ∷ Ok (record { names = (((codes "a"), (integer (pos 5))) ∷ ((codes "b"), (text (233 ∷ []))) ∷ ((codes "r"), (range (pos 170141183460469231731687303715884105727) (pos 2) (pos 3))) ∷ []); nodes = [] }) ∷ []
unfolding read_picture reserved_words chars encode_utf8
at_fault_14 = refl

-- whole number, at 51
at_fault_15 : read_picture (take 66 base1) ∷ read_picture (put 51 16 (128 ∷ 0 ∷ 0 ∷ 0 ∷ 0 ∷ 0 ∷ 0 ∷ 0 ∷ 0 ∷ 0 ∷ 0 ∷ 0 ∷ 0 ∷ 0 ∷ 0 ∷ 0 ∷ []) base1) ∷ read_picture (put 51 16 (127 ∷ 255 ∷ 255 ∷ 255 ∷ 255 ∷ 255 ∷ 255 ∷ 255 ∷ 255 ∷ 255 ∷ 255 ∷ 255 ∷ 255 ∷ 255 ∷ 255 ∷ 255 ∷ []) base1) ∷ []
    ≡ Err 51 ∷ Ok (record { names = (((codes "a"), (integer (pos 5))) ∷ ((codes "b"), (text (233 ∷ []))) ∷ ((codes "r"), (range (pos 1) (negsuc 170141183460469231731687303715884105727) (pos 3))) ∷ []); nodes = [] }) ∷ Ok (record { names = (((codes "a"), (integer (pos 5))) ∷ ((codes "b"), (text (233 ∷ []))) ∷ ((codes "r"), (range (pos 1) (pos 170141183460469231731687303715884105727) (pos 3))) ∷ []); nodes = [] }) ∷ []
unfolding read_picture reserved_words chars encode_utf8
at_fault_15 = refl

-- step, at 67
at_fault_16 : read_picture (take 82 base1) ∷ read_picture (put 67 16 (0 ∷ 0 ∷ 0 ∷ 0 ∷ 0 ∷ 0 ∷ 0 ∷ 0 ∷ 0 ∷ 0 ∷ 0 ∷ 0 ∷ 0 ∷ 0 ∷ 0 ∷ 0 ∷ []) base1) ∷ read_picture (put 67 16 (255 ∷ 255 ∷ 255 ∷ 255 ∷ 255 ∷ 255 ∷ 255 ∷ 255 ∷ 255 ∷ 255 ∷ 255 ∷ 255 ∷ 255 ∷ 255 ∷ 255 ∷ 255 ∷ []) base1) ∷ []
    ≡ Err 67 ∷ Err 67 ∷ Ok (record { names = (((codes "a"), (integer (pos 5))) ∷ ((codes "b"), (text (233 ∷ []))) ∷ ((codes "r"), (range (pos 1) (pos 2) (negsuc 0))) ∷ []); nodes = [] }) ∷ []
unfolding read_picture reserved_words chars encode_utf8
at_fault_16 = refl

-- number of nodes, at 83
at_fault_17 : read_picture (take 86 base1) ∷ read_picture (put 83 4 (0 ∷ 0 ∷ 0 ∷ 1 ∷ []) base1) ∷ read_picture (put 83 4 (0 ∷ 0 ∷ 0 ∷ 7 ∷ []) base1) ∷ read_picture (put 83 4 (255 ∷ 255 ∷ 255 ∷ 255 ∷ []) base1) ∷ []
    ≡ Err 83 ∷ Err 87 ∷ Err 87 ∷ Err 87 ∷ []
unfolding read_picture reserved_words chars encode_utf8
at_fault_17 = refl

-- ---- two names of a list, and another list

abbrev base2 : List ℕ
base2 = 0 ∷ 0 ∷ 0 ∷ 3 ∷ 1 ∷ 97 ∷ 8 ∷ 0 ∷ 0 ∷ 0 ∷ 0 ∷ 1 ∷ 98 ∷ 8 ∷ 0 ∷ 0 ∷ 0 ∷ 0 ∷ 1 ∷ 99 ∷ 8 ∷ 0 ∷ 0 ∷ 0 ∷ 1 ∷ 0 ∷ 0 ∷ 0 ∷ 3 ∷ 1 ∷ 0 ∷ 0 ∷ 0 ∷ 0 ∷ 1 ∷ 0 ∷ 0 ∷ 0 ∷ 2 ∷ 8 ∷ 0 ∷ 0 ∷ 0 ∷ 0 ∷ 8 ∷ 0 ∷ 0 ∷ 0 ∷ 2 ∷ 1 ∷ 0 ∷ 0 ∷ 0 ∷ 0 ∷ []

whole_2 : read_picture base2 ∷ read_picture (base2 ++ 0 ∷ []) ∷ []
    ≡ Ok (record { names = (((codes "a"), (node 0)) ∷ ((codes "b"), (node 0)) ∷ ((codes "c"), (node 1)) ∷ []); nodes = ((list []) ∷ (list ((node 0) ∷ (node 2) ∷ [])) ∷ (list []) ∷ []) }) ∷ Err 54 ∷ []
unfolding read_picture reserved_words chars encode_utf8
whole_2 = refl

-- number of names, at 0
at_fault_18 : read_picture (take 3 base2) ∷ read_picture (put 0 4 (0 ∷ 0 ∷ 0 ∷ 0 ∷ []) base2) ∷ read_picture (put 0 4 (0 ∷ 0 ∷ 0 ∷ 9 ∷ []) base2) ∷ read_picture (put 0 4 (255 ∷ 255 ∷ 255 ∷ 255 ∷ []) base2) ∷ []
    ≡ Err 0 ∷ Err 8 ∷ Err 25 ∷ Err 25 ∷ []
unfolding read_picture reserved_words chars encode_utf8
at_fault_18 = refl

-- length of a name, at 4
at_fault_19 : read_picture (take 4 base2) ∷ read_picture (put 4 1 (0 ∷ []) base2) ∷ read_picture (put 4 1 (255 ∷ []) base2) ∷ read_picture (put 4 1 (2 ∷ []) base2) ∷ []
    ≡ Err 4 ∷ Err 4 ∷ Err 5 ∷ Err 5 ∷ []
unfolding read_picture reserved_words chars encode_utf8
at_fault_19 = refl

-- name, at 5
at_fault_20 : read_picture (take 5 base2) ∷ read_picture (put 5 1 (49 ∷ []) base2) ∷ read_picture (put 5 1 (45 ∷ []) base2) ∷ read_picture (put 5 1 (195 ∷ []) base2) ∷ read_picture (put 5 1 (0 ∷ []) base2) ∷ []
    ≡ Err 5 ∷ Err 5 ∷ Err 5 ∷ Err 5 ∷ Err 5 ∷ []
unfolding read_picture reserved_words chars encode_utf8
at_fault_20 = refl

-- kind of a value, at 6
at_fault_21 : read_picture (take 6 base2) ∷ read_picture (put 6 1 (9 ∷ []) base2) ∷ read_picture (put 6 1 (255 ∷ []) base2) ∷ read_picture (put 6 1 (0 ∷ []) base2) ∷ read_picture (put 6 1 (3 ∷ []) base2) ∷ read_picture (put 6 1 (4 ∷ []) base2) ∷ read_picture (put 6 1 (5 ∷ []) base2) ∷ []
    ≡ Err 6 ∷ Err 6 ∷ Err 6 ∷ Err 7 ∷ Err 23 ∷ Ok (record { names = (((codes "a"), (text [])) ∷ ((codes "b"), (node 0)) ∷ ((codes "c"), (node 1)) ∷ []); nodes = ((list []) ∷ (list ((node 0) ∷ (node 2) ∷ [])) ∷ (list []) ∷ []) }) ∷ Err 39 ∷ []
unfolding read_picture reserved_words chars encode_utf8
at_fault_21 = refl

-- node, at 7
at_fault_22 : read_picture (take 10 base2) ∷ read_picture (put 7 4 (0 ∷ 0 ∷ 0 ∷ 1 ∷ []) base2) ∷ read_picture (put 7 4 (0 ∷ 0 ∷ 0 ∷ 2 ∷ []) base2) ∷ read_picture (put 7 4 (255 ∷ 255 ∷ 255 ∷ 255 ∷ []) base2) ∷ []
    ≡ Err 7 ∷ Err 7 ∷ Err 7 ∷ Err 7 ∷ []
unfolding read_picture reserved_words chars encode_utf8
at_fault_22 = refl

-- length of a name, at 11
at_fault_23 : read_picture (take 11 base2) ∷ read_picture (put 11 1 (0 ∷ []) base2) ∷ read_picture (put 11 1 (255 ∷ []) base2) ∷ read_picture (put 11 1 (2 ∷ []) base2) ∷ []
    ≡ Err 11 ∷ Err 11 ∷ Err 12 ∷ Err 12 ∷ []
unfolding read_picture reserved_words chars encode_utf8
at_fault_23 = refl

-- name, at 12
at_fault_24 : read_picture (take 12 base2) ∷ read_picture (put 12 1 (49 ∷ []) base2) ∷ read_picture (put 12 1 (45 ∷ []) base2) ∷ read_picture (put 12 1 (195 ∷ []) base2) ∷ read_picture (put 12 1 (0 ∷ []) base2) ∷ []
    ≡ Err 12 ∷ Err 12 ∷ Err 12 ∷ Err 12 ∷ Err 12 ∷ []
unfolding read_picture reserved_words chars encode_utf8
at_fault_24 = refl

-- kind of a value, at 13
at_fault_25 : read_picture (take 13 base2) ∷ read_picture (put 13 1 (9 ∷ []) base2) ∷ read_picture (put 13 1 (255 ∷ []) base2) ∷ read_picture (put 13 1 (0 ∷ []) base2) ∷ read_picture (put 13 1 (3 ∷ []) base2) ∷ read_picture (put 13 1 (4 ∷ []) base2) ∷ read_picture (put 13 1 (5 ∷ []) base2) ∷ []
    ≡ Err 13 ∷ Err 13 ∷ Err 13 ∷ Err 14 ∷ Err 30 ∷ Ok (record { names = (((codes "a"), (node 0)) ∷ ((codes "b"), (text [])) ∷ ((codes "c"), (node 1)) ∷ []); nodes = ((list []) ∷ (list ((node 0) ∷ (node 2) ∷ [])) ∷ (list []) ∷ []) }) ∷ Err 46 ∷ []
unfolding read_picture reserved_words chars encode_utf8
at_fault_25 = refl

-- node, at 14
at_fault_26 : read_picture (take 17 base2) ∷ read_picture (put 14 4 (0 ∷ 0 ∷ 0 ∷ 1 ∷ []) base2) ∷ read_picture (put 14 4 (0 ∷ 0 ∷ 0 ∷ 2 ∷ []) base2) ∷ read_picture (put 14 4 (255 ∷ 255 ∷ 255 ∷ 255 ∷ []) base2) ∷ []
    ≡ Err 14 ∷ Ok (record { names = (((codes "a"), (node 0)) ∷ ((codes "b"), (node 1)) ∷ ((codes "c"), (node 1)) ∷ []); nodes = ((list []) ∷ (list ((node 0) ∷ (node 2) ∷ [])) ∷ (list []) ∷ []) }) ∷ Err 14 ∷ Err 14 ∷ []
unfolding read_picture reserved_words chars encode_utf8
at_fault_26 = refl

-- length of a name, at 18
at_fault_27 : read_picture (take 18 base2) ∷ read_picture (put 18 1 (0 ∷ []) base2) ∷ read_picture (put 18 1 (255 ∷ []) base2) ∷ read_picture (put 18 1 (2 ∷ []) base2) ∷ []
    ≡ Err 18 ∷ Err 18 ∷ Err 19 ∷ Err 19 ∷ []
unfolding read_picture reserved_words chars encode_utf8
at_fault_27 = refl

-- name, at 19
at_fault_28 : read_picture (take 19 base2) ∷ read_picture (put 19 1 (49 ∷ []) base2) ∷ read_picture (put 19 1 (45 ∷ []) base2) ∷ read_picture (put 19 1 (195 ∷ []) base2) ∷ read_picture (put 19 1 (0 ∷ []) base2) ∷ []
    ≡ Err 19 ∷ Err 19 ∷ Err 19 ∷ Err 19 ∷ Err 19 ∷ []
unfolding read_picture reserved_words chars encode_utf8
at_fault_28 = refl

-- kind of a value, at 20
at_fault_29 : read_picture (take 20 base2) ∷ read_picture (put 20 1 (9 ∷ []) base2) ∷ read_picture (put 20 1 (255 ∷ []) base2) ∷ read_picture (put 20 1 (0 ∷ []) base2) ∷ read_picture (put 20 1 (3 ∷ []) base2) ∷ read_picture (put 20 1 (4 ∷ []) base2) ∷ read_picture (put 20 1 (5 ∷ []) base2) ∷ []
    ≡ Err 20 ∷ Err 20 ∷ Err 20 ∷ Err 25 ∷ Err 41 ∷ Err 30 ∷ Err 53 ∷ []
unfolding read_picture reserved_words chars encode_utf8
at_fault_29 = refl

-- node, at 21
at_fault_30 : read_picture (take 24 base2) ∷ read_picture (put 21 4 (0 ∷ 0 ∷ 0 ∷ 0 ∷ []) base2) ∷ read_picture (put 21 4 (0 ∷ 0 ∷ 0 ∷ 2 ∷ []) base2) ∷ read_picture (put 21 4 (255 ∷ 255 ∷ 255 ∷ 255 ∷ []) base2) ∷ []
    ≡ Err 21 ∷ Err 34 ∷ Err 21 ∷ Err 21 ∷ []
unfolding read_picture reserved_words chars encode_utf8
at_fault_30 = refl

-- number of nodes, at 25
at_fault_31 : read_picture (take 28 base2) ∷ read_picture (put 25 4 (0 ∷ 0 ∷ 0 ∷ 0 ∷ []) base2) ∷ read_picture (put 25 4 (0 ∷ 0 ∷ 0 ∷ 1 ∷ []) base2) ∷ read_picture (put 25 4 (0 ∷ 0 ∷ 0 ∷ 7 ∷ []) base2) ∷ read_picture (put 25 4 (255 ∷ 255 ∷ 255 ∷ 255 ∷ []) base2) ∷ []
    ≡ Err 25 ∷ Err 25 ∷ Err 25 ∷ Err 54 ∷ Err 54 ∷ []
unfolding read_picture reserved_words chars encode_utf8
at_fault_31 = refl

-- kind of a row, at 29
at_fault_32 : read_picture (take 29 base2) ∷ read_picture (put 29 1 (0 ∷ []) base2) ∷ read_picture (put 29 1 (7 ∷ []) base2) ∷ read_picture (put 29 1 (2 ∷ []) base2) ∷ []
    ≡ Err 29 ∷ Err 29 ∷ Err 29 ∷ Ok (record { names = (((codes "a"), (node 0)) ∷ ((codes "b"), (node 0)) ∷ ((codes "c"), (node 1)) ∷ []); nodes = ((tuple []) ∷ (list ((node 0) ∷ (node 2) ∷ [])) ∷ (list []) ∷ []) }) ∷ []
unfolding read_picture reserved_words chars encode_utf8
at_fault_32 = refl

-- number of items, at 30
at_fault_33 : read_picture (take 33 base2) ∷ read_picture (put 30 4 (0 ∷ 0 ∷ 0 ∷ 9 ∷ []) base2) ∷ []
    ≡ Err 30 ∷ Err 51 ∷ []
unfolding read_picture reserved_words chars encode_utf8
at_fault_33 = refl

-- kind of a row, at 34
at_fault_34 : read_picture (take 34 base2) ∷ read_picture (put 34 1 (0 ∷ []) base2) ∷ read_picture (put 34 1 (7 ∷ []) base2) ∷ read_picture (put 34 1 (2 ∷ []) base2) ∷ []
    ≡ Err 34 ∷ Err 34 ∷ Err 34 ∷ Ok (record { names = (((codes "a"), (node 0)) ∷ ((codes "b"), (node 0)) ∷ ((codes "c"), (node 1)) ∷ []); nodes = ((list []) ∷ (tuple ((node 0) ∷ (node 2) ∷ [])) ∷ (list []) ∷ []) }) ∷ []
unfolding read_picture reserved_words chars encode_utf8
at_fault_34 = refl

-- number of items, at 35
at_fault_35 : read_picture (take 38 base2) ∷ read_picture (put 35 4 (0 ∷ 0 ∷ 0 ∷ 0 ∷ []) base2) ∷ read_picture (put 35 4 (0 ∷ 0 ∷ 0 ∷ 9 ∷ []) base2) ∷ []
    ≡ Err 35 ∷ Err 39 ∷ Err 54 ∷ []
unfolding read_picture reserved_words chars encode_utf8
at_fault_35 = refl

-- kind of a value, at 39
at_fault_36 : read_picture (take 39 base2) ∷ read_picture (put 39 1 (9 ∷ []) base2) ∷ read_picture (put 39 1 (255 ∷ []) base2) ∷ read_picture (put 39 1 (0 ∷ []) base2) ∷ read_picture (put 39 1 (3 ∷ []) base2) ∷ read_picture (put 39 1 (4 ∷ []) base2) ∷ read_picture (put 39 1 (5 ∷ []) base2) ∷ []
    ≡ Err 39 ∷ Err 39 ∷ Err 39 ∷ Err 41 ∷ Err 40 ∷ Ok (record { names = (((codes "a"), (node 0)) ∷ ((codes "b"), (node 0)) ∷ ((codes "c"), (node 1)) ∷ []); nodes = ((list []) ∷ (list ((text []) ∷ (node 2) ∷ [])) ∷ (list []) ∷ []) }) ∷ Err 40 ∷ []
unfolding read_picture reserved_words chars encode_utf8
at_fault_36 = refl

-- node, at 40
at_fault_37 : read_picture (take 43 base2) ∷ read_picture (put 40 4 (0 ∷ 0 ∷ 0 ∷ 1 ∷ []) base2) ∷ read_picture (put 40 4 (0 ∷ 0 ∷ 0 ∷ 2 ∷ []) base2) ∷ read_picture (put 40 4 (255 ∷ 255 ∷ 255 ∷ 255 ∷ []) base2) ∷ []
    ≡ Err 40 ∷ Ok (record { names = (((codes "a"), (node 0)) ∷ ((codes "b"), (node 0)) ∷ ((codes "c"), (node 1)) ∷ []); nodes = ((list []) ∷ (list ((node 1) ∷ (node 2) ∷ [])) ∷ (list []) ∷ []) }) ∷ Ok (record { names = (((codes "a"), (node 0)) ∷ ((codes "b"), (node 0)) ∷ ((codes "c"), (node 1)) ∷ []); nodes = ((list []) ∷ (list ((node 2) ∷ (node 2) ∷ [])) ∷ (list []) ∷ []) }) ∷ Err 40 ∷ []
unfolding read_picture reserved_words chars encode_utf8
at_fault_37 = refl

-- kind of a value, at 44
at_fault_38 : read_picture (take 44 base2) ∷ read_picture (put 44 1 (9 ∷ []) base2) ∷ read_picture (put 44 1 (255 ∷ []) base2) ∷ read_picture (put 44 1 (0 ∷ []) base2) ∷ read_picture (put 44 1 (3 ∷ []) base2) ∷ read_picture (put 44 1 (4 ∷ []) base2) ∷ read_picture (put 44 1 (5 ∷ []) base2) ∷ []
    ≡ Err 44 ∷ Err 44 ∷ Err 44 ∷ Err 45 ∷ Err 45 ∷ Err 51 ∷ Err 45 ∷ []
unfolding read_picture reserved_words chars encode_utf8
at_fault_38 = refl

-- node, at 45
at_fault_39 : read_picture (take 48 base2) ∷ read_picture (put 45 4 (0 ∷ 0 ∷ 0 ∷ 0 ∷ []) base2) ∷ read_picture (put 45 4 (0 ∷ 0 ∷ 0 ∷ 1 ∷ []) base2) ∷ read_picture (put 45 4 (255 ∷ 255 ∷ 255 ∷ 255 ∷ []) base2) ∷ []
    ≡ Err 45 ∷ Err 49 ∷ Err 49 ∷ Err 45 ∷ []
unfolding read_picture reserved_words chars encode_utf8
at_fault_39 = refl

-- kind of a row, at 49
at_fault_40 : read_picture (take 49 base2) ∷ read_picture (put 49 1 (0 ∷ []) base2) ∷ read_picture (put 49 1 (7 ∷ []) base2) ∷ read_picture (put 49 1 (2 ∷ []) base2) ∷ []
    ≡ Err 49 ∷ Err 49 ∷ Err 49 ∷ Ok (record { names = (((codes "a"), (node 0)) ∷ ((codes "b"), (node 0)) ∷ ((codes "c"), (node 1)) ∷ []); nodes = ((list []) ∷ (list ((node 0) ∷ (node 2) ∷ [])) ∷ (tuple []) ∷ []) }) ∷ []
unfolding read_picture reserved_words chars encode_utf8
at_fault_40 = refl

-- number of items, at 50
at_fault_41 : read_picture (take 53 base2) ∷ read_picture (put 50 4 (0 ∷ 0 ∷ 0 ∷ 9 ∷ []) base2) ∷ []
    ≡ Err 50 ∷ Err 54 ∷ []
unfolding read_picture reserved_words chars encode_utf8
at_fault_41 = refl

-- ---- a builtin function, a class, and a list in itself

abbrev base3 : List ℕ
base3 = 0 ∷ 0 ∷ 0 ∷ 3 ∷ 1 ∷ 102 ∷ 6 ∷ 13 ∷ 1 ∷ 103 ∷ 7 ∷ 6 ∷ 1 ∷ 105 ∷ 8 ∷ 0 ∷ 0 ∷ 0 ∷ 0 ∷ 0 ∷ 0 ∷ 0 ∷ 1 ∷ 1 ∷ 0 ∷ 0 ∷ 0 ∷ 1 ∷ 8 ∷ 0 ∷ 0 ∷ 0 ∷ 0 ∷ []

whole_3 : read_picture base3 ∷ read_picture (base3 ++ 0 ∷ []) ∷ []
    ≡ Ok (record { names = (((codes "f"), (builtin 13)) ∷ ((codes "g"), (class 6)) ∷ ((codes "i"), (node 0)) ∷ []); nodes = ((list ((node 0) ∷ [])) ∷ []) }) ∷ Err 33 ∷ []
unfolding read_picture reserved_words chars encode_utf8
whole_3 = refl

-- number of names, at 0
at_fault_42 : read_picture (take 3 base3) ∷ read_picture (put 0 4 (0 ∷ 0 ∷ 0 ∷ 0 ∷ []) base3) ∷ read_picture (put 0 4 (0 ∷ 0 ∷ 0 ∷ 9 ∷ []) base3) ∷ read_picture (put 0 4 (255 ∷ 255 ∷ 255 ∷ 255 ∷ []) base3) ∷ []
    ≡ Err 0 ∷ Err 8 ∷ Err 19 ∷ Err 19 ∷ []
unfolding read_picture reserved_words chars encode_utf8
at_fault_42 = refl

-- length of a name, at 4
at_fault_43 : read_picture (take 4 base3) ∷ read_picture (put 4 1 (0 ∷ []) base3) ∷ read_picture (put 4 1 (255 ∷ []) base3) ∷ read_picture (put 4 1 (2 ∷ []) base3) ∷ []
    ≡ Err 4 ∷ Err 4 ∷ Err 5 ∷ Err 5 ∷ []
unfolding read_picture reserved_words chars encode_utf8
at_fault_43 = refl

-- name, at 5
at_fault_44 : read_picture (take 5 base3) ∷ read_picture (put 5 1 (49 ∷ []) base3) ∷ read_picture (put 5 1 (45 ∷ []) base3) ∷ read_picture (put 5 1 (195 ∷ []) base3) ∷ read_picture (put 5 1 (0 ∷ []) base3) ∷ []
    ≡ Err 5 ∷ Err 5 ∷ Err 5 ∷ Err 5 ∷ Err 5 ∷ []
unfolding read_picture reserved_words chars encode_utf8
at_fault_44 = refl

-- kind of a value, at 6
at_fault_45 : read_picture (take 6 base3) ∷ read_picture (put 6 1 (9 ∷ []) base3) ∷ read_picture (put 6 1 (255 ∷ []) base3) ∷ read_picture (put 6 1 (0 ∷ []) base3) ∷ read_picture (put 6 1 (3 ∷ []) base3) ∷ read_picture (put 6 1 (4 ∷ []) base3) ∷ read_picture (put 6 1 (5 ∷ []) base3) ∷ read_picture (put 6 1 (8 ∷ []) base3) ∷ []
    ≡ Err 6 ∷ Err 6 ∷ Err 6 ∷ Err 8 ∷ Err 24 ∷ Err 11 ∷ Err 23 ∷ Err 7 ∷ []
unfolding read_picture reserved_words chars encode_utf8
at_fault_45 = refl

-- builtin, at 7
at_fault_46 : read_picture (take 7 base3) ∷ read_picture (put 7 1 (14 ∷ []) base3) ∷ read_picture (put 7 1 (255 ∷ []) base3) ∷ []
    ≡ Err 7 ∷ Err 7 ∷ Err 7 ∷ []
unfolding read_picture reserved_words chars encode_utf8
at_fault_46 = refl

-- length of a name, at 8
at_fault_47 : read_picture (take 8 base3) ∷ read_picture (put 8 1 (0 ∷ []) base3) ∷ read_picture (put 8 1 (255 ∷ []) base3) ∷ read_picture (put 8 1 (2 ∷ []) base3) ∷ []
    ≡ Err 8 ∷ Err 8 ∷ Err 9 ∷ Err 9 ∷ []
unfolding read_picture reserved_words chars encode_utf8
at_fault_47 = refl

-- name, at 9
at_fault_48 : read_picture (take 9 base3) ∷ read_picture (put 9 1 (49 ∷ []) base3) ∷ read_picture (put 9 1 (45 ∷ []) base3) ∷ read_picture (put 9 1 (195 ∷ []) base3) ∷ read_picture (put 9 1 (0 ∷ []) base3) ∷ []
    ≡ Err 9 ∷ Err 9 ∷ Err 9 ∷ Err 9 ∷ Err 9 ∷ []
unfolding read_picture reserved_words chars encode_utf8
at_fault_48 = refl

-- kind of a value, at 10
at_fault_49 : read_picture (take 10 base3) ∷ read_picture (put 10 1 (9 ∷ []) base3) ∷ read_picture (put 10 1 (255 ∷ []) base3) ∷ read_picture (put 10 1 (0 ∷ []) base3) ∷ read_picture (put 10 1 (3 ∷ []) base3) ∷ read_picture (put 10 1 (4 ∷ []) base3) ∷ read_picture (put 10 1 (5 ∷ []) base3) ∷ read_picture (put 10 1 (8 ∷ []) base3) ∷ []
    ≡ Err 10 ∷ Err 10 ∷ Err 10 ∷ Err 12 ∷ Err 28 ∷ Err 15 ∷ Err 27 ∷ Err 11 ∷ []
unfolding read_picture reserved_words chars encode_utf8
at_fault_49 = refl

-- class, at 11
at_fault_50 : read_picture (take 11 base3) ∷ read_picture (put 11 1 (24 ∷ []) base3) ∷ read_picture (put 11 1 (25 ∷ []) base3) ∷ read_picture (put 11 1 (255 ∷ []) base3) ∷ []
    ≡ Err 11 ∷ Ok (record { names = (((codes "f"), (builtin 13)) ∷ ((codes "g"), (class 24)) ∷ ((codes "i"), (node 0)) ∷ []); nodes = ((list ((node 0) ∷ [])) ∷ []) }) ∷ Err 11 ∷ Err 11 ∷ []
unfolding read_picture reserved_words chars encode_utf8
at_fault_50 = refl

-- length of a name, at 12
at_fault_51 : read_picture (take 12 base3) ∷ read_picture (put 12 1 (0 ∷ []) base3) ∷ read_picture (put 12 1 (255 ∷ []) base3) ∷ read_picture (put 12 1 (2 ∷ []) base3) ∷ []
    ≡ Err 12 ∷ Err 12 ∷ Err 13 ∷ Err 13 ∷ []
unfolding read_picture reserved_words chars encode_utf8
at_fault_51 = refl

-- name, at 13
at_fault_52 : read_picture (take 13 base3) ∷ read_picture (put 13 1 (49 ∷ []) base3) ∷ read_picture (put 13 1 (45 ∷ []) base3) ∷ read_picture (put 13 1 (195 ∷ []) base3) ∷ read_picture (put 13 1 (0 ∷ []) base3) ∷ []
    ≡ Err 13 ∷ Err 13 ∷ Err 13 ∷ Err 13 ∷ Err 13 ∷ []
unfolding read_picture reserved_words chars encode_utf8
at_fault_52 = refl

-- kind of a value, at 14
at_fault_53 : read_picture (take 14 base3) ∷ read_picture (put 14 1 (9 ∷ []) base3) ∷ read_picture (put 14 1 (255 ∷ []) base3) ∷ read_picture (put 14 1 (0 ∷ []) base3) ∷ read_picture (put 14 1 (3 ∷ []) base3) ∷ read_picture (put 14 1 (4 ∷ []) base3) ∷ read_picture (put 14 1 (5 ∷ []) base3) ∷ []
    ≡ Err 14 ∷ Err 14 ∷ Err 14 ∷ Err 19 ∷ Err 31 ∷ Err 23 ∷ Err 31 ∷ []
unfolding read_picture reserved_words chars encode_utf8
at_fault_53 = refl

-- node, at 15
at_fault_54 : read_picture (take 18 base3) ∷ read_picture (put 15 4 (0 ∷ 0 ∷ 0 ∷ 1 ∷ []) base3) ∷ read_picture (put 15 4 (0 ∷ 0 ∷ 0 ∷ 2 ∷ []) base3) ∷ read_picture (put 15 4 (255 ∷ 255 ∷ 255 ∷ 255 ∷ []) base3) ∷ []
    ≡ Err 15 ∷ Err 15 ∷ Err 15 ∷ Err 15 ∷ []
unfolding read_picture reserved_words chars encode_utf8
at_fault_54 = refl

-- number of nodes, at 19
at_fault_55 : read_picture (take 22 base3) ∷ read_picture (put 19 4 (0 ∷ 0 ∷ 0 ∷ 0 ∷ []) base3) ∷ read_picture (put 19 4 (0 ∷ 0 ∷ 0 ∷ 7 ∷ []) base3) ∷ read_picture (put 19 4 (255 ∷ 255 ∷ 255 ∷ 255 ∷ []) base3) ∷ []
    ≡ Err 19 ∷ Err 19 ∷ Err 33 ∷ Err 33 ∷ []
unfolding read_picture reserved_words chars encode_utf8
at_fault_55 = refl

-- kind of a row, at 23
at_fault_56 : read_picture (take 23 base3) ∷ read_picture (put 23 1 (0 ∷ []) base3) ∷ read_picture (put 23 1 (7 ∷ []) base3) ∷ read_picture (put 23 1 (2 ∷ []) base3) ∷ []
    ≡ Err 23 ∷ Err 23 ∷ Err 23 ∷ Ok (record { names = (((codes "f"), (builtin 13)) ∷ ((codes "g"), (class 6)) ∷ ((codes "i"), (node 0)) ∷ []); nodes = ((tuple ((node 0) ∷ [])) ∷ []) }) ∷ []
unfolding read_picture reserved_words chars encode_utf8
at_fault_56 = refl

-- number of items, at 24
at_fault_57 : read_picture (take 27 base3) ∷ read_picture (put 24 4 (0 ∷ 0 ∷ 0 ∷ 0 ∷ []) base3) ∷ read_picture (put 24 4 (0 ∷ 0 ∷ 0 ∷ 9 ∷ []) base3) ∷ []
    ≡ Err 24 ∷ Err 28 ∷ Err 33 ∷ []
unfolding read_picture reserved_words chars encode_utf8
at_fault_57 = refl

-- kind of a value, at 28
at_fault_58 : read_picture (take 28 base3) ∷ read_picture (put 28 1 (9 ∷ []) base3) ∷ read_picture (put 28 1 (255 ∷ []) base3) ∷ read_picture (put 28 1 (0 ∷ []) base3) ∷ read_picture (put 28 1 (3 ∷ []) base3) ∷ read_picture (put 28 1 (4 ∷ []) base3) ∷ read_picture (put 28 1 (5 ∷ []) base3) ∷ []
    ≡ Err 28 ∷ Err 28 ∷ Err 28 ∷ Err 29 ∷ Err 29 ∷ Ok (record { names = (((codes "f"), (builtin 13)) ∷ ((codes "g"), (class 6)) ∷ ((codes "i"), (node 0)) ∷ []); nodes = ((list ((text []) ∷ [])) ∷ []) }) ∷ Err 29 ∷ []
unfolding read_picture reserved_words chars encode_utf8
at_fault_58 = refl

-- node, at 29
at_fault_59 : read_picture (take 32 base3) ∷ read_picture (put 29 4 (0 ∷ 0 ∷ 0 ∷ 1 ∷ []) base3) ∷ read_picture (put 29 4 (0 ∷ 0 ∷ 0 ∷ 2 ∷ []) base3) ∷ read_picture (put 29 4 (255 ∷ 255 ∷ 255 ∷ 255 ∷ []) base3) ∷ []
    ≡ Err 29 ∷ Err 29 ∷ Err 29 ∷ Err 29 ∷ []
unfolding read_picture reserved_words chars encode_utf8
at_fault_59 = refl

-- What cells touched and changed, told among the touched names: computed on the definitions. Made by tools/rows/history_rows.py.
use Rattle.std.specs.Prelude.{◌≡◌, [], ◌∷◌, codes, refl}
use Rattle.std.specs.Char.{encode_utf8}
use Rattle.kishu_bytes.specs.Numbers.{sixteen}
use Rattle.kishu_meaning.specs.values.Values.{empty}
use Rattle.kishu_objects.specs.Bytes.{in_four}
use Rattle.kishu_objects.specs.Picture.{picture}
use Rattle.kishu_objects.specs.Groups.{groups_of}
use Rattle.kishu_history.specs.Touched.{touched, classes, dropped_among, stored_among, untouched, size_told}
use Rattle.kishu_object_rows.proofs.Histories.{ways1, ways2, ways3, ways5, ways4, ways6, ways7, ways8, kinds1, kinds2, kinds3, kinds4, kinds5, kinds6, kinds7, kinds8, kinds9, kinds10}

-- ways1: a = [1]; b = [2]; c = [3]
among_1 : classes (groups_of empty) ((codes "a") ∷ (codes "b") ∷ (codes "c") ∷ []) ways1 ∷ dropped_among (groups_of empty) (picture empty) ((codes "a") ∷ (codes "b") ∷ (codes "c") ∷ []) ways1 ∷ stored_among (groups_of empty) (picture empty) ((codes "a") ∷ (codes "b") ∷ (codes "c") ∷ []) ways1 ∷ []
    ≡ (((codes "a") ∷ []) ∷ ((codes "b") ∷ []) ∷ ((codes "c") ∷ []) ∷ []) ∷ [] ∷ (((codes "a") ∷ []) ∷ ((codes "b") ∷ []) ∷ ((codes "c") ∷ []) ∷ []) ∷ []
among_1 = refl

touched_1 : touched (groups_of empty) ((codes "a") ∷ (codes "b") ∷ (codes "c") ∷ []) ways1 ≡ ((codes "a") ∷ (codes "b") ∷ (codes "c") ∷ [])
touched_1 = refl

untouched_1 : untouched [] ((codes "a") ∷ (codes "b") ∷ (codes "c") ∷ []) ≡ []
untouched_1 = refl

takes_1 : size_told [] ((codes "a") ∷ (codes "b") ∷ (codes "c") ∷ []) ways1 ≡ 111
unfolding in_four sixteen encode_utf8
takes_1 = refl

-- ways2: a.append(0)
among_2 : classes (groups_of ways1) ((codes "a") ∷ []) ways2 ∷ dropped_among (groups_of ways1) (picture ways1) ((codes "a") ∷ []) ways2 ∷ stored_among (groups_of ways1) (picture ways1) ((codes "a") ∷ []) ways2 ∷ []
    ≡ (((codes "a") ∷ []) ∷ []) ∷ (((codes "a") ∷ []) ∷ []) ∷ (((codes "a") ∷ []) ∷ []) ∷ []
among_2 = refl

touched_2 : touched (groups_of ways1) ((codes "a") ∷ []) ways2 ≡ ((codes "a") ∷ [])
touched_2 = refl

untouched_2 : untouched ((record { group = ((codes "a") ∷ []); version = 1; place = 0; len = 37 }) ∷ (record { group = ((codes "b") ∷ []); version = 1; place = 0; len = 37 }) ∷ (record { group = ((codes "c") ∷ []); version = 1; place = 0; len = 37 }) ∷ []) ((codes "a") ∷ []) ≡ ((record { group = ((codes "b") ∷ []); version = 1; place = 0; len = 37 }) ∷ (record { group = ((codes "c") ∷ []); version = 1; place = 0; len = 37 }) ∷ [])
untouched_2 = refl

takes_2 : size_told ((record { group = ((codes "a") ∷ []); version = 1; place = 0; len = 37 }) ∷ (record { group = ((codes "b") ∷ []); version = 1; place = 0; len = 37 }) ∷ (record { group = ((codes "c") ∷ []); version = 1; place = 0; len = 37 }) ∷ []) ((codes "a") ∷ []) ways2 ≡ 128
unfolding in_four sixteen encode_utf8
takes_2 = refl

-- ways3: on one way: b.append(7)
among_3 : classes (groups_of ways2) ((codes "b") ∷ []) ways3 ∷ dropped_among (groups_of ways2) (picture ways2) ((codes "b") ∷ []) ways3 ∷ stored_among (groups_of ways2) (picture ways2) ((codes "b") ∷ []) ways3 ∷ []
    ≡ (((codes "b") ∷ []) ∷ []) ∷ (((codes "b") ∷ []) ∷ []) ∷ (((codes "b") ∷ []) ∷ []) ∷ []
among_3 = refl

touched_3 : touched (groups_of ways2) ((codes "b") ∷ []) ways3 ≡ ((codes "b") ∷ [])
touched_3 = refl

among_4 : classes (groups_of ways2) ((codes "b") ∷ (codes "zz") ∷ []) ways3 ∷ dropped_among (groups_of ways2) (picture ways2) ((codes "b") ∷ (codes "zz") ∷ []) ways3 ∷ stored_among (groups_of ways2) (picture ways2) ((codes "b") ∷ (codes "zz") ∷ []) ways3 ∷ []
    ≡ (((codes "b") ∷ []) ∷ []) ∷ (((codes "b") ∷ []) ∷ []) ∷ (((codes "b") ∷ []) ∷ []) ∷ []
among_4 = refl

touched_4 : touched (groups_of ways2) ((codes "b") ∷ (codes "zz") ∷ []) ways3 ≡ ((codes "b") ∷ [])
touched_4 = refl

untouched_3 : untouched ((record { group = ((codes "a") ∷ []); version = 1; place = 0; len = 54 }) ∷ (record { group = ((codes "b") ∷ []); version = 1; place = 0; len = 37 }) ∷ (record { group = ((codes "c") ∷ []); version = 1; place = 0; len = 37 }) ∷ []) ((codes "b") ∷ []) ≡ ((record { group = ((codes "a") ∷ []); version = 1; place = 0; len = 54 }) ∷ (record { group = ((codes "c") ∷ []); version = 1; place = 0; len = 37 }) ∷ [])
untouched_3 = refl

takes_3 : size_told ((record { group = ((codes "a") ∷ []); version = 1; place = 0; len = 54 }) ∷ (record { group = ((codes "b") ∷ []); version = 1; place = 0; len = 37 }) ∷ (record { group = ((codes "c") ∷ []); version = 1; place = 0; len = 37 }) ∷ []) ((codes "b") ∷ []) ways3 ≡ 145
unfolding in_four sixteen encode_utf8
takes_3 = refl

-- ways5: and c.append(b)
among_5 : classes (groups_of ways3) ((codes "b") ∷ (codes "c") ∷ []) ways5 ∷ dropped_among (groups_of ways3) (picture ways3) ((codes "b") ∷ (codes "c") ∷ []) ways5 ∷ stored_among (groups_of ways3) (picture ways3) ((codes "b") ∷ (codes "c") ∷ []) ways5 ∷ []
    ≡ (((codes "b") ∷ (codes "c") ∷ []) ∷ []) ∷ (((codes "b") ∷ []) ∷ ((codes "c") ∷ []) ∷ []) ∷ (((codes "b") ∷ (codes "c") ∷ []) ∷ []) ∷ []
among_5 = refl

touched_5 : touched (groups_of ways3) ((codes "b") ∷ (codes "c") ∷ []) ways5 ≡ ((codes "b") ∷ (codes "c") ∷ [])
touched_5 = refl

untouched_4 : untouched ((record { group = ((codes "a") ∷ []); version = 1; place = 0; len = 54 }) ∷ (record { group = ((codes "b") ∷ []); version = 1; place = 0; len = 54 }) ∷ (record { group = ((codes "c") ∷ []); version = 1; place = 0; len = 37 }) ∷ []) ((codes "b") ∷ (codes "c") ∷ []) ≡ ((record { group = ((codes "a") ∷ []); version = 1; place = 0; len = 54 }) ∷ [])
untouched_4 = refl

takes_4 : size_told ((record { group = ((codes "a") ∷ []); version = 1; place = 0; len = 54 }) ∷ (record { group = ((codes "b") ∷ []); version = 1; place = 0; len = 54 }) ∷ (record { group = ((codes "c") ∷ []); version = 1; place = 0; len = 37 }) ∷ []) ((codes "b") ∷ (codes "c") ∷ []) ways5 ≡ 142
unfolding in_four sixteen encode_utf8
takes_4 = refl

-- ways4: on the other way: b.append(7), too
among_6 : classes (groups_of ways2) ((codes "b") ∷ []) ways4 ∷ dropped_among (groups_of ways2) (picture ways2) ((codes "b") ∷ []) ways4 ∷ stored_among (groups_of ways2) (picture ways2) ((codes "b") ∷ []) ways4 ∷ []
    ≡ (((codes "b") ∷ []) ∷ []) ∷ (((codes "b") ∷ []) ∷ []) ∷ (((codes "b") ∷ []) ∷ []) ∷ []
among_6 = refl

touched_6 : touched (groups_of ways2) ((codes "b") ∷ []) ways4 ≡ ((codes "b") ∷ [])
touched_6 = refl

untouched_5 : untouched ((record { group = ((codes "a") ∷ []); version = 1; place = 0; len = 54 }) ∷ (record { group = ((codes "b") ∷ []); version = 1; place = 0; len = 37 }) ∷ (record { group = ((codes "c") ∷ []); version = 1; place = 0; len = 37 }) ∷ []) ((codes "b") ∷ []) ≡ ((record { group = ((codes "a") ∷ []); version = 1; place = 0; len = 54 }) ∷ (record { group = ((codes "c") ∷ []); version = 1; place = 0; len = 37 }) ∷ [])
untouched_5 = refl

takes_5 : size_told ((record { group = ((codes "a") ∷ []); version = 1; place = 0; len = 54 }) ∷ (record { group = ((codes "b") ∷ []); version = 1; place = 0; len = 37 }) ∷ (record { group = ((codes "c") ∷ []); version = 1; place = 0; len = 37 }) ∷ []) ((codes "b") ∷ []) ways4 ≡ 145
unfolding in_four sixteen encode_utf8
takes_5 = refl

-- ways6: and d = a
among_7 : classes (groups_of ways4) ((codes "a") ∷ (codes "d") ∷ []) ways6 ∷ dropped_among (groups_of ways4) (picture ways4) ((codes "a") ∷ (codes "d") ∷ []) ways6 ∷ stored_among (groups_of ways4) (picture ways4) ((codes "a") ∷ (codes "d") ∷ []) ways6 ∷ []
    ≡ (((codes "a") ∷ (codes "d") ∷ []) ∷ []) ∷ (((codes "a") ∷ []) ∷ []) ∷ (((codes "a") ∷ (codes "d") ∷ []) ∷ []) ∷ []
among_7 = refl

touched_7 : touched (groups_of ways4) ((codes "a") ∷ (codes "d") ∷ []) ways6 ≡ ((codes "a") ∷ (codes "d") ∷ [])
touched_7 = refl

among_8 : classes (groups_of ways4) ((codes "a") ∷ (codes "d") ∷ (codes "zz") ∷ []) ways6 ∷ dropped_among (groups_of ways4) (picture ways4) ((codes "a") ∷ (codes "d") ∷ (codes "zz") ∷ []) ways6 ∷ stored_among (groups_of ways4) (picture ways4) ((codes "a") ∷ (codes "d") ∷ (codes "zz") ∷ []) ways6 ∷ []
    ≡ (((codes "a") ∷ (codes "d") ∷ []) ∷ []) ∷ (((codes "a") ∷ []) ∷ []) ∷ (((codes "a") ∷ (codes "d") ∷ []) ∷ []) ∷ []
among_8 = refl

touched_8 : touched (groups_of ways4) ((codes "a") ∷ (codes "d") ∷ (codes "zz") ∷ []) ways6 ≡ ((codes "a") ∷ (codes "d") ∷ [])
touched_8 = refl

untouched_6 : untouched ((record { group = ((codes "a") ∷ []); version = 1; place = 0; len = 54 }) ∷ (record { group = ((codes "b") ∷ []); version = 1; place = 0; len = 54 }) ∷ (record { group = ((codes "c") ∷ []); version = 1; place = 0; len = 37 }) ∷ []) ((codes "a") ∷ (codes "d") ∷ []) ≡ ((record { group = ((codes "b") ∷ []); version = 1; place = 0; len = 54 }) ∷ (record { group = ((codes "c") ∷ []); version = 1; place = 0; len = 37 }) ∷ [])
untouched_6 = refl

takes_6 : size_told ((record { group = ((codes "a") ∷ []); version = 1; place = 0; len = 54 }) ∷ (record { group = ((codes "b") ∷ []); version = 1; place = 0; len = 54 }) ∷ (record { group = ((codes "c") ∷ []); version = 1; place = 0; len = 37 }) ∷ []) ((codes "a") ∷ (codes "d") ∷ []) ways6 ≡ 152
unfolding in_four sixteen encode_utf8
takes_6 = refl

-- ways7: del d
among_9 : classes (groups_of ways6) ((codes "d") ∷ []) ways7 ∷ dropped_among (groups_of ways6) (picture ways6) ((codes "d") ∷ []) ways7 ∷ stored_among (groups_of ways6) (picture ways6) ((codes "d") ∷ []) ways7 ∷ []
    ≡ (((codes "a") ∷ []) ∷ []) ∷ (((codes "a") ∷ (codes "d") ∷ []) ∷ []) ∷ (((codes "a") ∷ []) ∷ []) ∷ []
among_9 = refl

touched_9 : touched (groups_of ways6) ((codes "d") ∷ []) ways7 ≡ ((codes "a") ∷ [])
touched_9 = refl

untouched_7 : untouched ((record { group = ((codes "a") ∷ (codes "d") ∷ []); version = 1; place = 0; len = 61 }) ∷ (record { group = ((codes "b") ∷ []); version = 1; place = 0; len = 54 }) ∷ (record { group = ((codes "c") ∷ []); version = 1; place = 0; len = 37 }) ∷ []) ((codes "d") ∷ []) ≡ ((record { group = ((codes "b") ∷ []); version = 1; place = 0; len = 54 }) ∷ (record { group = ((codes "c") ∷ []); version = 1; place = 0; len = 37 }) ∷ [])
untouched_7 = refl

takes_7 : size_told ((record { group = ((codes "a") ∷ (codes "d") ∷ []); version = 1; place = 0; len = 61 }) ∷ (record { group = ((codes "b") ∷ []); version = 1; place = 0; len = 54 }) ∷ (record { group = ((codes "c") ∷ []); version = 1; place = 0; len = 37 }) ∷ []) ((codes "d") ∷ []) ways7 ≡ 145
unfolding in_four sixteen encode_utf8
takes_7 = refl

-- ways8: from the first commit: del c
among_10 : classes (groups_of ways1) ((codes "c") ∷ []) ways8 ∷ dropped_among (groups_of ways1) (picture ways1) ((codes "c") ∷ []) ways8 ∷ stored_among (groups_of ways1) (picture ways1) ((codes "c") ∷ []) ways8 ∷ []
    ≡ [] ∷ (((codes "c") ∷ []) ∷ []) ∷ [] ∷ []
among_10 = refl

touched_10 : touched (groups_of ways1) ((codes "c") ∷ []) ways8 ≡ []
touched_10 = refl

untouched_8 : untouched ((record { group = ((codes "a") ∷ []); version = 1; place = 0; len = 37 }) ∷ (record { group = ((codes "b") ∷ []); version = 1; place = 0; len = 37 }) ∷ (record { group = ((codes "c") ∷ []); version = 1; place = 0; len = 37 }) ∷ []) ((codes "c") ∷ []) ≡ ((record { group = ((codes "a") ∷ []); version = 1; place = 0; len = 37 }) ∷ (record { group = ((codes "b") ∷ []); version = 1; place = 0; len = 37 }) ∷ [])
untouched_8 = refl

takes_8 : size_told ((record { group = ((codes "a") ∷ []); version = 1; place = 0; len = 37 }) ∷ (record { group = ((codes "b") ∷ []); version = 1; place = 0; len = 37 }) ∷ (record { group = ((codes "c") ∷ []); version = 1; place = 0; len = 37 }) ∷ []) ((codes "c") ∷ []) ways8 ≡ 74
unfolding in_four sixteen encode_utf8
takes_8 = refl

-- kinds1: def g(x, acc=[]): ..
among_11 : classes (groups_of empty) ((codes "g") ∷ []) kinds1 ∷ dropped_among (groups_of empty) (picture empty) ((codes "g") ∷ []) kinds1 ∷ stored_among (groups_of empty) (picture empty) ((codes "g") ∷ []) kinds1 ∷ []
    ≡ (((codes "g") ∷ []) ∷ []) ∷ [] ∷ (((codes "g") ∷ []) ∷ []) ∷ []
among_11 = refl

touched_11 : touched (groups_of empty) ((codes "g") ∷ []) kinds1 ≡ ((codes "g") ∷ [])
touched_11 = refl

untouched_9 : untouched [] ((codes "g") ∷ []) ≡ []
untouched_9 = refl

takes_9 : size_told [] ((codes "g") ∷ []) kinds1 ≡ 78
unfolding in_four sixteen encode_utf8
takes_9 = refl

-- kinds2: p = g(1)
among_12 : classes (groups_of kinds1) ((codes "g") ∷ (codes "p") ∷ []) kinds2 ∷ dropped_among (groups_of kinds1) (picture kinds1) ((codes "g") ∷ (codes "p") ∷ []) kinds2 ∷ stored_among (groups_of kinds1) (picture kinds1) ((codes "g") ∷ (codes "p") ∷ []) kinds2 ∷ []
    ≡ (((codes "g") ∷ (codes "p") ∷ []) ∷ []) ∷ (((codes "g") ∷ []) ∷ []) ∷ (((codes "g") ∷ (codes "p") ∷ []) ∷ []) ∷ []
among_12 = refl

touched_12 : touched (groups_of kinds1) ((codes "g") ∷ (codes "p") ∷ []) kinds2 ≡ ((codes "g") ∷ (codes "p") ∷ [])
touched_12 = refl

untouched_10 : untouched ((record { group = ((codes "g") ∷ []); version = 1; place = 0; len = 78 }) ∷ []) ((codes "g") ∷ (codes "p") ∷ []) ≡ []
untouched_10 = refl

takes_10 : size_told ((record { group = ((codes "g") ∷ []); version = 1; place = 0; len = 78 }) ∷ []) ((codes "g") ∷ (codes "p") ∷ []) kinds2 ≡ 102
unfolding in_four sixteen encode_utf8
takes_10 = refl

-- kinds3: p = 0
among_13 : classes (groups_of kinds2) ((codes "p") ∷ []) kinds3 ∷ dropped_among (groups_of kinds2) (picture kinds2) ((codes "p") ∷ []) kinds3 ∷ stored_among (groups_of kinds2) (picture kinds2) ((codes "p") ∷ []) kinds3 ∷ []
    ≡ (((codes "g") ∷ []) ∷ ((codes "p") ∷ []) ∷ []) ∷ (((codes "g") ∷ (codes "p") ∷ []) ∷ []) ∷ (((codes "g") ∷ []) ∷ ((codes "p") ∷ []) ∷ []) ∷ []
among_13 = refl

touched_13 : touched (groups_of kinds2) ((codes "p") ∷ []) kinds3 ≡ ((codes "g") ∷ (codes "p") ∷ [])
touched_13 = refl

among_14 : classes (groups_of kinds2) ((codes "p") ∷ (codes "zz") ∷ []) kinds3 ∷ dropped_among (groups_of kinds2) (picture kinds2) ((codes "p") ∷ (codes "zz") ∷ []) kinds3 ∷ stored_among (groups_of kinds2) (picture kinds2) ((codes "p") ∷ (codes "zz") ∷ []) kinds3 ∷ []
    ≡ (((codes "g") ∷ []) ∷ ((codes "p") ∷ []) ∷ []) ∷ (((codes "g") ∷ (codes "p") ∷ []) ∷ []) ∷ (((codes "g") ∷ []) ∷ ((codes "p") ∷ []) ∷ []) ∷ []
among_14 = refl

touched_14 : touched (groups_of kinds2) ((codes "p") ∷ (codes "zz") ∷ []) kinds3 ≡ ((codes "g") ∷ (codes "p") ∷ [])
touched_14 = refl

untouched_11 : untouched ((record { group = ((codes "g") ∷ (codes "p") ∷ []); version = 1; place = 0; len = 102 }) ∷ []) ((codes "p") ∷ []) ≡ []
untouched_11 = refl

takes_11 : size_told ((record { group = ((codes "g") ∷ (codes "p") ∷ []); version = 1; place = 0; len = 102 }) ∷ []) ((codes "p") ∷ []) kinds3 ≡ 122
unfolding in_four sixteen encode_utf8
takes_11 = refl

-- kinds4: d = {1: 'a', (1, True): None}; t = (1, 2)
among_15 : classes (groups_of kinds3) ((codes "d") ∷ (codes "t") ∷ []) kinds4 ∷ dropped_among (groups_of kinds3) (picture kinds3) ((codes "d") ∷ (codes "t") ∷ []) kinds4 ∷ stored_among (groups_of kinds3) (picture kinds3) ((codes "d") ∷ (codes "t") ∷ []) kinds4 ∷ []
    ≡ (((codes "d") ∷ []) ∷ ((codes "t") ∷ []) ∷ []) ∷ [] ∷ (((codes "d") ∷ []) ∷ ((codes "t") ∷ []) ∷ []) ∷ []
among_15 = refl

touched_15 : touched (groups_of kinds3) ((codes "d") ∷ (codes "t") ∷ []) kinds4 ≡ ((codes "d") ∷ (codes "t") ∷ [])
touched_15 = refl

untouched_12 : untouched ((record { group = ((codes "g") ∷ []); version = 1; place = 0; len = 95 }) ∷ (record { group = ((codes "p") ∷ []); version = 1; place = 0; len = 27 }) ∷ []) ((codes "d") ∷ (codes "t") ∷ []) ≡ ((record { group = ((codes "g") ∷ []); version = 1; place = 0; len = 95 }) ∷ (record { group = ((codes "p") ∷ []); version = 1; place = 0; len = 27 }) ∷ [])
untouched_12 = refl

takes_12 : size_told ((record { group = ((codes "g") ∷ []); version = 1; place = 0; len = 95 }) ∷ (record { group = ((codes "p") ∷ []); version = 1; place = 0; len = 27 }) ∷ []) ((codes "d") ∷ (codes "t") ∷ []) kinds4 ≡ 243
unfolding in_four sixteen encode_utf8
takes_12 = refl

-- kinds5: the same keys in the other order
among_16 : classes (groups_of kinds4) ((codes "d") ∷ []) kinds5 ∷ dropped_among (groups_of kinds4) (picture kinds4) ((codes "d") ∷ []) kinds5 ∷ stored_among (groups_of kinds4) (picture kinds4) ((codes "d") ∷ []) kinds5 ∷ []
    ≡ (((codes "d") ∷ []) ∷ []) ∷ (((codes "d") ∷ []) ∷ []) ∷ (((codes "d") ∷ []) ∷ []) ∷ []
among_16 = refl

touched_16 : touched (groups_of kinds4) ((codes "d") ∷ []) kinds5 ≡ ((codes "d") ∷ [])
touched_16 = refl

untouched_13 : untouched ((record { group = ((codes "d") ∷ []); version = 1; place = 0; len = 67 }) ∷ (record { group = ((codes "g") ∷ []); version = 1; place = 0; len = 95 }) ∷ (record { group = ((codes "p") ∷ []); version = 1; place = 0; len = 27 }) ∷ (record { group = ((codes "t") ∷ []); version = 1; place = 0; len = 54 }) ∷ []) ((codes "d") ∷ []) ≡ ((record { group = ((codes "g") ∷ []); version = 1; place = 0; len = 95 }) ∷ (record { group = ((codes "p") ∷ []); version = 1; place = 0; len = 27 }) ∷ (record { group = ((codes "t") ∷ []); version = 1; place = 0; len = 54 }) ∷ [])
untouched_13 = refl

takes_13 : size_told ((record { group = ((codes "d") ∷ []); version = 1; place = 0; len = 67 }) ∷ (record { group = ((codes "g") ∷ []); version = 1; place = 0; len = 95 }) ∷ (record { group = ((codes "p") ∷ []); version = 1; place = 0; len = 27 }) ∷ (record { group = ((codes "t") ∷ []); version = 1; place = 0; len = 54 }) ∷ []) ((codes "d") ∷ []) kinds5 ≡ 243
unfolding in_four sixteen encode_utf8
takes_13 = refl

-- kinds6: d[1, True] = t
among_17 : classes (groups_of kinds5) ((codes "d") ∷ (codes "t") ∷ []) kinds6 ∷ dropped_among (groups_of kinds5) (picture kinds5) ((codes "d") ∷ (codes "t") ∷ []) kinds6 ∷ stored_among (groups_of kinds5) (picture kinds5) ((codes "d") ∷ (codes "t") ∷ []) kinds6 ∷ []
    ≡ (((codes "d") ∷ (codes "t") ∷ []) ∷ []) ∷ (((codes "d") ∷ []) ∷ ((codes "t") ∷ []) ∷ []) ∷ (((codes "d") ∷ (codes "t") ∷ []) ∷ []) ∷ []
among_17 = refl

touched_17 : touched (groups_of kinds5) ((codes "d") ∷ (codes "t") ∷ []) kinds6 ≡ ((codes "d") ∷ (codes "t") ∷ [])
touched_17 = refl

among_18 : classes (groups_of kinds5) ((codes "d") ∷ (codes "t") ∷ (codes "zz") ∷ []) kinds6 ∷ dropped_among (groups_of kinds5) (picture kinds5) ((codes "d") ∷ (codes "t") ∷ (codes "zz") ∷ []) kinds6 ∷ stored_among (groups_of kinds5) (picture kinds5) ((codes "d") ∷ (codes "t") ∷ (codes "zz") ∷ []) kinds6 ∷ []
    ≡ (((codes "d") ∷ (codes "t") ∷ []) ∷ []) ∷ (((codes "d") ∷ []) ∷ ((codes "t") ∷ []) ∷ []) ∷ (((codes "d") ∷ (codes "t") ∷ []) ∷ []) ∷ []
among_18 = refl

touched_18 : touched (groups_of kinds5) ((codes "d") ∷ (codes "t") ∷ (codes "zz") ∷ []) kinds6 ≡ ((codes "d") ∷ (codes "t") ∷ [])
touched_18 = refl

untouched_14 : untouched ((record { group = ((codes "d") ∷ []); version = 1; place = 0; len = 67 }) ∷ (record { group = ((codes "g") ∷ []); version = 1; place = 0; len = 95 }) ∷ (record { group = ((codes "p") ∷ []); version = 1; place = 0; len = 27 }) ∷ (record { group = ((codes "t") ∷ []); version = 1; place = 0; len = 54 }) ∷ []) ((codes "d") ∷ (codes "t") ∷ []) ≡ ((record { group = ((codes "g") ∷ []); version = 1; place = 0; len = 95 }) ∷ (record { group = ((codes "p") ∷ []); version = 1; place = 0; len = 27 }) ∷ [])
untouched_14 = refl

takes_14 : size_told ((record { group = ((codes "d") ∷ []); version = 1; place = 0; len = 67 }) ∷ (record { group = ((codes "g") ∷ []); version = 1; place = 0; len = 95 }) ∷ (record { group = ((codes "p") ∷ []); version = 1; place = 0; len = 27 }) ∷ (record { group = ((codes "t") ∷ []); version = 1; place = 0; len = 54 }) ∷ []) ((codes "d") ∷ (codes "t") ∷ []) kinds6 ≡ 239
unfolding in_four sixteen encode_utf8
takes_14 = refl

-- kinds7: t = (1, 2), another one
among_19 : classes (groups_of kinds6) ((codes "t") ∷ []) kinds7 ∷ dropped_among (groups_of kinds6) (picture kinds6) ((codes "t") ∷ []) kinds7 ∷ stored_among (groups_of kinds6) (picture kinds6) ((codes "t") ∷ []) kinds7 ∷ []
    ≡ (((codes "d") ∷ []) ∷ ((codes "t") ∷ []) ∷ []) ∷ (((codes "d") ∷ (codes "t") ∷ []) ∷ []) ∷ (((codes "d") ∷ []) ∷ ((codes "t") ∷ []) ∷ []) ∷ []
among_19 = refl

touched_19 : touched (groups_of kinds6) ((codes "t") ∷ []) kinds7 ≡ ((codes "d") ∷ (codes "t") ∷ [])
touched_19 = refl

untouched_15 : untouched ((record { group = ((codes "d") ∷ (codes "t") ∷ []); version = 1; place = 0; len = 117 }) ∷ (record { group = ((codes "g") ∷ []); version = 1; place = 0; len = 95 }) ∷ (record { group = ((codes "p") ∷ []); version = 1; place = 0; len = 27 }) ∷ []) ((codes "t") ∷ []) ≡ ((record { group = ((codes "g") ∷ []); version = 1; place = 0; len = 95 }) ∷ (record { group = ((codes "p") ∷ []); version = 1; place = 0; len = 27 }) ∷ [])
untouched_15 = refl

takes_15 : size_told ((record { group = ((codes "d") ∷ (codes "t") ∷ []); version = 1; place = 0; len = 117 }) ∷ (record { group = ((codes "g") ∷ []); version = 1; place = 0; len = 95 }) ∷ (record { group = ((codes "p") ∷ []); version = 1; place = 0; len = 27 }) ∷ []) ((codes "t") ∷ []) kinds7 ≡ 286
unfolding in_four sixteen encode_utf8
takes_15 = refl

-- kinds8: e = ValueError(t); o = SimpleNamespace(t=t)
among_20 : classes (groups_of kinds7) ((codes "e") ∷ (codes "o") ∷ (codes "t") ∷ []) kinds8 ∷ dropped_among (groups_of kinds7) (picture kinds7) ((codes "e") ∷ (codes "o") ∷ (codes "t") ∷ []) kinds8 ∷ stored_among (groups_of kinds7) (picture kinds7) ((codes "e") ∷ (codes "o") ∷ (codes "t") ∷ []) kinds8 ∷ []
    ≡ (((codes "e") ∷ (codes "o") ∷ (codes "t") ∷ []) ∷ []) ∷ (((codes "t") ∷ []) ∷ []) ∷ (((codes "e") ∷ (codes "o") ∷ (codes "t") ∷ []) ∷ []) ∷ []
among_20 = refl

touched_20 : touched (groups_of kinds7) ((codes "e") ∷ (codes "o") ∷ (codes "t") ∷ []) kinds8 ≡ ((codes "e") ∷ (codes "o") ∷ (codes "t") ∷ [])
touched_20 = refl

untouched_16 : untouched ((record { group = ((codes "d") ∷ []); version = 1; place = 0; len = 110 }) ∷ (record { group = ((codes "g") ∷ []); version = 1; place = 0; len = 95 }) ∷ (record { group = ((codes "p") ∷ []); version = 1; place = 0; len = 27 }) ∷ (record { group = ((codes "t") ∷ []); version = 1; place = 0; len = 54 }) ∷ []) ((codes "e") ∷ (codes "o") ∷ (codes "t") ∷ []) ≡ ((record { group = ((codes "d") ∷ []); version = 1; place = 0; len = 110 }) ∷ (record { group = ((codes "g") ∷ []); version = 1; place = 0; len = 95 }) ∷ (record { group = ((codes "p") ∷ []); version = 1; place = 0; len = 27 }) ∷ [])
untouched_16 = refl

takes_16 : size_told ((record { group = ((codes "d") ∷ []); version = 1; place = 0; len = 110 }) ∷ (record { group = ((codes "g") ∷ []); version = 1; place = 0; len = 95 }) ∷ (record { group = ((codes "p") ∷ []); version = 1; place = 0; len = 27 }) ∷ (record { group = ((codes "t") ∷ []); version = 1; place = 0; len = 54 }) ∷ []) ((codes "e") ∷ (codes "o") ∷ (codes "t") ∷ []) kinds8 ≡ 323
unfolding in_four sixteen encode_utf8
takes_16 = refl

-- kinds9: del o.t
among_21 : classes (groups_of kinds8) ((codes "o") ∷ []) kinds9 ∷ dropped_among (groups_of kinds8) (picture kinds8) ((codes "o") ∷ []) kinds9 ∷ stored_among (groups_of kinds8) (picture kinds8) ((codes "o") ∷ []) kinds9 ∷ []
    ≡ (((codes "e") ∷ (codes "t") ∷ []) ∷ ((codes "o") ∷ []) ∷ []) ∷ (((codes "e") ∷ (codes "o") ∷ (codes "t") ∷ []) ∷ []) ∷ (((codes "e") ∷ (codes "t") ∷ []) ∷ ((codes "o") ∷ []) ∷ []) ∷ []
among_21 = refl

touched_21 : touched (groups_of kinds8) ((codes "o") ∷ []) kinds9 ≡ ((codes "e") ∷ (codes "o") ∷ (codes "t") ∷ [])
touched_21 = refl

among_22 : classes (groups_of kinds8) ((codes "o") ∷ (codes "zz") ∷ []) kinds9 ∷ dropped_among (groups_of kinds8) (picture kinds8) ((codes "o") ∷ (codes "zz") ∷ []) kinds9 ∷ stored_among (groups_of kinds8) (picture kinds8) ((codes "o") ∷ (codes "zz") ∷ []) kinds9 ∷ []
    ≡ (((codes "e") ∷ (codes "t") ∷ []) ∷ ((codes "o") ∷ []) ∷ []) ∷ (((codes "e") ∷ (codes "o") ∷ (codes "t") ∷ []) ∷ []) ∷ (((codes "e") ∷ (codes "t") ∷ []) ∷ ((codes "o") ∷ []) ∷ []) ∷ []
among_22 = refl

touched_22 : touched (groups_of kinds8) ((codes "o") ∷ (codes "zz") ∷ []) kinds9 ≡ ((codes "e") ∷ (codes "o") ∷ (codes "t") ∷ [])
touched_22 = refl

untouched_17 : untouched ((record { group = ((codes "d") ∷ []); version = 1; place = 0; len = 110 }) ∷ (record { group = ((codes "e") ∷ (codes "o") ∷ (codes "t") ∷ []); version = 1; place = 0; len = 91 }) ∷ (record { group = ((codes "g") ∷ []); version = 1; place = 0; len = 95 }) ∷ (record { group = ((codes "p") ∷ []); version = 1; place = 0; len = 27 }) ∷ []) ((codes "o") ∷ []) ≡ ((record { group = ((codes "d") ∷ []); version = 1; place = 0; len = 110 }) ∷ (record { group = ((codes "g") ∷ []); version = 1; place = 0; len = 95 }) ∷ (record { group = ((codes "p") ∷ []); version = 1; place = 0; len = 27 }) ∷ [])
untouched_17 = refl

takes_17 : size_told ((record { group = ((codes "d") ∷ []); version = 1; place = 0; len = 110 }) ∷ (record { group = ((codes "e") ∷ (codes "o") ∷ (codes "t") ∷ []); version = 1; place = 0; len = 91 }) ∷ (record { group = ((codes "g") ∷ []); version = 1; place = 0; len = 95 }) ∷ (record { group = ((codes "p") ∷ []); version = 1; place = 0; len = 27 }) ∷ []) ((codes "o") ∷ []) kinds9 ≡ 324
unfolding in_four sixteen encode_utf8
takes_17 = refl

-- kinds10: def g(x): return x
among_23 : classes (groups_of kinds9) ((codes "g") ∷ []) kinds10 ∷ dropped_among (groups_of kinds9) (picture kinds9) ((codes "g") ∷ []) kinds10 ∷ stored_among (groups_of kinds9) (picture kinds9) ((codes "g") ∷ []) kinds10 ∷ []
    ≡ (((codes "g") ∷ []) ∷ []) ∷ (((codes "g") ∷ []) ∷ []) ∷ (((codes "g") ∷ []) ∷ []) ∷ []
among_23 = refl

touched_23 : touched (groups_of kinds9) ((codes "g") ∷ []) kinds10 ≡ ((codes "g") ∷ [])
touched_23 = refl

untouched_18 : untouched ((record { group = ((codes "d") ∷ []); version = 1; place = 0; len = 110 }) ∷ (record { group = ((codes "e") ∷ (codes "t") ∷ []); version = 1; place = 0; len = 72 }) ∷ (record { group = ((codes "g") ∷ []); version = 1; place = 0; len = 95 }) ∷ (record { group = ((codes "o") ∷ []); version = 1; place = 0; len = 20 }) ∷ (record { group = ((codes "p") ∷ []); version = 1; place = 0; len = 27 }) ∷ []) ((codes "g") ∷ []) ≡ ((record { group = ((codes "d") ∷ []); version = 1; place = 0; len = 110 }) ∷ (record { group = ((codes "e") ∷ (codes "t") ∷ []); version = 1; place = 0; len = 72 }) ∷ (record { group = ((codes "o") ∷ []); version = 1; place = 0; len = 20 }) ∷ (record { group = ((codes "p") ∷ []); version = 1; place = 0; len = 27 }) ∷ [])
untouched_18 = refl

takes_18 : size_told ((record { group = ((codes "d") ∷ []); version = 1; place = 0; len = 110 }) ∷ (record { group = ((codes "e") ∷ (codes "t") ∷ []); version = 1; place = 0; len = 72 }) ∷ (record { group = ((codes "g") ∷ []); version = 1; place = 0; len = 95 }) ∷ (record { group = ((codes "o") ∷ []); version = 1; place = 0; len = 20 }) ∷ (record { group = ((codes "p") ∷ []); version = 1; place = 0; len = 27 }) ∷ []) ((codes "g") ∷ []) kinds10 ≡ 272
unfolding in_four sixteen encode_utf8
takes_18 = refl

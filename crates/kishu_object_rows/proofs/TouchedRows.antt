-- What cells touched and changed, told among the touched names: computed on the definitions. Made by tools/rows/history_rows.py.
use Rattle.std.specs.Prelude.{◌≡◌, [], ◌∷◌, codes, refl}
use Rattle.std.specs.Char.{encode_utf8}
use Rattle.kishu_bytes.specs.Numbers.{sixteen}
use Rattle.kishu_meaning.specs.values.Values.{empty}
use Rattle.kishu_objects.specs.Bytes.{in_four}
use Rattle.kishu_objects.specs.Picture.{picture}
use Rattle.kishu_objects.specs.Groups.{groups_of}
use Rattle.kishu_history.specs.Touched.{touched, classes, dropped_among, stored_among, untouched, size_told}
use Rattle.kishu_object_rows.proofs.Histories.{lists1, lists2, lists3, lists4, lists5, lists6, lists7, lists8, lists9, lists10, lists11, lists12, lists13}

-- lists1: x = [1]; y = [x]; z = [2]
among_1 : classes (groups_of empty) ((codes "x") ∷ (codes "y") ∷ (codes "z") ∷ []) lists1 ∷ dropped_among (groups_of empty) (picture empty) ((codes "x") ∷ (codes "y") ∷ (codes "z") ∷ []) lists1 ∷ stored_among (groups_of empty) (picture empty) ((codes "x") ∷ (codes "y") ∷ (codes "z") ∷ []) lists1 ∷ []
    ≡ (((codes "x") ∷ (codes "y") ∷ []) ∷ ((codes "z") ∷ []) ∷ []) ∷ [] ∷ (((codes "x") ∷ (codes "y") ∷ []) ∷ ((codes "z") ∷ []) ∷ []) ∷ []
among_1 = refl

touched_1 : touched (groups_of empty) ((codes "x") ∷ (codes "y") ∷ (codes "z") ∷ []) lists1 ≡ ((codes "x") ∷ (codes "y") ∷ (codes "z") ∷ [])
touched_1 = refl

untouched_1 : untouched [] ((codes "x") ∷ (codes "y") ∷ (codes "z") ∷ []) ≡ []
untouched_1 = refl

takes_1 : size_told [] ((codes "x") ∷ (codes "y") ∷ (codes "z") ∷ []) lists1 ≡ 91
unfolding in_four sixteen encode_utf8
takes_1 = refl

-- lists2: y = 0
among_2 : classes (groups_of lists1) ((codes "y") ∷ []) lists2 ∷ dropped_among (groups_of lists1) (picture lists1) ((codes "y") ∷ []) lists2 ∷ stored_among (groups_of lists1) (picture lists1) ((codes "y") ∷ []) lists2 ∷ []
    ≡ (((codes "x") ∷ []) ∷ ((codes "y") ∷ []) ∷ []) ∷ (((codes "x") ∷ (codes "y") ∷ []) ∷ []) ∷ (((codes "x") ∷ []) ∷ ((codes "y") ∷ []) ∷ []) ∷ []
among_2 = refl

touched_2 : touched (groups_of lists1) ((codes "y") ∷ []) lists2 ≡ ((codes "x") ∷ (codes "y") ∷ [])
touched_2 = refl

untouched_2 : untouched ((record { group = ((codes "x") ∷ (codes "y") ∷ []); version = 1; place = 0; len = 54 }) ∷ (record { group = ((codes "z") ∷ []); version = 1; place = 0; len = 37 }) ∷ []) ((codes "y") ∷ []) ≡ ((record { group = ((codes "z") ∷ []); version = 1; place = 0; len = 37 }) ∷ [])
untouched_2 = refl

takes_2 : size_told ((record { group = ((codes "x") ∷ (codes "y") ∷ []); version = 1; place = 0; len = 54 }) ∷ (record { group = ((codes "z") ∷ []); version = 1; place = 0; len = 37 }) ∷ []) ((codes "y") ∷ []) lists2 ≡ 101
unfolding in_four sixteen encode_utf8
takes_2 = refl

-- lists3: y = [x]
among_3 : classes (groups_of lists2) ((codes "x") ∷ (codes "y") ∷ []) lists3 ∷ dropped_among (groups_of lists2) (picture lists2) ((codes "x") ∷ (codes "y") ∷ []) lists3 ∷ stored_among (groups_of lists2) (picture lists2) ((codes "x") ∷ (codes "y") ∷ []) lists3 ∷ []
    ≡ (((codes "x") ∷ (codes "y") ∷ []) ∷ []) ∷ (((codes "x") ∷ []) ∷ ((codes "y") ∷ []) ∷ []) ∷ (((codes "x") ∷ (codes "y") ∷ []) ∷ []) ∷ []
among_3 = refl

touched_3 : touched (groups_of lists2) ((codes "x") ∷ (codes "y") ∷ []) lists3 ≡ ((codes "x") ∷ (codes "y") ∷ [])
touched_3 = refl

among_4 : classes (groups_of lists2) ((codes "x") ∷ (codes "y") ∷ (codes "zz") ∷ []) lists3 ∷ dropped_among (groups_of lists2) (picture lists2) ((codes "x") ∷ (codes "y") ∷ (codes "zz") ∷ []) lists3 ∷ stored_among (groups_of lists2) (picture lists2) ((codes "x") ∷ (codes "y") ∷ (codes "zz") ∷ []) lists3 ∷ []
    ≡ (((codes "x") ∷ (codes "y") ∷ []) ∷ []) ∷ (((codes "x") ∷ []) ∷ ((codes "y") ∷ []) ∷ []) ∷ (((codes "x") ∷ (codes "y") ∷ []) ∷ []) ∷ []
among_4 = refl

touched_4 : touched (groups_of lists2) ((codes "x") ∷ (codes "y") ∷ (codes "zz") ∷ []) lists3 ≡ ((codes "x") ∷ (codes "y") ∷ [])
touched_4 = refl

untouched_3 : untouched ((record { group = ((codes "x") ∷ []); version = 1; place = 0; len = 37 }) ∷ (record { group = ((codes "y") ∷ []); version = 1; place = 0; len = 27 }) ∷ (record { group = ((codes "z") ∷ []); version = 1; place = 0; len = 37 }) ∷ []) ((codes "x") ∷ (codes "y") ∷ []) ≡ ((record { group = ((codes "z") ∷ []); version = 1; place = 0; len = 37 }) ∷ [])
untouched_3 = refl

takes_3 : size_told ((record { group = ((codes "x") ∷ []); version = 1; place = 0; len = 37 }) ∷ (record { group = ((codes "y") ∷ []); version = 1; place = 0; len = 27 }) ∷ (record { group = ((codes "z") ∷ []); version = 1; place = 0; len = 37 }) ∷ []) ((codes "x") ∷ (codes "y") ∷ []) lists3 ≡ 91
unfolding in_four sixteen encode_utf8
takes_3 = refl

-- lists4: z.append(3)
among_5 : classes (groups_of lists3) ((codes "z") ∷ []) lists4 ∷ dropped_among (groups_of lists3) (picture lists3) ((codes "z") ∷ []) lists4 ∷ stored_among (groups_of lists3) (picture lists3) ((codes "z") ∷ []) lists4 ∷ []
    ≡ (((codes "z") ∷ []) ∷ []) ∷ (((codes "z") ∷ []) ∷ []) ∷ (((codes "z") ∷ []) ∷ []) ∷ []
among_5 = refl

touched_5 : touched (groups_of lists3) ((codes "z") ∷ []) lists4 ≡ ((codes "z") ∷ [])
touched_5 = refl

untouched_4 : untouched ((record { group = ((codes "x") ∷ (codes "y") ∷ []); version = 1; place = 0; len = 54 }) ∷ (record { group = ((codes "z") ∷ []); version = 1; place = 0; len = 37 }) ∷ []) ((codes "z") ∷ []) ≡ ((record { group = ((codes "x") ∷ (codes "y") ∷ []); version = 1; place = 0; len = 54 }) ∷ [])
untouched_4 = refl

takes_4 : size_told ((record { group = ((codes "x") ∷ (codes "y") ∷ []); version = 1; place = 0; len = 54 }) ∷ (record { group = ((codes "z") ∷ []); version = 1; place = 0; len = 37 }) ∷ []) ((codes "z") ∷ []) lists4 ≡ 108
unfolding in_four sixteen encode_utf8
takes_4 = refl

-- lists5: w = z
among_6 : classes (groups_of lists4) ((codes "w") ∷ (codes "z") ∷ []) lists5 ∷ dropped_among (groups_of lists4) (picture lists4) ((codes "w") ∷ (codes "z") ∷ []) lists5 ∷ stored_among (groups_of lists4) (picture lists4) ((codes "w") ∷ (codes "z") ∷ []) lists5 ∷ []
    ≡ (((codes "w") ∷ (codes "z") ∷ []) ∷ []) ∷ (((codes "z") ∷ []) ∷ []) ∷ (((codes "w") ∷ (codes "z") ∷ []) ∷ []) ∷ []
among_6 = refl

touched_6 : touched (groups_of lists4) ((codes "w") ∷ (codes "z") ∷ []) lists5 ≡ ((codes "w") ∷ (codes "z") ∷ [])
touched_6 = refl

untouched_5 : untouched ((record { group = ((codes "x") ∷ (codes "y") ∷ []); version = 1; place = 0; len = 54 }) ∷ (record { group = ((codes "z") ∷ []); version = 1; place = 0; len = 54 }) ∷ []) ((codes "w") ∷ (codes "z") ∷ []) ≡ ((record { group = ((codes "x") ∷ (codes "y") ∷ []); version = 1; place = 0; len = 54 }) ∷ [])
untouched_5 = refl

takes_5 : size_told ((record { group = ((codes "x") ∷ (codes "y") ∷ []); version = 1; place = 0; len = 54 }) ∷ (record { group = ((codes "z") ∷ []); version = 1; place = 0; len = 54 }) ∷ []) ((codes "w") ∷ (codes "z") ∷ []) lists5 ≡ 115
unfolding in_four sixteen encode_utf8
takes_5 = refl

-- lists6: del w
among_7 : classes (groups_of lists5) ((codes "w") ∷ []) lists6 ∷ dropped_among (groups_of lists5) (picture lists5) ((codes "w") ∷ []) lists6 ∷ stored_among (groups_of lists5) (picture lists5) ((codes "w") ∷ []) lists6 ∷ []
    ≡ (((codes "z") ∷ []) ∷ []) ∷ (((codes "w") ∷ (codes "z") ∷ []) ∷ []) ∷ (((codes "z") ∷ []) ∷ []) ∷ []
among_7 = refl

touched_7 : touched (groups_of lists5) ((codes "w") ∷ []) lists6 ≡ ((codes "z") ∷ [])
touched_7 = refl

among_8 : classes (groups_of lists5) ((codes "w") ∷ (codes "zz") ∷ []) lists6 ∷ dropped_among (groups_of lists5) (picture lists5) ((codes "w") ∷ (codes "zz") ∷ []) lists6 ∷ stored_among (groups_of lists5) (picture lists5) ((codes "w") ∷ (codes "zz") ∷ []) lists6 ∷ []
    ≡ (((codes "z") ∷ []) ∷ []) ∷ (((codes "w") ∷ (codes "z") ∷ []) ∷ []) ∷ (((codes "z") ∷ []) ∷ []) ∷ []
among_8 = refl

touched_8 : touched (groups_of lists5) ((codes "w") ∷ (codes "zz") ∷ []) lists6 ≡ ((codes "z") ∷ [])
touched_8 = refl

untouched_6 : untouched ((record { group = ((codes "w") ∷ (codes "z") ∷ []); version = 1; place = 0; len = 61 }) ∷ (record { group = ((codes "x") ∷ (codes "y") ∷ []); version = 1; place = 0; len = 54 }) ∷ []) ((codes "w") ∷ []) ≡ ((record { group = ((codes "x") ∷ (codes "y") ∷ []); version = 1; place = 0; len = 54 }) ∷ [])
untouched_6 = refl

takes_6 : size_told ((record { group = ((codes "w") ∷ (codes "z") ∷ []); version = 1; place = 0; len = 61 }) ∷ (record { group = ((codes "x") ∷ (codes "y") ∷ []); version = 1; place = 0; len = 54 }) ∷ []) ((codes "w") ∷ []) lists6 ≡ 108
unfolding in_four sixteen encode_utf8
takes_6 = refl

-- lists7: x, y, z
among_9 : classes (groups_of lists6) ((codes "x") ∷ (codes "y") ∷ (codes "z") ∷ []) lists7 ∷ dropped_among (groups_of lists6) (picture lists6) ((codes "x") ∷ (codes "y") ∷ (codes "z") ∷ []) lists7 ∷ stored_among (groups_of lists6) (picture lists6) ((codes "x") ∷ (codes "y") ∷ (codes "z") ∷ []) lists7 ∷ []
    ≡ (((codes "x") ∷ (codes "y") ∷ []) ∷ ((codes "z") ∷ []) ∷ []) ∷ [] ∷ [] ∷ []
among_9 = refl

touched_9 : touched (groups_of lists6) ((codes "x") ∷ (codes "y") ∷ (codes "z") ∷ []) lists7 ≡ ((codes "x") ∷ (codes "y") ∷ (codes "z") ∷ [])
touched_9 = refl

untouched_7 : untouched ((record { group = ((codes "x") ∷ (codes "y") ∷ []); version = 1; place = 0; len = 54 }) ∷ (record { group = ((codes "z") ∷ []); version = 1; place = 0; len = 54 }) ∷ []) ((codes "x") ∷ (codes "y") ∷ (codes "z") ∷ []) ≡ []
untouched_7 = refl

takes_7 : size_told ((record { group = ((codes "x") ∷ (codes "y") ∷ []); version = 1; place = 0; len = 54 }) ∷ (record { group = ((codes "z") ∷ []); version = 1; place = 0; len = 54 }) ∷ []) ((codes "x") ∷ (codes "y") ∷ (codes "z") ∷ []) lists7 ≡ 108
unfolding in_four sixteen encode_utf8
takes_7 = refl

-- lists8: x = [1], an equal list and another one
among_10 : classes (groups_of lists7) ((codes "x") ∷ []) lists8 ∷ dropped_among (groups_of lists7) (picture lists7) ((codes "x") ∷ []) lists8 ∷ stored_among (groups_of lists7) (picture lists7) ((codes "x") ∷ []) lists8 ∷ []
    ≡ (((codes "x") ∷ []) ∷ ((codes "y") ∷ []) ∷ []) ∷ (((codes "x") ∷ (codes "y") ∷ []) ∷ []) ∷ (((codes "x") ∷ []) ∷ ((codes "y") ∷ []) ∷ []) ∷ []
among_10 = refl

touched_10 : touched (groups_of lists7) ((codes "x") ∷ []) lists8 ≡ ((codes "x") ∷ (codes "y") ∷ [])
touched_10 = refl

untouched_8 : untouched ((record { group = ((codes "x") ∷ (codes "y") ∷ []); version = 1; place = 0; len = 54 }) ∷ (record { group = ((codes "z") ∷ []); version = 1; place = 0; len = 54 }) ∷ []) ((codes "x") ∷ []) ≡ ((record { group = ((codes "z") ∷ []); version = 1; place = 0; len = 54 }) ∷ [])
untouched_8 = refl

takes_8 : size_told ((record { group = ((codes "x") ∷ (codes "y") ∷ []); version = 1; place = 0; len = 54 }) ∷ (record { group = ((codes "z") ∷ []); version = 1; place = 0; len = 54 }) ∷ []) ((codes "x") ∷ []) lists8 ≡ 138
unfolding in_four sixteen encode_utf8
takes_8 = refl

-- lists9: w = 5
among_11 : classes (groups_of lists8) ((codes "w") ∷ []) lists9 ∷ dropped_among (groups_of lists8) (picture lists8) ((codes "w") ∷ []) lists9 ∷ stored_among (groups_of lists8) (picture lists8) ((codes "w") ∷ []) lists9 ∷ []
    ≡ (((codes "w") ∷ []) ∷ []) ∷ [] ∷ (((codes "w") ∷ []) ∷ []) ∷ []
among_11 = refl

touched_11 : touched (groups_of lists8) ((codes "w") ∷ []) lists9 ≡ ((codes "w") ∷ [])
touched_11 = refl

among_12 : classes (groups_of lists8) ((codes "w") ∷ (codes "zz") ∷ []) lists9 ∷ dropped_among (groups_of lists8) (picture lists8) ((codes "w") ∷ (codes "zz") ∷ []) lists9 ∷ stored_among (groups_of lists8) (picture lists8) ((codes "w") ∷ (codes "zz") ∷ []) lists9 ∷ []
    ≡ (((codes "w") ∷ []) ∷ []) ∷ [] ∷ (((codes "w") ∷ []) ∷ []) ∷ []
among_12 = refl

touched_12 : touched (groups_of lists8) ((codes "w") ∷ (codes "zz") ∷ []) lists9 ≡ ((codes "w") ∷ [])
touched_12 = refl

untouched_9 : untouched ((record { group = ((codes "x") ∷ []); version = 1; place = 0; len = 37 }) ∷ (record { group = ((codes "y") ∷ []); version = 1; place = 0; len = 47 }) ∷ (record { group = ((codes "z") ∷ []); version = 1; place = 0; len = 54 }) ∷ []) ((codes "w") ∷ []) ≡ ((record { group = ((codes "x") ∷ []); version = 1; place = 0; len = 37 }) ∷ (record { group = ((codes "y") ∷ []); version = 1; place = 0; len = 47 }) ∷ (record { group = ((codes "z") ∷ []); version = 1; place = 0; len = 54 }) ∷ [])
untouched_9 = refl

takes_9 : size_told ((record { group = ((codes "x") ∷ []); version = 1; place = 0; len = 37 }) ∷ (record { group = ((codes "y") ∷ []); version = 1; place = 0; len = 47 }) ∷ (record { group = ((codes "z") ∷ []); version = 1; place = 0; len = 54 }) ∷ []) ((codes "w") ∷ []) lists9 ≡ 165
unfolding in_four sixteen encode_utf8
takes_9 = refl

-- lists10: w = 5, as it was
among_13 : classes (groups_of lists9) ((codes "w") ∷ []) lists10 ∷ dropped_among (groups_of lists9) (picture lists9) ((codes "w") ∷ []) lists10 ∷ stored_among (groups_of lists9) (picture lists9) ((codes "w") ∷ []) lists10 ∷ []
    ≡ (((codes "w") ∷ []) ∷ []) ∷ [] ∷ [] ∷ []
among_13 = refl

touched_13 : touched (groups_of lists9) ((codes "w") ∷ []) lists10 ≡ ((codes "w") ∷ [])
touched_13 = refl

untouched_10 : untouched ((record { group = ((codes "w") ∷ []); version = 1; place = 0; len = 27 }) ∷ (record { group = ((codes "x") ∷ []); version = 1; place = 0; len = 37 }) ∷ (record { group = ((codes "y") ∷ []); version = 1; place = 0; len = 47 }) ∷ (record { group = ((codes "z") ∷ []); version = 1; place = 0; len = 54 }) ∷ []) ((codes "w") ∷ []) ≡ ((record { group = ((codes "x") ∷ []); version = 1; place = 0; len = 37 }) ∷ (record { group = ((codes "y") ∷ []); version = 1; place = 0; len = 47 }) ∷ (record { group = ((codes "z") ∷ []); version = 1; place = 0; len = 54 }) ∷ [])
untouched_10 = refl

takes_10 : size_told ((record { group = ((codes "w") ∷ []); version = 1; place = 0; len = 27 }) ∷ (record { group = ((codes "x") ∷ []); version = 1; place = 0; len = 37 }) ∷ (record { group = ((codes "y") ∷ []); version = 1; place = 0; len = 47 }) ∷ (record { group = ((codes "z") ∷ []); version = 1; place = 0; len = 54 }) ∷ []) ((codes "w") ∷ []) lists10 ≡ 165
unfolding in_four sixteen encode_utf8
takes_10 = refl

-- lists11: w = True
among_14 : classes (groups_of lists10) ((codes "w") ∷ []) lists11 ∷ dropped_among (groups_of lists10) (picture lists10) ((codes "w") ∷ []) lists11 ∷ stored_among (groups_of lists10) (picture lists10) ((codes "w") ∷ []) lists11 ∷ []
    ≡ (((codes "w") ∷ []) ∷ []) ∷ (((codes "w") ∷ []) ∷ []) ∷ (((codes "w") ∷ []) ∷ []) ∷ []
among_14 = refl

touched_14 : touched (groups_of lists10) ((codes "w") ∷ []) lists11 ≡ ((codes "w") ∷ [])
touched_14 = refl

untouched_11 : untouched ((record { group = ((codes "w") ∷ []); version = 1; place = 0; len = 27 }) ∷ (record { group = ((codes "x") ∷ []); version = 1; place = 0; len = 37 }) ∷ (record { group = ((codes "y") ∷ []); version = 1; place = 0; len = 47 }) ∷ (record { group = ((codes "z") ∷ []); version = 1; place = 0; len = 54 }) ∷ []) ((codes "w") ∷ []) ≡ ((record { group = ((codes "x") ∷ []); version = 1; place = 0; len = 37 }) ∷ (record { group = ((codes "y") ∷ []); version = 1; place = 0; len = 47 }) ∷ (record { group = ((codes "z") ∷ []); version = 1; place = 0; len = 54 }) ∷ [])
untouched_11 = refl

takes_11 : size_told ((record { group = ((codes "w") ∷ []); version = 1; place = 0; len = 27 }) ∷ (record { group = ((codes "x") ∷ []); version = 1; place = 0; len = 37 }) ∷ (record { group = ((codes "y") ∷ []); version = 1; place = 0; len = 47 }) ∷ (record { group = ((codes "z") ∷ []); version = 1; place = 0; len = 54 }) ∷ []) ((codes "w") ∷ []) lists11 ≡ 149
unfolding in_four sixteen encode_utf8
takes_11 = refl

-- lists12: del x, y, z, w
among_15 : classes (groups_of lists11) ((codes "w") ∷ (codes "x") ∷ (codes "y") ∷ (codes "z") ∷ []) lists12 ∷ dropped_among (groups_of lists11) (picture lists11) ((codes "w") ∷ (codes "x") ∷ (codes "y") ∷ (codes "z") ∷ []) lists12 ∷ stored_among (groups_of lists11) (picture lists11) ((codes "w") ∷ (codes "x") ∷ (codes "y") ∷ (codes "z") ∷ []) lists12 ∷ []
    ≡ [] ∷ (((codes "w") ∷ []) ∷ ((codes "x") ∷ []) ∷ ((codes "y") ∷ []) ∷ ((codes "z") ∷ []) ∷ []) ∷ [] ∷ []
among_15 = refl

touched_15 : touched (groups_of lists11) ((codes "w") ∷ (codes "x") ∷ (codes "y") ∷ (codes "z") ∷ []) lists12 ≡ []
touched_15 = refl

among_16 : classes (groups_of lists11) ((codes "w") ∷ (codes "x") ∷ (codes "y") ∷ (codes "z") ∷ (codes "zz") ∷ []) lists12 ∷ dropped_among (groups_of lists11) (picture lists11) ((codes "w") ∷ (codes "x") ∷ (codes "y") ∷ (codes "z") ∷ (codes "zz") ∷ []) lists12 ∷ stored_among (groups_of lists11) (picture lists11) ((codes "w") ∷ (codes "x") ∷ (codes "y") ∷ (codes "z") ∷ (codes "zz") ∷ []) lists12 ∷ []
    ≡ [] ∷ (((codes "w") ∷ []) ∷ ((codes "x") ∷ []) ∷ ((codes "y") ∷ []) ∷ ((codes "z") ∷ []) ∷ []) ∷ [] ∷ []
among_16 = refl

touched_16 : touched (groups_of lists11) ((codes "w") ∷ (codes "x") ∷ (codes "y") ∷ (codes "z") ∷ (codes "zz") ∷ []) lists12 ≡ []
touched_16 = refl

untouched_12 : untouched ((record { group = ((codes "w") ∷ []); version = 1; place = 0; len = 11 }) ∷ (record { group = ((codes "x") ∷ []); version = 1; place = 0; len = 37 }) ∷ (record { group = ((codes "y") ∷ []); version = 1; place = 0; len = 47 }) ∷ (record { group = ((codes "z") ∷ []); version = 1; place = 0; len = 54 }) ∷ []) ((codes "w") ∷ (codes "x") ∷ (codes "y") ∷ (codes "z") ∷ []) ≡ []
untouched_12 = refl

takes_12 : size_told ((record { group = ((codes "w") ∷ []); version = 1; place = 0; len = 11 }) ∷ (record { group = ((codes "x") ∷ []); version = 1; place = 0; len = 37 }) ∷ (record { group = ((codes "y") ∷ []); version = 1; place = 0; len = 47 }) ∷ (record { group = ((codes "z") ∷ []); version = 1; place = 0; len = 54 }) ∷ []) ((codes "w") ∷ (codes "x") ∷ (codes "y") ∷ (codes "z") ∷ []) lists12 ≡ 0
unfolding in_four sixteen encode_utf8
takes_12 = refl

-- lists13: the first cell again
among_17 : classes (groups_of lists12) ((codes "x") ∷ (codes "y") ∷ (codes "z") ∷ []) lists13 ∷ dropped_among (groups_of lists12) (picture lists12) ((codes "x") ∷ (codes "y") ∷ (codes "z") ∷ []) lists13 ∷ stored_among (groups_of lists12) (picture lists12) ((codes "x") ∷ (codes "y") ∷ (codes "z") ∷ []) lists13 ∷ []
    ≡ (((codes "x") ∷ (codes "y") ∷ []) ∷ ((codes "z") ∷ []) ∷ []) ∷ [] ∷ (((codes "x") ∷ (codes "y") ∷ []) ∷ ((codes "z") ∷ []) ∷ []) ∷ []
among_17 = refl

touched_17 : touched (groups_of lists12) ((codes "x") ∷ (codes "y") ∷ (codes "z") ∷ []) lists13 ≡ ((codes "x") ∷ (codes "y") ∷ (codes "z") ∷ [])
touched_17 = refl

untouched_13 : untouched [] ((codes "x") ∷ (codes "y") ∷ (codes "z") ∷ []) ≡ []
untouched_13 = refl

takes_13 : size_told [] ((codes "x") ∷ (codes "y") ∷ (codes "z") ∷ []) lists13 ≡ 91
unfolding in_four sixteen encode_utf8
takes_13 = refl

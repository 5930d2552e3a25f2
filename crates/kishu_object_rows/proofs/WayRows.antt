-- What stays, is loaded and is left from one commit to another, on a history that branches: computed on the definitions. Made by tools/rows/history_rows.py.
use Rattle.std.specs.Prelude.{◌≡◌, [], ◌∷◌, codes, refl}
use Rattle.kishu_history.specs.Versions.{kept, loaded, left}
use Rattle.kishu_object_rows.proofs.Histories.{to_lists1, to_lists4, to_lists6, to_lists8, to_lists12, to_lists13, to_ways1, to_ways2, to_ways3, to_ways5, to_ways4, to_ways6, to_ways7, to_ways8}

-- from 1 to 3
way_1 : kept to_ways1 to_ways3 ∷ loaded to_ways1 to_ways3 ∷ left to_ways1 to_ways3 ∷ []
    ≡ (((codes "c") ∷ []) ∷ []) ∷ (((codes "a") ∷ []) ∷ ((codes "b") ∷ []) ∷ []) ∷ (((codes "a") ∷ []) ∷ ((codes "b") ∷ []) ∷ []) ∷ []
way_1 = refl

-- from 1 to 5
way_2 : kept to_ways1 to_ways5 ∷ loaded to_ways1 to_ways5 ∷ left to_ways1 to_ways5 ∷ []
    ≡ [] ∷ (((codes "a") ∷ []) ∷ ((codes "b") ∷ (codes "c") ∷ []) ∷ []) ∷ (((codes "a") ∷ []) ∷ ((codes "b") ∷ []) ∷ ((codes "c") ∷ []) ∷ []) ∷ []
way_2 = refl

-- from 1 to 6
way_3 : kept to_ways1 to_ways6 ∷ loaded to_ways1 to_ways6 ∷ left to_ways1 to_ways6 ∷ []
    ≡ (((codes "c") ∷ []) ∷ []) ∷ (((codes "a") ∷ (codes "d") ∷ []) ∷ ((codes "b") ∷ []) ∷ []) ∷ (((codes "a") ∷ []) ∷ ((codes "b") ∷ []) ∷ []) ∷ []
way_3 = refl

-- from 1 to 7
way_4 : kept to_ways1 to_ways7 ∷ loaded to_ways1 to_ways7 ∷ left to_ways1 to_ways7 ∷ []
    ≡ (((codes "c") ∷ []) ∷ []) ∷ (((codes "a") ∷ []) ∷ ((codes "b") ∷ []) ∷ []) ∷ (((codes "a") ∷ []) ∷ ((codes "b") ∷ []) ∷ []) ∷ []
way_4 = refl

-- from 1 to 8
way_5 : kept to_ways1 to_ways8 ∷ loaded to_ways1 to_ways8 ∷ left to_ways1 to_ways8 ∷ []
    ≡ (((codes "a") ∷ []) ∷ ((codes "b") ∷ []) ∷ []) ∷ [] ∷ (((codes "c") ∷ []) ∷ []) ∷ []
way_5 = refl

-- from 2 to 1
way_6 : kept to_ways2 to_ways1 ∷ loaded to_ways2 to_ways1 ∷ left to_ways2 to_ways1 ∷ []
    ≡ (((codes "b") ∷ []) ∷ ((codes "c") ∷ []) ∷ []) ∷ (((codes "a") ∷ []) ∷ []) ∷ (((codes "a") ∷ []) ∷ []) ∷ []
way_6 = refl

-- from 2 to 3
way_7 : kept to_ways2 to_ways3 ∷ loaded to_ways2 to_ways3 ∷ left to_ways2 to_ways3 ∷ []
    ≡ (((codes "a") ∷ []) ∷ ((codes "c") ∷ []) ∷ []) ∷ (((codes "b") ∷ []) ∷ []) ∷ (((codes "b") ∷ []) ∷ []) ∷ []
way_7 = refl

-- from 2 to 5
way_8 : kept to_ways2 to_ways5 ∷ loaded to_ways2 to_ways5 ∷ left to_ways2 to_ways5 ∷ []
    ≡ (((codes "a") ∷ []) ∷ []) ∷ (((codes "b") ∷ (codes "c") ∷ []) ∷ []) ∷ (((codes "b") ∷ []) ∷ ((codes "c") ∷ []) ∷ []) ∷ []
way_8 = refl

-- from 2 to 6
way_9 : kept to_ways2 to_ways6 ∷ loaded to_ways2 to_ways6 ∷ left to_ways2 to_ways6 ∷ []
    ≡ (((codes "c") ∷ []) ∷ []) ∷ (((codes "a") ∷ (codes "d") ∷ []) ∷ ((codes "b") ∷ []) ∷ []) ∷ (((codes "a") ∷ []) ∷ ((codes "b") ∷ []) ∷ []) ∷ []
way_9 = refl

-- from 2 to 7
way_10 : kept to_ways2 to_ways7 ∷ loaded to_ways2 to_ways7 ∷ left to_ways2 to_ways7 ∷ []
    ≡ (((codes "c") ∷ []) ∷ []) ∷ (((codes "a") ∷ []) ∷ ((codes "b") ∷ []) ∷ []) ∷ (((codes "a") ∷ []) ∷ ((codes "b") ∷ []) ∷ []) ∷ []
way_10 = refl

-- from 2 to 8
way_11 : kept to_ways2 to_ways8 ∷ loaded to_ways2 to_ways8 ∷ left to_ways2 to_ways8 ∷ []
    ≡ (((codes "b") ∷ []) ∷ []) ∷ (((codes "a") ∷ []) ∷ []) ∷ (((codes "a") ∷ []) ∷ ((codes "c") ∷ []) ∷ []) ∷ []
way_11 = refl

-- from 3 to 1
way_12 : kept to_ways3 to_ways1 ∷ loaded to_ways3 to_ways1 ∷ left to_ways3 to_ways1 ∷ []
    ≡ (((codes "c") ∷ []) ∷ []) ∷ (((codes "a") ∷ []) ∷ ((codes "b") ∷ []) ∷ []) ∷ (((codes "a") ∷ []) ∷ ((codes "b") ∷ []) ∷ []) ∷ []
way_12 = refl

-- from 3 to 5
way_13 : kept to_ways3 to_ways5 ∷ loaded to_ways3 to_ways5 ∷ left to_ways3 to_ways5 ∷ []
    ≡ (((codes "a") ∷ []) ∷ []) ∷ (((codes "b") ∷ (codes "c") ∷ []) ∷ []) ∷ (((codes "b") ∷ []) ∷ ((codes "c") ∷ []) ∷ []) ∷ []
way_13 = refl

-- from 3 to 6
way_14 : kept to_ways3 to_ways6 ∷ loaded to_ways3 to_ways6 ∷ left to_ways3 to_ways6 ∷ []
    ≡ (((codes "c") ∷ []) ∷ []) ∷ (((codes "a") ∷ (codes "d") ∷ []) ∷ ((codes "b") ∷ []) ∷ []) ∷ (((codes "a") ∷ []) ∷ ((codes "b") ∷ []) ∷ []) ∷ []
way_14 = refl

-- from 3 to 7
way_15 : kept to_ways3 to_ways7 ∷ loaded to_ways3 to_ways7 ∷ left to_ways3 to_ways7 ∷ []
    ≡ (((codes "c") ∷ []) ∷ []) ∷ (((codes "a") ∷ []) ∷ ((codes "b") ∷ []) ∷ []) ∷ (((codes "a") ∷ []) ∷ ((codes "b") ∷ []) ∷ []) ∷ []
way_15 = refl

-- from 3 to 8
way_16 : kept to_ways3 to_ways8 ∷ loaded to_ways3 to_ways8 ∷ left to_ways3 to_ways8 ∷ []
    ≡ [] ∷ (((codes "a") ∷ []) ∷ ((codes "b") ∷ []) ∷ []) ∷ (((codes "a") ∷ []) ∷ ((codes "b") ∷ []) ∷ ((codes "c") ∷ []) ∷ []) ∷ []
way_16 = refl

-- from 5 to 1
way_17 : kept to_ways5 to_ways1 ∷ loaded to_ways5 to_ways1 ∷ left to_ways5 to_ways1 ∷ []
    ≡ [] ∷ (((codes "a") ∷ []) ∷ ((codes "b") ∷ []) ∷ ((codes "c") ∷ []) ∷ []) ∷ (((codes "a") ∷ []) ∷ ((codes "b") ∷ (codes "c") ∷ []) ∷ []) ∷ []
way_17 = refl

-- from 5 to 3
way_18 : kept to_ways5 to_ways3 ∷ loaded to_ways5 to_ways3 ∷ left to_ways5 to_ways3 ∷ []
    ≡ (((codes "a") ∷ []) ∷ []) ∷ (((codes "b") ∷ []) ∷ ((codes "c") ∷ []) ∷ []) ∷ (((codes "b") ∷ (codes "c") ∷ []) ∷ []) ∷ []
way_18 = refl

-- from 5 to 6
way_19 : kept to_ways5 to_ways6 ∷ loaded to_ways5 to_ways6 ∷ left to_ways5 to_ways6 ∷ []
    ≡ [] ∷ (((codes "a") ∷ (codes "d") ∷ []) ∷ ((codes "b") ∷ []) ∷ ((codes "c") ∷ []) ∷ []) ∷ (((codes "a") ∷ []) ∷ ((codes "b") ∷ (codes "c") ∷ []) ∷ []) ∷ []
way_19 = refl

-- from 5 to 7
way_20 : kept to_ways5 to_ways7 ∷ loaded to_ways5 to_ways7 ∷ left to_ways5 to_ways7 ∷ []
    ≡ [] ∷ (((codes "a") ∷ []) ∷ ((codes "b") ∷ []) ∷ ((codes "c") ∷ []) ∷ []) ∷ (((codes "a") ∷ []) ∷ ((codes "b") ∷ (codes "c") ∷ []) ∷ []) ∷ []
way_20 = refl

-- from 5 to 8
way_21 : kept to_ways5 to_ways8 ∷ loaded to_ways5 to_ways8 ∷ left to_ways5 to_ways8 ∷ []
    ≡ [] ∷ (((codes "a") ∷ []) ∷ ((codes "b") ∷ []) ∷ []) ∷ (((codes "a") ∷ []) ∷ ((codes "b") ∷ (codes "c") ∷ []) ∷ []) ∷ []
way_21 = refl

-- from 4 to 1
way_22 : kept to_ways4 to_ways1 ∷ loaded to_ways4 to_ways1 ∷ left to_ways4 to_ways1 ∷ []
    ≡ (((codes "c") ∷ []) ∷ []) ∷ (((codes "a") ∷ []) ∷ ((codes "b") ∷ []) ∷ []) ∷ (((codes "a") ∷ []) ∷ ((codes "b") ∷ []) ∷ []) ∷ []
way_22 = refl

-- from 4 to 3
way_23 : kept to_ways4 to_ways3 ∷ loaded to_ways4 to_ways3 ∷ left to_ways4 to_ways3 ∷ []
    ≡ (((codes "a") ∷ []) ∷ ((codes "c") ∷ []) ∷ []) ∷ (((codes "b") ∷ []) ∷ []) ∷ (((codes "b") ∷ []) ∷ []) ∷ []
way_23 = refl

-- from 4 to 5
way_24 : kept to_ways4 to_ways5 ∷ loaded to_ways4 to_ways5 ∷ left to_ways4 to_ways5 ∷ []
    ≡ (((codes "a") ∷ []) ∷ []) ∷ (((codes "b") ∷ (codes "c") ∷ []) ∷ []) ∷ (((codes "b") ∷ []) ∷ ((codes "c") ∷ []) ∷ []) ∷ []
way_24 = refl

-- from 4 to 6
way_25 : kept to_ways4 to_ways6 ∷ loaded to_ways4 to_ways6 ∷ left to_ways4 to_ways6 ∷ []
    ≡ (((codes "b") ∷ []) ∷ ((codes "c") ∷ []) ∷ []) ∷ (((codes "a") ∷ (codes "d") ∷ []) ∷ []) ∷ (((codes "a") ∷ []) ∷ []) ∷ []
way_25 = refl

-- from 4 to 7
way_26 : kept to_ways4 to_ways7 ∷ loaded to_ways4 to_ways7 ∷ left to_ways4 to_ways7 ∷ []
    ≡ (((codes "b") ∷ []) ∷ ((codes "c") ∷ []) ∷ []) ∷ (((codes "a") ∷ []) ∷ []) ∷ (((codes "a") ∷ []) ∷ []) ∷ []
way_26 = refl

-- from 4 to 8
way_27 : kept to_ways4 to_ways8 ∷ loaded to_ways4 to_ways8 ∷ left to_ways4 to_ways8 ∷ []
    ≡ [] ∷ (((codes "a") ∷ []) ∷ ((codes "b") ∷ []) ∷ []) ∷ (((codes "a") ∷ []) ∷ ((codes "b") ∷ []) ∷ ((codes "c") ∷ []) ∷ []) ∷ []
way_27 = refl

-- from 6 to 1
way_28 : kept to_ways6 to_ways1 ∷ loaded to_ways6 to_ways1 ∷ left to_ways6 to_ways1 ∷ []
    ≡ (((codes "c") ∷ []) ∷ []) ∷ (((codes "a") ∷ []) ∷ ((codes "b") ∷ []) ∷ []) ∷ (((codes "a") ∷ (codes "d") ∷ []) ∷ ((codes "b") ∷ []) ∷ []) ∷ []
way_28 = refl

-- from 6 to 3
way_29 : kept to_ways6 to_ways3 ∷ loaded to_ways6 to_ways3 ∷ left to_ways6 to_ways3 ∷ []
    ≡ (((codes "c") ∷ []) ∷ []) ∷ (((codes "a") ∷ []) ∷ ((codes "b") ∷ []) ∷ []) ∷ (((codes "a") ∷ (codes "d") ∷ []) ∷ ((codes "b") ∷ []) ∷ []) ∷ []
way_29 = refl

-- from 6 to 5
way_30 : kept to_ways6 to_ways5 ∷ loaded to_ways6 to_ways5 ∷ left to_ways6 to_ways5 ∷ []
    ≡ [] ∷ (((codes "a") ∷ []) ∷ ((codes "b") ∷ (codes "c") ∷ []) ∷ []) ∷ (((codes "a") ∷ (codes "d") ∷ []) ∷ ((codes "b") ∷ []) ∷ ((codes "c") ∷ []) ∷ []) ∷ []
way_30 = refl

-- from 6 to 7
way_31 : kept to_ways6 to_ways7 ∷ loaded to_ways6 to_ways7 ∷ left to_ways6 to_ways7 ∷ []
    ≡ (((codes "b") ∷ []) ∷ ((codes "c") ∷ []) ∷ []) ∷ (((codes "a") ∷ []) ∷ []) ∷ (((codes "a") ∷ (codes "d") ∷ []) ∷ []) ∷ []
way_31 = refl

-- from 6 to 8
way_32 : kept to_ways6 to_ways8 ∷ loaded to_ways6 to_ways8 ∷ left to_ways6 to_ways8 ∷ []
    ≡ [] ∷ (((codes "a") ∷ []) ∷ ((codes "b") ∷ []) ∷ []) ∷ (((codes "a") ∷ (codes "d") ∷ []) ∷ ((codes "b") ∷ []) ∷ ((codes "c") ∷ []) ∷ []) ∷ []
way_32 = refl

-- from 7 to 1
way_33 : kept to_ways7 to_ways1 ∷ loaded to_ways7 to_ways1 ∷ left to_ways7 to_ways1 ∷ []
    ≡ (((codes "c") ∷ []) ∷ []) ∷ (((codes "a") ∷ []) ∷ ((codes "b") ∷ []) ∷ []) ∷ (((codes "a") ∷ []) ∷ ((codes "b") ∷ []) ∷ []) ∷ []
way_33 = refl

-- from 7 to 3
way_34 : kept to_ways7 to_ways3 ∷ loaded to_ways7 to_ways3 ∷ left to_ways7 to_ways3 ∷ []
    ≡ (((codes "c") ∷ []) ∷ []) ∷ (((codes "a") ∷ []) ∷ ((codes "b") ∷ []) ∷ []) ∷ (((codes "a") ∷ []) ∷ ((codes "b") ∷ []) ∷ []) ∷ []
way_34 = refl

-- from 7 to 5
way_35 : kept to_ways7 to_ways5 ∷ loaded to_ways7 to_ways5 ∷ left to_ways7 to_ways5 ∷ []
    ≡ [] ∷ (((codes "a") ∷ []) ∷ ((codes "b") ∷ (codes "c") ∷ []) ∷ []) ∷ (((codes "a") ∷ []) ∷ ((codes "b") ∷ []) ∷ ((codes "c") ∷ []) ∷ []) ∷ []
way_35 = refl

-- from 7 to 6
way_36 : kept to_ways7 to_ways6 ∷ loaded to_ways7 to_ways6 ∷ left to_ways7 to_ways6 ∷ []
    ≡ (((codes "b") ∷ []) ∷ ((codes "c") ∷ []) ∷ []) ∷ (((codes "a") ∷ (codes "d") ∷ []) ∷ []) ∷ (((codes "a") ∷ []) ∷ []) ∷ []
way_36 = refl

-- from 7 to 8
way_37 : kept to_ways7 to_ways8 ∷ loaded to_ways7 to_ways8 ∷ left to_ways7 to_ways8 ∷ []
    ≡ [] ∷ (((codes "a") ∷ []) ∷ ((codes "b") ∷ []) ∷ []) ∷ (((codes "a") ∷ []) ∷ ((codes "b") ∷ []) ∷ ((codes "c") ∷ []) ∷ []) ∷ []
way_37 = refl

-- from 8 to 1
way_38 : kept to_ways8 to_ways1 ∷ loaded to_ways8 to_ways1 ∷ left to_ways8 to_ways1 ∷ []
    ≡ (((codes "a") ∷ []) ∷ ((codes "b") ∷ []) ∷ []) ∷ (((codes "c") ∷ []) ∷ []) ∷ [] ∷ []
way_38 = refl

-- from 8 to 3
way_39 : kept to_ways8 to_ways3 ∷ loaded to_ways8 to_ways3 ∷ left to_ways8 to_ways3 ∷ []
    ≡ [] ∷ (((codes "a") ∷ []) ∷ ((codes "b") ∷ []) ∷ ((codes "c") ∷ []) ∷ []) ∷ (((codes "a") ∷ []) ∷ ((codes "b") ∷ []) ∷ []) ∷ []
way_39 = refl

-- from 8 to 5
way_40 : kept to_ways8 to_ways5 ∷ loaded to_ways8 to_ways5 ∷ left to_ways8 to_ways5 ∷ []
    ≡ [] ∷ (((codes "a") ∷ []) ∷ ((codes "b") ∷ (codes "c") ∷ []) ∷ []) ∷ (((codes "a") ∷ []) ∷ ((codes "b") ∷ []) ∷ []) ∷ []
way_40 = refl

-- from 8 to 6
way_41 : kept to_ways8 to_ways6 ∷ loaded to_ways8 to_ways6 ∷ left to_ways8 to_ways6 ∷ []
    ≡ [] ∷ (((codes "a") ∷ (codes "d") ∷ []) ∷ ((codes "b") ∷ []) ∷ ((codes "c") ∷ []) ∷ []) ∷ (((codes "a") ∷ []) ∷ ((codes "b") ∷ []) ∷ []) ∷ []
way_41 = refl

-- from 8 to 7
way_42 : kept to_ways8 to_ways7 ∷ loaded to_ways8 to_ways7 ∷ left to_ways8 to_ways7 ∷ []
    ≡ [] ∷ (((codes "a") ∷ []) ∷ ((codes "b") ∷ []) ∷ ((codes "c") ∷ []) ∷ []) ∷ (((codes "a") ∷ []) ∷ ((codes "b") ∷ []) ∷ []) ∷ []
way_42 = refl

-- from 3 to the root, and back
way_43 : kept to_ways3 [] ∷ loaded to_ways3 [] ∷ left to_ways3 [] ∷ kept [] to_ways3 ∷ loaded [] to_ways3 ∷ left [] to_ways3 ∷ []
    ≡ [] ∷ [] ∷ (((codes "a") ∷ []) ∷ ((codes "b") ∷ []) ∷ ((codes "c") ∷ []) ∷ []) ∷ [] ∷ (((codes "a") ∷ []) ∷ ((codes "b") ∷ []) ∷ ((codes "c") ∷ []) ∷ []) ∷ [] ∷ []
way_43 = refl

-- from 8 to the root, and back
way_44 : kept to_ways8 [] ∷ loaded to_ways8 [] ∷ left to_ways8 [] ∷ kept [] to_ways8 ∷ loaded [] to_ways8 ∷ left [] to_ways8 ∷ []
    ≡ [] ∷ [] ∷ (((codes "a") ∷ []) ∷ ((codes "b") ∷ []) ∷ []) ∷ [] ∷ (((codes "a") ∷ []) ∷ ((codes "b") ∷ []) ∷ []) ∷ [] ∷ []
way_44 = refl

-- along one way, from 8 to 1
way_45 : kept to_lists8 to_lists1 ∷ loaded to_lists8 to_lists1 ∷ left to_lists8 to_lists1 ∷ []
    ≡ [] ∷ (((codes "x") ∷ (codes "y") ∷ []) ∷ ((codes "z") ∷ []) ∷ []) ∷ (((codes "x") ∷ []) ∷ ((codes "y") ∷ []) ∷ ((codes "z") ∷ []) ∷ []) ∷ []
way_45 = refl

-- along one way, from 13 to 1
way_46 : kept to_lists13 to_lists1 ∷ loaded to_lists13 to_lists1 ∷ left to_lists13 to_lists1 ∷ []
    ≡ [] ∷ (((codes "x") ∷ (codes "y") ∷ []) ∷ ((codes "z") ∷ []) ∷ []) ∷ (((codes "x") ∷ (codes "y") ∷ []) ∷ ((codes "z") ∷ []) ∷ []) ∷ []
way_46 = refl

-- along one way, from 6 to 4
way_47 : kept to_lists6 to_lists4 ∷ loaded to_lists6 to_lists4 ∷ left to_lists6 to_lists4 ∷ []
    ≡ (((codes "x") ∷ (codes "y") ∷ []) ∷ []) ∷ (((codes "z") ∷ []) ∷ []) ∷ (((codes "z") ∷ []) ∷ []) ∷ []
way_47 = refl

-- along one way, from 12 to 8
way_48 : kept to_lists12 to_lists8 ∷ loaded to_lists12 to_lists8 ∷ left to_lists12 to_lists8 ∷ []
    ≡ [] ∷ (((codes "x") ∷ []) ∷ ((codes "y") ∷ []) ∷ ((codes "z") ∷ []) ∷ []) ∷ [] ∷ []
way_48 = refl

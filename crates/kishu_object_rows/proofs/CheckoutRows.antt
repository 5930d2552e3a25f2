-- What a checkout keeps, loads and drops by two tables, and the state that it leaves: computed on the definitions. Made by tools/rows/checkout_rows.py.
use Rattle.std.specs.Prelude.{◌≡◌, true, false, [], ◌∷◌, codes, refl}
use Rattle.kishu_history.specs.Tables.{Table}
use Rattle.kishu_history.specs.Checkout.{agree, to_keep, to_load, to_drop}

-- ---- two rows agree by their groups and versions, wherever they stand

agree_1 : agree (record { group = ((codes "a") ∷ (codes "b") ∷ []); version = 3; place = 50; len = 9 }) (record { group = ((codes "a") ∷ (codes "b") ∷ []); version = 3; place = 50; len = 9 }) ∷ agree (record { group = ((codes "a") ∷ (codes "b") ∷ []); version = 3; place = 50; len = 9 }) (record { group = ((codes "a") ∷ (codes "b") ∷ []); version = 3; place = 60; len = 8 }) ∷ agree (record { group = ((codes "a") ∷ (codes "b") ∷ []); version = 3; place = 50; len = 9 }) (record { group = ((codes "a") ∷ (codes "b") ∷ []); version = 2; place = 50; len = 9 }) ∷ agree (record { group = ((codes "a") ∷ (codes "b") ∷ []); version = 3; place = 50; len = 9 }) (record { group = ((codes "a") ∷ (codes "b") ∷ []); version = 4; place = 50; len = 9 }) ∷ agree (record { group = ((codes "a") ∷ (codes "b") ∷ []); version = 3; place = 50; len = 9 }) (record { group = ((codes "a") ∷ []); version = 3; place = 50; len = 9 }) ∷ agree (record { group = ((codes "a") ∷ (codes "b") ∷ []); version = 3; place = 50; len = 9 }) (record { group = ((codes "b") ∷ []); version = 3; place = 50; len = 9 }) ∷ agree (record { group = ((codes "a") ∷ (codes "b") ∷ []); version = 3; place = 50; len = 9 }) (record { group = ((codes "a") ∷ (codes "b") ∷ (codes "c") ∷ []); version = 3; place = 50; len = 9 }) ∷ agree (record { group = ((codes "a") ∷ (codes "b") ∷ []); version = 3; place = 50; len = 9 }) (record { group = ((codes "a") ∷ (codes "c") ∷ []); version = 3; place = 50; len = 9 }) ∷ agree (record { group = ((codes "a") ∷ (codes "b") ∷ []); version = 3; place = 50; len = 9 }) (record { group = []; version = 3; place = 50; len = 9 }) ∷ []
    ≡ true ∷ true ∷ false ∷ false ∷ false ∷ false ∷ false ∷ false ∷ false ∷ []
agree_1 = refl

-- ---- from one table to another

abbrev table1 : Table
table1 = (record { group = ((codes "a") ∷ []); version = 1; place = 10700; len = 37 }) ∷ (record { group = ((codes "b") ∷ []); version = 1; place = 10800; len = 37 }) ∷ (record { group = ((codes "c") ∷ []); version = 1; place = 10900; len = 37 }) ∷ []

abbrev table2 : Table
table2 = (record { group = ((codes "a") ∷ []); version = 2; place = 11700; len = 54 }) ∷ (record { group = ((codes "b") ∷ []); version = 1; place = 10800; len = 37 }) ∷ (record { group = ((codes "c") ∷ []); version = 1; place = 10900; len = 37 }) ∷ []

abbrev table3 : Table
table3 = (record { group = ((codes "a") ∷ []); version = 2; place = 11700; len = 54 }) ∷ (record { group = ((codes "b") ∷ []); version = 3; place = 12800; len = 54 }) ∷ (record { group = ((codes "c") ∷ []); version = 1; place = 10900; len = 37 }) ∷ []

abbrev table4 : Table
table4 = (record { group = ((codes "a") ∷ []); version = 2; place = 11700; len = 54 }) ∷ (record { group = ((codes "b") ∷ []); version = 4; place = 13800; len = 54 }) ∷ (record { group = ((codes "c") ∷ []); version = 1; place = 10900; len = 37 }) ∷ []

abbrev table5 : Table
table5 = (record { group = ((codes "a") ∷ []); version = 2; place = 11700; len = 54 }) ∷ (record { group = ((codes "b") ∷ (codes "c") ∷ []); version = 5; place = 14800; len = 88 }) ∷ []

abbrev table6 : Table
table6 = (record { group = ((codes "a") ∷ (codes "d") ∷ []); version = 6; place = 15700; len = 61 }) ∷ (record { group = ((codes "b") ∷ []); version = 4; place = 13800; len = 54 }) ∷ (record { group = ((codes "c") ∷ []); version = 1; place = 10900; len = 37 }) ∷ []

abbrev table7 : Table
table7 = (record { group = ((codes "a") ∷ []); version = 7; place = 16700; len = 54 }) ∷ (record { group = ((codes "b") ∷ []); version = 4; place = 13800; len = 54 }) ∷ (record { group = ((codes "c") ∷ []); version = 1; place = 10900; len = 37 }) ∷ []

abbrev table8 : Table
table8 = (record { group = ((codes "a") ∷ []); version = 1; place = 10700; len = 37 }) ∷ (record { group = ((codes "b") ∷ []); version = 1; place = 10800; len = 37 }) ∷ []

-- from 1 to 3
tables_1 : to_keep table1 table3 ∷ to_load table1 table3 ∷ []
    ≡ ((record { group = ((codes "c") ∷ []); version = 1; place = 10900; len = 37 }) ∷ []) ∷ ((record { group = ((codes "a") ∷ []); version = 2; place = 11700; len = 54 }) ∷ (record { group = ((codes "b") ∷ []); version = 3; place = 12800; len = 54 }) ∷ []) ∷ []
tables_1 = refl

drops_1 : to_drop table1 table3 ≡ (((codes "a") ∷ []) ∷ ((codes "b") ∷ []) ∷ [])
drops_1 = refl

-- from 1 to 5
tables_2 : to_keep table1 table5 ∷ to_load table1 table5 ∷ []
    ≡ [] ∷ ((record { group = ((codes "a") ∷ []); version = 2; place = 11700; len = 54 }) ∷ (record { group = ((codes "b") ∷ (codes "c") ∷ []); version = 5; place = 14800; len = 88 }) ∷ []) ∷ []
tables_2 = refl

drops_2 : to_drop table1 table5 ≡ (((codes "a") ∷ []) ∷ ((codes "b") ∷ []) ∷ ((codes "c") ∷ []) ∷ [])
drops_2 = refl

-- from 1 to 6
tables_3 : to_keep table1 table6 ∷ to_load table1 table6 ∷ []
    ≡ ((record { group = ((codes "c") ∷ []); version = 1; place = 10900; len = 37 }) ∷ []) ∷ ((record { group = ((codes "a") ∷ (codes "d") ∷ []); version = 6; place = 15700; len = 61 }) ∷ (record { group = ((codes "b") ∷ []); version = 4; place = 13800; len = 54 }) ∷ []) ∷ []
tables_3 = refl

drops_3 : to_drop table1 table6 ≡ (((codes "a") ∷ []) ∷ ((codes "b") ∷ []) ∷ [])
drops_3 = refl

-- from 1 to 7
tables_4 : to_keep table1 table7 ∷ to_load table1 table7 ∷ []
    ≡ ((record { group = ((codes "c") ∷ []); version = 1; place = 10900; len = 37 }) ∷ []) ∷ ((record { group = ((codes "a") ∷ []); version = 7; place = 16700; len = 54 }) ∷ (record { group = ((codes "b") ∷ []); version = 4; place = 13800; len = 54 }) ∷ []) ∷ []
tables_4 = refl

drops_4 : to_drop table1 table7 ≡ (((codes "a") ∷ []) ∷ ((codes "b") ∷ []) ∷ [])
drops_4 = refl

-- from 1 to 8
tables_5 : to_keep table1 table8 ∷ to_load table1 table8 ∷ []
    ≡ ((record { group = ((codes "a") ∷ []); version = 1; place = 10700; len = 37 }) ∷ (record { group = ((codes "b") ∷ []); version = 1; place = 10800; len = 37 }) ∷ []) ∷ [] ∷ []
tables_5 = refl

drops_5 : to_drop table1 table8 ≡ (((codes "c") ∷ []) ∷ [])
drops_5 = refl

-- from 2 to 1
tables_6 : to_keep table2 table1 ∷ to_load table2 table1 ∷ []
    ≡ ((record { group = ((codes "b") ∷ []); version = 1; place = 10800; len = 37 }) ∷ (record { group = ((codes "c") ∷ []); version = 1; place = 10900; len = 37 }) ∷ []) ∷ ((record { group = ((codes "a") ∷ []); version = 1; place = 10700; len = 37 }) ∷ []) ∷ []
tables_6 = refl

drops_6 : to_drop table2 table1 ≡ (((codes "a") ∷ []) ∷ [])
drops_6 = refl

-- from 2 to 3
tables_7 : to_keep table2 table3 ∷ to_load table2 table3 ∷ []
    ≡ ((record { group = ((codes "a") ∷ []); version = 2; place = 11700; len = 54 }) ∷ (record { group = ((codes "c") ∷ []); version = 1; place = 10900; len = 37 }) ∷ []) ∷ ((record { group = ((codes "b") ∷ []); version = 3; place = 12800; len = 54 }) ∷ []) ∷ []
tables_7 = refl

drops_7 : to_drop table2 table3 ≡ (((codes "b") ∷ []) ∷ [])
drops_7 = refl

-- from 2 to 5
tables_8 : to_keep table2 table5 ∷ to_load table2 table5 ∷ []
    ≡ ((record { group = ((codes "a") ∷ []); version = 2; place = 11700; len = 54 }) ∷ []) ∷ ((record { group = ((codes "b") ∷ (codes "c") ∷ []); version = 5; place = 14800; len = 88 }) ∷ []) ∷ []
tables_8 = refl

drops_8 : to_drop table2 table5 ≡ (((codes "b") ∷ []) ∷ ((codes "c") ∷ []) ∷ [])
drops_8 = refl

-- from 2 to 6
tables_9 : to_keep table2 table6 ∷ to_load table2 table6 ∷ []
    ≡ ((record { group = ((codes "c") ∷ []); version = 1; place = 10900; len = 37 }) ∷ []) ∷ ((record { group = ((codes "a") ∷ (codes "d") ∷ []); version = 6; place = 15700; len = 61 }) ∷ (record { group = ((codes "b") ∷ []); version = 4; place = 13800; len = 54 }) ∷ []) ∷ []
tables_9 = refl

drops_9 : to_drop table2 table6 ≡ (((codes "a") ∷ []) ∷ ((codes "b") ∷ []) ∷ [])
drops_9 = refl

-- from 2 to 7
tables_10 : to_keep table2 table7 ∷ to_load table2 table7 ∷ []
    ≡ ((record { group = ((codes "c") ∷ []); version = 1; place = 10900; len = 37 }) ∷ []) ∷ ((record { group = ((codes "a") ∷ []); version = 7; place = 16700; len = 54 }) ∷ (record { group = ((codes "b") ∷ []); version = 4; place = 13800; len = 54 }) ∷ []) ∷ []
tables_10 = refl

drops_10 : to_drop table2 table7 ≡ (((codes "a") ∷ []) ∷ ((codes "b") ∷ []) ∷ [])
drops_10 = refl

-- from 2 to 8
tables_11 : to_keep table2 table8 ∷ to_load table2 table8 ∷ []
    ≡ ((record { group = ((codes "b") ∷ []); version = 1; place = 10800; len = 37 }) ∷ []) ∷ ((record { group = ((codes "a") ∷ []); version = 1; place = 10700; len = 37 }) ∷ []) ∷ []
tables_11 = refl

drops_11 : to_drop table2 table8 ≡ (((codes "a") ∷ []) ∷ ((codes "c") ∷ []) ∷ [])
drops_11 = refl

-- from 3 to 1
tables_12 : to_keep table3 table1 ∷ to_load table3 table1 ∷ []
    ≡ ((record { group = ((codes "c") ∷ []); version = 1; place = 10900; len = 37 }) ∷ []) ∷ ((record { group = ((codes "a") ∷ []); version = 1; place = 10700; len = 37 }) ∷ (record { group = ((codes "b") ∷ []); version = 1; place = 10800; len = 37 }) ∷ []) ∷ []
tables_12 = refl

drops_12 : to_drop table3 table1 ≡ (((codes "a") ∷ []) ∷ ((codes "b") ∷ []) ∷ [])
drops_12 = refl

-- from 3 to 5
tables_13 : to_keep table3 table5 ∷ to_load table3 table5 ∷ []
    ≡ ((record { group = ((codes "a") ∷ []); version = 2; place = 11700; len = 54 }) ∷ []) ∷ ((record { group = ((codes "b") ∷ (codes "c") ∷ []); version = 5; place = 14800; len = 88 }) ∷ []) ∷ []
tables_13 = refl

drops_13 : to_drop table3 table5 ≡ (((codes "b") ∷ []) ∷ ((codes "c") ∷ []) ∷ [])
drops_13 = refl

-- from 3 to 6
tables_14 : to_keep table3 table6 ∷ to_load table3 table6 ∷ []
    ≡ ((record { group = ((codes "c") ∷ []); version = 1; place = 10900; len = 37 }) ∷ []) ∷ ((record { group = ((codes "a") ∷ (codes "d") ∷ []); version = 6; place = 15700; len = 61 }) ∷ (record { group = ((codes "b") ∷ []); version = 4; place = 13800; len = 54 }) ∷ []) ∷ []
tables_14 = refl

drops_14 : to_drop table3 table6 ≡ (((codes "a") ∷ []) ∷ ((codes "b") ∷ []) ∷ [])
drops_14 = refl

-- from 3 to 7
tables_15 : to_keep table3 table7 ∷ to_load table3 table7 ∷ []
    ≡ ((record { group = ((codes "c") ∷ []); version = 1; place = 10900; len = 37 }) ∷ []) ∷ ((record { group = ((codes "a") ∷ []); version = 7; place = 16700; len = 54 }) ∷ (record { group = ((codes "b") ∷ []); version = 4; place = 13800; len = 54 }) ∷ []) ∷ []
tables_15 = refl

drops_15 : to_drop table3 table7 ≡ (((codes "a") ∷ []) ∷ ((codes "b") ∷ []) ∷ [])
drops_15 = refl

-- from 3 to 8
tables_16 : to_keep table3 table8 ∷ to_load table3 table8 ∷ []
    ≡ [] ∷ ((record { group = ((codes "a") ∷ []); version = 1; place = 10700; len = 37 }) ∷ (record { group = ((codes "b") ∷ []); version = 1; place = 10800; len = 37 }) ∷ []) ∷ []
tables_16 = refl

drops_16 : to_drop table3 table8 ≡ (((codes "a") ∷ []) ∷ ((codes "b") ∷ []) ∷ ((codes "c") ∷ []) ∷ [])
drops_16 = refl

-- from 5 to 1
tables_17 : to_keep table5 table1 ∷ to_load table5 table1 ∷ []
    ≡ [] ∷ ((record { group = ((codes "a") ∷ []); version = 1; place = 10700; len = 37 }) ∷ (record { group = ((codes "b") ∷ []); version = 1; place = 10800; len = 37 }) ∷ (record { group = ((codes "c") ∷ []); version = 1; place = 10900; len = 37 }) ∷ []) ∷ []
tables_17 = refl

drops_17 : to_drop table5 table1 ≡ (((codes "a") ∷ []) ∷ ((codes "b") ∷ (codes "c") ∷ []) ∷ [])
drops_17 = refl

-- from 5 to 3
tables_18 : to_keep table5 table3 ∷ to_load table5 table3 ∷ []
    ≡ ((record { group = ((codes "a") ∷ []); version = 2; place = 11700; len = 54 }) ∷ []) ∷ ((record { group = ((codes "b") ∷ []); version = 3; place = 12800; len = 54 }) ∷ (record { group = ((codes "c") ∷ []); version = 1; place = 10900; len = 37 }) ∷ []) ∷ []
tables_18 = refl

drops_18 : to_drop table5 table3 ≡ (((codes "b") ∷ (codes "c") ∷ []) ∷ [])
drops_18 = refl

-- from 5 to 6
tables_19 : to_keep table5 table6 ∷ to_load table5 table6 ∷ []
    ≡ [] ∷ ((record { group = ((codes "a") ∷ (codes "d") ∷ []); version = 6; place = 15700; len = 61 }) ∷ (record { group = ((codes "b") ∷ []); version = 4; place = 13800; len = 54 }) ∷ (record { group = ((codes "c") ∷ []); version = 1; place = 10900; len = 37 }) ∷ []) ∷ []
tables_19 = refl

drops_19 : to_drop table5 table6 ≡ (((codes "a") ∷ []) ∷ ((codes "b") ∷ (codes "c") ∷ []) ∷ [])
drops_19 = refl

-- from 5 to 7
tables_20 : to_keep table5 table7 ∷ to_load table5 table7 ∷ []
    ≡ [] ∷ ((record { group = ((codes "a") ∷ []); version = 7; place = 16700; len = 54 }) ∷ (record { group = ((codes "b") ∷ []); version = 4; place = 13800; len = 54 }) ∷ (record { group = ((codes "c") ∷ []); version = 1; place = 10900; len = 37 }) ∷ []) ∷ []
tables_20 = refl

drops_20 : to_drop table5 table7 ≡ (((codes "a") ∷ []) ∷ ((codes "b") ∷ (codes "c") ∷ []) ∷ [])
drops_20 = refl

-- from 5 to 8
tables_21 : to_keep table5 table8 ∷ to_load table5 table8 ∷ []
    ≡ [] ∷ ((record { group = ((codes "a") ∷ []); version = 1; place = 10700; len = 37 }) ∷ (record { group = ((codes "b") ∷ []); version = 1; place = 10800; len = 37 }) ∷ []) ∷ []
tables_21 = refl

drops_21 : to_drop table5 table8 ≡ (((codes "a") ∷ []) ∷ ((codes "b") ∷ (codes "c") ∷ []) ∷ [])
drops_21 = refl

-- from 4 to 1
tables_22 : to_keep table4 table1 ∷ to_load table4 table1 ∷ []
    ≡ ((record { group = ((codes "c") ∷ []); version = 1; place = 10900; len = 37 }) ∷ []) ∷ ((record { group = ((codes "a") ∷ []); version = 1; place = 10700; len = 37 }) ∷ (record { group = ((codes "b") ∷ []); version = 1; place = 10800; len = 37 }) ∷ []) ∷ []
tables_22 = refl

drops_22 : to_drop table4 table1 ≡ (((codes "a") ∷ []) ∷ ((codes "b") ∷ []) ∷ [])
drops_22 = refl

-- from 4 to 3
tables_23 : to_keep table4 table3 ∷ to_load table4 table3 ∷ []
    ≡ ((record { group = ((codes "a") ∷ []); version = 2; place = 11700; len = 54 }) ∷ (record { group = ((codes "c") ∷ []); version = 1; place = 10900; len = 37 }) ∷ []) ∷ ((record { group = ((codes "b") ∷ []); version = 3; place = 12800; len = 54 }) ∷ []) ∷ []
tables_23 = refl

drops_23 : to_drop table4 table3 ≡ (((codes "b") ∷ []) ∷ [])
drops_23 = refl

-- from 4 to 5
tables_24 : to_keep table4 table5 ∷ to_load table4 table5 ∷ []
    ≡ ((record { group = ((codes "a") ∷ []); version = 2; place = 11700; len = 54 }) ∷ []) ∷ ((record { group = ((codes "b") ∷ (codes "c") ∷ []); version = 5; place = 14800; len = 88 }) ∷ []) ∷ []
tables_24 = refl

drops_24 : to_drop table4 table5 ≡ (((codes "b") ∷ []) ∷ ((codes "c") ∷ []) ∷ [])
drops_24 = refl

-- from 4 to 6
tables_25 : to_keep table4 table6 ∷ to_load table4 table6 ∷ []
    ≡ ((record { group = ((codes "b") ∷ []); version = 4; place = 13800; len = 54 }) ∷ (record { group = ((codes "c") ∷ []); version = 1; place = 10900; len = 37 }) ∷ []) ∷ ((record { group = ((codes "a") ∷ (codes "d") ∷ []); version = 6; place = 15700; len = 61 }) ∷ []) ∷ []
tables_25 = refl

drops_25 : to_drop table4 table6 ≡ (((codes "a") ∷ []) ∷ [])
drops_25 = refl

-- from 4 to 7
tables_26 : to_keep table4 table7 ∷ to_load table4 table7 ∷ []
    ≡ ((record { group = ((codes "b") ∷ []); version = 4; place = 13800; len = 54 }) ∷ (record { group = ((codes "c") ∷ []); version = 1; place = 10900; len = 37 }) ∷ []) ∷ ((record { group = ((codes "a") ∷ []); version = 7; place = 16700; len = 54 }) ∷ []) ∷ []
tables_26 = refl

drops_26 : to_drop table4 table7 ≡ (((codes "a") ∷ []) ∷ [])
drops_26 = refl

-- from 4 to 8
tables_27 : to_keep table4 table8 ∷ to_load table4 table8 ∷ []
    ≡ [] ∷ ((record { group = ((codes "a") ∷ []); version = 1; place = 10700; len = 37 }) ∷ (record { group = ((codes "b") ∷ []); version = 1; place = 10800; len = 37 }) ∷ []) ∷ []
tables_27 = refl

drops_27 : to_drop table4 table8 ≡ (((codes "a") ∷ []) ∷ ((codes "b") ∷ []) ∷ ((codes "c") ∷ []) ∷ [])
drops_27 = refl

-- from 6 to 1
tables_28 : to_keep table6 table1 ∷ to_load table6 table1 ∷ []
    ≡ ((record { group = ((codes "c") ∷ []); version = 1; place = 10900; len = 37 }) ∷ []) ∷ ((record { group = ((codes "a") ∷ []); version = 1; place = 10700; len = 37 }) ∷ (record { group = ((codes "b") ∷ []); version = 1; place = 10800; len = 37 }) ∷ []) ∷ []
tables_28 = refl

drops_28 : to_drop table6 table1 ≡ (((codes "a") ∷ (codes "d") ∷ []) ∷ ((codes "b") ∷ []) ∷ [])
drops_28 = refl

-- from 6 to 3
tables_29 : to_keep table6 table3 ∷ to_load table6 table3 ∷ []
    ≡ ((record { group = ((codes "c") ∷ []); version = 1; place = 10900; len = 37 }) ∷ []) ∷ ((record { group = ((codes "a") ∷ []); version = 2; place = 11700; len = 54 }) ∷ (record { group = ((codes "b") ∷ []); version = 3; place = 12800; len = 54 }) ∷ []) ∷ []
tables_29 = refl

drops_29 : to_drop table6 table3 ≡ (((codes "a") ∷ (codes "d") ∷ []) ∷ ((codes "b") ∷ []) ∷ [])
drops_29 = refl

-- from 6 to 5
tables_30 : to_keep table6 table5 ∷ to_load table6 table5 ∷ []
    ≡ [] ∷ ((record { group = ((codes "a") ∷ []); version = 2; place = 11700; len = 54 }) ∷ (record { group = ((codes "b") ∷ (codes "c") ∷ []); version = 5; place = 14800; len = 88 }) ∷ []) ∷ []
tables_30 = refl

drops_30 : to_drop table6 table5 ≡ (((codes "a") ∷ (codes "d") ∷ []) ∷ ((codes "b") ∷ []) ∷ ((codes "c") ∷ []) ∷ [])
drops_30 = refl

-- from 6 to 7
tables_31 : to_keep table6 table7 ∷ to_load table6 table7 ∷ []
    ≡ ((record { group = ((codes "b") ∷ []); version = 4; place = 13800; len = 54 }) ∷ (record { group = ((codes "c") ∷ []); version = 1; place = 10900; len = 37 }) ∷ []) ∷ ((record { group = ((codes "a") ∷ []); version = 7; place = 16700; len = 54 }) ∷ []) ∷ []
tables_31 = refl

drops_31 : to_drop table6 table7 ≡ (((codes "a") ∷ (codes "d") ∷ []) ∷ [])
drops_31 = refl

-- from 6 to 8
tables_32 : to_keep table6 table8 ∷ to_load table6 table8 ∷ []
    ≡ [] ∷ ((record { group = ((codes "a") ∷ []); version = 1; place = 10700; len = 37 }) ∷ (record { group = ((codes "b") ∷ []); version = 1; place = 10800; len = 37 }) ∷ []) ∷ []
tables_32 = refl

drops_32 : to_drop table6 table8 ≡ (((codes "a") ∷ (codes "d") ∷ []) ∷ ((codes "b") ∷ []) ∷ ((codes "c") ∷ []) ∷ [])
drops_32 = refl

-- from 7 to 1
tables_33 : to_keep table7 table1 ∷ to_load table7 table1 ∷ []
    ≡ ((record { group = ((codes "c") ∷ []); version = 1; place = 10900; len = 37 }) ∷ []) ∷ ((record { group = ((codes "a") ∷ []); version = 1; place = 10700; len = 37 }) ∷ (record { group = ((codes "b") ∷ []); version = 1; place = 10800; len = 37 }) ∷ []) ∷ []
tables_33 = refl

drops_33 : to_drop table7 table1 ≡ (((codes "a") ∷ []) ∷ ((codes "b") ∷ []) ∷ [])
drops_33 = refl

-- from 7 to 3
tables_34 : to_keep table7 table3 ∷ to_load table7 table3 ∷ []
    ≡ ((record { group = ((codes "c") ∷ []); version = 1; place = 10900; len = 37 }) ∷ []) ∷ ((record { group = ((codes "a") ∷ []); version = 2; place = 11700; len = 54 }) ∷ (record { group = ((codes "b") ∷ []); version = 3; place = 12800; len = 54 }) ∷ []) ∷ []
tables_34 = refl

drops_34 : to_drop table7 table3 ≡ (((codes "a") ∷ []) ∷ ((codes "b") ∷ []) ∷ [])
drops_34 = refl

-- from 7 to 5
tables_35 : to_keep table7 table5 ∷ to_load table7 table5 ∷ []
    ≡ [] ∷ ((record { group = ((codes "a") ∷ []); version = 2; place = 11700; len = 54 }) ∷ (record { group = ((codes "b") ∷ (codes "c") ∷ []); version = 5; place = 14800; len = 88 }) ∷ []) ∷ []
tables_35 = refl

drops_35 : to_drop table7 table5 ≡ (((codes "a") ∷ []) ∷ ((codes "b") ∷ []) ∷ ((codes "c") ∷ []) ∷ [])
drops_35 = refl

-- from 7 to 6
tables_36 : to_keep table7 table6 ∷ to_load table7 table6 ∷ []
    ≡ ((record { group = ((codes "b") ∷ []); version = 4; place = 13800; len = 54 }) ∷ (record { group = ((codes "c") ∷ []); version = 1; place = 10900; len = 37 }) ∷ []) ∷ ((record { group = ((codes "a") ∷ (codes "d") ∷ []); version = 6; place = 15700; len = 61 }) ∷ []) ∷ []
tables_36 = refl

drops_36 : to_drop table7 table6 ≡ (((codes "a") ∷ []) ∷ [])
drops_36 = refl

-- from 7 to 8
tables_37 : to_keep table7 table8 ∷ to_load table7 table8 ∷ []
    ≡ [] ∷ ((record { group = ((codes "a") ∷ []); version = 1; place = 10700; len = 37 }) ∷ (record { group = ((codes "b") ∷ []); version = 1; place = 10800; len = 37 }) ∷ []) ∷ []
tables_37 = refl

drops_37 : to_drop table7 table8 ≡ (((codes "a") ∷ []) ∷ ((codes "b") ∷ []) ∷ ((codes "c") ∷ []) ∷ [])
drops_37 = refl

-- from 8 to 1
tables_38 : to_keep table8 table1 ∷ to_load table8 table1 ∷ []
    ≡ ((record { group = ((codes "a") ∷ []); version = 1; place = 10700; len = 37 }) ∷ (record { group = ((codes "b") ∷ []); version = 1; place = 10800; len = 37 }) ∷ []) ∷ ((record { group = ((codes "c") ∷ []); version = 1; place = 10900; len = 37 }) ∷ []) ∷ []
tables_38 = refl

drops_38 : to_drop table8 table1 ≡ []
drops_38 = refl

-- from 8 to 3
tables_39 : to_keep table8 table3 ∷ to_load table8 table3 ∷ []
    ≡ [] ∷ ((record { group = ((codes "a") ∷ []); version = 2; place = 11700; len = 54 }) ∷ (record { group = ((codes "b") ∷ []); version = 3; place = 12800; len = 54 }) ∷ (record { group = ((codes "c") ∷ []); version = 1; place = 10900; len = 37 }) ∷ []) ∷ []
tables_39 = refl

drops_39 : to_drop table8 table3 ≡ (((codes "a") ∷ []) ∷ ((codes "b") ∷ []) ∷ [])
drops_39 = refl

-- from 8 to 5
tables_40 : to_keep table8 table5 ∷ to_load table8 table5 ∷ []
    ≡ [] ∷ ((record { group = ((codes "a") ∷ []); version = 2; place = 11700; len = 54 }) ∷ (record { group = ((codes "b") ∷ (codes "c") ∷ []); version = 5; place = 14800; len = 88 }) ∷ []) ∷ []
tables_40 = refl

drops_40 : to_drop table8 table5 ≡ (((codes "a") ∷ []) ∷ ((codes "b") ∷ []) ∷ [])
drops_40 = refl

-- from 8 to 6
tables_41 : to_keep table8 table6 ∷ to_load table8 table6 ∷ []
    ≡ [] ∷ ((record { group = ((codes "a") ∷ (codes "d") ∷ []); version = 6; place = 15700; len = 61 }) ∷ (record { group = ((codes "b") ∷ []); version = 4; place = 13800; len = 54 }) ∷ (record { group = ((codes "c") ∷ []); version = 1; place = 10900; len = 37 }) ∷ []) ∷ []
tables_41 = refl

drops_41 : to_drop table8 table6 ≡ (((codes "a") ∷ []) ∷ ((codes "b") ∷ []) ∷ [])
drops_41 = refl

-- from 8 to 7
tables_42 : to_keep table8 table7 ∷ to_load table8 table7 ∷ []
    ≡ [] ∷ ((record { group = ((codes "a") ∷ []); version = 7; place = 16700; len = 54 }) ∷ (record { group = ((codes "b") ∷ []); version = 4; place = 13800; len = 54 }) ∷ (record { group = ((codes "c") ∷ []); version = 1; place = 10900; len = 37 }) ∷ []) ∷ []
tables_42 = refl

drops_42 : to_drop table8 table7 ≡ (((codes "a") ∷ []) ∷ ((codes "b") ∷ []) ∷ [])
drops_42 = refl

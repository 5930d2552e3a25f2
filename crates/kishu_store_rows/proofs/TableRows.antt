-- Tables: their rows, what a commit does to one, and what fits: computed on the definitions. Made by tools/rows/table_rows.py.
use Rattle.std.specs.Prelude.{◌≡◌, true, false, [], ◌∷◌, codes, refl}
use Rattle.std.proofs.Common.{arith}
use Rattle.std.proofs.lemmas.Bool.{false≢true}
use Rattle.kishu_store.specs.Tables.{Table, bytes_in, names_in, put_row, without_groups, after, rows_from, bytes_at, are_apart, FitsTable}

abbrev three : Table
three = (record { group = ((codes "a") ∷ []); version = 1; place = 20; len = 5 }) ∷ (record { group = ((codes "b") ∷ (codes "c") ∷ []); version = 2; place = 30; len = 7 }) ∷ (record { group = ((codes "d") ∷ (codes "z") ∷ []); version = 1; place = 40; len = 0 }) ∷ []

-- ---- a row is put behind those with smaller first names

put_1 : put_row (record { group = ((codes "Z") ∷ []); version = 3; place = 90; len = 1 }) three ≡ ((record { group = ((codes "Z") ∷ []); version = 3; place = 90; len = 1 }) ∷ (record { group = ((codes "a") ∷ []); version = 1; place = 20; len = 5 }) ∷ (record { group = ((codes "b") ∷ (codes "c") ∷ []); version = 2; place = 30; len = 7 }) ∷ (record { group = ((codes "d") ∷ (codes "z") ∷ []); version = 1; place = 40; len = 0 }) ∷ [])
put_1 = refl

put_2 : put_row (record { group = ((codes "a0") ∷ []); version = 3; place = 90; len = 1 }) three ≡ ((record { group = ((codes "a") ∷ []); version = 1; place = 20; len = 5 }) ∷ (record { group = ((codes "a0") ∷ []); version = 3; place = 90; len = 1 }) ∷ (record { group = ((codes "b") ∷ (codes "c") ∷ []); version = 2; place = 30; len = 7 }) ∷ (record { group = ((codes "d") ∷ (codes "z") ∷ []); version = 1; place = 40; len = 0 }) ∷ [])
put_2 = refl

put_3 : put_row (record { group = ((codes "aa") ∷ []); version = 3; place = 90; len = 1 }) three ≡ ((record { group = ((codes "a") ∷ []); version = 1; place = 20; len = 5 }) ∷ (record { group = ((codes "aa") ∷ []); version = 3; place = 90; len = 1 }) ∷ (record { group = ((codes "b") ∷ (codes "c") ∷ []); version = 2; place = 30; len = 7 }) ∷ (record { group = ((codes "d") ∷ (codes "z") ∷ []); version = 1; place = 40; len = 0 }) ∷ [])
put_3 = refl

put_4 : put_row (record { group = ((codes "b") ∷ []); version = 3; place = 90; len = 1 }) three ≡ ((record { group = ((codes "a") ∷ []); version = 1; place = 20; len = 5 }) ∷ (record { group = ((codes "b") ∷ []); version = 3; place = 90; len = 1 }) ∷ (record { group = ((codes "b") ∷ (codes "c") ∷ []); version = 2; place = 30; len = 7 }) ∷ (record { group = ((codes "d") ∷ (codes "z") ∷ []); version = 1; place = 40; len = 0 }) ∷ [])
put_4 = refl

put_5 : put_row (record { group = ((codes "c") ∷ []); version = 3; place = 90; len = 1 }) three ≡ ((record { group = ((codes "a") ∷ []); version = 1; place = 20; len = 5 }) ∷ (record { group = ((codes "b") ∷ (codes "c") ∷ []); version = 2; place = 30; len = 7 }) ∷ (record { group = ((codes "c") ∷ []); version = 3; place = 90; len = 1 }) ∷ (record { group = ((codes "d") ∷ (codes "z") ∷ []); version = 1; place = 40; len = 0 }) ∷ [])
put_5 = refl

put_6 : put_row (record { group = ((codes "d") ∷ []); version = 3; place = 90; len = 1 }) three ≡ ((record { group = ((codes "a") ∷ []); version = 1; place = 20; len = 5 }) ∷ (record { group = ((codes "b") ∷ (codes "c") ∷ []); version = 2; place = 30; len = 7 }) ∷ (record { group = ((codes "d") ∷ []); version = 3; place = 90; len = 1 }) ∷ (record { group = ((codes "d") ∷ (codes "z") ∷ []); version = 1; place = 40; len = 0 }) ∷ [])
put_6 = refl

put_7 : put_row (record { group = ((codes "e") ∷ []); version = 3; place = 90; len = 1 }) three ≡ ((record { group = ((codes "a") ∷ []); version = 1; place = 20; len = 5 }) ∷ (record { group = ((codes "b") ∷ (codes "c") ∷ []); version = 2; place = 30; len = 7 }) ∷ (record { group = ((codes "d") ∷ (codes "z") ∷ []); version = 1; place = 40; len = 0 }) ∷ (record { group = ((codes "e") ∷ []); version = 3; place = 90; len = 1 }) ∷ [])
put_7 = refl

put_8 : put_row (record { group = ((codes "_") ∷ []); version = 3; place = 90; len = 1 }) three ≡ ((record { group = ((codes "_") ∷ []); version = 3; place = 90; len = 1 }) ∷ (record { group = ((codes "a") ∷ []); version = 1; place = 20; len = 5 }) ∷ (record { group = ((codes "b") ∷ (codes "c") ∷ []); version = 2; place = 30; len = 7 }) ∷ (record { group = ((codes "d") ∷ (codes "z") ∷ []); version = 1; place = 40; len = 0 }) ∷ [])
put_8 = refl

put_9 : put_row (record { group = ((codes "a") ∷ []); version = 1; place = 20; len = 5 }) [] ≡ ((record { group = ((codes "a") ∷ []); version = 1; place = 20; len = 5 }) ∷ [])
put_9 = refl

-- ---- dropped groups are taken out by all their names

without_1 : without_groups [] three ≡ ((record { group = ((codes "a") ∷ []); version = 1; place = 20; len = 5 }) ∷ (record { group = ((codes "b") ∷ (codes "c") ∷ []); version = 2; place = 30; len = 7 }) ∷ (record { group = ((codes "d") ∷ (codes "z") ∷ []); version = 1; place = 40; len = 0 }) ∷ [])
without_1 = refl

without_2 : without_groups (((codes "a") ∷ []) ∷ []) three ≡ ((record { group = ((codes "b") ∷ (codes "c") ∷ []); version = 2; place = 30; len = 7 }) ∷ (record { group = ((codes "d") ∷ (codes "z") ∷ []); version = 1; place = 40; len = 0 }) ∷ [])
without_2 = refl

without_3 : without_groups (((codes "b") ∷ (codes "c") ∷ []) ∷ []) three ≡ ((record { group = ((codes "a") ∷ []); version = 1; place = 20; len = 5 }) ∷ (record { group = ((codes "d") ∷ (codes "z") ∷ []); version = 1; place = 40; len = 0 }) ∷ [])
without_3 = refl

without_4 : without_groups (((codes "b") ∷ []) ∷ []) three ≡ ((record { group = ((codes "a") ∷ []); version = 1; place = 20; len = 5 }) ∷ (record { group = ((codes "b") ∷ (codes "c") ∷ []); version = 2; place = 30; len = 7 }) ∷ (record { group = ((codes "d") ∷ (codes "z") ∷ []); version = 1; place = 40; len = 0 }) ∷ [])
without_4 = refl

without_5 : without_groups (((codes "c") ∷ (codes "b") ∷ []) ∷ []) three ≡ ((record { group = ((codes "a") ∷ []); version = 1; place = 20; len = 5 }) ∷ (record { group = ((codes "b") ∷ (codes "c") ∷ []); version = 2; place = 30; len = 7 }) ∷ (record { group = ((codes "d") ∷ (codes "z") ∷ []); version = 1; place = 40; len = 0 }) ∷ [])
without_5 = refl

without_6 : without_groups (((codes "a") ∷ []) ∷ ((codes "d") ∷ (codes "z") ∷ []) ∷ []) three ≡ ((record { group = ((codes "b") ∷ (codes "c") ∷ []); version = 2; place = 30; len = 7 }) ∷ [])
without_6 = refl

without_7 : without_groups (((codes "a") ∷ []) ∷ ((codes "b") ∷ (codes "c") ∷ []) ∷ ((codes "d") ∷ (codes "z") ∷ []) ∷ []) three ≡ []
without_7 = refl

without_8 : without_groups (((codes "z") ∷ []) ∷ []) three ≡ ((record { group = ((codes "a") ∷ []); version = 1; place = 20; len = 5 }) ∷ (record { group = ((codes "b") ∷ (codes "c") ∷ []); version = 2; place = 30; len = 7 }) ∷ (record { group = ((codes "d") ∷ (codes "z") ∷ []); version = 1; place = 40; len = 0 }) ∷ [])
without_8 = refl

-- ---- rows of a record lie one behind another

from_1 : rows_from 4 100 [] ≡ []
from_1 = refl

from_2 : rows_from 4 100 ((((codes "a") ∷ []), 5) ∷ []) ≡ ((record { group = ((codes "a") ∷ []); version = 4; place = 100; len = 5 }) ∷ [])
from_2 = refl

from_3 : rows_from 4 0 ((((codes "a") ∷ []), 0) ∷ (((codes "b") ∷ (codes "c") ∷ []), 7) ∷ (((codes "d") ∷ []), 1) ∷ []) ≡ ((record { group = ((codes "a") ∷ []); version = 4; place = 0; len = 0 }) ∷ (record { group = ((codes "b") ∷ (codes "c") ∷ []); version = 4; place = 0; len = 7 }) ∷ (record { group = ((codes "d") ∷ []); version = 4; place = 7; len = 1 }) ∷ [])
from_3 = refl

sums_1 : bytes_in three ∷ bytes_in [] ∷ []
    ≡ 12 ∷ 0 ∷ []
sums_1 = refl

names_1 : names_in three ≡ ((codes "a") ∷ (codes "b") ∷ (codes "c") ∷ (codes "d") ∷ (codes "z") ∷ [])
names_1 = refl

bytes_at_1 : bytes_at (1 ∷ 2 ∷ 3 ∷ 4 ∷ []) (record { group = ((codes "a") ∷ []); version = 1; place = 0; len = 4 }) ∷ bytes_at (1 ∷ 2 ∷ 3 ∷ 4 ∷ []) (record { group = ((codes "a") ∷ []); version = 1; place = 1; len = 2 }) ∷ bytes_at (1 ∷ 2 ∷ 3 ∷ 4 ∷ []) (record { group = ((codes "a") ∷ []); version = 1; place = 3; len = 1 }) ∷ bytes_at (1 ∷ 2 ∷ 3 ∷ 4 ∷ []) (record { group = ((codes "a") ∷ []); version = 1; place = 3; len = 2 }) ∷ bytes_at (1 ∷ 2 ∷ 3 ∷ 4 ∷ []) (record { group = ((codes "a") ∷ []); version = 1; place = 4; len = 1 }) ∷ bytes_at (1 ∷ 2 ∷ 3 ∷ 4 ∷ []) (record { group = ((codes "a") ∷ []); version = 1; place = 9; len = 1 }) ∷ bytes_at (1 ∷ 2 ∷ 3 ∷ 4 ∷ []) (record { group = ((codes "a") ∷ []); version = 1; place = 2; len = 0 }) ∷ []
    ≡ (1 ∷ 2 ∷ 3 ∷ 4 ∷ []) ∷ (2 ∷ 3 ∷ []) ∷ (4 ∷ []) ∷ (4 ∷ []) ∷ [] ∷ [] ∷ [] ∷ []
bytes_at_1 = refl

apart_1 : are_apart [] ∷ are_apart ((codes "a") ∷ []) ∷ are_apart ((codes "a") ∷ (codes "b") ∷ []) ∷ are_apart ((codes "a") ∷ (codes "a") ∷ []) ∷ are_apart ((codes "a") ∷ (codes "b") ∷ (codes "a") ∷ []) ∷ are_apart ((codes "b") ∷ (codes "a") ∷ (codes "a") ∷ []) ∷ are_apart ((codes "a") ∷ (codes "aa") ∷ []) ∷ []
    ≡ true ∷ true ∷ true ∷ false ∷ false ∷ false ∷ true ∷ []
apart_1 = refl

-- ---- what a commit does to a table, and whether it fits

after_1 : after (record { dropped = []; stored = [] }) three ≡ ((record { group = ((codes "a") ∷ []); version = 1; place = 20; len = 5 }) ∷ (record { group = ((codes "b") ∷ (codes "c") ∷ []); version = 2; place = 30; len = 7 }) ∷ (record { group = ((codes "d") ∷ (codes "z") ∷ []); version = 1; place = 40; len = 0 }) ∷ [])
after_1 = refl

fits_1 : FitsTable three (record { dropped = []; stored = [] })
fits_1 = record { dropped = refl; apart = refl; small = omega arith }

after_2 : after (record { dropped = (((codes "a") ∷ []) ∷ []); stored = [] }) three ≡ ((record { group = ((codes "b") ∷ (codes "c") ∷ []); version = 2; place = 30; len = 7 }) ∷ (record { group = ((codes "d") ∷ (codes "z") ∷ []); version = 1; place = 40; len = 0 }) ∷ [])
after_2 = refl

fits_2 : FitsTable three (record { dropped = (((codes "a") ∷ []) ∷ []); stored = [] })
fits_2 = record { dropped = refl; apart = refl; small = omega arith }

after_3 : after (record { dropped = (((codes "a") ∷ []) ∷ []); stored = ((record { group = ((codes "a") ∷ []); version = 3; place = 90; len = 1 }) ∷ []) }) three ≡ ((record { group = ((codes "a") ∷ []); version = 3; place = 90; len = 1 }) ∷ (record { group = ((codes "b") ∷ (codes "c") ∷ []); version = 2; place = 30; len = 7 }) ∷ (record { group = ((codes "d") ∷ (codes "z") ∷ []); version = 1; place = 40; len = 0 }) ∷ [])
after_3 = refl

fits_3 : FitsTable three (record { dropped = (((codes "a") ∷ []) ∷ []); stored = ((record { group = ((codes "a") ∷ []); version = 3; place = 90; len = 1 }) ∷ []) })
fits_3 = record { dropped = refl; apart = refl; small = omega arith }

after_4 : after (record { dropped = (((codes "a") ∷ []) ∷ ((codes "b") ∷ (codes "c") ∷ []) ∷ []); stored = ((record { group = ((codes "a") ∷ (codes "b") ∷ []); version = 3; place = 90; len = 1 }) ∷ (record { group = ((codes "c") ∷ []); version = 3; place = 91; len = 2 }) ∷ []) }) three ≡ ((record { group = ((codes "a") ∷ (codes "b") ∷ []); version = 3; place = 90; len = 1 }) ∷ (record { group = ((codes "c") ∷ []); version = 3; place = 91; len = 2 }) ∷ (record { group = ((codes "d") ∷ (codes "z") ∷ []); version = 1; place = 40; len = 0 }) ∷ [])
after_4 = refl

fits_4 : FitsTable three (record { dropped = (((codes "a") ∷ []) ∷ ((codes "b") ∷ (codes "c") ∷ []) ∷ []); stored = ((record { group = ((codes "a") ∷ (codes "b") ∷ []); version = 3; place = 90; len = 1 }) ∷ (record { group = ((codes "c") ∷ []); version = 3; place = 91; len = 2 }) ∷ []) })
fits_4 = record { dropped = refl; apart = refl; small = omega arith }

after_5 : after (record { dropped = (((codes "b") ∷ (codes "c") ∷ []) ∷ ((codes "d") ∷ (codes "z") ∷ []) ∷ []); stored = ((record { group = ((codes "b") ∷ (codes "c") ∷ (codes "d") ∷ (codes "z") ∷ []); version = 3; place = 90; len = 1 }) ∷ []) }) three ≡ ((record { group = ((codes "a") ∷ []); version = 1; place = 20; len = 5 }) ∷ (record { group = ((codes "b") ∷ (codes "c") ∷ (codes "d") ∷ (codes "z") ∷ []); version = 3; place = 90; len = 1 }) ∷ [])
after_5 = refl

fits_5 : FitsTable three (record { dropped = (((codes "b") ∷ (codes "c") ∷ []) ∷ ((codes "d") ∷ (codes "z") ∷ []) ∷ []); stored = ((record { group = ((codes "b") ∷ (codes "c") ∷ (codes "d") ∷ (codes "z") ∷ []); version = 3; place = 90; len = 1 }) ∷ []) })
fits_5 = record { dropped = refl; apart = refl; small = omega arith }

after_6 : after (record { dropped = []; stored = ((record { group = ((codes "e") ∷ []); version = 3; place = 90; len = 1 }) ∷ (record { group = ((codes "f") ∷ []); version = 3; place = 91; len = 0 }) ∷ []) }) three ≡ ((record { group = ((codes "a") ∷ []); version = 1; place = 20; len = 5 }) ∷ (record { group = ((codes "b") ∷ (codes "c") ∷ []); version = 2; place = 30; len = 7 }) ∷ (record { group = ((codes "d") ∷ (codes "z") ∷ []); version = 1; place = 40; len = 0 }) ∷ (record { group = ((codes "e") ∷ []); version = 3; place = 90; len = 1 }) ∷ (record { group = ((codes "f") ∷ []); version = 3; place = 91; len = 0 }) ∷ [])
after_6 = refl

fits_6 : FitsTable three (record { dropped = []; stored = ((record { group = ((codes "e") ∷ []); version = 3; place = 90; len = 1 }) ∷ (record { group = ((codes "f") ∷ []); version = 3; place = 91; len = 0 }) ∷ []) })
fits_6 = record { dropped = refl; apart = refl; small = omega arith }

after_7 : after (record { dropped = (((codes "a") ∷ []) ∷ ((codes "b") ∷ (codes "c") ∷ []) ∷ ((codes "d") ∷ (codes "z") ∷ []) ∷ []); stored = [] }) three ≡ []
after_7 = refl

fits_7 : FitsTable three (record { dropped = (((codes "a") ∷ []) ∷ ((codes "b") ∷ (codes "c") ∷ []) ∷ ((codes "d") ∷ (codes "z") ∷ []) ∷ []); stored = [] })
fits_7 = record { dropped = refl; apart = refl; small = omega arith }

after_8 : after (record { dropped = []; stored = ((record { group = ((codes "A") ∷ []); version = 3; place = 90; len = 268435444 }) ∷ []) }) three ≡ ((record { group = ((codes "A") ∷ []); version = 3; place = 90; len = 268435444 }) ∷ (record { group = ((codes "a") ∷ []); version = 1; place = 20; len = 5 }) ∷ (record { group = ((codes "b") ∷ (codes "c") ∷ []); version = 2; place = 30; len = 7 }) ∷ (record { group = ((codes "d") ∷ (codes "z") ∷ []); version = 1; place = 40; len = 0 }) ∷ [])
after_8 = refl

fits_8 : FitsTable three (record { dropped = []; stored = ((record { group = ((codes "A") ∷ []); version = 3; place = 90; len = 268435444 }) ∷ []) })
fits_8 = record { dropped = refl; apart = refl; small = omega arith }

after_9 : after (record { dropped = (((codes "b") ∷ (codes "c") ∷ []) ∷ []); stored = ((record { group = ((codes "b") ∷ (codes "c") ∷ []); version = 3; place = 90; len = 268435451 }) ∷ []) }) three ≡ ((record { group = ((codes "a") ∷ []); version = 1; place = 20; len = 5 }) ∷ (record { group = ((codes "b") ∷ (codes "c") ∷ []); version = 3; place = 90; len = 268435451 }) ∷ (record { group = ((codes "d") ∷ (codes "z") ∷ []); version = 1; place = 40; len = 0 }) ∷ [])
after_9 = refl

fits_9 : FitsTable three (record { dropped = (((codes "b") ∷ (codes "c") ∷ []) ∷ []); stored = ((record { group = ((codes "b") ∷ (codes "c") ∷ []); version = 3; place = 90; len = 268435451 }) ∷ []) })
fits_9 = record { dropped = refl; apart = refl; small = omega arith }

after_10 : after (record { dropped = (((codes "b") ∷ []) ∷ []); stored = [] }) three ≡ ((record { group = ((codes "a") ∷ []); version = 1; place = 20; len = 5 }) ∷ (record { group = ((codes "b") ∷ (codes "c") ∷ []); version = 2; place = 30; len = 7 }) ∷ (record { group = ((codes "d") ∷ (codes "z") ∷ []); version = 1; place = 40; len = 0 }) ∷ [])
after_10 = refl

fits_not_1 : FitsTable three (record { dropped = (((codes "b") ∷ []) ∷ []); stored = [] }) → ⊥
fits_not_1 = λ h. absurd (false≢true h.dropped)

after_11 : after (record { dropped = (((codes "c") ∷ (codes "b") ∷ []) ∷ []); stored = [] }) three ≡ ((record { group = ((codes "a") ∷ []); version = 1; place = 20; len = 5 }) ∷ (record { group = ((codes "b") ∷ (codes "c") ∷ []); version = 2; place = 30; len = 7 }) ∷ (record { group = ((codes "d") ∷ (codes "z") ∷ []); version = 1; place = 40; len = 0 }) ∷ [])
after_11 = refl

fits_not_2 : FitsTable three (record { dropped = (((codes "c") ∷ (codes "b") ∷ []) ∷ []); stored = [] }) → ⊥
fits_not_2 = λ h. absurd (false≢true h.dropped)

after_12 : after (record { dropped = (((codes "e") ∷ []) ∷ []); stored = [] }) three ≡ ((record { group = ((codes "a") ∷ []); version = 1; place = 20; len = 5 }) ∷ (record { group = ((codes "b") ∷ (codes "c") ∷ []); version = 2; place = 30; len = 7 }) ∷ (record { group = ((codes "d") ∷ (codes "z") ∷ []); version = 1; place = 40; len = 0 }) ∷ [])
after_12 = refl

fits_not_3 : FitsTable three (record { dropped = (((codes "e") ∷ []) ∷ []); stored = [] }) → ⊥
fits_not_3 = λ h. absurd (false≢true h.dropped)

after_13 : after (record { dropped = (((codes "a") ∷ []) ∷ ((codes "a") ∷ (codes "b") ∷ []) ∷ []); stored = [] }) three ≡ ((record { group = ((codes "b") ∷ (codes "c") ∷ []); version = 2; place = 30; len = 7 }) ∷ (record { group = ((codes "d") ∷ (codes "z") ∷ []); version = 1; place = 40; len = 0 }) ∷ [])
after_13 = refl

fits_not_4 : FitsTable three (record { dropped = (((codes "a") ∷ []) ∷ ((codes "a") ∷ (codes "b") ∷ []) ∷ []); stored = [] }) → ⊥
fits_not_4 = λ h. absurd (false≢true h.dropped)

fits_not_5 : FitsTable three (record { dropped = []; stored = ((record { group = ((codes "a") ∷ []); version = 3; place = 90; len = 1 }) ∷ []) }) → ⊥
fits_not_5 = λ h. absurd (false≢true h.apart)

fits_not_6 : FitsTable three (record { dropped = []; stored = ((record { group = ((codes "e") ∷ (codes "z") ∷ []); version = 3; place = 90; len = 1 }) ∷ []) }) → ⊥
fits_not_6 = λ h. absurd (false≢true h.apart)

fits_not_7 : FitsTable three (record { dropped = (((codes "a") ∷ []) ∷ []); stored = ((record { group = ((codes "c") ∷ []); version = 3; place = 90; len = 1 }) ∷ []) }) → ⊥
fits_not_7 = λ h. absurd (false≢true h.apart)

fits_not_8 : FitsTable three (record { dropped = []; stored = ((record { group = ((codes "e") ∷ []); version = 3; place = 90; len = 1 }) ∷ (record { group = ((codes "f") ∷ (codes "e") ∷ []); version = 3; place = 91; len = 1 }) ∷ []) }) → ⊥
fits_not_8 = λ h. absurd (false≢true h.apart)

fits_not_9 : FitsTable three (record { dropped = (((codes "d") ∷ (codes "z") ∷ []) ∷ []); stored = ((record { group = ((codes "e") ∷ (codes "z") ∷ []); version = 3; place = 90; len = 1 }) ∷ (record { group = ((codes "z") ∷ []); version = 3; place = 91; len = 1 }) ∷ []) }) → ⊥
fits_not_9 = λ h. absurd (false≢true h.apart)

after_14 : after (record { dropped = []; stored = ((record { group = ((codes "A") ∷ []); version = 3; place = 90; len = 268435445 }) ∷ []) }) three ≡ ((record { group = ((codes "A") ∷ []); version = 3; place = 90; len = 268435445 }) ∷ (record { group = ((codes "a") ∷ []); version = 1; place = 20; len = 5 }) ∷ (record { group = ((codes "b") ∷ (codes "c") ∷ []); version = 2; place = 30; len = 7 }) ∷ (record { group = ((codes "d") ∷ (codes "z") ∷ []); version = 1; place = 40; len = 0 }) ∷ [])
after_14 = refl

fits_not_10 : FitsTable three (record { dropped = []; stored = ((record { group = ((codes "A") ∷ []); version = 3; place = 90; len = 268435445 }) ∷ []) }) → ⊥
fits_not_10 = λ h. absurd (omega (arith, h.small))

after_15 : after (record { dropped = (((codes "b") ∷ (codes "c") ∷ []) ∷ []); stored = ((record { group = ((codes "b") ∷ (codes "c") ∷ []); version = 3; place = 90; len = 268435452 }) ∷ []) }) three ≡ ((record { group = ((codes "a") ∷ []); version = 1; place = 20; len = 5 }) ∷ (record { group = ((codes "b") ∷ (codes "c") ∷ []); version = 3; place = 90; len = 268435452 }) ∷ (record { group = ((codes "d") ∷ (codes "z") ∷ []); version = 1; place = 40; len = 0 }) ∷ [])
after_15 = refl

fits_not_11 : FitsTable three (record { dropped = (((codes "b") ∷ (codes "c") ∷ []) ∷ []); stored = ((record { group = ((codes "b") ∷ (codes "c") ∷ []); version = 3; place = 90; len = 268435452 }) ∷ []) }) → ⊥
fits_not_11 = λ h. absurd (omega (arith, h.small))

after_16 : after (record { dropped = []; stored = ((record { group = ((codes "A") ∷ []); version = 3; place = 90; len = 134217728 }) ∷ (record { group = ((codes "B") ∷ []); version = 3; place = 90; len = 134217728 }) ∷ []) }) three ≡ ((record { group = ((codes "A") ∷ []); version = 3; place = 90; len = 134217728 }) ∷ (record { group = ((codes "B") ∷ []); version = 3; place = 90; len = 134217728 }) ∷ (record { group = ((codes "a") ∷ []); version = 1; place = 20; len = 5 }) ∷ (record { group = ((codes "b") ∷ (codes "c") ∷ []); version = 2; place = 30; len = 7 }) ∷ (record { group = ((codes "d") ∷ (codes "z") ∷ []); version = 1; place = 40; len = 0 }) ∷ [])
after_16 = refl

fits_not_12 : FitsTable three (record { dropped = []; stored = ((record { group = ((codes "A") ∷ []); version = 3; place = 90; len = 134217728 }) ∷ (record { group = ((codes "B") ∷ []); version = 3; place = 90; len = 134217728 }) ∷ []) }) → ⊥
fits_not_12 = λ h. absurd (omega (arith, h.small))

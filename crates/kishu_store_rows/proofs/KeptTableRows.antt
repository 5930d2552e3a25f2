-- The tables after commits, and what holds of each that records give: computed on the definitions. Made by tools/rows/table_rows.py.
use Rattle.std.specs.Prelude.{◌≡◌, true, false, [], ◌∷◌, codes, refl}
use Rattle.std.proofs.Common.{arith}
use Rattle.std.proofs.lemmas.Bool.{false≢true}
use Rattle.std.specs.List.Sorted.{IsStrictlySortedBy}
use Rattle.kishu_language.specs.tokens.Names.{reserved_words}
use Rattle.kishu_store.specs.Tables.{table_of, change_of, no_change, IsKeptTable}

-- ---- one commit after another, the newest first

table_1 : table_of ((record { dropped = []; stored = ((record { group = ((codes "a") ∷ []); version = 1; place = 20; len = 5 }) ∷ (record { group = ((codes "b") ∷ (codes "c") ∷ []); version = 2; place = 30; len = 7 }) ∷ (record { group = ((codes "d") ∷ (codes "z") ∷ []); version = 1; place = 40; len = 0 }) ∷ []) }) ∷ []) ≡ ((record { group = ((codes "a") ∷ []); version = 1; place = 20; len = 5 }) ∷ (record { group = ((codes "b") ∷ (codes "c") ∷ []); version = 2; place = 30; len = 7 }) ∷ (record { group = ((codes "d") ∷ (codes "z") ∷ []); version = 1; place = 40; len = 0 }) ∷ [])
table_1 = refl

table_2 : table_of ((record { dropped = []; stored = [] }) ∷ (record { dropped = []; stored = ((record { group = ((codes "a") ∷ []); version = 1; place = 20; len = 5 }) ∷ (record { group = ((codes "b") ∷ (codes "c") ∷ []); version = 2; place = 30; len = 7 }) ∷ (record { group = ((codes "d") ∷ (codes "z") ∷ []); version = 1; place = 40; len = 0 }) ∷ []) }) ∷ []) ≡ ((record { group = ((codes "a") ∷ []); version = 1; place = 20; len = 5 }) ∷ (record { group = ((codes "b") ∷ (codes "c") ∷ []); version = 2; place = 30; len = 7 }) ∷ (record { group = ((codes "d") ∷ (codes "z") ∷ []); version = 1; place = 40; len = 0 }) ∷ [])
table_2 = refl

table_3 : table_of ((record { dropped = (((codes "a") ∷ []) ∷ []); stored = [] }) ∷ (record { dropped = []; stored = [] }) ∷ (record { dropped = []; stored = ((record { group = ((codes "a") ∷ []); version = 1; place = 20; len = 5 }) ∷ (record { group = ((codes "b") ∷ (codes "c") ∷ []); version = 2; place = 30; len = 7 }) ∷ (record { group = ((codes "d") ∷ (codes "z") ∷ []); version = 1; place = 40; len = 0 }) ∷ []) }) ∷ []) ≡ ((record { group = ((codes "b") ∷ (codes "c") ∷ []); version = 2; place = 30; len = 7 }) ∷ (record { group = ((codes "d") ∷ (codes "z") ∷ []); version = 1; place = 40; len = 0 }) ∷ [])
table_3 = refl

table_4 : table_of ((record { dropped = (((codes "a") ∷ []) ∷ []); stored = ((record { group = ((codes "a") ∷ []); version = 3; place = 90; len = 1 }) ∷ []) }) ∷ (record { dropped = (((codes "a") ∷ []) ∷ []); stored = [] }) ∷ (record { dropped = []; stored = [] }) ∷ (record { dropped = []; stored = ((record { group = ((codes "a") ∷ []); version = 1; place = 20; len = 5 }) ∷ (record { group = ((codes "b") ∷ (codes "c") ∷ []); version = 2; place = 30; len = 7 }) ∷ (record { group = ((codes "d") ∷ (codes "z") ∷ []); version = 1; place = 40; len = 0 }) ∷ []) }) ∷ []) ≡ ((record { group = ((codes "a") ∷ []); version = 3; place = 90; len = 1 }) ∷ (record { group = ((codes "b") ∷ (codes "c") ∷ []); version = 2; place = 30; len = 7 }) ∷ (record { group = ((codes "d") ∷ (codes "z") ∷ []); version = 1; place = 40; len = 0 }) ∷ [])
table_4 = refl

table_5 : table_of ((record { dropped = (((codes "a") ∷ []) ∷ ((codes "b") ∷ (codes "c") ∷ []) ∷ []); stored = ((record { group = ((codes "a") ∷ (codes "b") ∷ []); version = 3; place = 90; len = 1 }) ∷ (record { group = ((codes "c") ∷ []); version = 3; place = 91; len = 2 }) ∷ []) }) ∷ (record { dropped = (((codes "a") ∷ []) ∷ []); stored = ((record { group = ((codes "a") ∷ []); version = 3; place = 90; len = 1 }) ∷ []) }) ∷ (record { dropped = (((codes "a") ∷ []) ∷ []); stored = [] }) ∷ (record { dropped = []; stored = [] }) ∷ (record { dropped = []; stored = ((record { group = ((codes "a") ∷ []); version = 1; place = 20; len = 5 }) ∷ (record { group = ((codes "b") ∷ (codes "c") ∷ []); version = 2; place = 30; len = 7 }) ∷ (record { group = ((codes "d") ∷ (codes "z") ∷ []); version = 1; place = 40; len = 0 }) ∷ []) }) ∷ []) ≡ ((record { group = ((codes "a") ∷ (codes "b") ∷ []); version = 3; place = 90; len = 1 }) ∷ (record { group = ((codes "c") ∷ []); version = 3; place = 91; len = 2 }) ∷ (record { group = ((codes "d") ∷ (codes "z") ∷ []); version = 1; place = 40; len = 0 }) ∷ [])
table_5 = refl

table_6 : table_of ((record { dropped = (((codes "b") ∷ (codes "c") ∷ []) ∷ ((codes "d") ∷ (codes "z") ∷ []) ∷ []); stored = ((record { group = ((codes "b") ∷ (codes "c") ∷ (codes "d") ∷ (codes "z") ∷ []); version = 3; place = 90; len = 1 }) ∷ []) }) ∷ (record { dropped = (((codes "a") ∷ []) ∷ ((codes "b") ∷ (codes "c") ∷ []) ∷ []); stored = ((record { group = ((codes "a") ∷ (codes "b") ∷ []); version = 3; place = 90; len = 1 }) ∷ (record { group = ((codes "c") ∷ []); version = 3; place = 91; len = 2 }) ∷ []) }) ∷ (record { dropped = (((codes "a") ∷ []) ∷ []); stored = ((record { group = ((codes "a") ∷ []); version = 3; place = 90; len = 1 }) ∷ []) }) ∷ (record { dropped = (((codes "a") ∷ []) ∷ []); stored = [] }) ∷ (record { dropped = []; stored = [] }) ∷ (record { dropped = []; stored = ((record { group = ((codes "a") ∷ []); version = 1; place = 20; len = 5 }) ∷ (record { group = ((codes "b") ∷ (codes "c") ∷ []); version = 2; place = 30; len = 7 }) ∷ (record { group = ((codes "d") ∷ (codes "z") ∷ []); version = 1; place = 40; len = 0 }) ∷ []) }) ∷ []) ≡ ((record { group = ((codes "a") ∷ (codes "b") ∷ []); version = 3; place = 90; len = 1 }) ∷ (record { group = ((codes "b") ∷ (codes "c") ∷ (codes "d") ∷ (codes "z") ∷ []); version = 3; place = 90; len = 1 }) ∷ (record { group = ((codes "c") ∷ []); version = 3; place = 91; len = 2 }) ∷ [])
table_6 = refl

table_7 : table_of ((record { dropped = []; stored = ((record { group = ((codes "e") ∷ []); version = 3; place = 90; len = 1 }) ∷ (record { group = ((codes "f") ∷ []); version = 3; place = 91; len = 0 }) ∷ []) }) ∷ (record { dropped = (((codes "b") ∷ (codes "c") ∷ []) ∷ ((codes "d") ∷ (codes "z") ∷ []) ∷ []); stored = ((record { group = ((codes "b") ∷ (codes "c") ∷ (codes "d") ∷ (codes "z") ∷ []); version = 3; place = 90; len = 1 }) ∷ []) }) ∷ (record { dropped = (((codes "a") ∷ []) ∷ ((codes "b") ∷ (codes "c") ∷ []) ∷ []); stored = ((record { group = ((codes "a") ∷ (codes "b") ∷ []); version = 3; place = 90; len = 1 }) ∷ (record { group = ((codes "c") ∷ []); version = 3; place = 91; len = 2 }) ∷ []) }) ∷ (record { dropped = (((codes "a") ∷ []) ∷ []); stored = ((record { group = ((codes "a") ∷ []); version = 3; place = 90; len = 1 }) ∷ []) }) ∷ (record { dropped = (((codes "a") ∷ []) ∷ []); stored = [] }) ∷ (record { dropped = []; stored = [] }) ∷ (record { dropped = []; stored = ((record { group = ((codes "a") ∷ []); version = 1; place = 20; len = 5 }) ∷ (record { group = ((codes "b") ∷ (codes "c") ∷ []); version = 2; place = 30; len = 7 }) ∷ (record { group = ((codes "d") ∷ (codes "z") ∷ []); version = 1; place = 40; len = 0 }) ∷ []) }) ∷ []) ≡ ((record { group = ((codes "a") ∷ (codes "b") ∷ []); version = 3; place = 90; len = 1 }) ∷ (record { group = ((codes "b") ∷ (codes "c") ∷ (codes "d") ∷ (codes "z") ∷ []); version = 3; place = 90; len = 1 }) ∷ (record { group = ((codes "c") ∷ []); version = 3; place = 91; len = 2 }) ∷ (record { group = ((codes "e") ∷ []); version = 3; place = 90; len = 1 }) ∷ (record { group = ((codes "f") ∷ []); version = 3; place = 91; len = 0 }) ∷ [])
table_7 = refl

change_of_1 : change_of ((record { dropped = (((codes "a") ∷ []) ∷ []); stored = ((record { group = ((codes "a") ∷ []); version = 3; place = 90; len = 1 }) ∷ []) }) ∷ (record { dropped = (((codes "a") ∷ []) ∷ []); stored = [] }) ∷ []) 0 ∷ change_of ((record { dropped = (((codes "a") ∷ []) ∷ []); stored = ((record { group = ((codes "a") ∷ []); version = 3; place = 90; len = 1 }) ∷ []) }) ∷ (record { dropped = (((codes "a") ∷ []) ∷ []); stored = [] }) ∷ []) 1 ∷ change_of ((record { dropped = (((codes "a") ∷ []) ∷ []); stored = ((record { group = ((codes "a") ∷ []); version = 3; place = 90; len = 1 }) ∷ []) }) ∷ (record { dropped = (((codes "a") ∷ []) ∷ []); stored = [] }) ∷ []) 2 ∷ change_of ((record { dropped = (((codes "a") ∷ []) ∷ []); stored = ((record { group = ((codes "a") ∷ []); version = 3; place = 90; len = 1 }) ∷ []) }) ∷ (record { dropped = (((codes "a") ∷ []) ∷ []); stored = [] }) ∷ []) 3 ∷ []
    ≡ no_change ∷ (record { dropped = (((codes "a") ∷ []) ∷ []); stored = [] }) ∷ (record { dropped = (((codes "a") ∷ []) ∷ []); stored = ((record { group = ((codes "a") ∷ []); version = 3; place = 90; len = 1 }) ∷ []) }) ∷ no_change ∷ []
change_of_1 = refl

-- ---- what holds of a table

kept_1 : IsKeptTable []
unfolding IsStrictlySortedBy reserved_words
kept_1 = record { rise = tt; groups = tt; apart = refl; small = omega arith }

kept_2 : IsKeptTable ((record { group = ((codes "a") ∷ []); version = 1; place = 20; len = 5 }) ∷ (record { group = ((codes "b") ∷ (codes "c") ∷ []); version = 2; place = 30; len = 7 }) ∷ (record { group = ((codes "d") ∷ (codes "z") ∷ []); version = 1; place = 40; len = 0 }) ∷ [])
unfolding IsStrictlySortedBy reserved_words
kept_2 = record { rise = ((refl, (refl, tt)), ((refl, tt), (tt, tt))); groups = (record { some = omega arith; names = (refl, tt); rise = (tt, tt) }, (record { some = omega arith; names = (refl, (refl, tt)); rise = ((refl, tt), (tt, tt)) }, (record { some = omega arith; names = (refl, (refl, tt)); rise = ((refl, tt), (tt, tt)) }, tt))); apart = refl; small = omega arith }

kept_3 : IsKeptTable ((record { group = ((codes "a") ∷ []); version = 1; place = 0; len = 268435456 }) ∷ [])
unfolding IsStrictlySortedBy reserved_words
kept_3 = record { rise = (tt, tt); groups = (record { some = omega arith; names = (refl, tt); rise = (tt, tt) }, tt); apart = refl; small = omega arith }

kept_4 : IsKeptTable ((record { group = ((codes "a") ∷ []); version = 1; place = 0; len = 268435455 }) ∷ (record { group = ((codes "b") ∷ []); version = 1; place = 0; len = 1 }) ∷ [])
unfolding IsStrictlySortedBy reserved_words
kept_4 = record { rise = ((refl, tt), (tt, tt)); groups = (record { some = omega arith; names = (refl, tt); rise = (tt, tt) }, (record { some = omega arith; names = (refl, tt); rise = (tt, tt) }, tt)); apart = refl; small = omega arith }

kept_5 : IsKeptTable ((record { group = ((codes "Z") ∷ []); version = 1; place = 20; len = 5 }) ∷ (record { group = ((codes "_") ∷ (codes "a") ∷ []); version = 1; place = 20; len = 5 }) ∷ [])
unfolding IsStrictlySortedBy reserved_words
kept_5 = record { rise = ((refl, tt), (tt, tt)); groups = (record { some = omega arith; names = (refl, tt); rise = (tt, tt) }, (record { some = omega arith; names = (refl, (refl, tt)); rise = ((refl, tt), (tt, tt)) }, tt)); apart = refl; small = omega arith }

kept_not_1 : IsKeptTable ((record { group = ((codes "b") ∷ []); version = 1; place = 20; len = 5 }) ∷ (record { group = ((codes "a") ∷ []); version = 1; place = 20; len = 5 }) ∷ []) → ⊥
unfolding IsStrictlySortedBy reserved_words
kept_not_1 = λ h. (let p = h.rise.0.0 in cc)

kept_not_2 : IsKeptTable ((record { group = ((codes "a") ∷ []); version = 1; place = 20; len = 5 }) ∷ (record { group = ((codes "a") ∷ (codes "b") ∷ []); version = 1; place = 20; len = 5 }) ∷ []) → ⊥
unfolding IsStrictlySortedBy reserved_words
kept_not_2 = λ h. (let p = h.rise.0.0 in cc)

kept_not_3 : IsKeptTable ((record { group = ((codes "a") ∷ (codes "b") ∷ []); version = 1; place = 20; len = 5 }) ∷ (record { group = ((codes "c") ∷ (codes "b") ∷ []); version = 1; place = 20; len = 5 }) ∷ []) → ⊥
unfolding IsStrictlySortedBy reserved_words
kept_not_3 = λ h. (let p = h.groups.1.0.rise.0.0 in cc)

kept_not_4 : IsKeptTable ((record { group = ((codes "a") ∷ []); version = 1; place = 20; len = 5 }) ∷ (record { group = ((codes "b") ∷ (codes "a") ∷ []); version = 1; place = 20; len = 5 }) ∷ []) → ⊥
unfolding IsStrictlySortedBy reserved_words
kept_not_4 = λ h. (let p = h.groups.1.0.rise.0.0 in cc)

kept_not_5 : IsKeptTable ((record { group = ((codes "b") ∷ (codes "a") ∷ []); version = 1; place = 20; len = 5 }) ∷ []) → ⊥
unfolding IsStrictlySortedBy reserved_words
kept_not_5 = λ h. (let p = h.groups.0.rise.0.0 in cc)

kept_not_6 : IsKeptTable ((record { group = ((codes "if") ∷ []); version = 1; place = 20; len = 5 }) ∷ []) → ⊥
unfolding IsStrictlySortedBy reserved_words
kept_not_6 = λ h. absurd (false≢true (h.groups.0.names.0))

kept_not_7 : IsKeptTable ((record { group = []; version = 1; place = 0; len = 0 }) ∷ []) → ⊥
unfolding IsStrictlySortedBy reserved_words
kept_not_7 = λ h. absurd (omega (arith, h.groups.0.some))

kept_not_8 : IsKeptTable ((record { group = ((codes "a") ∷ []); version = 1; place = 0; len = 268435457 }) ∷ []) → ⊥
unfolding IsStrictlySortedBy reserved_words
kept_not_8 = λ h. absurd (omega (arith, h.small))

kept_not_9 : IsKeptTable ((record { group = ((codes "a") ∷ []); version = 1; place = 0; len = 268435456 }) ∷ (record { group = ((codes "b") ∷ []); version = 1; place = 0; len = 1 }) ∷ []) → ⊥
unfolding IsStrictlySortedBy reserved_words
kept_not_9 = λ h. absurd (omega (arith, h.small))

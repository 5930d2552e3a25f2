-- What a group is that a record may tell, and when two are one: computed on the definitions. Made by tools/rows/table_rows.py.
use Rattle.std.specs.Prelude.{◌≡◌, true, false, List, [], ◌∷◌, codes, refl}
use Rattle.std.specs.Prelude.{map}
use Rattle.std.proofs.Common.{arith}
use Rattle.std.proofs.lemmas.Bool.{false≢true}
use Rattle.std.specs.List.Sorted.{IsStrictlySortedBy}
use Rattle.kishu_language.specs.tokens.Names.{reserved_words}
use Rattle.kishu_store.specs.Groups.{Group, first_name, is_group, is_one_of, IsGroup, AreGroups, IsStored, AreStored}

-- ---- each with each

abbrev several : List Group
several = [] ∷ ((codes "a") ∷ []) ∷ ((codes "b") ∷ []) ∷ ((codes "a") ∷ (codes "b") ∷ []) ∷ ((codes "b") ∷ (codes "a") ∷ []) ∷ ((codes "a") ∷ (codes "b") ∷ (codes "c") ∷ []) ∷ ((codes "ab") ∷ []) ∷ []

one_group : map (λ g. map (is_group g) several) several ≡ ((true ∷ false ∷ false ∷ false ∷ false ∷ false ∷ false ∷ []) ∷ (false ∷ true ∷ false ∷ false ∷ false ∷ false ∷ false ∷ []) ∷ (false ∷ false ∷ true ∷ false ∷ false ∷ false ∷ false ∷ []) ∷ (false ∷ false ∷ false ∷ true ∷ false ∷ false ∷ false ∷ []) ∷ (false ∷ false ∷ false ∷ false ∷ true ∷ false ∷ false ∷ []) ∷ (false ∷ false ∷ false ∷ false ∷ false ∷ true ∷ false ∷ []) ∷ (false ∷ false ∷ false ∷ false ∷ false ∷ false ∷ true ∷ []) ∷ [])
one_group = refl

one_of_1 : is_one_of ((codes "a") ∷ []) [] ∷ is_one_of ((codes "a") ∷ []) (((codes "b") ∷ []) ∷ []) ∷ is_one_of ((codes "a") ∷ []) (((codes "b") ∷ []) ∷ ((codes "a") ∷ []) ∷ []) ∷ is_one_of ((codes "a") ∷ []) (((codes "a") ∷ (codes "b") ∷ []) ∷ ((codes "c") ∷ []) ∷ []) ∷ is_one_of ((codes "b") ∷ []) [] ∷ is_one_of ((codes "b") ∷ []) (((codes "b") ∷ []) ∷ []) ∷ is_one_of ((codes "b") ∷ []) (((codes "b") ∷ []) ∷ ((codes "a") ∷ []) ∷ []) ∷ is_one_of ((codes "b") ∷ []) (((codes "a") ∷ (codes "b") ∷ []) ∷ ((codes "c") ∷ []) ∷ []) ∷ is_one_of ((codes "a") ∷ (codes "b") ∷ []) [] ∷ is_one_of ((codes "a") ∷ (codes "b") ∷ []) (((codes "b") ∷ []) ∷ []) ∷ is_one_of ((codes "a") ∷ (codes "b") ∷ []) (((codes "b") ∷ []) ∷ ((codes "a") ∷ []) ∷ []) ∷ is_one_of ((codes "a") ∷ (codes "b") ∷ []) (((codes "a") ∷ (codes "b") ∷ []) ∷ ((codes "c") ∷ []) ∷ []) ∷ []
    ≡ false ∷ false ∷ true ∷ false ∷ false ∷ true ∷ true ∷ false ∷ false ∷ false ∷ false ∷ true ∷ []
one_of_1 = refl

first_name_1 : first_name [] ∷ first_name ((codes "a") ∷ []) ∷ first_name ((codes "b") ∷ []) ∷ first_name ((codes "a") ∷ (codes "b") ∷ []) ∷ first_name ((codes "b") ∷ (codes "a") ∷ []) ∷ first_name ((codes "a") ∷ (codes "b") ∷ (codes "c") ∷ []) ∷ first_name ((codes "ab") ∷ []) ∷ []
    ≡ [] ∷ (codes "a") ∷ (codes "b") ∷ (codes "a") ∷ (codes "b") ∷ (codes "a") ∷ (codes "ab") ∷ []
first_name_1 = refl

-- ---- a group has a name, its names are names and rise

group_1 : IsGroup ((codes "a") ∷ [])
unfolding IsStrictlySortedBy reserved_words
group_1 = record { some = omega arith; names = (refl, tt); rise = (tt, tt) }

group_2 : IsGroup ((codes "a") ∷ (codes "b") ∷ [])
unfolding IsStrictlySortedBy reserved_words
group_2 = record { some = omega arith; names = (refl, (refl, tt)); rise = ((refl, tt), (tt, tt)) }

group_3 : IsGroup ((codes "Z") ∷ (codes "_") ∷ (codes "a") ∷ (codes "a1") ∷ (codes "b") ∷ [])
unfolding IsStrictlySortedBy reserved_words
group_3 = record { some = omega arith; names = (refl, (refl, (refl, (refl, (refl, tt))))); rise = ((refl, (refl, (refl, (refl, tt)))), ((refl, (refl, (refl, tt))), ((refl, (refl, tt)), ((refl, tt), (tt, tt))))) }

group_4 : IsGroup ((codes "_") ∷ [])
unfolding IsStrictlySortedBy reserved_words
group_4 = record { some = omega arith; names = (refl, tt); rise = (tt, tt) }

group_5 : IsGroup ((codes "xxxxxxxxxxxxxxxxxxxxxxxxxxxxxxxxxxxxxxxxxxxxxxxxxxxxxxxxxxxxxxxxxxxxxxxxxxxxxxxxxxxxxxxxxxxxxxxxxxxxxxxxxxxxxxxxxxxxxxxxxxxxxxxxxxxxxxxxxxxxxxxxxxxxxxxxxxxxxxxxxxxxxxxxxxxxxxxxxxxxxxxxxxxxxxxxxxxxxxxxxxxxxxxxxxxxxxxxxxxxxxxxxxxxxxxxxxxxxxxxxxxxxxxxxxxxxxx") ∷ [])
unfolding IsStrictlySortedBy reserved_words
group_5 = record { some = omega arith; names = (refl, tt); rise = (tt, tt) }

group_6 : IsGroup ((codes "iff") ∷ [])
unfolding IsStrictlySortedBy reserved_words
group_6 = record { some = omega arith; names = (refl, tt); rise = (tt, tt) }

group_7 : IsGroup ((codes "If") ∷ [])
unfolding IsStrictlySortedBy reserved_words
group_7 = record { some = omega arith; names = (refl, tt); rise = (tt, tt) }

no_group_1 : IsGroup [] → ⊥
unfolding IsStrictlySortedBy reserved_words
no_group_1 = λ h. absurd (omega (arith, h.some))

no_group_2 : IsGroup ((codes "b") ∷ (codes "a") ∷ []) → ⊥
unfolding IsStrictlySortedBy reserved_words
no_group_2 = λ h. (let p = h.rise.0.0 in cc)

no_group_3 : IsGroup ((codes "a") ∷ (codes "a") ∷ []) → ⊥
unfolding IsStrictlySortedBy reserved_words
no_group_3 = λ h. (let p = h.rise.0.0 in cc)

no_group_4 : IsGroup ((codes "a") ∷ (codes "b") ∷ (codes "a") ∷ []) → ⊥
unfolding IsStrictlySortedBy reserved_words
no_group_4 = λ h. (let p = h.rise.0.1.0 in cc)

no_group_5 : IsGroup ((codes "1a") ∷ []) → ⊥
unfolding IsStrictlySortedBy reserved_words
no_group_5 = λ h. absurd (false≢true (h.names.0))

no_group_6 : IsGroup ((codes "a-b") ∷ []) → ⊥
unfolding IsStrictlySortedBy reserved_words
no_group_6 = λ h. absurd (false≢true (h.names.0))

no_group_7 : IsGroup ([] ∷ []) → ⊥
unfolding IsStrictlySortedBy reserved_words
no_group_7 = λ h. absurd (false≢true (h.names.0))

no_group_8 : IsGroup ((codes "if") ∷ []) → ⊥
unfolding IsStrictlySortedBy reserved_words
no_group_8 = λ h. absurd (false≢true (h.names.0))

no_group_9 : IsGroup ((codes "None") ∷ []) → ⊥
unfolding IsStrictlySortedBy reserved_words
no_group_9 = λ h. absurd (false≢true (h.names.0))

no_group_10 : IsGroup ((codes "a") ∷ (codes "pass") ∷ []) → ⊥
unfolding IsStrictlySortedBy reserved_words
no_group_10 = λ h. absurd (false≢true (h.names.1.0))

no_group_11 : IsGroup ((codes "xxxxxxxxxxxxxxxxxxxxxxxxxxxxxxxxxxxxxxxxxxxxxxxxxxxxxxxxxxxxxxxxxxxxxxxxxxxxxxxxxxxxxxxxxxxxxxxxxxxxxxxxxxxxxxxxxxxxxxxxxxxxxxxxxxxxxxxxxxxxxxxxxxxxxxxxxxxxxxxxxxxxxxxxxxxxxxxxxxxxxxxxxxxxxxxxxxxxxxxxxxxxxxxxxxxxxxxxxxxxxxxxxxxxxxxxxxxxxxxxxxxxxxxxxxxxxxxx") ∷ []) → ⊥
unfolding IsStrictlySortedBy reserved_words
no_group_11 = λ h. absurd (false≢true (h.names.0))

no_group_12 : IsGroup ((195 ∷ 169 ∷ []) ∷ []) → ⊥
unfolding IsStrictlySortedBy reserved_words
no_group_12 = λ h. absurd (false≢true (h.names.0))

no_group_13 : IsGroup ((codes "a b") ∷ []) → ⊥
unfolding IsStrictlySortedBy reserved_words
no_group_13 = λ h. absurd (false≢true (h.names.0))

-- ---- groups rise by their first names

groups_1 : AreGroups []
unfolding IsStrictlySortedBy reserved_words
groups_1 = record { each = tt; rise = tt }

groups_2 : AreGroups (((codes "a") ∷ []) ∷ [])
unfolding IsStrictlySortedBy reserved_words
groups_2 = record { each = (record { some = omega arith; names = (refl, tt); rise = (tt, tt) }, tt); rise = (tt, tt) }

groups_3 : AreGroups (((codes "a") ∷ (codes "z") ∷ []) ∷ ((codes "b") ∷ []) ∷ [])
unfolding IsStrictlySortedBy reserved_words
groups_3 = record { each = (record { some = omega arith; names = (refl, (refl, tt)); rise = ((refl, tt), (tt, tt)) }, (record { some = omega arith; names = (refl, tt); rise = (tt, tt) }, tt)); rise = ((refl, tt), (tt, tt)) }

groups_4 : AreGroups (((codes "Z") ∷ []) ∷ ((codes "_") ∷ (codes "a") ∷ []) ∷ ((codes "b") ∷ []) ∷ [])
unfolding IsStrictlySortedBy reserved_words
groups_4 = record { each = (record { some = omega arith; names = (refl, tt); rise = (tt, tt) }, (record { some = omega arith; names = (refl, (refl, tt)); rise = ((refl, tt), (tt, tt)) }, (record { some = omega arith; names = (refl, tt); rise = (tt, tt) }, tt))); rise = ((refl, (refl, tt)), ((refl, tt), (tt, tt))) }

no_groups_1 : AreGroups (((codes "b") ∷ []) ∷ ((codes "a") ∷ []) ∷ []) → ⊥
unfolding IsStrictlySortedBy reserved_words
no_groups_1 = λ h. (let p = h.rise.0.0 in cc)

no_groups_2 : AreGroups (((codes "a") ∷ []) ∷ ((codes "a") ∷ (codes "b") ∷ []) ∷ []) → ⊥
unfolding IsStrictlySortedBy reserved_words
no_groups_2 = λ h. (let p = h.rise.0.0 in cc)

no_groups_3 : AreGroups (((codes "a") ∷ []) ∷ [] ∷ []) → ⊥
unfolding IsStrictlySortedBy reserved_words
no_groups_3 = λ h. absurd (omega (arith, h.each.1.0.some))

no_groups_4 : AreGroups (((codes "a") ∷ (codes "b") ∷ []) ∷ ((codes "c") ∷ (codes "b") ∷ []) ∷ []) → ⊥
unfolding IsStrictlySortedBy reserved_words
no_groups_4 = λ h. (let p = h.each.1.0.rise.0.0 in cc)

no_groups_5 : AreGroups (((codes "c") ∷ []) ∷ ((codes "b") ∷ (codes "d") ∷ []) ∷ []) → ⊥
unfolding IsStrictlySortedBy reserved_words
no_groups_5 = λ h. (let p = h.rise.0.0 in cc)

-- ---- a stored group tells the length of its picture in eight bytes

stored_1 : IsStored ((codes "a" ∷ []), 0)
unfolding IsStrictlySortedBy reserved_words
stored_1 = (record { some = omega arith; names = (refl, tt); rise = (tt, tt) }, omega arith)

stored_2 : IsStored ((codes "a" ∷ []), 1)
unfolding IsStrictlySortedBy reserved_words
stored_2 = (record { some = omega arith; names = (refl, tt); rise = (tt, tt) }, omega arith)

stored_3 : IsStored ((codes "a" ∷ []), 18446744073709551615)
unfolding IsStrictlySortedBy reserved_words
stored_3 = (record { some = omega arith; names = (refl, tt); rise = (tt, tt) }, omega arith)

not_stored_1 : IsStored ((codes "a" ∷ []), 18446744073709551616) → ⊥
unfolding IsStrictlySortedBy reserved_words
not_stored_1 = λ h. absurd (omega (arith, h.1))

all_stored_1 : AreStored ((codes "a" ∷ [], 1) ∷ (codes "b" ∷ codes "c" ∷ [], 0) ∷ [])
unfolding IsStrictlySortedBy reserved_words
all_stored_1 = record { each = ((record { some = omega arith; names = (refl, tt); rise = (tt, tt) }, omega arith), ((record { some = omega arith; names = (refl, (refl, tt)); rise = ((refl, tt), (tt, tt)) }, omega arith), tt)); rise = ((refl, tt), (tt, tt)) }

not_all_stored_1 : AreStored ((codes "b" ∷ [], 1) ∷ (codes "a" ∷ [], 0) ∷ []) → ⊥
unfolding IsStrictlySortedBy reserved_words
not_all_stored_1 = λ h. (let p = h.rise.0.0 in cc)

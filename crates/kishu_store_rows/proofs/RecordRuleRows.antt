-- The rules that each record keeps, whatever the graph is: computed on the definitions. Made by tools/rows/record_rule_rows.py.
use Rattle.std.specs.Prelude.{◌≡◌, ℕ, true, false, List, [], ◌∷◌, codes, refl}
use Rattle.std.specs.Prelude.{length, get_or}
use Rattle.std.proofs.Common.{arith, ap}
use Rattle.std.proofs.lemmas.Bool.{false≢true}
use Rattle.std.proofs.lemmas.Str.{is_utf8-from_IsUtf8}
use Rattle.std.specs.Char.{encode_utf8}
use Rattle.std.specs.Str.{chars, is_utf8}
use Rattle.std.specs.List.Sorted.{IsStrictlySortedBy}
use Rattle.kishu_language.specs.tokens.Names.{reserved_words}
use Rattle.kishu_language.specs.declared.profile.Profile.TheVariants.{One}
use Rattle.kishu_language.specs.declared.profile.Profile.TheVariants.{Two}
use Rattle.kishu_store.specs.Entries.{commit, move, name, to_commit, to_branch}
use Rattle.kishu_store.specs.EntryBytes.{head_of, body_of}
use Rattle.kishu_store.specs.Rules.{IsCell, IsTitle, KeepsRules, IsRecord}

other_profile : Two ≡ One → ⊥
other_profile e = cc

-- ---- cells and titles are UTF-8

cell_1 : IsCell []
unfolding is_utf8 chars encode_utf8 IsStrictlySortedBy reserved_words
cell_1 = record { short = omega arith; utf8 = ([], (refl, refl)) }

cell_2 : IsCell (97 ∷ 10 ∷ [])
unfolding is_utf8 chars encode_utf8 IsStrictlySortedBy reserved_words
cell_2 = record { short = omega arith; utf8 = ((97 ∷ 10 ∷ []), (refl, refl)) }

cell_3 : IsCell (195 ∷ 169 ∷ 226 ∷ 130 ∷ 172 ∷ 240 ∷ 159 ∷ 152 ∷ 128 ∷ [])
unfolding is_utf8 chars encode_utf8 IsStrictlySortedBy reserved_words
cell_3 = record { short = omega arith; utf8 = ((233 ∷ 8364 ∷ 128512 ∷ []), (refl, refl)) }

cell_4 : IsCell (0 ∷ [])
unfolding is_utf8 chars encode_utf8 IsStrictlySortedBy reserved_words
cell_4 = record { short = omega arith; utf8 = ((0 ∷ []), (refl, refl)) }

no_cell_1 : IsCell (255 ∷ []) → ⊥
unfolding is_utf8 chars encode_utf8 IsStrictlySortedBy reserved_words
no_cell_1 = λ h. absurd (false≢true (is_utf8-from_IsUtf8 (255 ∷ []) h.utf8))

no_cell_2 : IsCell (97 ∷ 195 ∷ []) → ⊥
unfolding is_utf8 chars encode_utf8 IsStrictlySortedBy reserved_words
no_cell_2 = λ h. absurd (false≢true (is_utf8-from_IsUtf8 (97 ∷ 195 ∷ []) h.utf8))

no_cell_3 : IsCell (237 ∷ 160 ∷ 128 ∷ []) → ⊥
unfolding is_utf8 chars encode_utf8 IsStrictlySortedBy reserved_words
no_cell_3 = λ h. absurd (false≢true (is_utf8-from_IsUtf8 (237 ∷ 160 ∷ 128 ∷ []) h.utf8))

no_cell_4 : IsCell (192 ∷ 128 ∷ []) → ⊥
unfolding is_utf8 chars encode_utf8 IsStrictlySortedBy reserved_words
no_cell_4 = λ h. absurd (false≢true (is_utf8-from_IsUtf8 (192 ∷ 128 ∷ []) h.utf8))

no_cell_5 : IsCell (244 ∷ 144 ∷ 128 ∷ 128 ∷ []) → ⊥
unfolding is_utf8 chars encode_utf8 IsStrictlySortedBy reserved_words
no_cell_5 = λ h. absurd (false≢true (is_utf8-from_IsUtf8 (244 ∷ 144 ∷ 128 ∷ 128 ∷ []) h.utf8))

title_1 : IsTitle []
unfolding is_utf8 chars encode_utf8 IsStrictlySortedBy reserved_words
title_1 = record { short = omega arith; utf8 = ([], (refl, refl)) }

title_2 : IsTitle (109 ∷ 97 ∷ 105 ∷ 110 ∷ [])
unfolding is_utf8 chars encode_utf8 IsStrictlySortedBy reserved_words
title_2 = record { short = omega arith; utf8 = ((109 ∷ 97 ∷ 105 ∷ 110 ∷ []), (refl, refl)) }

title_3 : IsTitle (110 ∷ 111 ∷ 116 ∷ 32 ∷ 97 ∷ 32 ∷ 110 ∷ 97 ∷ 109 ∷ 101 ∷ [])
unfolding is_utf8 chars encode_utf8 IsStrictlySortedBy reserved_words
title_3 = record { short = omega arith; utf8 = ((110 ∷ 111 ∷ 116 ∷ 32 ∷ 97 ∷ 32 ∷ 110 ∷ 97 ∷ 109 ∷ 101 ∷ []), (refl, refl)) }

title_4 : IsTitle (195 ∷ 169 ∷ [])
unfolding is_utf8 chars encode_utf8 IsStrictlySortedBy reserved_words
title_4 = record { short = omega arith; utf8 = ((233 ∷ []), (refl, refl)) }

title_5 : IsTitle (116 ∷ 116 ∷ 116 ∷ 116 ∷ 116 ∷ 116 ∷ 116 ∷ 116 ∷ 116 ∷ 116 ∷ 116 ∷ 116 ∷ 116 ∷ 116 ∷ 116 ∷ 116 ∷ 116 ∷ 116 ∷ 116 ∷ 116 ∷ 116 ∷ 116 ∷ 116 ∷ 116 ∷ 116 ∷ 116 ∷ 116 ∷ 116 ∷ 116 ∷ 116 ∷ 116 ∷ 116 ∷ 116 ∷ 116 ∷ 116 ∷ 116 ∷ 116 ∷ 116 ∷ 116 ∷ 116 ∷ 116 ∷ 116 ∷ 116 ∷ 116 ∷ 116 ∷ 116 ∷ 116 ∷ 116 ∷ 116 ∷ 116 ∷ 116 ∷ 116 ∷ 116 ∷ 116 ∷ 116 ∷ 116 ∷ 116 ∷ 116 ∷ 116 ∷ 116 ∷ 116 ∷ 116 ∷ 116 ∷ 116 ∷ 116 ∷ 116 ∷ 116 ∷ 116 ∷ 116 ∷ 116 ∷ 116 ∷ 116 ∷ 116 ∷ 116 ∷ 116 ∷ 116 ∷ 116 ∷ 116 ∷ 116 ∷ 116 ∷ 116 ∷ 116 ∷ 116 ∷ 116 ∷ 116 ∷ 116 ∷ 116 ∷ 116 ∷ 116 ∷ 116 ∷ 116 ∷ 116 ∷ 116 ∷ 116 ∷ 116 ∷ 116 ∷ 116 ∷ 116 ∷ 116 ∷ 116 ∷ 116 ∷ 116 ∷ 116 ∷ 116 ∷ 116 ∷ 116 ∷ 116 ∷ 116 ∷ 116 ∷ 116 ∷ 116 ∷ 116 ∷ 116 ∷ 116 ∷ 116 ∷ 116 ∷ 116 ∷ 116 ∷ 116 ∷ 116 ∷ 116 ∷ 116 ∷ 116 ∷ 116 ∷ 116 ∷ 116 ∷ 116 ∷ 116 ∷ 116 ∷ 116 ∷ 116 ∷ 116 ∷ 116 ∷ 116 ∷ 116 ∷ 116 ∷ 116 ∷ 116 ∷ 116 ∷ 116 ∷ 116 ∷ 116 ∷ 116 ∷ 116 ∷ 116 ∷ 116 ∷ 116 ∷ 116 ∷ 116 ∷ 116 ∷ 116 ∷ 116 ∷ 116 ∷ 116 ∷ 116 ∷ 116 ∷ 116 ∷ 116 ∷ 116 ∷ 116 ∷ 116 ∷ 116 ∷ 116 ∷ 116 ∷ 116 ∷ 116 ∷ 116 ∷ 116 ∷ 116 ∷ 116 ∷ 116 ∷ 116 ∷ 116 ∷ 116 ∷ 116 ∷ 116 ∷ 116 ∷ 116 ∷ 116 ∷ 116 ∷ 116 ∷ 116 ∷ 116 ∷ 116 ∷ 116 ∷ 116 ∷ 116 ∷ 116 ∷ 116 ∷ 116 ∷ 116 ∷ 116 ∷ 116 ∷ 116 ∷ 116 ∷ 116 ∷ 116 ∷ 116 ∷ 116 ∷ 116 ∷ 116 ∷ 116 ∷ 116 ∷ 116 ∷ 116 ∷ 116 ∷ 116 ∷ 116 ∷ 116 ∷ 116 ∷ 116 ∷ 116 ∷ 116 ∷ 116 ∷ 116 ∷ 116 ∷ 116 ∷ 116 ∷ 116 ∷ 116 ∷ 116 ∷ 116 ∷ 116 ∷ 116 ∷ 116 ∷ 116 ∷ 116 ∷ 116 ∷ 116 ∷ 116 ∷ 116 ∷ 116 ∷ 116 ∷ 116 ∷ 116 ∷ 116 ∷ 116 ∷ 116 ∷ 116 ∷ 116 ∷ 116 ∷ 116 ∷ 116 ∷ 116 ∷ 116 ∷ 116 ∷ 116 ∷ 116 ∷ 116 ∷ 116 ∷ 116 ∷ 116 ∷ 116 ∷ 116 ∷ 116 ∷ [])
unfolding is_utf8 chars encode_utf8 IsStrictlySortedBy reserved_words
title_5 = record { short = omega arith; utf8 = ((116 ∷ 116 ∷ 116 ∷ 116 ∷ 116 ∷ 116 ∷ 116 ∷ 116 ∷ 116 ∷ 116 ∷ 116 ∷ 116 ∷ 116 ∷ 116 ∷ 116 ∷ 116 ∷ 116 ∷ 116 ∷ 116 ∷ 116 ∷ 116 ∷ 116 ∷ 116 ∷ 116 ∷ 116 ∷ 116 ∷ 116 ∷ 116 ∷ 116 ∷ 116 ∷ 116 ∷ 116 ∷ 116 ∷ 116 ∷ 116 ∷ 116 ∷ 116 ∷ 116 ∷ 116 ∷ 116 ∷ 116 ∷ 116 ∷ 116 ∷ 116 ∷ 116 ∷ 116 ∷ 116 ∷ 116 ∷ 116 ∷ 116 ∷ 116 ∷ 116 ∷ 116 ∷ 116 ∷ 116 ∷ 116 ∷ 116 ∷ 116 ∷ 116 ∷ 116 ∷ 116 ∷ 116 ∷ 116 ∷ 116 ∷ 116 ∷ 116 ∷ 116 ∷ 116 ∷ 116 ∷ 116 ∷ 116 ∷ 116 ∷ 116 ∷ 116 ∷ 116 ∷ 116 ∷ 116 ∷ 116 ∷ 116 ∷ 116 ∷ 116 ∷ 116 ∷ 116 ∷ 116 ∷ 116 ∷ 116 ∷ 116 ∷ 116 ∷ 116 ∷ 116 ∷ 116 ∷ 116 ∷ 116 ∷ 116 ∷ 116 ∷ 116 ∷ 116 ∷ 116 ∷ 116 ∷ 116 ∷ 116 ∷ 116 ∷ 116 ∷ 116 ∷ 116 ∷ 116 ∷ 116 ∷ 116 ∷ 116 ∷ 116 ∷ 116 ∷ 116 ∷ 116 ∷ 116 ∷ 116 ∷ 116 ∷ 116 ∷ 116 ∷ 116 ∷ 116 ∷ 116 ∷ 116 ∷ 116 ∷ 116 ∷ 116 ∷ 116 ∷ 116 ∷ 116 ∷ 116 ∷ 116 ∷ 116 ∷ 116 ∷ 116 ∷ 116 ∷ 116 ∷ 116 ∷ 116 ∷ 116 ∷ 116 ∷ 116 ∷ 116 ∷ 116 ∷ 116 ∷ 116 ∷ 116 ∷ 116 ∷ 116 ∷ 116 ∷ 116 ∷ 116 ∷ 116 ∷ 116 ∷ 116 ∷ 116 ∷ 116 ∷ 116 ∷ 116 ∷ 116 ∷ 116 ∷ 116 ∷ 116 ∷ 116 ∷ 116 ∷ 116 ∷ 116 ∷ 116 ∷ 116 ∷ 116 ∷ 116 ∷ 116 ∷ 116 ∷ 116 ∷ 116 ∷ 116 ∷ 116 ∷ 116 ∷ 116 ∷ 116 ∷ 116 ∷ 116 ∷ 116 ∷ 116 ∷ 116 ∷ 116 ∷ 116 ∷ 116 ∷ 116 ∷ 116 ∷ 116 ∷ 116 ∷ 116 ∷ 116 ∷ 116 ∷ 116 ∷ 116 ∷ 116 ∷ 116 ∷ 116 ∷ 116 ∷ 116 ∷ 116 ∷ 116 ∷ 116 ∷ 116 ∷ 116 ∷ 116 ∷ 116 ∷ 116 ∷ 116 ∷ 116 ∷ 116 ∷ 116 ∷ 116 ∷ 116 ∷ 116 ∷ 116 ∷ 116 ∷ 116 ∷ 116 ∷ 116 ∷ 116 ∷ 116 ∷ 116 ∷ 116 ∷ 116 ∷ 116 ∷ 116 ∷ 116 ∷ 116 ∷ 116 ∷ 116 ∷ 116 ∷ 116 ∷ 116 ∷ 116 ∷ 116 ∷ 116 ∷ 116 ∷ 116 ∷ 116 ∷ 116 ∷ 116 ∷ 116 ∷ 116 ∷ 116 ∷ 116 ∷ 116 ∷ 116 ∷ 116 ∷ 116 ∷ 116 ∷ 116 ∷ 116 ∷ 116 ∷ 116 ∷ []), (refl, refl)) }

no_title_1 : IsTitle (codes "tttttttttttttttttttttttttttttttttttttttttttttttttttttttttttttttttttttttttttttttttttttttttttttttttttttttttttttttttttttttttttttttttttttttttttttttttttttttttttttttttttttttttttttttttttttttttttttttttttttttttttttttttttttttttttttttttttttttttttttttttttttttttttttttt") → ⊥
unfolding is_utf8 chars encode_utf8 IsStrictlySortedBy reserved_words
no_title_1 = λ h. absurd (omega (arith, h.short))

no_title_2 : IsTitle (97 ∷ 128 ∷ []) → ⊥
unfolding is_utf8 chars encode_utf8 IsStrictlySortedBy reserved_words
no_title_2 = λ h. absurd (false≢true (is_utf8-from_IsUtf8 (97 ∷ 128 ∷ []) h.utf8))

-- ---- moves and names

move_1 : KeepsRules (move (to_commit 0))
unfolding is_utf8 chars encode_utf8 IsStrictlySortedBy reserved_words
move_1 = omega arith

name_1 : KeepsRules (name (codes "9") 0)
unfolding is_utf8 chars encode_utf8 IsStrictlySortedBy reserved_words
name_1 = (record { short = omega arith; utf8 = ((57 ∷ []), (refl, refl)) }, omega arith)

move_2 : KeepsRules (move (to_commit 4294967295))
unfolding is_utf8 chars encode_utf8 IsStrictlySortedBy reserved_words
move_2 = omega arith

name_2 : KeepsRules (name (codes "9") 4294967295)
unfolding is_utf8 chars encode_utf8 IsStrictlySortedBy reserved_words
name_2 = (record { short = omega arith; utf8 = ((57 ∷ []), (refl, refl)) }, omega arith)

no_move_1 : KeepsRules (move (to_commit 4294967296)) → ⊥
unfolding is_utf8 chars encode_utf8 IsStrictlySortedBy reserved_words
no_move_1 = λ h. absurd (omega (arith, h))

no_name_1 : KeepsRules (name (codes "9") 4294967296) → ⊥
unfolding is_utf8 chars encode_utf8 IsStrictlySortedBy reserved_words
no_name_1 = λ h. absurd (omega (arith, h.1))

move_3 : KeepsRules (move (to_branch (codes "no name")))
unfolding is_utf8 chars encode_utf8 IsStrictlySortedBy reserved_words
move_3 = record { short = omega arith; utf8 = ((110 ∷ 111 ∷ 32 ∷ 110 ∷ 97 ∷ 109 ∷ 101 ∷ []), (refl, refl)) }

no_move_2 : KeepsRules (move (to_branch (255 ∷ []))) → ⊥
unfolding is_utf8 chars encode_utf8 IsStrictlySortedBy reserved_words
no_move_2 = λ h. absurd (false≢true (is_utf8-from_IsUtf8 (255 ∷ []) h.utf8))

no_name_2 : KeepsRules (name (codes "tttttttttttttttttttttttttttttttttttttttttttttttttttttttttttttttttttttttttttttttttttttttttttttttttttttttttttttttttttttttttttttttttttttttttttttttttttttttttttttttttttttttttttttttttttttttttttttttttttttttttttttttttttttttttttttttttttttttttttttttttttttttttttttttt") 0) → ⊥
unfolding is_utf8 chars encode_utf8 IsStrictlySortedBy reserved_words
no_name_2 = λ h. absurd (omega (arith, h.0.short))

-- ---- commits

commit_1 : KeepsRules (commit 0 One ((codes "a") ∷ []) [] [])
unfolding is_utf8 chars encode_utf8 IsStrictlySortedBy reserved_words
commit_1 = record { parent = omega arith; profile = refl; some = omega arith; cells = (record { short = omega arith; utf8 = ((97 ∷ []), (refl, refl)) }, tt); dropped = record { each = tt; rise = tt }; stored = record { each = tt; rise = tt } }

commit_2 : KeepsRules (commit 4294967295 One ((codes "a") ∷ []) [] [])
unfolding is_utf8 chars encode_utf8 IsStrictlySortedBy reserved_words
commit_2 = record { parent = omega arith; profile = refl; some = omega arith; cells = (record { short = omega arith; utf8 = ((97 ∷ []), (refl, refl)) }, tt); dropped = record { each = tt; rise = tt }; stored = record { each = tt; rise = tt } }

no_commit_1 : KeepsRules (commit 4294967296 One ((codes "a") ∷ []) [] []) → ⊥
unfolding is_utf8 chars encode_utf8 IsStrictlySortedBy reserved_words
no_commit_1 = λ h. absurd (omega (arith, h.parent))

commit_3 : KeepsRules (commit 0 One ((codes "a") ∷ []) (((codes "a") ∷ []) ∷ ((codes "b") ∷ (codes "c") ∷ []) ∷ []) ((((codes "a") ∷ []), 1) ∷ (((codes "b") ∷ (codes "c") ∷ []), 1) ∷ []))
unfolding is_utf8 chars encode_utf8 IsStrictlySortedBy reserved_words
commit_3 = record { parent = omega arith; profile = refl; some = omega arith; cells = (record { short = omega arith; utf8 = ((97 ∷ []), (refl, refl)) }, tt); dropped = record { each = (record { some = omega arith; names = (refl, tt); rise = (tt, tt) }, (record { some = omega arith; names = (refl, (refl, tt)); rise = ((refl, tt), (tt, tt)) }, tt)); rise = ((refl, tt), (tt, tt)) }; stored = record { each = ((record { some = omega arith; names = (refl, tt); rise = (tt, tt) }, omega arith), ((record { some = omega arith; names = (refl, (refl, tt)); rise = ((refl, tt), (tt, tt)) }, omega arith), tt)); rise = ((refl, tt), (tt, tt)) } }

commit_4 : KeepsRules (commit 0 One ([] ∷ [] ∷ []) [] [])
unfolding is_utf8 chars encode_utf8 IsStrictlySortedBy reserved_words
commit_4 = record { parent = omega arith; profile = refl; some = omega arith; cells = (record { short = omega arith; utf8 = ([], (refl, refl)) }, (record { short = omega arith; utf8 = ([], (refl, refl)) }, tt)); dropped = record { each = tt; rise = tt }; stored = record { each = tt; rise = tt } }

commit_5 : KeepsRules (commit 0 One ((codes "a") ∷ []) [] ((((codes "a") ∷ []), 18446744073709551615) ∷ []))
unfolding is_utf8 chars encode_utf8 IsStrictlySortedBy reserved_words
commit_5 = record { parent = omega arith; profile = refl; some = omega arith; cells = (record { short = omega arith; utf8 = ((97 ∷ []), (refl, refl)) }, tt); dropped = record { each = tt; rise = tt }; stored = record { each = ((record { some = omega arith; names = (refl, tt); rise = (tt, tt) }, omega arith), tt); rise = (tt, tt) } }

no_commit_2 : KeepsRules (commit 0 Two ((codes "a") ∷ []) [] []) → ⊥
unfolding is_utf8 chars encode_utf8 IsStrictlySortedBy reserved_words
no_commit_2 = λ h. absurd (other_profile h.profile)

no_commit_3 : KeepsRules (commit 0 One [] [] []) → ⊥
unfolding is_utf8 chars encode_utf8 IsStrictlySortedBy reserved_words
no_commit_3 = λ h. absurd (omega (arith, h.some))

no_commit_4 : KeepsRules (commit 0 One ((255 ∷ []) ∷ []) [] []) → ⊥
unfolding is_utf8 chars encode_utf8 IsStrictlySortedBy reserved_words
no_commit_4 = λ h. absurd (false≢true (is_utf8-from_IsUtf8 (255 ∷ []) h.cells.0.utf8))

no_commit_5 : KeepsRules (commit 0 One ((codes "a") ∷ []) (((codes "b") ∷ (codes "c") ∷ []) ∷ ((codes "a") ∷ []) ∷ []) []) → ⊥
unfolding is_utf8 chars encode_utf8 IsStrictlySortedBy reserved_words
no_commit_5 = λ h. (let p = h.dropped.rise.0.0 in cc)

no_commit_6 : KeepsRules (commit 0 One ((codes "a") ∷ []) [] ((((codes "b") ∷ (codes "c") ∷ []), 1) ∷ (((codes "a") ∷ []), 1) ∷ [])) → ⊥
unfolding is_utf8 chars encode_utf8 IsStrictlySortedBy reserved_words
no_commit_6 = λ h. (let p = h.stored.rise.0.0 in cc)

no_commit_7 : KeepsRules (commit 0 One ((codes "a") ∷ []) (((codes "if") ∷ []) ∷ []) []) → ⊥
unfolding is_utf8 chars encode_utf8 IsStrictlySortedBy reserved_words
no_commit_7 = λ h. absurd (false≢true h.dropped.each.0.names.0)

no_commit_8 : KeepsRules (commit 0 One ((codes "a") ∷ []) (((codes "a") ∷ (codes "a") ∷ []) ∷ []) []) → ⊥
unfolding is_utf8 chars encode_utf8 IsStrictlySortedBy reserved_words
no_commit_8 = λ h. (let p = h.dropped.each.0.rise.0.0 in cc)

no_commit_9 : KeepsRules (commit 0 One ((codes "a") ∷ []) [] ((((codes "a") ∷ []), 18446744073709551616) ∷ [])) → ⊥
unfolding is_utf8 chars encode_utf8 IsStrictlySortedBy reserved_words
no_commit_9 = λ h. absurd (omega (arith, h.stored.each.0.1))

-- ---- the pictures have the lengths that are told

record_1 : IsRecord (record { entry = (commit 0 One ((codes "a") ∷ []) [] ((((codes "a") ∷ []), 2) ∷ [])); pictures = ((7 ∷ 8 ∷ []) ∷ []) })
unfolding is_utf8 chars encode_utf8 IsStrictlySortedBy reserved_words head_of body_of
record_1 = record { rules = record { parent = omega arith; profile = refl; some = omega arith; cells = (record { short = omega arith; utf8 = ((97 ∷ []), (refl, refl)) }, tt); dropped = record { each = tt; rise = tt }; stored = record { each = ((record { some = omega arith; names = (refl, tt); rise = (tt, tt) }, omega arith), tt); rise = (tt, tt) } }; pictures = refl; small = omega arith }

record_2 : IsRecord (record { entry = (commit 0 One ((codes "a") ∷ []) [] ((((codes "a") ∷ []), 0) ∷ [])); pictures = ([] ∷ []) })
unfolding is_utf8 chars encode_utf8 IsStrictlySortedBy reserved_words head_of body_of
record_2 = record { rules = record { parent = omega arith; profile = refl; some = omega arith; cells = (record { short = omega arith; utf8 = ((97 ∷ []), (refl, refl)) }, tt); dropped = record { each = tt; rise = tt }; stored = record { each = ((record { some = omega arith; names = (refl, tt); rise = (tt, tt) }, omega arith), tt); rise = (tt, tt) } }; pictures = refl; small = omega arith }

no_record_1 : IsRecord (record { entry = (commit 0 One ((codes "a") ∷ []) [] ((((codes "a") ∷ []), 1) ∷ [])); pictures = ((7 ∷ 8 ∷ []) ∷ []) }) → ⊥
unfolding is_utf8 chars encode_utf8 IsStrictlySortedBy reserved_words head_of body_of
no_record_1 = λ h. absurd (let p : 2 ∷ [] ≡ 1 ∷ [] = h.pictures in omega (arith, ap length p, ap (λ (l : List ℕ). get_or l 0 9) p))

no_record_2 : IsRecord (record { entry = (commit 0 One ((codes "a") ∷ []) [] ((((codes "a") ∷ []), 2) ∷ [])); pictures = [] }) → ⊥
unfolding is_utf8 chars encode_utf8 IsStrictlySortedBy reserved_words head_of body_of
no_record_2 = λ h. absurd (let p : [] ≡ 2 ∷ [] = h.pictures in omega (arith, ap length p, ap (λ (l : List ℕ). get_or l 0 9) p))

no_record_3 : IsRecord (record { entry = (commit 0 One ((codes "a") ∷ []) [] ((((codes "a") ∷ []), 0) ∷ [])); pictures = [] }) → ⊥
unfolding is_utf8 chars encode_utf8 IsStrictlySortedBy reserved_words head_of body_of
no_record_3 = λ h. absurd (let p : [] ≡ 0 ∷ [] = h.pictures in omega (arith, ap length p, ap (λ (l : List ℕ). get_or l 0 9) p))

no_record_4 : IsRecord (record { entry = (move (to_commit 0)); pictures = ([] ∷ []) }) → ⊥
unfolding is_utf8 chars encode_utf8 IsStrictlySortedBy reserved_words head_of body_of
no_record_4 = λ h. absurd (let p : 0 ∷ [] ≡ [] = h.pictures in omega (arith, ap length p))

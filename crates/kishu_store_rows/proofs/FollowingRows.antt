-- Which records fit behind those before them, tables included: computed on the definitions. Made by tools/rows/table_rows.py.
use Rattle.std.specs.Prelude.{◌≡◌, ℕ, true, false, [], ◌∷◌, codes, Some, None, refl}
use Rattle.std.proofs.Common.{arith}
use Rattle.std.proofs.lemmas.Bool.{false≢true}
use Rattle.kishu_language.specs.declared.profile.Profile.TheVariants.{One}
use Rattle.kishu_store.specs.Entries.{commit, move, name, to_commit, to_branch}
use Rattle.kishu_store.specs.EntryBytes.{head_of}
use Rattle.kishu_store.specs.Histories.{Follows}
use Rattle.kishu_store.specs.Holds.{history_of}
use Rattle.kishu_store_rows.proofs.Records.{said0, said1, said2, said3, said4, said5, said6, said7, said8, said9, said10, said11, said12, said13, said14}

some_none : {n : ℕ} → Some n ≡ None → ⊥
some_none e = cc

follows_1 : Follows (history_of said0) (commit 0 One ((codes "x = [1]; y = [x]; z = [2]") ∷ []) [] ((((codes "x") ∷ (codes "y") ∷ []), 3) ∷ (((codes "z") ∷ []), 1) ∷ []))
unfolding head_of
follows_1 = record { graph = record { room = omega arith; goes_on = refl }; table = (record { dropped = refl; apart = refl; small = omega arith }, tt) }

follows_not_1 : Follows (history_of said0) (commit 0 One ((codes "a") ∷ []) (((codes "q") ∷ []) ∷ []) []) → ⊥
unfolding head_of
follows_not_1 = λ h. absurd (false≢true h.table.0.dropped)

follows_not_2 : Follows (history_of said0) (commit 0 One ((codes "a") ∷ []) [] ((((codes "q") ∷ []), 268435457) ∷ [])) → ⊥
unfolding head_of
follows_not_2 = λ h. absurd (omega (arith, h.table.0.small))

follows_2 : Follows (history_of said0) (commit 0 One ((codes "a") ∷ []) [] ((((codes "q") ∷ []), 268435456) ∷ []))
unfolding head_of
follows_2 = record { graph = record { room = omega arith; goes_on = refl }; table = (record { dropped = refl; apart = refl; small = omega arith }, tt) }

follows_not_3 : Follows (history_of said0) (commit 1 One ((codes "a") ∷ []) [] []) → ⊥
unfolding head_of
follows_not_3 = λ h. absurd (omega (arith, h.graph.goes_on))

follows_3 : Follows (history_of said1) (commit 1 One ((codes "y = 0") ∷ []) (((codes "x") ∷ (codes "y") ∷ []) ∷ []) ((((codes "x") ∷ []), 2) ∷ (((codes "y") ∷ []), 1) ∷ []))
unfolding head_of
follows_3 = record { graph = record { room = omega arith; goes_on = refl }; table = (record { dropped = refl; apart = refl; small = omega arith }, tt) }

follows_4 : Follows (history_of said1) (commit 1 One ((codes "a") ∷ []) (((codes "x") ∷ (codes "y") ∷ []) ∷ []) [])
unfolding head_of
follows_4 = record { graph = record { room = omega arith; goes_on = refl }; table = (record { dropped = refl; apart = refl; small = omega arith }, tt) }

follows_not_4 : Follows (history_of said1) (commit 1 One ((codes "a") ∷ []) (((codes "x") ∷ []) ∷ []) []) → ⊥
unfolding head_of
follows_not_4 = λ h. absurd (false≢true h.table.0.dropped)

follows_not_5 : Follows (history_of said1) (commit 1 One ((codes "a") ∷ []) [] ((((codes "x") ∷ []), 0) ∷ [])) → ⊥
unfolding head_of
follows_not_5 = λ h. absurd (false≢true h.table.0.apart)

follows_not_6 : Follows (history_of said1) (commit 1 One ((codes "a") ∷ []) (((codes "x") ∷ (codes "y") ∷ []) ∷ []) ((((codes "x") ∷ (codes "z") ∷ []), 0) ∷ [])) → ⊥
unfolding head_of
follows_not_6 = λ h. absurd (false≢true h.table.0.apart)

follows_5 : Follows (history_of said1) (commit 1 One ((codes "a") ∷ []) (((codes "x") ∷ (codes "y") ∷ []) ∷ ((codes "z") ∷ []) ∷ []) ((((codes "x") ∷ (codes "z") ∷ []), 0) ∷ []))
unfolding head_of
follows_5 = record { graph = record { room = omega arith; goes_on = refl }; table = (record { dropped = refl; apart = refl; small = omega arith }, tt) }

follows_6 : Follows (history_of said1) (commit 1 One ((codes "a") ∷ []) (((codes "z") ∷ []) ∷ []) ((((codes "z") ∷ []), 268435453) ∷ []))
unfolding head_of
follows_6 = record { graph = record { room = omega arith; goes_on = refl }; table = (record { dropped = refl; apart = refl; small = omega arith }, tt) }

follows_not_7 : Follows (history_of said1) (commit 1 One ((codes "a") ∷ []) (((codes "z") ∷ []) ∷ []) ((((codes "z") ∷ []), 268435454) ∷ [])) → ⊥
unfolding head_of
follows_not_7 = λ h. absurd (omega (arith, h.table.0.small))

follows_not_8 : Follows (history_of said1) (commit 0 One ((codes "a") ∷ []) (((codes "x") ∷ (codes "y") ∷ []) ∷ []) []) → ⊥
unfolding head_of
follows_not_8 = λ h. absurd (omega (arith, h.graph.goes_on))

follows_7 : Follows (history_of said2) (name (codes "try") 1)
unfolding head_of
follows_7 = record { graph = record { room = omega arith; goes_on = (refl, refl, omega arith) }; table = tt }

follows_not_9 : Follows (history_of said2) (commit 2 One ((codes "a") ∷ []) (((codes "q") ∷ []) ∷ []) []) → ⊥
unfolding head_of
follows_not_9 = λ h. absurd (false≢true h.table.0.dropped)

follows_not_10 : Follows (history_of said2) (commit 2 One ((codes "a") ∷ []) (((codes "x") ∷ []) ∷ ((codes "y") ∷ []) ∷ ((codes "z") ∷ []) ∷ []) ((((codes "q") ∷ []), 268435457) ∷ [])) → ⊥
unfolding head_of
follows_not_10 = λ h. absurd (omega (arith, h.table.0.small))

follows_8 : Follows (history_of said2) (commit 2 One ((codes "a") ∷ []) (((codes "x") ∷ []) ∷ ((codes "y") ∷ []) ∷ ((codes "z") ∷ []) ∷ []) ((((codes "q") ∷ []), 268435456) ∷ []))
unfolding head_of
follows_8 = record { graph = record { room = omega arith; goes_on = refl }; table = (record { dropped = refl; apart = refl; small = omega arith }, tt) }

follows_not_11 : Follows (history_of said2) (commit 3 One ((codes "a") ∷ []) [] []) → ⊥
unfolding head_of
follows_not_11 = λ h. absurd (omega (arith, h.graph.goes_on))

follows_9 : Follows (history_of said3) (move (to_branch (codes "try")))
unfolding head_of
follows_9 = record { graph = record { room = omega arith; goes_on = refl }; table = tt }

follows_not_12 : Follows (history_of said3) (commit 2 One ((codes "a") ∷ []) (((codes "q") ∷ []) ∷ []) []) → ⊥
unfolding head_of
follows_not_12 = λ h. absurd (false≢true h.table.0.dropped)

follows_not_13 : Follows (history_of said3) (commit 2 One ((codes "a") ∷ []) (((codes "x") ∷ []) ∷ ((codes "y") ∷ []) ∷ ((codes "z") ∷ []) ∷ []) ((((codes "q") ∷ []), 268435457) ∷ [])) → ⊥
unfolding head_of
follows_not_13 = λ h. absurd (omega (arith, h.table.0.small))

follows_10 : Follows (history_of said3) (commit 2 One ((codes "a") ∷ []) (((codes "x") ∷ []) ∷ ((codes "y") ∷ []) ∷ ((codes "z") ∷ []) ∷ []) ((((codes "q") ∷ []), 268435456) ∷ []))
unfolding head_of
follows_10 = record { graph = record { room = omega arith; goes_on = refl }; table = (record { dropped = refl; apart = refl; small = omega arith }, tt) }

follows_not_14 : Follows (history_of said3) (commit 3 One ((codes "a") ∷ []) [] []) → ⊥
unfolding head_of
follows_not_14 = λ h. absurd (omega (arith, h.graph.goes_on))

follows_11 : Follows (history_of said4) (commit 1 One ((codes "w = z") ∷ (codes "1") ∷ []) (((codes "z") ∷ []) ∷ []) ((((codes "w") ∷ (codes "z") ∷ []), 2) ∷ []))
unfolding head_of
follows_11 = record { graph = record { room = omega arith; goes_on = refl }; table = (record { dropped = refl; apart = refl; small = omega arith }, tt) }

follows_not_15 : Follows (history_of said4) (commit 1 One ((codes "a") ∷ []) (((codes "q") ∷ []) ∷ []) []) → ⊥
unfolding head_of
follows_not_15 = λ h. absurd (false≢true h.table.0.dropped)

follows_not_16 : Follows (history_of said4) (commit 1 One ((codes "a") ∷ []) (((codes "x") ∷ (codes "y") ∷ []) ∷ ((codes "z") ∷ []) ∷ []) ((((codes "q") ∷ []), 268435457) ∷ [])) → ⊥
unfolding head_of
follows_not_16 = λ h. absurd (omega (arith, h.table.0.small))

follows_12 : Follows (history_of said4) (commit 1 One ((codes "a") ∷ []) (((codes "x") ∷ (codes "y") ∷ []) ∷ ((codes "z") ∷ []) ∷ []) ((((codes "q") ∷ []), 268435456) ∷ []))
unfolding head_of
follows_12 = record { graph = record { room = omega arith; goes_on = refl }; table = (record { dropped = refl; apart = refl; small = omega arith }, tt) }

follows_not_17 : Follows (history_of said4) (commit 2 One ((codes "a") ∷ []) [] []) → ⊥
unfolding head_of
follows_not_17 = λ h. absurd (omega (arith, h.graph.goes_on))

follows_13 : Follows (history_of said5) (move (to_commit 2))
unfolding head_of
follows_13 = record { graph = record { room = omega arith; goes_on = omega arith }; table = tt }

follows_not_18 : Follows (history_of said5) (commit 3 One ((codes "a") ∷ []) (((codes "q") ∷ []) ∷ []) []) → ⊥
unfolding head_of
follows_not_18 = λ h. absurd (false≢true h.table.0.dropped)

follows_not_19 : Follows (history_of said5) (commit 3 One ((codes "a") ∷ []) (((codes "w") ∷ (codes "z") ∷ []) ∷ ((codes "x") ∷ (codes "y") ∷ []) ∷ []) ((((codes "q") ∷ []), 268435457) ∷ [])) → ⊥
unfolding head_of
follows_not_19 = λ h. absurd (omega (arith, h.table.0.small))

follows_14 : Follows (history_of said5) (commit 3 One ((codes "a") ∷ []) (((codes "w") ∷ (codes "z") ∷ []) ∷ ((codes "x") ∷ (codes "y") ∷ []) ∷ []) ((((codes "q") ∷ []), 268435456) ∷ []))
unfolding head_of
follows_14 = record { graph = record { room = omega arith; goes_on = refl }; table = (record { dropped = refl; apart = refl; small = omega arith }, tt) }

follows_not_20 : Follows (history_of said5) (commit 4 One ((codes "a") ∷ []) [] []) → ⊥
unfolding head_of
follows_not_20 = λ h. absurd (omega (arith, h.graph.goes_on))

follows_15 : Follows (history_of said6) (commit 2 One ([] ∷ []) [] [])
unfolding head_of
follows_15 = record { graph = record { room = omega arith; goes_on = refl }; table = (record { dropped = refl; apart = refl; small = omega arith }, tt) }

follows_not_21 : Follows (history_of said6) (commit 2 One ((codes "a") ∷ []) (((codes "q") ∷ []) ∷ []) []) → ⊥
unfolding head_of
follows_not_21 = λ h. absurd (false≢true h.table.0.dropped)

follows_not_22 : Follows (history_of said6) (commit 2 One ((codes "a") ∷ []) (((codes "x") ∷ []) ∷ ((codes "y") ∷ []) ∷ ((codes "z") ∷ []) ∷ []) ((((codes "q") ∷ []), 268435457) ∷ [])) → ⊥
unfolding head_of
follows_not_22 = λ h. absurd (omega (arith, h.table.0.small))

follows_16 : Follows (history_of said6) (commit 2 One ((codes "a") ∷ []) (((codes "x") ∷ []) ∷ ((codes "y") ∷ []) ∷ ((codes "z") ∷ []) ∷ []) ((((codes "q") ∷ []), 268435456) ∷ []))
unfolding head_of
follows_16 = record { graph = record { room = omega arith; goes_on = refl }; table = (record { dropped = refl; apart = refl; small = omega arith }, tt) }

follows_not_23 : Follows (history_of said6) (commit 3 One ((codes "a") ∷ []) [] []) → ⊥
unfolding head_of
follows_not_23 = λ h. absurd (omega (arith, h.graph.goes_on))

follows_17 : Follows (history_of said7) (move (to_branch (codes "main")))
unfolding head_of
follows_17 = record { graph = record { room = omega arith; goes_on = refl }; table = tt }

follows_not_24 : Follows (history_of said7) (commit 4 One ((codes "a") ∷ []) (((codes "q") ∷ []) ∷ []) []) → ⊥
unfolding head_of
follows_not_24 = λ h. absurd (false≢true h.table.0.dropped)

follows_not_25 : Follows (history_of said7) (commit 4 One ((codes "a") ∷ []) (((codes "x") ∷ []) ∷ ((codes "y") ∷ []) ∷ ((codes "z") ∷ []) ∷ []) ((((codes "q") ∷ []), 268435457) ∷ [])) → ⊥
unfolding head_of
follows_not_25 = λ h. absurd (omega (arith, h.table.0.small))

follows_18 : Follows (history_of said7) (commit 4 One ((codes "a") ∷ []) (((codes "x") ∷ []) ∷ ((codes "y") ∷ []) ∷ ((codes "z") ∷ []) ∷ []) ((((codes "q") ∷ []), 268435456) ∷ []))
unfolding head_of
follows_18 = record { graph = record { room = omega arith; goes_on = refl }; table = (record { dropped = refl; apart = refl; small = omega arith }, tt) }

follows_not_26 : Follows (history_of said7) (commit 5 One ((codes "a") ∷ []) [] []) → ⊥
unfolding head_of
follows_not_26 = λ h. absurd (omega (arith, h.graph.goes_on))

follows_19 : Follows (history_of said8) (commit 2 One ((codes "del x, y, z") ∷ []) (((codes "x") ∷ []) ∷ ((codes "y") ∷ []) ∷ ((codes "z") ∷ []) ∷ []) [])
unfolding head_of
follows_19 = record { graph = record { room = omega arith; goes_on = refl }; table = (record { dropped = refl; apart = refl; small = omega arith }, tt) }

follows_not_27 : Follows (history_of said8) (commit 2 One ((codes "a") ∷ []) (((codes "q") ∷ []) ∷ []) []) → ⊥
unfolding head_of
follows_not_27 = λ h. absurd (false≢true h.table.0.dropped)

follows_not_28 : Follows (history_of said8) (commit 2 One ((codes "a") ∷ []) (((codes "x") ∷ []) ∷ ((codes "y") ∷ []) ∷ ((codes "z") ∷ []) ∷ []) ((((codes "q") ∷ []), 268435457) ∷ [])) → ⊥
unfolding head_of
follows_not_28 = λ h. absurd (omega (arith, h.table.0.small))

follows_20 : Follows (history_of said8) (commit 2 One ((codes "a") ∷ []) (((codes "x") ∷ []) ∷ ((codes "y") ∷ []) ∷ ((codes "z") ∷ []) ∷ []) ((((codes "q") ∷ []), 268435456) ∷ []))
unfolding head_of
follows_20 = record { graph = record { room = omega arith; goes_on = refl }; table = (record { dropped = refl; apart = refl; small = omega arith }, tt) }

follows_not_29 : Follows (history_of said8) (commit 3 One ((codes "a") ∷ []) [] []) → ⊥
unfolding head_of
follows_not_29 = λ h. absurd (omega (arith, h.graph.goes_on))

follows_21 : Follows (history_of said9) (name (codes "Z-9_") 3)
unfolding head_of
follows_21 = record { graph = record { room = omega arith; goes_on = (refl, refl, omega arith) }; table = tt }

follows_not_30 : Follows (history_of said9) (commit 5 One ((codes "a") ∷ []) (((codes "q") ∷ []) ∷ []) []) → ⊥
unfolding head_of
follows_not_30 = λ h. absurd (false≢true h.table.0.dropped)

follows_not_31 : Follows (history_of said9) (commit 5 One ((codes "a") ∷ []) [] ((((codes "q") ∷ []), 268435457) ∷ [])) → ⊥
unfolding head_of
follows_not_31 = λ h. absurd (omega (arith, h.table.0.small))

follows_22 : Follows (history_of said9) (commit 5 One ((codes "a") ∷ []) [] ((((codes "q") ∷ []), 268435456) ∷ []))
unfolding head_of
follows_22 = record { graph = record { room = omega arith; goes_on = refl }; table = (record { dropped = refl; apart = refl; small = omega arith }, tt) }

follows_not_32 : Follows (history_of said9) (commit 6 One ((codes "a") ∷ []) [] []) → ⊥
unfolding head_of
follows_not_32 = λ h. absurd (omega (arith, h.graph.goes_on))

follows_23 : Follows (history_of said10) (move (to_commit 0))
unfolding head_of
follows_23 = record { graph = record { room = omega arith; goes_on = omega arith }; table = tt }

follows_not_33 : Follows (history_of said10) (commit 5 One ((codes "a") ∷ []) (((codes "q") ∷ []) ∷ []) []) → ⊥
unfolding head_of
follows_not_33 = λ h. absurd (false≢true h.table.0.dropped)

follows_not_34 : Follows (history_of said10) (commit 5 One ((codes "a") ∷ []) [] ((((codes "q") ∷ []), 268435457) ∷ [])) → ⊥
unfolding head_of
follows_not_34 = λ h. absurd (omega (arith, h.table.0.small))

follows_24 : Follows (history_of said10) (commit 5 One ((codes "a") ∷ []) [] ((((codes "q") ∷ []), 268435456) ∷ []))
unfolding head_of
follows_24 = record { graph = record { room = omega arith; goes_on = refl }; table = (record { dropped = refl; apart = refl; small = omega arith }, tt) }

follows_not_35 : Follows (history_of said10) (commit 6 One ((codes "a") ∷ []) [] []) → ⊥
unfolding head_of
follows_not_35 = λ h. absurd (omega (arith, h.graph.goes_on))

follows_25 : Follows (history_of said11) (commit 0 One ((codes "a = b = 1") ∷ []) [] ((((codes "a") ∷ []), 1) ∷ (((codes "b") ∷ []), 0) ∷ []))
unfolding head_of
follows_25 = record { graph = record { room = omega arith; goes_on = refl }; table = (record { dropped = refl; apart = refl; small = omega arith }, tt) }

follows_not_36 : Follows (history_of said11) (commit 0 One ((codes "a") ∷ []) (((codes "q") ∷ []) ∷ []) []) → ⊥
unfolding head_of
follows_not_36 = λ h. absurd (false≢true h.table.0.dropped)

follows_not_37 : Follows (history_of said11) (commit 0 One ((codes "a") ∷ []) [] ((((codes "q") ∷ []), 268435457) ∷ [])) → ⊥
unfolding head_of
follows_not_37 = λ h. absurd (omega (arith, h.table.0.small))

follows_26 : Follows (history_of said11) (commit 0 One ((codes "a") ∷ []) [] ((((codes "q") ∷ []), 268435456) ∷ []))
unfolding head_of
follows_26 = record { graph = record { room = omega arith; goes_on = refl }; table = (record { dropped = refl; apart = refl; small = omega arith }, tt) }

follows_not_38 : Follows (history_of said11) (commit 1 One ((codes "a") ∷ []) [] []) → ⊥
unfolding head_of
follows_not_38 = λ h. absurd (omega (arith, h.graph.goes_on))

follows_27 : Follows (history_of said12) (move (to_branch (codes "Z-9_")))
unfolding head_of
follows_27 = record { graph = record { room = omega arith; goes_on = refl }; table = tt }

follows_not_39 : Follows (history_of said12) (commit 6 One ((codes "a") ∷ []) (((codes "q") ∷ []) ∷ []) []) → ⊥
unfolding head_of
follows_not_39 = λ h. absurd (false≢true h.table.0.dropped)

follows_not_40 : Follows (history_of said12) (commit 6 One ((codes "a") ∷ []) (((codes "a") ∷ []) ∷ ((codes "b") ∷ []) ∷ []) ((((codes "q") ∷ []), 268435457) ∷ [])) → ⊥
unfolding head_of
follows_not_40 = λ h. absurd (omega (arith, h.table.0.small))

follows_28 : Follows (history_of said12) (commit 6 One ((codes "a") ∷ []) (((codes "a") ∷ []) ∷ ((codes "b") ∷ []) ∷ []) ((((codes "q") ∷ []), 268435456) ∷ []))
unfolding head_of
follows_28 = record { graph = record { room = omega arith; goes_on = refl }; table = (record { dropped = refl; apart = refl; small = omega arith }, tt) }

follows_not_41 : Follows (history_of said12) (commit 7 One ((codes "a") ∷ []) [] []) → ⊥
unfolding head_of
follows_not_41 = λ h. absurd (omega (arith, h.graph.goes_on))

follows_not_42 : Follows (history_of said13) (commit 3 One ((codes "y = w") ∷ []) (((codes "w") ∷ (codes "z") ∷ []) ∷ []) ((((codes "w") ∷ (codes "y") ∷ (codes "z") ∷ []), 1) ∷ [])) → ⊥
unfolding head_of
follows_not_42 = λ h. absurd (false≢true h.table.0.apart)

follows_not_43 : Follows (history_of said13) (commit 3 One ((codes "a") ∷ []) (((codes "q") ∷ []) ∷ []) []) → ⊥
unfolding head_of
follows_not_43 = λ h. absurd (false≢true h.table.0.dropped)

follows_not_44 : Follows (history_of said13) (commit 3 One ((codes "a") ∷ []) (((codes "w") ∷ (codes "z") ∷ []) ∷ ((codes "x") ∷ (codes "y") ∷ []) ∷ []) ((((codes "q") ∷ []), 268435457) ∷ [])) → ⊥
unfolding head_of
follows_not_44 = λ h. absurd (omega (arith, h.table.0.small))

follows_29 : Follows (history_of said13) (commit 3 One ((codes "a") ∷ []) (((codes "w") ∷ (codes "z") ∷ []) ∷ ((codes "x") ∷ (codes "y") ∷ []) ∷ []) ((((codes "q") ∷ []), 268435456) ∷ []))
unfolding head_of
follows_29 = record { graph = record { room = omega arith; goes_on = refl }; table = (record { dropped = refl; apart = refl; small = omega arith }, tt) }

follows_not_45 : Follows (history_of said13) (commit 4 One ((codes "a") ∷ []) [] []) → ⊥
unfolding head_of
follows_not_45 = λ h. absurd (omega (arith, h.graph.goes_on))

follows_not_46 : Follows (history_of said14) (commit 7 One ((codes "a") ∷ []) (((codes "q") ∷ []) ∷ []) []) → ⊥
unfolding head_of
follows_not_46 = λ h. absurd (false≢true h.table.0.dropped)

follows_not_47 : Follows (history_of said14) (commit 7 One ((codes "a") ∷ []) (((codes "w") ∷ (codes "y") ∷ (codes "z") ∷ []) ∷ ((codes "x") ∷ (codes "y") ∷ []) ∷ []) ((((codes "q") ∷ []), 268435457) ∷ [])) → ⊥
unfolding head_of
follows_not_47 = λ h. absurd (omega (arith, h.table.0.small))

follows_30 : Follows (history_of said14) (commit 7 One ((codes "a") ∷ []) (((codes "w") ∷ (codes "y") ∷ (codes "z") ∷ []) ∷ ((codes "x") ∷ (codes "y") ∷ []) ∷ []) ((((codes "q") ∷ []), 268435456) ∷ []))
unfolding head_of
follows_30 = record { graph = record { room = omega arith; goes_on = refl }; table = (record { dropped = refl; apart = refl; small = omega arith }, tt) }

follows_not_48 : Follows (history_of said14) (commit 8 One ((codes "a") ∷ []) [] []) → ⊥
unfolding head_of
follows_not_48 = λ h. absurd (omega (arith, h.graph.goes_on))

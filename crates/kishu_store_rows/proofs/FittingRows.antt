-- Which records fit the graph of those before them: computed on the definitions. Made by tools/rows/table_rows.py.
use Rattle.std.specs.Prelude.{◌≡◌, ℕ, true, false, [], ◌∷◌, codes, Some, None, refl}
use Rattle.std.proofs.Common.{arith}
use Rattle.std.proofs.lemmas.Bool.{false≢true}
use Rattle.kishu_language.specs.declared.profile.Profile.TheVariants.{One}
use Rattle.kishu_store.specs.Entries.{commit, move, name, to_commit, to_branch}
use Rattle.kishu_store.specs.Fitting.{Fits}
use Rattle.kishu_store.specs.Graph.{new_graph}
use Rattle.kishu_store.specs.Holds.{graph_of}
use Rattle.kishu_store_rows.proofs.Records.{said0, said3, said6, said10}

some_none : {n : ℕ} → Some n ≡ None → ⊥
some_none e = cc

-- ---- behind the first 0 records

fits_1 : Fits (graph_of said0) (move (to_commit 0))
fits_1 = record { room = omega arith; goes_on = omega arith }

fits_not_1 : Fits (graph_of said0) (move (to_commit 1)) → ⊥
fits_not_1 = λ h. absurd (omega (arith, h.goes_on))

fits_not_2 : Fits (graph_of said0) (move (to_commit 3)) → ⊥
fits_not_2 = λ h. absurd (omega (arith, h.goes_on))

fits_not_3 : Fits (graph_of said0) (move (to_commit 6)) → ⊥
fits_not_3 = λ h. absurd (omega (arith, h.goes_on))

fits_not_4 : Fits (graph_of said0) (move (to_commit 7)) → ⊥
fits_not_4 = λ h. absurd (omega (arith, h.goes_on))

fits_2 : Fits (graph_of said0) (move (to_branch (codes "main")))
fits_2 = record { room = omega arith; goes_on = refl }

fits_not_5 : Fits (graph_of said0) (move (to_branch (codes "try"))) → ⊥
fits_not_5 = λ h. absurd (false≢true h.goes_on)

fits_not_6 : Fits (graph_of said0) (move (to_branch (codes "Z-9_"))) → ⊥
fits_not_6 = λ h. absurd (false≢true h.goes_on)

fits_not_7 : Fits (graph_of said0) (move (to_branch (codes "mai"))) → ⊥
fits_not_7 = λ h. absurd (false≢true h.goes_on)

fits_3 : Fits (graph_of said0) (name (codes "new") 0)
fits_3 = record { room = omega arith; goes_on = (refl, refl, omega arith) }

fits_not_8 : Fits (graph_of said0) (name (codes "main") 0) → ⊥
fits_not_8 = λ h. absurd (some_none h.goes_on.1)

fits_4 : Fits (graph_of said0) (name (codes "try") 0)
fits_4 = record { room = omega arith; goes_on = (refl, refl, omega arith) }

fits_not_9 : Fits (graph_of said0) (name (codes "9") 0) → ⊥
fits_not_9 = λ h. absurd (false≢true h.goes_on.0)

fits_not_10 : Fits (graph_of said0) (name [] 0) → ⊥
fits_not_10 = λ h. absurd (false≢true h.goes_on.0)

fits_not_11 : Fits (graph_of said0) (name (codes "a") 9) → ⊥
fits_not_11 = λ h. absurd (omega (arith, h.goes_on.2))

fits_not_12 : Fits (graph_of said0) (name (codes "a b") 9) → ⊥
fits_not_12 = λ h. absurd (false≢true h.goes_on.0)

fits_not_13 : Fits (graph_of said0) (name (codes "main") 9) → ⊥
fits_not_13 = λ h. absurd (some_none h.goes_on.1)

fits_5 : Fits (graph_of said0) (commit 0 One ((codes "a") ∷ []) [] [])
fits_5 = record { room = omega arith; goes_on = refl }

fits_not_14 : Fits (graph_of said0) (commit 2 One ((codes "a") ∷ []) [] []) → ⊥
fits_not_14 = λ h. absurd (omega (arith, h.goes_on))

fits_not_15 : Fits (graph_of said0) (commit 3 One ((codes "a") ∷ []) [] []) → ⊥
fits_not_15 = λ h. absurd (omega (arith, h.goes_on))

-- ---- behind the first 3 records

fits_6 : Fits (graph_of said3) (move (to_commit 0))
fits_6 = record { room = omega arith; goes_on = omega arith }

fits_7 : Fits (graph_of said3) (move (to_commit 1))
fits_7 = record { room = omega arith; goes_on = omega arith }

fits_not_16 : Fits (graph_of said3) (move (to_commit 3)) → ⊥
fits_not_16 = λ h. absurd (omega (arith, h.goes_on))

fits_not_17 : Fits (graph_of said3) (move (to_commit 6)) → ⊥
fits_not_17 = λ h. absurd (omega (arith, h.goes_on))

fits_not_18 : Fits (graph_of said3) (move (to_commit 7)) → ⊥
fits_not_18 = λ h. absurd (omega (arith, h.goes_on))

fits_8 : Fits (graph_of said3) (move (to_branch (codes "main")))
fits_8 = record { room = omega arith; goes_on = refl }

fits_9 : Fits (graph_of said3) (move (to_branch (codes "try")))
fits_9 = record { room = omega arith; goes_on = refl }

fits_not_19 : Fits (graph_of said3) (move (to_branch (codes "Z-9_"))) → ⊥
fits_not_19 = λ h. absurd (false≢true h.goes_on)

fits_not_20 : Fits (graph_of said3) (move (to_branch (codes "mai"))) → ⊥
fits_not_20 = λ h. absurd (false≢true h.goes_on)

fits_10 : Fits (graph_of said3) (name (codes "new") 0)
fits_10 = record { room = omega arith; goes_on = (refl, refl, omega arith) }

fits_not_21 : Fits (graph_of said3) (name (codes "main") 0) → ⊥
fits_not_21 = λ h. absurd (some_none h.goes_on.1)

fits_not_22 : Fits (graph_of said3) (name (codes "try") 0) → ⊥
fits_not_22 = λ h. absurd (some_none h.goes_on.1)

fits_not_23 : Fits (graph_of said3) (name (codes "9") 0) → ⊥
fits_not_23 = λ h. absurd (false≢true h.goes_on.0)

fits_not_24 : Fits (graph_of said3) (name [] 0) → ⊥
fits_not_24 = λ h. absurd (false≢true h.goes_on.0)

fits_not_25 : Fits (graph_of said3) (name (codes "a") 9) → ⊥
fits_not_25 = λ h. absurd (omega (arith, h.goes_on.2))

fits_not_26 : Fits (graph_of said3) (name (codes "a b") 9) → ⊥
fits_not_26 = λ h. absurd (false≢true h.goes_on.0)

fits_not_27 : Fits (graph_of said3) (name (codes "main") 9) → ⊥
fits_not_27 = λ h. absurd (some_none h.goes_on.1)

fits_not_28 : Fits (graph_of said3) (commit 0 One ((codes "a") ∷ []) [] []) → ⊥
fits_not_28 = λ h. absurd (omega (arith, h.goes_on))

fits_11 : Fits (graph_of said3) (commit 2 One ((codes "a") ∷ []) [] [])
fits_11 = record { room = omega arith; goes_on = refl }

fits_not_29 : Fits (graph_of said3) (commit 3 One ((codes "a") ∷ []) [] []) → ⊥
fits_not_29 = λ h. absurd (omega (arith, h.goes_on))

-- ---- behind the first 6 records

fits_12 : Fits (graph_of said6) (move (to_commit 0))
fits_12 = record { room = omega arith; goes_on = omega arith }

fits_13 : Fits (graph_of said6) (move (to_commit 1))
fits_13 = record { room = omega arith; goes_on = omega arith }

fits_14 : Fits (graph_of said6) (move (to_commit 3))
fits_14 = record { room = omega arith; goes_on = omega arith }

fits_not_30 : Fits (graph_of said6) (move (to_commit 6)) → ⊥
fits_not_30 = λ h. absurd (omega (arith, h.goes_on))

fits_not_31 : Fits (graph_of said6) (move (to_commit 7)) → ⊥
fits_not_31 = λ h. absurd (omega (arith, h.goes_on))

fits_15 : Fits (graph_of said6) (move (to_branch (codes "main")))
fits_15 = record { room = omega arith; goes_on = refl }

fits_16 : Fits (graph_of said6) (move (to_branch (codes "try")))
fits_16 = record { room = omega arith; goes_on = refl }

fits_not_32 : Fits (graph_of said6) (move (to_branch (codes "Z-9_"))) → ⊥
fits_not_32 = λ h. absurd (false≢true h.goes_on)

fits_not_33 : Fits (graph_of said6) (move (to_branch (codes "mai"))) → ⊥
fits_not_33 = λ h. absurd (false≢true h.goes_on)

fits_17 : Fits (graph_of said6) (name (codes "new") 0)
fits_17 = record { room = omega arith; goes_on = (refl, refl, omega arith) }

fits_not_34 : Fits (graph_of said6) (name (codes "main") 0) → ⊥
fits_not_34 = λ h. absurd (some_none h.goes_on.1)

fits_not_35 : Fits (graph_of said6) (name (codes "try") 0) → ⊥
fits_not_35 = λ h. absurd (some_none h.goes_on.1)

fits_not_36 : Fits (graph_of said6) (name (codes "9") 0) → ⊥
fits_not_36 = λ h. absurd (false≢true h.goes_on.0)

fits_not_37 : Fits (graph_of said6) (name [] 0) → ⊥
fits_not_37 = λ h. absurd (false≢true h.goes_on.0)

fits_not_38 : Fits (graph_of said6) (name (codes "a") 9) → ⊥
fits_not_38 = λ h. absurd (omega (arith, h.goes_on.2))

fits_not_39 : Fits (graph_of said6) (name (codes "a b") 9) → ⊥
fits_not_39 = λ h. absurd (false≢true h.goes_on.0)

fits_not_40 : Fits (graph_of said6) (name (codes "main") 9) → ⊥
fits_not_40 = λ h. absurd (some_none h.goes_on.1)

fits_not_41 : Fits (graph_of said6) (commit 0 One ((codes "a") ∷ []) [] []) → ⊥
fits_not_41 = λ h. absurd (omega (arith, h.goes_on))

fits_18 : Fits (graph_of said6) (commit 2 One ((codes "a") ∷ []) [] [])
fits_18 = record { room = omega arith; goes_on = refl }

fits_not_42 : Fits (graph_of said6) (commit 3 One ((codes "a") ∷ []) [] []) → ⊥
fits_not_42 = λ h. absurd (omega (arith, h.goes_on))

-- ---- behind the first 10 records

fits_19 : Fits (graph_of said10) (move (to_commit 0))
fits_19 = record { room = omega arith; goes_on = omega arith }

fits_20 : Fits (graph_of said10) (move (to_commit 1))
fits_20 = record { room = omega arith; goes_on = omega arith }

fits_21 : Fits (graph_of said10) (move (to_commit 3))
fits_21 = record { room = omega arith; goes_on = omega arith }

fits_not_43 : Fits (graph_of said10) (move (to_commit 6)) → ⊥
fits_not_43 = λ h. absurd (omega (arith, h.goes_on))

fits_not_44 : Fits (graph_of said10) (move (to_commit 7)) → ⊥
fits_not_44 = λ h. absurd (omega (arith, h.goes_on))

fits_22 : Fits (graph_of said10) (move (to_branch (codes "main")))
fits_22 = record { room = omega arith; goes_on = refl }

fits_23 : Fits (graph_of said10) (move (to_branch (codes "try")))
fits_23 = record { room = omega arith; goes_on = refl }

fits_24 : Fits (graph_of said10) (move (to_branch (codes "Z-9_")))
fits_24 = record { room = omega arith; goes_on = refl }

fits_not_45 : Fits (graph_of said10) (move (to_branch (codes "mai"))) → ⊥
fits_not_45 = λ h. absurd (false≢true h.goes_on)

fits_25 : Fits (graph_of said10) (name (codes "new") 0)
fits_25 = record { room = omega arith; goes_on = (refl, refl, omega arith) }

fits_not_46 : Fits (graph_of said10) (name (codes "main") 0) → ⊥
fits_not_46 = λ h. absurd (some_none h.goes_on.1)

fits_not_47 : Fits (graph_of said10) (name (codes "try") 0) → ⊥
fits_not_47 = λ h. absurd (some_none h.goes_on.1)

fits_not_48 : Fits (graph_of said10) (name (codes "9") 0) → ⊥
fits_not_48 = λ h. absurd (false≢true h.goes_on.0)

fits_not_49 : Fits (graph_of said10) (name [] 0) → ⊥
fits_not_49 = λ h. absurd (false≢true h.goes_on.0)

fits_not_50 : Fits (graph_of said10) (name (codes "a") 9) → ⊥
fits_not_50 = λ h. absurd (omega (arith, h.goes_on.2))

fits_not_51 : Fits (graph_of said10) (name (codes "a b") 9) → ⊥
fits_not_51 = λ h. absurd (false≢true h.goes_on.0)

fits_not_52 : Fits (graph_of said10) (name (codes "main") 9) → ⊥
fits_not_52 = λ h. absurd (some_none h.goes_on.1)

fits_not_53 : Fits (graph_of said10) (commit 0 One ((codes "a") ∷ []) [] []) → ⊥
fits_not_53 = λ h. absurd (omega (arith, h.goes_on))

fits_not_54 : Fits (graph_of said10) (commit 2 One ((codes "a") ∷ []) [] []) → ⊥
fits_not_54 = λ h. absurd (omega (arith, h.goes_on))

fits_not_55 : Fits (graph_of said10) (commit 3 One ((codes "a") ∷ []) [] []) → ⊥
fits_not_55 = λ h. absurd (omega (arith, h.goes_on))

-- ---- a store has room for 1,000,000 records

fits_26 : Fits (record new_graph { records = 999999 }) (move (to_branch (codes "main")))
fits_26 = record { room = omega arith; goes_on = refl }

fits_27 : Fits (record new_graph { records = 999999 }) (move (to_commit 0))
fits_27 = record { room = omega arith; goes_on = omega arith }

fits_28 : Fits (record new_graph { records = 999999 }) (name (codes "try") 0)
fits_28 = record { room = omega arith; goes_on = (refl, refl, omega arith) }

fits_29 : Fits (record new_graph { records = 999999 }) (commit 0 One ((codes "a") ∷ []) [] [])
fits_29 = record { room = omega arith; goes_on = refl }

fits_not_56 : Fits (record new_graph { records = 1000000 }) (move (to_branch (codes "main"))) → ⊥
fits_not_56 = λ h. absurd (omega (arith, h.room))

fits_not_57 : Fits (record new_graph { records = 1000000 }) (move (to_commit 0)) → ⊥
fits_not_57 = λ h. absurd (omega (arith, h.room))

fits_not_58 : Fits (record new_graph { records = 1000000 }) (name (codes "try") 0) → ⊥
fits_not_58 = λ h. absurd (omega (arith, h.room))

fits_not_59 : Fits (record new_graph { records = 1000000 }) (commit 0 One ((codes "a") ∷ []) [] []) → ⊥
fits_not_59 = λ h. absurd (omega (arith, h.room))

fits_not_60 : Fits (record new_graph { records = 1000001 }) (move (to_branch (codes "main"))) → ⊥
fits_not_60 = λ h. absurd (omega (arith, h.room))

fits_not_61 : Fits (record new_graph { records = 1000001 }) (move (to_commit 0)) → ⊥
fits_not_61 = λ h. absurd (omega (arith, h.room))

fits_not_62 : Fits (record new_graph { records = 1000001 }) (name (codes "try") 0) → ⊥
fits_not_62 = λ h. absurd (omega (arith, h.room))

fits_not_63 : Fits (record new_graph { records = 1000001 }) (commit 0 One ((codes "a") ∷ []) [] []) → ⊥
fits_not_63 = λ h. absurd (omega (arith, h.room))

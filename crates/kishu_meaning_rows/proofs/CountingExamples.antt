-- What counts its steps, and how it ends: computed on the definition. Made by tools/rows/state_rows.py.
use Rattle.std.proofs.Common.{◌≡◌, refl, [], ◌∷◌}
use Rattle.std.specs.Prelude.{codes, ℕ}
use Rattle.kishu_meaning.specs.values.Values.{text, list}
use Rattle.kishu_meaning_laws.specs.Bare.{bare}
use Rattle.kishu_meaning.specs.moments.Moment.{fresh, fine, raised, stopped}
use Rattle.kishu_meaning.specs.moments.Counting.{◌>>=◌, ◌>>◌, give, spend, stop_deep, answer, too_deep, spent, counted}

counted_1 : give {A = ℕ} 7 0 ≡ answer 7 0
counted_1 = refl

counted_2 : give {A = ℕ} 7 5 ≡ answer 7 5
counted_2 = refl

counted_3 : stop_deep {A = ℕ} 0 ≡ too_deep 0
counted_3 = refl

counted_4 : stop_deep {A = ℕ} 5 ≡ too_deep 5
counted_4 = refl

counted_5 : spend 0 0 ≡ answer tt 0
counted_5 = refl

counted_6 : spend 0 1 ≡ answer tt 1
counted_6 = refl

counted_7 : spend 0 2 ≡ answer tt 2
counted_7 = refl

counted_8 : spend 0 3 ≡ answer tt 3
counted_8 = refl

counted_9 : spend 0 4 ≡ answer tt 4
counted_9 = refl

counted_10 : spend 1 0 ≡ spent 0
counted_10 = refl

counted_11 : spend 1 1 ≡ answer tt 0
counted_11 = refl

counted_12 : spend 1 2 ≡ answer tt 1
counted_12 = refl

counted_13 : spend 1 3 ≡ answer tt 2
counted_13 = refl

counted_14 : spend 1 4 ≡ answer tt 3
counted_14 = refl

counted_15 : spend 3 0 ≡ spent 0
counted_15 = refl

counted_16 : spend 3 1 ≡ spent 0
counted_16 = refl

counted_17 : spend 3 2 ≡ spent 0
counted_17 = refl

counted_18 : spend 3 3 ≡ answer tt 0
counted_18 = refl

counted_19 : spend 3 4 ≡ answer tt 1
counted_19 = refl

counted_20 : spend 1000000000000000000000000000000 0 ≡ spent 0
counted_20 = refl

counted_21 : spend 1000000000000000000000000000000 1 ≡ spent 0
counted_21 = refl

counted_22 : spend 1000000000000000000000000000000 2 ≡ spent 0
counted_22 = refl

counted_23 : spend 1000000000000000000000000000000 3 ≡ spent 0
counted_23 = refl

counted_24 : spend 1000000000000000000000000000000 4 ≡ spent 0
counted_24 = refl

counted_25 : (spend 1 >> spend 1) 2 ≡ answer tt 0
counted_25 = refl

counted_26 : (spend 1 >> spend 1) 1 ≡ spent 0
counted_26 = refl

counted_27 : (spend 2 >> spend 3) 5 ≡ answer tt 0
counted_27 = refl

counted_28 : (spend 2 >> spend 3) 4 ≡ spent 0
counted_28 = refl

counted_29 : (spend 5 >> spend 0) 4 ≡ spent 0
counted_29 = refl

counted_30 : (spend 0 >> spend 0) 0 ≡ answer tt 0
counted_30 = refl

counted_31 : (spend 3 >> spend 1) 2 ≡ spent 0
counted_31 = refl

counted_32 : (spend 1 >> give {A = ℕ} 7) 1 ≡ answer 7 0
counted_32 = refl

counted_33 : (spend 1 >> give {A = ℕ} 7) 0 ≡ spent 0
counted_33 = refl

counted_34 : (spend 4 >> give {A = ℕ} 7) 9 ≡ answer 7 5
counted_34 = refl

counted_35 : (give {A = ℕ} 3 >>= λ k. give (k ∷ [])) 4 ≡ answer (3 ∷ []) 4
counted_35 = refl

counted_36 : (stop_deep {A = ℕ} >>= λ k. spend 2) 4 ≡ too_deep 4
counted_36 = refl

counted_37 : (spend 2 >> stop_deep {A = ℕ}) 4 ≡ too_deep 2
counted_37 = refl

counted_38 : (spend 5 >> stop_deep {A = ℕ}) 4 ≡ spent 0
counted_38 = refl

counted_39 : (stop_deep {A = ℕ} >> spend 5) 4 ≡ too_deep 4
counted_39 = refl

counted_40 : counted {A = ℕ} (give 7) (bare [] 0 0) ≡ fine 7 (bare [] 0 0)
counted_40 = refl

counted_41 : counted (stop_deep {A = ℕ}) (bare [] 0 3) ≡ raised (fresh 21 (text (codes "depth limit reached") ∷ [])) (bare [] 0 3)
counted_41 = refl

counted_42 : counted (spend 2 >> stop_deep {A = ℕ}) (bare [] 0 3) ≡ stopped (bare [] 0 3)
counted_42 = refl

counted_43 : counted (spend 2) (bare (list [] ∷ []) 0 0) ≡ stopped (bare (list [] ∷ []) 0 0)
counted_43 = refl

counted_44 : counted {A = ℕ} (give 7) (bare [] 4 0) ≡ fine 7 (bare [] 4 0)
counted_44 = refl

counted_45 : counted (stop_deep {A = ℕ}) (bare [] 4 3) ≡ raised (fresh 21 (text (codes "depth limit reached") ∷ [])) (bare [] 4 3)
counted_45 = refl

counted_46 : counted (spend 2 >> stop_deep {A = ℕ}) (bare [] 4 3) ≡ raised (fresh 21 (text (codes "depth limit reached") ∷ [])) (bare [] 2 3)
counted_46 = refl

counted_47 : counted (spend 2) (bare (list [] ∷ []) 4 0) ≡ fine tt (bare (list [] ∷ []) 2 0)
counted_47 = refl

-- Where a statement leads: exceptions that are raised and caught, and the last block: computed on the definition. Made by tools/rows/call_rows.py.
use Rattle.std.proofs.Common.{◌≡◌, refl, [], ◌∷◌, true, false}
use Rattle.std.specs.Prelude.{pos, codes, Some, ℕ}
use Rattle.kishu_meaning.specs.values.Values.{none, integer, text, builtin, class, node, list, tuple, dict, exception}
use Rattle.kishu_meaning_laws.specs.Bare.{bare}
use Rattle.kishu_meaning.specs.moments.Moment.{fresh, thrown_object, ◌>>◌, give, throw, tick, fine, raised, stopped}
use Rattle.kishu_meaning.specs.cells.Ways.{onward, broke, continued, returned, go_on, turn_on, is_caught, throw_value, throw_again, object_of, attempt, finally}

way_1 : is_caught (fresh 11 []) (class 9) (bare [] 9 0) ≡ fine true (bare [] 9 0)
way_1 = refl

way_2 : is_caught (fresh 11 []) (class 11) (bare [] 9 0) ≡ fine true (bare [] 9 0)
way_2 = refl

way_3 : is_caught (fresh 11 []) (class 10) (bare [] 9 0) ≡ fine false (bare [] 9 0)
way_3 = refl

way_4 : is_caught (fresh 9 []) (class 11) (bare [] 9 0) ≡ fine false (bare [] 9 0)
way_4 = refl

way_5 : is_caught (fresh 16 []) (class 14) (bare [] 9 0) ≡ fine true (bare [] 9 0)
way_5 = refl

way_6 : is_caught (fresh 15 []) (class 14) (bare [] 9 0) ≡ fine true (bare [] 9 0)
way_6 = refl

way_7 : is_caught (fresh 15 []) (class 16) (bare [] 9 0) ≡ fine false (bare [] 9 0)
way_7 = refl

way_8 : is_caught (fresh 18 []) (class 17) (bare [] 9 0) ≡ fine true (bare [] 9 0)
way_8 = refl

way_9 : is_caught (fresh 17 []) (class 18) (bare [] 9 0) ≡ fine false (bare [] 9 0)
way_9 = refl

way_10 : is_caught (fresh 21 []) (class 19) (bare [] 9 0) ≡ fine true (bare [] 9 0)
way_10 = refl

way_11 : is_caught (fresh 20 []) (class 19) (bare [] 9 0) ≡ fine true (bare [] 9 0)
way_11 = refl

way_12 : is_caught (fresh 21 []) (class 20) (bare [] 9 0) ≡ fine false (bare [] 9 0)
way_12 = refl

way_13 : is_caught (fresh 24 []) (class 8) (bare [] 9 0) ≡ fine true (bare [] 9 0)
way_13 = refl

way_14 : is_caught (fresh 8 []) (class 24) (bare [] 9 0) ≡ fine false (bare [] 9 0)
way_14 = refl

way_15 : is_caught (fresh 23 []) (class 24) (bare [] 9 0) ≡ fine false (bare [] 9 0)
way_15 = refl

way_16 : is_caught (fresh 12 []) (class 12) (bare [] 9 0) ≡ fine true (bare [] 9 0)
way_16 = refl

way_17 : is_caught (fresh 24 []) (class 7) (bare [] 9 0) ≡ raised (fresh 23 (text (codes "exceptions must be exception classes or objects") ∷ [])) (bare [] 9 0)
way_17 = refl

way_18 : is_caught (fresh 24 []) (class 2) (bare [] 9 0) ≡ raised (fresh 23 (text (codes "exceptions must be exception classes or objects") ∷ [])) (bare [] 9 0)
way_18 = refl

way_19 : is_caught (fresh 24 []) none (bare [] 9 0) ≡ raised (fresh 23 (text (codes "exceptions must be exception classes or objects") ∷ [])) (bare [] 9 0)
way_19 = refl

way_20 : is_caught (fresh 24 []) (integer (pos 1)) (bare [] 9 0) ≡ raised (fresh 23 (text (codes "exceptions must be exception classes or objects") ∷ [])) (bare [] 9 0)
way_20 = refl

way_21 : is_caught (fresh 24 []) (text []) (bare [] 9 0) ≡ raised (fresh 23 (text (codes "exceptions must be exception classes or objects") ∷ [])) (bare [] 9 0)
way_21 = refl

way_22 : is_caught (fresh 24 []) (builtin 0) (bare [] 9 0) ≡ raised (fresh 23 (text (codes "exceptions must be exception classes or objects") ∷ [])) (bare [] 9 0)
way_22 = refl

way_23 : is_caught (fresh 24 []) (node 0) (bare (tuple [] ∷ []) 9 0) ≡ fine false (bare (tuple [] ∷ []) 9 0)
way_23 = refl

way_24 : is_caught (fresh 24 []) (node 0) (bare (tuple (class 24 ∷ []) ∷ []) 9 0) ≡ fine true (bare (tuple (class 24 ∷ []) ∷ []) 9 0)
way_24 = refl

way_25 : is_caught (fresh 24 []) (node 0) (bare (tuple (class 16 ∷ class 24 ∷ []) ∷ []) 9 0) ≡ fine true (bare (tuple (class 16 ∷ class 24 ∷ []) ∷ []) 9 0)
way_25 = refl

way_26 : is_caught (fresh 24 []) (node 0) (bare (tuple (class 16 ∷ class 15 ∷ []) ∷ []) 9 0) ≡ fine false (bare (tuple (class 16 ∷ class 15 ∷ []) ∷ []) 9 0)
way_26 = refl

way_27 : is_caught (fresh 16 []) (node 0) (bare (tuple (class 8 ∷ []) ∷ []) 9 0) ≡ fine true (bare (tuple (class 8 ∷ []) ∷ []) 9 0)
way_27 = refl

way_28 : is_caught (fresh 15 []) (node 0) (bare (tuple (class 14 ∷ class 9 ∷ []) ∷ []) 9 0) ≡ fine true (bare (tuple (class 14 ∷ class 9 ∷ []) ∷ []) 9 0)
way_28 = refl

way_29 : is_caught (fresh 24 []) (node 0) (bare ((list (class 24 ∷ [])) ∷ []) 9 0) ≡ raised (fresh 23 (text (codes "exceptions must be exception classes or objects") ∷ [])) (bare ((list (class 24 ∷ [])) ∷ []) 9 0)
way_29 = refl

way_30 : is_caught (fresh 24 []) (node 0) (bare ((tuple (class 24 ∷ none ∷ [])) ∷ []) 9 0) ≡ raised (fresh 23 (text (codes "exceptions must be exception classes or objects") ∷ [])) (bare ((tuple (class 24 ∷ none ∷ [])) ∷ []) 9 0)
way_30 = refl

way_31 : is_caught (fresh 24 []) (node 0) (bare ((tuple (class 24 ∷ class 1 ∷ [])) ∷ []) 9 0) ≡ raised (fresh 23 (text (codes "exceptions must be exception classes or objects") ∷ [])) (bare ((tuple (class 24 ∷ class 1 ∷ [])) ∷ []) 9 0)
way_31 = refl

way_32 : is_caught (fresh 24 []) (node 0) (bare ((exception 24 []) ∷ []) 9 0) ≡ raised (fresh 23 (text (codes "exceptions must be exception classes or objects") ∷ [])) (bare ((exception 24 []) ∷ []) 9 0)
way_32 = refl

way_33 : is_caught (fresh 24 []) (node 0) (bare ((dict []) ∷ []) 9 0) ≡ raised (fresh 23 (text (codes "exceptions must be exception classes or objects") ∷ [])) (bare ((dict []) ∷ []) 9 0)
way_33 = refl

way_34 : is_caught (thrown_object 0) (class 16) (bare (exception 16 [] ∷ []) 9 0) ≡ fine true (bare (exception 16 [] ∷ []) 9 0)
way_34 = refl

way_35 : is_caught (thrown_object 0) (class 14) (bare (exception 16 [] ∷ []) 9 0) ≡ fine true (bare (exception 16 [] ∷ []) 9 0)
way_35 = refl

way_36 : is_caught (thrown_object 0) (class 8) (bare (exception 16 [] ∷ []) 9 0) ≡ fine true (bare (exception 16 [] ∷ []) 9 0)
way_36 = refl

way_37 : is_caught (thrown_object 0) (class 15) (bare (exception 16 [] ∷ []) 9 0) ≡ fine false (bare (exception 16 [] ∷ []) 9 0)
way_37 = refl

way_38 : is_caught (thrown_object 0) (class 24) (bare (exception 16 [] ∷ []) 9 0) ≡ fine false (bare (exception 16 [] ∷ []) 9 0)
way_38 = refl

way_39 : throw_value {A = ℕ} (class 8) (bare [] 9 0) ≡ raised (thrown_object 0) (bare (exception 8 [] ∷ []) 9 0)
way_39 = refl

way_40 : throw_value {A = ℕ} (class 16) (bare [] 9 0) ≡ raised (thrown_object 0) (bare (exception 16 [] ∷ []) 9 0)
way_40 = refl

way_41 : throw_value {A = ℕ} (class 24) (bare [] 9 0) ≡ raised (thrown_object 0) (bare (exception 24 [] ∷ []) 9 0)
way_41 = refl

way_42 : throw_value {A = ℕ} (class 7) (bare [] 9 0) ≡ raised (fresh 23 (text (codes "exceptions must be exception classes or objects") ∷ [])) (bare [] 9 0)
way_42 = refl

way_43 : throw_value {A = ℕ} (class 5) (bare [] 9 0) ≡ raised (fresh 23 (text (codes "exceptions must be exception classes or objects") ∷ [])) (bare [] 9 0)
way_43 = refl

way_44 : throw_value {A = ℕ} none (bare [] 9 0) ≡ raised (fresh 23 (text (codes "exceptions must be exception classes or objects") ∷ [])) (bare [] 9 0)
way_44 = refl

way_45 : throw_value {A = ℕ} (integer (pos 1)) (bare [] 9 0) ≡ raised (fresh 23 (text (codes "exceptions must be exception classes or objects") ∷ [])) (bare [] 9 0)
way_45 = refl

way_46 : throw_value {A = ℕ} (text []) (bare [] 9 0) ≡ raised (fresh 23 (text (codes "exceptions must be exception classes or objects") ∷ [])) (bare [] 9 0)
way_46 = refl

way_47 : throw_value {A = ℕ} (builtin 10) (bare [] 9 0) ≡ raised (fresh 23 (text (codes "exceptions must be exception classes or objects") ∷ [])) (bare [] 9 0)
way_47 = refl

way_48 : throw_value {A = ℕ} (node 0) (bare [] 9 0) ≡ raised (fresh 23 (text (codes "exceptions must be exception classes or objects") ∷ [])) (bare [] 9 0)
way_48 = refl

way_49 : throw_value {A = ℕ} (node 0) (bare (exception 16 [] ∷ []) 9 0) ≡ raised (thrown_object 0) (bare (exception 16 [] ∷ []) 9 0)
way_49 = refl

way_50 : throw_again {A = ℕ} (bare [] 9 0) ≡ raised (fresh 23 (text (codes "exceptions must be exception classes or objects") ∷ [])) (bare [] 9 0)
way_50 = refl

way_51 : throw_again {A = ℕ} (record (bare (exception 16 [] ∷ []) 9 0) { handled = Some (node 0) }) ≡ raised (thrown_object 0) (record (bare (exception 16 [] ∷ []) 9 0) { handled = Some (node 0) })
way_51 = refl

way_52 : object_of (fresh 24 (none ∷ [])) (bare [] 9 0) ≡ fine (node 0) (bare (exception 24 (none ∷ []) ∷ []) 9 0)
way_52 = refl

way_53 : object_of (thrown_object 3) (bare [] 9 0) ≡ fine (node 3) (bare [] 9 0)
way_53 = refl

way_54 : go_on onward (give broke) (bare [] 9 0) ≡ fine broke (bare [] 9 0)
way_54 = refl

way_55 : turn_on onward (give (returned (integer (pos 1)))) (bare [] 9 0) ≡ fine (returned (integer (pos 1))) (bare [] 9 0)
way_55 = refl

way_56 : finally (give onward) (give onward) (bare [] 9 0) ≡ fine onward (bare [] 9 0)
way_56 = refl

way_57 : finally (give onward) (give broke) (bare [] 9 0) ≡ fine broke (bare [] 9 0)
way_57 = refl

way_58 : finally (give onward) (give continued) (bare [] 9 0) ≡ fine continued (bare [] 9 0)
way_58 = refl

way_59 : finally (give onward) (give (returned none)) (bare [] 9 0) ≡ fine (returned none) (bare [] 9 0)
way_59 = refl

way_60 : finally (throw (fresh 24 [])) (give onward) (bare [] 9 0) ≡ raised (fresh 24 []) (bare [] 9 0)
way_60 = refl

way_61 : finally (give onward) (throw (fresh 24 [])) (bare [] 9 0) ≡ raised (fresh 24 []) (bare [] 9 0)
way_61 = refl

way_62 : finally (λ s. stopped s) (give onward) (bare [] 9 0) ≡ stopped (bare [] 9 0)
way_62 = refl

way_63 : finally (give onward) (tick >> give onward) (bare [] 0 0) ≡ stopped (bare [] 0 0)
way_63 = refl

way_64 : attempt (give onward) (λ x. give broke) (give continued) (bare [] 9 0) ≡ fine continued (bare [] 9 0)
way_64 = refl

way_65 : go_on broke (give broke) (bare [] 9 0) ≡ fine broke (bare [] 9 0)
way_65 = refl

way_66 : turn_on broke (give (returned (integer (pos 1)))) (bare [] 9 0) ≡ fine onward (bare [] 9 0)
way_66 = refl

way_67 : finally (give broke) (give onward) (bare [] 9 0) ≡ fine broke (bare [] 9 0)
way_67 = refl

way_68 : finally (give broke) (give broke) (bare [] 9 0) ≡ fine broke (bare [] 9 0)
way_68 = refl

way_69 : finally (give broke) (give continued) (bare [] 9 0) ≡ fine continued (bare [] 9 0)
way_69 = refl

way_70 : finally (give broke) (give (returned none)) (bare [] 9 0) ≡ fine (returned none) (bare [] 9 0)
way_70 = refl

way_71 : finally (throw (fresh 24 [])) (give broke) (bare [] 9 0) ≡ fine broke (bare [] 9 0)
way_71 = refl

way_72 : finally (give broke) (throw (fresh 24 [])) (bare [] 9 0) ≡ raised (fresh 24 []) (bare [] 9 0)
way_72 = refl

way_73 : finally (λ s. stopped s) (give broke) (bare [] 9 0) ≡ stopped (bare [] 9 0)
way_73 = refl

way_74 : finally (give broke) (tick >> give onward) (bare [] 0 0) ≡ stopped (bare [] 0 0)
way_74 = refl

way_75 : attempt (give broke) (λ x. give broke) (give continued) (bare [] 9 0) ≡ fine broke (bare [] 9 0)
way_75 = refl

way_76 : go_on continued (give broke) (bare [] 9 0) ≡ fine continued (bare [] 9 0)
way_76 = refl

way_77 : turn_on continued (give (returned (integer (pos 1)))) (bare [] 9 0) ≡ fine (returned (integer (pos 1))) (bare [] 9 0)
way_77 = refl

way_78 : finally (give continued) (give onward) (bare [] 9 0) ≡ fine continued (bare [] 9 0)
way_78 = refl

way_79 : finally (give continued) (give broke) (bare [] 9 0) ≡ fine broke (bare [] 9 0)
way_79 = refl

way_80 : finally (give continued) (give continued) (bare [] 9 0) ≡ fine continued (bare [] 9 0)
way_80 = refl

way_81 : finally (give continued) (give (returned none)) (bare [] 9 0) ≡ fine (returned none) (bare [] 9 0)
way_81 = refl

way_82 : finally (throw (fresh 24 [])) (give continued) (bare [] 9 0) ≡ fine continued (bare [] 9 0)
way_82 = refl

way_83 : finally (give continued) (throw (fresh 24 [])) (bare [] 9 0) ≡ raised (fresh 24 []) (bare [] 9 0)
way_83 = refl

way_84 : finally (λ s. stopped s) (give continued) (bare [] 9 0) ≡ stopped (bare [] 9 0)
way_84 = refl

way_85 : finally (give continued) (tick >> give onward) (bare [] 0 0) ≡ stopped (bare [] 0 0)
way_85 = refl

way_86 : attempt (give continued) (λ x. give broke) (give continued) (bare [] 9 0) ≡ fine continued (bare [] 9 0)
way_86 = refl

way_87 : go_on (returned none) (give broke) (bare [] 9 0) ≡ fine (returned none) (bare [] 9 0)
way_87 = refl

way_88 : turn_on (returned none) (give (returned (integer (pos 1)))) (bare [] 9 0) ≡ fine (returned none) (bare [] 9 0)
way_88 = refl

way_89 : finally (give (returned none)) (give onward) (bare [] 9 0) ≡ fine (returned none) (bare [] 9 0)
way_89 = refl

way_90 : finally (give (returned none)) (give broke) (bare [] 9 0) ≡ fine broke (bare [] 9 0)
way_90 = refl

way_91 : finally (give (returned none)) (give continued) (bare [] 9 0) ≡ fine continued (bare [] 9 0)
way_91 = refl

way_92 : finally (give (returned none)) (give (returned none)) (bare [] 9 0) ≡ fine (returned none) (bare [] 9 0)
way_92 = refl

way_93 : finally (throw (fresh 24 [])) (give (returned none)) (bare [] 9 0) ≡ fine (returned none) (bare [] 9 0)
way_93 = refl

way_94 : finally (give (returned none)) (throw (fresh 24 [])) (bare [] 9 0) ≡ raised (fresh 24 []) (bare [] 9 0)
way_94 = refl

way_95 : finally (λ s. stopped s) (give (returned none)) (bare [] 9 0) ≡ stopped (bare [] 9 0)
way_95 = refl

way_96 : finally (give (returned none)) (tick >> give onward) (bare [] 0 0) ≡ stopped (bare [] 0 0)
way_96 = refl

way_97 : attempt (give (returned none)) (λ x. give broke) (give continued) (bare [] 9 0) ≡ fine (returned none) (bare [] 9 0)
way_97 = refl

way_98 : attempt (throw (fresh 24 [])) (λ x. give broke) (give continued) (bare [] 9 0) ≡ fine broke (bare [] 9 0)
way_98 = refl

way_99 : attempt (throw (fresh 24 [])) (λ x. throw x) (give continued) (bare [] 9 0) ≡ raised (fresh 24 []) (bare [] 9 0)
way_99 = refl

way_100 : attempt (λ s. stopped s) (λ x. give broke) (give continued) (bare [] 9 0) ≡ stopped (bare [] 9 0)
way_100 = refl

way_101 : attempt (give onward) (λ x. give broke) (throw (fresh 24 [])) (bare [] 9 0) ≡ raised (fresh 24 []) (bare [] 9 0)
way_101 = refl

-- What is done at a moment: steps, depth, names and nodes: computed on the definition. Made by tools/rows/state_rows.py.
use Rattle.std.proofs.Common.{◌≡◌, refl, [], ◌∷◌}
use Rattle.std.specs.Prelude.{pos, codes, Some, None, ℕ}
use Rattle.kishu_meaning.specs.values.Values.{Names, none, integer, text, builtin, class, node, list, tuple}
use Rattle.kishu_meaning_laws.specs.Bare.{bare}
use Rattle.kishu_meaning.specs.moments.Moment.{Moment, fresh, fine, raised, stopped, ◌>>=◌, ◌>>◌, give, raise, or_else, spend, tick, deeper, read, assign, delete, make, change, node_now, put_out}
use Rattle.kishu_meaning.specs.values.Nodes.{push}
use Rattle.kishu_meaning.specs.values.BuiltinNames.{builtin_names, class_names}
use Rattle.std.specs.Str.{chars}

abbrev now : Moment
now = record (bare (list [] ∷ []) 9 0) { names = (codes "a", integer (pos 1)) ∷ (codes "len", none) ∷ [] }

-- in a function whose local names are a and b
abbrev inner : Names → Moment
inner values = record now { locals = Some (record { own = codes "a" ∷ codes "b" ∷ []; values = values }) }

moment_1 : spend 0 (bare [] 0 0) ≡ fine tt (bare [] 0 0)
unfolding builtin_names class_names chars
moment_1 = refl

moment_2 : spend 1 (bare [] 0 0) ≡ stopped (bare [] 0 0)
unfolding builtin_names class_names chars
moment_2 = refl

moment_3 : spend 1 (bare [] 1 0) ≡ fine tt (bare [] 0 0)
unfolding builtin_names class_names chars
moment_3 = refl

moment_4 : spend 3 (bare [] 5 0) ≡ fine tt (bare [] 2 0)
unfolding builtin_names class_names chars
moment_4 = refl

moment_5 : spend 5 (bare [] 3 0) ≡ stopped (bare [] 0 0)
unfolding builtin_names class_names chars
moment_5 = refl

moment_6 : spend 1000000000000000000000000000000 (bare [] 4000000 0) ≡ stopped (bare [] 0 0)
unfolding builtin_names class_names chars
moment_6 = refl

moment_7 : tick (bare [] 1 0) ≡ fine tt (bare [] 0 0)
unfolding builtin_names class_names chars
moment_7 = refl

moment_8 : tick (bare [] 0 0) ≡ stopped (bare [] 0 0)
unfolding builtin_names class_names chars
moment_8 = refl

moment_9 : (tick >> tick) (bare [] 1 0) ≡ stopped (bare [] 0 0)
unfolding builtin_names class_names chars
moment_9 = refl

moment_10 : (tick >> tick) (bare [] 2 0) ≡ fine tt (bare [] 0 0)
unfolding builtin_names class_names chars
moment_10 = refl

moment_11 : deeper {A = ℕ} (give 7) (bare [] 5 0) ≡ fine 7 (bare [] 5 0)
unfolding builtin_names class_names chars
moment_11 = refl

moment_12 : deeper tick (bare [] 0 0) ≡ stopped (bare [] 0 0)
unfolding builtin_names class_names chars
moment_12 = refl

moment_13 : deeper (raise {A = ℕ} 24 []) (bare [] 5 0) ≡ raised (fresh 24 (text [] ∷ [])) (bare [] 5 0)
unfolding builtin_names class_names chars
moment_13 = refl

moment_14 : deeper {A = ℕ} (give 7) (bare [] 5 998) ≡ fine 7 (bare [] 5 998)
unfolding builtin_names class_names chars
moment_14 = refl

moment_15 : deeper tick (bare [] 0 998) ≡ stopped (bare [] 0 998)
unfolding builtin_names class_names chars
moment_15 = refl

moment_16 : deeper (raise {A = ℕ} 24 []) (bare [] 5 998) ≡ raised (fresh 24 (text [] ∷ [])) (bare [] 5 998)
unfolding builtin_names class_names chars
moment_16 = refl

moment_17 : deeper {A = ℕ} (give 7) (bare [] 5 999) ≡ fine 7 (bare [] 5 999)
unfolding builtin_names class_names chars
moment_17 = refl

moment_18 : deeper tick (bare [] 0 999) ≡ stopped (bare [] 0 999)
unfolding builtin_names class_names chars
moment_18 = refl

moment_19 : deeper (raise {A = ℕ} 24 []) (bare [] 5 999) ≡ raised (fresh 24 (text [] ∷ [])) (bare [] 5 999)
unfolding builtin_names class_names chars
moment_19 = refl

moment_20 : deeper {A = ℕ} (give 7) (bare [] 5 1000) ≡ raised (fresh 21 (text (codes "depth limit reached") ∷ [])) (bare [] 5 1000)
unfolding builtin_names class_names chars
moment_20 = refl

moment_21 : deeper tick (bare [] 0 1000) ≡ raised (fresh 21 (text (codes "depth limit reached") ∷ [])) (bare [] 0 1000)
unfolding builtin_names class_names chars
moment_21 = refl

moment_22 : deeper {A = ℕ} (deeper (give 7)) (bare [] 5 998) ≡ fine 7 (bare [] 5 998)
unfolding builtin_names class_names chars
moment_22 = refl

moment_23 : deeper {A = ℕ} (deeper (give 7)) (bare [] 5 999) ≡ raised (fresh 21 (text (codes "depth limit reached") ∷ [])) (bare [] 5 999)
unfolding builtin_names class_names chars
moment_23 = refl

moment_24 : read (codes "a") now ≡ fine (integer (pos 1)) (record now { accessed = ((codes "a") ∷ []) })
unfolding builtin_names class_names chars
moment_24 = refl

moment_25 : read (codes "len") now ≡ fine none (record now { accessed = ((codes "len") ∷ []) })
unfolding builtin_names class_names chars
moment_25 = refl

moment_26 : read (codes "abs") now ≡ fine (builtin 0) (record now { accessed = ((codes "abs") ∷ []) })
unfolding builtin_names class_names chars
moment_26 = refl

moment_27 : read (codes "ValueError") now ≡ fine (class 24) (record now { accessed = ((codes "ValueError") ∷ []) })
unfolding builtin_names class_names chars
moment_27 = refl

moment_28 : read (codes "z") now ≡ raised (fresh 17 (text (codes "name 'z' is not defined") ∷ [])) (record now { accessed = ((codes "z") ∷ []) })
unfolding builtin_names class_names chars
moment_28 = refl

moment_29 : read (codes "open") now ≡ raised (fresh 17 (text (codes "name 'open' is not defined") ∷ [])) (record now { accessed = ((codes "open") ∷ []) })
unfolding builtin_names class_names chars
moment_29 = refl

moment_30 : (read (codes "a") >> read (codes "a")) now ≡ fine (integer (pos 1)) (record now { accessed = ((codes "a") ∷ []) })
unfolding builtin_names class_names chars
moment_30 = refl

moment_31 : (read (codes "len") >> read (codes "a")) now ≡ fine (integer (pos 1)) (record now { accessed = ((codes "a") ∷ (codes "len") ∷ []) })
unfolding builtin_names class_names chars
moment_31 = refl

moment_32 : read (codes "a") (inner ((codes "a", none) ∷ [])) ≡ fine none (inner ((codes "a", none) ∷ []))
unfolding builtin_names class_names chars
moment_32 = refl

moment_33 : read (codes "a") (inner []) ≡ raised (fresh 18 (text (codes "local name 'a' has no value") ∷ [])) (inner [])
unfolding builtin_names class_names chars
moment_33 = refl

moment_34 : read (codes "len") (inner []) ≡ fine none (record (inner []) { accessed = ((codes "len") ∷ []) })
unfolding builtin_names class_names chars
moment_34 = refl

moment_35 : read (codes "sum") (inner []) ≡ fine (builtin 13) (record (inner []) { accessed = ((codes "sum") ∷ []) })
unfolding builtin_names class_names chars
moment_35 = refl

moment_36 : read (codes "c") (inner []) ≡ raised (fresh 17 (text (codes "name 'c' is not defined") ∷ [])) (record (inner []) { accessed = ((codes "c") ∷ []) })
unfolding builtin_names class_names chars
moment_36 = refl

moment_37 : assign (codes "a") none now ≡ fine tt (record now { names = ((codes "a", none) ∷ (codes "len", none) ∷ []); accessed = ((codes "a") ∷ []) })
unfolding builtin_names class_names chars
moment_37 = refl

moment_38 : assign (codes "b") none now ≡ fine tt (record now { names = ((codes "a", integer (pos 1)) ∷ (codes "b", none) ∷ (codes "len", none) ∷ []); accessed = ((codes "b") ∷ []) })
unfolding builtin_names class_names chars
moment_38 = refl

moment_39 : assign (codes "A") none now ≡ fine tt (record now { names = ((codes "A", none) ∷ (codes "a", integer (pos 1)) ∷ (codes "len", none) ∷ []); accessed = ((codes "A") ∷ []) })
unfolding builtin_names class_names chars
moment_39 = refl

moment_40 : assign (codes "z") none now ≡ fine tt (record now { names = ((codes "a", integer (pos 1)) ∷ (codes "len", none) ∷ (codes "z", none) ∷ []); accessed = ((codes "z") ∷ []) })
unfolding builtin_names class_names chars
moment_40 = refl

moment_41 : assign (codes "b") (integer (pos 1)) (inner []) ≡ fine tt (inner ((codes "b", integer (pos 1)) ∷ []))
unfolding builtin_names class_names chars
moment_41 = refl

moment_42 : assign (codes "a") none (inner ((codes "a", integer (pos 1)) ∷ [])) ≡ fine tt (inner ((codes "a", none) ∷ []))
unfolding builtin_names class_names chars
moment_42 = refl

moment_43 : assign (codes "len") (integer (pos 1)) (inner []) ≡ fine tt (record (inner []) { names = ((codes "a", integer (pos 1)) ∷ (codes "len", integer (pos 1)) ∷ []); accessed = ((codes "len") ∷ []) })
unfolding builtin_names class_names chars
moment_43 = refl

moment_44 : delete (codes "a") now ≡ fine tt (record now { names = ((codes "len", none) ∷ []); accessed = ((codes "a") ∷ []) })
unfolding builtin_names class_names chars
moment_44 = refl

moment_45 : delete (codes "b") now ≡ raised (fresh 17 (text (codes "name 'b' is not defined") ∷ [])) (record now { accessed = ((codes "b") ∷ []) })
unfolding builtin_names class_names chars
moment_45 = refl

moment_46 : delete (codes "abs") now ≡ raised (fresh 17 (text (codes "name 'abs' is not defined") ∷ [])) (record now { accessed = ((codes "abs") ∷ []) })
unfolding builtin_names class_names chars
moment_46 = refl

moment_47 : delete (codes "a") (inner ((codes "a", none) ∷ [])) ≡ fine tt (inner [])
unfolding builtin_names class_names chars
moment_47 = refl

moment_48 : delete (codes "b") (inner []) ≡ raised (fresh 18 (text (codes "local name 'b' has no value") ∷ [])) (inner [])
unfolding builtin_names class_names chars
moment_48 = refl

moment_49 : delete (codes "len") (inner []) ≡ fine tt (record (inner []) { names = ((codes "a", integer (pos 1)) ∷ []); accessed = ((codes "len") ∷ []) })
unfolding builtin_names class_names chars
moment_49 = refl

moment_50 : make (tuple []) now ≡ fine (node 1) (record now { nodes = list [] ∷ tuple [] ∷ [] })
unfolding builtin_names class_names chars
moment_50 = refl

moment_51 : (make (list []) >> make (tuple [])) (bare [] 9 0) ≡ fine (node 1) (bare (list [] ∷ tuple [] ∷ []) 9 0)
unfolding builtin_names class_names chars
moment_51 = refl

moment_52 : change 0 (push none) now ≡ fine tt (record now { nodes = list (none ∷ []) ∷ [] })
unfolding builtin_names class_names chars
moment_52 = refl

moment_53 : change 1 (push none) now ≡ fine tt now
unfolding builtin_names class_names chars
moment_53 = refl

moment_54 : node_now (node 0) now ≡ fine (Some (list [])) now
unfolding builtin_names class_names chars
moment_54 = refl

moment_55 : node_now (node 1) now ≡ fine None now
unfolding builtin_names class_names chars
moment_55 = refl

moment_56 : node_now none now ≡ fine None now
unfolding builtin_names class_names chars
moment_56 = refl

moment_57 : put_out (codes "ab") now ≡ fine tt (record now { out = codes "ab" })
unfolding builtin_names class_names chars
moment_57 = refl

moment_58 : (put_out (codes "a") >> put_out (codes "b")) now ≡ fine tt (record now { out = codes "ab" })
unfolding builtin_names class_names chars
moment_58 = refl

moment_59 : put_out [] now ≡ fine tt now
unfolding builtin_names class_names chars
moment_59 = refl

moment_60 : or_else {A = ℕ} (give 7) (Some 8) now ≡ fine 8 now
unfolding builtin_names class_names chars
moment_60 = refl

moment_61 : or_else {A = ℕ} (give 7) None now ≡ fine 7 now
unfolding builtin_names class_names chars
moment_61 = refl

moment_62 : (raise {A = ℕ} 24 (codes "x") >> tick) now ≡ raised (fresh 24 (text (codes "x") ∷ [])) now
unfolding builtin_names class_names chars
moment_62 = refl

moment_63 : (tick >> raise {A = ℕ} 24 []) (bare [] 3 0) ≡ raised (fresh 24 (text [] ∷ [])) (bare [] 2 0)
unfolding builtin_names class_names chars
moment_63 = refl

moment_64 : (tick >>= λ _. put_out (codes "a")) (bare [] 0 0) ≡ stopped (bare [] 0 0)
unfolding builtin_names class_names chars
moment_64 = refl

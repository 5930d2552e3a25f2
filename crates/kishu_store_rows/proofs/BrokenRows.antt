-- At which place files are broken: behind so many records the gate is open, and no record that fits follows. Made by tools/rows/file_rows.py.
use Rattle.std.specs.Prelude.{true, false, [], ◌∷◌, ◌++◌, codes, refl}
use Rattle.std.proofs.Common.{inl, inr, arith}
use Rattle.std.proofs.lemmas.Bool.{false≢true}
use Rattle.std.specs.Char.{encode_utf8}
use Rattle.std.specs.List.Sorted.{IsStrictlySortedBy}
use Rattle.std.specs.Int.{w64, to_be_bytes}
use Rattle.kishu_language.specs.tokens.Names.{reserved_words}
use Rattle.kishu_language.specs.declared.profile.Profile.TheVariants.{One}
use Rattle.kishu_store.specs.Entries.{commit, move, name, to_commit, to_branch, Record}
use Rattle.kishu_store.specs.EntryBytes.{head_of, body_of}
use Rattle.kishu_store.specs.Histories.{Follows}
use Rattle.kishu_store.specs.Holds.{header, framed, front, history_by, IsBroken}
use Rattle.kishu_store.specs.Rules.{IsRecord}
use Rattle.kishu_store_rows.proofs.Records.{first0, first2, first5}
use Rattle.kishu_store_rows.proofs.FittingRecords.{too_few, other_length, no_record, unfit, other_kind, some_none, are0, are2, are5}

-- ---- fewer than nine bytes behind the gate

broken_1 : IsBroken (front first0 ++ 165 ∷ (0 ∷ [])) 16
unfolding header framed head_of body_of
broken_1 = record { long = omega arith; before = first0; rest = (0 ∷ []); split = refl; fit = are0; place = refl; none = too_few (0 ∷ []) (omega arith) (history_by first0) }

broken_2 : IsBroken (front first0 ++ 165 ∷ (0 ∷ 0 ∷ 0 ∷ 0 ∷ 0 ∷ 0 ∷ 0 ∷ 0 ∷ [])) 16
unfolding header framed head_of body_of
broken_2 = record { long = omega arith; before = first0; rest = (0 ∷ 0 ∷ 0 ∷ 0 ∷ 0 ∷ 0 ∷ 0 ∷ 0 ∷ []); split = refl; fit = are0; place = refl; none = too_few (0 ∷ 0 ∷ 0 ∷ 0 ∷ 0 ∷ 0 ∷ 0 ∷ 0 ∷ []) (omega arith) (history_by first0) }

broken_3 : IsBroken (front first2 ++ 165 ∷ []) 189
unfolding header framed head_of body_of
broken_3 = record { long = omega arith; before = first2; rest = []; split = refl; fit = are2; place = refl; none = too_few [] (omega arith) (history_by first2) }

broken_4 : IsBroken (front first2 ++ 165 ∷ (0 ∷ 0 ∷ 0 ∷ 0 ∷ 0 ∷ 0 ∷ 0 ∷ 0 ∷ [])) 189
unfolding header framed head_of body_of
broken_4 = record { long = omega arith; before = first2; rest = (0 ∷ 0 ∷ 0 ∷ 0 ∷ 0 ∷ 0 ∷ 0 ∷ 0 ∷ []); split = refl; fit = are2; place = refl; none = too_few (0 ∷ 0 ∷ 0 ∷ 0 ∷ 0 ∷ 0 ∷ 0 ∷ 0 ∷ []) (omega arith) (history_by first2) }

broken_5 : IsBroken (front first5 ++ 165 ∷ (0 ∷ 0 ∷ 0 ∷ [])) 299
unfolding header framed head_of body_of
broken_5 = record { long = omega arith; before = first5; rest = (0 ∷ 0 ∷ 0 ∷ []); split = refl; fit = are5; place = refl; none = too_few (0 ∷ 0 ∷ 0 ∷ []) (omega arith) (history_by first5) }

-- ---- a length past the longest, or past what is left

broken_6 : IsBroken (front first0 ++ 165 ∷ (to_be_bytes w64 1073741825 ++ (0 ∷ 0 ∷ []))) 16
unfolding header framed head_of body_of
broken_6 = record { long = omega arith; before = first0; rest = (to_be_bytes w64 1073741825 ++ (0 ∷ 0 ∷ [])); split = refl; fit = are0; place = refl; none = other_length 1073741825 (0 ∷ 0 ∷ []) (omega arith) (inl (omega arith)) (history_by first0) }

broken_7 : IsBroken (front first0 ++ 165 ∷ (to_be_bytes w64 18446744073709551615 ++ (0 ∷ []))) 16
unfolding header framed head_of body_of
broken_7 = record { long = omega arith; before = first0; rest = (to_be_bytes w64 18446744073709551615 ++ (0 ∷ [])); split = refl; fit = are0; place = refl; none = other_length 18446744073709551615 (0 ∷ []) (omega arith) (inl (omega arith)) (history_by first0) }

broken_8 : IsBroken (front first0 ++ 165 ∷ (to_be_bytes w64 1 ++ (0 ∷ []))) 16
unfolding header framed head_of body_of
broken_8 = record { long = omega arith; before = first0; rest = (to_be_bytes w64 1 ++ (0 ∷ [])); split = refl; fit = are0; place = refl; none = other_length 1 (0 ∷ []) (omega arith) (inr (omega arith)) (history_by first0) }

broken_9 : IsBroken (front first0 ++ 165 ∷ (to_be_bytes w64 1 ++ [])) 16
unfolding header framed head_of body_of
broken_9 = record { long = omega arith; before = first0; rest = (to_be_bytes w64 1 ++ []); split = refl; fit = are0; place = refl; none = other_length 1 [] (omega arith) (inr (omega arith)) (history_by first0) }

broken_10 : IsBroken (front first0 ++ 165 ∷ (to_be_bytes w64 5 ++ (0 ∷ 0 ∷ 0 ∷ 0 ∷ 0 ∷ []))) 16
unfolding header framed head_of body_of
broken_10 = record { long = omega arith; before = first0; rest = (to_be_bytes w64 5 ++ (0 ∷ 0 ∷ 0 ∷ 0 ∷ 0 ∷ [])); split = refl; fit = are0; place = refl; none = other_length 5 (0 ∷ 0 ∷ 0 ∷ 0 ∷ 0 ∷ []) (omega arith) (inr (omega arith)) (history_by first0) }

broken_11 : IsBroken (front first0 ++ 165 ∷ (to_be_bytes w64 9 ++ (0 ∷ 0 ∷ 0 ∷ []))) 16
unfolding header framed head_of body_of
broken_11 = record { long = omega arith; before = first0; rest = (to_be_bytes w64 9 ++ (0 ∷ 0 ∷ 0 ∷ [])); split = refl; fit = are0; place = refl; none = other_length 9 (0 ∷ 0 ∷ 0 ∷ []) (omega arith) (inr (omega arith)) (history_by first0) }

broken_12 : IsBroken (front first5 ++ 165 ∷ (to_be_bytes w64 1073741825 ++ (0 ∷ 0 ∷ []))) 299
unfolding header framed head_of body_of
broken_12 = record { long = omega arith; before = first5; rest = (to_be_bytes w64 1073741825 ++ (0 ∷ 0 ∷ [])); split = refl; fit = are5; place = refl; none = other_length 1073741825 (0 ∷ 0 ∷ []) (omega arith) (inl (omega arith)) (history_by first5) }

broken_13 : IsBroken (front first5 ++ 165 ∷ (to_be_bytes w64 18446744073709551615 ++ (0 ∷ []))) 299
unfolding header framed head_of body_of
broken_13 = record { long = omega arith; before = first5; rest = (to_be_bytes w64 18446744073709551615 ++ (0 ∷ [])); split = refl; fit = are5; place = refl; none = other_length 18446744073709551615 (0 ∷ []) (omega arith) (inl (omega arith)) (history_by first5) }

broken_14 : IsBroken (front first5 ++ 165 ∷ (to_be_bytes w64 1 ++ (0 ∷ []))) 299
unfolding header framed head_of body_of
broken_14 = record { long = omega arith; before = first5; rest = (to_be_bytes w64 1 ++ (0 ∷ [])); split = refl; fit = are5; place = refl; none = other_length 1 (0 ∷ []) (omega arith) (inr (omega arith)) (history_by first5) }

broken_15 : IsBroken (front first5 ++ 165 ∷ (to_be_bytes w64 1 ++ [])) 299
unfolding header framed head_of body_of
broken_15 = record { long = omega arith; before = first5; rest = (to_be_bytes w64 1 ++ []); split = refl; fit = are5; place = refl; none = other_length 1 [] (omega arith) (inr (omega arith)) (history_by first5) }

broken_16 : IsBroken (front first5 ++ 165 ∷ (to_be_bytes w64 5 ++ (0 ∷ 0 ∷ 0 ∷ 0 ∷ 0 ∷ []))) 299
unfolding header framed head_of body_of
broken_16 = record { long = omega arith; before = first5; rest = (to_be_bytes w64 5 ++ (0 ∷ 0 ∷ 0 ∷ 0 ∷ 0 ∷ [])); split = refl; fit = are5; place = refl; none = other_length 5 (0 ∷ 0 ∷ 0 ∷ 0 ∷ 0 ∷ []) (omega arith) (inr (omega arith)) (history_by first5) }

broken_17 : IsBroken (front first5 ++ 165 ∷ (to_be_bytes w64 9 ++ (0 ∷ 0 ∷ 0 ∷ []))) 299
unfolding header framed head_of body_of
broken_17 = record { long = omega arith; before = first5; rest = (to_be_bytes w64 9 ++ (0 ∷ 0 ∷ 0 ∷ [])); split = refl; fit = are5; place = refl; none = other_length 9 (0 ∷ 0 ∷ 0 ∷ []) (omega arith) (inr (omega arith)) (history_by first5) }

-- ---- a head of no kind

broken_18 : IsBroken (front first0 ++ 165 ∷ (framed (0 ∷ 0 ∷ 0 ∷ 1 ∷ 0 ∷ []) ++ 0 ∷ [])) 16
unfolding header framed head_of body_of
broken_18 = record { long = omega arith; before = first0; rest = (framed (0 ∷ 0 ∷ 0 ∷ 1 ∷ 0 ∷ []) ++ 0 ∷ []); split = refl; fit = are0; place = refl; none = no_record (0 ∷ 0 ∷ 0 ∷ 1 ∷ 0 ∷ []) (0 ∷ []) (history_by first0) (omega arith) (other_kind 0 [] (λ e. absurd (omega (arith, e))) (λ e. absurd (omega (arith, e))) (λ e. absurd (omega (arith, e))) (history_by first0)) }

broken_19 : IsBroken (front first0 ++ 165 ∷ (framed (0 ∷ 0 ∷ 0 ∷ 1 ∷ 4 ∷ []) ++ 0 ∷ [])) 16
unfolding header framed head_of body_of
broken_19 = record { long = omega arith; before = first0; rest = (framed (0 ∷ 0 ∷ 0 ∷ 1 ∷ 4 ∷ []) ++ 0 ∷ []); split = refl; fit = are0; place = refl; none = no_record (0 ∷ 0 ∷ 0 ∷ 1 ∷ 4 ∷ []) (0 ∷ []) (history_by first0) (omega arith) (other_kind 4 [] (λ e. absurd (omega (arith, e))) (λ e. absurd (omega (arith, e))) (λ e. absurd (omega (arith, e))) (history_by first0)) }

broken_20 : IsBroken (front first0 ++ 165 ∷ (framed (0 ∷ 0 ∷ 0 ∷ 1 ∷ 165 ∷ []) ++ 0 ∷ [])) 16
unfolding header framed head_of body_of
broken_20 = record { long = omega arith; before = first0; rest = (framed (0 ∷ 0 ∷ 0 ∷ 1 ∷ 165 ∷ []) ++ 0 ∷ []); split = refl; fit = are0; place = refl; none = no_record (0 ∷ 0 ∷ 0 ∷ 1 ∷ 165 ∷ []) (0 ∷ []) (history_by first0) (omega arith) (other_kind 165 [] (λ e. absurd (omega (arith, e))) (λ e. absurd (omega (arith, e))) (λ e. absurd (omega (arith, e))) (history_by first0)) }

broken_21 : IsBroken (front first0 ++ 165 ∷ (framed (0 ∷ 0 ∷ 0 ∷ 1 ∷ 255 ∷ []) ++ 0 ∷ [])) 16
unfolding header framed head_of body_of
broken_21 = record { long = omega arith; before = first0; rest = (framed (0 ∷ 0 ∷ 0 ∷ 1 ∷ 255 ∷ []) ++ 0 ∷ []); split = refl; fit = are0; place = refl; none = no_record (0 ∷ 0 ∷ 0 ∷ 1 ∷ 255 ∷ []) (0 ∷ []) (history_by first0) (omega arith) (other_kind 255 [] (λ e. absurd (omega (arith, e))) (λ e. absurd (omega (arith, e))) (λ e. absurd (omega (arith, e))) (history_by first0)) }

broken_22 : IsBroken (front first2 ++ 165 ∷ (framed (0 ∷ 0 ∷ 0 ∷ 1 ∷ 0 ∷ []) ++ 0 ∷ [])) 189
unfolding header framed head_of body_of
broken_22 = record { long = omega arith; before = first2; rest = (framed (0 ∷ 0 ∷ 0 ∷ 1 ∷ 0 ∷ []) ++ 0 ∷ []); split = refl; fit = are2; place = refl; none = no_record (0 ∷ 0 ∷ 0 ∷ 1 ∷ 0 ∷ []) (0 ∷ []) (history_by first2) (omega arith) (other_kind 0 [] (λ e. absurd (omega (arith, e))) (λ e. absurd (omega (arith, e))) (λ e. absurd (omega (arith, e))) (history_by first2)) }

broken_23 : IsBroken (front first2 ++ 165 ∷ (framed (0 ∷ 0 ∷ 0 ∷ 1 ∷ 4 ∷ []) ++ 0 ∷ [])) 189
unfolding header framed head_of body_of
broken_23 = record { long = omega arith; before = first2; rest = (framed (0 ∷ 0 ∷ 0 ∷ 1 ∷ 4 ∷ []) ++ 0 ∷ []); split = refl; fit = are2; place = refl; none = no_record (0 ∷ 0 ∷ 0 ∷ 1 ∷ 4 ∷ []) (0 ∷ []) (history_by first2) (omega arith) (other_kind 4 [] (λ e. absurd (omega (arith, e))) (λ e. absurd (omega (arith, e))) (λ e. absurd (omega (arith, e))) (history_by first2)) }

broken_24 : IsBroken (front first2 ++ 165 ∷ (framed (0 ∷ 0 ∷ 0 ∷ 1 ∷ 165 ∷ []) ++ 0 ∷ [])) 189
unfolding header framed head_of body_of
broken_24 = record { long = omega arith; before = first2; rest = (framed (0 ∷ 0 ∷ 0 ∷ 1 ∷ 165 ∷ []) ++ 0 ∷ []); split = refl; fit = are2; place = refl; none = no_record (0 ∷ 0 ∷ 0 ∷ 1 ∷ 165 ∷ []) (0 ∷ []) (history_by first2) (omega arith) (other_kind 165 [] (λ e. absurd (omega (arith, e))) (λ e. absurd (omega (arith, e))) (λ e. absurd (omega (arith, e))) (history_by first2)) }

broken_25 : IsBroken (front first2 ++ 165 ∷ (framed (0 ∷ 0 ∷ 0 ∷ 1 ∷ 255 ∷ []) ++ 0 ∷ [])) 189
unfolding header framed head_of body_of
broken_25 = record { long = omega arith; before = first2; rest = (framed (0 ∷ 0 ∷ 0 ∷ 1 ∷ 255 ∷ []) ++ 0 ∷ []); split = refl; fit = are2; place = refl; none = no_record (0 ∷ 0 ∷ 0 ∷ 1 ∷ 255 ∷ []) (0 ∷ []) (history_by first2) (omega arith) (other_kind 255 [] (λ e. absurd (omega (arith, e))) (λ e. absurd (omega (arith, e))) (λ e. absurd (omega (arith, e))) (history_by first2)) }

-- ---- records that keep their rules and don't fit

abbrev wrong1 : Record
wrong1 = (record { entry = (commit 1 One ((codes "a") ∷ []) [] []); pictures = [] })

is_wrong1 : IsRecord wrong1
unfolding header framed head_of body_of encode_utf8 IsStrictlySortedBy reserved_words
is_wrong1 = record { rules = record { parent = omega arith; profile = refl; some = omega arith; cells = (record { short = omega arith; utf8 = ((97 ∷ []), (refl, refl)) }, tt); dropped = record { each = tt; rise = tt }; stored = record { each = tt; rise = tt } }; pictures = refl; small = omega arith }

unfit1 : Follows (history_by first0) wrong1.entry → ⊥
unfolding head_of
unfit1 h = absurd (omega (arith, h.graph.goes_on))

broken_26 : IsBroken (front first0 ++ 165 ∷ (framed (body_of wrong1) ++ 0 ∷ [])) 16
unfolding header framed head_of body_of
broken_26 = record { long = omega arith; before = first0; rest = (framed (body_of wrong1) ++ 0 ∷ []); split = refl; fit = are0; place = refl; none = no_record (body_of wrong1) (0 ∷ []) (history_by first0) (omega arith) (unfit wrong1 is_wrong1 (history_by first0) unfit1) }

abbrev wrong2 : Record
wrong2 = (record { entry = (move (to_commit 1)); pictures = [] })

is_wrong2 : IsRecord wrong2
unfolding header framed head_of body_of encode_utf8 IsStrictlySortedBy reserved_words
is_wrong2 = record { rules = omega arith; pictures = refl; small = omega arith }

unfit2 : Follows (history_by first0) wrong2.entry → ⊥
unfolding head_of
unfit2 h = absurd (omega (arith, h.graph.goes_on))

broken_27 : IsBroken (front first0 ++ 165 ∷ (framed (body_of wrong2) ++ 0 ∷ [])) 16
unfolding header framed head_of body_of
broken_27 = record { long = omega arith; before = first0; rest = (framed (body_of wrong2) ++ 0 ∷ []); split = refl; fit = are0; place = refl; none = no_record (body_of wrong2) (0 ∷ []) (history_by first0) (omega arith) (unfit wrong2 is_wrong2 (history_by first0) unfit2) }

abbrev wrong3 : Record
wrong3 = (record { entry = (move (to_branch (codes "try"))); pictures = [] })

is_wrong3 : IsRecord wrong3
unfolding header framed head_of body_of encode_utf8 IsStrictlySortedBy reserved_words
is_wrong3 = record { rules = record { short = omega arith; utf8 = ((116 ∷ 114 ∷ 121 ∷ []), (refl, refl)) }; pictures = refl; small = omega arith }

unfit3 : Follows (history_by first0) wrong3.entry → ⊥
unfolding head_of
unfit3 h = absurd (false≢true h.graph.goes_on)

broken_28 : IsBroken (front first0 ++ 165 ∷ (framed (body_of wrong3) ++ 0 ∷ [])) 16
unfolding header framed head_of body_of
broken_28 = record { long = omega arith; before = first0; rest = (framed (body_of wrong3) ++ 0 ∷ []); split = refl; fit = are0; place = refl; none = no_record (body_of wrong3) (0 ∷ []) (history_by first0) (omega arith) (unfit wrong3 is_wrong3 (history_by first0) unfit3) }

abbrev wrong4 : Record
wrong4 = (record { entry = (name (codes "9") 0); pictures = [] })

is_wrong4 : IsRecord wrong4
unfolding header framed head_of body_of encode_utf8 IsStrictlySortedBy reserved_words
is_wrong4 = record { rules = (record { short = omega arith; utf8 = ((57 ∷ []), (refl, refl)) }, omega arith); pictures = refl; small = omega arith }

unfit4 : Follows (history_by first0) wrong4.entry → ⊥
unfolding head_of
unfit4 h = absurd (false≢true h.graph.goes_on.0)

broken_29 : IsBroken (front first0 ++ 165 ∷ (framed (body_of wrong4) ++ 0 ∷ [])) 16
unfolding header framed head_of body_of
broken_29 = record { long = omega arith; before = first0; rest = (framed (body_of wrong4) ++ 0 ∷ []); split = refl; fit = are0; place = refl; none = no_record (body_of wrong4) (0 ∷ []) (history_by first0) (omega arith) (unfit wrong4 is_wrong4 (history_by first0) unfit4) }

abbrev wrong5 : Record
wrong5 = (record { entry = (name (codes "main") 0); pictures = [] })

is_wrong5 : IsRecord wrong5
unfolding header framed head_of body_of encode_utf8 IsStrictlySortedBy reserved_words
is_wrong5 = record { rules = (record { short = omega arith; utf8 = ((109 ∷ 97 ∷ 105 ∷ 110 ∷ []), (refl, refl)) }, omega arith); pictures = refl; small = omega arith }

unfit5 : Follows (history_by first0) wrong5.entry → ⊥
unfolding head_of
unfit5 h = absurd (some_none h.graph.goes_on.1)

broken_30 : IsBroken (front first0 ++ 165 ∷ (framed (body_of wrong5) ++ 0 ∷ [])) 16
unfolding header framed head_of body_of
broken_30 = record { long = omega arith; before = first0; rest = (framed (body_of wrong5) ++ 0 ∷ []); split = refl; fit = are0; place = refl; none = no_record (body_of wrong5) (0 ∷ []) (history_by first0) (omega arith) (unfit wrong5 is_wrong5 (history_by first0) unfit5) }

abbrev wrong6 : Record
wrong6 = (record { entry = (name (codes "a") 1); pictures = [] })

is_wrong6 : IsRecord wrong6
unfolding header framed head_of body_of encode_utf8 IsStrictlySortedBy reserved_words
is_wrong6 = record { rules = (record { short = omega arith; utf8 = ((97 ∷ []), (refl, refl)) }, omega arith); pictures = refl; small = omega arith }

unfit6 : Follows (history_by first0) wrong6.entry → ⊥
unfolding head_of
unfit6 h = absurd (omega (arith, h.graph.goes_on.2))

broken_31 : IsBroken (front first0 ++ 165 ∷ (framed (body_of wrong6) ++ 0 ∷ [])) 16
unfolding header framed head_of body_of
broken_31 = record { long = omega arith; before = first0; rest = (framed (body_of wrong6) ++ 0 ∷ []); split = refl; fit = are0; place = refl; none = no_record (body_of wrong6) (0 ∷ []) (history_by first0) (omega arith) (unfit wrong6 is_wrong6 (history_by first0) unfit6) }

abbrev wrong7 : Record
wrong7 = (record { entry = (commit 0 One ((codes "a") ∷ []) (((codes "x") ∷ []) ∷ []) []); pictures = [] })

is_wrong7 : IsRecord wrong7
unfolding header framed head_of body_of encode_utf8 IsStrictlySortedBy reserved_words
is_wrong7 = record { rules = record { parent = omega arith; profile = refl; some = omega arith; cells = (record { short = omega arith; utf8 = ((97 ∷ []), (refl, refl)) }, tt); dropped = record { each = (record { some = omega arith; names = (refl, tt); rise = (tt, tt) }, tt); rise = (tt, tt) }; stored = record { each = tt; rise = tt } }; pictures = refl; small = omega arith }

unfit7 : Follows (history_by first0) wrong7.entry → ⊥
unfolding head_of
unfit7 h = absurd (false≢true h.table.0.dropped)

broken_32 : IsBroken (front first0 ++ 165 ∷ (framed (body_of wrong7) ++ 0 ∷ [])) 16
unfolding header framed head_of body_of
broken_32 = record { long = omega arith; before = first0; rest = (framed (body_of wrong7) ++ 0 ∷ []); split = refl; fit = are0; place = refl; none = no_record (body_of wrong7) (0 ∷ []) (history_by first0) (omega arith) (unfit wrong7 is_wrong7 (history_by first0) unfit7) }

abbrev wrong8 : Record
wrong8 = (record { entry = (commit 0 One ((codes "a") ∷ []) [] ((((codes "a") ∷ (codes "b") ∷ []), 1) ∷ (((codes "b") ∷ []), 0) ∷ [])); pictures = ((112 ∷ []) ∷ [] ∷ []) })

is_wrong8 : IsRecord wrong8
unfolding header framed head_of body_of encode_utf8 IsStrictlySortedBy reserved_words
is_wrong8 = record { rules = record { parent = omega arith; profile = refl; some = omega arith; cells = (record { short = omega arith; utf8 = ((97 ∷ []), (refl, refl)) }, tt); dropped = record { each = tt; rise = tt }; stored = record { each = ((record { some = omega arith; names = (refl, (refl, tt)); rise = ((refl, tt), (tt, tt)) }, omega arith), ((record { some = omega arith; names = (refl, tt); rise = (tt, tt) }, omega arith), tt)); rise = ((refl, tt), (tt, tt)) } }; pictures = refl; small = omega arith }

unfit8 : Follows (history_by first0) wrong8.entry → ⊥
unfolding head_of
unfit8 h = absurd (false≢true h.table.0.apart)

broken_33 : IsBroken (front first0 ++ 165 ∷ (framed (body_of wrong8) ++ 0 ∷ [])) 16
unfolding header framed head_of body_of
broken_33 = record { long = omega arith; before = first0; rest = (framed (body_of wrong8) ++ 0 ∷ []); split = refl; fit = are0; place = refl; none = no_record (body_of wrong8) (0 ∷ []) (history_by first0) (omega arith) (unfit wrong8 is_wrong8 (history_by first0) unfit8) }

abbrev wrong9 : Record
wrong9 = (record { entry = (commit 1 One ((codes "a") ∷ []) [] []); pictures = [] })

is_wrong9 : IsRecord wrong9
unfolding header framed head_of body_of encode_utf8 IsStrictlySortedBy reserved_words
is_wrong9 = record { rules = record { parent = omega arith; profile = refl; some = omega arith; cells = (record { short = omega arith; utf8 = ((97 ∷ []), (refl, refl)) }, tt); dropped = record { each = tt; rise = tt }; stored = record { each = tt; rise = tt } }; pictures = refl; small = omega arith }

unfit9 : Follows (history_by first2) wrong9.entry → ⊥
unfolding head_of
unfit9 h = absurd (omega (arith, h.graph.goes_on))

broken_34 : IsBroken (front first2 ++ 165 ∷ (framed (body_of wrong9) ++ 0 ∷ [])) 189
unfolding header framed head_of body_of
broken_34 = record { long = omega arith; before = first2; rest = (framed (body_of wrong9) ++ 0 ∷ []); split = refl; fit = are2; place = refl; none = no_record (body_of wrong9) (0 ∷ []) (history_by first2) (omega arith) (unfit wrong9 is_wrong9 (history_by first2) unfit9) }

abbrev wrong10 : Record
wrong10 = (record { entry = (move (to_commit 3)); pictures = [] })

is_wrong10 : IsRecord wrong10
unfolding header framed head_of body_of encode_utf8 IsStrictlySortedBy reserved_words
is_wrong10 = record { rules = omega arith; pictures = refl; small = omega arith }

unfit10 : Follows (history_by first2) wrong10.entry → ⊥
unfolding head_of
unfit10 h = absurd (omega (arith, h.graph.goes_on))

broken_35 : IsBroken (front first2 ++ 165 ∷ (framed (body_of wrong10) ++ 0 ∷ [])) 189
unfolding header framed head_of body_of
broken_35 = record { long = omega arith; before = first2; rest = (framed (body_of wrong10) ++ 0 ∷ []); split = refl; fit = are2; place = refl; none = no_record (body_of wrong10) (0 ∷ []) (history_by first2) (omega arith) (unfit wrong10 is_wrong10 (history_by first2) unfit10) }

abbrev wrong11 : Record
wrong11 = (record { entry = (move (to_branch (codes "try"))); pictures = [] })

is_wrong11 : IsRecord wrong11
unfolding header framed head_of body_of encode_utf8 IsStrictlySortedBy reserved_words
is_wrong11 = record { rules = record { short = omega arith; utf8 = ((116 ∷ 114 ∷ 121 ∷ []), (refl, refl)) }; pictures = refl; small = omega arith }

unfit11 : Follows (history_by first2) wrong11.entry → ⊥
unfolding head_of
unfit11 h = absurd (false≢true h.graph.goes_on)

broken_36 : IsBroken (front first2 ++ 165 ∷ (framed (body_of wrong11) ++ 0 ∷ [])) 189
unfolding header framed head_of body_of
broken_36 = record { long = omega arith; before = first2; rest = (framed (body_of wrong11) ++ 0 ∷ []); split = refl; fit = are2; place = refl; none = no_record (body_of wrong11) (0 ∷ []) (history_by first2) (omega arith) (unfit wrong11 is_wrong11 (history_by first2) unfit11) }

abbrev wrong12 : Record
wrong12 = (record { entry = (name (codes "main") 1); pictures = [] })

is_wrong12 : IsRecord wrong12
unfolding header framed head_of body_of encode_utf8 IsStrictlySortedBy reserved_words
is_wrong12 = record { rules = (record { short = omega arith; utf8 = ((109 ∷ 97 ∷ 105 ∷ 110 ∷ []), (refl, refl)) }, omega arith); pictures = refl; small = omega arith }

unfit12 : Follows (history_by first2) wrong12.entry → ⊥
unfolding head_of
unfit12 h = absurd (some_none h.graph.goes_on.1)

broken_37 : IsBroken (front first2 ++ 165 ∷ (framed (body_of wrong12) ++ 0 ∷ [])) 189
unfolding header framed head_of body_of
broken_37 = record { long = omega arith; before = first2; rest = (framed (body_of wrong12) ++ 0 ∷ []); split = refl; fit = are2; place = refl; none = no_record (body_of wrong12) (0 ∷ []) (history_by first2) (omega arith) (unfit wrong12 is_wrong12 (history_by first2) unfit12) }

abbrev wrong13 : Record
wrong13 = (record { entry = (commit 2 One ((codes "a") ∷ []) (((codes "x") ∷ (codes "y") ∷ []) ∷ []) []); pictures = [] })

is_wrong13 : IsRecord wrong13
unfolding header framed head_of body_of encode_utf8 IsStrictlySortedBy reserved_words
is_wrong13 = record { rules = record { parent = omega arith; profile = refl; some = omega arith; cells = (record { short = omega arith; utf8 = ((97 ∷ []), (refl, refl)) }, tt); dropped = record { each = (record { some = omega arith; names = (refl, (refl, tt)); rise = ((refl, tt), (tt, tt)) }, tt); rise = (tt, tt) }; stored = record { each = tt; rise = tt } }; pictures = refl; small = omega arith }

unfit13 : Follows (history_by first2) wrong13.entry → ⊥
unfolding head_of
unfit13 h = absurd (false≢true h.table.0.dropped)

broken_38 : IsBroken (front first2 ++ 165 ∷ (framed (body_of wrong13) ++ 0 ∷ [])) 189
unfolding header framed head_of body_of
broken_38 = record { long = omega arith; before = first2; rest = (framed (body_of wrong13) ++ 0 ∷ []); split = refl; fit = are2; place = refl; none = no_record (body_of wrong13) (0 ∷ []) (history_by first2) (omega arith) (unfit wrong13 is_wrong13 (history_by first2) unfit13) }

abbrev wrong14 : Record
wrong14 = (record { entry = (commit 2 One ((codes "a") ∷ []) [] ((((codes "z") ∷ []), 0) ∷ [])); pictures = ([] ∷ []) })

is_wrong14 : IsRecord wrong14
unfolding header framed head_of body_of encode_utf8 IsStrictlySortedBy reserved_words
is_wrong14 = record { rules = record { parent = omega arith; profile = refl; some = omega arith; cells = (record { short = omega arith; utf8 = ((97 ∷ []), (refl, refl)) }, tt); dropped = record { each = tt; rise = tt }; stored = record { each = ((record { some = omega arith; names = (refl, tt); rise = (tt, tt) }, omega arith), tt); rise = (tt, tt) } }; pictures = refl; small = omega arith }

unfit14 : Follows (history_by first2) wrong14.entry → ⊥
unfolding head_of
unfit14 h = absurd (false≢true h.table.0.apart)

broken_39 : IsBroken (front first2 ++ 165 ∷ (framed (body_of wrong14) ++ 0 ∷ [])) 189
unfolding header framed head_of body_of
broken_39 = record { long = omega arith; before = first2; rest = (framed (body_of wrong14) ++ 0 ∷ []); split = refl; fit = are2; place = refl; none = no_record (body_of wrong14) (0 ∷ []) (history_by first2) (omega arith) (unfit wrong14 is_wrong14 (history_by first2) unfit14) }

abbrev wrong15 : Record
wrong15 = (record { entry = (commit 2 One ((codes "a") ∷ []) [] []); pictures = [] })

is_wrong15 : IsRecord wrong15
unfolding header framed head_of body_of encode_utf8 IsStrictlySortedBy reserved_words
is_wrong15 = record { rules = record { parent = omega arith; profile = refl; some = omega arith; cells = (record { short = omega arith; utf8 = ((97 ∷ []), (refl, refl)) }, tt); dropped = record { each = tt; rise = tt }; stored = record { each = tt; rise = tt } }; pictures = refl; small = omega arith }

unfit15 : Follows (history_by first5) wrong15.entry → ⊥
unfolding head_of
unfit15 h = absurd (omega (arith, h.graph.goes_on))

broken_40 : IsBroken (front first5 ++ 165 ∷ (framed (body_of wrong15) ++ 0 ∷ [])) 299
unfolding header framed head_of body_of
broken_40 = record { long = omega arith; before = first5; rest = (framed (body_of wrong15) ++ 0 ∷ []); split = refl; fit = are5; place = refl; none = no_record (body_of wrong15) (0 ∷ []) (history_by first5) (omega arith) (unfit wrong15 is_wrong15 (history_by first5) unfit15) }

abbrev wrong16 : Record
wrong16 = (record { entry = (name (codes "try") 0); pictures = [] })

is_wrong16 : IsRecord wrong16
unfolding header framed head_of body_of encode_utf8 IsStrictlySortedBy reserved_words
is_wrong16 = record { rules = (record { short = omega arith; utf8 = ((116 ∷ 114 ∷ 121 ∷ []), (refl, refl)) }, omega arith); pictures = refl; small = omega arith }

unfit16 : Follows (history_by first5) wrong16.entry → ⊥
unfolding head_of
unfit16 h = absurd (some_none h.graph.goes_on.1)

broken_41 : IsBroken (front first5 ++ 165 ∷ (framed (body_of wrong16) ++ 0 ∷ [])) 299
unfolding header framed head_of body_of
broken_41 = record { long = omega arith; before = first5; rest = (framed (body_of wrong16) ++ 0 ∷ []); split = refl; fit = are5; place = refl; none = no_record (body_of wrong16) (0 ∷ []) (history_by first5) (omega arith) (unfit wrong16 is_wrong16 (history_by first5) unfit16) }

abbrev wrong17 : Record
wrong17 = (record { entry = (move (to_commit 4)); pictures = [] })

is_wrong17 : IsRecord wrong17
unfolding header framed head_of body_of encode_utf8 IsStrictlySortedBy reserved_words
is_wrong17 = record { rules = omega arith; pictures = refl; small = omega arith }

unfit17 : Follows (history_by first5) wrong17.entry → ⊥
unfolding head_of
unfit17 h = absurd (omega (arith, h.graph.goes_on))

broken_42 : IsBroken (front first5 ++ 165 ∷ (framed (body_of wrong17) ++ 0 ∷ [])) 299
unfolding header framed head_of body_of
broken_42 = record { long = omega arith; before = first5; rest = (framed (body_of wrong17) ++ 0 ∷ []); split = refl; fit = are5; place = refl; none = no_record (body_of wrong17) (0 ∷ []) (history_by first5) (omega arith) (unfit wrong17 is_wrong17 (history_by first5) unfit17) }

abbrev wrong18 : Record
wrong18 = (record { entry = (commit 3 One ((codes "a") ∷ []) (((codes "w") ∷ []) ∷ []) []); pictures = [] })

is_wrong18 : IsRecord wrong18
unfolding header framed head_of body_of encode_utf8 IsStrictlySortedBy reserved_words
is_wrong18 = record { rules = record { parent = omega arith; profile = refl; some = omega arith; cells = (record { short = omega arith; utf8 = ((97 ∷ []), (refl, refl)) }, tt); dropped = record { each = (record { some = omega arith; names = (refl, tt); rise = (tt, tt) }, tt); rise = (tt, tt) }; stored = record { each = tt; rise = tt } }; pictures = refl; small = omega arith }

unfit18 : Follows (history_by first5) wrong18.entry → ⊥
unfolding head_of
unfit18 h = absurd (false≢true h.table.0.dropped)

broken_43 : IsBroken (front first5 ++ 165 ∷ (framed (body_of wrong18) ++ 0 ∷ [])) 299
unfolding header framed head_of body_of
broken_43 = record { long = omega arith; before = first5; rest = (framed (body_of wrong18) ++ 0 ∷ []); split = refl; fit = are5; place = refl; none = no_record (body_of wrong18) (0 ∷ []) (history_by first5) (omega arith) (unfit wrong18 is_wrong18 (history_by first5) unfit18) }

abbrev wrong19 : Record
wrong19 = (record { entry = (commit 3 One ((codes "a") ∷ []) (((codes "w") ∷ (codes "z") ∷ []) ∷ []) ((((codes "w") ∷ (codes "x") ∷ []), 0) ∷ [])); pictures = ([] ∷ []) })

is_wrong19 : IsRecord wrong19
unfolding header framed head_of body_of encode_utf8 IsStrictlySortedBy reserved_words
is_wrong19 = record { rules = record { parent = omega arith; profile = refl; some = omega arith; cells = (record { short = omega arith; utf8 = ((97 ∷ []), (refl, refl)) }, tt); dropped = record { each = (record { some = omega arith; names = (refl, (refl, tt)); rise = ((refl, tt), (tt, tt)) }, tt); rise = (tt, tt) }; stored = record { each = ((record { some = omega arith; names = (refl, (refl, tt)); rise = ((refl, tt), (tt, tt)) }, omega arith), tt); rise = (tt, tt) } }; pictures = refl; small = omega arith }

unfit19 : Follows (history_by first5) wrong19.entry → ⊥
unfolding head_of
unfit19 h = absurd (false≢true h.table.0.apart)

broken_44 : IsBroken (front first5 ++ 165 ∷ (framed (body_of wrong19) ++ 0 ∷ [])) 299
unfolding header framed head_of body_of
broken_44 = record { long = omega arith; before = first5; rest = (framed (body_of wrong19) ++ 0 ∷ []); split = refl; fit = are5; place = refl; none = no_record (body_of wrong19) (0 ∷ []) (history_by first5) (omega arith) (unfit wrong19 is_wrong19 (history_by first5) unfit19) }

-- Versions of groups, and what commits store and drop: computed on the definitions. Made by tools/rows/history_rows.py.
use Rattle.std.specs.Prelude.{◌≡◌, [], ◌∷◌, codes, refl}
use Rattle.std.proofs.Common.{inl, inr, arith}
use Rattle.kishu_history.specs.Versions.{version, stored, dropped, IsVersion}
use Rattle.kishu_history_laws.specs.versions.EarliestLaws.{version_is, version_only}
use Rattle.kishu_object_rows.proofs.Histories.{lists1, lists2, lists3, lists4, lists5, lists6, lists7, lists8, lists9, lists10, lists11, lists13, ways1, ways2, ways3, ways5, ways4, ways6, ways7, ways8, kinds1, kinds2, kinds3, kinds4, kinds5, kinds6, kinds7, kinds8, kinds9, kinds10, to_lists1, to_lists2, to_lists3, to_lists4, to_lists5, to_lists6, to_lists7, to_lists8, to_lists9, to_lists10, to_lists11, to_lists12, to_lists13, to_ways1, to_ways2, to_ways3, to_ways5, to_ways4, to_ways6, to_ways7, to_ways8, to_kinds1, to_kinds2, to_kinds3, to_kinds4, to_kinds5, to_kinds6, to_kinds7, to_kinds8, to_kinds9, to_kinds10}

-- lists1: x = [1]; y = [x]; z = [2]
told_1 : stored to_lists1 ∷ dropped to_lists1 ∷ []
    ≡ (((codes "x") ∷ (codes "y") ∷ []) ∷ ((codes "z") ∷ []) ∷ []) ∷ [] ∷ []
told_1 = refl

versions_1 : version to_lists1 ((codes "x") ∷ (codes "y") ∷ []) ∷ version to_lists1 ((codes "z") ∷ []) ∷ []
    ≡ 1 ∷ 1 ∷ []
versions_1 = refl

is_version_1 : IsVersion to_lists1 ((codes "z") ∷ []) 1
is_version_1 = version_is (record { commit = 1; state = lists1 }) [] ((codes "z") ∷ []) (inr (inl refl))

no_version_1 : IsVersion to_lists1 ((codes "z") ∷ []) 2 → ⊥
no_version_1 = λ h. absurd (omega (arith, version_only (record { commit = 1; state = lists1 }) [] ((codes "z") ∷ []) 2 h))

-- lists2: y = 0
told_2 : stored to_lists2 ∷ dropped to_lists2 ∷ []
    ≡ (((codes "x") ∷ []) ∷ ((codes "y") ∷ []) ∷ []) ∷ (((codes "x") ∷ (codes "y") ∷ []) ∷ []) ∷ []
told_2 = refl

versions_2 : version to_lists2 ((codes "x") ∷ []) ∷ version to_lists2 ((codes "y") ∷ []) ∷ version to_lists2 ((codes "z") ∷ []) ∷ []
    ≡ 2 ∷ 2 ∷ 1 ∷ []
versions_2 = refl

is_version_2 : IsVersion to_lists2 ((codes "z") ∷ []) 1
is_version_2 = version_is (record { commit = 2; state = lists2 }) to_lists1 ((codes "z") ∷ []) (inr (inr (inl refl)))

no_version_2 : IsVersion to_lists2 ((codes "z") ∷ []) 2 → ⊥
no_version_2 = λ h. absurd (omega (arith, version_only (record { commit = 2; state = lists2 }) to_lists1 ((codes "z") ∷ []) 2 h))

-- lists3: y = [x]
told_3 : stored to_lists3 ∷ dropped to_lists3 ∷ []
    ≡ (((codes "x") ∷ (codes "y") ∷ []) ∷ []) ∷ (((codes "x") ∷ []) ∷ ((codes "y") ∷ []) ∷ []) ∷ []
told_3 = refl

versions_3 : version to_lists3 ((codes "x") ∷ (codes "y") ∷ []) ∷ version to_lists3 ((codes "z") ∷ []) ∷ []
    ≡ 3 ∷ 1 ∷ []
versions_3 = refl

is_version_3 : IsVersion to_lists3 ((codes "z") ∷ []) 1
is_version_3 = version_is (record { commit = 3; state = lists3 }) to_lists2 ((codes "z") ∷ []) (inr (inl refl))

no_version_3 : IsVersion to_lists3 ((codes "z") ∷ []) 2 → ⊥
no_version_3 = λ h. absurd (omega (arith, version_only (record { commit = 3; state = lists3 }) to_lists2 ((codes "z") ∷ []) 2 h))

-- lists4: z.append(3)
told_4 : stored to_lists4 ∷ dropped to_lists4 ∷ []
    ≡ (((codes "z") ∷ []) ∷ []) ∷ (((codes "z") ∷ []) ∷ []) ∷ []
told_4 = refl

versions_4 : version to_lists4 ((codes "x") ∷ (codes "y") ∷ []) ∷ version to_lists4 ((codes "z") ∷ []) ∷ []
    ≡ 3 ∷ 4 ∷ []
versions_4 = refl

is_version_4 : IsVersion to_lists4 ((codes "z") ∷ []) 4
is_version_4 = version_is (record { commit = 4; state = lists4 }) to_lists3 ((codes "z") ∷ []) (inr (inl refl))

no_version_4 : IsVersion to_lists4 ((codes "z") ∷ []) 3 → ⊥
no_version_4 = λ h. absurd (omega (arith, version_only (record { commit = 4; state = lists4 }) to_lists3 ((codes "z") ∷ []) 3 h))

-- lists5: w = z
told_5 : stored to_lists5 ∷ dropped to_lists5 ∷ []
    ≡ (((codes "w") ∷ (codes "z") ∷ []) ∷ []) ∷ (((codes "z") ∷ []) ∷ []) ∷ []
told_5 = refl

versions_5 : version to_lists5 ((codes "w") ∷ (codes "z") ∷ []) ∷ version to_lists5 ((codes "x") ∷ (codes "y") ∷ []) ∷ []
    ≡ 5 ∷ 3 ∷ []
versions_5 = refl

is_version_5 : IsVersion to_lists5 ((codes "x") ∷ (codes "y") ∷ []) 3
is_version_5 = version_is (record { commit = 5; state = lists5 }) to_lists4 ((codes "x") ∷ (codes "y") ∷ []) (inr (inl refl))

no_version_5 : IsVersion to_lists5 ((codes "x") ∷ (codes "y") ∷ []) 2 → ⊥
no_version_5 = λ h. absurd (omega (arith, version_only (record { commit = 5; state = lists5 }) to_lists4 ((codes "x") ∷ (codes "y") ∷ []) 2 h))

-- lists6: del w
told_6 : stored to_lists6 ∷ dropped to_lists6 ∷ []
    ≡ (((codes "z") ∷ []) ∷ []) ∷ (((codes "w") ∷ (codes "z") ∷ []) ∷ []) ∷ []
told_6 = refl

versions_6 : version to_lists6 ((codes "x") ∷ (codes "y") ∷ []) ∷ version to_lists6 ((codes "z") ∷ []) ∷ []
    ≡ 3 ∷ 6 ∷ []
versions_6 = refl

is_version_6 : IsVersion to_lists6 ((codes "z") ∷ []) 6
is_version_6 = version_is (record { commit = 6; state = lists6 }) to_lists5 ((codes "z") ∷ []) (inr (inl refl))

no_version_6 : IsVersion to_lists6 ((codes "z") ∷ []) 5 → ⊥
no_version_6 = λ h. absurd (omega (arith, version_only (record { commit = 6; state = lists6 }) to_lists5 ((codes "z") ∷ []) 5 h))

-- lists7: x, y, z
told_7 : stored to_lists7 ∷ dropped to_lists7 ∷ []
    ≡ [] ∷ [] ∷ []
told_7 = refl

versions_7 : version to_lists7 ((codes "x") ∷ (codes "y") ∷ []) ∷ version to_lists7 ((codes "z") ∷ []) ∷ []
    ≡ 3 ∷ 6 ∷ []
versions_7 = refl

is_version_7 : IsVersion to_lists7 ((codes "z") ∷ []) 6
is_version_7 = version_is (record { commit = 7; state = lists7 }) to_lists6 ((codes "z") ∷ []) (inr (inl refl))

no_version_7 : IsVersion to_lists7 ((codes "z") ∷ []) 5 → ⊥
no_version_7 = λ h. absurd (omega (arith, version_only (record { commit = 7; state = lists7 }) to_lists6 ((codes "z") ∷ []) 5 h))

-- lists8: x = [1], an equal list and another one
told_8 : stored to_lists8 ∷ dropped to_lists8 ∷ []
    ≡ (((codes "x") ∷ []) ∷ ((codes "y") ∷ []) ∷ []) ∷ (((codes "x") ∷ (codes "y") ∷ []) ∷ []) ∷ []
told_8 = refl

versions_8 : version to_lists8 ((codes "x") ∷ []) ∷ version to_lists8 ((codes "y") ∷ []) ∷ version to_lists8 ((codes "z") ∷ []) ∷ []
    ≡ 8 ∷ 8 ∷ 6 ∷ []
versions_8 = refl

is_version_8 : IsVersion to_lists8 ((codes "z") ∷ []) 6
is_version_8 = version_is (record { commit = 8; state = lists8 }) to_lists7 ((codes "z") ∷ []) (inr (inr (inl refl)))

no_version_8 : IsVersion to_lists8 ((codes "z") ∷ []) 5 → ⊥
no_version_8 = λ h. absurd (omega (arith, version_only (record { commit = 8; state = lists8 }) to_lists7 ((codes "z") ∷ []) 5 h))

-- lists9: w = 5
told_9 : stored to_lists9 ∷ dropped to_lists9 ∷ []
    ≡ (((codes "w") ∷ []) ∷ []) ∷ [] ∷ []
told_9 = refl

versions_9 : version to_lists9 ((codes "w") ∷ []) ∷ version to_lists9 ((codes "x") ∷ []) ∷ version to_lists9 ((codes "y") ∷ []) ∷ version to_lists9 ((codes "z") ∷ []) ∷ []
    ≡ 9 ∷ 8 ∷ 8 ∷ 6 ∷ []
versions_9 = refl

is_version_9 : IsVersion to_lists9 ((codes "z") ∷ []) 6
is_version_9 = version_is (record { commit = 9; state = lists9 }) to_lists8 ((codes "z") ∷ []) (inr (inr (inr (inl refl))))

no_version_9 : IsVersion to_lists9 ((codes "z") ∷ []) 5 → ⊥
no_version_9 = λ h. absurd (omega (arith, version_only (record { commit = 9; state = lists9 }) to_lists8 ((codes "z") ∷ []) 5 h))

-- lists10: w = 5, as it was
told_10 : stored to_lists10 ∷ dropped to_lists10 ∷ []
    ≡ [] ∷ [] ∷ []
told_10 = refl

versions_10 : version to_lists10 ((codes "w") ∷ []) ∷ version to_lists10 ((codes "x") ∷ []) ∷ version to_lists10 ((codes "y") ∷ []) ∷ version to_lists10 ((codes "z") ∷ []) ∷ []
    ≡ 9 ∷ 8 ∷ 8 ∷ 6 ∷ []
versions_10 = refl

is_version_10 : IsVersion to_lists10 ((codes "z") ∷ []) 6
is_version_10 = version_is (record { commit = 10; state = lists10 }) to_lists9 ((codes "z") ∷ []) (inr (inr (inr (inl refl))))

no_version_10 : IsVersion to_lists10 ((codes "z") ∷ []) 5 → ⊥
no_version_10 = λ h. absurd (omega (arith, version_only (record { commit = 10; state = lists10 }) to_lists9 ((codes "z") ∷ []) 5 h))

-- lists11: w = True
told_11 : stored to_lists11 ∷ dropped to_lists11 ∷ []
    ≡ (((codes "w") ∷ []) ∷ []) ∷ (((codes "w") ∷ []) ∷ []) ∷ []
told_11 = refl

versions_11 : version to_lists11 ((codes "w") ∷ []) ∷ version to_lists11 ((codes "x") ∷ []) ∷ version to_lists11 ((codes "y") ∷ []) ∷ version to_lists11 ((codes "z") ∷ []) ∷ []
    ≡ 11 ∷ 8 ∷ 8 ∷ 6 ∷ []
versions_11 = refl

is_version_11 : IsVersion to_lists11 ((codes "z") ∷ []) 6
is_version_11 = version_is (record { commit = 11; state = lists11 }) to_lists10 ((codes "z") ∷ []) (inr (inr (inr (inl refl))))

no_version_11 : IsVersion to_lists11 ((codes "z") ∷ []) 5 → ⊥
no_version_11 = λ h. absurd (omega (arith, version_only (record { commit = 11; state = lists11 }) to_lists10 ((codes "z") ∷ []) 5 h))

-- lists12: del x, y, z, w
told_12 : stored to_lists12 ∷ dropped to_lists12 ∷ []
    ≡ [] ∷ (((codes "w") ∷ []) ∷ ((codes "x") ∷ []) ∷ ((codes "y") ∷ []) ∷ ((codes "z") ∷ []) ∷ []) ∷ []
told_12 = refl

-- lists13: the first cell again
told_13 : stored to_lists13 ∷ dropped to_lists13 ∷ []
    ≡ (((codes "x") ∷ (codes "y") ∷ []) ∷ ((codes "z") ∷ []) ∷ []) ∷ [] ∷ []
told_13 = refl

versions_12 : version to_lists13 ((codes "x") ∷ (codes "y") ∷ []) ∷ version to_lists13 ((codes "z") ∷ []) ∷ []
    ≡ 13 ∷ 13 ∷ []
versions_12 = refl

is_version_12 : IsVersion to_lists13 ((codes "z") ∷ []) 13
is_version_12 = version_is (record { commit = 13; state = lists13 }) to_lists12 ((codes "z") ∷ []) (inr (inl refl))

no_version_12 : IsVersion to_lists13 ((codes "z") ∷ []) 12 → ⊥
no_version_12 = λ h. absurd (omega (arith, version_only (record { commit = 13; state = lists13 }) to_lists12 ((codes "z") ∷ []) 12 h))

-- ways1: a = [1]; b = [2]; c = [3]
told_14 : stored to_ways1 ∷ dropped to_ways1 ∷ []
    ≡ (((codes "a") ∷ []) ∷ ((codes "b") ∷ []) ∷ ((codes "c") ∷ []) ∷ []) ∷ [] ∷ []
told_14 = refl

versions_13 : version to_ways1 ((codes "a") ∷ []) ∷ version to_ways1 ((codes "b") ∷ []) ∷ version to_ways1 ((codes "c") ∷ []) ∷ []
    ≡ 1 ∷ 1 ∷ 1 ∷ []
versions_13 = refl

is_version_13 : IsVersion to_ways1 ((codes "c") ∷ []) 1
is_version_13 = version_is (record { commit = 1; state = ways1 }) [] ((codes "c") ∷ []) (inr (inr (inl refl)))

no_version_13 : IsVersion to_ways1 ((codes "c") ∷ []) 2 → ⊥
no_version_13 = λ h. absurd (omega (arith, version_only (record { commit = 1; state = ways1 }) [] ((codes "c") ∷ []) 2 h))

-- ways2: a.append(0)
told_15 : stored to_ways2 ∷ dropped to_ways2 ∷ []
    ≡ (((codes "a") ∷ []) ∷ []) ∷ (((codes "a") ∷ []) ∷ []) ∷ []
told_15 = refl

versions_14 : version to_ways2 ((codes "a") ∷ []) ∷ version to_ways2 ((codes "b") ∷ []) ∷ version to_ways2 ((codes "c") ∷ []) ∷ []
    ≡ 2 ∷ 1 ∷ 1 ∷ []
versions_14 = refl

is_version_14 : IsVersion to_ways2 ((codes "c") ∷ []) 1
is_version_14 = version_is (record { commit = 2; state = ways2 }) to_ways1 ((codes "c") ∷ []) (inr (inr (inl refl)))

no_version_14 : IsVersion to_ways2 ((codes "c") ∷ []) 2 → ⊥
no_version_14 = λ h. absurd (omega (arith, version_only (record { commit = 2; state = ways2 }) to_ways1 ((codes "c") ∷ []) 2 h))

-- ways3: on one way: b.append(7)
told_16 : stored to_ways3 ∷ dropped to_ways3 ∷ []
    ≡ (((codes "b") ∷ []) ∷ []) ∷ (((codes "b") ∷ []) ∷ []) ∷ []
told_16 = refl

versions_15 : version to_ways3 ((codes "a") ∷ []) ∷ version to_ways3 ((codes "b") ∷ []) ∷ version to_ways3 ((codes "c") ∷ []) ∷ []
    ≡ 2 ∷ 3 ∷ 1 ∷ []
versions_15 = refl

is_version_15 : IsVersion to_ways3 ((codes "c") ∷ []) 1
is_version_15 = version_is (record { commit = 3; state = ways3 }) to_ways2 ((codes "c") ∷ []) (inr (inr (inl refl)))

no_version_15 : IsVersion to_ways3 ((codes "c") ∷ []) 2 → ⊥
no_version_15 = λ h. absurd (omega (arith, version_only (record { commit = 3; state = ways3 }) to_ways2 ((codes "c") ∷ []) 2 h))

-- ways5: and c.append(b)
told_17 : stored to_ways5 ∷ dropped to_ways5 ∷ []
    ≡ (((codes "b") ∷ (codes "c") ∷ []) ∷ []) ∷ (((codes "b") ∷ []) ∷ ((codes "c") ∷ []) ∷ []) ∷ []
told_17 = refl

versions_16 : version to_ways5 ((codes "a") ∷ []) ∷ version to_ways5 ((codes "b") ∷ (codes "c") ∷ []) ∷ []
    ≡ 2 ∷ 5 ∷ []
versions_16 = refl

is_version_16 : IsVersion to_ways5 ((codes "b") ∷ (codes "c") ∷ []) 5
is_version_16 = version_is (record { commit = 5; state = ways5 }) to_ways3 ((codes "b") ∷ (codes "c") ∷ []) (inr (inl refl))

no_version_16 : IsVersion to_ways5 ((codes "b") ∷ (codes "c") ∷ []) 4 → ⊥
no_version_16 = λ h. absurd (omega (arith, version_only (record { commit = 5; state = ways5 }) to_ways3 ((codes "b") ∷ (codes "c") ∷ []) 4 h))

-- ways4: on the other way: b.append(7), too
told_18 : stored to_ways4 ∷ dropped to_ways4 ∷ []
    ≡ (((codes "b") ∷ []) ∷ []) ∷ (((codes "b") ∷ []) ∷ []) ∷ []
told_18 = refl

versions_17 : version to_ways4 ((codes "a") ∷ []) ∷ version to_ways4 ((codes "b") ∷ []) ∷ version to_ways4 ((codes "c") ∷ []) ∷ []
    ≡ 2 ∷ 4 ∷ 1 ∷ []
versions_17 = refl

is_version_17 : IsVersion to_ways4 ((codes "c") ∷ []) 1
is_version_17 = version_is (record { commit = 4; state = ways4 }) to_ways2 ((codes "c") ∷ []) (inr (inr (inl refl)))

no_version_17 : IsVersion to_ways4 ((codes "c") ∷ []) 2 → ⊥
no_version_17 = λ h. absurd (omega (arith, version_only (record { commit = 4; state = ways4 }) to_ways2 ((codes "c") ∷ []) 2 h))

-- ways6: and d = a
told_19 : stored to_ways6 ∷ dropped to_ways6 ∷ []
    ≡ (((codes "a") ∷ (codes "d") ∷ []) ∷ []) ∷ (((codes "a") ∷ []) ∷ []) ∷ []
told_19 = refl

versions_18 : version to_ways6 ((codes "a") ∷ (codes "d") ∷ []) ∷ version to_ways6 ((codes "b") ∷ []) ∷ version to_ways6 ((codes "c") ∷ []) ∷ []
    ≡ 6 ∷ 4 ∷ 1 ∷ []
versions_18 = refl

is_version_18 : IsVersion to_ways6 ((codes "c") ∷ []) 1
is_version_18 = version_is (record { commit = 6; state = ways6 }) to_ways4 ((codes "c") ∷ []) (inr (inr (inl refl)))

no_version_18 : IsVersion to_ways6 ((codes "c") ∷ []) 2 → ⊥
no_version_18 = λ h. absurd (omega (arith, version_only (record { commit = 6; state = ways6 }) to_ways4 ((codes "c") ∷ []) 2 h))

-- ways7: del d
told_20 : stored to_ways7 ∷ dropped to_ways7 ∷ []
    ≡ (((codes "a") ∷ []) ∷ []) ∷ (((codes "a") ∷ (codes "d") ∷ []) ∷ []) ∷ []
told_20 = refl

versions_19 : version to_ways7 ((codes "a") ∷ []) ∷ version to_ways7 ((codes "b") ∷ []) ∷ version to_ways7 ((codes "c") ∷ []) ∷ []
    ≡ 7 ∷ 4 ∷ 1 ∷ []
versions_19 = refl

is_version_19 : IsVersion to_ways7 ((codes "c") ∷ []) 1
is_version_19 = version_is (record { commit = 7; state = ways7 }) to_ways6 ((codes "c") ∷ []) (inr (inr (inl refl)))

no_version_19 : IsVersion to_ways7 ((codes "c") ∷ []) 2 → ⊥
no_version_19 = λ h. absurd (omega (arith, version_only (record { commit = 7; state = ways7 }) to_ways6 ((codes "c") ∷ []) 2 h))

-- ways8: from the first commit: del c
told_21 : stored to_ways8 ∷ dropped to_ways8 ∷ []
    ≡ [] ∷ (((codes "c") ∷ []) ∷ []) ∷ []
told_21 = refl

versions_20 : version to_ways8 ((codes "a") ∷ []) ∷ version to_ways8 ((codes "b") ∷ []) ∷ []
    ≡ 1 ∷ 1 ∷ []
versions_20 = refl

is_version_20 : IsVersion to_ways8 ((codes "b") ∷ []) 1
is_version_20 = version_is (record { commit = 8; state = ways8 }) to_ways1 ((codes "b") ∷ []) (inr (inl refl))

no_version_20 : IsVersion to_ways8 ((codes "b") ∷ []) 2 → ⊥
no_version_20 = λ h. absurd (omega (arith, version_only (record { commit = 8; state = ways8 }) to_ways1 ((codes "b") ∷ []) 2 h))

-- kinds1: def g(x, acc=[]): ..
told_22 : stored to_kinds1 ∷ dropped to_kinds1 ∷ []
    ≡ (((codes "g") ∷ []) ∷ []) ∷ [] ∷ []
told_22 = refl

versions_21 : version to_kinds1 ((codes "g") ∷ []) ∷ []
    ≡ 1 ∷ []
versions_21 = refl

is_version_21 : IsVersion to_kinds1 ((codes "g") ∷ []) 1
is_version_21 = version_is (record { commit = 1; state = kinds1 }) [] ((codes "g") ∷ []) (inl refl)

no_version_21 : IsVersion to_kinds1 ((codes "g") ∷ []) 2 → ⊥
no_version_21 = λ h. absurd (omega (arith, version_only (record { commit = 1; state = kinds1 }) [] ((codes "g") ∷ []) 2 h))

-- kinds2: p = g(1)
told_23 : stored to_kinds2 ∷ dropped to_kinds2 ∷ []
    ≡ (((codes "g") ∷ (codes "p") ∷ []) ∷ []) ∷ (((codes "g") ∷ []) ∷ []) ∷ []
told_23 = refl

versions_22 : version to_kinds2 ((codes "g") ∷ (codes "p") ∷ []) ∷ []
    ≡ 2 ∷ []
versions_22 = refl

is_version_22 : IsVersion to_kinds2 ((codes "g") ∷ (codes "p") ∷ []) 2
is_version_22 = version_is (record { commit = 2; state = kinds2 }) to_kinds1 ((codes "g") ∷ (codes "p") ∷ []) (inl refl)

no_version_22 : IsVersion to_kinds2 ((codes "g") ∷ (codes "p") ∷ []) 1 → ⊥
no_version_22 = λ h. absurd (omega (arith, version_only (record { commit = 2; state = kinds2 }) to_kinds1 ((codes "g") ∷ (codes "p") ∷ []) 1 h))

-- kinds3: p = 0
told_24 : stored to_kinds3 ∷ dropped to_kinds3 ∷ []
    ≡ (((codes "g") ∷ []) ∷ ((codes "p") ∷ []) ∷ []) ∷ (((codes "g") ∷ (codes "p") ∷ []) ∷ []) ∷ []
told_24 = refl

versions_23 : version to_kinds3 ((codes "g") ∷ []) ∷ version to_kinds3 ((codes "p") ∷ []) ∷ []
    ≡ 3 ∷ 3 ∷ []
versions_23 = refl

is_version_23 : IsVersion to_kinds3 ((codes "p") ∷ []) 3
is_version_23 = version_is (record { commit = 3; state = kinds3 }) to_kinds2 ((codes "p") ∷ []) (inr (inl refl))

no_version_23 : IsVersion to_kinds3 ((codes "p") ∷ []) 2 → ⊥
no_version_23 = λ h. absurd (omega (arith, version_only (record { commit = 3; state = kinds3 }) to_kinds2 ((codes "p") ∷ []) 2 h))

-- kinds4: d = {1: 'a', (1, True): None}; t = (1, 2)
told_25 : stored to_kinds4 ∷ dropped to_kinds4 ∷ []
    ≡ (((codes "d") ∷ []) ∷ ((codes "t") ∷ []) ∷ []) ∷ [] ∷ []
told_25 = refl

versions_24 : version to_kinds4 ((codes "d") ∷ []) ∷ version to_kinds4 ((codes "g") ∷ []) ∷ version to_kinds4 ((codes "p") ∷ []) ∷ version to_kinds4 ((codes "t") ∷ []) ∷ []
    ≡ 4 ∷ 3 ∷ 3 ∷ 4 ∷ []
versions_24 = refl

is_version_24 : IsVersion to_kinds4 ((codes "t") ∷ []) 4
is_version_24 = version_is (record { commit = 4; state = kinds4 }) to_kinds3 ((codes "t") ∷ []) (inr (inr (inr (inl refl))))

no_version_24 : IsVersion to_kinds4 ((codes "t") ∷ []) 3 → ⊥
no_version_24 = λ h. absurd (omega (arith, version_only (record { commit = 4; state = kinds4 }) to_kinds3 ((codes "t") ∷ []) 3 h))

-- kinds5: the same keys in the other order
told_26 : stored to_kinds5 ∷ dropped to_kinds5 ∷ []
    ≡ (((codes "d") ∷ []) ∷ []) ∷ (((codes "d") ∷ []) ∷ []) ∷ []
told_26 = refl

versions_25 : version to_kinds5 ((codes "d") ∷ []) ∷ version to_kinds5 ((codes "g") ∷ []) ∷ version to_kinds5 ((codes "p") ∷ []) ∷ version to_kinds5 ((codes "t") ∷ []) ∷ []
    ≡ 5 ∷ 3 ∷ 3 ∷ 4 ∷ []
versions_25 = refl

is_version_25 : IsVersion to_kinds5 ((codes "t") ∷ []) 4
is_version_25 = version_is (record { commit = 5; state = kinds5 }) to_kinds4 ((codes "t") ∷ []) (inr (inr (inr (inl refl))))

no_version_25 : IsVersion to_kinds5 ((codes "t") ∷ []) 3 → ⊥
no_version_25 = λ h. absurd (omega (arith, version_only (record { commit = 5; state = kinds5 }) to_kinds4 ((codes "t") ∷ []) 3 h))

-- kinds6: d[1, True] = t
told_27 : stored to_kinds6 ∷ dropped to_kinds6 ∷ []
    ≡ (((codes "d") ∷ (codes "t") ∷ []) ∷ []) ∷ (((codes "d") ∷ []) ∷ ((codes "t") ∷ []) ∷ []) ∷ []
told_27 = refl

versions_26 : version to_kinds6 ((codes "d") ∷ (codes "t") ∷ []) ∷ version to_kinds6 ((codes "g") ∷ []) ∷ version to_kinds6 ((codes "p") ∷ []) ∷ []
    ≡ 6 ∷ 3 ∷ 3 ∷ []
versions_26 = refl

is_version_26 : IsVersion to_kinds6 ((codes "p") ∷ []) 3
is_version_26 = version_is (record { commit = 6; state = kinds6 }) to_kinds5 ((codes "p") ∷ []) (inr (inr (inl refl)))

no_version_26 : IsVersion to_kinds6 ((codes "p") ∷ []) 2 → ⊥
no_version_26 = λ h. absurd (omega (arith, version_only (record { commit = 6; state = kinds6 }) to_kinds5 ((codes "p") ∷ []) 2 h))

-- kinds7: t = (1, 2), another one
told_28 : stored to_kinds7 ∷ dropped to_kinds7 ∷ []
    ≡ (((codes "d") ∷ []) ∷ ((codes "t") ∷ []) ∷ []) ∷ (((codes "d") ∷ (codes "t") ∷ []) ∷ []) ∷ []
told_28 = refl

versions_27 : version to_kinds7 ((codes "d") ∷ []) ∷ version to_kinds7 ((codes "g") ∷ []) ∷ version to_kinds7 ((codes "p") ∷ []) ∷ version to_kinds7 ((codes "t") ∷ []) ∷ []
    ≡ 7 ∷ 3 ∷ 3 ∷ 7 ∷ []
versions_27 = refl

is_version_27 : IsVersion to_kinds7 ((codes "t") ∷ []) 7
is_version_27 = version_is (record { commit = 7; state = kinds7 }) to_kinds6 ((codes "t") ∷ []) (inr (inr (inr (inl refl))))

no_version_27 : IsVersion to_kinds7 ((codes "t") ∷ []) 6 → ⊥
no_version_27 = λ h. absurd (omega (arith, version_only (record { commit = 7; state = kinds7 }) to_kinds6 ((codes "t") ∷ []) 6 h))

-- kinds8: e = ValueError(t); o = SimpleNamespace(t=t)
told_29 : stored to_kinds8 ∷ dropped to_kinds8 ∷ []
    ≡ (((codes "e") ∷ (codes "o") ∷ (codes "t") ∷ []) ∷ []) ∷ (((codes "t") ∷ []) ∷ []) ∷ []
told_29 = refl

versions_28 : version to_kinds8 ((codes "d") ∷ []) ∷ version to_kinds8 ((codes "e") ∷ (codes "o") ∷ (codes "t") ∷ []) ∷ version to_kinds8 ((codes "g") ∷ []) ∷ version to_kinds8 ((codes "p") ∷ []) ∷ []
    ≡ 7 ∷ 8 ∷ 3 ∷ 3 ∷ []
versions_28 = refl

is_version_28 : IsVersion to_kinds8 ((codes "p") ∷ []) 3
is_version_28 = version_is (record { commit = 8; state = kinds8 }) to_kinds7 ((codes "p") ∷ []) (inr (inr (inr (inl refl))))

no_version_28 : IsVersion to_kinds8 ((codes "p") ∷ []) 2 → ⊥
no_version_28 = λ h. absurd (omega (arith, version_only (record { commit = 8; state = kinds8 }) to_kinds7 ((codes "p") ∷ []) 2 h))

-- kinds9: del o.t
told_30 : stored to_kinds9 ∷ dropped to_kinds9 ∷ []
    ≡ (((codes "e") ∷ (codes "t") ∷ []) ∷ ((codes "o") ∷ []) ∷ []) ∷ (((codes "e") ∷ (codes "o") ∷ (codes "t") ∷ []) ∷ []) ∷ []
told_30 = refl

versions_29 : version to_kinds9 ((codes "d") ∷ []) ∷ version to_kinds9 ((codes "e") ∷ (codes "t") ∷ []) ∷ version to_kinds9 ((codes "g") ∷ []) ∷ version to_kinds9 ((codes "o") ∷ []) ∷ version to_kinds9 ((codes "p") ∷ []) ∷ []
    ≡ 7 ∷ 9 ∷ 3 ∷ 9 ∷ 3 ∷ []
versions_29 = refl

is_version_29 : IsVersion to_kinds9 ((codes "p") ∷ []) 3
is_version_29 = version_is (record { commit = 9; state = kinds9 }) to_kinds8 ((codes "p") ∷ []) (inr (inr (inr (inr (inl refl)))))

no_version_29 : IsVersion to_kinds9 ((codes "p") ∷ []) 2 → ⊥
no_version_29 = λ h. absurd (omega (arith, version_only (record { commit = 9; state = kinds9 }) to_kinds8 ((codes "p") ∷ []) 2 h))

-- kinds10: def g(x): return x
told_31 : stored to_kinds10 ∷ dropped to_kinds10 ∷ []
    ≡ (((codes "g") ∷ []) ∷ []) ∷ (((codes "g") ∷ []) ∷ []) ∷ []
told_31 = refl

versions_30 : version to_kinds10 ((codes "d") ∷ []) ∷ version to_kinds10 ((codes "e") ∷ (codes "t") ∷ []) ∷ version to_kinds10 ((codes "g") ∷ []) ∷ version to_kinds10 ((codes "o") ∷ []) ∷ version to_kinds10 ((codes "p") ∷ []) ∷ []
    ≡ 7 ∷ 9 ∷ 10 ∷ 9 ∷ 3 ∷ []
versions_30 = refl

is_version_30 : IsVersion to_kinds10 ((codes "p") ∷ []) 3
is_version_30 = version_is (record { commit = 10; state = kinds10 }) to_kinds9 ((codes "p") ∷ []) (inr (inr (inr (inr (inl refl)))))

no_version_30 : IsVersion to_kinds10 ((codes "p") ∷ []) 2 → ⊥
no_version_30 = λ h. absurd (omega (arith, version_only (record { commit = 10; state = kinds10 }) to_kinds9 ((codes "p") ∷ []) 2 h))

-- Tables and changes that are those of a history, and others: computed on the definitions. Made by tools/rows/checkout_rows.py.
use Rattle.std.specs.Prelude.{◌≡◌, List, [], ◌∷◌, codes, refl}
use Rattle.std.proofs.Common.{arith, inl, inr}
use Rattle.kishu_history.specs.Tables.{Row, Change, AreRight, IsRight}
use Rattle.kishu_history.specs.Versions.{version}
use Rattle.kishu_history_laws.specs.tables.FileLaws.{all_in}
use Rattle.kishu_object_rows.proofs.Histories.{to_lists1, to_lists2, to_lists3, to_lists4, to_lists5, to_lists6, to_lists7, to_lists8, to_lists9, to_lists10, to_lists11, to_lists12, to_lists13, to_ways1, to_ways2, to_ways3, to_ways5, to_ways4, to_ways6, to_ways7, to_ways8, to_kinds1, to_kinds2, to_kinds3, to_kinds4, to_kinds5, to_kinds6, to_kinds7, to_kinds8, to_kinds9, to_kinds10}

right_1 : IsRight to_lists1 ((record { group = ((codes "x") ∷ (codes "y") ∷ []); version = 1; place = 13000; len = 54 }) ∷ (record { group = ((codes "z") ∷ []); version = 1; place = 13200; len = 37 }) ∷ [])
right_1 = record { groups = refl; versions = λ r m. all_in (λ (q : Row). q.version ≡ version to_lists1 q.group) ((record { group = ((codes "x") ∷ (codes "y") ∷ []); version = 1; place = 13000; len = 54 }) ∷ (record { group = ((codes "z") ∷ []); version = 1; place = 13200; len = 37 }) ∷ []) (refl, (refl, tt)) r m }

wrong_1 : IsRight to_lists1 ((record { group = ((codes "x") ∷ (codes "y") ∷ []); version = 1; place = 13000; len = 54 }) ∷ (record { group = ((codes "z") ∷ []); version = 2; place = 13200; len = 37 }) ∷ []) → ⊥
wrong_1 = λ h. absurd (omega (arith, h.versions (record { group = ((codes "z") ∷ []); version = 2; place = 13200; len = 37 }) (inr (inl refl))))

abbrev lists1_change : Change
lists1_change = record { dropped = []; stored = ((record { group = ((codes "x") ∷ (codes "y") ∷ []); version = 1; place = 13000; len = 54 }) ∷ (record { group = ((codes "z") ∷ []); version = 1; place = 13200; len = 37 }) ∷ []) }

abbrev lists1_changes : List Change
lists1_changes = lists1_change ∷ []

all_lists1 : AreRight to_lists1 lists1_changes
all_lists1 = (refl, refl, (λ r m. all_in (λ (q : Row). q.version ≡ 1) ((record { group = ((codes "x") ∷ (codes "y") ∷ []); version = 1; place = 13000; len = 54 }) ∷ (record { group = ((codes "z") ∷ []); version = 1; place = 13200; len = 37 }) ∷ []) (refl, (refl, tt)) r m), tt)

right_2 : IsRight to_lists2 ((record { group = ((codes "x") ∷ []); version = 2; place = 14000; len = 37 }) ∷ (record { group = ((codes "y") ∷ []); version = 2; place = 14100; len = 27 }) ∷ (record { group = ((codes "z") ∷ []); version = 1; place = 13200; len = 37 }) ∷ [])
right_2 = record { groups = refl; versions = λ r m. all_in (λ (q : Row). q.version ≡ version to_lists2 q.group) ((record { group = ((codes "x") ∷ []); version = 2; place = 14000; len = 37 }) ∷ (record { group = ((codes "y") ∷ []); version = 2; place = 14100; len = 27 }) ∷ (record { group = ((codes "z") ∷ []); version = 1; place = 13200; len = 37 }) ∷ []) (refl, (refl, (refl, tt))) r m }

wrong_2 : IsRight to_lists2 ((record { group = ((codes "x") ∷ []); version = 2; place = 14000; len = 37 }) ∷ (record { group = ((codes "y") ∷ []); version = 2; place = 14100; len = 27 }) ∷ (record { group = ((codes "z") ∷ []); version = 2; place = 13200; len = 37 }) ∷ []) → ⊥
wrong_2 = λ h. absurd (omega (arith, h.versions (record { group = ((codes "z") ∷ []); version = 2; place = 13200; len = 37 }) (inr (inr (inl refl)))))

abbrev lists2_change : Change
lists2_change = record { dropped = (((codes "x") ∷ (codes "y") ∷ []) ∷ []); stored = ((record { group = ((codes "x") ∷ []); version = 2; place = 14000; len = 37 }) ∷ (record { group = ((codes "y") ∷ []); version = 2; place = 14100; len = 27 }) ∷ []) }

abbrev lists2_changes : List Change
lists2_changes = lists2_change ∷ lists1_changes

all_lists2 : AreRight to_lists2 lists2_changes
all_lists2 = (refl, refl, (λ r m. all_in (λ (q : Row). q.version ≡ 2) ((record { group = ((codes "x") ∷ []); version = 2; place = 14000; len = 37 }) ∷ (record { group = ((codes "y") ∷ []); version = 2; place = 14100; len = 27 }) ∷ []) (refl, (refl, tt)) r m), all_lists1)

right_3 : IsRight to_lists3 ((record { group = ((codes "x") ∷ (codes "y") ∷ []); version = 3; place = 15000; len = 54 }) ∷ (record { group = ((codes "z") ∷ []); version = 1; place = 13200; len = 37 }) ∷ [])
right_3 = record { groups = refl; versions = λ r m. all_in (λ (q : Row). q.version ≡ version to_lists3 q.group) ((record { group = ((codes "x") ∷ (codes "y") ∷ []); version = 3; place = 15000; len = 54 }) ∷ (record { group = ((codes "z") ∷ []); version = 1; place = 13200; len = 37 }) ∷ []) (refl, (refl, tt)) r m }

wrong_3 : IsRight to_lists3 ((record { group = ((codes "x") ∷ (codes "y") ∷ []); version = 3; place = 15000; len = 54 }) ∷ (record { group = ((codes "z") ∷ []); version = 2; place = 13200; len = 37 }) ∷ []) → ⊥
wrong_3 = λ h. absurd (omega (arith, h.versions (record { group = ((codes "z") ∷ []); version = 2; place = 13200; len = 37 }) (inr (inl refl))))

abbrev lists3_change : Change
lists3_change = record { dropped = (((codes "x") ∷ []) ∷ ((codes "y") ∷ []) ∷ []); stored = ((record { group = ((codes "x") ∷ (codes "y") ∷ []); version = 3; place = 15000; len = 54 }) ∷ []) }

abbrev lists3_changes : List Change
lists3_changes = lists3_change ∷ lists2_changes

all_lists3 : AreRight to_lists3 lists3_changes
all_lists3 = (refl, refl, (λ r m. all_in (λ (q : Row). q.version ≡ 3) ((record { group = ((codes "x") ∷ (codes "y") ∷ []); version = 3; place = 15000; len = 54 }) ∷ []) (refl, tt) r m), all_lists2)

right_4 : IsRight to_lists4 ((record { group = ((codes "x") ∷ (codes "y") ∷ []); version = 3; place = 15000; len = 54 }) ∷ (record { group = ((codes "z") ∷ []); version = 4; place = 16200; len = 54 }) ∷ [])
right_4 = record { groups = refl; versions = λ r m. all_in (λ (q : Row). q.version ≡ version to_lists4 q.group) ((record { group = ((codes "x") ∷ (codes "y") ∷ []); version = 3; place = 15000; len = 54 }) ∷ (record { group = ((codes "z") ∷ []); version = 4; place = 16200; len = 54 }) ∷ []) (refl, (refl, tt)) r m }

wrong_4 : IsRight to_lists4 ((record { group = ((codes "x") ∷ (codes "y") ∷ []); version = 3; place = 15000; len = 54 }) ∷ (record { group = ((codes "z") ∷ []); version = 5; place = 16200; len = 54 }) ∷ []) → ⊥
wrong_4 = λ h. absurd (omega (arith, h.versions (record { group = ((codes "z") ∷ []); version = 5; place = 16200; len = 54 }) (inr (inl refl))))

abbrev lists4_change : Change
lists4_change = record { dropped = (((codes "z") ∷ []) ∷ []); stored = ((record { group = ((codes "z") ∷ []); version = 4; place = 16200; len = 54 }) ∷ []) }

abbrev lists4_changes : List Change
lists4_changes = lists4_change ∷ lists3_changes

all_lists4 : AreRight to_lists4 lists4_changes
all_lists4 = (refl, refl, (λ r m. all_in (λ (q : Row). q.version ≡ 4) ((record { group = ((codes "z") ∷ []); version = 4; place = 16200; len = 54 }) ∷ []) (refl, tt) r m), all_lists3)

right_5 : IsRight to_lists5 ((record { group = ((codes "w") ∷ (codes "z") ∷ []); version = 5; place = 16900; len = 61 }) ∷ (record { group = ((codes "x") ∷ (codes "y") ∷ []); version = 3; place = 15000; len = 54 }) ∷ [])
right_5 = record { groups = refl; versions = λ r m. all_in (λ (q : Row). q.version ≡ version to_lists5 q.group) ((record { group = ((codes "w") ∷ (codes "z") ∷ []); version = 5; place = 16900; len = 61 }) ∷ (record { group = ((codes "x") ∷ (codes "y") ∷ []); version = 3; place = 15000; len = 54 }) ∷ []) (refl, (refl, tt)) r m }

wrong_5 : IsRight to_lists5 ((record { group = ((codes "w") ∷ (codes "z") ∷ []); version = 5; place = 16900; len = 61 }) ∷ (record { group = ((codes "x") ∷ (codes "y") ∷ []); version = 4; place = 15000; len = 54 }) ∷ []) → ⊥
wrong_5 = λ h. absurd (omega (arith, h.versions (record { group = ((codes "x") ∷ (codes "y") ∷ []); version = 4; place = 15000; len = 54 }) (inr (inl refl))))

abbrev lists5_change : Change
lists5_change = record { dropped = (((codes "z") ∷ []) ∷ []); stored = ((record { group = ((codes "w") ∷ (codes "z") ∷ []); version = 5; place = 16900; len = 61 }) ∷ []) }

abbrev lists5_changes : List Change
lists5_changes = lists5_change ∷ lists4_changes

all_lists5 : AreRight to_lists5 lists5_changes
all_lists5 = (refl, refl, (λ r m. all_in (λ (q : Row). q.version ≡ 5) ((record { group = ((codes "w") ∷ (codes "z") ∷ []); version = 5; place = 16900; len = 61 }) ∷ []) (refl, tt) r m), all_lists4)

right_6 : IsRight to_lists6 ((record { group = ((codes "x") ∷ (codes "y") ∷ []); version = 3; place = 15000; len = 54 }) ∷ (record { group = ((codes "z") ∷ []); version = 6; place = 18200; len = 54 }) ∷ [])
right_6 = record { groups = refl; versions = λ r m. all_in (λ (q : Row). q.version ≡ version to_lists6 q.group) ((record { group = ((codes "x") ∷ (codes "y") ∷ []); version = 3; place = 15000; len = 54 }) ∷ (record { group = ((codes "z") ∷ []); version = 6; place = 18200; len = 54 }) ∷ []) (refl, (refl, tt)) r m }

wrong_6 : IsRight to_lists6 ((record { group = ((codes "x") ∷ (codes "y") ∷ []); version = 3; place = 15000; len = 54 }) ∷ (record { group = ((codes "z") ∷ []); version = 7; place = 18200; len = 54 }) ∷ []) → ⊥
wrong_6 = λ h. absurd (omega (arith, h.versions (record { group = ((codes "z") ∷ []); version = 7; place = 18200; len = 54 }) (inr (inl refl))))

abbrev lists6_change : Change
lists6_change = record { dropped = (((codes "w") ∷ (codes "z") ∷ []) ∷ []); stored = ((record { group = ((codes "z") ∷ []); version = 6; place = 18200; len = 54 }) ∷ []) }

abbrev lists6_changes : List Change
lists6_changes = lists6_change ∷ lists5_changes

all_lists6 : AreRight to_lists6 lists6_changes
all_lists6 = (refl, refl, (λ r m. all_in (λ (q : Row). q.version ≡ 6) ((record { group = ((codes "z") ∷ []); version = 6; place = 18200; len = 54 }) ∷ []) (refl, tt) r m), all_lists5)

right_7 : IsRight to_lists7 ((record { group = ((codes "x") ∷ (codes "y") ∷ []); version = 3; place = 15000; len = 54 }) ∷ (record { group = ((codes "z") ∷ []); version = 6; place = 18200; len = 54 }) ∷ [])
right_7 = record { groups = refl; versions = λ r m. all_in (λ (q : Row). q.version ≡ version to_lists7 q.group) ((record { group = ((codes "x") ∷ (codes "y") ∷ []); version = 3; place = 15000; len = 54 }) ∷ (record { group = ((codes "z") ∷ []); version = 6; place = 18200; len = 54 }) ∷ []) (refl, (refl, tt)) r m }

wrong_7 : IsRight to_lists7 ((record { group = ((codes "x") ∷ (codes "y") ∷ []); version = 3; place = 15000; len = 54 }) ∷ (record { group = ((codes "z") ∷ []); version = 7; place = 18200; len = 54 }) ∷ []) → ⊥
wrong_7 = λ h. absurd (omega (arith, h.versions (record { group = ((codes "z") ∷ []); version = 7; place = 18200; len = 54 }) (inr (inl refl))))

abbrev lists7_change : Change
lists7_change = record { dropped = []; stored = [] }

abbrev lists7_changes : List Change
lists7_changes = lists7_change ∷ lists6_changes

all_lists7 : AreRight to_lists7 lists7_changes
all_lists7 = (refl, refl, (λ r m. all_in (λ (q : Row). q.version ≡ 7) [] tt r m), all_lists6)

right_8 : IsRight to_lists8 ((record { group = ((codes "x") ∷ []); version = 8; place = 20000; len = 37 }) ∷ (record { group = ((codes "y") ∷ []); version = 8; place = 20100; len = 47 }) ∷ (record { group = ((codes "z") ∷ []); version = 6; place = 18200; len = 54 }) ∷ [])
right_8 = record { groups = refl; versions = λ r m. all_in (λ (q : Row). q.version ≡ version to_lists8 q.group) ((record { group = ((codes "x") ∷ []); version = 8; place = 20000; len = 37 }) ∷ (record { group = ((codes "y") ∷ []); version = 8; place = 20100; len = 47 }) ∷ (record { group = ((codes "z") ∷ []); version = 6; place = 18200; len = 54 }) ∷ []) (refl, (refl, (refl, tt))) r m }

wrong_8 : IsRight to_lists8 ((record { group = ((codes "x") ∷ []); version = 8; place = 20000; len = 37 }) ∷ (record { group = ((codes "y") ∷ []); version = 8; place = 20100; len = 47 }) ∷ (record { group = ((codes "z") ∷ []); version = 7; place = 18200; len = 54 }) ∷ []) → ⊥
wrong_8 = λ h. absurd (omega (arith, h.versions (record { group = ((codes "z") ∷ []); version = 7; place = 18200; len = 54 }) (inr (inr (inl refl)))))

abbrev lists8_change : Change
lists8_change = record { dropped = (((codes "x") ∷ (codes "y") ∷ []) ∷ []); stored = ((record { group = ((codes "x") ∷ []); version = 8; place = 20000; len = 37 }) ∷ (record { group = ((codes "y") ∷ []); version = 8; place = 20100; len = 47 }) ∷ []) }

abbrev lists8_changes : List Change
lists8_changes = lists8_change ∷ lists7_changes

all_lists8 : AreRight to_lists8 lists8_changes
all_lists8 = (refl, refl, (λ r m. all_in (λ (q : Row). q.version ≡ 8) ((record { group = ((codes "x") ∷ []); version = 8; place = 20000; len = 37 }) ∷ (record { group = ((codes "y") ∷ []); version = 8; place = 20100; len = 47 }) ∷ []) (refl, (refl, tt)) r m), all_lists7)

right_9 : IsRight to_lists9 ((record { group = ((codes "w") ∷ []); version = 9; place = 20900; len = 27 }) ∷ (record { group = ((codes "x") ∷ []); version = 8; place = 20000; len = 37 }) ∷ (record { group = ((codes "y") ∷ []); version = 8; place = 20100; len = 47 }) ∷ (record { group = ((codes "z") ∷ []); version = 6; place = 18200; len = 54 }) ∷ [])
right_9 = record { groups = refl; versions = λ r m. all_in (λ (q : Row). q.version ≡ version to_lists9 q.group) ((record { group = ((codes "w") ∷ []); version = 9; place = 20900; len = 27 }) ∷ (record { group = ((codes "x") ∷ []); version = 8; place = 20000; len = 37 }) ∷ (record { group = ((codes "y") ∷ []); version = 8; place = 20100; len = 47 }) ∷ (record { group = ((codes "z") ∷ []); version = 6; place = 18200; len = 54 }) ∷ []) (refl, (refl, (refl, (refl, tt)))) r m }

wrong_9 : IsRight to_lists9 ((record { group = ((codes "w") ∷ []); version = 9; place = 20900; len = 27 }) ∷ (record { group = ((codes "x") ∷ []); version = 8; place = 20000; len = 37 }) ∷ (record { group = ((codes "y") ∷ []); version = 8; place = 20100; len = 47 }) ∷ (record { group = ((codes "z") ∷ []); version = 7; place = 18200; len = 54 }) ∷ []) → ⊥
wrong_9 = λ h. absurd (omega (arith, h.versions (record { group = ((codes "z") ∷ []); version = 7; place = 18200; len = 54 }) (inr (inr (inr (inl refl))))))

abbrev lists9_change : Change
lists9_change = record { dropped = []; stored = ((record { group = ((codes "w") ∷ []); version = 9; place = 20900; len = 27 }) ∷ []) }

abbrev lists9_changes : List Change
lists9_changes = lists9_change ∷ lists8_changes

all_lists9 : AreRight to_lists9 lists9_changes
all_lists9 = (refl, refl, (λ r m. all_in (λ (q : Row). q.version ≡ 9) ((record { group = ((codes "w") ∷ []); version = 9; place = 20900; len = 27 }) ∷ []) (refl, tt) r m), all_lists8)

right_10 : IsRight to_lists10 ((record { group = ((codes "w") ∷ []); version = 9; place = 20900; len = 27 }) ∷ (record { group = ((codes "x") ∷ []); version = 8; place = 20000; len = 37 }) ∷ (record { group = ((codes "y") ∷ []); version = 8; place = 20100; len = 47 }) ∷ (record { group = ((codes "z") ∷ []); version = 6; place = 18200; len = 54 }) ∷ [])
right_10 = record { groups = refl; versions = λ r m. all_in (λ (q : Row). q.version ≡ version to_lists10 q.group) ((record { group = ((codes "w") ∷ []); version = 9; place = 20900; len = 27 }) ∷ (record { group = ((codes "x") ∷ []); version = 8; place = 20000; len = 37 }) ∷ (record { group = ((codes "y") ∷ []); version = 8; place = 20100; len = 47 }) ∷ (record { group = ((codes "z") ∷ []); version = 6; place = 18200; len = 54 }) ∷ []) (refl, (refl, (refl, (refl, tt)))) r m }

wrong_10 : IsRight to_lists10 ((record { group = ((codes "w") ∷ []); version = 9; place = 20900; len = 27 }) ∷ (record { group = ((codes "x") ∷ []); version = 8; place = 20000; len = 37 }) ∷ (record { group = ((codes "y") ∷ []); version = 8; place = 20100; len = 47 }) ∷ (record { group = ((codes "z") ∷ []); version = 7; place = 18200; len = 54 }) ∷ []) → ⊥
wrong_10 = λ h. absurd (omega (arith, h.versions (record { group = ((codes "z") ∷ []); version = 7; place = 18200; len = 54 }) (inr (inr (inr (inl refl))))))

abbrev lists10_change : Change
lists10_change = record { dropped = []; stored = [] }

abbrev lists10_changes : List Change
lists10_changes = lists10_change ∷ lists9_changes

all_lists10 : AreRight to_lists10 lists10_changes
all_lists10 = (refl, refl, (λ r m. all_in (λ (q : Row). q.version ≡ 10) [] tt r m), all_lists9)

right_11 : IsRight to_lists11 ((record { group = ((codes "w") ∷ []); version = 11; place = 22900; len = 11 }) ∷ (record { group = ((codes "x") ∷ []); version = 8; place = 20000; len = 37 }) ∷ (record { group = ((codes "y") ∷ []); version = 8; place = 20100; len = 47 }) ∷ (record { group = ((codes "z") ∷ []); version = 6; place = 18200; len = 54 }) ∷ [])
right_11 = record { groups = refl; versions = λ r m. all_in (λ (q : Row). q.version ≡ version to_lists11 q.group) ((record { group = ((codes "w") ∷ []); version = 11; place = 22900; len = 11 }) ∷ (record { group = ((codes "x") ∷ []); version = 8; place = 20000; len = 37 }) ∷ (record { group = ((codes "y") ∷ []); version = 8; place = 20100; len = 47 }) ∷ (record { group = ((codes "z") ∷ []); version = 6; place = 18200; len = 54 }) ∷ []) (refl, (refl, (refl, (refl, tt)))) r m }

wrong_11 : IsRight to_lists11 ((record { group = ((codes "w") ∷ []); version = 11; place = 22900; len = 11 }) ∷ (record { group = ((codes "x") ∷ []); version = 8; place = 20000; len = 37 }) ∷ (record { group = ((codes "y") ∷ []); version = 8; place = 20100; len = 47 }) ∷ (record { group = ((codes "z") ∷ []); version = 7; place = 18200; len = 54 }) ∷ []) → ⊥
wrong_11 = λ h. absurd (omega (arith, h.versions (record { group = ((codes "z") ∷ []); version = 7; place = 18200; len = 54 }) (inr (inr (inr (inl refl))))))

abbrev lists11_change : Change
lists11_change = record { dropped = (((codes "w") ∷ []) ∷ []); stored = ((record { group = ((codes "w") ∷ []); version = 11; place = 22900; len = 11 }) ∷ []) }

abbrev lists11_changes : List Change
lists11_changes = lists11_change ∷ lists10_changes

all_lists11 : AreRight to_lists11 lists11_changes
all_lists11 = (refl, refl, (λ r m. all_in (λ (q : Row). q.version ≡ 11) ((record { group = ((codes "w") ∷ []); version = 11; place = 22900; len = 11 }) ∷ []) (refl, tt) r m), all_lists10)

right_12 : IsRight to_lists12 []
right_12 = record { groups = refl; versions = λ r m. all_in (λ (q : Row). q.version ≡ version to_lists12 q.group) [] tt r m }

abbrev lists12_change : Change
lists12_change = record { dropped = (((codes "w") ∷ []) ∷ ((codes "x") ∷ []) ∷ ((codes "y") ∷ []) ∷ ((codes "z") ∷ []) ∷ []); stored = [] }

abbrev lists12_changes : List Change
lists12_changes = lists12_change ∷ lists11_changes

all_lists12 : AreRight to_lists12 lists12_changes
all_lists12 = (refl, refl, (λ r m. all_in (λ (q : Row). q.version ≡ 12) [] tt r m), all_lists11)

right_13 : IsRight to_lists13 ((record { group = ((codes "x") ∷ (codes "y") ∷ []); version = 13; place = 25000; len = 54 }) ∷ (record { group = ((codes "z") ∷ []); version = 13; place = 25200; len = 37 }) ∷ [])
right_13 = record { groups = refl; versions = λ r m. all_in (λ (q : Row). q.version ≡ version to_lists13 q.group) ((record { group = ((codes "x") ∷ (codes "y") ∷ []); version = 13; place = 25000; len = 54 }) ∷ (record { group = ((codes "z") ∷ []); version = 13; place = 25200; len = 37 }) ∷ []) (refl, (refl, tt)) r m }

wrong_12 : IsRight to_lists13 ((record { group = ((codes "x") ∷ (codes "y") ∷ []); version = 13; place = 25000; len = 54 }) ∷ (record { group = ((codes "z") ∷ []); version = 14; place = 25200; len = 37 }) ∷ []) → ⊥
wrong_12 = λ h. absurd (omega (arith, h.versions (record { group = ((codes "z") ∷ []); version = 14; place = 25200; len = 37 }) (inr (inl refl))))

abbrev lists13_change : Change
lists13_change = record { dropped = []; stored = ((record { group = ((codes "x") ∷ (codes "y") ∷ []); version = 13; place = 25000; len = 54 }) ∷ (record { group = ((codes "z") ∷ []); version = 13; place = 25200; len = 37 }) ∷ []) }

abbrev lists13_changes : List Change
lists13_changes = lists13_change ∷ lists12_changes

all_lists13 : AreRight to_lists13 lists13_changes
all_lists13 = (refl, refl, (λ r m. all_in (λ (q : Row). q.version ≡ 13) ((record { group = ((codes "x") ∷ (codes "y") ∷ []); version = 13; place = 25000; len = 54 }) ∷ (record { group = ((codes "z") ∷ []); version = 13; place = 25200; len = 37 }) ∷ []) (refl, (refl, tt)) r m), all_lists12)

right_14 : IsRight to_ways1 ((record { group = ((codes "a") ∷ []); version = 1; place = 10700; len = 37 }) ∷ (record { group = ((codes "b") ∷ []); version = 1; place = 10800; len = 37 }) ∷ (record { group = ((codes "c") ∷ []); version = 1; place = 10900; len = 37 }) ∷ [])
right_14 = record { groups = refl; versions = λ r m. all_in (λ (q : Row). q.version ≡ version to_ways1 q.group) ((record { group = ((codes "a") ∷ []); version = 1; place = 10700; len = 37 }) ∷ (record { group = ((codes "b") ∷ []); version = 1; place = 10800; len = 37 }) ∷ (record { group = ((codes "c") ∷ []); version = 1; place = 10900; len = 37 }) ∷ []) (refl, (refl, (refl, tt))) r m }

wrong_13 : IsRight to_ways1 ((record { group = ((codes "a") ∷ []); version = 1; place = 10700; len = 37 }) ∷ (record { group = ((codes "b") ∷ []); version = 1; place = 10800; len = 37 }) ∷ (record { group = ((codes "c") ∷ []); version = 2; place = 10900; len = 37 }) ∷ []) → ⊥
wrong_13 = λ h. absurd (omega (arith, h.versions (record { group = ((codes "c") ∷ []); version = 2; place = 10900; len = 37 }) (inr (inr (inl refl)))))

abbrev ways1_change : Change
ways1_change = record { dropped = []; stored = ((record { group = ((codes "a") ∷ []); version = 1; place = 10700; len = 37 }) ∷ (record { group = ((codes "b") ∷ []); version = 1; place = 10800; len = 37 }) ∷ (record { group = ((codes "c") ∷ []); version = 1; place = 10900; len = 37 }) ∷ []) }

abbrev ways1_changes : List Change
ways1_changes = ways1_change ∷ []

all_ways1 : AreRight to_ways1 ways1_changes
all_ways1 = (refl, refl, (λ r m. all_in (λ (q : Row). q.version ≡ 1) ((record { group = ((codes "a") ∷ []); version = 1; place = 10700; len = 37 }) ∷ (record { group = ((codes "b") ∷ []); version = 1; place = 10800; len = 37 }) ∷ (record { group = ((codes "c") ∷ []); version = 1; place = 10900; len = 37 }) ∷ []) (refl, (refl, (refl, tt))) r m), tt)

right_15 : IsRight to_ways2 ((record { group = ((codes "a") ∷ []); version = 2; place = 11700; len = 54 }) ∷ (record { group = ((codes "b") ∷ []); version = 1; place = 10800; len = 37 }) ∷ (record { group = ((codes "c") ∷ []); version = 1; place = 10900; len = 37 }) ∷ [])
right_15 = record { groups = refl; versions = λ r m. all_in (λ (q : Row). q.version ≡ version to_ways2 q.group) ((record { group = ((codes "a") ∷ []); version = 2; place = 11700; len = 54 }) ∷ (record { group = ((codes "b") ∷ []); version = 1; place = 10800; len = 37 }) ∷ (record { group = ((codes "c") ∷ []); version = 1; place = 10900; len = 37 }) ∷ []) (refl, (refl, (refl, tt))) r m }

wrong_14 : IsRight to_ways2 ((record { group = ((codes "a") ∷ []); version = 2; place = 11700; len = 54 }) ∷ (record { group = ((codes "b") ∷ []); version = 1; place = 10800; len = 37 }) ∷ (record { group = ((codes "c") ∷ []); version = 2; place = 10900; len = 37 }) ∷ []) → ⊥
wrong_14 = λ h. absurd (omega (arith, h.versions (record { group = ((codes "c") ∷ []); version = 2; place = 10900; len = 37 }) (inr (inr (inl refl)))))

abbrev ways2_change : Change
ways2_change = record { dropped = (((codes "a") ∷ []) ∷ []); stored = ((record { group = ((codes "a") ∷ []); version = 2; place = 11700; len = 54 }) ∷ []) }

abbrev ways2_changes : List Change
ways2_changes = ways2_change ∷ ways1_changes

all_ways2 : AreRight to_ways2 ways2_changes
all_ways2 = (refl, refl, (λ r m. all_in (λ (q : Row). q.version ≡ 2) ((record { group = ((codes "a") ∷ []); version = 2; place = 11700; len = 54 }) ∷ []) (refl, tt) r m), all_ways1)

right_16 : IsRight to_ways3 ((record { group = ((codes "a") ∷ []); version = 2; place = 11700; len = 54 }) ∷ (record { group = ((codes "b") ∷ []); version = 3; place = 12800; len = 54 }) ∷ (record { group = ((codes "c") ∷ []); version = 1; place = 10900; len = 37 }) ∷ [])
right_16 = record { groups = refl; versions = λ r m. all_in (λ (q : Row). q.version ≡ version to_ways3 q.group) ((record { group = ((codes "a") ∷ []); version = 2; place = 11700; len = 54 }) ∷ (record { group = ((codes "b") ∷ []); version = 3; place = 12800; len = 54 }) ∷ (record { group = ((codes "c") ∷ []); version = 1; place = 10900; len = 37 }) ∷ []) (refl, (refl, (refl, tt))) r m }

wrong_15 : IsRight to_ways3 ((record { group = ((codes "a") ∷ []); version = 2; place = 11700; len = 54 }) ∷ (record { group = ((codes "b") ∷ []); version = 3; place = 12800; len = 54 }) ∷ (record { group = ((codes "c") ∷ []); version = 2; place = 10900; len = 37 }) ∷ []) → ⊥
wrong_15 = λ h. absurd (omega (arith, h.versions (record { group = ((codes "c") ∷ []); version = 2; place = 10900; len = 37 }) (inr (inr (inl refl)))))

abbrev ways3_change : Change
ways3_change = record { dropped = (((codes "b") ∷ []) ∷ []); stored = ((record { group = ((codes "b") ∷ []); version = 3; place = 12800; len = 54 }) ∷ []) }

abbrev ways3_changes : List Change
ways3_changes = ways3_change ∷ ways2_changes

all_ways3 : AreRight to_ways3 ways3_changes
all_ways3 = (refl, refl, (λ r m. all_in (λ (q : Row). q.version ≡ 3) ((record { group = ((codes "b") ∷ []); version = 3; place = 12800; len = 54 }) ∷ []) (refl, tt) r m), all_ways2)

right_17 : IsRight to_ways5 ((record { group = ((codes "a") ∷ []); version = 2; place = 11700; len = 54 }) ∷ (record { group = ((codes "b") ∷ (codes "c") ∷ []); version = 5; place = 14800; len = 88 }) ∷ [])
right_17 = record { groups = refl; versions = λ r m. all_in (λ (q : Row). q.version ≡ version to_ways5 q.group) ((record { group = ((codes "a") ∷ []); version = 2; place = 11700; len = 54 }) ∷ (record { group = ((codes "b") ∷ (codes "c") ∷ []); version = 5; place = 14800; len = 88 }) ∷ []) (refl, (refl, tt)) r m }

wrong_16 : IsRight to_ways5 ((record { group = ((codes "a") ∷ []); version = 2; place = 11700; len = 54 }) ∷ (record { group = ((codes "b") ∷ (codes "c") ∷ []); version = 6; place = 14800; len = 88 }) ∷ []) → ⊥
wrong_16 = λ h. absurd (omega (arith, h.versions (record { group = ((codes "b") ∷ (codes "c") ∷ []); version = 6; place = 14800; len = 88 }) (inr (inl refl))))

abbrev ways5_change : Change
ways5_change = record { dropped = (((codes "b") ∷ []) ∷ ((codes "c") ∷ []) ∷ []); stored = ((record { group = ((codes "b") ∷ (codes "c") ∷ []); version = 5; place = 14800; len = 88 }) ∷ []) }

abbrev ways5_changes : List Change
ways5_changes = ways5_change ∷ ways3_changes

all_ways5 : AreRight to_ways5 ways5_changes
all_ways5 = (refl, refl, (λ r m. all_in (λ (q : Row). q.version ≡ 5) ((record { group = ((codes "b") ∷ (codes "c") ∷ []); version = 5; place = 14800; len = 88 }) ∷ []) (refl, tt) r m), all_ways3)

right_18 : IsRight to_ways4 ((record { group = ((codes "a") ∷ []); version = 2; place = 11700; len = 54 }) ∷ (record { group = ((codes "b") ∷ []); version = 4; place = 13800; len = 54 }) ∷ (record { group = ((codes "c") ∷ []); version = 1; place = 10900; len = 37 }) ∷ [])
right_18 = record { groups = refl; versions = λ r m. all_in (λ (q : Row). q.version ≡ version to_ways4 q.group) ((record { group = ((codes "a") ∷ []); version = 2; place = 11700; len = 54 }) ∷ (record { group = ((codes "b") ∷ []); version = 4; place = 13800; len = 54 }) ∷ (record { group = ((codes "c") ∷ []); version = 1; place = 10900; len = 37 }) ∷ []) (refl, (refl, (refl, tt))) r m }

wrong_17 : IsRight to_ways4 ((record { group = ((codes "a") ∷ []); version = 2; place = 11700; len = 54 }) ∷ (record { group = ((codes "b") ∷ []); version = 4; place = 13800; len = 54 }) ∷ (record { group = ((codes "c") ∷ []); version = 2; place = 10900; len = 37 }) ∷ []) → ⊥
wrong_17 = λ h. absurd (omega (arith, h.versions (record { group = ((codes "c") ∷ []); version = 2; place = 10900; len = 37 }) (inr (inr (inl refl)))))

abbrev ways4_change : Change
ways4_change = record { dropped = (((codes "b") ∷ []) ∷ []); stored = ((record { group = ((codes "b") ∷ []); version = 4; place = 13800; len = 54 }) ∷ []) }

abbrev ways4_changes : List Change
ways4_changes = ways4_change ∷ ways2_changes

all_ways4 : AreRight to_ways4 ways4_changes
all_ways4 = (refl, refl, (λ r m. all_in (λ (q : Row). q.version ≡ 4) ((record { group = ((codes "b") ∷ []); version = 4; place = 13800; len = 54 }) ∷ []) (refl, tt) r m), all_ways2)

right_19 : IsRight to_ways6 ((record { group = ((codes "a") ∷ (codes "d") ∷ []); version = 6; place = 15700; len = 61 }) ∷ (record { group = ((codes "b") ∷ []); version = 4; place = 13800; len = 54 }) ∷ (record { group = ((codes "c") ∷ []); version = 1; place = 10900; len = 37 }) ∷ [])
right_19 = record { groups = refl; versions = λ r m. all_in (λ (q : Row). q.version ≡ version to_ways6 q.group) ((record { group = ((codes "a") ∷ (codes "d") ∷ []); version = 6; place = 15700; len = 61 }) ∷ (record { group = ((codes "b") ∷ []); version = 4; place = 13800; len = 54 }) ∷ (record { group = ((codes "c") ∷ []); version = 1; place = 10900; len = 37 }) ∷ []) (refl, (refl, (refl, tt))) r m }

wrong_18 : IsRight to_ways6 ((record { group = ((codes "a") ∷ (codes "d") ∷ []); version = 6; place = 15700; len = 61 }) ∷ (record { group = ((codes "b") ∷ []); version = 4; place = 13800; len = 54 }) ∷ (record { group = ((codes "c") ∷ []); version = 2; place = 10900; len = 37 }) ∷ []) → ⊥
wrong_18 = λ h. absurd (omega (arith, h.versions (record { group = ((codes "c") ∷ []); version = 2; place = 10900; len = 37 }) (inr (inr (inl refl)))))

abbrev ways6_change : Change
ways6_change = record { dropped = (((codes "a") ∷ []) ∷ []); stored = ((record { group = ((codes "a") ∷ (codes "d") ∷ []); version = 6; place = 15700; len = 61 }) ∷ []) }

abbrev ways6_changes : List Change
ways6_changes = ways6_change ∷ ways4_changes

all_ways6 : AreRight to_ways6 ways6_changes
all_ways6 = (refl, refl, (λ r m. all_in (λ (q : Row). q.version ≡ 6) ((record { group = ((codes "a") ∷ (codes "d") ∷ []); version = 6; place = 15700; len = 61 }) ∷ []) (refl, tt) r m), all_ways4)

right_20 : IsRight to_ways7 ((record { group = ((codes "a") ∷ []); version = 7; place = 16700; len = 54 }) ∷ (record { group = ((codes "b") ∷ []); version = 4; place = 13800; len = 54 }) ∷ (record { group = ((codes "c") ∷ []); version = 1; place = 10900; len = 37 }) ∷ [])
right_20 = record { groups = refl; versions = λ r m. all_in (λ (q : Row). q.version ≡ version to_ways7 q.group) ((record { group = ((codes "a") ∷ []); version = 7; place = 16700; len = 54 }) ∷ (record { group = ((codes "b") ∷ []); version = 4; place = 13800; len = 54 }) ∷ (record { group = ((codes "c") ∷ []); version = 1; place = 10900; len = 37 }) ∷ []) (refl, (refl, (refl, tt))) r m }

wrong_19 : IsRight to_ways7 ((record { group = ((codes "a") ∷ []); version = 7; place = 16700; len = 54 }) ∷ (record { group = ((codes "b") ∷ []); version = 4; place = 13800; len = 54 }) ∷ (record { group = ((codes "c") ∷ []); version = 2; place = 10900; len = 37 }) ∷ []) → ⊥
wrong_19 = λ h. absurd (omega (arith, h.versions (record { group = ((codes "c") ∷ []); version = 2; place = 10900; len = 37 }) (inr (inr (inl refl)))))

abbrev ways7_change : Change
ways7_change = record { dropped = (((codes "a") ∷ (codes "d") ∷ []) ∷ []); stored = ((record { group = ((codes "a") ∷ []); version = 7; place = 16700; len = 54 }) ∷ []) }

abbrev ways7_changes : List Change
ways7_changes = ways7_change ∷ ways6_changes

all_ways7 : AreRight to_ways7 ways7_changes
all_ways7 = (refl, refl, (λ r m. all_in (λ (q : Row). q.version ≡ 7) ((record { group = ((codes "a") ∷ []); version = 7; place = 16700; len = 54 }) ∷ []) (refl, tt) r m), all_ways6)

right_21 : IsRight to_ways8 ((record { group = ((codes "a") ∷ []); version = 1; place = 10700; len = 37 }) ∷ (record { group = ((codes "b") ∷ []); version = 1; place = 10800; len = 37 }) ∷ [])
right_21 = record { groups = refl; versions = λ r m. all_in (λ (q : Row). q.version ≡ version to_ways8 q.group) ((record { group = ((codes "a") ∷ []); version = 1; place = 10700; len = 37 }) ∷ (record { group = ((codes "b") ∷ []); version = 1; place = 10800; len = 37 }) ∷ []) (refl, (refl, tt)) r m }

wrong_20 : IsRight to_ways8 ((record { group = ((codes "a") ∷ []); version = 1; place = 10700; len = 37 }) ∷ (record { group = ((codes "b") ∷ []); version = 2; place = 10800; len = 37 }) ∷ []) → ⊥
wrong_20 = λ h. absurd (omega (arith, h.versions (record { group = ((codes "b") ∷ []); version = 2; place = 10800; len = 37 }) (inr (inl refl))))

abbrev ways8_change : Change
ways8_change = record { dropped = (((codes "c") ∷ []) ∷ []); stored = [] }

abbrev ways8_changes : List Change
ways8_changes = ways8_change ∷ ways1_changes

all_ways8 : AreRight to_ways8 ways8_changes
all_ways8 = (refl, refl, (λ r m. all_in (λ (q : Row). q.version ≡ 8) [] tt r m), all_ways1)

right_22 : IsRight to_kinds1 ((record { group = ((codes "g") ∷ []); version = 1; place = 11300; len = 78 }) ∷ [])
right_22 = record { groups = refl; versions = λ r m. all_in (λ (q : Row). q.version ≡ version to_kinds1 q.group) ((record { group = ((codes "g") ∷ []); version = 1; place = 11300; len = 78 }) ∷ []) (refl, tt) r m }

wrong_21 : IsRight to_kinds1 ((record { group = ((codes "g") ∷ []); version = 2; place = 11300; len = 78 }) ∷ []) → ⊥
wrong_21 = λ h. absurd (omega (arith, h.versions (record { group = ((codes "g") ∷ []); version = 2; place = 11300; len = 78 }) (inl refl)))

abbrev kinds1_change : Change
kinds1_change = record { dropped = []; stored = ((record { group = ((codes "g") ∷ []); version = 1; place = 11300; len = 78 }) ∷ []) }

abbrev kinds1_changes : List Change
kinds1_changes = kinds1_change ∷ []

all_kinds1 : AreRight to_kinds1 kinds1_changes
all_kinds1 = (refl, refl, (λ r m. all_in (λ (q : Row). q.version ≡ 1) ((record { group = ((codes "g") ∷ []); version = 1; place = 11300; len = 78 }) ∷ []) (refl, tt) r m), tt)

right_23 : IsRight to_kinds2 ((record { group = ((codes "g") ∷ (codes "p") ∷ []); version = 2; place = 12300; len = 102 }) ∷ [])
right_23 = record { groups = refl; versions = λ r m. all_in (λ (q : Row). q.version ≡ version to_kinds2 q.group) ((record { group = ((codes "g") ∷ (codes "p") ∷ []); version = 2; place = 12300; len = 102 }) ∷ []) (refl, tt) r m }

wrong_22 : IsRight to_kinds2 ((record { group = ((codes "g") ∷ (codes "p") ∷ []); version = 3; place = 12300; len = 102 }) ∷ []) → ⊥
wrong_22 = λ h. absurd (omega (arith, h.versions (record { group = ((codes "g") ∷ (codes "p") ∷ []); version = 3; place = 12300; len = 102 }) (inl refl)))

abbrev kinds2_change : Change
kinds2_change = record { dropped = (((codes "g") ∷ []) ∷ []); stored = ((record { group = ((codes "g") ∷ (codes "p") ∷ []); version = 2; place = 12300; len = 102 }) ∷ []) }

abbrev kinds2_changes : List Change
kinds2_changes = kinds2_change ∷ kinds1_changes

all_kinds2 : AreRight to_kinds2 kinds2_changes
all_kinds2 = (refl, refl, (λ r m. all_in (λ (q : Row). q.version ≡ 2) ((record { group = ((codes "g") ∷ (codes "p") ∷ []); version = 2; place = 12300; len = 102 }) ∷ []) (refl, tt) r m), all_kinds1)

right_24 : IsRight to_kinds3 ((record { group = ((codes "g") ∷ []); version = 3; place = 13300; len = 95 }) ∷ (record { group = ((codes "p") ∷ []); version = 3; place = 14200; len = 27 }) ∷ [])
right_24 = record { groups = refl; versions = λ r m. all_in (λ (q : Row). q.version ≡ version to_kinds3 q.group) ((record { group = ((codes "g") ∷ []); version = 3; place = 13300; len = 95 }) ∷ (record { group = ((codes "p") ∷ []); version = 3; place = 14200; len = 27 }) ∷ []) (refl, (refl, tt)) r m }

wrong_23 : IsRight to_kinds3 ((record { group = ((codes "g") ∷ []); version = 3; place = 13300; len = 95 }) ∷ (record { group = ((codes "p") ∷ []); version = 4; place = 14200; len = 27 }) ∷ []) → ⊥
wrong_23 = λ h. absurd (omega (arith, h.versions (record { group = ((codes "p") ∷ []); version = 4; place = 14200; len = 27 }) (inr (inl refl))))

abbrev kinds3_change : Change
kinds3_change = record { dropped = (((codes "g") ∷ (codes "p") ∷ []) ∷ []); stored = ((record { group = ((codes "g") ∷ []); version = 3; place = 13300; len = 95 }) ∷ (record { group = ((codes "p") ∷ []); version = 3; place = 14200; len = 27 }) ∷ []) }

abbrev kinds3_changes : List Change
kinds3_changes = kinds3_change ∷ kinds2_changes

all_kinds3 : AreRight to_kinds3 kinds3_changes
all_kinds3 = (refl, refl, (λ r m. all_in (λ (q : Row). q.version ≡ 3) ((record { group = ((codes "g") ∷ []); version = 3; place = 13300; len = 95 }) ∷ (record { group = ((codes "p") ∷ []); version = 3; place = 14200; len = 27 }) ∷ []) (refl, (refl, tt)) r m), all_kinds2)

right_25 : IsRight to_kinds4 ((record { group = ((codes "d") ∷ []); version = 4; place = 14000; len = 67 }) ∷ (record { group = ((codes "g") ∷ []); version = 3; place = 13300; len = 95 }) ∷ (record { group = ((codes "p") ∷ []); version = 3; place = 14200; len = 27 }) ∷ (record { group = ((codes "t") ∷ []); version = 4; place = 15600; len = 54 }) ∷ [])
right_25 = record { groups = refl; versions = λ r m. all_in (λ (q : Row). q.version ≡ version to_kinds4 q.group) ((record { group = ((codes "d") ∷ []); version = 4; place = 14000; len = 67 }) ∷ (record { group = ((codes "g") ∷ []); version = 3; place = 13300; len = 95 }) ∷ (record { group = ((codes "p") ∷ []); version = 3; place = 14200; len = 27 }) ∷ (record { group = ((codes "t") ∷ []); version = 4; place = 15600; len = 54 }) ∷ []) (refl, (refl, (refl, (refl, tt)))) r m }

wrong_24 : IsRight to_kinds4 ((record { group = ((codes "d") ∷ []); version = 4; place = 14000; len = 67 }) ∷ (record { group = ((codes "g") ∷ []); version = 3; place = 13300; len = 95 }) ∷ (record { group = ((codes "p") ∷ []); version = 3; place = 14200; len = 27 }) ∷ (record { group = ((codes "t") ∷ []); version = 5; place = 15600; len = 54 }) ∷ []) → ⊥
wrong_24 = λ h. absurd (omega (arith, h.versions (record { group = ((codes "t") ∷ []); version = 5; place = 15600; len = 54 }) (inr (inr (inr (inl refl))))))

abbrev kinds4_change : Change
kinds4_change = record { dropped = []; stored = ((record { group = ((codes "d") ∷ []); version = 4; place = 14000; len = 67 }) ∷ (record { group = ((codes "t") ∷ []); version = 4; place = 15600; len = 54 }) ∷ []) }

abbrev kinds4_changes : List Change
kinds4_changes = kinds4_change ∷ kinds3_changes

all_kinds4 : AreRight to_kinds4 kinds4_changes
all_kinds4 = (refl, refl, (λ r m. all_in (λ (q : Row). q.version ≡ 4) ((record { group = ((codes "d") ∷ []); version = 4; place = 14000; len = 67 }) ∷ (record { group = ((codes "t") ∷ []); version = 4; place = 15600; len = 54 }) ∷ []) (refl, (refl, tt)) r m), all_kinds3)

right_26 : IsRight to_kinds5 ((record { group = ((codes "d") ∷ []); version = 5; place = 15000; len = 67 }) ∷ (record { group = ((codes "g") ∷ []); version = 3; place = 13300; len = 95 }) ∷ (record { group = ((codes "p") ∷ []); version = 3; place = 14200; len = 27 }) ∷ (record { group = ((codes "t") ∷ []); version = 4; place = 15600; len = 54 }) ∷ [])
right_26 = record { groups = refl; versions = λ r m. all_in (λ (q : Row). q.version ≡ version to_kinds5 q.group) ((record { group = ((codes "d") ∷ []); version = 5; place = 15000; len = 67 }) ∷ (record { group = ((codes "g") ∷ []); version = 3; place = 13300; len = 95 }) ∷ (record { group = ((codes "p") ∷ []); version = 3; place = 14200; len = 27 }) ∷ (record { group = ((codes "t") ∷ []); version = 4; place = 15600; len = 54 }) ∷ []) (refl, (refl, (refl, (refl, tt)))) r m }

wrong_25 : IsRight to_kinds5 ((record { group = ((codes "d") ∷ []); version = 5; place = 15000; len = 67 }) ∷ (record { group = ((codes "g") ∷ []); version = 3; place = 13300; len = 95 }) ∷ (record { group = ((codes "p") ∷ []); version = 3; place = 14200; len = 27 }) ∷ (record { group = ((codes "t") ∷ []); version = 5; place = 15600; len = 54 }) ∷ []) → ⊥
wrong_25 = λ h. absurd (omega (arith, h.versions (record { group = ((codes "t") ∷ []); version = 5; place = 15600; len = 54 }) (inr (inr (inr (inl refl))))))

abbrev kinds5_change : Change
kinds5_change = record { dropped = (((codes "d") ∷ []) ∷ []); stored = ((record { group = ((codes "d") ∷ []); version = 5; place = 15000; len = 67 }) ∷ []) }

abbrev kinds5_changes : List Change
kinds5_changes = kinds5_change ∷ kinds4_changes

all_kinds5 : AreRight to_kinds5 kinds5_changes
all_kinds5 = (refl, refl, (λ r m. all_in (λ (q : Row). q.version ≡ 5) ((record { group = ((codes "d") ∷ []); version = 5; place = 15000; len = 67 }) ∷ []) (refl, tt) r m), all_kinds4)

right_27 : IsRight to_kinds6 ((record { group = ((codes "d") ∷ (codes "t") ∷ []); version = 6; place = 16000; len = 117 }) ∷ (record { group = ((codes "g") ∷ []); version = 3; place = 13300; len = 95 }) ∷ (record { group = ((codes "p") ∷ []); version = 3; place = 14200; len = 27 }) ∷ [])
right_27 = record { groups = refl; versions = λ r m. all_in (λ (q : Row). q.version ≡ version to_kinds6 q.group) ((record { group = ((codes "d") ∷ (codes "t") ∷ []); version = 6; place = 16000; len = 117 }) ∷ (record { group = ((codes "g") ∷ []); version = 3; place = 13300; len = 95 }) ∷ (record { group = ((codes "p") ∷ []); version = 3; place = 14200; len = 27 }) ∷ []) (refl, (refl, (refl, tt))) r m }

wrong_26 : IsRight to_kinds6 ((record { group = ((codes "d") ∷ (codes "t") ∷ []); version = 6; place = 16000; len = 117 }) ∷ (record { group = ((codes "g") ∷ []); version = 3; place = 13300; len = 95 }) ∷ (record { group = ((codes "p") ∷ []); version = 4; place = 14200; len = 27 }) ∷ []) → ⊥
wrong_26 = λ h. absurd (omega (arith, h.versions (record { group = ((codes "p") ∷ []); version = 4; place = 14200; len = 27 }) (inr (inr (inl refl)))))

abbrev kinds6_change : Change
kinds6_change = record { dropped = (((codes "d") ∷ []) ∷ ((codes "t") ∷ []) ∷ []); stored = ((record { group = ((codes "d") ∷ (codes "t") ∷ []); version = 6; place = 16000; len = 117 }) ∷ []) }

abbrev kinds6_changes : List Change
kinds6_changes = kinds6_change ∷ kinds5_changes

all_kinds6 : AreRight to_kinds6 kinds6_changes
all_kinds6 = (refl, refl, (λ r m. all_in (λ (q : Row). q.version ≡ 6) ((record { group = ((codes "d") ∷ (codes "t") ∷ []); version = 6; place = 16000; len = 117 }) ∷ []) (refl, tt) r m), all_kinds5)

right_28 : IsRight to_kinds7 ((record { group = ((codes "d") ∷ []); version = 7; place = 17000; len = 110 }) ∷ (record { group = ((codes "g") ∷ []); version = 3; place = 13300; len = 95 }) ∷ (record { group = ((codes "p") ∷ []); version = 3; place = 14200; len = 27 }) ∷ (record { group = ((codes "t") ∷ []); version = 7; place = 18600; len = 54 }) ∷ [])
right_28 = record { groups = refl; versions = λ r m. all_in (λ (q : Row). q.version ≡ version to_kinds7 q.group) ((record { group = ((codes "d") ∷ []); version = 7; place = 17000; len = 110 }) ∷ (record { group = ((codes "g") ∷ []); version = 3; place = 13300; len = 95 }) ∷ (record { group = ((codes "p") ∷ []); version = 3; place = 14200; len = 27 }) ∷ (record { group = ((codes "t") ∷ []); version = 7; place = 18600; len = 54 }) ∷ []) (refl, (refl, (refl, (refl, tt)))) r m }

wrong_27 : IsRight to_kinds7 ((record { group = ((codes "d") ∷ []); version = 7; place = 17000; len = 110 }) ∷ (record { group = ((codes "g") ∷ []); version = 3; place = 13300; len = 95 }) ∷ (record { group = ((codes "p") ∷ []); version = 3; place = 14200; len = 27 }) ∷ (record { group = ((codes "t") ∷ []); version = 8; place = 18600; len = 54 }) ∷ []) → ⊥
wrong_27 = λ h. absurd (omega (arith, h.versions (record { group = ((codes "t") ∷ []); version = 8; place = 18600; len = 54 }) (inr (inr (inr (inl refl))))))

abbrev kinds7_change : Change
kinds7_change = record { dropped = (((codes "d") ∷ (codes "t") ∷ []) ∷ []); stored = ((record { group = ((codes "d") ∷ []); version = 7; place = 17000; len = 110 }) ∷ (record { group = ((codes "t") ∷ []); version = 7; place = 18600; len = 54 }) ∷ []) }

abbrev kinds7_changes : List Change
kinds7_changes = kinds7_change ∷ kinds6_changes

all_kinds7 : AreRight to_kinds7 kinds7_changes
all_kinds7 = (refl, refl, (λ r m. all_in (λ (q : Row). q.version ≡ 7) ((record { group = ((codes "d") ∷ []); version = 7; place = 17000; len = 110 }) ∷ (record { group = ((codes "t") ∷ []); version = 7; place = 18600; len = 54 }) ∷ []) (refl, (refl, tt)) r m), all_kinds6)

right_29 : IsRight to_kinds8 ((record { group = ((codes "d") ∷ []); version = 7; place = 17000; len = 110 }) ∷ (record { group = ((codes "e") ∷ (codes "o") ∷ (codes "t") ∷ []); version = 8; place = 18100; len = 91 }) ∷ (record { group = ((codes "g") ∷ []); version = 3; place = 13300; len = 95 }) ∷ (record { group = ((codes "p") ∷ []); version = 3; place = 14200; len = 27 }) ∷ [])
right_29 = record { groups = refl; versions = λ r m. all_in (λ (q : Row). q.version ≡ version to_kinds8 q.group) ((record { group = ((codes "d") ∷ []); version = 7; place = 17000; len = 110 }) ∷ (record { group = ((codes "e") ∷ (codes "o") ∷ (codes "t") ∷ []); version = 8; place = 18100; len = 91 }) ∷ (record { group = ((codes "g") ∷ []); version = 3; place = 13300; len = 95 }) ∷ (record { group = ((codes "p") ∷ []); version = 3; place = 14200; len = 27 }) ∷ []) (refl, (refl, (refl, (refl, tt)))) r m }

wrong_28 : IsRight to_kinds8 ((record { group = ((codes "d") ∷ []); version = 7; place = 17000; len = 110 }) ∷ (record { group = ((codes "e") ∷ (codes "o") ∷ (codes "t") ∷ []); version = 8; place = 18100; len = 91 }) ∷ (record { group = ((codes "g") ∷ []); version = 3; place = 13300; len = 95 }) ∷ (record { group = ((codes "p") ∷ []); version = 4; place = 14200; len = 27 }) ∷ []) → ⊥
wrong_28 = λ h. absurd (omega (arith, h.versions (record { group = ((codes "p") ∷ []); version = 4; place = 14200; len = 27 }) (inr (inr (inr (inl refl))))))

abbrev kinds8_change : Change
kinds8_change = record { dropped = (((codes "t") ∷ []) ∷ []); stored = ((record { group = ((codes "e") ∷ (codes "o") ∷ (codes "t") ∷ []); version = 8; place = 18100; len = 91 }) ∷ []) }

abbrev kinds8_changes : List Change
kinds8_changes = kinds8_change ∷ kinds7_changes

all_kinds8 : AreRight to_kinds8 kinds8_changes
all_kinds8 = (refl, refl, (λ r m. all_in (λ (q : Row). q.version ≡ 8) ((record { group = ((codes "e") ∷ (codes "o") ∷ (codes "t") ∷ []); version = 8; place = 18100; len = 91 }) ∷ []) (refl, tt) r m), all_kinds7)

right_30 : IsRight to_kinds9 ((record { group = ((codes "d") ∷ []); version = 7; place = 17000; len = 110 }) ∷ (record { group = ((codes "e") ∷ (codes "t") ∷ []); version = 9; place = 19100; len = 72 }) ∷ (record { group = ((codes "g") ∷ []); version = 3; place = 13300; len = 95 }) ∷ (record { group = ((codes "o") ∷ []); version = 9; place = 20100; len = 20 }) ∷ (record { group = ((codes "p") ∷ []); version = 3; place = 14200; len = 27 }) ∷ [])
right_30 = record { groups = refl; versions = λ r m. all_in (λ (q : Row). q.version ≡ version to_kinds9 q.group) ((record { group = ((codes "d") ∷ []); version = 7; place = 17000; len = 110 }) ∷ (record { group = ((codes "e") ∷ (codes "t") ∷ []); version = 9; place = 19100; len = 72 }) ∷ (record { group = ((codes "g") ∷ []); version = 3; place = 13300; len = 95 }) ∷ (record { group = ((codes "o") ∷ []); version = 9; place = 20100; len = 20 }) ∷ (record { group = ((codes "p") ∷ []); version = 3; place = 14200; len = 27 }) ∷ []) (refl, (refl, (refl, (refl, (refl, tt))))) r m }

wrong_29 : IsRight to_kinds9 ((record { group = ((codes "d") ∷ []); version = 7; place = 17000; len = 110 }) ∷ (record { group = ((codes "e") ∷ (codes "t") ∷ []); version = 9; place = 19100; len = 72 }) ∷ (record { group = ((codes "g") ∷ []); version = 3; place = 13300; len = 95 }) ∷ (record { group = ((codes "o") ∷ []); version = 9; place = 20100; len = 20 }) ∷ (record { group = ((codes "p") ∷ []); version = 4; place = 14200; len = 27 }) ∷ []) → ⊥
wrong_29 = λ h. absurd (omega (arith, h.versions (record { group = ((codes "p") ∷ []); version = 4; place = 14200; len = 27 }) (inr (inr (inr (inr (inl refl)))))))

abbrev kinds9_change : Change
kinds9_change = record { dropped = (((codes "e") ∷ (codes "o") ∷ (codes "t") ∷ []) ∷ []); stored = ((record { group = ((codes "e") ∷ (codes "t") ∷ []); version = 9; place = 19100; len = 72 }) ∷ (record { group = ((codes "o") ∷ []); version = 9; place = 20100; len = 20 }) ∷ []) }

abbrev kinds9_changes : List Change
kinds9_changes = kinds9_change ∷ kinds8_changes

all_kinds9 : AreRight to_kinds9 kinds9_changes
all_kinds9 = (refl, refl, (λ r m. all_in (λ (q : Row). q.version ≡ 9) ((record { group = ((codes "e") ∷ (codes "t") ∷ []); version = 9; place = 19100; len = 72 }) ∷ (record { group = ((codes "o") ∷ []); version = 9; place = 20100; len = 20 }) ∷ []) (refl, (refl, tt)) r m), all_kinds8)

right_31 : IsRight to_kinds10 ((record { group = ((codes "d") ∷ []); version = 7; place = 17000; len = 110 }) ∷ (record { group = ((codes "e") ∷ (codes "t") ∷ []); version = 9; place = 19100; len = 72 }) ∷ (record { group = ((codes "g") ∷ []); version = 10; place = 20300; len = 43 }) ∷ (record { group = ((codes "o") ∷ []); version = 9; place = 20100; len = 20 }) ∷ (record { group = ((codes "p") ∷ []); version = 3; place = 14200; len = 27 }) ∷ [])
right_31 = record { groups = refl; versions = λ r m. all_in (λ (q : Row). q.version ≡ version to_kinds10 q.group) ((record { group = ((codes "d") ∷ []); version = 7; place = 17000; len = 110 }) ∷ (record { group = ((codes "e") ∷ (codes "t") ∷ []); version = 9; place = 19100; len = 72 }) ∷ (record { group = ((codes "g") ∷ []); version = 10; place = 20300; len = 43 }) ∷ (record { group = ((codes "o") ∷ []); version = 9; place = 20100; len = 20 }) ∷ (record { group = ((codes "p") ∷ []); version = 3; place = 14200; len = 27 }) ∷ []) (refl, (refl, (refl, (refl, (refl, tt))))) r m }

wrong_30 : IsRight to_kinds10 ((record { group = ((codes "d") ∷ []); version = 7; place = 17000; len = 110 }) ∷ (record { group = ((codes "e") ∷ (codes "t") ∷ []); version = 9; place = 19100; len = 72 }) ∷ (record { group = ((codes "g") ∷ []); version = 10; place = 20300; len = 43 }) ∷ (record { group = ((codes "o") ∷ []); version = 9; place = 20100; len = 20 }) ∷ (record { group = ((codes "p") ∷ []); version = 4; place = 14200; len = 27 }) ∷ []) → ⊥
wrong_30 = λ h. absurd (omega (arith, h.versions (record { group = ((codes "p") ∷ []); version = 4; place = 14200; len = 27 }) (inr (inr (inr (inr (inl refl)))))))

abbrev kinds10_change : Change
kinds10_change = record { dropped = (((codes "g") ∷ []) ∷ []); stored = ((record { group = ((codes "g") ∷ []); version = 10; place = 20300; len = 43 }) ∷ []) }

abbrev kinds10_changes : List Change
kinds10_changes = kinds10_change ∷ kinds9_changes

all_kinds10 : AreRight to_kinds10 kinds10_changes
all_kinds10 = (refl, refl, (λ r m. all_in (λ (q : Row). q.version ≡ 10) ((record { group = ((codes "g") ∷ []); version = 10; place = 20300; len = 43 }) ∷ []) (refl, tt) r m), all_kinds9)

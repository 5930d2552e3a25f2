-- Records with groups: their bytes and places, the tables that they give, and what fits, worked out by hand on the definitions.
use Rattle.std.specs.Prelude.{◌≡◌, ℕ, ◌+◌, true, false, nat_le, ◌^◌, List, [], ◌∷◌, ◌++◌, length, codes, map, refl}
use Rattle.std.specs.List.{list_all}
use Rattle.kishu_language.specs.declared.profile.Profile.TheVariants.{One}
use Rattle.kishu_store.specs.Entries.{Entry, commit, move, to_commit, Record}
use Rattle.kishu_store.specs.EntryBytes.{head_of, body_of}
use Rattle.kishu_store.specs.Graph.{Graph}
use Rattle.kishu_store.specs.Groups.{Group, is_one_of}
use Rattle.kishu_store.specs.Histories.{History, new_history, head_table, table_to}
use Rattle.kishu_store.specs.Holds.{header, framed, front, end_of, history_by, changes_by}
use Rattle.kishu_store.specs.Limits.{most_pictured}
use Rattle.kishu_store.specs.Tables.{Row, Table, Change, no_change, groups_in, names_in, bytes_in, bytes_at, after, rows_from, change_of, are_apart}

abbrev group : List ℕ → Group
group names = map (λ c. c ∷ []) names

-- ---- a store of two commits, `a = 1` and `b = a`, each with one group of all names

-- one whole number under one name: no nodes
abbrev picture_of_a : List ℕ
picture_of_a = 0 ∷ 0 ∷ 0 ∷ 1 ∷ 1 ∷ 97 ∷ 3 ∷ 0 ∷ 0 ∷ 0 ∷ 0 ∷ 0 ∷ 0 ∷ 0 ∷ 0 ∷ 0 ∷ 0 ∷ 0 ∷ 0 ∷ 0 ∷ 0 ∷ 0 ∷ 1 ∷ 0 ∷ 0 ∷ 0 ∷ 0 ∷ []

-- and under two
abbrev picture_of_both : List ℕ
picture_of_both =
    0 ∷ 0 ∷ 0 ∷ 2 ∷ 1 ∷ 97 ∷ 3 ∷ 0 ∷ 0 ∷ 0 ∷ 0 ∷ 0 ∷ 0 ∷ 0 ∷ 0 ∷ 0 ∷ 0 ∷ 0 ∷ 0 ∷ 0 ∷ 0 ∷ 0 ∷ 1
    ∷ 1 ∷ 98 ∷ 3 ∷ 0 ∷ 0 ∷ 0 ∷ 0 ∷ 0 ∷ 0 ∷ 0 ∷ 0 ∷ 0 ∷ 0 ∷ 0 ∷ 0 ∷ 0 ∷ 0 ∷ 0 ∷ 1 ∷ 0 ∷ 0 ∷ 0 ∷ 0 ∷ []

abbrev first : Record
first = record { entry = commit 0 One (codes "a = 1" ∷ []) [] ((group (97 ∷ []), 27) ∷ []); pictures = picture_of_a ∷ [] }

abbrev second : Record
second = record { entry = commit 1 One (codes "b = a" ∷ []) (group (97 ∷ []) ∷ []) ((group (97 ∷ 98 ∷ []), 46) ∷ []); pictures = picture_of_both ∷ [] }

-- the parent, the profile, one cell of five bytes, no dropped group, and one stored group of one name of one byte, with 27 bytes
first_head : head_of first.entry
    ≡ 1 ∷ 0 ∷ 0 ∷ 0 ∷ 0 ∷ 1 ∷ 0 ∷ 0 ∷ 0 ∷ 1 ∷ 0 ∷ 0 ∷ 0 ∷ 5 ∷ codes "a = 1" ++ 0 ∷ 0 ∷ 0 ∷ 0 ∷ 0 ∷ 0 ∷ 0 ∷ 1 ∷ 0 ∷ 0 ∷ 0 ∷ 1 ∷ 1 ∷ 97 ∷ 0 ∷ 0 ∷ 0 ∷ 0 ∷ 0 ∷ 0 ∷ 0 ∷ 27 ∷ []
unfolding head_of
first_head = refl

first_body : body_of first ≡ 0 ∷ 0 ∷ 0 ∷ 41 ∷ head_of first.entry ++ picture_of_a
unfolding head_of body_of
first_body = refl

second_body : body_of second
    ≡ 0 ∷ 0 ∷ 0 ∷ 49 ∷ 1 ∷ 0 ∷ 0 ∷ 0 ∷ 1 ∷ 1 ∷ 0 ∷ 0 ∷ 0 ∷ 1 ∷ 0 ∷ 0 ∷ 0 ∷ 5 ∷ codes "b = a" ++ 0 ∷ 0 ∷ 0 ∷ 1 ∷ 0 ∷ 0 ∷ 0 ∷ 1 ∷ 1 ∷ 97
    ∷ 0 ∷ 0 ∷ 0 ∷ 1 ∷ 0 ∷ 0 ∷ 0 ∷ 2 ∷ 1 ∷ 97 ∷ 1 ∷ 98 ∷ 0 ∷ 0 ∷ 0 ∷ 0 ∷ 0 ∷ 0 ∷ 0 ∷ 46 ∷ picture_of_both
unfolding head_of body_of
second_body = refl

-- The gates stand at 16, at 97 and at 205; the pictures at 16 + 9 + 4 + 41 and at 97 + 9 + 4 + 49.
abbrev row_of_a : Row
row_of_a = record { group = group (97 ∷ []); version = 1; place = 70; len = 27 }

abbrev row_of_both : Row
row_of_both = record { group = group (97 ∷ 98 ∷ []); version = 2; place = 159; len = 46 }

both_changes : changes_by (first ∷ second ∷ [])
    ≡ record { dropped = group (97 ∷ []) ∷ []; stored = row_of_both ∷ [] } ∷ record { dropped = []; stored = row_of_a ∷ [] } ∷ []
unfolding head_of
both_changes = refl

places : (history_by []).place ∷ (history_by (first ∷ [])).place ∷ (history_by (first ∷ second ∷ [])).place ∷ [] ≡ 16 ∷ 97 ∷ 205 ∷ []
unfolding head_of
places = refl

gates : end_of [] ∷ end_of (first ∷ []) ∷ end_of (first ∷ second ∷ []) ∷ [] ≡ 16 ∷ 97 ∷ 205 ∷ []
unfolding header framed head_of body_of
gates = refl

both_tables : table_to (history_by (first ∷ second ∷ [])) 0 ∷ table_to (history_by (first ∷ second ∷ [])) 1 ∷ table_to (history_by (first ∷ second ∷ [])) 2 ∷ []
    ≡ [] ∷ (row_of_a ∷ []) ∷ (row_of_both ∷ []) ∷ []
unfolding head_of
both_tables = refl

-- At these places the file has the pictures.
both_pictures : bytes_at (front (first ∷ second ∷ []) ++ 0 ∷ []) row_of_a ∷ bytes_at (front (first ∷ second ∷ []) ++ 0 ∷ []) row_of_both ∷ [] ≡ picture_of_a ∷ picture_of_both ∷ []
unfolding header framed head_of body_of
both_pictures = refl

-- ---- a store of two branches: from commit 1 another one, which stores two groups and drops none

abbrev third : Record
third = record {
  entry = commit 1 One (codes "c = [2]; _d = c; B = 0" ∷ []) [] ((group (66 ∷ []), 3) ∷ (group (99 ∷ 100 ∷ []), 2) ∷ []);
  pictures = (7 ∷ 8 ∷ 9 ∷ []) ∷ (5 ∷ 6 ∷ []) ∷ [];
}

abbrev forked : History
forked = history_by (first ∷ second ∷ record { entry = move (to_commit 1); pictures = [] } ∷ third ∷ [])

-- The move takes 19 bytes, so the third commit's gate stands at 224; its head has 74 bytes.
abbrev row_of_b : Row
row_of_b = record { group = group (66 ∷ []); version = 3; place = 311; len = 3 }

abbrev row_of_cd : Row
row_of_cd = record { group = group (99 ∷ 100 ∷ []); version = 3; place = 314; len = 2 }

third_change : change_of forked.changes 3 ≡ record { dropped = []; stored = row_of_b ∷ row_of_cd ∷ [] }
unfolding head_of
third_change = refl

-- Its table has its parent's row too, in the order of first names: a capital letter stands before a small one.
third_table : head_table forked ≡ row_of_b ∷ row_of_a ∷ row_of_cd ∷ []
unfolding head_of
third_table = refl

-- The root and a commit that isn't there change nothing.
no_changes : change_of forked.changes 0 ∷ change_of forked.changes 4 ∷ [] ≡ no_change ∷ no_change ∷ []
unfolding head_of
no_changes = refl

-- ---- what a table takes

abbrev t : Table
t = row_of_a ∷ row_of_cd ∷ []

abbrev change : List Group → List (Group × ℕ) → Change
change dropped stored = record { dropped = dropped; stored = rows_from 4 400 stored }

-- Only whole groups of the table are dropped.
dropped_there : list_all (λ g. is_one_of g (groups_in t)) (group (97 ∷ []) ∷ group (99 ∷ 100 ∷ []) ∷ []) ≡ true
dropped_there = refl

dropped_not_there : list_all (λ g. is_one_of g (groups_in t)) (group (99 ∷ []) ∷ []) ∷ list_all (λ g. is_one_of g (groups_in t)) (group (97 ∷ []) ∷ group (98 ∷ []) ∷ []) ∷ [] ≡ false ∷ false ∷ []
dropped_not_there = refl

-- A name of a group that stays can't be stored again, alone or with others; of one that is dropped it can.
names_twice : are_apart (names_in (after (change [] ((group (97 ∷ []), 1) ∷ [])) t)) ∷ are_apart (names_in (after (change [] ((group (98 ∷ 99 ∷ []), 1) ∷ [])) t)) ∷ [] ≡ false ∷ false ∷ []
names_twice = refl

-- Nor do two stored groups share one.
names_shared : are_apart (names_in (after (change [] ((group (101 ∷ 103 ∷ []), 1) ∷ (group (102 ∷ 103 ∷ []), 1) ∷ [])) t)) ≡ false
names_shared = refl

names_once : are_apart (names_in (after (change (group (97 ∷ []) ∷ []) ((group (97 ∷ 98 ∷ []), 1) ∷ [])) t)) ≡ true
names_once = refl

-- The pictures may take 2^28 bytes and no more, those of rows that stay counted.
bytes_taken : nat_le (bytes_in (after (change [] ((group (101 ∷ []), 268435427) ∷ [])) t)) most_pictured ∷ nat_le (bytes_in (after (change [] ((group (101 ∷ []), 268435428) ∷ [])) t)) most_pictured ∷ [] ≡ true ∷ false ∷ []
bytes_taken = refl

-- What is dropped isn't counted.
bytes_dropped : nat_le (bytes_in (after (change (group (97 ∷ []) ∷ []) ((group (101 ∷ []), 268435454) ∷ [])) t)) most_pictured ≡ true
bytes_dropped = refl

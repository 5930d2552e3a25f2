-- The bytes of records: computed on the definitions. Made by tools/rows/record_rows.py.
use Rattle.std.specs.Prelude.{◌≡◌, [], ◌∷◌, codes, refl}
use Rattle.kishu_language.specs.declared.profile.Profile.TheVariants.{One}
use Rattle.kishu_store.specs.Entries.{commit, move, name, to_commit, to_branch}
use Rattle.kishu_store.specs.EntryBytes.{eight, text_bytes, name_bytes, group_bytes, stored_bytes, head_of, body_of}
use Rattle.kishu_store.specs.Histories.{before_pictures, body_length}

-- ---- numbers of eight bytes, texts, names and groups

number_1 : eight 0 ∷ eight 1 ∷ eight 255 ∷ eight 256 ∷ eight 4294967296 ∷ eight 9223372036854775808 ∷ eight 18446744073709551615 ∷ []
    ≡ (0 ∷ 0 ∷ 0 ∷ 0 ∷ 0 ∷ 0 ∷ 0 ∷ 0 ∷ []) ∷ (0 ∷ 0 ∷ 0 ∷ 0 ∷ 0 ∷ 0 ∷ 0 ∷ 1 ∷ []) ∷ (0 ∷ 0 ∷ 0 ∷ 0 ∷ 0 ∷ 0 ∷ 0 ∷ 255 ∷ []) ∷ (0 ∷ 0 ∷ 0 ∷ 0 ∷ 0 ∷ 0 ∷ 1 ∷ 0 ∷ []) ∷ (0 ∷ 0 ∷ 0 ∷ 1 ∷ 0 ∷ 0 ∷ 0 ∷ 0 ∷ []) ∷ (128 ∷ 0 ∷ 0 ∷ 0 ∷ 0 ∷ 0 ∷ 0 ∷ 0 ∷ []) ∷ (255 ∷ 255 ∷ 255 ∷ 255 ∷ 255 ∷ 255 ∷ 255 ∷ 255 ∷ []) ∷ []
number_1 = refl

text_1 : text_bytes [] ∷ text_bytes (97 ∷ []) ∷ text_bytes (97 ∷ 10 ∷ 98 ∷ []) ∷ text_bytes (195 ∷ 169 ∷ 195 ∷ 169 ∷ []) ∷ []
    ≡ (0 ∷ 0 ∷ 0 ∷ 0 ∷ []) ∷ (0 ∷ 0 ∷ 0 ∷ 1 ∷ 97 ∷ []) ∷ (0 ∷ 0 ∷ 0 ∷ 3 ∷ 97 ∷ 10 ∷ 98 ∷ []) ∷ (0 ∷ 0 ∷ 0 ∷ 4 ∷ 195 ∷ 169 ∷ 195 ∷ 169 ∷ []) ∷ []
text_1 = refl

name_1 : name_bytes [] ∷ name_bytes (97 ∷ []) ∷ name_bytes (97 ∷ 10 ∷ 98 ∷ []) ∷ name_bytes (195 ∷ 169 ∷ 195 ∷ 169 ∷ []) ∷ []
    ≡ (0 ∷ []) ∷ (1 ∷ 97 ∷ []) ∷ (3 ∷ 97 ∷ 10 ∷ 98 ∷ []) ∷ (4 ∷ 195 ∷ 169 ∷ 195 ∷ 169 ∷ []) ∷ []
name_1 = refl

group_1 : group_bytes ((codes "a") ∷ []) ∷ group_bytes ((codes "a") ∷ (codes "b") ∷ []) ∷ group_bytes ((codes "_") ∷ (codes "a1") ∷ (codes "zz") ∷ []) ∷ []
    ≡ (0 ∷ 0 ∷ 0 ∷ 1 ∷ 1 ∷ 97 ∷ []) ∷ (0 ∷ 0 ∷ 0 ∷ 2 ∷ 1 ∷ 97 ∷ 1 ∷ 98 ∷ []) ∷ (0 ∷ 0 ∷ 0 ∷ 3 ∷ 1 ∷ 95 ∷ 2 ∷ 97 ∷ 49 ∷ 2 ∷ 122 ∷ 122 ∷ []) ∷ []
group_1 = refl

stored_1 : stored_bytes (((codes "a") ∷ []), 0) ∷ stored_bytes (((codes "a") ∷ (codes "b") ∷ []), 300) ∷ stored_bytes (((codes "_") ∷ (codes "a1") ∷ (codes "zz") ∷ []), 1099511627776) ∷ []
    ≡ (0 ∷ 0 ∷ 0 ∷ 1 ∷ 1 ∷ 97 ∷ 0 ∷ 0 ∷ 0 ∷ 0 ∷ 0 ∷ 0 ∷ 0 ∷ 0 ∷ []) ∷ (0 ∷ 0 ∷ 0 ∷ 2 ∷ 1 ∷ 97 ∷ 1 ∷ 98 ∷ 0 ∷ 0 ∷ 0 ∷ 0 ∷ 0 ∷ 0 ∷ 1 ∷ 44 ∷ []) ∷ (0 ∷ 0 ∷ 0 ∷ 3 ∷ 1 ∷ 95 ∷ 2 ∷ 97 ∷ 49 ∷ 2 ∷ 122 ∷ 122 ∷ 0 ∷ 0 ∷ 1 ∷ 0 ∷ 0 ∷ 0 ∷ 0 ∷ 0 ∷ []) ∷ []
stored_1 = refl

-- ---- heads, bodies, and how long they are

head_1 : head_of (commit 0 One ((codes "x = [1]; y = [x]; z = [2]") ∷ []) [] ((((codes "x") ∷ (codes "y") ∷ []), 3) ∷ (((codes "z") ∷ []), 1) ∷ [])) ≡ (1 ∷ 0 ∷ 0 ∷ 0 ∷ 0 ∷ 1 ∷ 0 ∷ 0 ∷ 0 ∷ 1 ∷ 0 ∷ 0 ∷ 0 ∷ 25 ∷ 120 ∷ 32 ∷ 61 ∷ 32 ∷ 91 ∷ 49 ∷ 93 ∷ 59 ∷ 32 ∷ 121 ∷ 32 ∷ 61 ∷ 32 ∷ 91 ∷ 120 ∷ 93 ∷ 59 ∷ 32 ∷ 122 ∷ 32 ∷ 61 ∷ 32 ∷ 91 ∷ 50 ∷ 93 ∷ 0 ∷ 0 ∷ 0 ∷ 0 ∷ 0 ∷ 0 ∷ 0 ∷ 2 ∷ 0 ∷ 0 ∷ 0 ∷ 2 ∷ 1 ∷ 120 ∷ 1 ∷ 121 ∷ 0 ∷ 0 ∷ 0 ∷ 0 ∷ 0 ∷ 0 ∷ 0 ∷ 3 ∷ 0 ∷ 0 ∷ 0 ∷ 1 ∷ 1 ∷ 122 ∷ 0 ∷ 0 ∷ 0 ∷ 0 ∷ 0 ∷ 0 ∷ 0 ∷ 1 ∷ [])
unfolding head_of body_of
head_1 = refl

body_1 : body_of (record { entry = (commit 0 One ((codes "x = [1]; y = [x]; z = [2]") ∷ []) [] ((((codes "x") ∷ (codes "y") ∷ []), 3) ∷ (((codes "z") ∷ []), 1) ∷ [])); pictures = ((1 ∷ 2 ∷ 3 ∷ []) ∷ (4 ∷ []) ∷ []) }) ≡ (0 ∷ 0 ∷ 0 ∷ 77 ∷ 1 ∷ 0 ∷ 0 ∷ 0 ∷ 0 ∷ 1 ∷ 0 ∷ 0 ∷ 0 ∷ 1 ∷ 0 ∷ 0 ∷ 0 ∷ 25 ∷ 120 ∷ 32 ∷ 61 ∷ 32 ∷ 91 ∷ 49 ∷ 93 ∷ 59 ∷ 32 ∷ 121 ∷ 32 ∷ 61 ∷ 32 ∷ 91 ∷ 120 ∷ 93 ∷ 59 ∷ 32 ∷ 122 ∷ 32 ∷ 61 ∷ 32 ∷ 91 ∷ 50 ∷ 93 ∷ 0 ∷ 0 ∷ 0 ∷ 0 ∷ 0 ∷ 0 ∷ 0 ∷ 2 ∷ 0 ∷ 0 ∷ 0 ∷ 2 ∷ 1 ∷ 120 ∷ 1 ∷ 121 ∷ 0 ∷ 0 ∷ 0 ∷ 0 ∷ 0 ∷ 0 ∷ 0 ∷ 3 ∷ 0 ∷ 0 ∷ 0 ∷ 1 ∷ 1 ∷ 122 ∷ 0 ∷ 0 ∷ 0 ∷ 0 ∷ 0 ∷ 0 ∷ 0 ∷ 1 ∷ 1 ∷ 2 ∷ 3 ∷ 4 ∷ [])
unfolding head_of body_of
body_1 = refl

long_1 : before_pictures (commit 0 One ((codes "x = [1]; y = [x]; z = [2]") ∷ []) [] ((((codes "x") ∷ (codes "y") ∷ []), 3) ∷ (((codes "z") ∷ []), 1) ∷ [])) ∷ body_length (commit 0 One ((codes "x = [1]; y = [x]; z = [2]") ∷ []) [] ((((codes "x") ∷ (codes "y") ∷ []), 3) ∷ (((codes "z") ∷ []), 1) ∷ [])) ∷ []
    ≡ 81 ∷ 85 ∷ []
unfolding head_of body_of
long_1 = refl

head_2 : head_of (commit 1 One ((codes "y = 0") ∷ []) (((codes "x") ∷ (codes "y") ∷ []) ∷ []) ((((codes "x") ∷ []), 2) ∷ (((codes "y") ∷ []), 1) ∷ [])) ≡ (1 ∷ 0 ∷ 0 ∷ 0 ∷ 1 ∷ 1 ∷ 0 ∷ 0 ∷ 0 ∷ 1 ∷ 0 ∷ 0 ∷ 0 ∷ 5 ∷ 121 ∷ 32 ∷ 61 ∷ 32 ∷ 48 ∷ 0 ∷ 0 ∷ 0 ∷ 1 ∷ 0 ∷ 0 ∷ 0 ∷ 2 ∷ 1 ∷ 120 ∷ 1 ∷ 121 ∷ 0 ∷ 0 ∷ 0 ∷ 2 ∷ 0 ∷ 0 ∷ 0 ∷ 1 ∷ 1 ∷ 120 ∷ 0 ∷ 0 ∷ 0 ∷ 0 ∷ 0 ∷ 0 ∷ 0 ∷ 2 ∷ 0 ∷ 0 ∷ 0 ∷ 1 ∷ 1 ∷ 121 ∷ 0 ∷ 0 ∷ 0 ∷ 0 ∷ 0 ∷ 0 ∷ 0 ∷ 1 ∷ [])
unfolding head_of body_of
head_2 = refl

body_2 : body_of (record { entry = (commit 1 One ((codes "y = 0") ∷ []) (((codes "x") ∷ (codes "y") ∷ []) ∷ []) ((((codes "x") ∷ []), 2) ∷ (((codes "y") ∷ []), 1) ∷ [])); pictures = ((5 ∷ 6 ∷ []) ∷ (7 ∷ []) ∷ []) }) ≡ (0 ∷ 0 ∷ 0 ∷ 63 ∷ 1 ∷ 0 ∷ 0 ∷ 0 ∷ 1 ∷ 1 ∷ 0 ∷ 0 ∷ 0 ∷ 1 ∷ 0 ∷ 0 ∷ 0 ∷ 5 ∷ 121 ∷ 32 ∷ 61 ∷ 32 ∷ 48 ∷ 0 ∷ 0 ∷ 0 ∷ 1 ∷ 0 ∷ 0 ∷ 0 ∷ 2 ∷ 1 ∷ 120 ∷ 1 ∷ 121 ∷ 0 ∷ 0 ∷ 0 ∷ 2 ∷ 0 ∷ 0 ∷ 0 ∷ 1 ∷ 1 ∷ 120 ∷ 0 ∷ 0 ∷ 0 ∷ 0 ∷ 0 ∷ 0 ∷ 0 ∷ 2 ∷ 0 ∷ 0 ∷ 0 ∷ 1 ∷ 1 ∷ 121 ∷ 0 ∷ 0 ∷ 0 ∷ 0 ∷ 0 ∷ 0 ∷ 0 ∷ 1 ∷ 5 ∷ 6 ∷ 7 ∷ [])
unfolding head_of body_of
body_2 = refl

long_2 : before_pictures (commit 1 One ((codes "y = 0") ∷ []) (((codes "x") ∷ (codes "y") ∷ []) ∷ []) ((((codes "x") ∷ []), 2) ∷ (((codes "y") ∷ []), 1) ∷ [])) ∷ body_length (commit 1 One ((codes "y = 0") ∷ []) (((codes "x") ∷ (codes "y") ∷ []) ∷ []) ((((codes "x") ∷ []), 2) ∷ (((codes "y") ∷ []), 1) ∷ [])) ∷ []
    ≡ 67 ∷ 70 ∷ []
unfolding head_of body_of
long_2 = refl

head_3 : head_of (name (codes "try") 1) ≡ (3 ∷ 3 ∷ 116 ∷ 114 ∷ 121 ∷ 0 ∷ 0 ∷ 0 ∷ 1 ∷ [])
unfolding head_of body_of
head_3 = refl

body_3 : body_of (record { entry = (name (codes "try") 1); pictures = [] }) ≡ (0 ∷ 0 ∷ 0 ∷ 9 ∷ 3 ∷ 3 ∷ 116 ∷ 114 ∷ 121 ∷ 0 ∷ 0 ∷ 0 ∷ 1 ∷ [])
unfolding head_of body_of
body_3 = refl

long_3 : before_pictures (name (codes "try") 1) ∷ body_length (name (codes "try") 1) ∷ []
    ≡ 13 ∷ 13 ∷ []
unfolding head_of body_of
long_3 = refl

head_4 : head_of (move (to_branch (codes "try"))) ≡ (2 ∷ 1 ∷ 3 ∷ 116 ∷ 114 ∷ 121 ∷ [])
unfolding head_of body_of
head_4 = refl

body_4 : body_of (record { entry = (move (to_branch (codes "try"))); pictures = [] }) ≡ (0 ∷ 0 ∷ 0 ∷ 6 ∷ 2 ∷ 1 ∷ 3 ∷ 116 ∷ 114 ∷ 121 ∷ [])
unfolding head_of body_of
body_4 = refl

long_4 : before_pictures (move (to_branch (codes "try"))) ∷ body_length (move (to_branch (codes "try"))) ∷ []
    ≡ 10 ∷ 10 ∷ []
unfolding head_of body_of
long_4 = refl

head_5 : head_of (commit 1 One ((codes "w = z") ∷ (codes "1") ∷ []) (((codes "z") ∷ []) ∷ []) ((((codes "w") ∷ (codes "z") ∷ []), 2) ∷ [])) ≡ (1 ∷ 0 ∷ 0 ∷ 0 ∷ 1 ∷ 1 ∷ 0 ∷ 0 ∷ 0 ∷ 2 ∷ 0 ∷ 0 ∷ 0 ∷ 5 ∷ 119 ∷ 32 ∷ 61 ∷ 32 ∷ 122 ∷ 0 ∷ 0 ∷ 0 ∷ 1 ∷ 49 ∷ 0 ∷ 0 ∷ 0 ∷ 1 ∷ 0 ∷ 0 ∷ 0 ∷ 1 ∷ 1 ∷ 122 ∷ 0 ∷ 0 ∷ 0 ∷ 1 ∷ 0 ∷ 0 ∷ 0 ∷ 2 ∷ 1 ∷ 119 ∷ 1 ∷ 122 ∷ 0 ∷ 0 ∷ 0 ∷ 0 ∷ 0 ∷ 0 ∷ 0 ∷ 2 ∷ [])
unfolding head_of body_of
head_5 = refl

body_5 : body_of (record { entry = (commit 1 One ((codes "w = z") ∷ (codes "1") ∷ []) (((codes "z") ∷ []) ∷ []) ((((codes "w") ∷ (codes "z") ∷ []), 2) ∷ [])); pictures = ((8 ∷ 8 ∷ []) ∷ []) }) ≡ (0 ∷ 0 ∷ 0 ∷ 54 ∷ 1 ∷ 0 ∷ 0 ∷ 0 ∷ 1 ∷ 1 ∷ 0 ∷ 0 ∷ 0 ∷ 2 ∷ 0 ∷ 0 ∷ 0 ∷ 5 ∷ 119 ∷ 32 ∷ 61 ∷ 32 ∷ 122 ∷ 0 ∷ 0 ∷ 0 ∷ 1 ∷ 49 ∷ 0 ∷ 0 ∷ 0 ∷ 1 ∷ 0 ∷ 0 ∷ 0 ∷ 1 ∷ 1 ∷ 122 ∷ 0 ∷ 0 ∷ 0 ∷ 1 ∷ 0 ∷ 0 ∷ 0 ∷ 2 ∷ 1 ∷ 119 ∷ 1 ∷ 122 ∷ 0 ∷ 0 ∷ 0 ∷ 0 ∷ 0 ∷ 0 ∷ 0 ∷ 2 ∷ 8 ∷ 8 ∷ [])
unfolding head_of body_of
body_5 = refl

long_5 : before_pictures (commit 1 One ((codes "w = z") ∷ (codes "1") ∷ []) (((codes "z") ∷ []) ∷ []) ((((codes "w") ∷ (codes "z") ∷ []), 2) ∷ [])) ∷ body_length (commit 1 One ((codes "w = z") ∷ (codes "1") ∷ []) (((codes "z") ∷ []) ∷ []) ((((codes "w") ∷ (codes "z") ∷ []), 2) ∷ [])) ∷ []
    ≡ 58 ∷ 60 ∷ []
unfolding head_of body_of
long_5 = refl

head_6 : head_of (move (to_commit 2)) ≡ (2 ∷ 0 ∷ 0 ∷ 0 ∷ 0 ∷ 2 ∷ [])
unfolding head_of body_of
head_6 = refl

body_6 : body_of (record { entry = (move (to_commit 2)); pictures = [] }) ≡ (0 ∷ 0 ∷ 0 ∷ 6 ∷ 2 ∷ 0 ∷ 0 ∷ 0 ∷ 0 ∷ 2 ∷ [])
unfolding head_of body_of
body_6 = refl

long_6 : before_pictures (move (to_commit 2)) ∷ body_length (move (to_commit 2)) ∷ []
    ≡ 10 ∷ 10 ∷ []
unfolding head_of body_of
long_6 = refl

head_7 : head_of (commit 2 One ([] ∷ []) [] []) ≡ (1 ∷ 0 ∷ 0 ∷ 0 ∷ 2 ∷ 1 ∷ 0 ∷ 0 ∷ 0 ∷ 1 ∷ 0 ∷ 0 ∷ 0 ∷ 0 ∷ 0 ∷ 0 ∷ 0 ∷ 0 ∷ 0 ∷ 0 ∷ 0 ∷ 0 ∷ [])
unfolding head_of body_of
head_7 = refl

body_7 : body_of (record { entry = (commit 2 One ([] ∷ []) [] []); pictures = [] }) ≡ (0 ∷ 0 ∷ 0 ∷ 22 ∷ 1 ∷ 0 ∷ 0 ∷ 0 ∷ 2 ∷ 1 ∷ 0 ∷ 0 ∷ 0 ∷ 1 ∷ 0 ∷ 0 ∷ 0 ∷ 0 ∷ 0 ∷ 0 ∷ 0 ∷ 0 ∷ 0 ∷ 0 ∷ 0 ∷ 0 ∷ [])
unfolding head_of body_of
body_7 = refl

long_7 : before_pictures (commit 2 One ([] ∷ []) [] []) ∷ body_length (commit 2 One ([] ∷ []) [] []) ∷ []
    ≡ 26 ∷ 26 ∷ []
unfolding head_of body_of
long_7 = refl

head_8 : head_of (move (to_branch (codes "main"))) ≡ (2 ∷ 1 ∷ 4 ∷ 109 ∷ 97 ∷ 105 ∷ 110 ∷ [])
unfolding head_of body_of
head_8 = refl

body_8 : body_of (record { entry = (move (to_branch (codes "main"))); pictures = [] }) ≡ (0 ∷ 0 ∷ 0 ∷ 7 ∷ 2 ∷ 1 ∷ 4 ∷ 109 ∷ 97 ∷ 105 ∷ 110 ∷ [])
unfolding head_of body_of
body_8 = refl

long_8 : before_pictures (move (to_branch (codes "main"))) ∷ body_length (move (to_branch (codes "main"))) ∷ []
    ≡ 11 ∷ 11 ∷ []
unfolding head_of body_of
long_8 = refl

head_9 : head_of (commit 2 One ((codes "del x, y, z") ∷ []) (((codes "x") ∷ []) ∷ ((codes "y") ∷ []) ∷ ((codes "z") ∷ []) ∷ []) []) ≡ (1 ∷ 0 ∷ 0 ∷ 0 ∷ 2 ∷ 1 ∷ 0 ∷ 0 ∷ 0 ∷ 1 ∷ 0 ∷ 0 ∷ 0 ∷ 11 ∷ 100 ∷ 101 ∷ 108 ∷ 32 ∷ 120 ∷ 44 ∷ 32 ∷ 121 ∷ 44 ∷ 32 ∷ 122 ∷ 0 ∷ 0 ∷ 0 ∷ 3 ∷ 0 ∷ 0 ∷ 0 ∷ 1 ∷ 1 ∷ 120 ∷ 0 ∷ 0 ∷ 0 ∷ 1 ∷ 1 ∷ 121 ∷ 0 ∷ 0 ∷ 0 ∷ 1 ∷ 1 ∷ 122 ∷ 0 ∷ 0 ∷ 0 ∷ 0 ∷ [])
unfolding head_of body_of
head_9 = refl

body_9 : body_of (record { entry = (commit 2 One ((codes "del x, y, z") ∷ []) (((codes "x") ∷ []) ∷ ((codes "y") ∷ []) ∷ ((codes "z") ∷ []) ∷ []) []); pictures = [] }) ≡ (0 ∷ 0 ∷ 0 ∷ 51 ∷ 1 ∷ 0 ∷ 0 ∷ 0 ∷ 2 ∷ 1 ∷ 0 ∷ 0 ∷ 0 ∷ 1 ∷ 0 ∷ 0 ∷ 0 ∷ 11 ∷ 100 ∷ 101 ∷ 108 ∷ 32 ∷ 120 ∷ 44 ∷ 32 ∷ 121 ∷ 44 ∷ 32 ∷ 122 ∷ 0 ∷ 0 ∷ 0 ∷ 3 ∷ 0 ∷ 0 ∷ 0 ∷ 1 ∷ 1 ∷ 120 ∷ 0 ∷ 0 ∷ 0 ∷ 1 ∷ 1 ∷ 121 ∷ 0 ∷ 0 ∷ 0 ∷ 1 ∷ 1 ∷ 122 ∷ 0 ∷ 0 ∷ 0 ∷ 0 ∷ [])
unfolding head_of body_of
body_9 = refl

long_9 : before_pictures (commit 2 One ((codes "del x, y, z") ∷ []) (((codes "x") ∷ []) ∷ ((codes "y") ∷ []) ∷ ((codes "z") ∷ []) ∷ []) []) ∷ body_length (commit 2 One ((codes "del x, y, z") ∷ []) (((codes "x") ∷ []) ∷ ((codes "y") ∷ []) ∷ ((codes "z") ∷ []) ∷ []) []) ∷ []
    ≡ 55 ∷ 55 ∷ []
unfolding head_of body_of
long_9 = refl

head_10 : head_of (name (codes "Z-9_") 3) ≡ (3 ∷ 4 ∷ 90 ∷ 45 ∷ 57 ∷ 95 ∷ 0 ∷ 0 ∷ 0 ∷ 3 ∷ [])
unfolding head_of body_of
head_10 = refl

body_10 : body_of (record { entry = (name (codes "Z-9_") 3); pictures = [] }) ≡ (0 ∷ 0 ∷ 0 ∷ 10 ∷ 3 ∷ 4 ∷ 90 ∷ 45 ∷ 57 ∷ 95 ∷ 0 ∷ 0 ∷ 0 ∷ 3 ∷ [])
unfolding head_of body_of
body_10 = refl

long_10 : before_pictures (name (codes "Z-9_") 3) ∷ body_length (name (codes "Z-9_") 3) ∷ []
    ≡ 14 ∷ 14 ∷ []
unfolding head_of body_of
long_10 = refl

head_11 : head_of (move (to_commit 0)) ≡ (2 ∷ 0 ∷ 0 ∷ 0 ∷ 0 ∷ 0 ∷ [])
unfolding head_of body_of
head_11 = refl

body_11 : body_of (record { entry = (move (to_commit 0)); pictures = [] }) ≡ (0 ∷ 0 ∷ 0 ∷ 6 ∷ 2 ∷ 0 ∷ 0 ∷ 0 ∷ 0 ∷ 0 ∷ [])
unfolding head_of body_of
body_11 = refl

long_11 : before_pictures (move (to_commit 0)) ∷ body_length (move (to_commit 0)) ∷ []
    ≡ 10 ∷ 10 ∷ []
unfolding head_of body_of
long_11 = refl

head_12 : head_of (commit 0 One ((codes "a = b = 1") ∷ []) [] ((((codes "a") ∷ []), 1) ∷ (((codes "b") ∷ []), 0) ∷ [])) ≡ (1 ∷ 0 ∷ 0 ∷ 0 ∷ 0 ∷ 1 ∷ 0 ∷ 0 ∷ 0 ∷ 1 ∷ 0 ∷ 0 ∷ 0 ∷ 9 ∷ 97 ∷ 32 ∷ 61 ∷ 32 ∷ 98 ∷ 32 ∷ 61 ∷ 32 ∷ 49 ∷ 0 ∷ 0 ∷ 0 ∷ 0 ∷ 0 ∷ 0 ∷ 0 ∷ 2 ∷ 0 ∷ 0 ∷ 0 ∷ 1 ∷ 1 ∷ 97 ∷ 0 ∷ 0 ∷ 0 ∷ 0 ∷ 0 ∷ 0 ∷ 0 ∷ 1 ∷ 0 ∷ 0 ∷ 0 ∷ 1 ∷ 1 ∷ 98 ∷ 0 ∷ 0 ∷ 0 ∷ 0 ∷ 0 ∷ 0 ∷ 0 ∷ 0 ∷ [])
unfolding head_of body_of
head_12 = refl

body_12 : body_of (record { entry = (commit 0 One ((codes "a = b = 1") ∷ []) [] ((((codes "a") ∷ []), 1) ∷ (((codes "b") ∷ []), 0) ∷ [])); pictures = ((9 ∷ []) ∷ [] ∷ []) }) ≡ (0 ∷ 0 ∷ 0 ∷ 59 ∷ 1 ∷ 0 ∷ 0 ∷ 0 ∷ 0 ∷ 1 ∷ 0 ∷ 0 ∷ 0 ∷ 1 ∷ 0 ∷ 0 ∷ 0 ∷ 9 ∷ 97 ∷ 32 ∷ 61 ∷ 32 ∷ 98 ∷ 32 ∷ 61 ∷ 32 ∷ 49 ∷ 0 ∷ 0 ∷ 0 ∷ 0 ∷ 0 ∷ 0 ∷ 0 ∷ 2 ∷ 0 ∷ 0 ∷ 0 ∷ 1 ∷ 1 ∷ 97 ∷ 0 ∷ 0 ∷ 0 ∷ 0 ∷ 0 ∷ 0 ∷ 0 ∷ 1 ∷ 0 ∷ 0 ∷ 0 ∷ 1 ∷ 1 ∷ 98 ∷ 0 ∷ 0 ∷ 0 ∷ 0 ∷ 0 ∷ 0 ∷ 0 ∷ 0 ∷ 9 ∷ [])
unfolding head_of body_of
body_12 = refl

long_12 : before_pictures (commit 0 One ((codes "a = b = 1") ∷ []) [] ((((codes "a") ∷ []), 1) ∷ (((codes "b") ∷ []), 0) ∷ [])) ∷ body_length (commit 0 One ((codes "a = b = 1") ∷ []) [] ((((codes "a") ∷ []), 1) ∷ (((codes "b") ∷ []), 0) ∷ [])) ∷ []
    ≡ 63 ∷ 64 ∷ []
unfolding head_of body_of
long_12 = refl

head_13 : head_of (move (to_branch (codes "Z-9_"))) ≡ (2 ∷ 1 ∷ 4 ∷ 90 ∷ 45 ∷ 57 ∷ 95 ∷ [])
unfolding head_of body_of
head_13 = refl

body_13 : body_of (record { entry = (move (to_branch (codes "Z-9_"))); pictures = [] }) ≡ (0 ∷ 0 ∷ 0 ∷ 7 ∷ 2 ∷ 1 ∷ 4 ∷ 90 ∷ 45 ∷ 57 ∷ 95 ∷ [])
unfolding head_of body_of
body_13 = refl

long_13 : before_pictures (move (to_branch (codes "Z-9_"))) ∷ body_length (move (to_branch (codes "Z-9_"))) ∷ []
    ≡ 11 ∷ 11 ∷ []
unfolding head_of body_of
long_13 = refl

head_14 : head_of (commit 3 One ((codes "y = w") ∷ []) (((codes "w") ∷ (codes "z") ∷ []) ∷ []) ((((codes "w") ∷ (codes "y") ∷ (codes "z") ∷ []), 1) ∷ [])) ≡ (1 ∷ 0 ∷ 0 ∷ 0 ∷ 3 ∷ 1 ∷ 0 ∷ 0 ∷ 0 ∷ 1 ∷ 0 ∷ 0 ∷ 0 ∷ 5 ∷ 121 ∷ 32 ∷ 61 ∷ 32 ∷ 119 ∷ 0 ∷ 0 ∷ 0 ∷ 1 ∷ 0 ∷ 0 ∷ 0 ∷ 2 ∷ 1 ∷ 119 ∷ 1 ∷ 122 ∷ 0 ∷ 0 ∷ 0 ∷ 1 ∷ 0 ∷ 0 ∷ 0 ∷ 3 ∷ 1 ∷ 119 ∷ 1 ∷ 121 ∷ 1 ∷ 122 ∷ 0 ∷ 0 ∷ 0 ∷ 0 ∷ 0 ∷ 0 ∷ 0 ∷ 1 ∷ [])
unfolding head_of body_of
head_14 = refl

body_14 : body_of (record { entry = (commit 3 One ((codes "y = w") ∷ []) (((codes "w") ∷ (codes "z") ∷ []) ∷ []) ((((codes "w") ∷ (codes "y") ∷ (codes "z") ∷ []), 1) ∷ [])); pictures = ((0 ∷ []) ∷ []) }) ≡ (0 ∷ 0 ∷ 0 ∷ 53 ∷ 1 ∷ 0 ∷ 0 ∷ 0 ∷ 3 ∷ 1 ∷ 0 ∷ 0 ∷ 0 ∷ 1 ∷ 0 ∷ 0 ∷ 0 ∷ 5 ∷ 121 ∷ 32 ∷ 61 ∷ 32 ∷ 119 ∷ 0 ∷ 0 ∷ 0 ∷ 1 ∷ 0 ∷ 0 ∷ 0 ∷ 2 ∷ 1 ∷ 119 ∷ 1 ∷ 122 ∷ 0 ∷ 0 ∷ 0 ∷ 1 ∷ 0 ∷ 0 ∷ 0 ∷ 3 ∷ 1 ∷ 119 ∷ 1 ∷ 121 ∷ 1 ∷ 122 ∷ 0 ∷ 0 ∷ 0 ∷ 0 ∷ 0 ∷ 0 ∷ 0 ∷ 1 ∷ 0 ∷ [])
unfolding head_of body_of
body_14 = refl

long_14 : before_pictures (commit 3 One ((codes "y = w") ∷ []) (((codes "w") ∷ (codes "z") ∷ []) ∷ []) ((((codes "w") ∷ (codes "y") ∷ (codes "z") ∷ []), 1) ∷ [])) ∷ body_length (commit 3 One ((codes "y = w") ∷ []) (((codes "w") ∷ (codes "z") ∷ []) ∷ []) ((((codes "w") ∷ (codes "y") ∷ (codes "z") ∷ []), 1) ∷ [])) ∷ []
    ≡ 57 ∷ 58 ∷ []
unfolding head_of body_of
long_14 = refl

head_15 : head_of (commit 1 One ((codes "a") ∷ [] ∷ (195 ∷ 169 ∷ []) ∷ []) (((codes "a") ∷ []) ∷ ((codes "b") ∷ (codes "c") ∷ []) ∷ []) ((((codes "a") ∷ (codes "b") ∷ []), 2) ∷ (((codes "d") ∷ []), 0) ∷ [])) ≡ (1 ∷ 0 ∷ 0 ∷ 0 ∷ 1 ∷ 1 ∷ 0 ∷ 0 ∷ 0 ∷ 3 ∷ 0 ∷ 0 ∷ 0 ∷ 1 ∷ 97 ∷ 0 ∷ 0 ∷ 0 ∷ 0 ∷ 0 ∷ 0 ∷ 0 ∷ 2 ∷ 195 ∷ 169 ∷ 0 ∷ 0 ∷ 0 ∷ 2 ∷ 0 ∷ 0 ∷ 0 ∷ 1 ∷ 1 ∷ 97 ∷ 0 ∷ 0 ∷ 0 ∷ 2 ∷ 1 ∷ 98 ∷ 1 ∷ 99 ∷ 0 ∷ 0 ∷ 0 ∷ 2 ∷ 0 ∷ 0 ∷ 0 ∷ 2 ∷ 1 ∷ 97 ∷ 1 ∷ 98 ∷ 0 ∷ 0 ∷ 0 ∷ 0 ∷ 0 ∷ 0 ∷ 0 ∷ 2 ∷ 0 ∷ 0 ∷ 0 ∷ 1 ∷ 1 ∷ 100 ∷ 0 ∷ 0 ∷ 0 ∷ 0 ∷ 0 ∷ 0 ∷ 0 ∷ 0 ∷ [])
unfolding head_of body_of
head_15 = refl

body_15 : body_of (record { entry = (commit 1 One ((codes "a") ∷ [] ∷ (195 ∷ 169 ∷ []) ∷ []) (((codes "a") ∷ []) ∷ ((codes "b") ∷ (codes "c") ∷ []) ∷ []) ((((codes "a") ∷ (codes "b") ∷ []), 2) ∷ (((codes "d") ∷ []), 0) ∷ [])); pictures = ((120 ∷ 121 ∷ []) ∷ [] ∷ []) }) ≡ (0 ∷ 0 ∷ 0 ∷ 77 ∷ 1 ∷ 0 ∷ 0 ∷ 0 ∷ 1 ∷ 1 ∷ 0 ∷ 0 ∷ 0 ∷ 3 ∷ 0 ∷ 0 ∷ 0 ∷ 1 ∷ 97 ∷ 0 ∷ 0 ∷ 0 ∷ 0 ∷ 0 ∷ 0 ∷ 0 ∷ 2 ∷ 195 ∷ 169 ∷ 0 ∷ 0 ∷ 0 ∷ 2 ∷ 0 ∷ 0 ∷ 0 ∷ 1 ∷ 1 ∷ 97 ∷ 0 ∷ 0 ∷ 0 ∷ 2 ∷ 1 ∷ 98 ∷ 1 ∷ 99 ∷ 0 ∷ 0 ∷ 0 ∷ 2 ∷ 0 ∷ 0 ∷ 0 ∷ 2 ∷ 1 ∷ 97 ∷ 1 ∷ 98 ∷ 0 ∷ 0 ∷ 0 ∷ 0 ∷ 0 ∷ 0 ∷ 0 ∷ 2 ∷ 0 ∷ 0 ∷ 0 ∷ 1 ∷ 1 ∷ 100 ∷ 0 ∷ 0 ∷ 0 ∷ 0 ∷ 0 ∷ 0 ∷ 0 ∷ 0 ∷ 120 ∷ 121 ∷ [])
unfolding head_of body_of
body_15 = refl

long_15 : before_pictures (commit 1 One ((codes "a") ∷ [] ∷ (195 ∷ 169 ∷ []) ∷ []) (((codes "a") ∷ []) ∷ ((codes "b") ∷ (codes "c") ∷ []) ∷ []) ((((codes "a") ∷ (codes "b") ∷ []), 2) ∷ (((codes "d") ∷ []), 0) ∷ [])) ∷ body_length (commit 1 One ((codes "a") ∷ [] ∷ (195 ∷ 169 ∷ []) ∷ []) (((codes "a") ∷ []) ∷ ((codes "b") ∷ (codes "c") ∷ []) ∷ []) ((((codes "a") ∷ (codes "b") ∷ []), 2) ∷ (((codes "d") ∷ []), 0) ∷ [])) ∷ []
    ≡ 81 ∷ 83 ∷ []
unfolding head_of body_of
long_15 = refl

head_16 : head_of (commit 4294967295 One ((codes "a") ∷ []) [] []) ≡ (1 ∷ 255 ∷ 255 ∷ 255 ∷ 255 ∷ 1 ∷ 0 ∷ 0 ∷ 0 ∷ 1 ∷ 0 ∷ 0 ∷ 0 ∷ 1 ∷ 97 ∷ 0 ∷ 0 ∷ 0 ∷ 0 ∷ 0 ∷ 0 ∷ 0 ∷ 0 ∷ [])
unfolding head_of body_of
head_16 = refl

body_16 : body_of (record { entry = (commit 4294967295 One ((codes "a") ∷ []) [] []); pictures = [] }) ≡ (0 ∷ 0 ∷ 0 ∷ 23 ∷ 1 ∷ 255 ∷ 255 ∷ 255 ∷ 255 ∷ 1 ∷ 0 ∷ 0 ∷ 0 ∷ 1 ∷ 0 ∷ 0 ∷ 0 ∷ 1 ∷ 97 ∷ 0 ∷ 0 ∷ 0 ∷ 0 ∷ 0 ∷ 0 ∷ 0 ∷ 0 ∷ [])
unfolding head_of body_of
body_16 = refl

long_16 : before_pictures (commit 4294967295 One ((codes "a") ∷ []) [] []) ∷ body_length (commit 4294967295 One ((codes "a") ∷ []) [] []) ∷ []
    ≡ 27 ∷ 27 ∷ []
unfolding head_of body_of
long_16 = refl

head_17 : head_of (commit 256 One ((97 ∷ 10 ∷ 98 ∷ []) ∷ []) (((codes "_") ∷ (codes "a1") ∷ []) ∷ []) []) ≡ (1 ∷ 0 ∷ 0 ∷ 1 ∷ 0 ∷ 1 ∷ 0 ∷ 0 ∷ 0 ∷ 1 ∷ 0 ∷ 0 ∷ 0 ∷ 3 ∷ 97 ∷ 10 ∷ 98 ∷ 0 ∷ 0 ∷ 0 ∷ 1 ∷ 0 ∷ 0 ∷ 0 ∷ 2 ∷ 1 ∷ 95 ∷ 2 ∷ 97 ∷ 49 ∷ 0 ∷ 0 ∷ 0 ∷ 0 ∷ [])
unfolding head_of body_of
head_17 = refl

body_17 : body_of (record { entry = (commit 256 One ((97 ∷ 10 ∷ 98 ∷ []) ∷ []) (((codes "_") ∷ (codes "a1") ∷ []) ∷ []) []); pictures = [] }) ≡ (0 ∷ 0 ∷ 0 ∷ 34 ∷ 1 ∷ 0 ∷ 0 ∷ 1 ∷ 0 ∷ 1 ∷ 0 ∷ 0 ∷ 0 ∷ 1 ∷ 0 ∷ 0 ∷ 0 ∷ 3 ∷ 97 ∷ 10 ∷ 98 ∷ 0 ∷ 0 ∷ 0 ∷ 1 ∷ 0 ∷ 0 ∷ 0 ∷ 2 ∷ 1 ∷ 95 ∷ 2 ∷ 97 ∷ 49 ∷ 0 ∷ 0 ∷ 0 ∷ 0 ∷ [])
unfolding head_of body_of
body_17 = refl

long_17 : before_pictures (commit 256 One ((97 ∷ 10 ∷ 98 ∷ []) ∷ []) (((codes "_") ∷ (codes "a1") ∷ []) ∷ []) []) ∷ body_length (commit 256 One ((97 ∷ 10 ∷ 98 ∷ []) ∷ []) (((codes "_") ∷ (codes "a1") ∷ []) ∷ []) []) ∷ []
    ≡ 38 ∷ 38 ∷ []
unfolding head_of body_of
long_17 = refl

head_18 : head_of (commit 7 One ((codes "xxxxxxxxxxxxxxxxxxxxxxxxxxxxxxxxxxxxxxxx") ∷ []) [] ((((codes "xxxxxxxxxxxxxxxxxxxx") ∷ []), 30) ∷ [])) ≡ (1 ∷ 0 ∷ 0 ∷ 0 ∷ 7 ∷ 1 ∷ 0 ∷ 0 ∷ 0 ∷ 1 ∷ 0 ∷ 0 ∷ 0 ∷ 40 ∷ 120 ∷ 120 ∷ 120 ∷ 120 ∷ 120 ∷ 120 ∷ 120 ∷ 120 ∷ 120 ∷ 120 ∷ 120 ∷ 120 ∷ 120 ∷ 120 ∷ 120 ∷ 120 ∷ 120 ∷ 120 ∷ 120 ∷ 120 ∷ 120 ∷ 120 ∷ 120 ∷ 120 ∷ 120 ∷ 120 ∷ 120 ∷ 120 ∷ 120 ∷ 120 ∷ 120 ∷ 120 ∷ 120 ∷ 120 ∷ 120 ∷ 120 ∷ 120 ∷ 120 ∷ 120 ∷ 120 ∷ 0 ∷ 0 ∷ 0 ∷ 0 ∷ 0 ∷ 0 ∷ 0 ∷ 1 ∷ 0 ∷ 0 ∷ 0 ∷ 1 ∷ 20 ∷ 120 ∷ 120 ∷ 120 ∷ 120 ∷ 120 ∷ 120 ∷ 120 ∷ 120 ∷ 120 ∷ 120 ∷ 120 ∷ 120 ∷ 120 ∷ 120 ∷ 120 ∷ 120 ∷ 120 ∷ 120 ∷ 120 ∷ 120 ∷ 0 ∷ 0 ∷ 0 ∷ 0 ∷ 0 ∷ 0 ∷ 0 ∷ 30 ∷ [])
unfolding head_of body_of
head_18 = refl

body_18 : body_of (record { entry = (commit 7 One ((codes "xxxxxxxxxxxxxxxxxxxxxxxxxxxxxxxxxxxxxxxx") ∷ []) [] ((((codes "xxxxxxxxxxxxxxxxxxxx") ∷ []), 30) ∷ [])); pictures = ((112 ∷ 112 ∷ 112 ∷ 112 ∷ 112 ∷ 112 ∷ 112 ∷ 112 ∷ 112 ∷ 112 ∷ 112 ∷ 112 ∷ 112 ∷ 112 ∷ 112 ∷ 112 ∷ 112 ∷ 112 ∷ 112 ∷ 112 ∷ 112 ∷ 112 ∷ 112 ∷ 112 ∷ 112 ∷ 112 ∷ 112 ∷ 112 ∷ 112 ∷ 112 ∷ []) ∷ []) }) ≡ (0 ∷ 0 ∷ 0 ∷ 95 ∷ 1 ∷ 0 ∷ 0 ∷ 0 ∷ 7 ∷ 1 ∷ 0 ∷ 0 ∷ 0 ∷ 1 ∷ 0 ∷ 0 ∷ 0 ∷ 40 ∷ 120 ∷ 120 ∷ 120 ∷ 120 ∷ 120 ∷ 120 ∷ 120 ∷ 120 ∷ 120 ∷ 120 ∷ 120 ∷ 120 ∷ 120 ∷ 120 ∷ 120 ∷ 120 ∷ 120 ∷ 120 ∷ 120 ∷ 120 ∷ 120 ∷ 120 ∷ 120 ∷ 120 ∷ 120 ∷ 120 ∷ 120 ∷ 120 ∷ 120 ∷ 120 ∷ 120 ∷ 120 ∷ 120 ∷ 120 ∷ 120 ∷ 120 ∷ 120 ∷ 120 ∷ 120 ∷ 120 ∷ 0 ∷ 0 ∷ 0 ∷ 0 ∷ 0 ∷ 0 ∷ 0 ∷ 1 ∷ 0 ∷ 0 ∷ 0 ∷ 1 ∷ 20 ∷ 120 ∷ 120 ∷ 120 ∷ 120 ∷ 120 ∷ 120 ∷ 120 ∷ 120 ∷ 120 ∷ 120 ∷ 120 ∷ 120 ∷ 120 ∷ 120 ∷ 120 ∷ 120 ∷ 120 ∷ 120 ∷ 120 ∷ 120 ∷ 0 ∷ 0 ∷ 0 ∷ 0 ∷ 0 ∷ 0 ∷ 0 ∷ 30 ∷ 112 ∷ 112 ∷ 112 ∷ 112 ∷ 112 ∷ 112 ∷ 112 ∷ 112 ∷ 112 ∷ 112 ∷ 112 ∷ 112 ∷ 112 ∷ 112 ∷ 112 ∷ 112 ∷ 112 ∷ 112 ∷ 112 ∷ 112 ∷ 112 ∷ 112 ∷ 112 ∷ 112 ∷ 112 ∷ 112 ∷ 112 ∷ 112 ∷ 112 ∷ 112 ∷ [])
unfolding head_of body_of
body_18 = refl

long_18 : before_pictures (commit 7 One ((codes "xxxxxxxxxxxxxxxxxxxxxxxxxxxxxxxxxxxxxxxx") ∷ []) [] ((((codes "xxxxxxxxxxxxxxxxxxxx") ∷ []), 30) ∷ [])) ∷ body_length (commit 7 One ((codes "xxxxxxxxxxxxxxxxxxxxxxxxxxxxxxxxxxxxxxxx") ∷ []) [] ((((codes "xxxxxxxxxxxxxxxxxxxx") ∷ []), 30) ∷ [])) ∷ []
    ≡ 99 ∷ 129 ∷ []
unfolding head_of body_of
long_18 = refl

head_19 : head_of (move (to_commit 0)) ≡ (2 ∷ 0 ∷ 0 ∷ 0 ∷ 0 ∷ 0 ∷ [])
unfolding head_of body_of
head_19 = refl

body_19 : body_of (record { entry = (move (to_commit 0)); pictures = [] }) ≡ (0 ∷ 0 ∷ 0 ∷ 6 ∷ 2 ∷ 0 ∷ 0 ∷ 0 ∷ 0 ∷ 0 ∷ [])
unfolding head_of body_of
body_19 = refl

long_19 : before_pictures (move (to_commit 0)) ∷ body_length (move (to_commit 0)) ∷ []
    ≡ 10 ∷ 10 ∷ []
unfolding head_of body_of
long_19 = refl

head_20 : head_of (move (to_commit 4294967295)) ≡ (2 ∷ 0 ∷ 255 ∷ 255 ∷ 255 ∷ 255 ∷ [])
unfolding head_of body_of
head_20 = refl

body_20 : body_of (record { entry = (move (to_commit 4294967295)); pictures = [] }) ≡ (0 ∷ 0 ∷ 0 ∷ 6 ∷ 2 ∷ 0 ∷ 255 ∷ 255 ∷ 255 ∷ 255 ∷ [])
unfolding head_of body_of
body_20 = refl

long_20 : before_pictures (move (to_commit 4294967295)) ∷ body_length (move (to_commit 4294967295)) ∷ []
    ≡ 10 ∷ 10 ∷ []
unfolding head_of body_of
long_20 = refl

head_21 : head_of (move (to_commit 258)) ≡ (2 ∷ 0 ∷ 0 ∷ 0 ∷ 1 ∷ 2 ∷ [])
unfolding head_of body_of
head_21 = refl

body_21 : body_of (record { entry = (move (to_commit 258)); pictures = [] }) ≡ (0 ∷ 0 ∷ 0 ∷ 6 ∷ 2 ∷ 0 ∷ 0 ∷ 0 ∷ 1 ∷ 2 ∷ [])
unfolding head_of body_of
body_21 = refl

long_21 : before_pictures (move (to_commit 258)) ∷ body_length (move (to_commit 258)) ∷ []
    ≡ 10 ∷ 10 ∷ []
unfolding head_of body_of
long_21 = refl

head_22 : head_of (move (to_branch (codes "_"))) ≡ (2 ∷ 1 ∷ 1 ∷ 95 ∷ [])
unfolding head_of body_of
head_22 = refl

body_22 : body_of (record { entry = (move (to_branch (codes "_"))); pictures = [] }) ≡ (0 ∷ 0 ∷ 0 ∷ 4 ∷ 2 ∷ 1 ∷ 1 ∷ 95 ∷ [])
unfolding head_of body_of
body_22 = refl

long_22 : before_pictures (move (to_branch (codes "_"))) ∷ body_length (move (to_branch (codes "_"))) ∷ []
    ≡ 8 ∷ 8 ∷ []
unfolding head_of body_of
long_22 = refl

head_23 : head_of (move (to_branch (codes "a-b"))) ≡ (2 ∷ 1 ∷ 3 ∷ 97 ∷ 45 ∷ 98 ∷ [])
unfolding head_of body_of
head_23 = refl

body_23 : body_of (record { entry = (move (to_branch (codes "a-b"))); pictures = [] }) ≡ (0 ∷ 0 ∷ 0 ∷ 6 ∷ 2 ∷ 1 ∷ 3 ∷ 97 ∷ 45 ∷ 98 ∷ [])
unfolding head_of body_of
body_23 = refl

long_23 : before_pictures (move (to_branch (codes "a-b"))) ∷ body_length (move (to_branch (codes "a-b"))) ∷ []
    ≡ 10 ∷ 10 ∷ []
unfolding head_of body_of
long_23 = refl

head_24 : head_of (move (to_branch [])) ≡ (2 ∷ 1 ∷ 0 ∷ [])
unfolding head_of body_of
head_24 = refl

body_24 : body_of (record { entry = (move (to_branch [])); pictures = [] }) ≡ (0 ∷ 0 ∷ 0 ∷ 3 ∷ 2 ∷ 1 ∷ 0 ∷ [])
unfolding head_of body_of
body_24 = refl

long_24 : before_pictures (move (to_branch [])) ∷ body_length (move (to_branch [])) ∷ []
    ≡ 7 ∷ 7 ∷ []
unfolding head_of body_of
long_24 = refl

head_25 : head_of (name (195 ∷ 169 ∷ []) 3) ≡ (3 ∷ 2 ∷ 195 ∷ 169 ∷ 0 ∷ 0 ∷ 0 ∷ 3 ∷ [])
unfolding head_of body_of
head_25 = refl

body_25 : body_of (record { entry = (name (195 ∷ 169 ∷ []) 3); pictures = [] }) ≡ (0 ∷ 0 ∷ 0 ∷ 8 ∷ 3 ∷ 2 ∷ 195 ∷ 169 ∷ 0 ∷ 0 ∷ 0 ∷ 3 ∷ [])
unfolding head_of body_of
body_25 = refl

long_25 : before_pictures (name (195 ∷ 169 ∷ []) 3) ∷ body_length (name (195 ∷ 169 ∷ []) 3) ∷ []
    ≡ 12 ∷ 12 ∷ []
unfolding head_of body_of
long_25 = refl

head_26 : head_of (name [] 0) ≡ (3 ∷ 0 ∷ 0 ∷ 0 ∷ 0 ∷ 0 ∷ [])
unfolding head_of body_of
head_26 = refl

body_26 : body_of (record { entry = (name [] 0); pictures = [] }) ≡ (0 ∷ 0 ∷ 0 ∷ 6 ∷ 3 ∷ 0 ∷ 0 ∷ 0 ∷ 0 ∷ 0 ∷ [])
unfolding head_of body_of
body_26 = refl

long_26 : before_pictures (name [] 0) ∷ body_length (name [] 0) ∷ []
    ≡ 10 ∷ 10 ∷ []
unfolding head_of body_of
long_26 = refl

head_27 : head_of (name (codes "nnnnnnnnnnnnnnnnnnnnnnnnnnnnnnnnnnnnnnnnnnnnnnnnnnnnnnnnnnnnnnnn") 65536) ≡ (3 ∷ 64 ∷ 110 ∷ 110 ∷ 110 ∷ 110 ∷ 110 ∷ 110 ∷ 110 ∷ 110 ∷ 110 ∷ 110 ∷ 110 ∷ 110 ∷ 110 ∷ 110 ∷ 110 ∷ 110 ∷ 110 ∷ 110 ∷ 110 ∷ 110 ∷ 110 ∷ 110 ∷ 110 ∷ 110 ∷ 110 ∷ 110 ∷ 110 ∷ 110 ∷ 110 ∷ 110 ∷ 110 ∷ 110 ∷ 110 ∷ 110 ∷ 110 ∷ 110 ∷ 110 ∷ 110 ∷ 110 ∷ 110 ∷ 110 ∷ 110 ∷ 110 ∷ 110 ∷ 110 ∷ 110 ∷ 110 ∷ 110 ∷ 110 ∷ 110 ∷ 110 ∷ 110 ∷ 110 ∷ 110 ∷ 110 ∷ 110 ∷ 110 ∷ 110 ∷ 110 ∷ 110 ∷ 110 ∷ 110 ∷ 110 ∷ 110 ∷ 0 ∷ 1 ∷ 0 ∷ 0 ∷ [])
unfolding head_of body_of
head_27 = refl

body_27 : body_of (record { entry = (name (codes "nnnnnnnnnnnnnnnnnnnnnnnnnnnnnnnnnnnnnnnnnnnnnnnnnnnnnnnnnnnnnnnn") 65536); pictures = [] }) ≡ (0 ∷ 0 ∷ 0 ∷ 70 ∷ 3 ∷ 64 ∷ 110 ∷ 110 ∷ 110 ∷ 110 ∷ 110 ∷ 110 ∷ 110 ∷ 110 ∷ 110 ∷ 110 ∷ 110 ∷ 110 ∷ 110 ∷ 110 ∷ 110 ∷ 110 ∷ 110 ∷ 110 ∷ 110 ∷ 110 ∷ 110 ∷ 110 ∷ 110 ∷ 110 ∷ 110 ∷ 110 ∷ 110 ∷ 110 ∷ 110 ∷ 110 ∷ 110 ∷ 110 ∷ 110 ∷ 110 ∷ 110 ∷ 110 ∷ 110 ∷ 110 ∷ 110 ∷ 110 ∷ 110 ∷ 110 ∷ 110 ∷ 110 ∷ 110 ∷ 110 ∷ 110 ∷ 110 ∷ 110 ∷ 110 ∷ 110 ∷ 110 ∷ 110 ∷ 110 ∷ 110 ∷ 110 ∷ 110 ∷ 110 ∷ 110 ∷ 110 ∷ 110 ∷ 110 ∷ 110 ∷ 110 ∷ 0 ∷ 1 ∷ 0 ∷ 0 ∷ [])
unfolding head_of body_of
body_27 = refl

long_27 : before_pictures (name (codes "nnnnnnnnnnnnnnnnnnnnnnnnnnnnnnnnnnnnnnnnnnnnnnnnnnnnnnnnnnnnnnnn") 65536) ∷ body_length (name (codes "nnnnnnnnnnnnnnnnnnnnnnnnnnnnnnnnnnnnnnnnnnnnnnnnnnnnnnnnnnnnnnnn") 65536) ∷ []
    ≡ 74 ∷ 74 ∷ []
unfolding head_of body_of
long_27 = refl

-- Which stores are good: those whose records drop and store what they have to, with the pictures of the replays. Made by tools/rows/good_rows.py.
use Rattle.std.specs.Prelude.{◌≡◌, ℕ, false, List, [], ◌∷◌, codes, refl}
use Rattle.std.specs.Prelude.{zero, suc, ◌≤◌, ◌<◌, length}
use Rattle.std.proofs.Common.{arith, sym, ap, subst, inl, inr}
use Rattle.kishu_history_laws.specs.Choices.{false_no}
use Rattle.std.specs.Str.{bytes_eq}
use Rattle.std.proofs.lemmas.Slice.Eq.{bytes_eq-Decides}
use Rattle.kishu_language.specs.declared.profile.Profile.TheVariants.{One}
use Rattle.kishu_meaning.specs.values.Values.{empty}
use Rattle.kishu_objects.specs.Bytes.{state_bytes}
use Rattle.kishu_objects.specs.Lists.{In}
use Rattle.kishu_objects.specs.Picture.{picture}
use Rattle.kishu_store.specs.Graph.{Commit, path_in}
use Rattle.kishu_store.specs.Tables.{Row, Change, change_of, bytes_at}
use Rattle.kishu_history.specs.Versions.{at_end}
use Rattle.kishu_history.specs.Paths.{stops_in, changes_in}
use Rattle.kishu_history.specs.Tables.{AreRight}
use Rattle.kishu_history.specs.Stored.{Held}
use Rattle.kishu_history.specs.Sizes.{AllStaySmall}
use Rattle.kishu_history.specs.Good.{IsGoodStore}
use Rattle.kishu_object_rows.proofs.OnLiterals.{cells_on_literals}

apart_bytes : (a b : List ℕ) → bytes_eq a b ≡ false → a ≡ b → ⊥
apart_bytes a b e = false_no (bytes_eq a b) (bytes_eq-Decides a b) e

too_far : (n c : ℕ) → n < c → c ≤ n → ⊥
too_far n c l m = absurd (omega (arith, l, m))

-- ---- a = [1]

abbrev pub one_file : List ℕ
one_file = 75 ∷ 73 ∷ 83 ∷ 72 ∷ 85 ∷ 45 ∷ 74 ∷ 79 ∷ 85 ∷ 82 ∷ 78 ∷ 65 ∷ 76 ∷ 45 ∷ 49 ∷ 10 ∷ 165 ∷ 0 ∷ 0 ∷ 0 ∷ 0 ∷ 0 ∷ 0 ∷ 0 ∷ 84 ∷ 0 ∷ 0 ∷ 0 ∷ 43 ∷ 1 ∷ 0 ∷ 0 ∷ 0 ∷ 0 ∷ 1 ∷ 0 ∷ 0 ∷ 0 ∷ 1 ∷ 0 ∷ 0 ∷ 0 ∷ 7 ∷ 97 ∷ 32 ∷ 61 ∷ 32 ∷ 91 ∷ 49 ∷ 93 ∷ 0 ∷ 0 ∷ 0 ∷ 0 ∷ 0 ∷ 0 ∷ 0 ∷ 1 ∷ 0 ∷ 0 ∷ 0 ∷ 1 ∷ 1 ∷ 97 ∷ 0 ∷ 0 ∷ 0 ∷ 0 ∷ 0 ∷ 0 ∷ 0 ∷ 37 ∷ 0 ∷ 0 ∷ 0 ∷ 1 ∷ 1 ∷ 97 ∷ 8 ∷ 0 ∷ 0 ∷ 0 ∷ 0 ∷ 0 ∷ 0 ∷ 0 ∷ 1 ∷ 1 ∷ 0 ∷ 0 ∷ 0 ∷ 1 ∷ 3 ∷ 0 ∷ 0 ∷ 0 ∷ 0 ∷ 0 ∷ 0 ∷ 0 ∷ 0 ∷ 0 ∷ 0 ∷ 0 ∷ 0 ∷ 0 ∷ 0 ∷ 0 ∷ 1 ∷ 0 ∷ []

abbrev pub one_commits : List Commit
one_commits = (record { parent = 0; profile = One; cells = (codes "a = [1]") ∷ [] }) ∷ []

abbrev pub one_of : ℕ → Change
one_of = change_of ((record { dropped = []; stored = ((record { group = ((codes "a") ∷ []); version = 1; place = 72; len = 37 }) ∷ []) }) ∷ [])

one_version1 : (r : Row) → In r (one_of 1).stored → r.version ≡ 1
one_version1 r (inl e) = ap (λ (q : Row). q.version) e
one_version1 r (inr m) = absurd m

one_right : (c : ℕ) → c ≤ 1 → AreRight (stops_in one_commits c) (changes_in one_commits one_of c)
unfolding cells_on_literals
one_right zero l = tt
one_right (suc (zero)) l = (refl, refl, (λ r m. one_version1 r m), tt)
one_right (suc (suc (c))) l = absurd (omega (arith, l))

one_held : (c : ℕ) → c ≤ 1 → (r : Row) → In r (one_of c).stored → Held one_file r (picture (at_end (stops_in one_commits c)) r.group)
unfolding cells_on_literals
one_held zero l r m = absurd m
one_held (suc (zero)) l r (inl e) = subst (λ q. Held one_file q (picture (at_end (stops_in one_commits 1)) q.group)) (sym e) (record { bytes = refl; len = refl; fits = ((omega arith, (omega arith, tt)), (omega arith, ((omega arith, (record { sfits = omega arith }, tt)), tt))) })
one_held (suc (zero)) l r (inr m) = absurd m
one_held (suc (suc (c))) l r m = absurd (omega (arith, l))

one_small : (c : ℕ) → c ≤ 1 → AllStaySmall (path_in one_commits c) empty
unfolding cells_on_literals
one_small zero l = tt
one_small (suc (zero)) l = ((omega arith, tt), tt)
one_small (suc (suc (c))) l = absurd (omega (arith, l))

pub good_1 : IsGoodStore one_file one_commits one_of
good_1 = record { right = one_right; pictures = one_held; small = one_small }

abbrev pub one_spoilt : List ℕ
one_spoilt = 75 ∷ 73 ∷ 83 ∷ 72 ∷ 85 ∷ 45 ∷ 74 ∷ 79 ∷ 85 ∷ 82 ∷ 78 ∷ 65 ∷ 76 ∷ 45 ∷ 49 ∷ 10 ∷ 165 ∷ 0 ∷ 0 ∷ 0 ∷ 0 ∷ 0 ∷ 0 ∷ 0 ∷ 84 ∷ 0 ∷ 0 ∷ 0 ∷ 43 ∷ 1 ∷ 0 ∷ 0 ∷ 0 ∷ 0 ∷ 1 ∷ 0 ∷ 0 ∷ 0 ∷ 1 ∷ 0 ∷ 0 ∷ 0 ∷ 7 ∷ 97 ∷ 32 ∷ 61 ∷ 32 ∷ 91 ∷ 49 ∷ 93 ∷ 0 ∷ 0 ∷ 0 ∷ 0 ∷ 0 ∷ 0 ∷ 0 ∷ 1 ∷ 0 ∷ 0 ∷ 0 ∷ 1 ∷ 1 ∷ 97 ∷ 0 ∷ 0 ∷ 0 ∷ 0 ∷ 0 ∷ 0 ∷ 0 ∷ 37 ∷ 0 ∷ 0 ∷ 0 ∷ 1 ∷ 1 ∷ 97 ∷ 8 ∷ 0 ∷ 0 ∷ 0 ∷ 0 ∷ 0 ∷ 0 ∷ 0 ∷ 1 ∷ 1 ∷ 0 ∷ 0 ∷ 0 ∷ 1 ∷ 3 ∷ 0 ∷ 0 ∷ 0 ∷ 0 ∷ 0 ∷ 0 ∷ 0 ∷ 0 ∷ 0 ∷ 0 ∷ 0 ∷ 0 ∷ 0 ∷ 0 ∷ 0 ∷ 2 ∷ 0 ∷ []

not_good_1 : IsGoodStore one_spoilt one_commits one_of → ⊥
unfolding cells_on_literals
not_good_1 = λ h. apart_bytes (bytes_at one_spoilt (record { group = ((codes "a") ∷ []); version = 1; place = 72; len = 37 })) (state_bytes (picture (at_end (stops_in one_commits 1)) ((codes "a") ∷ []))) refl (h.pictures 1 (omega arith) (record { group = ((codes "a") ∷ []); version = 1; place = 72; len = 37 }) (inl refl)).bytes

not_good_2 : IsGoodStore one_file one_commits (change_of ((record { dropped = []; stored = ((record { group = ((codes "a") ∷ []); version = 2; place = 72; len = 37 }) ∷ []) }) ∷ [])) → ⊥
unfolding cells_on_literals
not_good_2 = λ h. absurd (omega (arith, (h.right 1 (omega arith)).2 (record { group = ((codes "a") ∷ []); version = 2; place = 72; len = 37 }) (inl refl)))

not_good_3 : IsGoodStore one_file one_commits (change_of ((record { dropped = []; stored = [] }) ∷ [])) → ⊥
unfolding cells_on_literals
not_good_3 = λ h. absurd (let p : [] ≡ (((codes "a") ∷ []) ∷ []) = (h.right 1 (omega arith)).1 in omega (arith, ap length p))

not_good_4 : IsGoodStore one_file one_commits (change_of ((record { dropped = (((codes "q") ∷ []) ∷ []); stored = ((record { group = ((codes "a") ∷ []); version = 1; place = 72; len = 37 }) ∷ []) }) ∷ [])) → ⊥
unfolding cells_on_literals
not_good_4 = λ h. absurd (let p : (((codes "q") ∷ []) ∷ []) ≡ [] = (h.right 1 (omega arith)).0 in omega (arith, ap length p))

-- ---- a = [1]; b = a / b.append(2)

abbrev pub shared_file : List ℕ
shared_file = 75 ∷ 73 ∷ 83 ∷ 72 ∷ 85 ∷ 45 ∷ 74 ∷ 79 ∷ 85 ∷ 82 ∷ 78 ∷ 65 ∷ 76 ∷ 45 ∷ 49 ∷ 10 ∷ 165 ∷ 0 ∷ 0 ∷ 0 ∷ 0 ∷ 0 ∷ 0 ∷ 0 ∷ 100 ∷ 0 ∷ 0 ∷ 0 ∷ 52 ∷ 1 ∷ 0 ∷ 0 ∷ 0 ∷ 0 ∷ 1 ∷ 0 ∷ 0 ∷ 0 ∷ 1 ∷ 0 ∷ 0 ∷ 0 ∷ 14 ∷ 97 ∷ 32 ∷ 61 ∷ 32 ∷ 91 ∷ 49 ∷ 93 ∷ 59 ∷ 32 ∷ 98 ∷ 32 ∷ 61 ∷ 32 ∷ 97 ∷ 0 ∷ 0 ∷ 0 ∷ 0 ∷ 0 ∷ 0 ∷ 0 ∷ 1 ∷ 0 ∷ 0 ∷ 0 ∷ 2 ∷ 1 ∷ 97 ∷ 1 ∷ 98 ∷ 0 ∷ 0 ∷ 0 ∷ 0 ∷ 0 ∷ 0 ∷ 0 ∷ 44 ∷ 0 ∷ 0 ∷ 0 ∷ 2 ∷ 1 ∷ 97 ∷ 8 ∷ 0 ∷ 0 ∷ 0 ∷ 0 ∷ 1 ∷ 98 ∷ 8 ∷ 0 ∷ 0 ∷ 0 ∷ 0 ∷ 0 ∷ 0 ∷ 0 ∷ 1 ∷ 1 ∷ 0 ∷ 0 ∷ 0 ∷ 1 ∷ 3 ∷ 0 ∷ 0 ∷ 0 ∷ 0 ∷ 0 ∷ 0 ∷ 0 ∷ 0 ∷ 0 ∷ 0 ∷ 0 ∷ 0 ∷ 0 ∷ 0 ∷ 0 ∷ 1 ∷ 165 ∷ 0 ∷ 0 ∷ 0 ∷ 0 ∷ 0 ∷ 0 ∷ 0 ∷ 122 ∷ 0 ∷ 0 ∷ 0 ∷ 57 ∷ 1 ∷ 0 ∷ 0 ∷ 0 ∷ 1 ∷ 1 ∷ 0 ∷ 0 ∷ 0 ∷ 1 ∷ 0 ∷ 0 ∷ 0 ∷ 11 ∷ 98 ∷ 46 ∷ 97 ∷ 112 ∷ 112 ∷ 101 ∷ 110 ∷ 100 ∷ 40 ∷ 50 ∷ 41 ∷ 0 ∷ 0 ∷ 0 ∷ 1 ∷ 0 ∷ 0 ∷ 0 ∷ 2 ∷ 1 ∷ 97 ∷ 1 ∷ 98 ∷ 0 ∷ 0 ∷ 0 ∷ 1 ∷ 0 ∷ 0 ∷ 0 ∷ 2 ∷ 1 ∷ 97 ∷ 1 ∷ 98 ∷ 0 ∷ 0 ∷ 0 ∷ 0 ∷ 0 ∷ 0 ∷ 0 ∷ 61 ∷ 0 ∷ 0 ∷ 0 ∷ 2 ∷ 1 ∷ 97 ∷ 8 ∷ 0 ∷ 0 ∷ 0 ∷ 0 ∷ 1 ∷ 98 ∷ 8 ∷ 0 ∷ 0 ∷ 0 ∷ 0 ∷ 0 ∷ 0 ∷ 0 ∷ 1 ∷ 1 ∷ 0 ∷ 0 ∷ 0 ∷ 2 ∷ 3 ∷ 0 ∷ 0 ∷ 0 ∷ 0 ∷ 0 ∷ 0 ∷ 0 ∷ 0 ∷ 0 ∷ 0 ∷ 0 ∷ 0 ∷ 0 ∷ 0 ∷ 0 ∷ 1 ∷ 3 ∷ 0 ∷ 0 ∷ 0 ∷ 0 ∷ 0 ∷ 0 ∷ 0 ∷ 0 ∷ 0 ∷ 0 ∷ 0 ∷ 0 ∷ 0 ∷ 0 ∷ 0 ∷ 2 ∷ 0 ∷ []

abbrev pub shared_commits : List Commit
shared_commits = (record { parent = 1; profile = One; cells = (codes "b.append(2)") ∷ [] }) ∷ (record { parent = 0; profile = One; cells = (codes "a = [1]; b = a") ∷ [] }) ∷ []

abbrev pub shared_of : ℕ → Change
shared_of = change_of ((record { dropped = (((codes "a") ∷ (codes "b") ∷ []) ∷ []); stored = ((record { group = ((codes "a") ∷ (codes "b") ∷ []); version = 2; place = 195; len = 61 }) ∷ []) }) ∷ (record { dropped = []; stored = ((record { group = ((codes "a") ∷ (codes "b") ∷ []); version = 1; place = 81; len = 44 }) ∷ []) }) ∷ [])

shared_version1 : (r : Row) → In r (shared_of 1).stored → r.version ≡ 1
shared_version1 r (inl e) = ap (λ (q : Row). q.version) e
shared_version1 r (inr m) = absurd m

shared_version2 : (r : Row) → In r (shared_of 2).stored → r.version ≡ 2
shared_version2 r (inl e) = ap (λ (q : Row). q.version) e
shared_version2 r (inr m) = absurd m

shared_right : (c : ℕ) → c ≤ 2 → AreRight (stops_in shared_commits c) (changes_in shared_commits shared_of c)
unfolding cells_on_literals
shared_right zero l = tt
shared_right (suc (zero)) l = (refl, refl, (λ r m. shared_version1 r m), tt)
shared_right (suc (suc (zero))) l = (refl, refl, (λ r m. shared_version2 r m), (refl, refl, (λ r m. shared_version1 r m), tt))
shared_right (suc (suc (suc (c)))) l = absurd (omega (arith, l))

shared_held : (c : ℕ) → c ≤ 2 → (r : Row) → In r (shared_of c).stored → Held shared_file r (picture (at_end (stops_in shared_commits c)) r.group)
unfolding cells_on_literals
shared_held zero l r m = absurd m
shared_held (suc (zero)) l r (inl e) = subst (λ q. Held shared_file q (picture (at_end (stops_in shared_commits 1)) q.group)) (sym e) (record { bytes = refl; len = refl; fits = ((omega arith, (omega arith, (omega arith, tt))), (omega arith, ((omega arith, (record { sfits = omega arith }, tt)), tt))) })
shared_held (suc (zero)) l r (inr m) = absurd m
shared_held (suc (suc (zero))) l r (inl e) = subst (λ q. Held shared_file q (picture (at_end (stops_in shared_commits 2)) q.group)) (sym e) (record { bytes = refl; len = refl; fits = ((omega arith, (omega arith, (omega arith, tt))), (omega arith, ((omega arith, (record { sfits = omega arith }, (record { sfits = omega arith }, tt))), tt))) })
shared_held (suc (suc (zero))) l r (inr m) = absurd m
shared_held (suc (suc (suc (c)))) l r m = absurd (omega (arith, l))

shared_small : (c : ℕ) → c ≤ 2 → AllStaySmall (path_in shared_commits c) empty
unfolding cells_on_literals
shared_small zero l = tt
shared_small (suc (zero)) l = ((omega arith, tt), tt)
shared_small (suc (suc (zero))) l = ((omega arith, tt), ((omega arith, tt), tt))
shared_small (suc (suc (suc (c)))) l = absurd (omega (arith, l))

pub good_2 : IsGoodStore shared_file shared_commits shared_of
good_2 = record { right = shared_right; pictures = shared_held; small = shared_small }

abbrev pub shared_spoilt : List ℕ
shared_spoilt = 75 ∷ 73 ∷ 83 ∷ 72 ∷ 85 ∷ 45 ∷ 74 ∷ 79 ∷ 85 ∷ 82 ∷ 78 ∷ 65 ∷ 76 ∷ 45 ∷ 49 ∷ 10 ∷ 165 ∷ 0 ∷ 0 ∷ 0 ∷ 0 ∷ 0 ∷ 0 ∷ 0 ∷ 100 ∷ 0 ∷ 0 ∷ 0 ∷ 52 ∷ 1 ∷ 0 ∷ 0 ∷ 0 ∷ 0 ∷ 1 ∷ 0 ∷ 0 ∷ 0 ∷ 1 ∷ 0 ∷ 0 ∷ 0 ∷ 14 ∷ 97 ∷ 32 ∷ 61 ∷ 32 ∷ 91 ∷ 49 ∷ 93 ∷ 59 ∷ 32 ∷ 98 ∷ 32 ∷ 61 ∷ 32 ∷ 97 ∷ 0 ∷ 0 ∷ 0 ∷ 0 ∷ 0 ∷ 0 ∷ 0 ∷ 1 ∷ 0 ∷ 0 ∷ 0 ∷ 2 ∷ 1 ∷ 97 ∷ 1 ∷ 98 ∷ 0 ∷ 0 ∷ 0 ∷ 0 ∷ 0 ∷ 0 ∷ 0 ∷ 44 ∷ 0 ∷ 0 ∷ 0 ∷ 2 ∷ 1 ∷ 97 ∷ 8 ∷ 0 ∷ 0 ∷ 0 ∷ 0 ∷ 1 ∷ 98 ∷ 8 ∷ 0 ∷ 0 ∷ 0 ∷ 0 ∷ 0 ∷ 0 ∷ 0 ∷ 1 ∷ 1 ∷ 0 ∷ 0 ∷ 0 ∷ 1 ∷ 3 ∷ 0 ∷ 0 ∷ 0 ∷ 0 ∷ 0 ∷ 0 ∷ 0 ∷ 0 ∷ 0 ∷ 0 ∷ 0 ∷ 0 ∷ 0 ∷ 0 ∷ 0 ∷ 1 ∷ 165 ∷ 0 ∷ 0 ∷ 0 ∷ 0 ∷ 0 ∷ 0 ∷ 0 ∷ 122 ∷ 0 ∷ 0 ∷ 0 ∷ 57 ∷ 1 ∷ 0 ∷ 0 ∷ 0 ∷ 1 ∷ 1 ∷ 0 ∷ 0 ∷ 0 ∷ 1 ∷ 0 ∷ 0 ∷ 0 ∷ 11 ∷ 98 ∷ 46 ∷ 97 ∷ 112 ∷ 112 ∷ 101 ∷ 110 ∷ 100 ∷ 40 ∷ 50 ∷ 41 ∷ 0 ∷ 0 ∷ 0 ∷ 1 ∷ 0 ∷ 0 ∷ 0 ∷ 2 ∷ 1 ∷ 97 ∷ 1 ∷ 98 ∷ 0 ∷ 0 ∷ 0 ∷ 1 ∷ 0 ∷ 0 ∷ 0 ∷ 2 ∷ 1 ∷ 97 ∷ 1 ∷ 98 ∷ 0 ∷ 0 ∷ 0 ∷ 0 ∷ 0 ∷ 0 ∷ 0 ∷ 61 ∷ 0 ∷ 0 ∷ 0 ∷ 2 ∷ 1 ∷ 97 ∷ 8 ∷ 0 ∷ 0 ∷ 0 ∷ 0 ∷ 1 ∷ 98 ∷ 8 ∷ 0 ∷ 0 ∷ 0 ∷ 0 ∷ 0 ∷ 0 ∷ 0 ∷ 1 ∷ 1 ∷ 0 ∷ 0 ∷ 0 ∷ 2 ∷ 3 ∷ 0 ∷ 0 ∷ 0 ∷ 0 ∷ 0 ∷ 0 ∷ 0 ∷ 0 ∷ 0 ∷ 0 ∷ 0 ∷ 0 ∷ 0 ∷ 0 ∷ 0 ∷ 1 ∷ 3 ∷ 0 ∷ 0 ∷ 0 ∷ 0 ∷ 0 ∷ 0 ∷ 0 ∷ 0 ∷ 0 ∷ 0 ∷ 0 ∷ 0 ∷ 0 ∷ 0 ∷ 0 ∷ 1 ∷ 0 ∷ []

not_good_5 : IsGoodStore shared_spoilt shared_commits shared_of → ⊥
unfolding cells_on_literals
not_good_5 = λ h. apart_bytes (bytes_at shared_spoilt (record { group = ((codes "a") ∷ (codes "b") ∷ []); version = 2; place = 195; len = 61 })) (state_bytes (picture (at_end (stops_in shared_commits 2)) ((codes "a") ∷ (codes "b") ∷ []))) refl (h.pictures 2 (omega arith) (record { group = ((codes "a") ∷ (codes "b") ∷ []); version = 2; place = 195; len = 61 }) (inl refl)).bytes

not_good_6 : IsGoodStore shared_file shared_commits (change_of ((record { dropped = (((codes "a") ∷ (codes "b") ∷ []) ∷ []); stored = ((record { group = ((codes "a") ∷ (codes "b") ∷ []); version = 3; place = 195; len = 61 }) ∷ []) }) ∷ (record { dropped = []; stored = ((record { group = ((codes "a") ∷ (codes "b") ∷ []); version = 1; place = 81; len = 44 }) ∷ []) }) ∷ [])) → ⊥
unfolding cells_on_literals
not_good_6 = λ h. absurd (omega (arith, (h.right 2 (omega arith)).2 (record { group = ((codes "a") ∷ (codes "b") ∷ []); version = 3; place = 195; len = 61 }) (inl refl)))

not_good_7 : IsGoodStore shared_file shared_commits (change_of ((record { dropped = (((codes "a") ∷ (codes "b") ∷ []) ∷ []); stored = [] }) ∷ (record { dropped = []; stored = ((record { group = ((codes "a") ∷ (codes "b") ∷ []); version = 1; place = 81; len = 44 }) ∷ []) }) ∷ [])) → ⊥
unfolding cells_on_literals
not_good_7 = λ h. absurd (let p : [] ≡ (((codes "a") ∷ (codes "b") ∷ []) ∷ []) = (h.right 2 (omega arith)).1 in omega (arith, ap length p))

not_good_8 : IsGoodStore shared_file shared_commits (change_of ((record { dropped = []; stored = ((record { group = ((codes "a") ∷ (codes "b") ∷ []); version = 2; place = 195; len = 61 }) ∷ []) }) ∷ (record { dropped = []; stored = ((record { group = ((codes "a") ∷ (codes "b") ∷ []); version = 1; place = 81; len = 44 }) ∷ []) }) ∷ [])) → ⊥
unfolding cells_on_literals
not_good_8 = λ h. absurd (let p : [] ≡ (((codes "a") ∷ (codes "b") ∷ []) ∷ []) = (h.right 2 (omega arith)).0 in omega (arith, ap length p))

-- ---- x = [1]; y = [x]; z = [2] / y = 0

abbrev pub split_file : List ℕ
split_file = 75 ∷ 73 ∷ 83 ∷ 72 ∷ 85 ∷ 45 ∷ 74 ∷ 79 ∷ 85 ∷ 82 ∷ 78 ∷ 65 ∷ 76 ∷ 45 ∷ 49 ∷ 10 ∷ 165 ∷ 0 ∷ 0 ∷ 0 ∷ 0 ∷ 0 ∷ 0 ∷ 0 ∷ 172 ∷ 0 ∷ 0 ∷ 0 ∷ 77 ∷ 1 ∷ 0 ∷ 0 ∷ 0 ∷ 0 ∷ 1 ∷ 0 ∷ 0 ∷ 0 ∷ 1 ∷ 0 ∷ 0 ∷ 0 ∷ 25 ∷ 120 ∷ 32 ∷ 61 ∷ 32 ∷ 91 ∷ 49 ∷ 93 ∷ 59 ∷ 32 ∷ 121 ∷ 32 ∷ 61 ∷ 32 ∷ 91 ∷ 120 ∷ 93 ∷ 59 ∷ 32 ∷ 122 ∷ 32 ∷ 61 ∷ 32 ∷ 91 ∷ 50 ∷ 93 ∷ 0 ∷ 0 ∷ 0 ∷ 0 ∷ 0 ∷ 0 ∷ 0 ∷ 2 ∷ 0 ∷ 0 ∷ 0 ∷ 2 ∷ 1 ∷ 120 ∷ 1 ∷ 121 ∷ 0 ∷ 0 ∷ 0 ∷ 0 ∷ 0 ∷ 0 ∷ 0 ∷ 54 ∷ 0 ∷ 0 ∷ 0 ∷ 1 ∷ 1 ∷ 122 ∷ 0 ∷ 0 ∷ 0 ∷ 0 ∷ 0 ∷ 0 ∷ 0 ∷ 37 ∷ 0 ∷ 0 ∷ 0 ∷ 2 ∷ 1 ∷ 120 ∷ 8 ∷ 0 ∷ 0 ∷ 0 ∷ 0 ∷ 1 ∷ 121 ∷ 8 ∷ 0 ∷ 0 ∷ 0 ∷ 1 ∷ 0 ∷ 0 ∷ 0 ∷ 2 ∷ 1 ∷ 0 ∷ 0 ∷ 0 ∷ 1 ∷ 3 ∷ 0 ∷ 0 ∷ 0 ∷ 0 ∷ 0 ∷ 0 ∷ 0 ∷ 0 ∷ 0 ∷ 0 ∷ 0 ∷ 0 ∷ 0 ∷ 0 ∷ 0 ∷ 1 ∷ 1 ∷ 0 ∷ 0 ∷ 0 ∷ 1 ∷ 8 ∷ 0 ∷ 0 ∷ 0 ∷ 0 ∷ 0 ∷ 0 ∷ 0 ∷ 1 ∷ 1 ∷ 122 ∷ 8 ∷ 0 ∷ 0 ∷ 0 ∷ 0 ∷ 0 ∷ 0 ∷ 0 ∷ 1 ∷ 1 ∷ 0 ∷ 0 ∷ 0 ∷ 1 ∷ 3 ∷ 0 ∷ 0 ∷ 0 ∷ 0 ∷ 0 ∷ 0 ∷ 0 ∷ 0 ∷ 0 ∷ 0 ∷ 0 ∷ 0 ∷ 0 ∷ 0 ∷ 0 ∷ 2 ∷ 165 ∷ 0 ∷ 0 ∷ 0 ∷ 0 ∷ 0 ∷ 0 ∷ 0 ∷ 131 ∷ 0 ∷ 0 ∷ 0 ∷ 63 ∷ 1 ∷ 0 ∷ 0 ∷ 0 ∷ 1 ∷ 1 ∷ 0 ∷ 0 ∷ 0 ∷ 1 ∷ 0 ∷ 0 ∷ 0 ∷ 5 ∷ 121 ∷ 32 ∷ 61 ∷ 32 ∷ 48 ∷ 0 ∷ 0 ∷ 0 ∷ 1 ∷ 0 ∷ 0 ∷ 0 ∷ 2 ∷ 1 ∷ 120 ∷ 1 ∷ 121 ∷ 0 ∷ 0 ∷ 0 ∷ 2 ∷ 0 ∷ 0 ∷ 0 ∷ 1 ∷ 1 ∷ 120 ∷ 0 ∷ 0 ∷ 0 ∷ 0 ∷ 0 ∷ 0 ∷ 0 ∷ 37 ∷ 0 ∷ 0 ∷ 0 ∷ 1 ∷ 1 ∷ 121 ∷ 0 ∷ 0 ∷ 0 ∷ 0 ∷ 0 ∷ 0 ∷ 0 ∷ 27 ∷ 0 ∷ 0 ∷ 0 ∷ 1 ∷ 1 ∷ 120 ∷ 8 ∷ 0 ∷ 0 ∷ 0 ∷ 0 ∷ 0 ∷ 0 ∷ 0 ∷ 1 ∷ 1 ∷ 0 ∷ 0 ∷ 0 ∷ 1 ∷ 3 ∷ 0 ∷ 0 ∷ 0 ∷ 0 ∷ 0 ∷ 0 ∷ 0 ∷ 0 ∷ 0 ∷ 0 ∷ 0 ∷ 0 ∷ 0 ∷ 0 ∷ 0 ∷ 1 ∷ 0 ∷ 0 ∷ 0 ∷ 1 ∷ 1 ∷ 121 ∷ 3 ∷ 0 ∷ 0 ∷ 0 ∷ 0 ∷ 0 ∷ 0 ∷ 0 ∷ 0 ∷ 0 ∷ 0 ∷ 0 ∷ 0 ∷ 0 ∷ 0 ∷ 0 ∷ 0 ∷ 0 ∷ 0 ∷ 0 ∷ 0 ∷ 0 ∷ []

abbrev pub split_commits : List Commit
split_commits = (record { parent = 1; profile = One; cells = (codes "y = 0") ∷ [] }) ∷ (record { parent = 0; profile = One; cells = (codes "x = [1]; y = [x]; z = [2]") ∷ [] }) ∷ []

abbrev pub split_of : ℕ → Change
split_of = change_of ((record { dropped = (((codes "x") ∷ (codes "y") ∷ []) ∷ []); stored = ((record { group = ((codes "x") ∷ []); version = 2; place = 273; len = 37 }) ∷ (record { group = ((codes "y") ∷ []); version = 2; place = 310; len = 27 }) ∷ []) }) ∷ (record { dropped = []; stored = ((record { group = ((codes "x") ∷ (codes "y") ∷ []); version = 1; place = 106; len = 54 }) ∷ (record { group = ((codes "z") ∷ []); version = 1; place = 160; len = 37 }) ∷ []) }) ∷ [])

split_version1 : (r : Row) → In r (split_of 1).stored → r.version ≡ 1
split_version1 r (inl e) = ap (λ (q : Row). q.version) e
split_version1 r (inr (inl e)) = ap (λ (q : Row). q.version) e
split_version1 r (inr (inr m)) = absurd m

split_version2 : (r : Row) → In r (split_of 2).stored → r.version ≡ 2
split_version2 r (inl e) = ap (λ (q : Row). q.version) e
split_version2 r (inr (inl e)) = ap (λ (q : Row). q.version) e
split_version2 r (inr (inr m)) = absurd m

split_right : (c : ℕ) → c ≤ 2 → AreRight (stops_in split_commits c) (changes_in split_commits split_of c)
unfolding cells_on_literals
split_right zero l = tt
split_right (suc (zero)) l = (refl, refl, (λ r m. split_version1 r m), tt)
split_right (suc (suc (zero))) l = (refl, refl, (λ r m. split_version2 r m), (refl, refl, (λ r m. split_version1 r m), tt))
split_right (suc (suc (suc (c)))) l = absurd (omega (arith, l))

split_held : (c : ℕ) → c ≤ 2 → (r : Row) → In r (split_of c).stored → Held split_file r (picture (at_end (stops_in split_commits c)) r.group)
unfolding cells_on_literals
split_held zero l r m = absurd m
split_held (suc (zero)) l r (inl e) = subst (λ q. Held split_file q (picture (at_end (stops_in split_commits 1)) q.group)) (sym e) (record { bytes = refl; len = refl; fits = ((omega arith, (omega arith, (omega arith, tt))), (omega arith, ((omega arith, (record { sfits = omega arith }, tt)), ((omega arith, (omega arith, tt)), tt)))) })
split_held (suc (zero)) l r (inr (inl e)) = subst (λ q. Held split_file q (picture (at_end (stops_in split_commits 1)) q.group)) (sym e) (record { bytes = refl; len = refl; fits = ((omega arith, (omega arith, tt)), (omega arith, ((omega arith, (record { sfits = omega arith }, tt)), tt))) })
split_held (suc (zero)) l r (inr (inr m)) = absurd m
split_held (suc (suc (zero))) l r (inl e) = subst (λ q. Held split_file q (picture (at_end (stops_in split_commits 2)) q.group)) (sym e) (record { bytes = refl; len = refl; fits = ((omega arith, (omega arith, tt)), (omega arith, ((omega arith, (record { sfits = omega arith }, tt)), tt))) })
split_held (suc (suc (zero))) l r (inr (inl e)) = subst (λ q. Held split_file q (picture (at_end (stops_in split_commits 2)) q.group)) (sym e) (record { bytes = refl; len = refl; fits = ((omega arith, (record { sfits = omega arith }, tt)), (omega arith, tt)) })
split_held (suc (suc (zero))) l r (inr (inr m)) = absurd m
split_held (suc (suc (suc (c)))) l r m = absurd (omega (arith, l))

split_small : (c : ℕ) → c ≤ 2 → AllStaySmall (path_in split_commits c) empty
unfolding cells_on_literals
split_small zero l = tt
split_small (suc (zero)) l = ((omega arith, tt), tt)
split_small (suc (suc (zero))) l = ((omega arith, tt), ((omega arith, tt), tt))
split_small (suc (suc (suc (c)))) l = absurd (omega (arith, l))

pub good_3 : IsGoodStore split_file split_commits split_of
good_3 = record { right = split_right; pictures = split_held; small = split_small }

abbrev pub split_spoilt : List ℕ
split_spoilt = 75 ∷ 73 ∷ 83 ∷ 72 ∷ 85 ∷ 45 ∷ 74 ∷ 79 ∷ 85 ∷ 82 ∷ 78 ∷ 65 ∷ 76 ∷ 45 ∷ 49 ∷ 10 ∷ 165 ∷ 0 ∷ 0 ∷ 0 ∷ 0 ∷ 0 ∷ 0 ∷ 0 ∷ 172 ∷ 0 ∷ 0 ∷ 0 ∷ 77 ∷ 1 ∷ 0 ∷ 0 ∷ 0 ∷ 0 ∷ 1 ∷ 0 ∷ 0 ∷ 0 ∷ 1 ∷ 0 ∷ 0 ∷ 0 ∷ 25 ∷ 120 ∷ 32 ∷ 61 ∷ 32 ∷ 91 ∷ 49 ∷ 93 ∷ 59 ∷ 32 ∷ 121 ∷ 32 ∷ 61 ∷ 32 ∷ 91 ∷ 120 ∷ 93 ∷ 59 ∷ 32 ∷ 122 ∷ 32 ∷ 61 ∷ 32 ∷ 91 ∷ 50 ∷ 93 ∷ 0 ∷ 0 ∷ 0 ∷ 0 ∷ 0 ∷ 0 ∷ 0 ∷ 2 ∷ 0 ∷ 0 ∷ 0 ∷ 2 ∷ 1 ∷ 120 ∷ 1 ∷ 121 ∷ 0 ∷ 0 ∷ 0 ∷ 0 ∷ 0 ∷ 0 ∷ 0 ∷ 54 ∷ 0 ∷ 0 ∷ 0 ∷ 1 ∷ 1 ∷ 122 ∷ 0 ∷ 0 ∷ 0 ∷ 0 ∷ 0 ∷ 0 ∷ 0 ∷ 37 ∷ 0 ∷ 0 ∷ 0 ∷ 2 ∷ 1 ∷ 120 ∷ 8 ∷ 0 ∷ 0 ∷ 0 ∷ 0 ∷ 1 ∷ 121 ∷ 8 ∷ 0 ∷ 0 ∷ 0 ∷ 1 ∷ 0 ∷ 0 ∷ 0 ∷ 2 ∷ 1 ∷ 0 ∷ 0 ∷ 0 ∷ 1 ∷ 3 ∷ 0 ∷ 0 ∷ 0 ∷ 0 ∷ 0 ∷ 0 ∷ 0 ∷ 0 ∷ 0 ∷ 0 ∷ 0 ∷ 0 ∷ 0 ∷ 0 ∷ 0 ∷ 1 ∷ 1 ∷ 0 ∷ 0 ∷ 0 ∷ 1 ∷ 8 ∷ 0 ∷ 0 ∷ 0 ∷ 0 ∷ 0 ∷ 0 ∷ 0 ∷ 1 ∷ 1 ∷ 122 ∷ 8 ∷ 0 ∷ 0 ∷ 0 ∷ 0 ∷ 0 ∷ 0 ∷ 0 ∷ 1 ∷ 1 ∷ 0 ∷ 0 ∷ 0 ∷ 1 ∷ 3 ∷ 0 ∷ 0 ∷ 0 ∷ 0 ∷ 0 ∷ 0 ∷ 0 ∷ 0 ∷ 0 ∷ 0 ∷ 0 ∷ 0 ∷ 0 ∷ 0 ∷ 0 ∷ 2 ∷ 165 ∷ 0 ∷ 0 ∷ 0 ∷ 0 ∷ 0 ∷ 0 ∷ 0 ∷ 131 ∷ 0 ∷ 0 ∷ 0 ∷ 63 ∷ 1 ∷ 0 ∷ 0 ∷ 0 ∷ 1 ∷ 1 ∷ 0 ∷ 0 ∷ 0 ∷ 1 ∷ 0 ∷ 0 ∷ 0 ∷ 5 ∷ 121 ∷ 32 ∷ 61 ∷ 32 ∷ 48 ∷ 0 ∷ 0 ∷ 0 ∷ 1 ∷ 0 ∷ 0 ∷ 0 ∷ 2 ∷ 1 ∷ 120 ∷ 1 ∷ 121 ∷ 0 ∷ 0 ∷ 0 ∷ 2 ∷ 0 ∷ 0 ∷ 0 ∷ 1 ∷ 1 ∷ 120 ∷ 0 ∷ 0 ∷ 0 ∷ 0 ∷ 0 ∷ 0 ∷ 0 ∷ 37 ∷ 0 ∷ 0 ∷ 0 ∷ 1 ∷ 1 ∷ 121 ∷ 0 ∷ 0 ∷ 0 ∷ 0 ∷ 0 ∷ 0 ∷ 0 ∷ 27 ∷ 0 ∷ 0 ∷ 0 ∷ 1 ∷ 1 ∷ 120 ∷ 8 ∷ 0 ∷ 0 ∷ 0 ∷ 0 ∷ 0 ∷ 0 ∷ 0 ∷ 1 ∷ 1 ∷ 0 ∷ 0 ∷ 0 ∷ 1 ∷ 3 ∷ 0 ∷ 0 ∷ 0 ∷ 0 ∷ 0 ∷ 0 ∷ 0 ∷ 0 ∷ 0 ∷ 0 ∷ 0 ∷ 0 ∷ 0 ∷ 0 ∷ 0 ∷ 1 ∷ 0 ∷ 0 ∷ 0 ∷ 1 ∷ 1 ∷ 121 ∷ 3 ∷ 0 ∷ 0 ∷ 0 ∷ 0 ∷ 0 ∷ 0 ∷ 0 ∷ 0 ∷ 0 ∷ 0 ∷ 0 ∷ 0 ∷ 0 ∷ 0 ∷ 0 ∷ 0 ∷ 0 ∷ 0 ∷ 0 ∷ 3 ∷ 0 ∷ []

not_good_9 : IsGoodStore split_spoilt split_commits split_of → ⊥
unfolding cells_on_literals
not_good_9 = λ h. apart_bytes (bytes_at split_spoilt (record { group = ((codes "y") ∷ []); version = 2; place = 310; len = 27 })) (state_bytes (picture (at_end (stops_in split_commits 2)) ((codes "y") ∷ []))) refl (h.pictures 2 (omega arith) (record { group = ((codes "y") ∷ []); version = 2; place = 310; len = 27 }) (inr (inl refl))).bytes

not_good_10 : IsGoodStore split_file split_commits (change_of ((record { dropped = (((codes "x") ∷ (codes "y") ∷ []) ∷ []); stored = ((record { group = ((codes "x") ∷ []); version = 2; place = 273; len = 37 }) ∷ (record { group = ((codes "y") ∷ []); version = 3; place = 310; len = 27 }) ∷ []) }) ∷ (record { dropped = []; stored = ((record { group = ((codes "x") ∷ (codes "y") ∷ []); version = 1; place = 106; len = 54 }) ∷ (record { group = ((codes "z") ∷ []); version = 1; place = 160; len = 37 }) ∷ []) }) ∷ [])) → ⊥
unfolding cells_on_literals
not_good_10 = λ h. absurd (omega (arith, (h.right 2 (omega arith)).2 (record { group = ((codes "y") ∷ []); version = 3; place = 310; len = 27 }) (inr (inl refl))))

not_good_11 : IsGoodStore split_file split_commits (change_of ((record { dropped = (((codes "x") ∷ (codes "y") ∷ []) ∷ []); stored = ((record { group = ((codes "x") ∷ []); version = 2; place = 273; len = 37 }) ∷ []) }) ∷ (record { dropped = []; stored = ((record { group = ((codes "x") ∷ (codes "y") ∷ []); version = 1; place = 106; len = 54 }) ∷ (record { group = ((codes "z") ∷ []); version = 1; place = 160; len = 37 }) ∷ []) }) ∷ [])) → ⊥
unfolding cells_on_literals
not_good_11 = λ h. absurd (let p : (((codes "x") ∷ []) ∷ []) ≡ (((codes "x") ∷ []) ∷ ((codes "y") ∷ []) ∷ []) = (h.right 2 (omega arith)).1 in omega (arith, ap length p))

not_good_12 : IsGoodStore split_file split_commits (change_of ((record { dropped = []; stored = ((record { group = ((codes "x") ∷ []); version = 2; place = 273; len = 37 }) ∷ (record { group = ((codes "y") ∷ []); version = 2; place = 310; len = 27 }) ∷ []) }) ∷ (record { dropped = []; stored = ((record { group = ((codes "x") ∷ (codes "y") ∷ []); version = 1; place = 106; len = 54 }) ∷ (record { group = ((codes "z") ∷ []); version = 1; place = 160; len = 37 }) ∷ []) }) ∷ [])) → ⊥
unfolding cells_on_literals
not_good_12 = λ h. absurd (let p : [] ≡ (((codes "x") ∷ (codes "y") ∷ []) ∷ []) = (h.right 2 (omega arith)).0 in omega (arith, ap length p))

-- ---- a = [1]; b = 0 / b = [a] / del a

abbrev pub merged_file : List ℕ
merged_file = 75 ∷ 73 ∷ 83 ∷ 72 ∷ 85 ∷ 45 ∷ 74 ∷ 79 ∷ 85 ∷ 82 ∷ 78 ∷ 65 ∷ 76 ∷ 45 ∷ 49 ∷ 10 ∷ 165 ∷ 0 ∷ 0 ∷ 0 ∷ 0 ∷ 0 ∷ 0 ∷ 0 ∷ 132 ∷ 0 ∷ 0 ∷ 0 ∷ 64 ∷ 1 ∷ 0 ∷ 0 ∷ 0 ∷ 0 ∷ 1 ∷ 0 ∷ 0 ∷ 0 ∷ 1 ∷ 0 ∷ 0 ∷ 0 ∷ 14 ∷ 97 ∷ 32 ∷ 61 ∷ 32 ∷ 91 ∷ 49 ∷ 93 ∷ 59 ∷ 32 ∷ 98 ∷ 32 ∷ 61 ∷ 32 ∷ 48 ∷ 0 ∷ 0 ∷ 0 ∷ 0 ∷ 0 ∷ 0 ∷ 0 ∷ 2 ∷ 0 ∷ 0 ∷ 0 ∷ 1 ∷ 1 ∷ 97 ∷ 0 ∷ 0 ∷ 0 ∷ 0 ∷ 0 ∷ 0 ∷ 0 ∷ 37 ∷ 0 ∷ 0 ∷ 0 ∷ 1 ∷ 1 ∷ 98 ∷ 0 ∷ 0 ∷ 0 ∷ 0 ∷ 0 ∷ 0 ∷ 0 ∷ 27 ∷ 0 ∷ 0 ∷ 0 ∷ 1 ∷ 1 ∷ 97 ∷ 8 ∷ 0 ∷ 0 ∷ 0 ∷ 0 ∷ 0 ∷ 0 ∷ 0 ∷ 1 ∷ 1 ∷ 0 ∷ 0 ∷ 0 ∷ 1 ∷ 3 ∷ 0 ∷ 0 ∷ 0 ∷ 0 ∷ 0 ∷ 0 ∷ 0 ∷ 0 ∷ 0 ∷ 0 ∷ 0 ∷ 0 ∷ 0 ∷ 0 ∷ 0 ∷ 1 ∷ 0 ∷ 0 ∷ 0 ∷ 1 ∷ 1 ∷ 98 ∷ 3 ∷ 0 ∷ 0 ∷ 0 ∷ 0 ∷ 0 ∷ 0 ∷ 0 ∷ 0 ∷ 0 ∷ 0 ∷ 0 ∷ 0 ∷ 0 ∷ 0 ∷ 0 ∷ 0 ∷ 0 ∷ 0 ∷ 0 ∷ 0 ∷ 165 ∷ 0 ∷ 0 ∷ 0 ∷ 0 ∷ 0 ∷ 0 ∷ 0 ∷ 115 ∷ 0 ∷ 0 ∷ 0 ∷ 57 ∷ 1 ∷ 0 ∷ 0 ∷ 0 ∷ 1 ∷ 1 ∷ 0 ∷ 0 ∷ 0 ∷ 1 ∷ 0 ∷ 0 ∷ 0 ∷ 7 ∷ 98 ∷ 32 ∷ 61 ∷ 32 ∷ 91 ∷ 97 ∷ 93 ∷ 0 ∷ 0 ∷ 0 ∷ 2 ∷ 0 ∷ 0 ∷ 0 ∷ 1 ∷ 1 ∷ 97 ∷ 0 ∷ 0 ∷ 0 ∷ 1 ∷ 1 ∷ 98 ∷ 0 ∷ 0 ∷ 0 ∷ 1 ∷ 0 ∷ 0 ∷ 0 ∷ 2 ∷ 1 ∷ 97 ∷ 1 ∷ 98 ∷ 0 ∷ 0 ∷ 0 ∷ 0 ∷ 0 ∷ 0 ∷ 0 ∷ 54 ∷ 0 ∷ 0 ∷ 0 ∷ 2 ∷ 1 ∷ 97 ∷ 8 ∷ 0 ∷ 0 ∷ 0 ∷ 0 ∷ 1 ∷ 98 ∷ 8 ∷ 0 ∷ 0 ∷ 0 ∷ 1 ∷ 0 ∷ 0 ∷ 0 ∷ 2 ∷ 1 ∷ 0 ∷ 0 ∷ 0 ∷ 1 ∷ 3 ∷ 0 ∷ 0 ∷ 0 ∷ 0 ∷ 0 ∷ 0 ∷ 0 ∷ 0 ∷ 0 ∷ 0 ∷ 0 ∷ 0 ∷ 0 ∷ 0 ∷ 0 ∷ 1 ∷ 1 ∷ 0 ∷ 0 ∷ 0 ∷ 1 ∷ 8 ∷ 0 ∷ 0 ∷ 0 ∷ 0 ∷ 165 ∷ 0 ∷ 0 ∷ 0 ∷ 0 ∷ 0 ∷ 0 ∷ 0 ∷ 100 ∷ 0 ∷ 0 ∷ 0 ∷ 49 ∷ 1 ∷ 0 ∷ 0 ∷ 0 ∷ 2 ∷ 1 ∷ 0 ∷ 0 ∷ 0 ∷ 1 ∷ 0 ∷ 0 ∷ 0 ∷ 5 ∷ 100 ∷ 101 ∷ 108 ∷ 32 ∷ 97 ∷ 0 ∷ 0 ∷ 0 ∷ 1 ∷ 0 ∷ 0 ∷ 0 ∷ 2 ∷ 1 ∷ 97 ∷ 1 ∷ 98 ∷ 0 ∷ 0 ∷ 0 ∷ 1 ∷ 0 ∷ 0 ∷ 0 ∷ 1 ∷ 1 ∷ 98 ∷ 0 ∷ 0 ∷ 0 ∷ 0 ∷ 0 ∷ 0 ∷ 0 ∷ 47 ∷ 0 ∷ 0 ∷ 0 ∷ 1 ∷ 1 ∷ 98 ∷ 8 ∷ 0 ∷ 0 ∷ 0 ∷ 0 ∷ 0 ∷ 0 ∷ 0 ∷ 2 ∷ 1 ∷ 0 ∷ 0 ∷ 0 ∷ 1 ∷ 8 ∷ 0 ∷ 0 ∷ 0 ∷ 1 ∷ 1 ∷ 0 ∷ 0 ∷ 0 ∷ 1 ∷ 3 ∷ 0 ∷ 0 ∷ 0 ∷ 0 ∷ 0 ∷ 0 ∷ 0 ∷ 0 ∷ 0 ∷ 0 ∷ 0 ∷ 0 ∷ 0 ∷ 0 ∷ 0 ∷ 1 ∷ 0 ∷ []

abbrev pub merged_commits : List Commit
merged_commits = (record { parent = 2; profile = One; cells = (codes "del a") ∷ [] }) ∷ (record { parent = 1; profile = One; cells = (codes "b = [a]") ∷ [] }) ∷ (record { parent = 0; profile = One; cells = (codes "a = [1]; b = 0") ∷ [] }) ∷ []

abbrev pub merged_of : ℕ → Change
merged_of = change_of ((record { dropped = (((codes "a") ∷ (codes "b") ∷ []) ∷ []); stored = ((record { group = ((codes "b") ∷ []); version = 3; place = 343; len = 47 }) ∷ []) }) ∷ (record { dropped = (((codes "a") ∷ []) ∷ ((codes "b") ∷ []) ∷ []); stored = ((record { group = ((codes "a") ∷ (codes "b") ∷ []); version = 2; place = 227; len = 54 }) ∷ []) }) ∷ (record { dropped = []; stored = ((record { group = ((codes "a") ∷ []); version = 1; place = 93; len = 37 }) ∷ (record { group = ((codes "b") ∷ []); version = 1; place = 130; len = 27 }) ∷ []) }) ∷ [])

merged_version1 : (r : Row) → In r (merged_of 1).stored → r.version ≡ 1
merged_version1 r (inl e) = ap (λ (q : Row). q.version) e
merged_version1 r (inr (inl e)) = ap (λ (q : Row). q.version) e
merged_version1 r (inr (inr m)) = absurd m

merged_version2 : (r : Row) → In r (merged_of 2).stored → r.version ≡ 2
merged_version2 r (inl e) = ap (λ (q : Row). q.version) e
merged_version2 r (inr m) = absurd m

merged_version3 : (r : Row) → In r (merged_of 3).stored → r.version ≡ 3
merged_version3 r (inl e) = ap (λ (q : Row). q.version) e
merged_version3 r (inr m) = absurd m

merged_right : (c : ℕ) → c ≤ 3 → AreRight (stops_in merged_commits c) (changes_in merged_commits merged_of c)
unfolding cells_on_literals
merged_right zero l = tt
merged_right (suc (zero)) l = (refl, refl, (λ r m. merged_version1 r m), tt)
merged_right (suc (suc (zero))) l = (refl, refl, (λ r m. merged_version2 r m), (refl, refl, (λ r m. merged_version1 r m), tt))
merged_right (suc (suc (suc (zero)))) l = (refl, refl, (λ r m. merged_version3 r m), (refl, refl, (λ r m. merged_version2 r m), (refl, refl, (λ r m. merged_version1 r m), tt)))
merged_right (suc (suc (suc (suc (c))))) l = absurd (omega (arith, l))

merged_held : (c : ℕ) → c ≤ 3 → (r : Row) → In r (merged_of c).stored → Held merged_file r (picture (at_end (stops_in merged_commits c)) r.group)
unfolding cells_on_literals
merged_held zero l r m = absurd m
merged_held (suc (zero)) l r (inl e) = subst (λ q. Held merged_file q (picture (at_end (stops_in merged_commits 1)) q.group)) (sym e) (record { bytes = refl; len = refl; fits = ((omega arith, (omega arith, tt)), (omega arith, ((omega arith, (record { sfits = omega arith }, tt)), tt))) })
merged_held (suc (zero)) l r (inr (inl e)) = subst (λ q. Held merged_file q (picture (at_end (stops_in merged_commits 1)) q.group)) (sym e) (record { bytes = refl; len = refl; fits = ((omega arith, (record { sfits = omega arith }, tt)), (omega arith, tt)) })
merged_held (suc (zero)) l r (inr (inr m)) = absurd m
merged_held (suc (suc (zero))) l r (inl e) = subst (λ q. Held merged_file q (picture (at_end (stops_in merged_commits 2)) q.group)) (sym e) (record { bytes = refl; len = refl; fits = ((omega arith, (omega arith, (omega arith, tt))), (omega arith, ((omega arith, (record { sfits = omega arith }, tt)), ((omega arith, (omega arith, tt)), tt)))) })
merged_held (suc (suc (zero))) l r (inr m) = absurd m
merged_held (suc (suc (suc (zero)))) l r (inl e) = subst (λ q. Held merged_file q (picture (at_end (stops_in merged_commits 3)) q.group)) (sym e) (record { bytes = refl; len = refl; fits = ((omega arith, (omega arith, tt)), (omega arith, ((omega arith, (omega arith, tt)), ((omega arith, (record { sfits = omega arith }, tt)), tt)))) })
merged_held (suc (suc (suc (zero)))) l r (inr m) = absurd m
merged_held (suc (suc (suc (suc (c))))) l r m = absurd (omega (arith, l))

merged_small : (c : ℕ) → c ≤ 3 → AllStaySmall (path_in merged_commits c) empty
unfolding cells_on_literals
merged_small zero l = tt
merged_small (suc (zero)) l = ((omega arith, tt), tt)
merged_small (suc (suc (zero))) l = ((omega arith, tt), ((omega arith, tt), tt))
merged_small (suc (suc (suc (zero)))) l = ((omega arith, tt), ((omega arith, tt), ((omega arith, tt), tt)))
merged_small (suc (suc (suc (suc (c))))) l = absurd (omega (arith, l))

pub good_4 : IsGoodStore merged_file merged_commits merged_of
good_4 = record { right = merged_right; pictures = merged_held; small = merged_small }

abbrev pub merged_spoilt : List ℕ
merged_spoilt = 75 ∷ 73 ∷ 83 ∷ 72 ∷ 85 ∷ 45 ∷ 74 ∷ 79 ∷ 85 ∷ 82 ∷ 78 ∷ 65 ∷ 76 ∷ 45 ∷ 49 ∷ 10 ∷ 165 ∷ 0 ∷ 0 ∷ 0 ∷ 0 ∷ 0 ∷ 0 ∷ 0 ∷ 132 ∷ 0 ∷ 0 ∷ 0 ∷ 64 ∷ 1 ∷ 0 ∷ 0 ∷ 0 ∷ 0 ∷ 1 ∷ 0 ∷ 0 ∷ 0 ∷ 1 ∷ 0 ∷ 0 ∷ 0 ∷ 14 ∷ 97 ∷ 32 ∷ 61 ∷ 32 ∷ 91 ∷ 49 ∷ 93 ∷ 59 ∷ 32 ∷ 98 ∷ 32 ∷ 61 ∷ 32 ∷ 48 ∷ 0 ∷ 0 ∷ 0 ∷ 0 ∷ 0 ∷ 0 ∷ 0 ∷ 2 ∷ 0 ∷ 0 ∷ 0 ∷ 1 ∷ 1 ∷ 97 ∷ 0 ∷ 0 ∷ 0 ∷ 0 ∷ 0 ∷ 0 ∷ 0 ∷ 37 ∷ 0 ∷ 0 ∷ 0 ∷ 1 ∷ 1 ∷ 98 ∷ 0 ∷ 0 ∷ 0 ∷ 0 ∷ 0 ∷ 0 ∷ 0 ∷ 27 ∷ 0 ∷ 0 ∷ 0 ∷ 1 ∷ 1 ∷ 97 ∷ 8 ∷ 0 ∷ 0 ∷ 0 ∷ 0 ∷ 0 ∷ 0 ∷ 0 ∷ 1 ∷ 1 ∷ 0 ∷ 0 ∷ 0 ∷ 1 ∷ 3 ∷ 0 ∷ 0 ∷ 0 ∷ 0 ∷ 0 ∷ 0 ∷ 0 ∷ 0 ∷ 0 ∷ 0 ∷ 0 ∷ 0 ∷ 0 ∷ 0 ∷ 0 ∷ 1 ∷ 0 ∷ 0 ∷ 0 ∷ 1 ∷ 1 ∷ 98 ∷ 3 ∷ 0 ∷ 0 ∷ 0 ∷ 0 ∷ 0 ∷ 0 ∷ 0 ∷ 0 ∷ 0 ∷ 0 ∷ 0 ∷ 0 ∷ 0 ∷ 0 ∷ 0 ∷ 0 ∷ 0 ∷ 0 ∷ 0 ∷ 0 ∷ 165 ∷ 0 ∷ 0 ∷ 0 ∷ 0 ∷ 0 ∷ 0 ∷ 0 ∷ 115 ∷ 0 ∷ 0 ∷ 0 ∷ 57 ∷ 1 ∷ 0 ∷ 0 ∷ 0 ∷ 1 ∷ 1 ∷ 0 ∷ 0 ∷ 0 ∷ 1 ∷ 0 ∷ 0 ∷ 0 ∷ 7 ∷ 98 ∷ 32 ∷ 61 ∷ 32 ∷ 91 ∷ 97 ∷ 93 ∷ 0 ∷ 0 ∷ 0 ∷ 2 ∷ 0 ∷ 0 ∷ 0 ∷ 1 ∷ 1 ∷ 97 ∷ 0 ∷ 0 ∷ 0 ∷ 1 ∷ 1 ∷ 98 ∷ 0 ∷ 0 ∷ 0 ∷ 1 ∷ 0 ∷ 0 ∷ 0 ∷ 2 ∷ 1 ∷ 97 ∷ 1 ∷ 98 ∷ 0 ∷ 0 ∷ 0 ∷ 0 ∷ 0 ∷ 0 ∷ 0 ∷ 54 ∷ 0 ∷ 0 ∷ 0 ∷ 2 ∷ 1 ∷ 97 ∷ 8 ∷ 0 ∷ 0 ∷ 0 ∷ 0 ∷ 1 ∷ 98 ∷ 8 ∷ 0 ∷ 0 ∷ 0 ∷ 1 ∷ 0 ∷ 0 ∷ 0 ∷ 2 ∷ 1 ∷ 0 ∷ 0 ∷ 0 ∷ 1 ∷ 3 ∷ 0 ∷ 0 ∷ 0 ∷ 0 ∷ 0 ∷ 0 ∷ 0 ∷ 0 ∷ 0 ∷ 0 ∷ 0 ∷ 0 ∷ 0 ∷ 0 ∷ 0 ∷ 1 ∷ 1 ∷ 0 ∷ 0 ∷ 0 ∷ 1 ∷ 8 ∷ 0 ∷ 0 ∷ 0 ∷ 0 ∷ 165 ∷ 0 ∷ 0 ∷ 0 ∷ 0 ∷ 0 ∷ 0 ∷ 0 ∷ 100 ∷ 0 ∷ 0 ∷ 0 ∷ 49 ∷ 1 ∷ 0 ∷ 0 ∷ 0 ∷ 2 ∷ 1 ∷ 0 ∷ 0 ∷ 0 ∷ 1 ∷ 0 ∷ 0 ∷ 0 ∷ 5 ∷ 100 ∷ 101 ∷ 108 ∷ 32 ∷ 97 ∷ 0 ∷ 0 ∷ 0 ∷ 1 ∷ 0 ∷ 0 ∷ 0 ∷ 2 ∷ 1 ∷ 97 ∷ 1 ∷ 98 ∷ 0 ∷ 0 ∷ 0 ∷ 1 ∷ 0 ∷ 0 ∷ 0 ∷ 1 ∷ 1 ∷ 98 ∷ 0 ∷ 0 ∷ 0 ∷ 0 ∷ 0 ∷ 0 ∷ 0 ∷ 47 ∷ 0 ∷ 0 ∷ 0 ∷ 1 ∷ 1 ∷ 98 ∷ 8 ∷ 0 ∷ 0 ∷ 0 ∷ 0 ∷ 0 ∷ 0 ∷ 0 ∷ 2 ∷ 1 ∷ 0 ∷ 0 ∷ 0 ∷ 1 ∷ 8 ∷ 0 ∷ 0 ∷ 0 ∷ 1 ∷ 1 ∷ 0 ∷ 0 ∷ 0 ∷ 1 ∷ 3 ∷ 0 ∷ 0 ∷ 0 ∷ 0 ∷ 0 ∷ 0 ∷ 0 ∷ 0 ∷ 0 ∷ 0 ∷ 0 ∷ 0 ∷ 0 ∷ 0 ∷ 0 ∷ 2 ∷ 0 ∷ []

not_good_13 : IsGoodStore merged_spoilt merged_commits merged_of → ⊥
unfolding cells_on_literals
not_good_13 = λ h. apart_bytes (bytes_at merged_spoilt (record { group = ((codes "b") ∷ []); version = 3; place = 343; len = 47 })) (state_bytes (picture (at_end (stops_in merged_commits 3)) ((codes "b") ∷ []))) refl (h.pictures 3 (omega arith) (record { group = ((codes "b") ∷ []); version = 3; place = 343; len = 47 }) (inl refl)).bytes

not_good_14 : IsGoodStore merged_file merged_commits (change_of ((record { dropped = (((codes "a") ∷ (codes "b") ∷ []) ∷ []); stored = ((record { group = ((codes "b") ∷ []); version = 4; place = 343; len = 47 }) ∷ []) }) ∷ (record { dropped = (((codes "a") ∷ []) ∷ ((codes "b") ∷ []) ∷ []); stored = ((record { group = ((codes "a") ∷ (codes "b") ∷ []); version = 2; place = 227; len = 54 }) ∷ []) }) ∷ (record { dropped = []; stored = ((record { group = ((codes "a") ∷ []); version = 1; place = 93; len = 37 }) ∷ (record { group = ((codes "b") ∷ []); version = 1; place = 130; len = 27 }) ∷ []) }) ∷ [])) → ⊥
unfolding cells_on_literals
not_good_14 = λ h. absurd (omega (arith, (h.right 3 (omega arith)).2 (record { group = ((codes "b") ∷ []); version = 4; place = 343; len = 47 }) (inl refl)))

not_good_15 : IsGoodStore merged_file merged_commits (change_of ((record { dropped = (((codes "a") ∷ (codes "b") ∷ []) ∷ []); stored = [] }) ∷ (record { dropped = (((codes "a") ∷ []) ∷ ((codes "b") ∷ []) ∷ []); stored = ((record { group = ((codes "a") ∷ (codes "b") ∷ []); version = 2; place = 227; len = 54 }) ∷ []) }) ∷ (record { dropped = []; stored = ((record { group = ((codes "a") ∷ []); version = 1; place = 93; len = 37 }) ∷ (record { group = ((codes "b") ∷ []); version = 1; place = 130; len = 27 }) ∷ []) }) ∷ [])) → ⊥
unfolding cells_on_literals
not_good_15 = λ h. absurd (let p : [] ≡ (((codes "b") ∷ []) ∷ []) = (h.right 3 (omega arith)).1 in omega (arith, ap length p))

not_good_16 : IsGoodStore merged_file merged_commits (change_of ((record { dropped = []; stored = ((record { group = ((codes "b") ∷ []); version = 3; place = 343; len = 47 }) ∷ []) }) ∷ (record { dropped = (((codes "a") ∷ []) ∷ ((codes "b") ∷ []) ∷ []); stored = ((record { group = ((codes "a") ∷ (codes "b") ∷ []); version = 2; place = 227; len = 54 }) ∷ []) }) ∷ (record { dropped = []; stored = ((record { group = ((codes "a") ∷ []); version = 1; place = 93; len = 37 }) ∷ (record { group = ((codes "b") ∷ []); version = 1; place = 130; len = 27 }) ∷ []) }) ∷ [])) → ⊥
unfolding cells_on_literals
not_good_16 = λ h. absurd (let p : [] ≡ (((codes "a") ∷ (codes "b") ∷ []) ∷ []) = (h.right 3 (omega arith)).0 in omega (arith, ap length p))

-- ---- a = [1] / a[0] = 1

abbrev pub rebound_file : List ℕ
rebound_file = 75 ∷ 73 ∷ 83 ∷ 72 ∷ 85 ∷ 45 ∷ 74 ∷ 79 ∷ 85 ∷ 82 ∷ 78 ∷ 65 ∷ 76 ∷ 45 ∷ 49 ∷ 10 ∷ 165 ∷ 0 ∷ 0 ∷ 0 ∷ 0 ∷ 0 ∷ 0 ∷ 0 ∷ 84 ∷ 0 ∷ 0 ∷ 0 ∷ 43 ∷ 1 ∷ 0 ∷ 0 ∷ 0 ∷ 0 ∷ 1 ∷ 0 ∷ 0 ∷ 0 ∷ 1 ∷ 0 ∷ 0 ∷ 0 ∷ 7 ∷ 97 ∷ 32 ∷ 61 ∷ 32 ∷ 91 ∷ 49 ∷ 93 ∷ 0 ∷ 0 ∷ 0 ∷ 0 ∷ 0 ∷ 0 ∷ 0 ∷ 1 ∷ 0 ∷ 0 ∷ 0 ∷ 1 ∷ 1 ∷ 97 ∷ 0 ∷ 0 ∷ 0 ∷ 0 ∷ 0 ∷ 0 ∷ 0 ∷ 37 ∷ 0 ∷ 0 ∷ 0 ∷ 1 ∷ 1 ∷ 97 ∷ 8 ∷ 0 ∷ 0 ∷ 0 ∷ 0 ∷ 0 ∷ 0 ∷ 0 ∷ 1 ∷ 1 ∷ 0 ∷ 0 ∷ 0 ∷ 1 ∷ 3 ∷ 0 ∷ 0 ∷ 0 ∷ 0 ∷ 0 ∷ 0 ∷ 0 ∷ 0 ∷ 0 ∷ 0 ∷ 0 ∷ 0 ∷ 0 ∷ 0 ∷ 0 ∷ 1 ∷ 165 ∷ 0 ∷ 0 ∷ 0 ∷ 0 ∷ 0 ∷ 0 ∷ 0 ∷ 34 ∷ 0 ∷ 0 ∷ 0 ∷ 30 ∷ 1 ∷ 0 ∷ 0 ∷ 0 ∷ 1 ∷ 1 ∷ 0 ∷ 0 ∷ 0 ∷ 1 ∷ 0 ∷ 0 ∷ 0 ∷ 8 ∷ 97 ∷ 91 ∷ 48 ∷ 93 ∷ 32 ∷ 61 ∷ 32 ∷ 49 ∷ 0 ∷ 0 ∷ 0 ∷ 0 ∷ 0 ∷ 0 ∷ 0 ∷ 0 ∷ 0 ∷ []

abbrev pub rebound_commits : List Commit
rebound_commits = (record { parent = 1; profile = One; cells = (codes "a[0] = 1") ∷ [] }) ∷ (record { parent = 0; profile = One; cells = (codes "a = [1]") ∷ [] }) ∷ []

abbrev pub rebound_of : ℕ → Change
rebound_of = change_of ((record { dropped = []; stored = [] }) ∷ (record { dropped = []; stored = ((record { group = ((codes "a") ∷ []); version = 1; place = 72; len = 37 }) ∷ []) }) ∷ [])

rebound_version1 : (r : Row) → In r (rebound_of 1).stored → r.version ≡ 1
rebound_version1 r (inl e) = ap (λ (q : Row). q.version) e
rebound_version1 r (inr m) = absurd m

rebound_right : (c : ℕ) → c ≤ 2 → AreRight (stops_in rebound_commits c) (changes_in rebound_commits rebound_of c)
unfolding cells_on_literals
rebound_right zero l = tt
rebound_right (suc (zero)) l = (refl, refl, (λ r m. rebound_version1 r m), tt)
rebound_right (suc (suc (zero))) l = (refl, refl, (λ r m. absurd m), (refl, refl, (λ r m. rebound_version1 r m), tt))
rebound_right (suc (suc (suc (c)))) l = absurd (omega (arith, l))

rebound_held : (c : ℕ) → c ≤ 2 → (r : Row) → In r (rebound_of c).stored → Held rebound_file r (picture (at_end (stops_in rebound_commits c)) r.group)
unfolding cells_on_literals
rebound_held zero l r m = absurd m
rebound_held (suc (zero)) l r (inl e) = subst (λ q. Held rebound_file q (picture (at_end (stops_in rebound_commits 1)) q.group)) (sym e) (record { bytes = refl; len = refl; fits = ((omega arith, (omega arith, tt)), (omega arith, ((omega arith, (record { sfits = omega arith }, tt)), tt))) })
rebound_held (suc (zero)) l r (inr m) = absurd m
rebound_held (suc (suc (zero))) l r m = absurd m
rebound_held (suc (suc (suc (c)))) l r m = absurd (omega (arith, l))

rebound_small : (c : ℕ) → c ≤ 2 → AllStaySmall (path_in rebound_commits c) empty
unfolding cells_on_literals
rebound_small zero l = tt
rebound_small (suc (zero)) l = ((omega arith, tt), tt)
rebound_small (suc (suc (zero))) l = ((omega arith, tt), ((omega arith, tt), tt))
rebound_small (suc (suc (suc (c)))) l = absurd (omega (arith, l))

pub good_5 : IsGoodStore rebound_file rebound_commits rebound_of
good_5 = record { right = rebound_right; pictures = rebound_held; small = rebound_small }

not_good_17 : IsGoodStore rebound_file rebound_commits (change_of ((record { dropped = (((codes "q") ∷ []) ∷ []); stored = [] }) ∷ (record { dropped = []; stored = ((record { group = ((codes "a") ∷ []); version = 1; place = 72; len = 37 }) ∷ []) }) ∷ [])) → ⊥
unfolding cells_on_literals
not_good_17 = λ h. absurd (let p : (((codes "q") ∷ []) ∷ []) ≡ [] = (h.right 2 (omega arith)).0 in omega (arith, ap length p))

-- ---- 1

abbrev pub none_file : List ℕ
none_file = 75 ∷ 73 ∷ 83 ∷ 72 ∷ 85 ∷ 45 ∷ 74 ∷ 79 ∷ 85 ∷ 82 ∷ 78 ∷ 65 ∷ 76 ∷ 45 ∷ 49 ∷ 10 ∷ 165 ∷ 0 ∷ 0 ∷ 0 ∷ 0 ∷ 0 ∷ 0 ∷ 0 ∷ 27 ∷ 0 ∷ 0 ∷ 0 ∷ 23 ∷ 1 ∷ 0 ∷ 0 ∷ 0 ∷ 0 ∷ 1 ∷ 0 ∷ 0 ∷ 0 ∷ 1 ∷ 0 ∷ 0 ∷ 0 ∷ 1 ∷ 49 ∷ 0 ∷ 0 ∷ 0 ∷ 0 ∷ 0 ∷ 0 ∷ 0 ∷ 0 ∷ 0 ∷ []

abbrev pub none_commits : List Commit
none_commits = (record { parent = 0; profile = One; cells = (codes "1") ∷ [] }) ∷ []

abbrev pub none_of : ℕ → Change
none_of = change_of ((record { dropped = []; stored = [] }) ∷ [])

none_right : (c : ℕ) → c ≤ 1 → AreRight (stops_in none_commits c) (changes_in none_commits none_of c)
unfolding cells_on_literals
none_right zero l = tt
none_right (suc (zero)) l = (refl, refl, (λ r m. absurd m), tt)
none_right (suc (suc (c))) l = absurd (omega (arith, l))

none_held : (c : ℕ) → c ≤ 1 → (r : Row) → In r (none_of c).stored → Held none_file r (picture (at_end (stops_in none_commits c)) r.group)
unfolding cells_on_literals
none_held zero l r m = absurd m
none_held (suc (zero)) l r m = absurd m
none_held (suc (suc (c))) l r m = absurd (omega (arith, l))

none_small : (c : ℕ) → c ≤ 1 → AllStaySmall (path_in none_commits c) empty
unfolding cells_on_literals
none_small zero l = tt
none_small (suc (zero)) l = ((omega arith, tt), tt)
none_small (suc (suc (c))) l = absurd (omega (arith, l))

pub good_6 : IsGoodStore none_file none_commits none_of
good_6 = record { right = none_right; pictures = none_held; small = none_small }

not_good_18 : IsGoodStore none_file none_commits (change_of ((record { dropped = (((codes "q") ∷ []) ∷ []); stored = [] }) ∷ [])) → ⊥
unfolding cells_on_literals
not_good_18 = λ h. absurd (let p : (((codes "q") ∷ []) ∷ []) ≡ [] = (h.right 1 (omega arith)).0 in omega (arith, ap length p))

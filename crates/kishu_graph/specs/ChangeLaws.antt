-- Changes of commits: what is said of all says the same of the older ones, and of all where the newest changes nothing.
use Rattle.std.proofs.Common.{◌≡◌, ◌<◌, ◌≤◌, ℕ, suc, List, [], ◌∷◌, ◌++◌, length, map, refl, sym, ap, subst, ◌∙◌, ⊎_elim, arith, length-append}
use Rattle.std.proofs.lemmas.List.{map_push}
use Rattle.std.proofs.lemmas.Bool.{cases_lt}
use Rattle.std.proofs.lemmas.Bool.Decides.{eqb_tells}
use Rattle.std.specs.List.Sorted.{IsStrictlySortedBy}
use Rattle.std.specs.Prelude.{◌==◌, if◌then◌else◌}
use Rattle.kishu_store.specs.Graph.{Commit, Graph}
use Rattle.kishu_store.specs.Tables.{Change, no_change, table_of, changes_in, table_in, change_of, IsKeptTable}
use Rattle.kishu_store_laws.specs.HistoryLaws.{IsChange, AreChanges, changes-older}
use Rattle.kishu_store_laws.specs.TableLaws.{no-rows, AreFit, bare-after, bare-fits}
use Rattle.kishu_graph.specs.Kept.{Outline, outline_of, outlines, noted_of, noted_in}

-- ---- the last of two lists

pub same-last : {A : Type 0} (xs ys : List A) (x y : A) → xs ++ (x ∷ []) ≡ ys ++ (y ∷ []) → (xs ≡ ys) × (x ≡ y)
same-last [] [] x y e = (refl, cc (e))
same-last [] (b ∷ ys) x y e = absurd (let n = ap length e in omega (arith, n, length-append ys (y ∷ [])))
same-last (a ∷ xs) [] x y e = absurd (let n = ap length e in omega (arith, n, length-append xs (x ∷ [])))
same-last (a ∷ xs) (b ∷ ys) x y e =
    let first : a ≡ b = cc (e) in
    let rest = same-last xs ys x y (cc (e)) in
    (ap (λ l. a ∷ l) rest.0 ∙ ap (λ z. z ∷ ys) first, rest.1)

pub older-field : {B : Type 0} (f : Outline → B) (os : List Outline) (k : Outline) (j : Commit) (ks : List Commit) → map f (os ++ (k ∷ [])) ≡ map f (outlines (j ∷ ks)) → (map f os ≡ map f (outlines ks)) × (f k ≡ f (outline_of j))
older-field f os k j ks e = same-last (map f os) (map f (outlines ks)) (f k) (f (outline_of j)) (sym (map_push f os k) ∙ e ∙ map_push f (outlines ks) (outline_of j))

pub length-noted : (cs : List Change) → length (noted_in cs) ≡ suc (length cs)
length-noted [] = refl
length-noted (c ∷ cs) = omega (arith, length-append (noted_in cs) (noted_of c ∷ []), length-noted cs)

-- ---- by their numbers

other : {A : Type 0} (c n : ℕ) (x y : A) → (c ≡ n → ⊥) → (if c == n then x else y) ≡ y
other c n x y d = ⊎_elim (λ p. absurd (d p.1)) (λ p. rw p.0 refl) (eqb_tells c n)

that : {A : Type 0} (c n : ℕ) (x y : A) → c ≡ n → (if c == n then x else y) ≡ x
that c n x y e = ⊎_elim (λ p. rw p.0 refl) (λ p. absurd (p.1 e)) (eqb_tells c n)

nothing-changes : (number most : ℕ) → IsChange number most no_change
unfolding IsStrictlySortedBy
nothing-changes number most = record { version = tt; rise = tt; groups = tt; inside = tt }

-- the root changes nothing
pub change-root : (ds : List Change) → change_of ds 0 ≡ no_change
change-root [] = refl
change-root (d ∷ ds) = other 0 (suc (length ds)) d (change_of ds 0) (λ e. omega (arith, e)) ∙ change-root ds

-- there are none past the newest commit
past_change : (ds : List Change) (c : ℕ) → length ds < c → change_of ds c ≡ no_change
past_change [] c l = refl
past_change (d ∷ ds) c l = other c (suc (length ds)) d (change_of ds c) (λ e. omega (arith, l, e)) ∙ past_change ds c (omega (arith, l))

past_path : (ks : List Commit) (of : ℕ → Change) (c : ℕ) → length ks < c → changes_in ks of c ≡ []
past_path [] of c l = refl
past_path (k ∷ ks) of c l = other c (suc (length ks)) (of c ∷ changes_in ks of k.parent) (changes_in ks of c) (λ e. omega (arith, l, e)) ∙ past_path ks of c (omega (arith, l))

module _ (j : Commit) (ks : List Commit) (d : Change) (ds : List Change) (counted : length ds ≡ length ks) where
  pub changes-before : (c : ℕ) → c < suc (length ks) → changes_in (j ∷ ks) (change_of (d ∷ ds)) c ≡ changes_in ks (change_of ds) c
  changes-before c l =
      let of = change_of (d ∷ ds) in
      other c (suc (length ks)) (of c ∷ changes_in ks of j.parent) (changes_in ks of c) (λ e. omega (arith, l, e))
      ∙ changes-older ks (change_of ds) (suc (length ds)) d (omega (arith, counted)) c

  pub changes-last : (c : ℕ) → c ≡ suc (length ks) → changes_in (j ∷ ks) (change_of (d ∷ ds)) c ≡ d ∷ changes_in ks (change_of ds) j.parent
  changes-last c e =
      let of = change_of (d ∷ ds) in
      that c (suc (length ks)) (of c ∷ changes_in ks of j.parent) (changes_in ks of c) e
      ∙ ap (λ (x : Change). x ∷ changes_in ks of j.parent) (that c (suc (length ds)) d (change_of ds c) (omega (arith, e, counted)))
      ∙ ap (λ (xs : List Change). d ∷ xs) (changes-older ks (change_of ds) (suc (length ds)) d (omega (arith, counted)) j.parent)

  changes_past : (c : ℕ) → suc (length ks) < c → changes_in (j ∷ ks) (change_of (d ∷ ds)) c ≡ []
  changes_past c l = past_path (j ∷ ks) (change_of (d ∷ ds)) c l

-- ---- where the commits are the same

pub same-commits : (g h : Graph) (cs : List Change) (place : ℕ) → h.commits ≡ g.commits → AreChanges g cs place → AreChanges h cs place
same-commits g h cs place same k = record {
  counted = k.counted ∙ sym (ap length same);
  each = k.each;
  fit = λ c. subst (λ (ks : List Commit). AreFit (changes_in ks (change_of cs) c)) (sym same) (k.fit c);
  tables = λ c. subst (λ (ks : List Commit). IsKeptTable (table_in ks (change_of cs) c)) (sym same) (k.tables c);
}

-- these commits, in a graph
abbrev with_commits : List Commit → Graph → Graph
with_commits ks g = record { commits = ks; branches = g.branches; head = g.head; records = g.records }

module _ (g : Graph) (j : Commit) (ks : List Commit) (d : Change) (ds : List Change) (place : ℕ) (k : AreChanges (with_commits (j ∷ ks) g) (d ∷ ds) place) where
  counted : length ds ≡ length ks
  counted = (let n = k.counted in omega (arith, n))

  each_before : (c : ℕ) → IsChange c place (change_of ds c)
  each_before c = ⊎_elim
      (λ p. subst (λ (x : Change). IsChange c place x) (sym (past_change ds c (let n = p.1 in omega (arith, n)))) (nothing-changes c place))
      (λ p. subst (λ (x : Change). IsChange c place x) (other c (suc (length ds)) d (change_of ds c) p.1) (k.each c))
      (eqb_tells c (suc (length ds)))

  -- whatever holds of no changes, and of those on each path, holds of those on each path of the older commits
  paths_before : (P : List Change → Type 0) → P [] → ((c : ℕ) → P (changes_in (j ∷ ks) (change_of (d ∷ ds)) c)) → (c : ℕ) → P (changes_in ks (change_of ds) c)
  paths_before P none all c = ⊎_elim
      (λ (l : c < suc (length ks)). subst P (changes-before j ks d ds counted c l) (all c))
      (λ (l : suc (length ks) ≤ c). subst P (sym (past_path ks (change_of ds) c l)) none)
      (cases_lt c (suc (length ks)))

  before : AreChanges (with_commits ks g) ds place
  before = record { counted = counted; each = each_before; fit = paths_before AreFit tt k.fit; tables = paths_before (λ cs. IsKeptTable (table_of cs)) no-rows k.tables }

  -- whatever holds of those on each path where the newest changes nothing
  paths_bare : (P : List Change → Type 0) → P [] → ((cs : List Change) → IsKeptTable (table_of cs) → P cs → P (no_change ∷ cs)) → ((c : ℕ) → P (changes_in (j ∷ ks) (change_of (d ∷ ds)) c)) → (c : ℕ) → P (changes_in (j ∷ ks) (change_of (no_change ∷ ds)) c)
  paths_bare P none bare all c = ⊎_elim
      (λ (l : c < suc (length ks)). subst P (changes-before j ks d ds counted c l ∙ sym (changes-before j ks no_change ds counted c l)) (all c))
      (λ (l : suc (length ks) ≤ c). ⊎_elim
      (λ p. subst P (sym (changes-last j ks no_change ds counted c p.1)) (bare (changes_in ks (change_of ds) j.parent) (before.tables j.parent) (paths_before P none all j.parent)))
      (λ p. (let far : suc (length ks) < c = omega (arith, l, p.1) in subst P (sym (changes_past j ks no_change ds counted c far)) none))
      (eqb_tells c (suc (length ks))))
      (cases_lt c (suc (length ks)))

  each_bare : (c : ℕ) → IsChange c place (change_of (no_change ∷ ds) c)
  each_bare c = ⊎_elim
      (λ p. subst (λ (x : Change). IsChange c place x) (sym (that c (suc (length ds)) no_change (change_of ds c) p.1)) (nothing-changes c place))
      (λ p. subst (λ (x : Change). IsChange c place x) (sym (other c (suc (length ds)) no_change (change_of ds c) p.1)) (each_before c))
      (eqb_tells c (suc (length ds)))

  bare : AreChanges (with_commits (j ∷ ks) g) (no_change ∷ ds) place
  bare = record {
    counted = k.counted;
    each = each_bare;
    fit = paths_bare AreFit tt (λ cs t fit. (bare-fits (table_of cs) t, fit)) k.fit;
    tables = paths_bare (λ cs. IsKeptTable (table_of cs)) no-rows (λ cs t kept. subst IsKeptTable (sym (bare-after (table_of cs))) t) k.tables;
  }

-- The older changes are those of the older commits.
pub older-changes : (g h : Graph) (j : Commit) (ks : List Commit) (d : Change) (ds : List Change) (place : ℕ) → g.commits ≡ j ∷ ks → h.commits ≡ ks → AreChanges g (d ∷ ds) place → AreChanges h ds place
older-changes g h j ks d ds place e f k = same-commits (with_commits ks g) h ds place f (before g j ks d ds place (same-commits g (with_commits (j ∷ ks) g) (d ∷ ds) place (sym e) k))

-- So are those of all where the newest changes nothing.
pub bare-changes : (g : Graph) (j : Commit) (ks : List Commit) (d : Change) (ds : List Change) (place : ℕ) → g.commits ≡ j ∷ ks → AreChanges g (d ∷ ds) place → AreChanges g (no_change ∷ ds) place
bare-changes g j ks d ds place e k = same-commits (with_commits (j ∷ ks) g) g (no_change ∷ ds) place e (bare g j ks d ds place (same-commits g (with_commits (j ∷ ks) g) (d ∷ ds) place (sym e) k))

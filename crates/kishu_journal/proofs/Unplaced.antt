-- Where pictures lie doesn't matter for what fits: tables and changes with and without the places of their rows.
use Rattle.std.proofs.Common.{◌≡◌, ◌≤◌, inl, inr, ℕ, suc, ◌+◌, true, false, List, [], ◌∷◌, ◌++◌, length, map, refl, sym, ◌∙◌, ap, subst, arith, Ordering}
use Rattle.std.specs.Prelude.{◌==◌, IsTrue}
use Rattle.std.specs.Cmp.Lexicographic.{slice_cmp}
use Rattle.std.specs.List.{AllByRecursion, list_all, sum_by}
use Rattle.std.specs.Ordering.{match_ordering, nat_cmp}
use Rattle.std.specs.declared.cmp.Ordering.TheVariants.{Less, Equal, Greater}
use Rattle.std.proofs.lemmas.Bool.{cases_Bool}
use Rattle.std.proofs.lemmas.Bool.Decides.{eqb_tells}
use Rattle.std.proofs.lemmas.List.{length-map}
use Rattle.std.proofs.lemmas.List.Sums.{sum_by-cons}
use Rattle.kishu_store.specs.Graph.{Commit, Graph}
use Rattle.kishu_store.specs.Groups.{Group, IsGroup, Rise, first_name, is_one_of}
use Rattle.kishu_store.specs.Tables.{Change, FitsTable, IsKeptTable, Row, Table, after, are_apart, bytes_in, change_of, changes_in, first_in, groups_in, len_in, names_in, put_row, put_rows, rows_from, table_in, table_of, without_groups}
use Rattle.kishu_store_laws.specs.HistoryLaws.{AreChanges, IsChange}
use Rattle.kishu_store_laws.specs.TableLaws.{AreFit}

abbrev pub unplaced : Row → Row
unplaced r = record { group = r.group; version = r.version; place = 0; len = r.len }

abbrev pub bare_rows : Table → Table
bare_rows = map unplaced

abbrev pub bare_change : Change → Change
bare_change c = record { dropped = c.dropped; stored = bare_rows c.stored }

abbrev pub bare_changes : List Change → List Change
bare_changes = map bare_change

-- ---- what is the same with and without

pub bare-groups : (t : Table) → groups_in (bare_rows t) ≡ groups_in t
bare-groups [] = refl
bare-groups (r ∷ t) = ap (λ (l : List Group). r.group ∷ l) (bare-groups t)

pub bare-names : (t : Table) → names_in (bare_rows t) ≡ names_in t
bare-names [] = refl
bare-names (r ∷ t) = ap (λ (l : List (List ℕ)). r.group ++ l) (bare-names t)

pub bare-firsts : (t : Table) → map first_in (bare_rows t) ≡ map first_in t
bare-firsts [] = refl
bare-firsts (r ∷ t) = ap (λ (l : List (List ℕ)). first_name r.group ∷ l) (bare-firsts t)

pub bare-bytes : (t : Table) → bytes_in (bare_rows t) ≡ bytes_in t
bare-bytes [] = refl
bare-bytes (r ∷ t) =
    let one : bytes_in (bare_rows (r ∷ t)) ≡ r.len + bytes_in (bare_rows t) = sum_by-cons len_in (unplaced r) (bare_rows t) in
    let all : bytes_in (r ∷ t) ≡ r.len + bytes_in t = sum_by-cons len_in r t in
    omega (arith, one, all, bare-bytes t)

bare_by : (o : Ordering) (r q : Row) (t more : Table) → bare_rows (match_ordering o (r ∷ q ∷ t) (r ∷ q ∷ t) (q ∷ more)) ≡ match_ordering o (unplaced r ∷ unplaced q ∷ bare_rows t) (unplaced r ∷ unplaced q ∷ bare_rows t) (unplaced q ∷ bare_rows more)
bare_by Less r q t more = refl
bare_by Equal r q t more = refl
bare_by Greater r q t more = refl

bare-put : (r : Row) (t : Table) → bare_rows (put_row r t) ≡ put_row (unplaced r) (bare_rows t)
bare-put r [] = refl
bare-put r (q ∷ t) =
    let o = slice_cmp nat_cmp (first_name r.group) (first_name q.group) in
    bare_by o r q t (put_row r t)
    ∙ ap (λ (l : Table). match_ordering o (unplaced r ∷ unplaced q ∷ bare_rows t) (unplaced r ∷ unplaced q ∷ bare_rows t) (unplaced q ∷ l)) (bare-put r t)

bare-puts : (rs t : Table) → bare_rows (put_rows rs t) ≡ put_rows (bare_rows rs) (bare_rows t)
bare-puts [] t = refl
bare-puts (r ∷ rs) t = bare-put r (put_rows rs t) ∙ ap (λ (l : Table). put_row (unplaced r) l) (bare-puts rs t)

bare-without : (gs : List Group) (t : Table) → bare_rows (without_groups gs t) ≡ without_groups gs (bare_rows t)
bare-without gs [] = refl
bare-without gs (r ∷ t) = elim (cases_Bool (is_one_of r.group gs)) [
  | inl e ↦ rw e (bare-without gs t)
  | inr e ↦ rw e (ap (λ (l : Table). unplaced r ∷ l) (bare-without gs t))
]

pub bare-after : (c : Change) (t : Table) → bare_rows (after c t) ≡ after (bare_change c) (bare_rows t)
bare-after c t = bare-puts c.stored (without_groups c.dropped t) ∙ ap (λ (l : Table). put_rows (bare_rows c.stored) l) (bare-without c.dropped t)

pub bare-table : (cs : List Change) → bare_rows (table_of cs) ≡ table_of (bare_changes cs)
bare-table [] = refl
bare-table (c ∷ cs) = bare-after c (table_of cs) ∙ ap (λ (l : Table). after (bare_change c) l) (bare-table cs)

-- ---- changes by their numbers

pub bare-of : (cs : List Change) (c : ℕ) → change_of (bare_changes cs) c ≡ bare_change (change_of cs c)
bare-of [] c = refl
bare-of (d ∷ ds) c = elim (eqb_tells c (suc (length ds))) [
  | inl p ↦ (
      let here : (c == suc (length (bare_changes ds))) ≡ true = ap (λ (n : ℕ). c == suc n) (length-map ds bare_change) ∙ p.0 in
      rw (here, p.0) refl
      )
  | inr p ↦ (
      let here : (c == suc (length (bare_changes ds))) ≡ false = ap (λ (n : ℕ). c == suc n) (length-map ds bare_change) ∙ p.0 in
      rw (here, p.0) (bare-of ds c)
      )
]

pub bare-path : (ks : List Commit) (cs : List Change) (c : ℕ) → changes_in ks (change_of (bare_changes cs)) c ≡ bare_changes (changes_in ks (change_of cs) c)
bare-path [] cs c = refl
bare-path (k ∷ ks) cs c = elim (eqb_tells c (suc (length ks))) [
  | inl p ↦ rw p.0 (ap (λ (d : Change). d ∷ changes_in ks (change_of (bare_changes cs)) k.parent) (bare-of cs c) ∙ ap (λ (l : List Change). bare_change (change_of cs c) ∷ l) (bare-path ks cs k.parent))
  | inr p ↦ rw p.0 (bare-path ks cs c)
]

pub bare-table-in : (ks : List Commit) (cs : List Change) (c : ℕ) → bare_rows (table_in ks (change_of cs) c) ≡ table_in ks (change_of (bare_changes cs)) c
bare-table-in ks cs c = bare-table (changes_in ks (change_of cs) c) ∙ ap table_of (sym (bare-path ks cs c))

-- the rows of a commit's record, wherever its body stands
pub bare-rows-from : (commit place other : ℕ) (ss : List (Group × ℕ)) → bare_rows (rows_from commit place ss) ≡ bare_rows (rows_from commit other ss)
bare-rows-from commit place other [] = refl
bare-rows-from commit place other (s ∷ ss) = ap (λ (l : Table). record { group = s.0; version = commit; place = 0; len = s.1 } ∷ l) (bare-rows-from commit (place + s.1) (other + s.1) ss)

-- ---- what holds of both

abbrev AreDropped : List Group → List Group → Type 0
AreDropped ds gs = IsTrue (list_all (λ g. is_one_of g gs) ds)

abbrev AreApart : List (List ℕ) → Type 0
AreApart names = IsTrue (are_apart names)

-- two tables, and two changes, of which but for places one is the other
module _ (t u : Table) (c d : Change) (same : bare_rows t ≡ bare_rows u) (alike : bare_change c ≡ bare_change d) where
  dropped-same : c.dropped ≡ d.dropped
  dropped-same = ap (λ (x : Change). x.dropped) alike

  groups-same : groups_in t ≡ groups_in u
  groups-same = sym (bare-groups t) ∙ ap groups_in same ∙ bare-groups u

  after-same : bare_rows (after c t) ≡ bare_rows (after d u)
  after-same = bare-after c t ∙ ap (λ (x : Change). after x (bare_rows t)) alike ∙ ap (λ (l : Table). after (bare_change d) l) same ∙ sym (bare-after d u)

  pub fits-alike : FitsTable t c → FitsTable u d
  fits-alike f =
      let names : names_in (after c t) ≡ names_in (after d u) = sym (bare-names (after c t)) ∙ ap names_in after-same ∙ bare-names (after d u) in
      let bytes : bytes_in (after c t) ≡ bytes_in (after d u) = sym (bare-bytes (after c t)) ∙ ap bytes_in after-same ∙ bare-bytes (after d u) in
      let small = f.small in
      record {
        dropped = subst (λ (gs : List Group). AreDropped gs (groups_in u)) dropped-same (subst (λ (gs : List Group). AreDropped c.dropped gs) groups-same f.dropped);
        apart = subst AreApart names f.apart;
        small = omega (arith, bytes, small);
      }

pub kept-alike : (t u : Table) → bare_rows t ≡ bare_rows u → IsKeptTable t → IsKeptTable u
kept-alike t u same k =
    let bytes : bytes_in t ≡ bytes_in u = sym (bare-bytes t) ∙ ap bytes_in same ∙ bare-bytes u in
    let small = k.small in
    record {
      rise = subst Rise (sym (bare-firsts t) ∙ ap (map first_in) same ∙ bare-firsts u) k.rise;
      groups = subst (AllByRecursion IsGroup) (sym (bare-groups t) ∙ ap groups_in same ∙ bare-groups u) k.groups;
      apart = subst AreApart (sym (bare-names t) ∙ ap names_in same ∙ bare-names u) k.apart;
      small = omega (arith, bytes, small);
    }

fit-alike : (xs ys : List Change) → bare_changes xs ≡ bare_changes ys → AreFit xs → AreFit ys
fit-alike [] [] e f = tt
fit-alike [] (y ∷ ys) e f = absurd (let n : 0 ≡ suc (length (bare_changes ys)) = ap length e in omega (arith, n))
fit-alike (x ∷ xs) [] e f = absurd (let n : suc (length (bare_changes xs)) ≡ 0 = ap length e in omega (arith, n))
fit-alike (x ∷ xs) (y ∷ ys) e f =
    let first : bare_change x ≡ bare_change y = cc (e) in
    let rest : bare_changes xs ≡ bare_changes ys = cc (e) in
    let tables : bare_rows (table_of xs) ≡ bare_rows (table_of ys) = bare-table xs ∙ ap table_of rest ∙ sym (bare-table ys) in
    (fits-alike (table_of xs) (table_of ys) x y tables first f.0, fit-alike xs ys rest f.1)

versions-alike : (number : ℕ) (t u : Table) → bare_rows t ≡ bare_rows u → AllByRecursion (λ r. r.version ≡ number) t → AllByRecursion (λ r. r.version ≡ number) u
versions-alike number [] [] e h = tt
versions-alike number [] (q ∷ u) e h = absurd (let n : 0 ≡ suc (length (bare_rows u)) = ap length e in omega (arith, n))
versions-alike number (r ∷ t) [] e h = absurd (let n : suc (length (bare_rows t)) ≡ 0 = ap length e in omega (arith, n))
versions-alike number (r ∷ t) (q ∷ u) e h =
    let first : unplaced r ≡ unplaced q = cc (e) in
    let rest : bare_rows t ≡ bare_rows u = cc (e) in
    (ap (λ (x : Row). x.version) (sym first) ∙ h.0, versions-alike number t u rest h.1)

-- ---- how far rows lie

abbrev end_in : Row → ℕ
end_in r = r.place + r.len

-- a place behind the pictures of these changes
abbrev pub furthest : List Change → ℕ
furthest [] = 0
furthest (d ∷ ds) = sum_by end_in d.stored + furthest ds

rows-within : (most : ℕ) (t : Table) → sum_by end_in t ≤ most → AllByRecursion (λ r. r.place + r.len ≤ most) t
rows-within most [] l = tt
rows-within most (r ∷ t) l =
    let all : sum_by end_in (r ∷ t) ≡ end_in r + sum_by end_in t = sum_by-cons end_in r t in
    (omega (arith, l, all), rows-within most t (omega (arith, l, all)))

changes-within : (most : ℕ) (cs : List Change) → furthest cs ≤ most → (c : ℕ) → AllByRecursion (λ r. r.place + r.len ≤ most) (change_of cs c).stored
changes-within most [] l c = tt
changes-within most (d ∷ ds) l c = elim (eqb_tells c (suc (length ds))) [
  | inl p ↦ rw p.0 (rows-within most d.stored (omega (arith, l)))
  | inr p ↦ rw p.0 (changes-within most ds (omega (arith, l)) c)
]

-- Changes that but for places are a graph's are ones too.
module _ (g : Graph) (cs ds : List Change) (most : ℕ) (same : bare_changes cs ≡ bare_changes ds) (a : AreChanges g cs most) where
  change-alike : (c : ℕ) → bare_change (change_of cs c) ≡ bare_change (change_of ds c)
  change-alike c = sym (bare-of cs c) ∙ ap (λ (l : List Change). change_of l c) same ∙ bare-of ds c

  path-alike : (c : ℕ) → bare_changes (changes_in g.commits (change_of cs) c) ≡ bare_changes (changes_in g.commits (change_of ds) c)
  path-alike c = sym (bare-path g.commits cs c) ∙ ap (λ (l : List Change). changes_in g.commits (change_of l) c) same ∙ bare-path g.commits ds c

  pub table-alike : (c : ℕ) → bare_rows (table_in g.commits (change_of cs) c) ≡ bare_rows (table_in g.commits (change_of ds) c)
  table-alike c = bare-table-in g.commits cs c ∙ ap (λ (l : List Change). table_in g.commits (change_of l) c) same ∙ sym (bare-table-in g.commits ds c)

  each-alike : (c : ℕ) → IsChange c (furthest ds) (change_of ds c)
  each-alike c =
      let k = a.each c in
      let stored : bare_rows (change_of cs c).stored ≡ bare_rows (change_of ds c).stored = ap (λ (x : Change). x.stored) (change-alike c) in
      record {
        version = versions-alike c (change_of cs c).stored (change_of ds c).stored stored k.version;
        rise = subst Rise (sym (bare-firsts (change_of cs c).stored) ∙ ap (map first_in) stored ∙ bare-firsts (change_of ds c).stored) k.rise;
        groups = subst (AllByRecursion IsGroup) (sym (bare-groups (change_of cs c).stored) ∙ ap groups_in stored ∙ bare-groups (change_of ds c).stored) k.groups;
        inside = changes-within (furthest ds) ds (omega arith) c;
      }

  pub changes-alike : AreChanges g ds (furthest ds)
  changes-alike = record {
    counted = (let n = a.counted in let m = ap length same in omega (arith, n, m, length-map cs bare_change, length-map ds bare_change));
    each = each-alike;
    fit = λ c. fit-alike (changes_in g.commits (change_of cs) c) (changes_in g.commits (change_of ds) c) (path-alike c) (a.fit c);
    tables = λ c. kept-alike (table_in g.commits (change_of cs) c) (table_in g.commits (change_of ds) c) (table-alike c) (a.tables c);
  }

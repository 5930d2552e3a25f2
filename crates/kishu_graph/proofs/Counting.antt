-- How many rows the tables of commits have.
use Rattle.std.proofs.Common.{◌≡◌, ◌<◌, ◌≤◌, ◌+◌, ℕ, suc, true, false, List, [], ◌∷◌, ◌++◌, length, map, get_or, Option, Some, None, Ordering, refl, sym, ap, subst, ◌∙◌, inl, inr, ⊎_elim, arith, length-append}
use Rattle.std.proofs.lemmas.Bool.{cases_Bool, cases_lt, false≢true}
use Rattle.std.proofs.lemmas.Cmp.{nat_list_cmp_total}
use Rattle.std.proofs.lemmas.List.{get_or_append_left, get_or-map, length-map}
use Rattle.std.proofs.lemmas.Slice.Eq.{bytes_eq-Decides, slice_eq-Decides}
use Rattle.std.proofs.Math.Seq.{get_or-append_seam}
use Rattle.std.specs.Bool.{Decides}
use Rattle.std.specs.Cmp.Lexicographic.{slice_cmp}
use Rattle.std.specs.List.{list_all}
use Rattle.std.specs.List.Sorted.{IsStrictlySortedBy}
use Rattle.std.specs.Ordering.{nat_cmp, match_ordering}
use Rattle.std.specs.Prelude.{IfSome}
use Rattle.std.specs.declared.cmp.Ordering.TheVariants.{Less, Equal, Greater}
use Rattle.kishu_store.specs.Graph.{Commit, Graph}
use Rattle.kishu_store.specs.Groups.{Group, first_name, is_group, is_one_of, Rise}
use Rattle.kishu_store.specs.Tables.{Row, Table, Change, no_change, groups_in, first_in, put_row, put_rows, without_groups, after, table_of, changes_in, table_in, change_of, FitsTable}
use Rattle.kishu_store_laws.specs.BranchLaws.{AllBehind}
use Rattle.kishu_store_laws.specs.HistoryLaws.{AreChanges}
use Rattle.kishu_store_laws.specs.TableLaws.{both_ways, and_true, bare-after, AreFit}
use Rattle.kishu_graph.specs.ChangeLaws.{same-last, older-field, changes-before, changes-last, older-changes, bare-changes, length-noted}
use Rattle.kishu_graph.specs.Kept.{Outline, Noted, CountsRows, outline_of, outlines, parents_of, noted_of, noted_in}
use Rattle.kishu_graph.specs.Laws.{length-outlines, outline-at, outline-newest}
use Rattle.kishu_graph.specs.Tables.{CountsAfter}

-- ---- after a change

length_by : (r q : Row) (t : Table) (o : Ordering) → length (put_row r t) ≡ 1 + length t → length (match_ordering o (r ∷ q ∷ t) (r ∷ q ∷ t) (q ∷ put_row r t)) ≡ 2 + length t
length_by r q t Less e = omega arith
length_by r q t Equal e = omega arith
length_by r q t Greater e = omega (arith, e)

length_put : (r : Row) (t : Table) → length (put_row r t) ≡ 1 + length t
length_put r [] = omega arith
length_put r (q ∷ t) = (let e = length_by r q t (slice_cmp nat_cmp (first_name r.group) (first_name q.group)) (length_put r t) in omega (arith, e))

length_puts : (rs t : Table) → length (put_rows rs t) ≡ length rs + length t
length_puts [] t = omega arith
length_puts (r ∷ rs) t = omega (arith, length_put r (put_rows rs t), length_puts rs t)

group_decides : (g h : Group) → Decides (is_group g h) (g ≡ h)
group_decides g h = slice_eq-Decides bytes_eq-Decides g h (is_group g h) refl

-- a name isn't before itself
not_same : (g h : Group) → slice_cmp nat_cmp (first_name g) (first_name h) ≡ Less → is_group g h ≡ false
not_same g h l = elim (cases_Bool (is_group g h)) [
  | inl e ↦ absurd (let m : slice_cmp nat_cmp (first_name h) (first_name h) ≡ Less = subst (λ (k : Group). slice_cmp nat_cmp (first_name k) (first_name h) ≡ Less) ((group_decides g h).0 e) l in both_ways (first_name h) (first_name h) m m)
  | inr e ↦ e
]

same_back : (g h : Group) → is_group g h ≡ is_group h g
same_back g h = elim (cases_Bool (is_group g h)) [
  | inl e ↦ e ∙ sym ((group_decides h g).1 (sym ((group_decides g h).0 e)))
  | inr e ↦ e ∙ elim (cases_Bool (is_group h g)) [ inl f ↦ absurd (false≢true (sym e ∙ (group_decides g h).1 (sym ((group_decides h g).0 f)))) | inr f ↦ sym f ]
]

-- what stands behind a name that stands behind another
behind_both : (x y : List ℕ) (ns : List (List ℕ)) → slice_cmp nat_cmp x y ≡ Less → AllBehind y ns → AllBehind x ns
behind_both x y [] l h = tt
behind_both x y (n ∷ ns) l h = (nat_list_cmp_total.trans x y n l h.0, behind_both x y ns l h.1)

-- no group whose first name stands before those of all is one of them
none_behind : (g : Group) (ds : List Group) → AllBehind (first_name g) (map first_name ds) → is_one_of g ds ≡ false
none_behind g [] h = refl
none_behind g (d ∷ ds) h = (let no = not_same g d h.0 in rw no (none_behind g ds h.1))

-- a group that is one of a table's stands behind what stands before the table
one_behind : (x : List ℕ) (d : Group) (t : Table) → AllBehind x (map first_in t) → is_one_of d (groups_in t) ≡ true → slice_cmp nat_cmp x (first_name d) ≡ Less
one_behind x d [] h e = absurd (false≢true e)
one_behind x d (q ∷ t) h e = elim (cases_Bool (is_group d q.group)) [
  | inl k ↦ subst (λ (g : Group). slice_cmp nat_cmp x (first_name g) ≡ Less) (sym ((group_decides d q.group).0 k)) h.0
  | inr k ↦ one_behind x d t h.1 (rw k at e)
]

-- groups behind a row that are among it and others are among the others
among_rest : (r : Row) (t : Table) (ds : List Group) → AllBehind (first_in r) (map first_name ds) → list_all (λ d. is_one_of d (groups_in (r ∷ t))) ds ≡ true → list_all (λ d. is_one_of d (groups_in t)) ds ≡ true
among_rest r t [] h all = refl
among_rest r t (d ∷ ds) h all =
    let both = and_true (is_one_of d (groups_in (r ∷ t))) (list_all (λ (e : Group). is_one_of e (groups_in (r ∷ t))) ds) all in
    let no : is_group d r.group ≡ false = same_back d r.group ∙ not_same r.group d h.0 in
    let first : is_one_of d (groups_in t) ≡ true = rw no at both.0 in
    rw first (among_rest r t ds h.1 both.1)

-- rows behind a group aren't that group's
left_behind : (d : Group) (ds : List Group) (t : Table) → AllBehind (first_name d) (map first_in t) → without_groups (d ∷ ds) t ≡ without_groups ds t
left_behind d ds [] h = refl
left_behind d ds (r ∷ t) h =
    let no : is_group r.group d ≡ false = same_back r.group d ∙ not_same d r.group h.0 in
    let rest = left_behind d ds t h.1 in
    elim (cases_Bool (is_one_of r.group ds)) [ inl e ↦ rw (no, e) rest | inr e ↦ rw (no, e) (ap (λ (l : Table). r ∷ l) rest) ]

-- Groups of a table, each once, are so many of its rows.
length_without : (t : Table) (ds : List Group) → Rise (map first_in t) → Rise (map first_name ds) → list_all (λ d. is_one_of d (groups_in t)) ds ≡ true → length (without_groups ds t) + length ds ≡ length t
unfolding IsStrictlySortedBy
length_without [] [] rise up all = refl
length_without [] (d ∷ ds) rise up all = absurd (false≢true all)
length_without (r ∷ t) [] rise up all = (let rest = length_without t [] rise.1 tt refl in omega (arith, rest))
length_without (r ∷ t) (d ∷ ds) rise up all =
    let both = and_true (is_one_of d (groups_in (r ∷ t))) (list_all (λ (e : Group). is_one_of e (groups_in (r ∷ t))) ds) all in
    elim (cases_Bool (is_group d r.group)) [
      | inl k ↦ (
          let same : d ≡ r.group = (group_decides d r.group).0 k in
          let gone : is_group r.group d ≡ true = same_back r.group d ∙ k in
          let ahead : AllBehind (first_in r) (map first_name ds) = subst (λ (g : Group). AllBehind (first_name g) (map first_name ds)) same up.0 in
          let behind : AllBehind (first_name d) (map first_in t) = subst (λ (g : Group). AllBehind (first_name g) (map first_in t)) (sym same) rise.0 in
          let rest = length_without t ds rise.1 up.1 (among_rest r t ds ahead both.1) in
          let left = ap length (left_behind d ds t behind) in
          rw gone (omega (arith, rest, left))
          )
      | inr k ↦ (
          let one : is_one_of d (groups_in t) ≡ true = rw k at both.0 in
          let less = one_behind (first_in r) d t rise.0 one in
          let ahead : AllBehind (first_in r) (map first_name (d ∷ ds)) = (less, behind_both (first_in r) (first_name d) (map first_name ds) less up.0) in
          let stays : is_one_of r.group (d ∷ ds) ≡ false = none_behind r.group (d ∷ ds) ahead in
          let rest = length_without t (d ∷ ds) rise.1 up (among_rest r t (d ∷ ds) ahead all) in
          rw stays (omega (arith, rest))
          )
    ]

pub length-after : (t : Table) (d : Change) → Rise (map first_in t) → Rise (map first_name d.dropped) → FitsTable t d → length (after d t) + length d.dropped ≡ length t + length d.stored
length-after t d rise up fits = omega (arith, length_puts d.stored (without_groups d.dropped t), length_without t d.dropped rise up fits.dropped)

-- ---- a new graph

no_commits : (ks : List Commit) → length (outlines ks) ≡ 1 → ks ≡ []
no_commits [] e = refl
no_commits (k ∷ ks) e = absurd (omega (arith, e, length-outlines (k ∷ ks)))

-- The root has no rows.
pub counts-new : (os : List Outline) (ns : List Noted) (counts : List (Option ℕ)) → length os ≡ 1 → length ns ≡ 1 → counts ≡ Some 0 ∷ [] → CountsRows os ns counts
counts-new os ns counts one noted is g cs place ps ts a c l =
    let parent = λ (o : Outline). o.parent in
    let none : g.commits ≡ [] = no_commits g.commits (let n = ap length ps in omega (arith, n, one, length-map os parent, length-map (outlines g.commits) parent)) in
    let root : c ≡ 0 = omega (arith, l, noted) in
    let empty : table_in g.commits (change_of cs) c ≡ [] = ap (λ (ks : List Commit). table_in ks (change_of cs) c) none in
    subst (λ (o : Option ℕ). IfSome o (λ n. n ≡ length (table_in g.commits (change_of cs) c))) (sym (ap (λ (l : List (Option ℕ)). get_or l c None) is ∙ ap (λ i. get_or (Some 0 ∷ []) i None) root)) (sym (ap length empty))

-- ---- a commit more

no_firsts : (gs : List Group) → [] ≡ map first_name gs → gs ≡ []
no_firsts [] e = refl
no_firsts (g ∷ gs) e = absurd (let n = ap length e in omega (arith, n))

pub bare : (d : Change) → noted_of no_change ≡ noted_of d → d ≡ no_change
bare d e =
    let dropped : d.dropped ≡ [] = no_firsts d.dropped (ap (λ (n : Noted). n.dropped) e) in
    let stored : d.stored ≡ [] = sym (ap (λ (n : Noted). n.stored) e) in
    ap (λ (gs : List Group). record { dropped = gs; stored = d.stored }) dropped ∙ ap (λ (t : Table). record { dropped = []; stored = t }) stored

pub same_bare : (d : Change) (t : Table) → d ≡ no_change → after d t ≡ t
same_bare d t e = ap (λ (x : Change). after x t) e ∙ bare-after t

module _ (os : List Outline) (ns : List Noted) (counts : List (Option ℕ)) (k : Outline) (noted : length ns ≡ length os) (counted : length counts ≡ length ns) (there : k.parent < length os) (h : CountsRows os ns counts) where
  abbrev with_bare : List Noted
  with_bare = ns ++ (noted_of no_change ∷ [])

  abbrev with_count : List (Option ℕ)
  with_count = counts ++ (get_or counts k.parent None ∷ [])

  committed_by : (g : Graph) (ks : List Commit) (cs : List Change) (place : ℕ) → g.commits ≡ ks → parents_of (os ++ (k ∷ [])) ≡ parents_of (outlines ks) → with_bare ≡ noted_in cs → AreChanges g cs place
      → (c : ℕ) → c < length with_bare → IfSome (get_or with_count c None) (λ n. n ≡ length (table_in ks (change_of cs) c))
  committed_by g [] cs place e ps ts a c l =
      absurd (let n : length (parents_of (os ++ (k ∷ []))) ≡ 1 = ap length ps in omega (arith, n, length-map (os ++ (k ∷ [])) (λ (o : Outline). o.parent), length-append os (k ∷ []), there))
  committed_by g (j ∷ ks) [] place e ps ts a c l = absurd (let n = a.counted in let m : length g.commits ≡ suc (length ks) = ap length e in omega (arith, n, m))
  committed_by g (j ∷ ks) (d ∷ ds) place e ps ts a c l =
      let p = older-field (λ (o : Outline). o.parent) os k j ks ps in
      let q = same-last ns (noted_in ds) (noted_of no_change) (noted_of d) ts in
      let many : length ds ≡ length ks = (let n = a.counted in let m : length g.commits ≡ suc (length ks) = ap length e in omega (arith, n, m)) in
      let before : Graph = record { commits = ks; branches = g.branches; head = g.head; records = g.records } in
      let old = h before ds place p.0 q.0 (older-changes g before j ks d ds place e refl a) in
      let all : length ns ≡ suc (length ks) = omega (arith, ap length q.0, length-noted ds, many) in
      ⊎_elim
      (λ (less : c < length ns).
      let is : get_or with_count c None ≡ get_or counts c None = get_or_append_left counts (get_or counts k.parent None ∷ []) None c (omega (arith, less, counted)) in
      let table : table_in (j ∷ ks) (change_of (d ∷ ds)) c ≡ table_in ks (change_of ds) c = ap table_of (changes-before j ks d ds many c (omega (arith, less, all))) in
      subst (λ (o : Option ℕ). IfSome o (λ n. n ≡ length (table_in (j ∷ ks) (change_of (d ∷ ds)) c))) (sym is) (subst (λ (t : Table). IfSome (get_or counts c None) (λ n. n ≡ length t)) (sym table) (old c less)))
      (λ (more : length ns ≤ c).
      let last : c ≡ length ns = omega (arith, more, l, length-append ns (noted_of no_change ∷ [])) in
      let is : get_or with_count c None ≡ get_or counts k.parent None = ap (λ i. get_or with_count i None) (last ∙ sym counted) ∙ get_or-append_seam counts (get_or counts k.parent None) [] None in
      let table : table_in (j ∷ ks) (change_of (d ∷ ds)) c ≡ table_in ks (change_of ds) k.parent =
      ap table_of (changes-last j ks d ds many c (last ∙ all)) ∙ same_bare d (table_in ks (change_of ds) j.parent) (bare d q.1) ∙ ap (table_in ks (change_of ds)) (sym p.1) in
      subst (λ (o : Option ℕ). IfSome o (λ n. n ≡ length (table_in (j ∷ ks) (change_of (d ∷ ds)) c))) (sym is) (subst (λ (t : Table). IfSome (get_or counts k.parent None) (λ n. n ≡ length t)) (sym table) (old k.parent (omega (arith, there, noted)))))
      (cases_lt c (length ns))

  -- A commit that changes nothing has as many rows as its parent.
  pub counts-committed : CountsRows (os ++ (k ∷ [])) with_bare with_count
  counts-committed g cs place ps ts a c l = committed_by g g.commits cs place refl ps ts a c l

-- ---- the change of the newest commit

counted_after : (before count : Option ℕ) (d e : Change) (t : Table) → noted_of d ≡ noted_of e → Rise (map first_in t) → FitsTable t e → CountsAfter before d count → IfSome before (λ m. m ≡ length t) → IfSome count (λ n. n ≡ length (after e t))
counted_after before None d e t same rise fits c b = tt
counted_after None (Some n) d e t same rise fits c b = absurd c.1
counted_after (Some m) (Some n) d e t same rise fits c b =
    let firsts : map first_name d.dropped ≡ map first_name e.dropped = ap (λ (x : Noted). x.dropped) same in
    let dropped : length d.dropped ≡ length e.dropped = sym (length-map d.dropped first_name) ∙ ap length firsts ∙ length-map e.dropped first_name in
    let stored : length d.stored ≡ length e.stored = ap (λ (x : Noted). length x.stored) same in
    let all = length-after t e rise (subst Rise firsts c.0) fits in
    (let sum = c.1 in omega (arith, all, dropped, stored, sum, b))

module _ (os : List Outline) (ns : List Noted) (counts : List (Option ℕ)) (d : Change) (parent : ℕ) (was count : Option ℕ) (noted : suc (length ns) ≡ length os) (counted : length counts ≡ length ns)
    (is_parent : (o : Outline) → parent ≡ (get_or os (length ns) o).parent) (older : parent < length ns)
    (h : CountsRows os (ns ++ (noted_of no_change ∷ [])) (counts ++ (was ∷ []))) (after_is : CountsAfter (get_or counts parent None) d count) where
  noted_by : (g : Graph) (ks : List Commit) (cs : List Change) (place : ℕ) → g.commits ≡ ks → parents_of os ≡ parents_of (outlines ks) → ns ++ (noted_of d ∷ []) ≡ noted_in cs → AreChanges g cs place
      → (c : ℕ) → c < length (ns ++ (noted_of d ∷ [])) → IfSome (get_or (counts ++ (count ∷ [])) c None) (λ n. n ≡ length (table_in ks (change_of cs) c))
  noted_by g [] cs place e ps ts a c l =
      absurd (let n : length (parents_of os) ≡ 1 = ap length ps in omega (arith, n, length-map os (λ (o : Outline). o.parent), noted, older))
  noted_by g (j ∷ ks) [] place e ps ts a c l = absurd (let n = a.counted in let m : length g.commits ≡ suc (length ks) = ap length e in omega (arith, n, m))
  noted_by g (j ∷ ks) (x ∷ ds) place e ps ts a c l =
      let q = same-last ns (noted_in ds) (noted_of d) (noted_of x) ts in
      let many : length ds ≡ length ks = (let n = a.counted in let m : length g.commits ≡ suc (length ks) = ap length e in omega (arith, n, m)) in
      let all : length ns ≡ suc (length ks) = omega (arith, ap length q.0, length-noted ds, many) in
      let old = h g (no_change ∷ ds) place (ps ∙ ap (λ (l : List Commit). parents_of (outlines l)) (sym e)) (ap (λ (l : List Noted). l ++ (noted_of no_change ∷ [])) q.0) (bare-changes g j ks x ds place e a) in
      let long = length-append ns (noted_of no_change ∷ []) in
      let at : (i : ℕ) → i < length ns → IfSome (get_or counts i None) (λ n. n ≡ length (table_in ks (change_of ds) i)) = (λ i less.
      let is : get_or (counts ++ (was ∷ [])) i None ≡ get_or counts i None = get_or_append_left counts (was ∷ []) None i (omega (arith, less, counted)) in
      let table : table_in g.commits (change_of (no_change ∷ ds)) i ≡ table_in ks (change_of ds) i =
      ap (λ (l : List Commit). table_in l (change_of (no_change ∷ ds)) i) e ∙ ap table_of (changes-before j ks no_change ds many i (omega (arith, less, all))) in
      subst (λ (o : Option ℕ). IfSome o (λ n. n ≡ length (table_in ks (change_of ds) i))) is (subst (λ (t : Table). IfSome (get_or (counts ++ (was ∷ [])) i None) (λ n. n ≡ length t)) table (old i (omega (arith, less, long))))) in
      ⊎_elim
      (λ (less : c < length ns).
      let is : get_or (counts ++ (count ∷ [])) c None ≡ get_or counts c None = get_or_append_left counts (count ∷ []) None c (omega (arith, less, counted)) in
      let table : table_in (j ∷ ks) (change_of (x ∷ ds)) c ≡ table_in ks (change_of ds) c = ap table_of (changes-before j ks x ds many c (omega (arith, less, all))) in
      subst (λ (o : Option ℕ). IfSome o (λ n. n ≡ length (table_in (j ∷ ks) (change_of (x ∷ ds)) c))) (sym is) (subst (λ (t : Table). IfSome (get_or counts c None) (λ n. n ≡ length t)) (sym table) (at c less)))
      (λ (more : length ns ≤ c).
      let last : c ≡ length ns = omega (arith, more, l, length-append ns (noted_of d ∷ [])) in
      let is : get_or (counts ++ (count ∷ [])) c None ≡ count = ap (λ i. get_or (counts ++ (count ∷ [])) i None) (last ∙ sym counted) ∙ get_or-append_seam counts count [] None in
      let up = parent_at os j ks (λ o. is_parent o) ps (all) in
      let path : changes_in (j ∷ ks) (change_of (x ∷ ds)) c ≡ x ∷ changes_in ks (change_of ds) parent = changes-last j ks x ds many c (last ∙ all) ∙ ap (λ n. x ∷ changes_in ks (change_of ds) n) (sym up) in
      let fit : AreFit (x ∷ changes_in ks (change_of ds) parent) = subst AreFit path (subst (λ (l : List Commit). AreFit (changes_in l (change_of (x ∷ ds)) c)) e (a.fit c)) in
      let before : Graph = record { commits = ks; branches = g.branches; head = g.head; records = g.records } in
      let kept = (older-changes g before j ks x ds place e refl a).tables parent in
      let new = counted_after (get_or counts parent None) count d x (table_in ks (change_of ds) parent) q.1 kept.rise fit.0 after_is (at parent older) in
      subst (λ (o : Option ℕ). IfSome o (λ n. n ≡ length (table_in (j ∷ ks) (change_of (x ∷ ds)) c))) (sym is) (subst (λ (cs : List Change). IfSome count (λ n. n ≡ length (table_of cs))) (sym path) new))
      (cases_lt c (length ns))
    where
      -- the parent of the last
      parent_at : (os : List Outline) (j : Commit) (ks : List Commit) → ((o : Outline) → parent ≡ (get_or os (length ns) o).parent) → parents_of os ≡ parents_of (outlines (j ∷ ks)) → length ns ≡ suc (length ks) → parent ≡ j.parent
      parent_at os j ks is ps all =
          let parent_in = λ (o : Outline). o.parent in
          let there : length ns < length os = (let n = ap length ps in omega (arith, n, length-map os parent_in, length-map (outlines (j ∷ ks)) parent_in, length-outlines (j ∷ ks), all)) in
          is (outline_of j)
          ∙ sym (get_or-map parent_in os (length ns) (outline_of j) 0 there)
          ∙ ap (λ (l : List ℕ). get_or l (length ns) 0) ps
          ∙ get_or-map parent_in (outlines (j ∷ ks)) (length ns) (outline_of j) 0 (omega (arith, length-outlines (j ∷ ks), all))
          ∙ ap parent_in (outline-at (j ∷ ks) (length ns) (outline_of j) (omega (arith, all)) ∙ outline-newest j ks (length ns) all)

  -- The newest commit's rows are counted anew.
  pub counts-noted : CountsRows os (ns ++ (noted_of d ∷ [])) (counts ++ (count ∷ []))
  counts-noted g cs place ps ts a c l = noted_by g g.commits cs place refl ps ts a c l

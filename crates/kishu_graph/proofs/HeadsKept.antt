-- The rows of one commit's table stay those of its table where commits come, and change as its groups do.
use Rattle.std.proofs.Common.{◌≡◌, ◌<◌, ◌==◌, ℕ, Bool, true, false, suc, List, [], ◌∷◌, ◌++◌, length, map, get_or, take, set, refl, sym, ap, subst, ◌∙◌, inl, inr, arith, length-append}
use Rattle.std.proofs.lemmas.Bool.{cases_Bool, false≢true}
use Rattle.std.proofs.lemmas.Bool.Decides.{eqb_tells}
use Rattle.std.proofs.lemmas.List.{get_or-map, length-map, length-take-le, map_push}
use Rattle.std.specs.Prelude.{if◌then◌else◌}
use Rattle.std.specs.Cmp.Lexicographic.{bytes_decides}
use Rattle.std.specs.List.{AllByRecursion, list_all}
use Rattle.std.specs.List.Sorted.{IsStrictlySortedBy}
use Rattle.std.specs.Str.{bytes_eq}
use Rattle.kishu_language.specs.tokens.Names.{is_among}
use Rattle.kishu_store.specs.Graph.{Commit, Graph}
use Rattle.kishu_store.specs.Groups.{Group, first_name, is_group, is_one_of, Rise}
use Rattle.kishu_store.specs.Tables.{Row, Table, Change, no_change, groups_in, first_in, put_rows, without_groups, after, table_of, changes_in, table_in, table_at, change_of, IsKeptTable}
use Rattle.kishu_store_laws.specs.BranchLaws.{AllBehind}
use Rattle.kishu_store_laws.specs.HistoryLaws.{AreChanges}
use Rattle.kishu_store_laws.specs.TableLaws.{and_true, bare-after, AreFit}
use Rattle.kishu_store_laws.specs.WalkLaws.{rows_left}
use Rattle.kishu_graph.specs.declared.commits.Commit as rust
use Rattle.kishu_graph.specs.declared.heads.HeadRows as rust_heads
use Rattle.kishu_graph.specs.declared.tables.Noted as rust_noted
use Rattle.kishu_graph.specs.ChangeLaws.{same-last, older-field, changes-before, changes-last, older-changes, bare-changes, length-noted}
use Rattle.kishu_graph.specs.Heads.{Holds, IsHead, Changes, at_commit}
use Rattle.kishu_graph.specs.Kept.{Kept, HasShapeOf, TellsChanges, Outline, Noted, outline, outlines, parents_of, noted_of, noted_in, note}
use Rattle.kishu_graph.specs.Walks.{StandAtFirst, group_at}
use Rattle.kishu_graph.proofs.Counted.{last-taken, last-set}
use Rattle.kishu_graph.proofs.Counting.{bare, same_bare}
use Rattle.kishu_graph.proofs.GroupsThere.{group-there}
use Rattle.kishu_graph.proofs.RowsLeft.{other_name}
use Rattle.kishu_graph.proofs.Stays.{AreThere, same-group}
use Rattle.kishu_graph.proofs.WayBack.{no-changes}

-- ---- groups of a table, and the rows that begin with their first names

-- the row's group is the one at its first name
abbrev IsAtFirst : Table → Row → Type 0
IsAtFirst t r = group_at (first_in r) t ≡ r.group

further : (q : Row) (t u : Table) → AllBehind (first_in q) (map first_in u) → AllByRecursion (IsAtFirst t) u → AllByRecursion (IsAtFirst (q ∷ t)) u
further q t [] h all = tt
further q t (r ∷ u) h all = ((let no = other_name (first_in q) (first_in r) h.0 in rw no all.0), further q t u h.1 all.1)

each_at_first : (t : Table) → Rise (map first_in t) → AllByRecursion (IsAtFirst t) t
unfolding IsStrictlySortedBy
each_at_first [] rise = tt
each_at_first (r ∷ t) rise = ((let same : bytes_eq (first_in r) (first_in r) ≡ true = (bytes_decides (first_in r) (first_in r)).1 refl in rw same refl), further r t t rise.0 (each_at_first t rise.1))

both_true : (a b : Bool) → (a ≡ true → b ≡ true) → (b ≡ true → a ≡ true) → a ≡ b
both_true true b f g = sym (f refl)
both_true false true f g = g refl
both_true false false f g = refl

module _ (t : Table) (rise : Rise (map first_in t)) (r : Row) (at : IsAtFirst t r) where
  by_name : (ds : List Group) → is_one_of r.group ds ≡ true → is_among (first_in r) (map first_name ds) ≡ true
  by_name [] e = e
  by_name (d ∷ ds) e = elim (cases_Bool (bytes_eq (first_in r) (first_name d))) [
    | inl k ↦ rw k refl
    | inr k ↦ rw k (elim (cases_Bool (is_group r.group d)) [
      | inl h ↦ absurd (false≢true (sym k ∙ (bytes_decides (first_in r) (first_name d)).1 (ap first_name ((same-group r.group d).0 h))))
      | inr h ↦ by_name ds (rw h at e)
    ])
  ]

  by_group : (ds : List Group) → AreThere ds t → is_among (first_in r) (map first_name ds) ≡ true → is_one_of r.group ds ≡ true
  by_group [] all e = e
  by_group (d ∷ ds) all e =
      let both = and_true (is_one_of d (groups_in t)) (list_all (λ (z : Group). is_one_of z (groups_in t)) ds) all in
      elim (cases_Bool (is_group r.group d)) [
        | inl h ↦ rw h refl
        | inr h ↦ rw h (elim (cases_Bool (bytes_eq (first_in r) (first_name d))) [
          | inl k ↦ (
              let same : r.group ≡ d = sym at ∙ ap (λ x. group_at x t) ((bytes_decides (first_in r) (first_name d)).0 k) ∙ group-there t d rise both.0 in
              absurd (false≢true (sym h ∙ (same-group r.group d).1 same))
              )
          | inr k ↦ by_group ds both.1 (rw k at e)
        ])
      ]

  one_test : (ds : List Group) → AreThere ds t → is_one_of r.group ds ≡ is_among (first_in r) (map first_name ds)
  one_test ds all = both_true (is_one_of r.group ds) (is_among (first_in r) (map first_name ds)) (by_name ds) (by_group ds all)

without_named : (t : Table) (ds : List Group) → Rise (map first_in t) → AreThere ds t → (u : Table) → AllByRecursion (IsAtFirst t) u → without_groups ds u ≡ rows_left (map first_name ds) u
without_named t ds rise all [] at = refl
without_named t ds rise all (r ∷ u) at =
    let rest = without_named t ds rise all u at.1 in
    let same = one_test t rise r at.0 ds all in
    elim (cases_Bool (is_among (first_in r) (map first_name ds))) [
      | inl k ↦ (let here = same ∙ k in rw (here, k) rest)
      | inr k ↦ (let here = same ∙ k in rw (here, k) (ap (λ (l : Table). r ∷ l) rest))
    ]

-- Without groups of a table there are the rows that don't begin with their first names.
pub without-named : (t : Table) (ds : List Group) → Rise (map first_in t) → AreThere ds t → without_groups ds t ≡ rows_left (map first_name ds) t
without-named t ds rise all = without_named t ds rise all t (each_at_first t rise)

-- ---- the root's

pub root-head : (os : List Outline) (ns : List Noted) (h : rust_heads.HeadRows) → 0 < length os → h.commit ≡ 0 → StandAtFirst h.rows.entries → Holds h [] → IsHead os ns h
root-head os ns h some root stand holds = record {
  there = omega (arith, some, root);
  stand = stand;
  holds = λ g cs place ps ts k. subst (Holds h) (sym (ap (table_at g (change_of cs)) root ∙ ap table_of (no-changes g.commits (change_of cs)))) holds;
}

-- ---- a commit more

module _ (os : List Outline) (ns : List Noted) (k : Outline) (noted : length ns ≡ length os) (there : k.parent < length os) (h : rust_heads.HeadRows) (was : IsHead os ns h) where
  abbrev with_bare : List Noted
  with_bare = ns ++ (noted_of no_change ∷ [])

  -- where the rows stand then
  abbrev goes : ℕ
  goes = if h.commit == k.parent then length ns else h.commit

  committed_by : (g : Graph) (ks : List Commit) (cs : List Change) (place : ℕ) → g.commits ≡ ks → parents_of (os ++ (k ∷ [])) ≡ parents_of (outlines ks) → with_bare ≡ noted_in cs → AreChanges g cs place → Holds h (table_in ks (change_of cs) goes)
  committed_by g [] cs place e ps ts a =
      absurd (let n : length (parents_of (os ++ (k ∷ []))) ≡ 1 = ap length ps in omega (arith, n, length-map (os ++ (k ∷ [])) (λ (o : Outline). o.parent), length-append os (k ∷ []), there))
  committed_by g (j ∷ ks) [] place e ps ts a = absurd (let n = a.counted in let m : length g.commits ≡ suc (length ks) = ap length e in omega (arith, n, m))
  committed_by g (j ∷ ks) (d ∷ ds) place e ps ts a =
      let p = older-field (λ (o : Outline). o.parent) os k j ks ps in
      let q = same-last ns (noted_in ds) (noted_of no_change) (noted_of d) ts in
      let many : length ds ≡ length ks = (let n = a.counted in let m : length g.commits ≡ suc (length ks) = ap length e in omega (arith, n, m)) in
      let before : Graph = record { commits = ks; branches = g.branches; head = g.head; records = g.records } in
      let old : Holds h (table_in ks (change_of ds) h.commit) = was.holds before ds place p.0 q.0 (older-changes g before j ks d ds place e refl a) in
      let all : length ns ≡ suc (length ks) = omega (arith, ap length q.0, length-noted ds, many) in
      elim (eqb_tells h.commit k.parent) [
        | inl is ↦ (
            let table : table_in (j ∷ ks) (change_of (d ∷ ds)) (length ns) ≡ table_in ks (change_of ds) h.commit =
            ap table_of (changes-last j ks d ds many (length ns) all) ∙ same_bare d (table_in ks (change_of ds) j.parent) (bare d q.1) ∙ ap (table_in ks (change_of ds)) (sym p.1 ∙ sym is.1) in
            let at = is.0 in
            rw at (subst (Holds h) (sym table) old)
            )
        | inr is ↦ (
            let table : table_in (j ∷ ks) (change_of (d ∷ ds)) h.commit ≡ table_in ks (change_of ds) h.commit = ap table_of (changes-before j ks d ds many h.commit (let less = was.there in omega (arith, less, noted, all))) in
            let at = is.0 in
            rw at (subst (Holds h) (sym table) old)
            )
      ]

  goes_there : goes < length (os ++ (k ∷ []))
  goes_there = elim (eqb_tells h.commit k.parent) [
    | inl is ↦ (let at = is.0 in rw at (omega (arith, noted, length-append os (k ∷ []))))
    | inr is ↦ (let at = is.0 in let less = was.there in rw at (omega (arith, less, length-append os (k ∷ []))))
  ]

  -- The rows of the parent's table are those of the commit's, which changes nothing; those of another stay.
  pub head-committed : IsHead (os ++ (k ∷ [])) with_bare (at_commit goes h)
  head-committed = record {
    there = goes_there;
    stand = was.stand;
    holds = λ g cs place ps ts a. (let held = committed_by g g.commits cs place refl ps ts a in record { rows = held.rows; names = held.names; room = held.room });
  }

-- ---- the change of the newest commit

module _ (os : List Outline) (ns : List Noted) (d : Change) (noted : suc (length ns) ≡ length os) (h new : rust_heads.HeadRows) (was : IsHead os (ns ++ (noted_of no_change ∷ [])) h) (at : h.commit ≡ length ns) (some : 0 < length ns) (same : new.commit ≡ h.commit)
    (stand : StandAtFirst new.rows.entries) (changes : Changes (noted_of d) h new) where
  noted_by : (g : Graph) (ks : List Commit) (cs : List Change) (place : ℕ) → g.commits ≡ ks → parents_of os ≡ parents_of (outlines ks) → ns ++ (noted_of d ∷ []) ≡ noted_in cs → AreChanges g cs place → Holds new (table_in ks (change_of cs) new.commit)
  noted_by g [] cs place e ps ts a =
      absurd (let n : length (parents_of os) ≡ 1 = ap length ps in omega (arith, n, length-map os (λ (o : Outline). o.parent), noted, some))
  noted_by g (j ∷ ks) [] place e ps ts a = absurd (let n = a.counted in let m : length g.commits ≡ suc (length ks) = ap length e in omega (arith, n, m))
  noted_by g (j ∷ ks) (x ∷ ds) place e ps ts a =
      let q = same-last ns (noted_in ds) (noted_of d) (noted_of x) ts in
      let many : length ds ≡ length ks = (let n = a.counted in let m : length g.commits ≡ suc (length ks) = ap length e in omega (arith, n, m)) in
      let all : length ns ≡ suc (length ks) = omega (arith, ap length q.0, length-noted ds, many) in
      let t = table_in ks (change_of ds) j.parent in
      let old = was.holds g (no_change ∷ ds) place (ps ∙ ap (λ (l : List Commit). parents_of (outlines l)) (sym e)) (ap (λ (l : List Noted). l ++ (noted_of no_change ∷ [])) q.0) (bare-changes g j ks x ds place e a) in
      let held : table_at g (change_of (no_change ∷ ds)) h.commit ≡ t =
      ap (λ (l : List Commit). table_in l (change_of (no_change ∷ ds)) h.commit) e ∙ ap table_of (changes-last j ks no_change ds many h.commit (at ∙ all)) ∙ bare-after t in
      let path : changes_in (j ∷ ks) (change_of (x ∷ ds)) new.commit ≡ x ∷ changes_in ks (change_of ds) j.parent = changes-last j ks x ds many new.commit (same ∙ at ∙ all) in
      let fit : AreFit (x ∷ changes_in ks (change_of ds) j.parent) = subst AreFit path (subst (λ (l : List Commit). AreFit (changes_in l (change_of (x ∷ ds)) new.commit)) e (a.fit new.commit)) in
      let before : Graph = record { commits = ks; branches = g.branches; head = g.head; records = g.records } in
      let kept = (older-changes g before j ks x ds place e refl a).tables j.parent in
      let whole : IsKeptTable (after x t) = subst (λ (l : List Change). IsKeptTable (table_of l)) path (subst (λ (l : List Commit). IsKeptTable (table_in l (change_of (x ∷ ds)) new.commit)) e (a.tables new.commit)) in
      let led : put_rows (noted_of d).stored (rows_left (noted_of d).dropped t) ≡ after x t =
      ap (λ (n : Noted). put_rows n.stored (rows_left n.dropped t)) q.1 ∙ ap (put_rows x.stored) (sym (without-named t x.dropped kept.rise fit.0.dropped)) in
      subst (λ (l : List Change). Holds new (table_of l)) (sym path) (changes t (after x t) (record { rise = kept.rise; apart = kept.apart }) (subst (Holds h) held old) led whole)

  head_noted : IsHead os (ns ++ (noted_of d ∷ [])) new
  head_noted = record {
    there = omega (arith, same, at, noted);
    stand = stand;
    holds = λ g cs place ps ts a. noted_by g g.commits cs place refl ps ts a;
  }

-- The rows that are changed by what is noted of the newest commit are those of its table.
pub head-anew : (os : List Outline) (notes : List rust_noted.Noted) (n : ℕ) (a : rust_noted.Noted) (d : Change) (h new : rust_heads.HeadRows) → length notes ≡ length os → suc n ≡ length os → 0 < n → get_or (map note notes) n (noted_of no_change) ≡ noted_of no_change → note a ≡ noted_of d
    → IsHead os (map note notes) h → h.commit ≡ n → new.commit ≡ h.commit → StandAtFirst new.rows.entries → Changes (note a) h new → IsHead os (map note (set notes n a)) new
head-anew os notes n a d h new many newest some none same was at stay stand changes =
    let front = take n notes in
    let last = get_or notes n a in
    let long : length (map note front) ≡ n = length-map front note ∙ length-take-le n notes (omega (arith, many, newest)) in
    let bare : note last ≡ noted_of no_change = sym (get_or-map note notes n a (noted_of no_change) (omega (arith, many, newest))) ∙ none in
    let before : map note notes ≡ map note front ++ (noted_of no_change ∷ []) = ap (map note) (last-taken notes n a (many ∙ sym newest)) ∙ map_push note front last ∙ ap (λ (x : Noted). map note front ++ (x ∷ [])) bare in
    let now : map note (set notes n a) ≡ map note front ++ (noted_of d ∷ []) = ap (map note) (last-set notes n a (many ∙ sym newest)) ∙ map_push note front a ∙ ap (λ (x : Noted). map note front ++ (x ∷ [])) same in
    subst (λ (l : List Noted). IsHead os l new) (sym now)
    (head_noted os (map note front) d (omega (arith, long, newest)) h new (subst (λ (l : List Noted). IsHead os l h) before was) (at ∙ sym long) (omega (arith, long, some)) stay stand (subst (λ (x : Noted). Changes x h new) same changes))

-- ---- where nothing comes

pub still-head : (items new : List rust.Commit) (notes noted : List rust_noted.Noted) (h : rust_heads.HeadRows) → IsHead (map outline items) (map note notes) h → new ≡ items → noted ≡ notes → IsHead (map outline new) (map note noted) h
still-head items new notes noted h was e f =
    subst (λ (l : List rust.Commit). IsHead (map outline l) (map note noted) h) (sym e) (subst (λ (l : List rust_noted.Noted). IsHead (map outline items) (map note l) h) (sym f) was)

-- the rows at hand are those of a table in the history whose commits and changes are kept
pub at-hand : (kept : Kept) (os : List Outline) (ns : List Noted) (h : rust_heads.HeadRows) (c : ℕ) → parents_of os ≡ parents_of kept.commits → ns ≡ kept.noted → IsHead os ns h → h.commit ≡ c → (g : Graph) (cs : List Change) (place : ℕ) → HasShapeOf kept g → TellsChanges kept cs → AreChanges g cs place
    → Holds h (table_at g (change_of cs) c)
at-hand kept os ns h c e f was at g cs place shape tells k = subst (λ n. Holds h (table_at g (change_of cs) n)) at (was.holds g cs place (e ∙ shape.parents) (f ∙ tells) k)

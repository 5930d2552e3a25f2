-- Histories that are kept have one table for each commit.
use Rattle.std.specs.Prelude.{◌≡◌, ◌==◌, ℕ, suc, List, [], ◌∷◌, ◌++◌, length, map}
use Rattle.std.specs.List.{AllByRecursion}
use Rattle.std.proofs.Common.{refl, sym, ◌∙◌, ap, ⊎_elim, arith, length-append}
use Rattle.std.proofs.lemmas.Bool.Decides.{eqb_tells}
use Rattle.std.proofs.lemmas.List.{map-append}
use Rattle.kishu_store.specs.Graph.{Commit, Target}
use Rattle.kishu_store.specs.Groups.{IsGroup, first_name}
use Rattle.kishu_store.specs.Histories.{History, head_table, table_to}
use Rattle.kishu_store.specs.Tables.{Table, Change, groups_in, put_rows, changes_in, change_of}
use Rattle.kishu_store_laws.specs.WalkLaws.{rows_left, rows_back, found-back}
use Rattle.kishu_graph.specs.Kept.{Kept, Noted, Outline, noted_of, noted_in, outlines, outline_of, parents_of}
use Rattle.kishu_session.specs.Known.{IsHistoryOf}

-- ---- lists that end alike

pub last-alike : {A : Type 0} (xs ys : List A) (x y : A) → xs ++ (x ∷ []) ≡ ys ++ (y ∷ []) → (xs ≡ ys) × (x ≡ y)
last-alike [] [] x y e = (refl, cc (e))
last-alike [] (b ∷ ys) x y e = absurd (let n : 1 ≡ length (b ∷ ys ++ (y ∷ [])) = ap length e in omega (arith, n, length-append ys (y ∷ [])))
last-alike (a ∷ xs) [] x y e = absurd (let n : length (a ∷ xs ++ (x ∷ [])) ≡ 1 = ap length e in omega (arith, n, length-append xs (x ∷ [])))
last-alike {A = A} (a ∷ xs) (b ∷ ys) x y e =
    let first : a ≡ b = cc (e) in
    let rest : xs ++ (x ∷ []) ≡ ys ++ (y ∷ []) = cc (e) in
    let k = last-alike xs ys x y rest in
    (ap (λ (z : A). z ∷ xs) first ∙ ap (λ (zs : List A). b ∷ zs) k.0, k.1)

-- ---- a table, by what is noted

-- the rows that are found on the way back
abbrev noted_back : List (List ℕ) → List Noted → Table
noted_back gone [] = []
noted_back gone (n ∷ ns) = rows_left gone n.stored ++ noted_back (n.dropped ++ gone) ns

back-noted : (gone : List (List ℕ)) (cs : List Change) → rows_back gone cs ≡ noted_back gone (map noted_of cs)
back-noted gone [] = refl
back-noted gone (c ∷ cs) = ap (λ (t : Table). rows_left gone c.stored ++ t) (back-noted (map first_name c.dropped ++ gone) cs)

path-groups : (ks : List Commit) (of : ℕ → Change) → ((c : ℕ) → AllByRecursion IsGroup (groups_in (of c).stored)) → (c : ℕ) → AllByRecursion (λ d. AllByRecursion IsGroup (groups_in d.stored)) (changes_in ks of c)
path-groups [] of each c = tt
path-groups (k ∷ ks) of each c = ⊎_elim (λ p. rw p.0 (each c, path-groups ks of each k.parent)) (λ p. rw p.0 (path-groups ks of each c)) (eqb_tells c (suc (length ks)))

-- ---- what is noted on a path, by parents

module _ (of on : ℕ → Change) (alike : (c : ℕ) → noted_of (of c) ≡ noted_of (on c)) where
  path-alike : (ks js : List Commit) → parents_of (outlines ks) ≡ parents_of (outlines js) → length ks ≡ length js → (c : ℕ) → map noted_of (changes_in ks of c) ≡ map noted_of (changes_in js on c)
  path-alike [] [] same long c = refl
  path-alike [] (j ∷ js) same long c = absurd (omega (arith, long))
  path-alike (k ∷ ks) [] same long c = absurd (omega (arith, long))
  path-alike (k ∷ ks) (j ∷ js) same long c =
      let parent = λ (o : Outline). o.parent in
      let ends : parents_of (outlines ks) ++ (k.parent ∷ []) ≡ parents_of (outlines js) ++ (j.parent ∷ []) = sym (map-append parent (outlines ks) (outline_of k ∷ [])) ∙ same ∙ map-append parent (outlines js) (outline_of j ∷ []) in
      let alike-last = last-alike (parents_of (outlines ks)) (parents_of (outlines js)) k.parent j.parent ends in
      let few : length ks ≡ length js = omega (arith, long) in
      let rest = path-alike ks js alike-last.0 few in
      ⊎_elim
      (λ p.
      let there : (c == suc (length js)) ≡ (c == suc (length ks)) = ap (λ (n : ℕ). c == suc n) (sym few) in
      rw (there, p.0)
      (ap (λ (n : Noted). n ∷ map noted_of (changes_in ks of k.parent)) (alike c)
      ∙ ap (λ (ns : List Noted). noted_of (on c) ∷ ns) (rest k.parent ∙ ap (λ (n : ℕ). map noted_of (changes_in js on n)) alike-last.1)))
      (λ p.
      let there : (c == suc (length js)) ≡ (c == suc (length ks)) = ap (λ (n : ℕ). c == suc n) (sym few) in
      rw (there, p.0) (rest c))
      (eqb_tells c (suc (length ks)))

length-noted : (cs : List Change) → length (noted_in cs) ≡ suc (length cs)
length-noted [] = refl
length-noted (c ∷ cs) = omega (arith, length-append (noted_in cs) (noted_of c ∷ []), length-noted cs)

-- what is noted of each commit
noted-alike : (cs ds : List Change) → noted_in cs ≡ noted_in ds → (c : ℕ) → noted_of (change_of cs c) ≡ noted_of (change_of ds c)
noted-alike [] [] same c = refl
noted-alike [] (d ∷ ds) same c = absurd (let n = ap length same in omega (arith, n, length-noted (d ∷ ds)))
noted-alike (e ∷ cs) [] same c = absurd (let n = ap length same in omega (arith, n, length-noted (e ∷ cs)))
noted-alike (e ∷ cs) (d ∷ ds) same c =
    let k = last-alike (noted_in cs) (noted_in ds) (noted_of e) (noted_of d) same in
    let few : length cs ≡ length ds = (let n = ap length k.0 in omega (arith, n, length-noted cs, length-noted ds)) in
    let there : (c == suc (length ds)) ≡ (c == suc (length cs)) = ap (λ (n : ℕ). c == suc n) (sym few) in
    ⊎_elim (λ p. rw (there, p.0) k.1) (λ p. rw (there, p.0) (noted-alike cs ds k.0 c)) (eqb_tells c (suc (length cs)))

-- ---- two histories

module _ (kept : Kept) (h j : History) (k : IsHistoryOf kept h) (l : IsHistoryOf kept j) where
  pub few-alike : length h.graph.commits ≡ length j.graph.commits
  few-alike =
      let a = ap length k.keeps.changes in
      let b = ap length l.keeps.changes in
      omega (arith, a, b, length-noted h.changes, length-noted j.changes, k.good.changes.counted, l.good.changes.counted)

  pub one-table : (c : ℕ) → table_to h c ≡ table_to j c
  one-table c =
      let of = change_of h.changes in
      let on = change_of j.changes in
      let noted = noted-alike h.changes j.changes (sym k.keeps.changes ∙ l.keeps.changes) in
      let path = path-alike of on noted h.graph.commits j.graph.commits (sym k.keeps.graph.shape.parents ∙ l.keeps.graph.shape.parents) few-alike c in
      let cs = changes_in h.graph.commits of c in
      let ds = changes_in j.graph.commits on c in
      sym (found-back cs (k.good.changes.fit c) (path-groups h.graph.commits of (λ n. (k.good.changes.each n).groups) c))
      ∙ ap (λ (t : Table). put_rows t []) (back-noted [] cs ∙ ap (noted_back []) path ∙ sym (back-noted [] ds))
      ∙ found-back ds (l.good.changes.fit c) (path-groups j.graph.commits on (λ n. (l.good.changes.each n).groups) c)

  pub one-head : h.graph.head.commit ≡ j.graph.head.commit
  one-head = ap (λ (t : Target). t.commit) (sym k.keeps.graph.shape.head ∙ l.keeps.graph.shape.head)

  pub one-head-table : head_table h ≡ head_table j
  one-head-table = one-table h.graph.head.commit ∙ ap (table_to j) one-head

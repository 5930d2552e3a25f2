-- Histories that are kept have one table for each commit, and as many cells on the path to their head.
use Rattle.std.proofs.Common.{◌≡◌, ◌≤◌, ◌+◌, ◌*◌, ◌^◌, ℕ, suc, List, [], ◌∷◌, ◌++◌, length, refl, sym, ◌∙◌, ap, subst, ⊎_elim, arith}
use Rattle.std.proofs.lemmas.Bool.Decides.{eqb_tells}
use Rattle.std.proofs.lemmas.List.{map-append}
use Rattle.kishu_store.specs.Graph.{Commit, path_in, cell_count, count_of}
use Rattle.kishu_store.specs.Histories.{History}
use Rattle.kishu_graph.specs.Kept.{Kept, Outline, outlines, outline_of, parents_of, counts_of}
use Rattle.kishu_session.specs.Head.{CountsPath}
use Rattle.kishu_session.specs.Known.{IsHistoryOf}
pub use Rattle.kishu_session.specs.OneTable.{last-alike, few-alike, one-table, one-head, one-head-table}
use Rattle.kishu_session.specs.declared.head.Head.{Head}
use Rattle.kishu_session.proofs.CountFacts.{counted-last, path-newest, path-other}

-- ---- the cells on a path, by parents and numbers of cells

cells-alike : (ks js : List Commit) → parents_of (outlines ks) ≡ parents_of (outlines js) → counts_of (outlines ks) ≡ counts_of (outlines js)
    → length ks ≡ length js → (c : ℕ) → cell_count (path_in ks c) ≡ cell_count (path_in js c)
cells-alike [] [] same counts long c = refl
cells-alike [] (j ∷ js) same counts long c = absurd (omega (arith, long))
cells-alike (k ∷ ks) [] same counts long c = absurd (omega (arith, long))
cells-alike (k ∷ ks) (j ∷ js) same counts long c =
    let parent = λ (o : Outline). o.parent in
    let own = λ (o : Outline). o.cells in
    let ends : parents_of (outlines ks) ++ (k.parent ∷ []) ≡ parents_of (outlines js) ++ (j.parent ∷ []) =
    sym (map-append parent (outlines ks) (outline_of k ∷ [])) ∙ same ∙ map-append parent (outlines js) (outline_of j ∷ []) in
    let counted : counts_of (outlines ks) ++ (length k.cells ∷ []) ≡ counts_of (outlines js) ++ (length j.cells ∷ []) =
    sym (map-append own (outlines ks) (outline_of k ∷ [])) ∙ counts ∙ map-append own (outlines js) (outline_of j ∷ []) in
    let up = last-alike (parents_of (outlines ks)) (parents_of (outlines js)) k.parent j.parent ends in
    let cells = last-alike (counts_of (outlines ks)) (counts_of (outlines js)) (length k.cells) (length j.cells) counted in
    let few : length ks ≡ length js = omega (arith, long) in
    let rest = cells-alike ks js up.0 cells.0 few in
    ⊎_elim
    (λ p.
    let here : cell_count (path_in (k ∷ ks) c) ≡ cell_count (path_in ks k.parent) + length k.cells =
    ap cell_count (path-newest k ks c p.1) ∙ counted-last (path_in ks k.parent) k in
    let there : cell_count (path_in (j ∷ js) c) ≡ cell_count (path_in js j.parent) + length j.cells =
    ap cell_count (path-newest j js c (p.1 ∙ ap suc few)) ∙ counted-last (path_in js j.parent) j in
    let before : cell_count (path_in ks k.parent) ≡ cell_count (path_in js j.parent) =
    rest k.parent ∙ ap (λ (n : ℕ). cell_count (path_in js n)) up.1 in
    let own_is : length k.cells ≡ length j.cells = cells.1 in
    omega (arith, here, there, before, own_is))
    (λ p.
    ap cell_count (path-other k ks c p.1)
    ∙ rest c
    ∙ sym (ap cell_count (path-other j js c (λ (e : c ≡ suc (length js)). p.1 (e ∙ ap suc (sym few))))))
    (eqb_tells c (suc (length ks)))

-- ---- two histories

module _ (kept : Kept) (h j : History) (k : IsHistoryOf kept h) (l : IsHistoryOf kept j) where
  -- The cells that are counted on the path to one's head are those of the other's.
  pub one-count : (head : Head) → CountsPath head h.graph → CountsPath head j.graph
  one-count head count =
      let parents = sym k.keeps.graph.shape.parents ∙ l.keeps.graph.shape.parents in
      let counts = sym k.keeps.graph.cells.counts ∙ l.keeps.graph.cells.counts in
      record {
        is =
            count.is
            ∙ cells-alike h.graph.commits j.graph.commits parents counts (few-alike kept h j k l) h.graph.head.commit
            ∙ ap (λ (c : ℕ). count_of j.graph c) (one-head kept h j k l);
        few = subst (λ (n : ℕ). head.cells ≤ n * 2 ^ 32) (few-alike kept h j k l) count.few;
      }

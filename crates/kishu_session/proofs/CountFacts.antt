-- How many cells are on the path to a commit, by the way back to the root.
use Rattle.std.proofs.Common.{◌≡◌, ◌<◌, ◌≤◌, ◌+◌, ℕ, suc, List, [], ◌∷◌, ◌++◌, length, refl, sym, ap, ◌∙◌, ⊎_elim, arith}
use Rattle.std.proofs.lemmas.Bool.Decides.{eqb_tells}
use Rattle.kishu_store.specs.Graph.{Commit, path_in, cell_count}
use Rattle.kishu_store_laws.specs.GraphLaws.{AreOrdered}
use Rattle.kishu_graph.specs.Kept.{Outline, outline_in}
use Rattle.kishu_graph.specs.Laws.{outline-older, outline-newest}

pub counted-last : (ks : List Commit) (k : Commit) → cell_count (ks ++ (k ∷ [])) ≡ cell_count ks + length k.cells
counted-last [] k = omega arith
counted-last (j ∷ ks) k = omega (arith, counted-last ks k)

pub path-other : (k : Commit) (ks : List Commit) (c : ℕ) → (c ≡ suc (length ks) → ⊥) → path_in (k ∷ ks) c ≡ path_in ks c
path-other k ks c other = ⊎_elim (λ p. absurd (other p.1)) (λ p. rw p.0 refl) (eqb_tells c (suc (length ks)))

path-older : (k : Commit) (ks : List Commit) (c : ℕ) → c < suc (length ks) → path_in (k ∷ ks) c ≡ path_in ks c
path-older k ks c h = ⊎_elim (λ p. absurd (omega (arith, h, p.1))) (λ p. rw p.0 refl) (eqb_tells c (suc (length ks)))

pub path-newest : (k : Commit) (ks : List Commit) (c : ℕ) → c ≡ suc (length ks) → path_in (k ∷ ks) c ≡ path_in ks k.parent ++ (k ∷ [])
path-newest k ks c e = ⊎_elim (λ p. rw p.0 refl) (λ p. absurd (p.1 e)) (eqb_tells c (suc (length ks)))

parent-below : (ks : List Commit) (c : ℕ) → AreOrdered ks → (outline_in ks c).parent ≤ length ks
parent-below [] c all = omega arith
parent-below (k ∷ ks) c all =
    ⊎_elim
    (λ p. omega (arith, ap (λ (o : Outline). o.parent) (outline-newest k ks c p.1), all.0))
    (λ p. rw p.0 (omega (arith, parent-below ks c all.1)))
    (eqb_tells c (suc (length ks)))

-- Those of a commit are its own, and those of its parent.
pub count-on : (ks : List Commit) (c : ℕ) → AreOrdered ks → 0 < c → c < suc (length ks) → cell_count (path_in ks c) ≡ (outline_in ks c).cells + cell_count (path_in ks (outline_in ks c).parent)
count-on [] c all p h = absurd (omega (arith, p, h))
count-on (k ∷ ks) c all p h =
    ⊎_elim
    (λ e.
    let here : outline_in (k ∷ ks) c ≡ record { parent = k.parent; profile = k.profile; cells = length k.cells; line = (outline_in (k ∷ ks) c).line } = outline-newest k ks c e.1 ∙ ap (λ (o : Outline). record { parent = k.parent; profile = k.profile; cells = length k.cells; line = o.line }) (sym (outline-newest k ks c e.1)) in
    let own : (outline_in (k ∷ ks) c).cells ≡ length k.cells = ap (λ (o : Outline). o.cells) here in
    let up : cell_count (path_in (k ∷ ks) (outline_in (k ∷ ks) c).parent) ≡ cell_count (path_in ks k.parent) =
    ap (λ (o : Outline). cell_count (path_in (k ∷ ks) o.parent)) here ∙ ap cell_count (path-older k ks k.parent (omega (arith, all.0))) in
    let all_is : cell_count (path_in (k ∷ ks) c) ≡ cell_count (path_in ks k.parent) + length k.cells = ap cell_count (path-newest k ks c e.1) ∙ counted-last (path_in ks k.parent) k in
    omega (arith, own, up, all_is))
    (λ e.
    let less : c < suc (length ks) = omega (arith, h, e.1) in
    let here = outline-older k ks c less in
    let own : (outline_in (k ∷ ks) c).cells ≡ (outline_in ks c).cells = ap (λ (o : Outline). o.cells) here in
    let up : cell_count (path_in (k ∷ ks) (outline_in (k ∷ ks) c).parent) ≡ cell_count (path_in ks (outline_in ks c).parent) =
    ap (λ (o : Outline). cell_count (path_in (k ∷ ks) o.parent)) here ∙ ap cell_count (path-older k ks (outline_in ks c).parent (omega (arith, parent-below ks c all.1))) in
    let all_is : cell_count (path_in (k ∷ ks) c) ≡ cell_count (path_in ks c) = ap cell_count (path-older k ks c less) in
    omega (arith, own, up, all_is, count-on ks c all.1 p less))
    (eqb_tells c (suc (length ks)))

-- The root has none.
pub count-root : (ks : List Commit) → cell_count (path_in ks 0) ≡ 0
count-root [] = refl
count-root (k ∷ ks) = ap cell_count (path-older k ks 0 (omega arith)) ∙ count-root ks

-- one commit more on the way back
pub count-step : (ks : List Commit) (c parent own old whole : ℕ) → AreOrdered ks → 0 < c → c < suc (length ks) → parent ≡ (outline_in ks c).parent → own ≡ (outline_in ks c).cells
    → old + cell_count (path_in ks c) ≡ whole → old + own + cell_count (path_in ks parent) ≡ whole
count-step ks c parent own old whole all p h up cells before =
    let here = count-on ks c all p h in
    let there : cell_count (path_in ks parent) ≡ cell_count (path_in ks (outline_in ks c).parent) = ap (λ (n : ℕ). cell_count (path_in ks n)) up in
    omega (arith, here, there, cells, before)

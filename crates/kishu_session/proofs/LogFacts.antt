-- The rows of a log, from the head's commit back.
use Rattle.std.proofs.Common.{◌≡◌, ◌<◌, ◌≤◌, ℕ, suc, List, [], ◌∷◌, ◌++◌, length, map, refl, sym, ap, ◌∙◌, ⊎_elim, arith, append_assoc}
use Rattle.std.proofs.lemmas.Bool.Decides.{eqb_tells}
use Rattle.std.proofs.lemmas.List.{append-nil}
use Rattle.std.specs.List.{AllByRecursion}
use Rattle.kishu_store.specs.Graph.{Commit, Graph, Numbered, back_in}
use Rattle.kishu_store_laws.specs.GraphLaws.{AreOrdered}
use Rattle.kishu_graph.specs.Kept.{Kept, Outline, outline_in, HasShapeOf}
use Rattle.kishu_graph.specs.Laws.{count-shape, back-older, back-root, outline-older, outline-newest}
use Rattle.kishu_graph.specs.PathLaws.{IsNamed, back-named}
use Rattle.kishu_model.specs.Answers.{PathRow}
use Rattle.kishu_model.specs.requests.Log.{row_of as told}
use Rattle.kishu_session.specs.LogRows.{row_by, row_at}

-- the numbers on the way back from a commit
abbrev pub back_numbers : List Commit → ℕ → List ℕ
back_numbers ks c = map (λ n. n.number) (back_in ks c)

abbrev pub rows_at : List Commit → ℕ → List PathRow
rows_at ks c = map (row_at ks) (back_numbers ks c)

rows-named : (ks : List Commit) (ns : List Numbered) → AllByRecursion (IsNamed ks) ns → map told ns ≡ map (row_at ks) (map (λ n. n.number) ns)
rows-named ks [] all = refl
rows-named ks (n ∷ ns) all =
    ap (λ (o : Outline). row_by n.number o ∷ map told ns) (sym all.0.is)
    ∙ ap (λ (rs : List PathRow). row_at ks n.number ∷ rs) (rows-named ks ns all.1)

pub rows-told : (ks : List Commit) (c : ℕ) → map told (back_in ks c) ≡ rows_at ks c
rows-told ks c = rows-named ks (back_in ks c) (back-named ks c)

parent-most : (ks : List Commit) (c : ℕ) → AreOrdered ks → (outline_in ks c).parent ≤ length ks
parent-most [] c all = omega arith
parent-most (k ∷ ks) c all =
    ⊎_elim
    (λ p. omega (arith, ap (λ (o : Outline). o.parent) (outline-newest k ks c p.1), all.0))
    (λ p. rw p.0 (omega (arith, parent-most ks c all.1)))
    (eqb_tells c (suc (length ks)))

newest-back : (k : Commit) (ks : List Commit) (c : ℕ) → c ≡ suc (length ks) → back_in (k ∷ ks) c ≡ record { number = c; commit = k } ∷ back_in ks k.parent
newest-back k ks c e = ⊎_elim (λ p. rw p.0 refl) (λ p. absurd (p.1 e)) (eqb_tells c (suc (length ks)))

-- From a commit the way goes on to its parent.
pub back-on : (ks : List Commit) (c : ℕ) → AreOrdered ks → 0 < c → c < suc (length ks) → back_numbers ks c ≡ c ∷ back_numbers ks (outline_in ks c).parent
back-on [] c all p h = absurd (omega (arith, p, h))
back-on (k ∷ ks) c all p h =
    ⊎_elim
    (λ e.
    ap (map (λ (n : Numbered). n.number)) (newest-back k ks c e.1)
    ∙ ap (λ (l : List Numbered). c ∷ map (λ (n : Numbered). n.number) l) (sym (back-older k ks k.parent (omega (arith, all.0))))
    ∙ ap (λ (o : Outline). c ∷ back_numbers (k ∷ ks) o.parent) (sym (outline-newest k ks c e.1)))
    (λ e.
    let less : c < suc (length ks) = omega (arith, h, e.1) in
    ap (map (λ (n : Numbered). n.number)) (back-older k ks c less)
    ∙ back-on ks c all.1 p less
    ∙ ap (λ (l : List Numbered). c ∷ map (λ (n : Numbered). n.number) l) (sym (back-older k ks (outline_in ks c).parent (omega (arith, parent-most ks c all.1))))
    ∙ ap (λ (o : Outline). c ∷ back_numbers (k ∷ ks) o.parent) (sym (outline-older k ks c less)))
    (eqb_tells c (suc (length ks)))

-- one row more
pub rows-on : (ks : List Commit) (c parent : ℕ) (row : PathRow) (old new whole : List PathRow) → AreOrdered ks → 0 < c → c < suc (length ks) → parent ≡ (outline_in ks c).parent → row ≡ row_at ks c
    → new ≡ old ++ (row ∷ []) → old ++ rows_at ks c ≡ whole → new ++ rows_at ks parent ≡ whole
rows-on ks c parent row old new whole all p h up is more before =
    ap (λ (l : List PathRow). l ++ rows_at ks parent) more
    ∙ append_assoc old (row ∷ []) (rows_at ks parent)
    ∙ ap (λ (r : PathRow). old ++ (r ∷ rows_at ks parent)) is
    ∙ ap (λ (n : ℕ). old ++ (row_at ks c ∷ rows_at ks n)) up
    ∙ ap (λ (ns : List ℕ). old ++ map (row_at ks) ns) (sym (back-on ks c all p h))
    ∙ before

-- at the root none is left
pub rows-end : (ks : List Commit) (c : ℕ) (now whole : List PathRow) → c ≡ 0 → now ++ rows_at ks c ≡ whole → now ≡ whole
rows-end ks c now whole e before =
    sym (append-nil now)
    ∙ ap (λ (l : List Numbered). now ++ map (row_at ks) (map (λ (n : Numbered). n.number) l)) (sym (back-root ks))
    ∙ ap (λ (n : ℕ). now ++ rows_at ks n) (sym e)
    ∙ before

pub there-is : (kept : Kept) (g : Graph) (c : ℕ) → HasShapeOf kept g → c < length kept.commits → c < suc (length g.commits)
there-is kept g c k there = omega (arith, there, count-shape kept g k)

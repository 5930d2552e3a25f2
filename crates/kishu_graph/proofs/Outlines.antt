-- What is kept of commits in the program's values.
use Rattle.std.proofs.Common.{◌≡◌, ◌<◌, ℕ, List, [], ◌∷◌, ◌++◌, length, map, get_or, sym, ap, subst, ◌∙◌, arith, append_assoc}
use Rattle.std.proofs.lemmas.List.{get_or-map, length-map, append-nil}
use Rattle.kishu_store.specs.Graph.{Commit, Numbered}
use Rattle.kishu_graph.specs.declared.commits.Commit as rust
use Rattle.kishu_graph.specs.Kept.{Outline, outline, outlines, outline_in, HaveParents, parents_of}
use Rattle.kishu_graph.specs.Laws.{length-outlines, outline-at, back_numbers, back-step, back-root}

pub parent-below : (xs : List rust.Commit) (i : ℕ) (d : rust.Commit) → HaveParents (map outline xs) → 0 < i → i < length xs → (get_or xs i d).parent < i
parent-below xs i d all p h = subst (λ (o : Outline). o.parent < i) (get_or-map outline xs i d (outline d) h) (all i (outline d) p (omega (arith, h, length-map xs outline)))

-- So the way back stays among them.
pub parent-there : (xs : List rust.Commit) (i : ℕ) (d : rust.Commit) → HaveParents (map outline xs) → 0 < i → i < length xs → (get_or xs i d).parent < length xs
parent-there xs i d all p h = omega (arith, parent-below xs i d all p h, h)

-- Where something is alike of all commits, it is alike of each.
same-at : {B : Type 0} (f : Outline → B) (os ps : List Outline) → map f os ≡ map f ps → (i : ℕ) (d : Outline) → i < length os → f (get_or os i d) ≡ f (get_or ps i d)
same-at f os ps e i d h =
    let there : i < length ps = omega (arith, h, sym (length-map os f) ∙ ap length e ∙ length-map ps f) in
    sym (get_or-map f os i d (f d) h) ∙ ap (λ l. get_or l i (f d)) e ∙ get_or-map f ps i d (f d) there

pub have-same : (os ps : List Outline) → parents_of os ≡ parents_of ps → HaveParents os → HaveParents ps
have-same os ps e all i d p h =
    let parent = λ (o : Outline). o.parent in
    let there : i < length os = omega (arith, h, sym (length-map os parent) ∙ ap length e ∙ length-map ps parent) in
    subst (λ (n : ℕ). n < i) (same-at parent os ps e i d there) (all i d p there)

-- What is kept of a commit is what the definition says.
pub told-at : {B : Type 0} (f : Outline → B) (os : List Outline) (ks : List Commit) → map f os ≡ map f (outlines ks) → (c : ℕ) (d : Outline) → c < length os → f (get_or os c d) ≡ f (outline_in ks c)
told-at f os ks e c d h =
    let there : c < length (outlines ks) = omega (arith, h, sym (length-map os f) ∙ ap length e ∙ length-map (outlines ks) f) in
    same-at f os (outlines ks) e c d h ∙ ap f (outline-at ks c d (omega (arith, there, length-outlines ks)))

module _ (xs : List rust.Commit) (ks : List Commit) where
  -- the same in the program's values
  pub kept-at : {B : Type 0} (f : Outline → B) → map f (map outline xs) ≡ map f (outlines ks) → (c : ℕ) (d : rust.Commit) → c < length xs → f (outline (get_or xs c d)) ≡ f (outline_in ks c)
  kept-at f e c d h = ap f (sym (get_or-map outline xs c d (outline d) h)) ∙ told-at f (map outline xs) ks e c (outline d) (omega (arith, h, length-map xs outline))

  module _ (e : parents_of (map outline xs) ≡ parents_of (outlines ks)) where
    -- one step back
    pub steps-back : (c : ℕ) (d : rust.Commit) → HaveParents (map outline xs) → 0 < c → c < length xs → back_numbers ks c ≡ c ∷ back_numbers ks (get_or xs c d).parent
    steps-back c d all p h =
        let parent = λ (o : Outline). o.parent in
        let here : c < length (map outline xs) = omega (arith, h, length-map xs outline) in
        let there : c < length (outlines ks) = omega (arith, here, sym (length-map (map outline xs) parent) ∙ ap length e ∙ length-map (outlines ks) parent) in
        back-step ks c (outline d) p (omega (arith, there, length-outlines ks)) (have-same (map outline xs) (outlines ks) e all)
        ∙ ap (λ (n : ℕ). c ∷ back_numbers ks n) (sym (same-at parent (map outline xs) (outlines ks) e c (outline d) here) ∙ ap parent (get_or-map outline xs c d (outline d) h))

    -- one number more
    pub one-more : (c : ℕ) (d : rust.Commit) → HaveParents (map outline xs) → 0 < c → c < length xs → (numbers new : List ℕ) → new ≡ numbers ++ (c ∷ [])
        → new ++ back_numbers ks (get_or xs c d).parent ≡ numbers ++ back_numbers ks c
    one-more c d all p h numbers new is =
        ap (λ (l : List ℕ). l ++ back_numbers ks (get_or xs c d).parent) is
        ∙ append_assoc numbers (c ∷ []) (back_numbers ks (get_or xs c d).parent)
        ∙ ap (λ (l : List ℕ). numbers ++ l) (sym (steps-back c d all p h))

pub none-left : (ks : List Commit) (c : ℕ) (numbers : List ℕ) → c ≡ 0 → numbers ≡ numbers ++ back_numbers ks c
none-left ks c numbers root = sym (append-nil numbers) ∙ ap (λ (l : List ℕ). numbers ++ l) (sym (ap (back_numbers ks) root ∙ ap (map (λ (n : Numbered). n.number)) (back-root ks)))

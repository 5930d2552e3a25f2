-- What follows from the definitions of what a graph keeps.
use Rattle.std.proofs.Common.{◌≡◌, ◌<◌, ℕ, zero, suc, List, [], ◌∷◌, ◌++◌, length, map, get_or, Option, refl, sym, ap, subst, ◌∙◌, ⊎_elim, arith, length-append, append_assoc}
use Rattle.std.proofs.lemmas.List.{get_or_append_left, length-map, map_push, append-nil}
use Rattle.std.proofs.Math.Seq.{get_or-append_seam}
use Rattle.std.proofs.lemmas.Bool.Decides.{eqb_tells}
use Rattle.std.specs.Prelude.{◌==◌, if◌then◌else◌}
use Rattle.kishu_language.specs.declared.profile.Profile.{Profile}
use Rattle.kishu_store.specs.Graph.{Commit, Graph, Numbered, Target, back_in, newest, with_head, with_branch}
use Rattle.kishu_graph.specs.Kept.{Kept, Outline, root, outline_of, outlines, outline_in, HaveParents, HasShapeOf, TellsCellsOf, StandsFor, IsSound, parents_of, profiles_of, counts_of, lines_of, bare_commit, bare_after, bare_commits, bare_graph}
use Rattle.kishu_graph.specs.Refusals.{HasMoved, HasBranched}

-- ---- how many there are

pub length-outlines : (ks : List Commit) → length (outlines ks) ≡ suc (length ks)
length-outlines [] = refl
length-outlines (k ∷ ks) = omega (arith, length-append (outlines ks) (outline_of k ∷ []), length-outlines ks)

-- ---- the newest commit, and those before it

-- Of the numbers of a list of commits only the newest is one more than there are before it.
older : {A : Type 0} (n c : ℕ) (x y : A) → c < suc n → (if c == suc n then x else y) ≡ y
older n c x y h = ⊎_elim (λ p. absurd (omega (arith, h, p.1))) (λ p. rw p.0 refl) (eqb_tells c (suc n))

newest_is : {A : Type 0} (n c : ℕ) (x y : A) → c ≡ suc n → (if c == suc n then x else y) ≡ x
newest_is n c x y h = ⊎_elim (λ p. rw p.0 refl) (λ p. absurd (p.1 h)) (eqb_tells c (suc n))

pub back-older : (k : Commit) (ks : List Commit) (c : ℕ) → c < suc (length ks) → back_in (k ∷ ks) c ≡ back_in ks c
back-older k ks c h = older (length ks) c (record { number = c; commit = k } ∷ back_in ks k.parent) (back_in ks c) h

back-newest : (k : Commit) (ks : List Commit) (c : ℕ) → c ≡ suc (length ks) → back_in (k ∷ ks) c ≡ record { number = c; commit = k } ∷ back_in ks k.parent
back-newest k ks c h = newest_is (length ks) c (record { number = c; commit = k } ∷ back_in ks k.parent) (back_in ks c) h

pub outline-older : (k : Commit) (ks : List Commit) (c : ℕ) → c < suc (length ks) → outline_in (k ∷ ks) c ≡ outline_in ks c
outline-older k ks c h = older (length ks) c (outline_of k) (outline_in ks c) h

pub outline-newest : (k : Commit) (ks : List Commit) (c : ℕ) → c ≡ suc (length ks) → outline_in (k ∷ ks) c ≡ outline_of k
outline-newest k ks c h = newest_is (length ks) c (outline_of k) (outline_in ks c) h

-- ---- what is kept of a commit

at_newest : (k : Commit) (ks : List Commit) (c : ℕ) (d : Outline) → c ≡ suc (length ks) → get_or (outlines (k ∷ ks)) c d ≡ outline_of k
at_newest k ks c d h = ap (λ i. get_or (outlines (k ∷ ks)) i d) (h ∙ sym (length-outlines ks)) ∙ get_or-append_seam (outlines ks) (outline_of k) [] d

at_older : (k : Commit) (ks : List Commit) (c : ℕ) (d : Outline) → c < suc (length ks) → get_or (outlines (k ∷ ks)) c d ≡ get_or (outlines ks) c d
at_older k ks c d h = get_or_append_left (outlines ks) (outline_of k ∷ []) d c (omega (arith, h, length-outlines ks))

pub outline-at : (ks : List Commit) (c : ℕ) (d : Outline) → c < suc (length ks) → get_or (outlines ks) c d ≡ outline_in ks c
outline-at [] zero d h = refl
outline-at [] (suc c) d h = absurd (omega (arith, h))
outline-at (k ∷ ks) c d h =
    ⊎_elim
    (λ p. at_newest k ks c d p.1 ∙ sym (outline-newest k ks c p.1))
    (λ p.
    let less : c < suc (length ks) = omega (arith, h, p.1) in
    at_older k ks c d less ∙ outline-at ks c d less ∙ sym (outline-older k ks c less))
    (eqb_tells c (suc (length ks)))

-- what holds of the parents of all, holds of those of the older ones
parents-older : (k : Commit) (ks : List Commit) → HaveParents (outlines (k ∷ ks)) → HaveParents (outlines ks)
parents-older k ks all i d p q =
    let same = get_or_append_left (outlines ks) (outline_of k ∷ []) d i q in
    subst (λ o. o.parent < i) same (all i d p (omega (arith, q, length-append (outlines ks) (outline_of k ∷ []))))

-- ---- the way back

pub back-root : (ks : List Commit) → back_in ks 0 ≡ []
back-root [] = refl
back-root (k ∷ ks) = back-older k ks 0 (omega arith) ∙ back-root ks

-- the numbers on the way back from a commit
abbrev pub back_numbers : List Commit → ℕ → List ℕ
back_numbers ks c = map (λ n. n.number) (back_in ks c)

-- From a commit the way goes on to its parent.
pub back-step : (ks : List Commit) (c : ℕ) (d : Outline) → 0 < c → c < suc (length ks) → HaveParents (outlines ks) → back_numbers ks c ≡ c ∷ back_numbers ks (get_or (outlines ks) c d).parent
back-step [] c d p h all = absurd (omega (arith, p, h))
back-step (k ∷ ks) c d p h all =
    ⊎_elim
    (λ e.
    let here = at_newest k ks c d e.1 in
    let below : (outline_of k).parent < c = subst (λ o. o.parent < c) here (all c d p (omega (arith, h, length-append (outlines ks) (outline_of k ∷ []), length-outlines ks))) in
    let less : k.parent < suc (length ks) = omega (arith, below, e.1) in
    ap (map (λ (n : Numbered). n.number)) (back-newest k ks c e.1)
    ∙ ap (λ (l : List Numbered). c ∷ map (λ (n : Numbered). n.number) l) (sym (back-older k ks k.parent less))
    ∙ ap (λ (o : Outline). c ∷ back_numbers (k ∷ ks) o.parent) (sym here))
    (λ e.
    let less : c < suc (length ks) = omega (arith, h, e.1) in
    let here = at_older k ks c d less in
    let rest = parents-older k ks all in
    let below : (get_or (outlines ks) c d).parent < c = rest c d p (omega (arith, less, length-outlines ks)) in
    ap (map (λ (n : Numbered). n.number)) (back-older k ks c less)
    ∙ back-step ks c d p less rest
    ∙ ap (λ (l : List Numbered). c ∷ map (λ (n : Numbered). n.number) l) (sym (back-older k ks (get_or (outlines ks) c d).parent (omega (arith, below, less))))
    ∙ ap (λ (o : Outline). c ∷ back_numbers (k ∷ ks) o.parent) (sym here))
    (eqb_tells c (suc (length ks)))

-- ---- what is kept of a graph

pub count-shape : (kept : Kept) (g : Graph) → HasShapeOf kept g → length kept.commits ≡ suc (newest g)
count-shape kept g s =
    let parent = λ (o : Outline). o.parent in
    sym (length-map kept.commits parent) ∙ ap length s.parents ∙ length-map (outlines g.commits) parent ∙ length-outlines g.commits

-- Commits whose parents, profiles, numbers of cells and lines are alike are alike.
same-outlines : (os ps : List Outline) → parents_of os ≡ parents_of ps → profiles_of os ≡ profiles_of ps → counts_of os ≡ counts_of ps → lines_of os ≡ lines_of ps → os ≡ ps
same-outlines [] [] a b c d = refl
same-outlines [] (p ∷ ps) a b c d = absurd (cc (a))
same-outlines (o ∷ os) [] a b c d = absurd (cc (a))
same-outlines (o ∷ os) (p ∷ ps) a b c d =
    let parent : o.parent ≡ p.parent = cc (a) in
    let profile : o.profile ≡ p.profile = cc (b) in
    let cells : o.cells ≡ p.cells = cc (c) in
    let line : o.line ≡ p.line = cc (d) in
    let rest = same-outlines os ps (cc (a)) (cc (b)) (cc (c)) (cc (d)) in
    ap (λ (l : List Outline). o ∷ l) rest
    ∙ ap (λ (n : ℕ). record { parent = n; profile = o.profile; cells = o.cells; line = o.line } ∷ ps) parent
    ∙ ap (λ (q : Profile). record { parent = p.parent; profile = q; cells = o.cells; line = o.line } ∷ ps) profile
    ∙ ap (λ (n : ℕ). record { parent = p.parent; profile = p.profile; cells = n; line = o.line } ∷ ps) cells
    ∙ ap (λ (l : List ℕ). record { parent = p.parent; profile = p.profile; cells = p.cells; line = l } ∷ ps) line

pub outlines-kept : (kept : Kept) (g : Graph) → StandsFor kept g → kept.commits ≡ outlines g.commits
outlines-kept kept g s = same-outlines kept.commits (outlines g.commits) s.shape.parents s.shape.profiles s.cells.counts s.cells.lines

-- Where the commits are the same, their cells are told alike.
pub tells-kept : (old new : Kept) (g : Graph) → new.commits ≡ old.commits → TellsCellsOf old g → TellsCellsOf new g
tells-kept old new g same t = record { counts = ap counts_of same ∙ t.counts; lines = ap lines_of same ∙ t.lines }

pub moved-stands : (target : Option Target) (g : Graph) (c : ℕ) (old new : Kept) → StandsFor old g → (m : HasMoved target g c old new) → StandsFor new (with_head m.there g)
moved-stands target g c old new s m = (let cells = tells-kept old new g m.commits s.cells in record { shape = m.shape; cells = record { counts = cells.counts; lines = cells.lines } })

pub branched-stands : (name : List ℕ) (start : Option ℕ) (g : Graph) (c : ℕ) (old new : Kept) → StandsFor old g → HasBranched name start g c old new → StandsFor new (with_branch name c g)
branched-stands name start g c old new s b = (let cells = tells-kept old new g b.commits s.cells in record { shape = b.shape; cells = record { counts = cells.counts; lines = cells.lines } })

-- ---- the graph whose commits have no cells

bare-field : {B : Type 0} (f : Outline → B) → ((o : Outline) → f (outline_of (bare_commit o)) ≡ f o) → (ks : List Commit) (os : List Outline) → map f (outlines (bare_after ks os)) ≡ map f (outlines ks) ++ map f os
bare-field f same ks [] = sym (append-nil (map f (outlines ks)))
bare-field f same ks (o ∷ os) =
    bare-field f same (bare_commit o ∷ ks) os
    ∙ ap (λ l. l ++ map f os) (map_push f (outlines ks) (outline_of (bare_commit o)))
    ∙ append_assoc (map f (outlines ks)) (f (outline_of (bare_commit o)) ∷ []) (map f os)
    ∙ ap (λ x. map f (outlines ks) ++ (x ∷ map f os)) (same o)

bare-all : {B : Type 0} (f : Outline → B) → ((o : Outline) → f (outline_of (bare_commit o)) ≡ f o) → (os : List Outline) → 0 < length os → get_or os 0 root ≡ root → map f os ≡ map f (outlines (bare_commits os))
bare-all f same [] some is = absurd (omega (arith, some))
bare-all f same (o ∷ os) some is = ap (λ x. f x ∷ map f os) is ∙ sym (bare-field f same [] os)

-- There always is a graph of the shape of what is kept.
pub bare-shape : (kept : Kept) → IsSound kept → HasShapeOf kept (bare_graph kept)
bare-shape kept s =
    let some : 0 < length kept.commits = omega (arith, s.head) in
    record {
      parents = bare-all (λ (o : Outline). o.parent) (λ o. refl) kept.commits some s.root_is;
      profiles = bare-all (λ (o : Outline). o.profile) (λ o. refl) kept.commits some s.root_is;
      branches = refl;
      head = refl;
      records = refl;
    }

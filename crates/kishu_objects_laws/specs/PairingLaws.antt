-- States are the same where a closed pairing of their nodes relates their names.
use Rattle.std.specs.Prelude.{◌≡◌, ℕ, zero, suc, List, [], ◌∷◌, length, slice_get, Option, Some, None, option_and_then}
use Rattle.std.specs.List.{AllZip}
use Rattle.std.proofs.Common.{refl, ap, sym, ◌∙◌, subst, arith}
use Rattle.kishu_meaning.specs.values.Values.{Value, node, State, find}
use Rattle.kishu_objects.specs.Shape.{children, node_at, child, reached}
use Rattle.kishu_objects.specs.Same.{plain, inside, view, BothOrNone, SameWhere}
use Rattle.kishu_objects.specs.Pairings.{Alike, bare, Pairs}
use Rattle.kishu_objects_laws.specs.ShapeLaws.{bare-length}

-- ---- paired states are the same

module _ (P : ℕ → ℕ → Type 0) (N : List ℕ → Type 0) (s t : State) (pairs : Pairs P N s t) where
  zip_at : (vs ws : List Value) (c : ℕ) → AllZip (Alike P) vs ws → BothOrNone (Alike P) (slice_get vs c) (slice_get ws c)
  zip_at [] [] c h = tt
  zip_at (v ∷ vs) (w ∷ ws) zero h = h.0
  zip_at (v ∷ vs) (w ∷ ws) (suc c) h = zip_at vs ws c h.1
  zip_at [] (w ∷ ws) c h = absurd h
  zip_at (v ∷ vs) [] c h = absurd h

  child_alike : (c : ℕ) (v w : Value) → Alike P v w → BothOrNone (Alike P) (child s.nodes c v) (child t.nodes c w)
  child_alike c (node i) (node j) h = zip_at (children (node_at s.nodes i)) (children (node_at t.nodes j)) c (pairs.leads_on i j h)
  child_alike c (node i) w h = absurd h
  child_alike c v (node j) h = absurd h
  child_alike c v w h = tt

  step_alike : (c : ℕ) (o q : Option Value) → BothOrNone (Alike P) o q → BothOrNone (Alike P) (option_and_then (child s.nodes c) o) (option_and_then (child t.nodes c) q)
  step_alike c None None h = tt
  step_alike c (Some v) (Some w) h = child_alike c v w h
  step_alike c None (Some w) h = absurd h
  step_alike c (Some v) None h = absurd h

  -- Where a closed pairing relates the names, one path reaches corresponding values.
  pub reached_alike : (x p : List ℕ) → N x → BothOrNone (Alike P) (reached s x p) (reached t x p)
  reached_alike x [] n = pairs.names x n
  reached_alike x (c ∷ p) n = step_alike c (reached s x p) (reached t x p) (reached_alike x p n)

  view_alike : (v w : Value) → Alike P v w → view s.nodes v ≡ view t.nodes w
  view_alike (node i) (node j) h = ap inside (pairs.shows i j h)
  view_alike (node i) w h = absurd h
  view_alike v (node j) h = absurd h
  view_alike v w h = ap plain h

  views_alike : (o q : Option Value) → BothOrNone (Alike P) o q → BothOrNone (λ v w. view s.nodes v ≡ view t.nodes w) o q
  views_alike None None h = tt
  views_alike (Some v) (Some w) h = view_alike v w h
  views_alike None (Some w) h = absurd h
  views_alike (Some v) None h = absurd h

  -- the node on the other side
  there : (i : ℕ) (q : Option Value) → BothOrNone (Alike P) (Some (node i)) q → (j : ℕ) × (q ≡ Some (node j)) × P i j
  there i (Some (node j)) h = (j, refl, h)
  there i (Some w) h = absurd h
  there i None h = absurd h

  here : (j : ℕ) (o : Option Value) → BothOrNone (Alike P) o (Some (node j)) → (i : ℕ) × (o ≡ Some (node i)) × P i j
  here j (Some (node i)) h = (i, refl, h)
  here j (Some v) h = absurd h
  here j None h = absurd h

  -- States of which a closed pairing relates the names are the same.
  pub pairs_same : SameWhere N s t
  pairs_same = record {
    views = λ x p n. views_alike (reached s x p) (reached t x p) (reached_alike x p n);
    shared_there = λ x p y q n m h.
        let a = there h.0 (reached t x p) (subst (λ o. BothOrNone (Alike P) o (reached t x p)) h.1 (reached_alike x p n)) in
        let b = there h.0 (reached t y q) (subst (λ o. BothOrNone (Alike P) o (reached t y q)) h.2 (reached_alike y q m)) in
        (a.0, a.1, b.1 ∙ ap (λ j. Some (node j)) (pairs.one_right h.0 b.0 a.0 b.2 a.2));
    shared_here = λ x p y q n m h.
        let a = here h.0 (reached s x p) (subst (λ o. BothOrNone (Alike P) (reached s x p) o) h.1 (reached_alike x p n)) in
        let b = here h.0 (reached s y q) (subst (λ o. BothOrNone (Alike P) (reached s y q) o) h.2 (reached_alike y q m)) in
        (a.0, a.1, b.1 ∙ ap (λ j. Some (node j)) (pairs.one_left b.0 a.0 h.0 b.2 a.2));
  }

-- ---- the same states are paired by their paths

module _ (N : List ℕ → Type 0) (s t : State) (same : SameWhere N s t) where
  -- some path reaches the one here and the other there
  abbrev pub ByPath : ℕ → ℕ → Type 0
  ByPath i j = (x : List ℕ) × (p : List ℕ) × N x × (reached s x p ≡ Some (node i)) × (reached t x p ≡ Some (node j))

  path_right : (i j k : ℕ) → ByPath i j → ByPath i k → j ≡ k
  path_right i j k g h =
      let m = same.shared_there g.0 g.1 h.0 h.1 g.2 h.2 (i, g.3, h.3) in
      let e : Some (node j) ≡ Some (node m.0) = sym g.4 ∙ m.1 in
      let f : Some (node k) ≡ Some (node m.0) = sym h.4 ∙ m.2 in
      cc

  path_left : (i j k : ℕ) → ByPath i k → ByPath j k → i ≡ j
  path_left i j k g h =
      let m = same.shared_here g.0 g.1 h.0 h.1 g.2 h.2 (k, g.4, h.4) in
      let e : Some (node i) ≡ Some (node m.0) = sym g.3 ∙ m.1 in
      let f : Some (node j) ≡ Some (node m.0) = sym h.3 ∙ m.2 in
      cc

  alike_views : (x p : List ℕ) → N x → (v w : Value) → reached s x p ≡ Some v → reached t x p ≡ Some w → view s.nodes v ≡ view t.nodes w → Alike ByPath v w
  alike_views x p n (node i) (node j) a b r = (x, p, n, a, b)
  alike_views x p n (node i) w a b r = absurd (cc)
  alike_views x p n v (node j) a b r = absurd (cc)
  alike_views x p n v w a b r = cc

  alike_options : (x p : List ℕ) → N x → (o q : Option Value) → reached s x p ≡ o → reached t x p ≡ q → BothOrNone (λ v w. view s.nodes v ≡ view t.nodes w) o q → BothOrNone (Alike ByPath) o q
  alike_options x p n None None a b r = tt
  alike_options x p n (Some v) (Some w) a b r = alike_views x p n v w a b r
  alike_options x p n None (Some w) a b r = absurd r
  alike_options x p n (Some v) None a b r = absurd r

  alike_at : (x p : List ℕ) → N x → BothOrNone (Alike ByPath) (reached s x p) (reached t x p)
  alike_at x p n = alike_options x p n _ _ refl refl (same.views x p n)

  zip_from : (vs ws : List Value) → length vs ≡ length ws → ((c : ℕ) → BothOrNone (Alike ByPath) (slice_get vs c) (slice_get ws c)) → AllZip (Alike ByPath) vs ws
  zip_from [] [] e h = tt
  zip_from (v ∷ vs) (w ∷ ws) e h = (h 0, zip_from vs ws (omega arith) (λ c. h (suc c)))
  zip_from [] (w ∷ ws) e h = absurd (omega arith)
  zip_from (v ∷ vs) [] e h = absurd (omega arith)

  shown_by_path : (i j : ℕ) → ByPath i j → bare (node_at s.nodes i) ≡ bare (node_at t.nodes j)
  shown_by_path i j h =
      let e : inside (bare (node_at s.nodes i)) ≡ inside (bare (node_at t.nodes j)) =
      subst (λ o. BothOrNone (λ v w. view s.nodes v ≡ view t.nodes w) o (Some (node j))) h.3
      (subst (λ o. BothOrNone (λ v w. view s.nodes v ≡ view t.nodes w) (reached s h.0 h.1) o) h.4 (same.views h.0 h.1 h.2)) in
      cc

  on_by_path : (i j : ℕ) → ByPath i j → AllZip (Alike ByPath) (children (node_at s.nodes i)) (children (node_at t.nodes j))
  on_by_path i j h = zip_from _ _ (bare-length (node_at s.nodes i) (node_at t.nodes j) (shown_by_path i j h)) (λ c.
      let e : reached s h.0 (c ∷ h.1) ≡ slice_get (children (node_at s.nodes i)) c = ap (option_and_then (child s.nodes c)) h.3 in
      let f : reached t h.0 (c ∷ h.1) ≡ slice_get (children (node_at t.nodes j)) c = ap (option_and_then (child t.nodes c)) h.4 in
      subst (λ o. BothOrNone (Alike ByPath) o (slice_get (children (node_at t.nodes j)) c)) e
      (subst (λ o. BothOrNone (Alike ByPath) (reached s h.0 (c ∷ h.1)) o) f (alike_at h.0 (c ∷ h.1) h.2)))

  -- States that are the same are paired by the paths that reach their nodes.
  pub same_pairs : Pairs ByPath N s t
  same_pairs = record { one_right = path_right; one_left = path_left; shows = shown_by_path; leads_on = on_by_path; names = λ x n. alike_at x [] n }

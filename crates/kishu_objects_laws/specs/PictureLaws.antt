-- Two states have equal pictures of names exactly where a closed pairing relates the names.
use Rattle.std.specs.Prelude.{◌≡◌, ℕ, zero, suc, ◌+◌, List, [], ◌∷◌, ◌++◌, map, length, slice_get, Option, Some, None, option_map}
use Rattle.std.specs.List.{AllZip}
use Rattle.std.proofs.Common.{refl, ap, sym, ◌∙◌, subst, arith, inl, inr}
use Rattle.std.proofs.lemmas.List.{map-append}
use Rattle.kishu_meaning.specs.values.Values.{Value, node, Node, State, find}
use Rattle.kishu_objects.specs.Lists.{In}
use Rattle.kishu_objects.specs.Shape.{children, each_child, node_at}
use Rattle.kishu_objects.specs.Same.{BothOrNone}
use Rattle.kishu_objects.specs.Picture.{place, number, numbers, leads, with_value, bound, roots, order, renumbered, named, picture}
use Rattle.kishu_objects.specs.Sound.{IsSound}
use Rattle.kishu_objects_laws.specs.ListLaws.{in_flat, flat_in, zip_append, zip_flat, zip_place, at_place, place_at, in_at}
use Rattle.kishu_objects.specs.Pairings.{Alike, Pairs}
use Rattle.kishu_objects_laws.specs.ShapeLaws.{alike_numbers, alike_renumbered, renumbered_alike, each-same, bare-each, kids-each}
use Rattle.kishu_objects_laws.specs.OrderLaws.{rounds, rounds_alike, order_more, order_distinct, root_in, child_in, roots_cons}

-- ---- from a pairing to equal pictures

module _ (P : ℕ → ℕ → Type 0) (s t : State) (xs : List (List ℕ)) (pairs : Pairs P (λ x. In x xs) s t) where
  closed : (i j : ℕ) → P i j → AllZip P (leads s.nodes i) (leads t.nodes j)
  closed i j h = zip_flat P (Alike P) number number (alike_numbers P) (children (node_at s.nodes i)) (children (node_at t.nodes j)) (pairs.leads_on i j h)

  value_numbers : (x : List ℕ) (o q : Option Value) → BothOrNone (Alike P) o q → AllZip P (numbers (map (λ (b : List ℕ × Value). b.1) (with_value x o))) (numbers (map (λ (b : List ℕ × Value). b.1) (with_value x q)))
  value_numbers x None None h = tt
  value_numbers x (Some v) (Some w) h = zip_append P (number v) (number w) [] [] (alike_numbers P v w h) tt
  value_numbers x None (Some w) h = absurd h
  value_numbers x (Some v) None h = absurd h

  roots_alike : (ys : List (List ℕ)) → ((y : List ℕ) → In y ys → In y xs) → AllZip P (roots s ys) (roots t ys)
  roots_alike [] h = tt
  roots_alike (y ∷ ys) h =
      rw (roots_cons s y ys, roots_cons t y ys)
      (zip_append P _ _ (roots s ys) (roots t ys) (value_numbers y (find y s.names) (find y t.names) (pairs.names y (h y (inl refl)))) (roots_alike ys (λ z m. h z (inr m))))

  module _ (f g : ℕ → ℕ) (alike : (i j : ℕ) → P i j → f i ≡ g j) where
    kids_same : (vs ws : List Value) → AllZip (Alike P) vs ws → map (renumbered f) vs ≡ map (renumbered g) ws
    kids_same [] [] h = refl
    kids_same (v ∷ vs) (w ∷ ws) h =
        let e = alike_renumbered P f g alike v w h.0 in
        let k = kids_same vs ws h.1 in
        cc
    kids_same [] (w ∷ ws) h = absurd h
    kids_same (v ∷ vs) [] h = absurd h

    rows_same : (is js : List ℕ) → AllZip P is js → map (λ i. each_child (renumbered f) (node_at s.nodes i)) is ≡ map (λ j. each_child (renumbered g) (node_at t.nodes j)) js
    rows_same [] [] h = refl
    rows_same (i ∷ is) (j ∷ js) h =
        let e = each-same (renumbered f) (renumbered g) (node_at s.nodes i) (node_at t.nodes j) (pairs.shows i j h.0) (kids_same _ _ (pairs.leads_on i j h.0)) in
        let k = rows_same is js h.1 in
        cc
    rows_same [] (j ∷ js) h = absurd h
    rows_same (i ∷ is) [] h = absurd h

    name_same : (x : List ℕ) (o q : Option Value) → BothOrNone (Alike P) o q → map (λ (b : List ℕ × Value). named f b) (with_value x o) ≡ map (λ (b : List ℕ × Value). named g b) (with_value x q)
    name_same x None None h = refl
    name_same x (Some v) (Some w) h = ap (λ z. (x, z) ∷ []) (alike_renumbered P f g alike v w h)
    name_same x None (Some w) h = absurd h
    name_same x (Some v) None h = absurd h

    names_same : (ys : List (List ℕ)) → ((y : List ℕ) → In y ys → In y xs) → map (named f) (bound s ys) ≡ map (named g) (bound t ys)
    names_same [] h = refl
    names_same (y ∷ ys) h =
        let e = name_same y (find y s.names) (find y t.names) (pairs.names y (h y (inl refl))) in
        let k = names_same ys (λ z m. h z (inr m)) in
        map-append (named f) (with_value y (find y s.names)) (bound s ys) ∙ ap (λ l. l ++ map (named f) (bound s ys)) e ∙ ap (λ l. map (named g) (with_value y (find y t.names)) ++ l) k ∙ sym (map-append (named g) (with_value y (find y t.names)) (bound t ys))

  module _ (sound : IsSound s) (other : IsSound t) where
    -- Paired states have corresponding orders.
    pub order_alike : AllZip P (order s xs) (order t xs)
    order_alike =
        let both = rounds_alike P pairs.one_right pairs.one_left s.nodes t.nodes closed (roots s xs) (roots t xs) (roots_alike xs (λ y m. m)) (length t.nodes + length s.nodes) in
        subst (λ l. AllZip P l (order t xs)) (order_more s sound xs (length t.nodes) (length t.nodes + length s.nodes) refl)
        (subst (λ l. AllZip P (rounds s.nodes (roots s xs) (length t.nodes + length s.nodes)) l) (order_more t other xs (length s.nodes) (length t.nodes + length s.nodes) (omega arith)) both)

    -- Paired states have equal pictures.
    pub pairs_picture : picture s xs ≡ picture t xs
    pairs_picture =
        let alike : (i j : ℕ) → P i j → place (order s xs) i ≡ place (order t xs) j = λ i j h. zip_place P pairs.one_right pairs.one_left i j (order s xs) (order t xs) h order_alike in
        let n = names_same (place (order s xs)) (place (order t xs)) alike xs (λ y m. m) in
        let k = rows_same (place (order s xs)) (place (order t xs)) alike (order s xs) (order t xs) order_alike in
        cc

-- ---- from equal pictures to a pairing

map_at : {A B : Type 0} (f : A → B) (xs : List A) (k : ℕ) → slice_get (map f xs) k ≡ option_map f (slice_get xs k)
map_at f [] k = refl
map_at f (x ∷ xs) zero = refl
map_at f (x ∷ xs) (suc k) = map_at f xs k

in_map : {A B : Type 0} (f : A → B) (xs : List A) (a : A) → In a xs → In (f a) (map f xs)
in_map f [] a h = absurd h
in_map f (x ∷ xs) a (inl e) = inl (ap f e)
in_map f (x ∷ xs) a (inr h) = inr (in_map f xs a h)

map_in : {A B : Type 0} (f : A → B) (xs : List A) (b : B) → In b (map f xs) → (a : A) × In a xs × (b ≡ f a)
map_in f [] b h = absurd h
map_in f (x ∷ xs) b (inl e) = (x, inl refl, e)
map_in f (x ∷ xs) b (inr h) = (let k = map_in f xs b h in (k.0, inr k.1, k.2))

-- what is bound
module _ (s : State) where
  pub in_with : (x : List ℕ) (o : Option Value) (b : List ℕ × Value) → In b (with_value x o) → (b.0 ≡ x) × (o ≡ Some b.1)
  in_with x None b h = absurd h
  in_with x (Some v) b (inl e) = (ap (λ (c : List ℕ × Value). c.0) e, ap (λ (c : List ℕ × Value). Some c.1) (sym e))
  in_with x (Some v) b (inr h) = absurd h

  -- what is bound is what is found
  pub bound_find : (xs : List (List ℕ)) (b : List ℕ × Value) → In b (bound s xs) → find b.0 s.names ≡ Some b.1
  bound_find xs b h =
      let k = flat_in (λ x. with_value x (find x s.names)) b xs h in
      let w = in_with k.0 (find k.0 s.names) b k.2 in
      ap (λ x. find x s.names) w.0 ∙ w.1

  -- what is found under one of the names is bound
  pub find_bound : (xs : List (List ℕ)) (x : List ℕ) (v : Value) → In x xs → find x s.names ≡ Some v → In (x, v) (bound s xs)
  find_bound xs x v h e = in_flat (λ x. with_value x (find x s.names)) (x, v) x xs h (rw e (inl refl))

-- the two stand at one place of the orders
abbrev pub AtOnePlace : State → State → List (List ℕ) → ℕ → ℕ → Type 0
AtOnePlace s t xs i j = (k : ℕ) × (slice_get (order s xs) k ≡ Some i) × (slice_get (order t xs) k ≡ Some j)

module _ (s t : State) (sound : IsSound s) (other : IsSound t) (xs : List (List ℕ)) (equal : picture s xs ≡ picture t xs) where
  abbrev ByPlace : ℕ → ℕ → Type 0
  ByPlace = AtOnePlace s t xs

  abbrev here : ℕ → ℕ
  here = place (order s xs)

  abbrev there : ℕ → ℕ
  there = place (order t xs)

  rows : map (λ i. each_child (renumbered here) (node_at s.nodes i)) (order s xs) ≡ map (λ j. each_child (renumbered there) (node_at t.nodes j)) (order t xs)
  rows = ap (λ (u : State). u.nodes) equal

  row_equal : (i j : ℕ) → ByPlace i j → each_child (renumbered here) (node_at s.nodes i) ≡ each_child (renumbered there) (node_at t.nodes j)
  row_equal i j h =
      let e : slice_get (map (λ i. each_child (renumbered here) (node_at s.nodes i)) (order s xs)) h.0 ≡ Some (each_child (renumbered here) (node_at s.nodes i)) = map_at (λ i. each_child (renumbered here) (node_at s.nodes i)) (order s xs) h.0 ∙ ap (option_map _) h.1 in
      let f : slice_get (map (λ j. each_child (renumbered there) (node_at t.nodes j)) (order t xs)) h.0 ≡ Some (each_child (renumbered there) (node_at t.nodes j)) = map_at (λ j. each_child (renumbered there) (node_at t.nodes j)) (order t xs) h.0 ∙ ap (option_map _) h.2 in
      some_same _ _ (sym e ∙ ap (λ l. slice_get l h.0) rows ∙ f)
    where
      some_same : (m n : Node) → Some m ≡ Some n → m ≡ n
      some_same m n e = cc

  placed : (i j : ℕ) → In i (order s xs) → In j (order t xs) → here i ≡ there j → ByPlace i j
  placed i j a b e = (here i, at_place (order s xs) i a, ap (slice_get (order t xs)) e ∙ at_place (order t xs) j b)

  kids_alike : (vs ws : List Value) → ((i : ℕ) → In (node i) vs → In i (order s xs)) → ((j : ℕ) → In (node j) ws → In j (order t xs)) → map (renumbered here) vs ≡ map (renumbered there) ws → AllZip (Alike ByPlace) vs ws
  kids_alike [] [] a b e = tt
  kids_alike (v ∷ vs) (w ∷ ws) a b e =
      (renumbered_alike ByPlace here there v w (λ i j p q f. placed i j (a i (inl (sym p))) (b j (inl (sym q))) f) (cc), kids_alike vs ws (λ i m. a i (inr m)) (λ j m. b j (inr m)) (cc))
  kids_alike [] (w ∷ ws) a b e = absurd (cc)
  kids_alike (v ∷ vs) [] a b e = absurd (cc)

  named_rows : map (named here) (bound s xs) ≡ map (named there) (bound t xs)
  named_rows = ap (λ (u : State). u.names) equal

  -- a name's value on the other side
  name_there : (x : List ℕ) (v : Value) → In x xs → find x s.names ≡ Some v → (w : Value) × (find x t.names ≡ Some w) × (renumbered here v ≡ renumbered there w)
  name_there x v m e =
      let k = map_in (named there) (bound t xs) (named here (x, v)) (subst (λ l. In (named here (x, v)) l) named_rows (in_map (named here) (bound s xs) (x, v) (find_bound s xs x v m e))) in
      let f : x ≡ k.0.0 = ap (λ (b : List ℕ × Value). b.0) k.2 in
      (k.0.1, ap (λ z. find z t.names) f ∙ bound_find t xs k.0 k.1, ap (λ (b : List ℕ × Value). b.1) k.2)

  name_here : (x : List ℕ) (w : Value) → In x xs → find x t.names ≡ Some w → (v : Value) × (find x s.names ≡ Some v)
  name_here x w m e =
      let k = map_in (named here) (bound s xs) (named there (x, w)) (subst (λ l. In (named there (x, w)) l) (sym named_rows) (in_map (named there) (bound t xs) (x, w) (find_bound t xs x w m e))) in
      let f : x ≡ k.0.0 = ap (λ (b : List ℕ × Value). b.0) k.2 in
      (k.0.1, ap (λ z. find z s.names) f ∙ bound_find s xs k.0 k.1)

  names_alike : (x : List ℕ) → In x xs → (o q : Option Value) → find x s.names ≡ o → find x t.names ≡ q → BothOrNone (Alike ByPlace) o q
  names_alike x m None None a b = tt
  names_alike x m (Some v) (Some w) a b =
      let k = name_there x v m a in
      let e : k.0 ≡ w = some_same (sym k.1 ∙ b) in
      renumbered_alike ByPlace here there v w (λ i j p q f. placed i j (root_in s sound xs x i m (a ∙ ap Some p)) (root_in t other xs x j m (b ∙ ap Some q)) f) (k.2 ∙ ap (renumbered there) e)
    where
      some_same : {u z : Value} → Some u ≡ Some z → u ≡ z
      some_same e = cc
  names_alike x m None (Some w) a b = (let k = name_here x w m b in let e : None ≡ Some k.0 = sym a ∙ k.1 in absurd (cc))
  names_alike x m (Some v) None a b = (let k = name_there x v m a in let e : None ≡ Some k.0 = sym b ∙ k.1 in absurd (cc))

  -- Equal pictures pair the nodes at one place of the two orders.
  pub picture_pairs : Pairs ByPlace (λ x. In x xs) s t
  picture_pairs = record {
    one_right = λ i j k g h.
        let e : g.0 ≡ h.0 = sym (place_at (order s xs) g.0 i (order_distinct s xs) g.1) ∙ place_at (order s xs) h.0 i (order_distinct s xs) h.1 in
        let f : Some j ≡ Some k = sym g.2 ∙ ap (slice_get (order t xs)) e ∙ h.2 in
        cc;
    one_left = λ i j k g h.
        let e : g.0 ≡ h.0 = sym (place_at (order t xs) g.0 k (order_distinct t xs) g.2) ∙ place_at (order t xs) h.0 k (order_distinct t xs) h.2 in
        let f : Some i ≡ Some j = sym g.1 ∙ ap (slice_get (order s xs)) e ∙ h.1 in
        cc;
    shows = λ i j h. bare-each (renumbered here) (renumbered there) (node_at s.nodes i) (node_at t.nodes j) (row_equal i j h);
    leads_on = λ i j h. kids_alike (children (node_at s.nodes i)) (children (node_at t.nodes j))
        (λ a m. child_in s sound xs i a (in_at (order s xs) h.0 i h.1) m)
        (λ a m. child_in t other xs j a (in_at (order t xs) h.0 j h.2) m)
        (kids-each (renumbered here) (renumbered there) (node_at s.nodes i) (node_at t.nodes j) (row_equal i j h));
    names = λ x m. names_alike x m (find x s.names) (find x t.names) refl refl;
  }

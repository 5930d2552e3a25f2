-- A state is the same as its picture on the names, and a picture is its own picture.
use Rattle.std.specs.Prelude.{◌≡◌, ℕ, zero, suc, ◌<◌, List, [], ◌∷◌, ◌++◌, map, length, get_or, slice_get, Option, Some, None, option_map, Contains, ◌⊎◌}
use Rattle.std.specs.List.{AllZip}
use Rattle.std.proofs.Common.{refl, ap, sym, ◌∙◌, subst, inl, inr, arith}
use Rattle.std.proofs.lemmas.List.{length-map}
use Rattle.kishu_meaning.specs.values.Values.{Value, none, node, Node, list, Names, State, find}
use Rattle.kishu_objects.specs.Lists.{In}
use Rattle.kishu_objects.specs.Shape.{children, each_child, node_at}
use Rattle.kishu_objects.specs.Same.{SameOn, BothOrNone}
use Rattle.kishu_objects.specs.Picture.{place, bound, with_value, order, renumbered, named, picture, whole}
use Rattle.kishu_objects.specs.Sound.{IsSound}
use Rattle.kishu_objects_laws.specs.ListLaws.{in_at, at_place, place_at, contains_in, flat_in, same_or_not, map_in}
use Rattle.kishu_objects_laws.specs.NameLaws.{find_in, same_text}
use Rattle.kishu_objects.specs.Pairings.{Alike, bare, Pairs}
use Rattle.kishu_objects_laws.specs.ShapeLaws.{each-each, children-each}
use Rattle.kishu_objects_laws.specs.OrderLaws.{in_numbers, order_distinct, root_in, child_in}
use Rattle.kishu_objects_laws.specs.PairingLaws.{pairs_same}
use Rattle.kishu_objects_laws.specs.PictureLaws.{in_with}
use Rattle.kishu_objects_laws.specs.SameLaws.{pairs_fewer, same_picture}
use Rattle.kishu_objects_laws.specs.WholeLaws.{keys_of}

-- ---- a picture is a state that is the same on its names

pub get_map : (f : ℕ → Node) (is : List ℕ) (k i : ℕ) (d : Node) → slice_get is k ≡ Some i → get_or (map f is) k d ≡ f i
get_map f [] k i d e = absurd (cc)
get_map f (j ∷ is) zero i d e = (let g : j ≡ i = cc in ap f g)
get_map f (j ∷ is) (suc k) i d e = get_map f is k i d e

find_cons : (x y : List ℕ) (v : Value) (ns : Names) → (x ≡ y → ⊥) → find x ((y, v) ∷ ns) ≡ find x ns
find_cons x y v ns ne = elim (same_text x y) [ inl e ↦ absurd (ne e.0) | inr n ↦ rw n.1 refl ]

find_first : (x y : List ℕ) (v : Value) (ns : Names) → x ≡ y → find x ((y, v) ∷ ns) ≡ Some v
find_first x y v ns e = elim (same_text x y) [ inl f ↦ rw f.1 refl | inr n ↦ absurd (n.0 e) ]

module _ (s : State) (f : ℕ → ℕ) where
  abbrev named_bound : List (List ℕ) → Names
  named_bound ys = map (named f) (bound s ys)

  none_some : (v : Value) → None ≡ Some v → ⊥
  none_some v e = cc

  none_with : (x y : List ℕ) (ys : List (List ℕ)) → find x s.names ≡ None → find x (named_bound ys) ≡ None → (o : Option Value) → find y s.names ≡ o → find x (map (named f) (with_value y o ++ bound s ys)) ≡ None
  none_with x y ys e rest None g = rest
  none_with x y ys e rest (Some v) g = find_cons x y (renumbered f v) (named_bound ys) (λ h. none_some v (sym e ∙ ap (λ z. find z s.names) h ∙ g)) ∙ rest

  find_none : (x : List ℕ) (ys : List (List ℕ)) → find x s.names ≡ None → find x (named_bound ys) ≡ None
  find_none x [] e = refl
  find_none x (y ∷ ys) e = none_with x y ys e (find_none x ys e) (find y s.names) refl

  here : (x y : List ℕ) (ys : List (List ℕ)) → x ≡ y → (o : Option Value) → find y s.names ≡ o → find x (map (named f) (with_value y o ++ bound s ys)) ≡ option_map (renumbered f) (find x s.names)
  here x y ys e None g = (let k : find x s.names ≡ None = ap (λ z. find z s.names) e ∙ g in find_none x ys k ∙ ap (option_map (renumbered f)) (sym k))
  here x y ys e (Some v) g = (let k : find x s.names ≡ Some v = ap (λ z. find z s.names) e ∙ g in find_first x y (renumbered f v) (named_bound ys) e ∙ ap (option_map (renumbered f)) (sym k))

  there : (x y : List ℕ) (ys : List (List ℕ)) → (x ≡ y → ⊥) → find x (named_bound ys) ≡ option_map (renumbered f) (find x s.names) → (o : Option Value) → find y s.names ≡ o → find x (map (named f) (with_value y o ++ bound s ys)) ≡ option_map (renumbered f) (find x s.names)
  there x y ys ne rest None g = rest
  there x y ys ne rest (Some v) g = find_cons x y (renumbered f v) (named_bound ys) ne ∙ rest

  later : (x y : List ℕ) (ys : List (List ℕ)) → (x ≡ y → ⊥) → In x (y ∷ ys) → In x ys
  later x y ys ne (inl e) = absurd (ne e)
  later x y ys ne (inr h) = h

  -- a name of the picture has its value, with the new number
  pub find_named : (x : List ℕ) (ys : List (List ℕ)) → In x ys → find x (named_bound ys) ≡ option_map (renumbered f) (find x s.names)
  find_named x [] m = absurd m
  find_named x (y ∷ ys) m = elim (same_text x y) [
    | inl e ↦ here x y ys e.0 (find y s.names) refl
    | inr n ↦ there x y ys n.0 (find_named x ys (later x y ys n.0 m)) (find y s.names) refl
  ]

module _ (s : State) (sound : IsSound s) (xs : List (List ℕ)) where
  -- the one stands at the place of the other
  abbrev pub Stands : ℕ → ℕ → Type 0
  Stands i j = slice_get (order s xs) j ≡ Some i

  abbrev spot : ℕ → ℕ
  spot = place (order s xs)

  -- a row of the picture is the node that stands there
  pub stands_row : (i j : ℕ) → Stands i j → node_at (picture s xs).nodes j ≡ each_child (renumbered spot) (node_at s.nodes i)
  stands_row i j h = get_map (λ i. each_child (renumbered spot) (node_at s.nodes i)) (order s xs) j i (list []) h

  stands_value : (v : Value) → ((i : ℕ) → v ≡ node i → In i (order s xs)) → Alike Stands v (renumbered spot v)
  stands_value (node i) h = at_place (order s xs) i (h i refl)
  stands_value v h = refl

  stands_all : (vs : List Value) → ((i : ℕ) → In (node i) vs → In i (order s xs)) → AllZip (Alike Stands) vs (map (renumbered spot) vs)
  stands_all [] h = tt
  stands_all (v ∷ vs) h = (stands_value v (λ i e. h i (inl (sym e))), stands_all vs (λ i m. h i (inr m)))

  stands_found : (o : Option Value) → ((i : ℕ) → o ≡ Some (node i) → In i (order s xs)) → BothOrNone (Alike Stands) o (option_map (renumbered spot) o)
  stands_found None h = tt
  stands_found (Some v) h = stands_value v (λ i e. h i (ap Some e))

  -- A state and its picture are paired by the places of the order.
  pub stands_pairs : Pairs Stands (λ x. In x xs) s (picture s xs)
  stands_pairs = record {
    one_right = λ i j k g h. sym (place_at (order s xs) j i (order_distinct s xs) g) ∙ place_at (order s xs) k i (order_distinct s xs) h;
    one_left = λ i j k g h. (let e : Some i ≡ Some j = sym g ∙ h in cc);
    shows = λ i j h. sym (ap bare (stands_row i j h) ∙ each-each (λ v. none) (renumbered spot) (node_at s.nodes i));
    leads_on = λ i j h.
        subst (λ ws. AllZip (Alike Stands) (children (node_at s.nodes i)) ws) (sym (ap children (stands_row i j h) ∙ children-each (renumbered spot) (node_at s.nodes i)))
        (stands_all (children (node_at s.nodes i)) (λ a m. child_in s sound xs i a (in_at (order s xs) j i h) m));
    names = λ x m.
        subst (λ o. BothOrNone (Alike Stands) (find x s.names) o) (sym (find_named s spot x xs m))
        (stands_found (find x s.names) (λ i e. root_in s sound xs x i m e));
  }

  -- A state is the same as its picture, on the names.
  pub picture_like : SameOn s (picture s xs) xs
  picture_like = pairs_same Stands (λ x. Contains xs x) s (picture s xs) (pairs_fewer Stands (λ x. Contains xs x) (λ x. In x xs) s (picture s xs) (contains_in xs) stands_pairs)

-- ---- a picture is its own

pub place_below : (is : List ℕ) (i : ℕ) → In i is → place is i < length is
place_below [] i h = absurd h
place_below (k ∷ is) i (inl e) = elim (same_or_not k i) [ inl f ↦ rw f.1 (omega arith) | inr n ↦ absurd (n.0 (sym e)) ]
place_below (k ∷ is) i (inr h) = (let r = place_below is i h in elim (same_or_not k i) [ inl f ↦ rw f.1 (omega arith) | inr n ↦ rw n.1 (omega arith) ])

renumbered_node : (f : ℕ → ℕ) (v : Value) (a : ℕ) → node a ≡ renumbered f v → (i : ℕ) × (v ≡ node i) × (a ≡ f i)
renumbered_node f (node i) a e = (i, refl, cc)
renumbered_node f v a e = absurd (cc)

pub there_or_past : (is : List ℕ) (j : ℕ) → ((i : ℕ) × (slice_get is j ≡ Some i)) ⊎ (length is < suc j)
there_or_past [] j = inr (omega arith)
there_or_past (i ∷ is) zero = inl (i, refl)
there_or_past (i ∷ is) (suc j) = elim (there_or_past is j) [ inl h ↦ inl h | inr l ↦ inr (omega arith) ]

-- past the nodes there is the empty list
pub past : (ns : List Node) (j : ℕ) → length ns < suc j → node_at ns j ≡ list []
past [] j l = refl
past (n ∷ ns) zero l = absurd (omega arith)
past (n ∷ ns) (suc j) l = past ns j (omega arith)

module _ (s : State) (sound : IsSound s) (xs : List (List ℕ)) where
  abbrev row_of : ℕ → Node
  row_of i = each_child (renumbered (place (order s xs))) (node_at s.nodes i)

  -- A picture has as many rows as the order has nodes.
  pub rows_length : length (picture s xs).nodes ≡ length (order s xs)
  rows_length = length-map (order s xs) row_of

  -- Each node number of a picture is that of a row.
  pub picture_sound : IsSound (picture s xs)
  picture_sound = record {
    names = λ x j e. sound_name x j (find_in x (picture s xs).names (node j) e);
    nodes = λ j a h. sound_row j a (there_or_past (order s xs) j) (in_numbers (children (node_at (picture s xs).nodes j)) a h);
  }
    where
      sound_name : (x : List ℕ) (j : ℕ) → In (x, node j) (picture s xs).names → j < length (picture s xs).nodes
      sound_name x j m =
          let b = map_in (named (place (order s xs))) (bound s xs) (x, node j) m in
          let k = renumbered_node (place (order s xs)) b.0.1 j (ap (λ (c : List ℕ × Value). c.1) b.2) in
          let y = flat_in (λ z. with_value z (find z s.names)) b.0 xs b.1 in
          let w = in_with s y.0 (find y.0 s.names) b.0 y.2 in
          let p = place_below (order s xs) k.0 (root_in s sound xs y.0 k.0 y.1 (w.1 ∙ ap Some k.1)) in
          let q : j ≡ place (order s xs) k.0 = k.2 in
          omega (arith, p, q, rows_length)

      sound_row : (j a : ℕ) → ((i : ℕ) × (slice_get (order s xs) j ≡ Some i)) ⊎ (length (order s xs) < suc j) → In (node a) (children (node_at (picture s xs).nodes j)) → a < length (picture s xs).nodes
      sound_row j a (inl g) m =
          let e = ap children (stands_row s sound xs g.0 j g.1) ∙ children-each (renumbered (place (order s xs))) (node_at s.nodes g.0) in
          let b = map_in (renumbered (place (order s xs))) (children (node_at s.nodes g.0)) (node a) (subst (λ vs. In (node a) vs) e m) in
          let k = renumbered_node (place (order s xs)) b.0 a b.2 in
          let c = child_in s sound xs g.0 k.0 (in_at (order s xs) j g.0 g.1) (subst (λ v. In v (children (node_at s.nodes g.0))) k.1 b.1) in
          let p = place_below (order s xs) k.0 c in
          let q : a ≡ place (order s xs) k.0 = k.2 in
          omega (arith, p, q, rows_length)
      sound_row j a (inr l) m =
          let e : node_at (picture s xs).nodes j ≡ list [] = past (picture s xs).nodes j (omega (arith, l, rows_length)) in
          absurd (subst (λ n. In (node a) (children n)) e m)

  -- The picture of a picture is that picture.
  pub picture_again : picture (picture s xs) xs ≡ picture s xs
  picture_again = sym (same_picture s (picture s xs) sound picture_sound xs (picture_like s sound xs))

  -- A picture is its own picture.
  pub picture_whole : ((x : List ℕ) → In x xs → (v : Value) × (find x s.names ≡ Some v)) → whole (picture s xs) ≡ picture s xs
  picture_whole h = ap (picture (picture s xs)) (keys_of s (place (order s xs)) xs h) ∙ picture_again

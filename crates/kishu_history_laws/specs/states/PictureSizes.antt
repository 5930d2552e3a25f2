-- How many bytes a picture takes: those of its names and those of its nodes, whatever numbers they have.
use Rattle.std.specs.Prelude.{◌≡◌, ◌≤◌, ℕ, ◌+◌, List, [], ◌∷◌, length, map, flat_map}
use Rattle.std.specs.List.{sum_by}
use Rattle.std.proofs.Common.{refl, ap, sym, ◌∙◌, subst, inl, inr, arith, length-append}
use Rattle.std.proofs.lemmas.List.Sums.{sum_by-cons}
use Rattle.kishu_meaning.specs.values.Keys.{Key}
use Rattle.kishu_meaning.specs.values.Values.{Value, none, bool, integer, text, range, builtin, class, node, Node, list, tuple, dict, object, function, exception, State, find}
use Rattle.kishu_objects.specs.Bytes.{in_four, many, value_bytes, key_bytes, entry_bytes, name_bytes, row_bytes, picture_bytes, long, short}
use Rattle.kishu_objects.specs.Lists.{In, AllDiffer}
use Rattle.kishu_objects.specs.Picture.{renumbered, named, bound, with_value, order, place}
use Rattle.kishu_objects.specs.Shape.{each_child, node_at}
use Rattle.kishu_objects_laws.specs.ListLaws.{flat_append}

-- ---- sums

-- the other items, where one is taken out
out : {A : Type 0} (x : A) (ys : List A) → In x ys → (zs : List A) × ((f : A → ℕ) → sum_by f ys ≡ f x + sum_by f zs) × ((a : A) → (a ≡ x → ⊥) → In a ys → In a zs)
out x [] m = absurd m
out x (y ∷ ys) (inl e) = (ys, (λ f. sum_by-cons f y ys ∙ ap (λ z. f z + sum_by f ys) (sym e)), (λ a n h. elim h [ inl q ↦ absurd (n (q ∙ sym e)) | inr k ↦ k ]))
out x (y ∷ ys) (inr m) =
    let k = out x ys m in (
      y ∷ k.0,
      (λ f. let a = sum_by-cons f y ys in let b = k.1 f in let c = sum_by-cons f y k.0 in omega (arith, a, b, c)),
      (λ a n h. elim h [ inl q ↦ inl q | inr r ↦ inr (k.2 a n r) ]),
    )

-- Items that differ, each of which is in a list, sum to no more than that list.
pub sum_inside : {A : Type 0} (f : A → ℕ) (xs ys : List A) → AllDiffer xs → ((a : A) → In a xs → In a ys) → sum_by f xs ≤ sum_by f ys
sum_inside f [] ys d h = omega arith
sum_inside f (x ∷ xs) ys d h =
    let k = out x ys (h x (inl refl)) in
    let rest = sum_inside f xs k.0 d.1 (λ a m. k.2 a (λ e. d.0 (subst (λ z. In z xs) e m)) (h a (inr m))) in
    let a = k.1 f in
    let b = sum_by-cons f x xs in
    omega (arith, rest, a, b)

-- ---- lengths, which don't depend on the numbers of nodes

in_four-length : (n : ℕ) → length (in_four n) ≡ 4
unfolding in_four
in_four-length n = refl

many-length : {A : Type 0} (bytes : A → List ℕ) (as' : List A) → length (many bytes as') ≡ 4 + length (flat_map bytes as')
many-length bytes as' = (let a = length-append (in_four (length as')) (flat_map bytes as') in let b = in_four-length (length as') in omega (arith, a, b))

module _ (f : ℕ → ℕ) where
  value-length : (v : Value) → length (value_bytes (renumbered f v)) ≡ length (value_bytes v)
  value-length none = refl
  value-length (bool b) = refl
  value-length (integer z) = refl
  value-length (text cs) = refl
  value-length (range a b c) = refl
  value-length (builtin n) = refl
  value-length (class n) = refl
  value-length (node i) = (let a = in_four-length (f i) in let b = in_four-length i in omega (arith, a, b))

  values-length : (vs : List Value) → length (flat_map value_bytes (map (renumbered f) vs)) ≡ length (flat_map value_bytes vs)
  values-length [] = refl
  values-length (v ∷ vs) =
      let a = length-append (value_bytes (renumbered f v)) (flat_map value_bytes (map (renumbered f) vs)) in
      let b = length-append (value_bytes v) (flat_map value_bytes vs) in
      let c = value-length v in
      let d = values-length vs in
      omega (arith, a, b, c, d)

  many_values-length : (vs : List Value) → length (many value_bytes (map (renumbered f) vs)) ≡ length (many value_bytes vs)
  many_values-length vs = (let a = many-length value_bytes (map (renumbered f) vs) in let b = many-length value_bytes vs in let c = values-length vs in omega (arith, a, b, c))

  entries-length : (es : List (Key × Value)) → length (flat_map entry_bytes (map (λ e. (e.0, renumbered f e.1)) es)) ≡ length (flat_map entry_bytes es)
  entries-length [] = refl
  entries-length (e ∷ es) =
      let a = length-append (entry_bytes (e.0, renumbered f e.1)) (flat_map entry_bytes (map (λ (z : Key × Value). (z.0, renumbered f z.1)) es)) in
      let b = length-append (entry_bytes e) (flat_map entry_bytes es) in
      let c = length-append (key_bytes e.0) (value_bytes (renumbered f e.1)) in
      let d = length-append (key_bytes e.0) (value_bytes e.1) in
      let v = value-length e.1 in
      let rest = entries-length es in
      omega (arith, a, b, c, d, v, rest)

  names-length : (bs : List (List ℕ × Value)) → length (flat_map name_bytes (map (named f) bs)) ≡ length (flat_map name_bytes bs)
  names-length [] = refl
  names-length (e ∷ es) =
      let a = length-append (name_bytes (named f e)) (flat_map name_bytes (map (named f) es)) in
      let b = length-append (name_bytes e) (flat_map name_bytes es) in
      let c = length-append (short e.0) (value_bytes (renumbered f e.1)) in
      let d = length-append (short e.0) (value_bytes e.1) in
      let v = value-length e.1 in
      let rest = names-length es in
      omega (arith, a, b, c, d, v, rest)

  row-length : (n : Node) → length (row_bytes (each_child (renumbered f) n)) ≡ length (row_bytes n)
  row-length (list vs) = (let a = many_values-length vs in omega (arith, a))
  row-length (tuple vs) = (let a = many_values-length vs in omega (arith, a))
  row-length (dict es) =
      let a = many-length entry_bytes (map (λ (e : Key × Value). (e.0, renumbered f e.1)) es) in
      let b = many-length entry_bytes es in
      let c = entries-length es in
      omega (arith, a, b, c)
  row-length (object as') =
      let a = many-length name_bytes (map (named f) as') in
      let b = many-length name_bytes as' in
      let c = names-length as' in
      omega (arith, a, b, c)
  row-length (function profile code vs) =
      let a = length-append (long code) (many value_bytes (map (renumbered f) vs)) in
      let b = length-append (long code) (many value_bytes vs) in
      let c = many_values-length vs in
      omega (arith, a, b, c)
  row-length (exception kind vs) = (let a = many_values-length vs in omega (arith, a))

-- ---- what names and nodes take

module _ (s : State) where
  -- a name with its value, if it has one
  abbrev name_takes : List ℕ → ℕ
  name_takes x = length (flat_map name_bytes (with_value x (find x s.names)))

  abbrev node_takes : ℕ → ℕ
  node_takes i = length (row_bytes (node_at s.nodes i))

  bound-length : (names : List (List ℕ)) → length (flat_map name_bytes (bound s names)) ≡ sum_by name_takes names
  bound-length [] = refl
  bound-length (x ∷ xs) =
      let here = with_value x (find x s.names) in
      let a = ap length (flat_append name_bytes here (bound s xs)) in
      let b = length-append (flat_map name_bytes here) (flat_map name_bytes (bound s xs)) in
      let c = bound-length xs in
      let d = sum_by-cons name_takes x xs in
      omega (arith, a, b, c, d)

  rows-length : (f : ℕ → ℕ) (is : List ℕ) → length (flat_map row_bytes (map (λ i. each_child (renumbered f) (node_at s.nodes i)) is)) ≡ sum_by node_takes is
  rows-length f [] = refl
  rows-length f (i ∷ is) =
      let a = length-append (row_bytes (each_child (renumbered f) (node_at s.nodes i))) (flat_map row_bytes (map (λ j. each_child (renumbered f) (node_at s.nodes j)) is)) in
      let b = row-length f (node_at s.nodes i) in
      let c = rows-length f is in
      let d = sum_by-cons node_takes i is in
      omega (arith, a, b, c, d)

  pub picture-length : (names : List (List ℕ)) → length (picture_bytes s names) ≡ 8 + (sum_by name_takes names + sum_by node_takes (order s names))
  picture-length names =
      let is = order s names in
      let all = map (named (place is)) (bound s names) in
      let rows = map (λ i. each_child (renumbered (place is)) (node_at s.nodes i)) is in
      let a = length-append (many name_bytes all) (many row_bytes rows) in
      let b = many-length name_bytes all in
      let c = many-length row_bytes rows in
      let d = names-length (place is) (bound s names) in
      let e = bound-length names in
      let g = rows-length (place is) is in
      omega (arith, a, b, c, d, e, g)

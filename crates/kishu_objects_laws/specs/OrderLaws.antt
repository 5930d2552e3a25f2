-- The order of first meeting: it has each node once, what it has leads nowhere else, and corresponding states have corresponding orders.
use Rattle.std.specs.Prelude.{◌≡◌, ℕ, zero, suc, ◌+◌, ◌<◌, ◌≤◌, ◌⊎◌, List, [], ◌∷◌, ◌++◌, map, length, flat_map, slice_get, Option, Some, None, option_and_then}
use Rattle.std.specs.List.{AllZip}
use Rattle.std.proofs.Common.{inl, inr, refl, ap, sym, ◌∙◌, subst, arith, append_assoc, length-append, append-nil}
use Rattle.kishu_meaning.specs.values.Values.{Value, node, Node, Names, State, find}
use Rattle.kishu_objects.specs.Lists.{In, AllDiffer}
use Rattle.kishu_objects.specs.Shape.{children, node_at, child, reached}
use Rattle.kishu_objects.specs.Picture.{times, firsts, number, numbers, leads, with_value, bound, roots, met, order}
use Rattle.kishu_objects.specs.Sound.{IsSound}
use Rattle.kishu_objects.specs.Groups.{Reaches}
use Rattle.kishu_objects_laws.specs.ListLaws.{in_left, in_right, in_cases, in_flat, flat_in, Begins, begins_firsts, flat_append, in_at, at_in, few, in_firsts, firsts_in, distinct_firsts, zip_append, zip_flat, zip_firsts}

module _ (nodes : List Node) (from : List ℕ) where
  -- one round: what is met from the beginning and from a list
  abbrev pub round : List ℕ → List ℕ
  round = met nodes from

  -- so many rounds, from nothing
  abbrev pub rounds : ℕ → List ℕ
  rounds k = times k round []

  -- Where a list goes on, what is met from it goes on.
  pub round_begins : (xs ys : List ℕ) → Begins xs ys → Begins (round xs) (round ys)
  round_begins xs ys b =
      let e : from ++ flat_map (leads nodes) ys ≡ (from ++ flat_map (leads nodes) xs) ++ flat_map (leads nodes) b.0 =
      ap (λ l. from ++ flat_map (leads nodes) l) b.1 ∙ ap (λ l. from ++ l) (flat_append (leads nodes) xs b.0) ∙ sym (append_assoc from (flat_map (leads nodes) xs) (flat_map (leads nodes) b.0)) in
      let k = begins_firsts (from ++ flat_map (leads nodes) xs) (flat_map (leads nodes) b.0) in
      (k.0, ap firsts e ∙ k.1)

  -- Each round goes on from the one before.
  pub rounds_begin : (k : ℕ) → Begins (rounds k) (rounds (suc k))
  rounds_begin zero = (rounds 1, refl)
  rounds_begin (suc k) = round_begins (rounds k) (rounds (suc k)) (rounds_begin k)

  none_or_more : (xs ys : List ℕ) → Begins xs ys → (xs ≡ ys) ⊎ (suc (length xs) ≤ length ys)
  none_or_more xs ys b = more b.0 b.1
    where
      more : (zs : List ℕ) → ys ≡ xs ++ zs → (xs ≡ ys) ⊎ (suc (length xs) ≤ length ys)
      more [] e = inl (sym (e ∙ append-nil xs))
      more (z ∷ zs) e = inr (let n : length ys ≡ length xs + length (z ∷ zs) = ap length e ∙ length-append xs (z ∷ zs) in omega arith)

  still_or_longer : (k : ℕ) → (rounds k ≡ rounds (suc k)) ⊎ (suc k ≤ length (rounds (suc k)))
  still_or_longer zero = elim (none_or_more (rounds 0) (rounds 1) (rounds_begin 0)) [ inl e ↦ inl e | inr m ↦ inr (omega arith) ]
  still_or_longer (suc k) = elim (still_or_longer k) [
    | inl e ↦ inl (ap round e)
    | inr l ↦ elim (none_or_more (rounds (suc k)) (rounds (suc (suc k))) (rounds_begin (suc k))) [ inl e ↦ inl e | inr m ↦ inr (omega arith) ]
  ]

  -- A round has each node once.
  pub rounds_distinct : (k : ℕ) → AllDiffer (rounds k)
  rounds_distinct zero = tt
  rounds_distinct (suc k) = distinct_firsts (from ++ flat_map (leads nodes) (rounds k))

  -- what is met is a beginning, or a node is before it that leads to it
  pub round_cases : (xs : List ℕ) (a : ℕ) → In a (round xs) → In a from ⊎ ((i : ℕ) × In i xs × In a (leads nodes i))
  round_cases xs a h = elim (in_cases a from (flat_map (leads nodes) xs) (in_firsts a (from ++ flat_map (leads nodes) xs) h)) [ inl l ↦ inl l | inr r ↦ inr (flat_in (leads nodes) a xs r) ]

  module _ (n : ℕ) (from_below : (a : ℕ) → In a from → a < n) (leads_below : (i a : ℕ) → In a (leads nodes i) → a < n) where
    -- A round has nodes of the list alone.
    pub rounds_below : (k a : ℕ) → In a (rounds k) → a < n
    rounds_below zero a h = absurd h
    rounds_below (suc k) a h = elim (round_cases (rounds k) a h) [ inl l ↦ from_below a l | inr r ↦ leads_below r.0 a r.2 ]

    -- After as many rounds as there are nodes no more are met.
    pub rounds_end : rounds n ≡ rounds (suc n)
    rounds_end = elim (still_or_longer n) [
      | inl e ↦ e
      | inr l ↦ absurd (let m = few n (rounds (suc n)) (rounds_distinct (suc n)) (rounds_below (suc n)) in omega arith)
    ]

    -- More rounds meet no more.
    pub rounds_more : (j m : ℕ) → m ≡ j + n → rounds m ≡ rounds n
    rounds_more zero m e = (let f : m ≡ n = omega arith in ap rounds f)
    rounds_more (suc j) m e = (let f : m ≡ suc (j + n) = omega arith in ap rounds f ∙ ap round (rounds_more j (j + n) refl) ∙ sym rounds_end)

    -- The rounds meet the beginning.
    pub from_in : (a : ℕ) → In a from → In a (rounds n)
    from_in a h = subst (λ l. In a l) (sym rounds_end) (firsts_in a (from ++ flat_map (leads nodes) (rounds n)) (in_left a from (flat_map (leads nodes) (rounds n)) h))

    -- The rounds meet what that leads to which they meet.
    pub lead_in : (i a : ℕ) → In i (rounds n) → In a (leads nodes i) → In a (rounds n)
    lead_in i a h l = subst (λ l. In a l) (sym rounds_end) (firsts_in a (from ++ flat_map (leads nodes) (rounds n)) (in_right a from (flat_map (leads nodes) (rounds n)) (in_flat (leads nodes) a i (rounds n) h l)))

-- rounds that correspond
module _ (P : ℕ → ℕ → Type 0) (one_right : (i j k : ℕ) → P i j → P i k → j ≡ k) (one_left : (i j k : ℕ) → P i k → P j k → i ≡ j)
    (nodes others : List Node) (closed : (i j : ℕ) → P i j → AllZip P (leads nodes i) (leads others j)) where
  -- Rounds from corresponding beginnings correspond.
  pub rounds_alike : (from there : List ℕ) → AllZip P from there → (k : ℕ) → AllZip P (rounds nodes from k) (rounds others there k)
  rounds_alike from there h zero = tt
  rounds_alike from there h (suc k) =
      zip_firsts P one_right one_left (from ++ flat_map (leads nodes) (rounds nodes from k)) (there ++ flat_map (leads others) (rounds others there k))
      (zip_append P from there (flat_map (leads nodes) (rounds nodes from k)) (flat_map (leads others) (rounds others there k)) h
      (zip_flat P P (leads nodes) (leads others) closed (rounds nodes from k) (rounds others there k) (rounds_alike from there h k)))

-- ---- of a state

number_is : (v : Value) (i : ℕ) → In i (number v) → v ≡ node i
number_is (node k) i (inl e) = ap node (sym e)
number_is (node k) i (inr h) = absurd h
number_is v i h = absurd h

-- a node among the numbers of values is one of the values
pub in_numbers : (vs : List Value) (i : ℕ) → In i (numbers vs) → In (node i) vs
in_numbers vs i h = let k = flat_in number i vs h in subst (λ v. In v vs) (number_is k.0 i k.2) k.1

-- a node among values is among their numbers
pub numbers_in : (vs : List Value) (i : ℕ) → In (node i) vs → In i (numbers vs)
numbers_in vs i h = in_flat number i (node i) vs h (inl refl)

module _ (s : State) where
  abbrev values : List (List ℕ) → List Value
  values xs = map (λ (b : List ℕ × Value). b.1) (bound s xs)

  root_find : (x : List ℕ) (o : Option Value) (i : ℕ) → In i (numbers (map (λ (b : List ℕ × Value). b.1) (with_value x o))) → o ≡ Some (node i)
  root_find x None i h = absurd h
  root_find x (Some v) i h = elim (in_cases i (number v) [] h) [ inl l ↦ ap Some (number_is v i l) | inr r ↦ absurd r ]

  map_append : (xs ys : Names) → map (λ (b : List ℕ × Value). b.1) (xs ++ ys) ≡ map (λ (b : List ℕ × Value). b.1) xs ++ map (λ (b : List ℕ × Value). b.1) ys
  map_append [] ys = refl
  map_append (x ∷ xs) ys = ap (λ l. x.1 ∷ l) (map_append xs ys)

  pub roots_cons : (x : List ℕ) (xs : List (List ℕ)) → roots s (x ∷ xs) ≡ numbers (map (λ (b : List ℕ × Value). b.1) (with_value x (find x s.names))) ++ roots s xs
  roots_cons x xs = ap numbers (map_append (with_value x (find x s.names)) (bound s xs)) ∙ flat_append number (map (λ (b : List ℕ × Value). b.1) (with_value x (find x s.names))) (values xs)

  pub roots_find : (xs : List (List ℕ)) (i : ℕ) → In i (roots s xs) → (x : List ℕ) × In x xs × (find x s.names ≡ Some (node i))
  roots_find [] i h = absurd h
  roots_find (x ∷ xs) i h = elim (in_cases i (numbers (map (λ (b : List ℕ × Value). b.1) (with_value x (find x s.names)))) (roots s xs) (subst (λ l. In i l) (roots_cons x xs) h)) [
    | inl l ↦ (x, inl refl, root_find x (find x s.names) i l)
    | inr r ↦ (let k = roots_find xs i r in (k.0, inr k.1, k.2))
  ]

  pub find_roots : (xs : List (List ℕ)) (x : List ℕ) (i : ℕ) → In x xs → find x s.names ≡ Some (node i) → In i (roots s xs)
  find_roots [] x i h e = absurd h
  find_roots (y ∷ xs) x i (inl h) e =
      subst (λ l. In i l) (sym (roots_cons y xs)) (in_left i _ (roots s xs)
      (subst (λ (o : Option Value). In i (numbers (map (λ (b : List ℕ × Value). b.1) (with_value y o)))) (sym (ap (λ z. find z s.names) (sym h) ∙ e)) (inl refl)))
  find_roots (y ∷ xs) x i (inr h) e = subst (λ l. In i l) (sym (roots_cons y xs)) (in_right i _ (roots s xs) (find_roots xs x i h e))

  module _ (sound : IsSound s) (xs : List (List ℕ)) where
    pub roots_below : (a : ℕ) → In a (roots s xs) → a < length s.nodes
    roots_below a h = let k = roots_find xs a h in sound.names k.0 a k.2

    -- one more round meets no others
    pub order_end : order s xs ≡ met s.nodes (roots s xs) (order s xs)
    order_end = rounds_end s.nodes (roots s xs) (length s.nodes) roots_below sound.nodes

    pub order_more : (j m : ℕ) → m ≡ j + length s.nodes → rounds s.nodes (roots s xs) m ≡ order s xs
    order_more = rounds_more s.nodes (roots s xs) (length s.nodes) roots_below sound.nodes

    -- The order has the node that is a name's value.
    pub root_in : (x : List ℕ) (i : ℕ) → In x xs → find x s.names ≡ Some (node i) → In i (order s xs)
    root_in x i h e = from_in s.nodes (roots s xs) (length s.nodes) roots_below sound.nodes i (find_roots xs x i h e)

    -- The order has the nodes to which its nodes lead.
    pub child_in : (i a : ℕ) → In i (order s xs) → In (node a) (children (node_at s.nodes i)) → In a (order s xs)
    child_in i a h k = lead_in s.nodes (roots s xs) (length s.nodes) roots_below sound.nodes i a h (numbers_in (children (node_at s.nodes i)) a k)

  -- The order has each node once.
  pub order_distinct : (xs : List (List ℕ)) → AllDiffer (order s xs)
  order_distinct xs = rounds_distinct s.nodes (roots s xs) (length s.nodes)

  -- the order has exactly the nodes that paths from the names reach
  rounds_reached : (xs : List (List ℕ)) (k i : ℕ) → In i (rounds s.nodes (roots s xs) k) → (x : List ℕ) × In x xs × Reaches s x i
  rounds_reached xs zero i h = absurd h
  rounds_reached xs (suc k) i h = elim (round_cases s.nodes (roots s xs) (rounds s.nodes (roots s xs) k) i h) [
    | inl l ↦ (let r = roots_find xs i l in (r.0, r.1, ([], r.2)))
    | inr r ↦ (
        let q = rounds_reached xs k r.0 r.1 in
        let c = at_in (children (node_at s.nodes r.0)) (node i) (in_numbers (children (node_at s.nodes r.0)) i r.2) in
        (q.0, q.1, (c.0 ∷ q.2.0, ap (option_and_then (child s.nodes c.0)) q.2.1 ∙ c.1))
        )
  ]

  -- Some name reaches each node of the order.
  pub order_reached : (xs : List (List ℕ)) (i : ℕ) → In i (order s xs) → (x : List ℕ) × In x xs × Reaches s x i
  order_reached xs = rounds_reached xs (length s.nodes)

  -- a path that reaches a node goes there from a node
  pub step_from : (c i : ℕ) (o : Option Value) → option_and_then (child s.nodes c) o ≡ Some (node i) → (k : ℕ) × (o ≡ Some (node k)) × (slice_get (children (node_at s.nodes k)) c ≡ Some (node i))
  step_from c i None e = absurd (cc)
  step_from c i (Some (node k)) e = (k, refl, e)
  step_from c i (Some v) e = absurd (cc)

  -- What some name reaches is in the order.
  pub reached_order : IsSound s → (xs : List (List ℕ)) (x : List ℕ) → In x xs → (p : List ℕ) (i : ℕ) → reached s x p ≡ Some (node i) → In i (order s xs)
  reached_order sound xs x m [] i e = root_in sound xs x i m e
  reached_order sound xs x m (c ∷ p) i e =
      let k = step_from c i (reached s x p) e in
      child_in sound xs k.0 i (reached_order sound xs x m p k.0 k.1) (in_at (children (node_at s.nodes k.0)) c (node i) k.2)

-- Names with nodes are linked exactly where edges between reached nodes, taken either way, lead from one's node to the other's.
use Rattle.std.specs.Prelude.{◌≡◌, ℕ, List, [], ◌∷◌, Option, Some, option_and_then}
use Rattle.std.proofs.Common.{ap, sym, ◌∙◌, subst}
use Rattle.kishu_meaning.specs.values.Values.{Value, node, State, find}
use Rattle.kishu_objects.specs.Lists.{In}
use Rattle.kishu_objects.specs.Shape.{children, node_at, child, reached}
use Rattle.kishu_objects.specs.Picture.{leads}
use Rattle.kishu_objects.specs.Sound.{IsSound}
use Rattle.kishu_objects.specs.Groups.{Reaches, Linked, itself, further}
use Rattle.kishu_objects.specs.Components.{Joined, here, down, up}
use Rattle.kishu_objects_laws.specs.ListLaws.{in_at, at_in, contains_in, in_contains}
use Rattle.kishu_objects_laws.specs.OrderLaws.{in_numbers, numbers_in, order_reached, reached_order, step_from}

module _ (s : State) (sound : IsSound s) (of : List (List ℕ)) where
  on : (i j k : ℕ) → Joined s of i j → Joined s of j k → Joined s of i k
  on i j k a here = a
  on i j k a (down l w b m e) = down l k (on i j l a b) m e
  on i j k a (up w l b m e) = up k l (on i j l a b) m e

  back : (i j : ℕ) → Joined s of i j → Joined s of j i
  back i j here = here
  back i j (down l w b m e) = on j l i (up l j here m e) (back i l b)
  back i j (up w l b m e) = on j l i (down j l here m e) (back i l b)

  -- where a path leads, edges lead
  along_edges : (x : List ℕ) → In x of → (p : List ℕ) (k : ℕ) → reached s x p ≡ Some (node k) → (i : ℕ) × (find x s.names ≡ Some (node i)) × Joined s of i k
  along_edges x m [] k e = (k, e, here)
  along_edges x m (c ∷ p) k e =
      let r = step_from s c k (reached s x p) e in
      let a = along_edges x m p r.0 r.1 in
      (a.0, a.1, down r.0 k a.2 (reached_order s sound of x m p r.0 r.1) (numbers_in (children (node_at s.nodes r.0)) k (in_at (children (node_at s.nodes r.0)) c (node k) r.2)))

  one_node : (o : Option Value) (i j : ℕ) → o ≡ Some (node i) → o ≡ Some (node j) → i ≡ j
  one_node o i j e f = (let g : Some (node i) ≡ Some (node j) = sym e ∙ f in cc)

  to_node : (z : List ℕ) → In z of → (j k : ℕ) → find z s.names ≡ Some (node j) → Reaches s z k → Joined s of j k
  to_node z m j k e r = let a = along_edges z m r.0 k r.1 in subst (λ n. Joined s of n k) (one_node (find z s.names) a.0 j a.1 e) a.2

  linked_in : (x y : List ℕ) → In x of → Linked s of x y → In y of
  linked_in x y m itself = m
  linked_in x y m (further z w l c t) = contains_in of y c

  -- Where names are linked, edges join their nodes.
  pub linked_joined : (x : List ℕ) (i : ℕ) → In x of → find x s.names ≡ Some (node i) → (y : List ℕ) → Linked s of x y → (j : ℕ) → find y s.names ≡ Some (node j) → Joined s of i j
  linked_joined x i m e y itself j f = subst (λ n. Joined s of i n) (one_node (find x s.names) i j e f) here
  linked_joined x i m e y (further z w l c t) j f =
      let zm = linked_in x z m l in
      let a = along_edges z zm t.1.0 t.0 t.1.1 in
      let b = linked_joined x i m e z l a.0 a.1 in
      on i t.0 j (on i a.0 t.0 b a.2) (back j t.0 (to_node y (contains_in of y c) j t.0 f t.2))

  -- an edge is a step of each path
  reaches_on : (z : List ℕ) (j k : ℕ) → Reaches s z j → In k (leads s.nodes j) → Reaches s z k
  reaches_on z j k r h =
      let c = at_in (children (node_at s.nodes j)) (node k) (in_numbers (children (node_at s.nodes j)) k h) in
      (c.0 ∷ r.0, ap (option_and_then (child s.nodes c.0)) r.1 ∙ c.1)

  joined_reached : (x : List ℕ) (i : ℕ) → Reaches s x i → (j : ℕ) → Joined s of i j → (z : List ℕ) → In z of → Reaches s z j → Linked s of x z
  joined_reached x i r j here z m q = further x z itself (in_contains of z m) (i, r, q)
  joined_reached x i r k (down j u b m e) z n q =
      let w = order_reached s of j m in
      further w.0 z (joined_reached x i r j b w.0 w.1 w.2) (in_contains of z n) (k, reaches_on w.0 j k w.2 e, q)
  joined_reached x i r j (up u k b m e) z n q = joined_reached x i r k b z n (reaches_on z j k q e)

  -- Where edges join their nodes, names are linked.
  pub joined_linked : (x y : List ℕ) (i j : ℕ) → In y of → find x s.names ≡ Some (node i) → find y s.names ≡ Some (node j) → Joined s of i j → Linked s of x y
  joined_linked x y i j m e f a = joined_reached x i ([], e) j a y m ([], f)

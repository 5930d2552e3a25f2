-- The picture of names that rise stands in order, and each picture is the one of all names of its state.
use Rattle.std.specs.Prelude.{◌≡◌, ℕ, zero, suc, ◌<◌, List, [], ◌∷◌, ◌++◌, map, length, Option, Some, None}
use Rattle.std.specs.List.{AllByRecursion}
use Rattle.std.proofs.Common.{refl, ap, sym, ◌∙◌, subst, inl, inr}
use Rattle.kishu_meaning.specs.values.Values.{Value, none, bool, integer, text, range, builtin, class, node, Node, list, tuple, dict, object, function, exception, Names, State, find}
use Rattle.kishu_objects.specs.Bytes.{state_bytes, picture_bytes}
use Rattle.kishu_objects.specs.Lists.{In, Rise}
use Rattle.kishu_objects.specs.Picture.{number, numbers, times, met, with_value, bound, place, order, renumbered, named, picture, whole, listed}
use Rattle.kishu_objects.specs.Reading.{IsInOrder}
use Rattle.kishu_objects.specs.Shape.{children, each_child, node_at}
use Rattle.kishu_objects.specs.Sound.{IsSound}
use Rattle.kishu_objects.specs.State.{IsValue, AreValues, values_in, IsNode, IsState}
use Rattle.kishu_objects_laws.specs.ListLaws.{in_cases}
use Rattle.kishu_objects_laws.specs.ListedLaws.{picture_rise}
use Rattle.kishu_objects_laws.specs.NameLaws.{find_in}
use Rattle.kishu_objects_laws.specs.OwnPictureLaws.{picture_sound, picture_whole}
use Rattle.kishu_objects_laws.specs.ReadingLaws.{in_order}
use Rattle.kishu_reading.specs.Pictured.{HasKnownProfile, AreKnown, IsPictureOf}

-- ---- states are sound

module _ (k : ℕ) where
  value_below : (v : Value) (i : ℕ) → IsValue k v → In i (number v) → i < k
  value_below (node j) i h (inl e) = subst (λ n. n < k) (sym e) h
  value_below (node j) i h (inr m) = absurd m
  value_below none i h m = absurd m
  value_below (bool b) i h m = absurd m
  value_below (integer z) i h m = absurd m
  value_below (text cs) i h m = absurd m
  value_below (range a b c) i h m = absurd m
  value_below (builtin n) i h m = absurd m
  value_below (class n) i h m = absurd m

  values_below : (vs : List Value) (i : ℕ) → AreValues k vs → In i (numbers vs) → i < k
  values_below [] i h m = absurd m
  values_below (v ∷ vs) i h m = elim (in_cases i (number v) (numbers vs) m) [ inl l ↦ value_below v i h.0 l | inr n ↦ values_below vs i h.1 n ]

  value_in : (ns : Names) (b : List ℕ × Value) → AreValues k (values_in ns) → In b ns → IsValue k b.1
  value_in [] b h m = absurd m
  value_in (n ∷ ns) b h (inl e) = subst (λ (c : List ℕ × Value). IsValue k c.1) (sym e) h.0
  value_in (n ∷ ns) b h (inr m) = value_in ns b h.1 m

  children_are : (a : Node) → IsNode k a → AreValues k (children a)
  children_are (list vs) h = h
  children_are (tuple vs) h = h
  children_are (dict es) h = h.2
  children_are (object es) h = h.2
  children_are (function profile code vs) h = h.1
  children_are (exception kind vs) h = h.1

  node_is : (ms : List Node) (i : ℕ) → AllByRecursion (IsNode k) ms → IsNode k (node_at ms i)
  node_is [] i h = tt
  node_is (a ∷ ms) zero h = h.0
  node_is (a ∷ ms) (suc i) h = node_is ms i h.1

pub state_is_sound : (p : State) → IsState p → IsSound p
state_is_sound p h =
    let k = length p.nodes in
    record {
      names = λ x i e. value_in k p.names (x, node i) h.names.values (find_in x p.names (node i) e);
      nodes = λ i a m. values_below k (children (node_at p.nodes i)) a (children_are k (node_at p.nodes i) (node_is k p.nodes i h.nodes)) m;
    }

-- ---- the names that are bound tell the picture

module _ (s : State) where
  -- those of the names that are bound
  abbrev standing : List (List ℕ) → List (List ℕ)
  standing xs = map (λ (b : List ℕ × Value). b.0) (bound s xs)

  bound_with : (x : List ℕ) (xs : List (List ℕ)) (o : Option Value) → find x s.names ≡ o → bound s (standing xs) ≡ bound s xs
      → bound s (map (λ (b : List ℕ × Value). b.0) (with_value x o ++ bound s xs)) ≡ with_value x o ++ bound s xs
  bound_with x xs None e h = h
  bound_with x xs (Some v) e h = ap (λ o. with_value x o ++ bound s (standing xs)) e ∙ ap (λ ns. (x, v) ∷ ns) h

  bound_again : (xs : List (List ℕ)) → bound s (standing xs) ≡ bound s xs
  bound_again [] = refl
  bound_again (x ∷ xs) = bound_with x xs (find x s.names) refl (bound_again xs)

  found_with : (x y : List ℕ) (xs : List (List ℕ)) (o : Option Value) → find x s.names ≡ o
      → (In y (standing xs) → (v : Value) × (find y s.names ≡ Some v))
      → In y (map (λ (b : List ℕ × Value). b.0) (with_value x o ++ bound s xs)) → (v : Value) × (find y s.names ≡ Some v)
  found_with x y xs None e h m = h m
  found_with x y xs (Some v) e h (inl f) = (v, ap (λ z. find z s.names) f ∙ e)
  found_with x y xs (Some v) e h (inr n) = h n

  standing_found : (xs : List (List ℕ)) (y : List ℕ) → In y (standing xs) → (v : Value) × (find y s.names ≡ Some v)
  standing_found [] y m = absurd m
  standing_found (x ∷ xs) y m = found_with x y xs (find x s.names) refl (standing_found xs y) m

  -- a picture by the names that are bound
  abbrev by_bound : Names → State
  by_bound ns =
      let is = times (length s.nodes) (met s.nodes (numbers (map (λ (b : List ℕ × Value). b.1) ns))) [] in
      record { names = map (named (place is)) ns; nodes = map (λ i. each_child (renumbered (place is)) (node_at s.nodes i)) is }

  standing_picture : (xs : List (List ℕ)) → picture s (standing xs) ≡ picture s xs
  standing_picture xs = ap by_bound (bound_again xs)

  pub own_picture : IsSound s → (xs : List (List ℕ)) → whole (picture s xs) ≡ picture s xs
  own_picture h xs = subst (λ q. whole q ≡ q) (standing_picture xs) (picture_whole s h (standing xs) (standing_found xs))

  pub picture_in_order : (xs : List (List ℕ)) → IsSound s → Rise xs → IsInOrder (picture s xs)
  picture_in_order xs h rise = (in_order (picture s xs) (picture_sound s h xs) (picture_rise s xs rise)).1 (own_picture h xs)

-- ---- profiles

pub known_moved : (f : Value → Value) (a : Node) → HasKnownProfile a → HasKnownProfile (each_child f a)
known_moved f (list vs) h = tt
known_moved f (tuple vs) h = tt
known_moved f (dict es) h = tt
known_moved f (object es) h = tt
known_moved f (function profile code vs) h = h
known_moved f (exception kind vs) h = tt

known_at : (ms : List Node) (i : ℕ) → AreKnown ms → HasKnownProfile (node_at ms i)
known_at [] i h = tt
known_at (a ∷ ms) zero h = h.0
known_at (a ∷ ms) (suc i) h = known_at ms i h.1

known_rows : (f : Value → Value) (ms : List Node) (is : List ℕ) → AreKnown ms → AreKnown (map (λ i. each_child f (node_at ms i)) is)
known_rows f ms [] h = tt
known_rows f ms (i ∷ is) h = (known_moved f (node_at ms i) (known_at ms i h), known_rows f ms is h)

pub picture_known : (s : State) (names : List (List ℕ)) → AreKnown s.nodes → AreKnown (picture s names).nodes
picture_known s names h = known_rows (renumbered (place (order s names))) s.nodes (order s names) h

-- ---- a picture is one of names

pub picture_of_names : (bs : List ℕ) (p : State) → IsPictureOf bs p → bs ≡ picture_bytes p (listed p)
picture_of_names bs p h =
    let own : whole p ≡ p = (in_order p (state_is_sound p h.state.state) h.state.state.names.rise).0 h.state.order in
    h.is ∙ ap state_bytes (sym own)

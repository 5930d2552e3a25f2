-- The picture of a state is a state, and so is a state into which one is loaded.
use Rattle.std.specs.Prelude.{◌≡◌, ℕ, zero, suc, ◌+◌, ◌<◌, List, [], ◌∷◌, ◌++◌, map, length, Option, Some, None}
use Rattle.std.specs.List.{AllByRecursion as Each}
use Rattle.std.specs.Str.{bytes_eq}
use Rattle.std.proofs.Common.{refl, ap, sym, ◌∙◌, subst, arith, inl, inr, length-append}
use Rattle.std.proofs.lemmas.List.{length-map}
use Rattle.kishu_meaning.specs.values.Values.{Value, none, bool, integer, text, range, builtin, class, node, Node, list, tuple, dict, object, function, exception, Names, State, find}
use Rattle.kishu_objects.specs.Lists.{In, Rise}
use Rattle.kishu_objects.specs.Loading.{bind_all, with_picture}
use Rattle.kishu_objects.specs.Picture.{place, with_value, bound, order, renumbered, named, picture}
use Rattle.kishu_objects.specs.Shape.{children, each_child, node_at}
use Rattle.kishu_objects.specs.Sound.{IsSound}
use Rattle.kishu_meaning.specs.moments.Accesses.{unbind}
use Rattle.kishu_meaning.specs.values.Keys.{is_one}
use Rattle.kishu_objects.specs.State.{IsValue, AreValues, IsKey, IsName, AreApart, IsCode, keys_in, values_in, AreNames, IsNode, IsState}
use Rattle.kishu_objects_laws.specs.ListedLaws.{picture_rise}
use Rattle.kishu_objects_laws.specs.NameLaws.{found_listed}
use Rattle.kishu_objects_laws.specs.OrderLaws.{root_in, child_in}
use Rattle.kishu_objects_laws.specs.OwnPictureLaws.{place_below, rows_length}
use Rattle.kishu_state_laws.specs.keeping.Logic.{Maybe, each_later, each_append, node_later, names_later}
use Rattle.kishu_state_laws.specs.keeping.Names.{value_of_name, names_bound, names_unbound}
use Rattle.kishu_state_laws.specs.Real.{children_values, state_is_real}

each_in : {A : Type 0} (P : A → Type 0) (as' : List A) (a : A) → Each P as' → In a as' → P a
each_in P [] a h m = absurd m
each_in P (b ∷ as') a h (inl e) = subst P (sym e) h.0
each_in P (b ∷ as') a h (inr m) = each_in P as' a h.1 m

-- ---- values with other numbers

module _ (k m : ℕ) (f : ℕ → ℕ) where
  moved_value : (v : Value) → IsValue k v → ((i : ℕ) → v ≡ node i → f i < m) → IsValue m (renumbered f v)
  moved_value none h l = tt
  moved_value (bool b) h l = tt
  moved_value (integer z) h l = h
  moved_value (text cs) h l = h
  moved_value (range a b c) h l = h
  moved_value (builtin n) h l = h
  moved_value (class n) h l = h
  moved_value (node i) h l = l i refl

  moved_values : (vs : List Value) → AreValues k vs → ((i : ℕ) → In (node i) vs → f i < m) → AreValues m (map (renumbered f) vs)
  moved_values [] h l = tt
  moved_values (v ∷ vs) h l = (moved_value v h.0 (λ i e. l i (inl (sym e))), moved_values vs h.1 (λ i n. l i (inr n)))

  moved_keys : {K : Type 0} (es : List (K × Value)) → keys_in es ≡ keys_in (map {B = K × Value} (λ (e : K × Value). (e.0, renumbered f e.1)) es)
  moved_keys [] = refl
  moved_keys (e ∷ es) = ap (λ l. e.0 ∷ l) (moved_keys es)

  moved_entries : {K : Type 0} (es : List (K × Value)) → map (renumbered f) (values_in es) ≡ values_in (map {B = K × Value} (λ (e : K × Value). (e.0, renumbered f e.1)) es)
  moved_entries [] = refl
  moved_entries (e ∷ es) = ap (λ l. renumbered f e.1 ∷ l) (moved_entries es)

  moved_node : (n : Node) → IsNode k n → ((i : ℕ) → In (node i) (children n) → f i < m) → IsNode m (each_child (renumbered f) n)
  moved_node (list vs) h l = moved_values vs h l
  moved_node (tuple vs) h l = moved_values vs h l
  moved_node (dict es) h l = (subst (λ ks. Each IsKey ks) (moved_keys es) h.0, subst (λ ks. AreApart is_one ks) (moved_keys es) h.1, subst (λ vs. AreValues m vs) (moved_entries es) (moved_values (values_in es) h.2 l))
  moved_node (object as') h l = (subst (λ ks. Each IsName ks) (moved_keys as') h.0, subst (λ ks. AreApart bytes_eq ks) (moved_keys as') h.1, subst (λ vs. AreValues m vs) (moved_entries as') (moved_values (values_in as') h.2 l))
  moved_node (function profile code vs) h l = (subst (λ n. IsCode profile code n) (sym (length-map vs (renumbered f))) h.0, moved_values vs h.1 l)
  moved_node (exception kind vs) h l = (h.0, moved_values vs h.1 l)

-- ---- pictures

node_is : (k : ℕ) (ns : List Node) (i : ℕ) → Each (IsNode k) ns → IsNode k (node_at ns i)
node_is k [] i h = tt
node_is k (n ∷ ns) zero h = h.0
node_is k (n ∷ ns) (suc i) h = node_is k ns i h.1

module _ (s : State) (h : IsState s) (names : List (List ℕ)) where
  abbrev is : List ℕ
  is = order s names

  abbrev spot : ℕ → ℕ
  spot = place (order s names)

  abbrev many : ℕ
  many = length (picture s names).nodes

  sound : IsSound s
  sound = (state_is_real s h).sound

  spot_below : (i : ℕ) → In i is → spot i < many
  spot_below i m = (let p = place_below is i m in let e = rows_length s sound names in omega (arith, p, e))

  title_found : (x : List ℕ) (v : Value) → find x s.names ≡ Some v → IsName x
  title_found x v e = each_in IsName (keys_in s.names) x h.names.titles (found_listed s.names x v e)

  value_found : (x : List ℕ) (v : Value) → find x s.names ≡ Some v → IsValue (length s.nodes) v
  value_found x v e = subst (λ o. Maybe (IsValue (length s.nodes)) o) e (value_of_name (length s.nodes) x s.names h.names.values)

  title_with : (x : List ℕ) (xs : List (List ℕ)) (o : Option Value) → find x s.names ≡ o → Each IsName (keys_in (map (named spot) (bound s xs))) → Each IsName (keys_in (map (named spot) (with_value x o ++ bound s xs)))
  title_with x xs None e r = r
  title_with x xs (Some v) e r = (title_found x v e, r)

  titles : (xs : List (List ℕ)) → Each IsName (keys_in (map (named spot) (bound s xs)))
  titles [] = tt
  titles (x ∷ xs) = title_with x xs (find x s.names) refl (titles xs)

  value_with : (x : List ℕ) (xs : List (List ℕ)) (o : Option Value) → In x names → find x s.names ≡ o → AreValues many (values_in (map (named spot) (bound s xs))) → AreValues many (values_in (map (named spot) (with_value x o ++ bound s xs)))
  value_with x xs None m e r = r
  value_with x xs (Some v) m e r = (moved_value (length s.nodes) many spot v (value_found x v e) (λ i g. spot_below i (root_in s sound names x i m (e ∙ ap Some g))), r)

  values : (xs : List (List ℕ)) → ((x : List ℕ) → In x xs → In x names) → AreValues many (values_in (map (named spot) (bound s xs)))
  values [] m = tt
  values (x ∷ xs) m = value_with x xs (find x s.names) (m x (inl refl)) refl (values xs (λ y n. m y (inr n)))

  rows : (ks : List ℕ) → ((i : ℕ) → In i ks → In i is) → Each (IsNode many) (map (λ i. each_child (renumbered spot) (node_at s.nodes i)) ks)
  rows [] m = tt
  rows (k ∷ ks) m = (moved_node (length s.nodes) many spot (node_at s.nodes k) (node_is (length s.nodes) s.nodes k h.nodes) (λ i c. spot_below i (child_in s sound names k i (m k (inl refl)) c)), rows ks (λ i n. m i (inr n)))

  -- The picture of names that stand in order is a state.
  pub picture_is_state : Rise names → IsState (picture s names)
  picture_is_state rise = record {
    names = record { titles = titles names; rise = picture_rise s names rise; values = values names (λ x m. m) };
    nodes = rows is (λ i m. m);
  }

-- ---- loads

module _ (s p : State) (hs : IsState s) (hp : IsState p) where
  abbrev shift : ℕ → ℕ
  shift i = length s.nodes + i

  abbrev loaded : ℕ
  loaded = length (with_picture s p).nodes

  long : loaded ≡ length s.nodes + length p.nodes
  long = length-append s.nodes (map (each_child (renumbered shift)) p.nodes) ∙ ap (λ n. length s.nodes + n) (length-map p.nodes (each_child (renumbered shift)))

  shift_below : (i : ℕ) → i < length p.nodes → shift i < loaded
  shift_below i l = (let e = long in omega (arith, l, e))

  below : (v : Value) → IsValue (length p.nodes) v → (i : ℕ) → v ≡ node i → i < length p.nodes
  below v h i e = subst (λ w. IsValue (length p.nodes) w) e h

  all_bound : (bs ns : Names) → Each IsName (keys_in bs) → AreValues (length p.nodes) (values_in bs) → AreNames loaded ns → AreNames loaded (bind_all (map (named shift) bs) ns)
  all_bound [] ns t v h = h
  all_bound (b ∷ bs) ns t v h = all_bound bs _ t.1 v.1 (names_bound loaded b.0 (renumbered shift b.1) ns t.0 (moved_value (length p.nodes) loaded shift b.1 v.0 (λ i e. shift_below i (below b.1 v.0 i e))) h)

  child_below : (vs : List Value) → AreValues (length p.nodes) vs → (i : ℕ) → In (node i) vs → shift i < loaded
  child_below vs h i m = shift_below i (each_in (IsValue (length p.nodes)) vs (node i) h m)

  new_nodes : (ns : List Node) → Each (IsNode (length p.nodes)) ns → Each (IsNode loaded) (map (each_child (renumbered shift)) ns)
  new_nodes [] h = tt
  new_nodes (n ∷ ns) h = (moved_node (length p.nodes) loaded shift n h.0 (child_below (children n) (children_values (length p.nodes) n h.0)), new_nodes ns h.1)

  old_nodes : (ns : List Node) → Each (IsNode (length s.nodes)) ns → Each (IsNode loaded) ns
  old_nodes = each_later (IsNode (length s.nodes)) (IsNode loaded) (node_later (length s.nodes) loaded (let e = long in omega (arith, e)))

  -- A state into which a state is loaded is one.
  pub with_picture_is_state : IsState (with_picture s p)
  with_picture_is_state = record {
    names = all_bound p.names s.names hp.names.titles hp.names.values (names_later (length s.nodes) loaded (let e = long in omega (arith, e)) hs.names);
    nodes = each_append (IsNode loaded) s.nodes (map (each_child (renumbered shift)) p.nodes) (old_nodes s.nodes hs.nodes) (new_nodes p.nodes hp.nodes);
  }

-- ---- names that are unbound

pub unbound_is_state : (s : State) (x : List ℕ) → IsState s → IsState (record { names = unbind x s.names; nodes = s.nodes })
unbound_is_state s x h = record { names = names_unbound (length s.nodes) x s.names h.names; nodes = h.nodes }

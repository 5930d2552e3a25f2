-- Items, slices, attributes, stores and deletions keep what holds of every state.
use Rattle.std.specs.Prelude.{ℕ, ℤ, pos, ◌+ℤ◌, ◌*ℤ◌, List, [], ◌∷◌, length, filter_map, codes, Option, Some, None, slice_get, slice_set}
use Rattle.std.specs.Ordering.{int_eq}
use Rattle.std.specs.Str.{bytes_eq}
use Rattle.std.proofs.Common.{refl}
use Rattle.kishu_meaning.specs.values.Keys.{is_one}
use Rattle.kishu_meaning.specs.values.Values.{Value, none, integer, text, range, node, Node, list, tuple, dict, object, exception}
use Rattle.kishu_meaning.specs.values.Nodes.{value_at, with_entry, without_entry, on_list, on_dict, on_object}
use Rattle.kishu_meaning.specs.moments.Moment.{M, ◌>>=◌, give}
use Rattle.kishu_meaning.specs.comparing.Equal.{range_length}
use Rattle.kishu_meaning.specs.items.Indexes.{index_of}
use Rattle.kishu_meaning.specs.items.Subscripts.{taken, node_item, item, bound_of, step_from, slice_places, at_place, picked, node_slice, slice, node_attribute, attribute, store_in_node, store_item, store_on_node, store_attribute, without_place, where_found, delete_in_node, delete_item, delete_on_node, delete_attribute}
use Rattle.kishu_objects.specs.State.{IsValue, AreValues, IsNode, IsName, values_in}
use Rattle.kishu_state_laws.specs.keeping.Logic.{Maybe, Any, IsText, Safe, bind_s, with_s, plain_s, then_s, give_s, any_s, value_s, raise_s, if_s, or_else_s, node_now_s, spend_s, make_s, change_s, value_later, values_later, each_get}
use Rattle.kishu_state_laws.specs.keeping.Lists.{each_set, each_without, each_picked, value_found, entries_with, entries_without, edits_list, edits_dict, edits_attribute, edits_without}
use Rattle.kishu_state_laws.specs.keeping.Texts.{IsScalar, each_scalar, of_scalars, one_text}
use Rattle.kishu_state_laws.specs.keeping.Numbers.{whole_range}
use Rattle.kishu_state_laws.specs.keeping.Leaves.{no_key_s, no_attribute_s, not_subscriptable_s, key_s, index_s, position_s}

module _ {k : ℕ} where
  -- ---- items

  taken_s : (vs : List Value) (v : Value) → AreValues k vs → Safe k IsValue (taken vs v)
  taken_s vs v h = with_s (position_s (length vs) v) (λ i q. or_else_s IsValue (slice_get vs i) (raise_s _ (codes "index out of range") refl refl) (λ l le. each_get (IsValue l) vs i (values_later k l le vs h)))

  taken_scalar : (cs : List ℕ) (v : Value) → IsText cs → Safe k (λ l. IsScalar) (taken cs v)
  taken_scalar cs v h = with_s (position_s (length cs) v) (λ i q. or_else_s (λ l. IsScalar) (slice_get cs i) (raise_s _ (codes "index out of range") refl refl) (λ l le. each_get IsScalar cs i (each_scalar cs h)))

  node_item_s : (v i : Value) (o : Option Node) → IsValue k i → Maybe (IsNode k) o → Safe k IsValue (node_item v i o)
  node_item_s v i (Some (list vs)) p h = taken_s vs i h
  node_item_s v i (Some (tuple vs)) p h = taken_s vs i h
  node_item_s v i (Some (dict es)) p h = with_s (key_s i p) (λ key q. or_else_s IsValue (value_at is_one key es) (no_key_s i p) (λ l le. value_found l is_one key es (values_later k l le (values_in es) h.2)))
  node_item_s v i o p h = not_subscriptable_s v

  -- ---- slices

  bound_number_s : (v : Value) → Safe k Any (index_of v >>= λ z. give (Some z))
  bound_number_s v = plain_s (index_s v) (λ z. any_s)

  bound_of_s : (v : Value) → Safe k Any (bound_of v)
  bound_of_s none = any_s
  bound_of_s v = bound_number_s v

  step_s : (o : Option ℤ) → Safe k Any (step_from o)
  step_s None = any_s
  step_s (Some z) = if_s (int_eq z (pos 0)) (raise_s _ (codes "step is zero") refl refl) any_s

  slice_places_s : (n : ℕ) (a b c : Value) → Safe k Any (slice_places n a b c)
  slice_places_s n a b c = plain_s (bound_of_s a) (λ x. plain_s (bound_of_s b) (λ y. plain_s (plain_s (bound_of_s c) (λ o. step_s o)) (λ z. any_s)))

  picked_text : (cs : List ℕ) (a b c : Value) → IsText cs → Safe k (λ l. IsText) (picked cs a b c)
  picked_text cs a b c h = plain_s (slice_places_s (length cs) a b c) (λ zs. then_s (spend_s (length zs)) (give_s (λ l. IsText) (λ l le. of_scalars (filter_map (at_place cs) zs) (each_picked IsScalar zs cs (each_scalar cs h)))))

  picked_s : (vs : List Value) (a b c : Value) → AreValues k vs → Safe k AreValues (picked vs a b c)
  picked_s vs a b c h = plain_s (slice_places_s (length vs) a b c) (λ zs. then_s (spend_s (length zs)) (give_s AreValues (λ l le. each_picked (IsValue l) zs vs (values_later k l le vs h))))

  node_slice_s : (v a b c : Value) (o : Option Node) → Maybe (IsNode k) o → Safe k IsValue (node_slice v a b c o)
  node_slice_s v a b c (Some (list vs)) h = bind_s (picked_s vs a b c h) (λ n le ws q. make_s (list ws) q (λ p. tt))
  node_slice_s v a b c (Some (tuple vs)) h = bind_s (picked_s vs a b c h) (λ n le ws q. make_s (tuple ws) q (λ p. tt))
  node_slice_s v a b c o h = not_subscriptable_s v

  -- ---- attributes

  node_attribute_s : (v : Value) (x : List ℕ) (o : Option Node) → IsName x → Maybe (IsNode k) o → Safe k IsValue (node_attribute v x o)
  node_attribute_s v x (Some (object es)) n h = or_else_s IsValue (value_at bytes_eq x es) (no_attribute_s v x n) (λ l le. value_found l bytes_eq x es (values_later k l le (values_in es) h.2))
  node_attribute_s v x (Some (exception kind vs)) n h = if_s (bytes_eq x (codes "args")) (make_s (tuple vs) h.1 (λ p. tt)) (no_attribute_s v x n)
  node_attribute_s v x o n h = no_attribute_s v x n

  -- ---- stores

  store_in_node_s : (n : ℕ) (i w : Value) (o : Option Node) → IsValue k i → IsValue k w → Safe k Any (store_in_node n i w o)
  store_in_node_s n i w (Some (list vs)) r p = with_s (position_s (length vs) i) (λ at q. change_s n (on_list (λ xs. slice_set xs at w)) (edits_list (λ xs. slice_set xs at w) (λ l le xs r. each_set (IsValue l) xs at w (value_later k l le w p) r)))
  store_in_node_s n i w (Some (dict es)) r p = with_s (key_s i r) (λ key q. change_s n (on_dict (with_entry is_one key w)) (edits_dict (with_entry is_one key w) (λ l le xs r. entries_with l key w xs q (value_later k l le w p) r)))
  store_in_node_s n i w o r p = not_subscriptable_s (node n)

  store_on_node_s : (n : ℕ) (x : List ℕ) (w : Value) (o : Option Node) → IsName x → IsValue k w → Safe k Any (store_on_node n x w o)
  store_on_node_s n x w (Some (object es)) m p = change_s n (on_object (with_entry bytes_eq x w)) (edits_attribute x w m p)
  store_on_node_s n x w o m p = no_attribute_s (node n) x m

  -- ---- deletions

  found_s : {A : Type 0} (o : Option A) {m n : M (Unit {0})} → Safe k Any m → Safe k Any n → Safe k Any (where_found m o n)
  found_s (Some a) h g = g
  found_s None h g = h

  delete_in_node_s : (n : ℕ) (i : Value) (o : Option Node) → IsValue k i → Safe k Any (delete_in_node n i o)
  delete_in_node_s n i (Some (list vs)) p = with_s (position_s (length vs) i) (λ at q. change_s n (on_list (without_place at)) (edits_list (without_place at) (λ l le xs r. each_without (IsValue l) at xs r)))
  delete_in_node_s n i (Some (dict es)) p = with_s (key_s i p) (λ key q. found_s (value_at is_one key es) (no_key_s i p) (change_s n (on_dict (without_entry is_one key)) (edits_dict (without_entry is_one key) (λ l le xs r. entries_without l key xs r))))
  delete_in_node_s n i o p = not_subscriptable_s (node n)

  delete_on_node_s : (n : ℕ) (x : List ℕ) (o : Option Node) → IsName x → Safe k Any (delete_on_node n x o)
  delete_on_node_s n x (Some (object es)) m = found_s (value_at bytes_eq x es) (no_attribute_s (node n) x m) (change_s n (on_object (without_entry bytes_eq x)) (edits_without x))
  delete_on_node_s n x o m = no_attribute_s (node n) x m

module _ {k : ℕ} where
  pub item_s : (v i : Value) → IsValue k v → IsValue k i → Safe k IsValue (item v i)
  item_s (text cs) i h p = with_s (taken_scalar cs i h) (λ c q. value_s (text (c ∷ [])) (one_text c q))
  item_s (range a b c) i h p = with_s (position_s (range_length a b c) i) (λ n q. value_s (integer (a +ℤ pos n *ℤ c)) (whole_range a b c n h.0 h.1 q))
  item_s (node n) i h p = bind_s (node_now_s (node n)) (λ l le o q. node_item_s (node n) i o (value_later k l le i p) q)
  item_s v i h p = not_subscriptable_s v

  pub slice_s : (v a b c : Value) → IsValue k v → Safe k IsValue (slice v a b c)
  slice_s (text cs) a b c h = with_s (picked_text cs a b c h) (λ ds q. value_s (text ds) q)
  slice_s (node n) a b c h = bind_s (node_now_s (node n)) (λ l le o q. node_slice_s (node n) a b c o q)
  slice_s v a b c h = not_subscriptable_s v

  pub attribute_s : (v : Value) (x : List ℕ) → IsName x → Safe k IsValue (attribute v x)
  attribute_s v x n = bind_s (node_now_s v) (λ l le o q. node_attribute_s v x o n q)

  pub store_item_s : (v i w : Value) → IsValue k i → IsValue k w → Safe k Any (store_item v i w)
  store_item_s (node n) i w r p = bind_s (node_now_s (node n)) (λ l le o q. store_in_node_s n i w o (value_later k l le i r) (value_later k l le w p))
  store_item_s v i w r p = not_subscriptable_s v

  pub store_attribute_s : (v : Value) (x : List ℕ) (w : Value) → IsName x → IsValue k w → Safe k Any (store_attribute v x w)
  store_attribute_s (node n) x w m p = bind_s (node_now_s (node n)) (λ l le o q. store_on_node_s n x w o m (value_later k l le w p))
  store_attribute_s v x w m p = no_attribute_s v x m

  pub delete_item_s : (v i : Value) → IsValue k i → Safe k Any (delete_item v i)
  delete_item_s (node n) i p = bind_s (node_now_s (node n)) (λ l le o q. delete_in_node_s n i o (value_later k l le i p))
  delete_item_s v i p = not_subscriptable_s v

  pub delete_attribute_s : (v : Value) (x : List ℕ) → IsName x → Safe k Any (delete_attribute v x)
  delete_attribute_s (node n) x m = bind_s (node_now_s (node n)) (λ l le o q. delete_on_node_s n x o m)
  delete_attribute_s v x m = no_attribute_s v x m

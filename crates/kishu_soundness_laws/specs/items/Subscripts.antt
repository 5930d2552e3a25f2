-- Items, slices and attributes keep node numbers those of nodes: as they are read, stored and deleted.
use Rattle.std.specs.Prelude.{ℕ, codes, ◌++◌, ℤ, List, length, slice_get, Option, Some, None, pos, take, drop, suc, ◌+ℤ◌, ◌*ℤ◌, [], ◌∷◌}
use Rattle.std.specs.Ordering.{int_eq}
use Rattle.std.specs.Str.{bytes_eq}
use Rattle.kishu_meaning.specs.comparing.Equal.{number_in, range_length}
use Rattle.kishu_meaning.specs.items.Indexes.{index_of, place_of, place_in}
use Rattle.kishu_meaning.specs.items.Subscripts.{not_subscriptable, position, taken, node_item, bound_of, step_from, slice_places, picked, node_slice, node_attribute, store_in_node, store_on_node, where_found, delete_in_node, delete_on_node, item, slice, attribute, store_item, store_attribute, delete_item, delete_attribute}
use Rattle.kishu_meaning.specs.moments.Moment.{give, ◌>>=◌, M}
use Rattle.kishu_meaning.specs.values.Keys.{is_one}
use Rattle.kishu_meaning.specs.values.Kinds.{in_quotes}
use Rattle.kishu_meaning.specs.values.Nodes.{value_at}
use Rattle.kishu_meaning.specs.values.Values.{Value, object, range, Node, list, tuple, dict, none, exception, node, text, integer}
use Rattle.kishu_soundness_laws.specs.Below.{Any, AllBelow, Below, Maybe, NodeBelow, values_in}
use Rattle.kishu_soundness_laws.specs.BelowLaws.{each_get, all_later, below_later, each_append}
use Rattle.kishu_soundness_laws.specs.moments.Steps.{IsSafe, any_else_safe, raise_safe, plain_safe, or_else_safe, any_safe, if_safe, then_safe, spend_safe, give_safe, bind_safe, value_safe, node_now_safe}
use Rattle.kishu_soundness_laws.specs.moments.Heap.{make_safe, change_safe}
use Rattle.kishu_soundness_laws.specs.values.Lists.{at_below, each_picked, each_set, with_below, each_take, each_drop, without_below}
use Rattle.kishu_soundness_laws.specs.values.Nodes.{on_list_below, on_dict_below, on_object_below}
use Rattle.kishu_soundness_laws.specs.values.Kinds.{kind_raise, bad_index_safe, no_key_safe, no_attribute_safe}
use Rattle.kishu_soundness_laws.specs.items.KeyOf.{key_safe}

module _ {A : Type 0} {k : ℕ} {Q : ℕ → A → Type 0} where
  pub not_subscriptable_safe : (v : Value) → IsSafe k Q (not_subscriptable v)
  not_subscriptable_safe v = kind_raise v _ (λ c. in_quotes c ++ codes " object is not subscriptable")

module _ {k : ℕ} where
  pub index_safe : (v : Value) → IsSafe k Any (index_of v)
  index_safe v = any_else_safe (number_in v) (bad_index_safe v)

  pub place_of_safe : (n : ℕ) (z : ℤ) → IsSafe k Any (place_of n z)
  place_of_safe n z = any_else_safe (place_in n z) (raise_safe _ (codes "index out of range"))

  pub position_safe : (n : ℕ) (v : Value) → IsSafe k Any (position n v)
  position_safe n v = plain_safe (index_safe v) (λ z. place_of_safe n z)

  pub taken_safe : (vs : List Value) (v : Value) → AllBelow k vs → IsSafe k Below (taken vs v)
  taken_safe vs v h = plain_safe (position_safe (length vs) v) (λ i. or_else_safe Below (slice_get vs i) (raise_safe _ (codes "index out of range")) (λ l le. each_get (Below l) vs i (all_later k l le vs h)))

  pub taken_any : {A : Type 0} (as' : List A) (v : Value) → IsSafe k Any (taken as' v)
  taken_any as' v = plain_safe (position_safe (length as') v) (λ i. any_else_safe (slice_get as' i) (raise_safe _ (codes "index out of range")))

  node_item_safe : (v i : Value) (o : Option Node) → Below k i → Maybe (NodeBelow k) o → IsSafe k Below (node_item v i o)
  node_item_safe v i (Some (list vs)) p h = taken_safe vs i h
  node_item_safe v i (Some (tuple vs)) p h = taken_safe vs i h
  node_item_safe v i (Some (dict es)) p h = plain_safe (key_safe i) (λ key. or_else_safe Below (value_at is_one key es) (no_key_safe i p) (λ l le. at_below l is_one key es (all_later k l le (values_in es) h)))
  node_item_safe v i o p h = not_subscriptable_safe v

  bound_number_safe : (v : Value) → IsSafe k Any (index_of v >>= λ z. give (Some z))
  bound_number_safe v = plain_safe (index_safe v) (λ z. any_safe)

  bound_of_safe : (v : Value) → IsSafe k Any (bound_of v)
  bound_of_safe none = any_safe
  bound_of_safe v = bound_number_safe v

  step_safe : (o : Option ℤ) → IsSafe k Any (step_from o)
  step_safe None = any_safe
  step_safe (Some z) = if_safe (int_eq z (pos 0)) (raise_safe _ (codes "step is zero")) any_safe

  slice_places_safe : (n : ℕ) (a b c : Value) → IsSafe k Any (slice_places n a b c)
  slice_places_safe n a b c = plain_safe (bound_of_safe a) (λ x. plain_safe (bound_of_safe b) (λ y. plain_safe (plain_safe (bound_of_safe c) (λ o. step_safe o)) (λ z. any_safe)))

  picked_any : {A : Type 0} (as' : List A) (a b c : Value) → IsSafe k Any (picked as' a b c)
  picked_any as' a b c = plain_safe (slice_places_safe (length as') a b c) (λ zs. then_safe (spend_safe (length zs)) any_safe)

  picked_safe : (vs : List Value) (a b c : Value) → AllBelow k vs → IsSafe k AllBelow (picked vs a b c)
  picked_safe vs a b c h = plain_safe (slice_places_safe (length vs) a b c) (λ zs. then_safe (spend_safe (length zs)) (give_safe AllBelow (λ l le. each_picked (Below l) zs vs (all_later k l le vs h))))

  node_slice_safe : (v a b c : Value) (o : Option Node) → Maybe (NodeBelow k) o → IsSafe k Below (node_slice v a b c o)
  node_slice_safe v a b c (Some (list vs)) h = bind_safe (picked_safe vs a b c h) (λ n le ws q. make_safe (list ws) q)
  node_slice_safe v a b c (Some (tuple vs)) h = bind_safe (picked_safe vs a b c h) (λ n le ws q. make_safe (tuple ws) q)
  node_slice_safe v a b c o h = not_subscriptable_safe v

  node_attribute_safe : (v : Value) (x : List ℕ) (o : Option Node) → Maybe (NodeBelow k) o → IsSafe k Below (node_attribute v x o)
  node_attribute_safe v x (Some (object es)) h = or_else_safe Below (value_at bytes_eq x es) (no_attribute_safe v x) (λ l le. at_below l bytes_eq x es (all_later k l le (values_in es) h))
  node_attribute_safe v x (Some (exception kind vs)) h = if_safe (bytes_eq x (codes "args")) (make_safe (tuple vs) h) (no_attribute_safe v x)
  node_attribute_safe v x o h = no_attribute_safe v x

  store_in_node_safe : (n : ℕ) (i w : Value) (o : Option Node) → Below k w → IsSafe k Any (store_in_node n i w o)
  store_in_node_safe n i w (Some (list vs)) p = plain_safe (position_safe (length vs) i) (λ at. change_safe n _ (λ l le m q. on_list_below l _ (λ xs r. each_set (Below l) xs at w (below_later k l le w p) r) m q))
  store_in_node_safe n i w (Some (dict es)) p = plain_safe (key_safe i) (λ key. change_safe n _ (λ l le m q. on_dict_below l _ (λ xs r. with_below l is_one key w xs (below_later k l le w p) r) m q))
  store_in_node_safe n i w o p = not_subscriptable_safe (node n)

  store_on_node_safe : (n : ℕ) (x : List ℕ) (w : Value) (o : Option Node) → Below k w → IsSafe k Any (store_on_node n x w o)
  store_on_node_safe n x w (Some (object es)) p = change_safe n _ (λ l le m q. on_object_below l _ (λ xs r. with_below l bytes_eq x w xs (below_later k l le w p) r) m q)
  store_on_node_safe n x w o p = no_attribute_safe (node n) x

  found_safe : {A : Type 0} (o : Option A) {m n : M (Unit {0})} → IsSafe k Any m → IsSafe k Any n → IsSafe k Any (where_found m o n)
  found_safe (Some a) h g = g
  found_safe None h g = h

  delete_in_node_safe : (n : ℕ) (i : Value) (o : Option Node) → Below k i → IsSafe k Any (delete_in_node n i o)
  delete_in_node_safe n i (Some (list vs)) p = plain_safe (position_safe (length vs) i) (λ at. change_safe n _ (λ l le m q. on_list_below l _ (λ xs r. each_append (Below l) (take at xs) (drop (suc at) xs) (each_take (Below l) at xs r) (each_drop (Below l) (suc at) xs r)) m q))
  delete_in_node_safe n i (Some (dict es)) p = plain_safe (key_safe i) (λ key. found_safe (value_at is_one key es) (no_key_safe i p) (change_safe n _ (λ l le m q. on_dict_below l _ (λ xs r. without_below l is_one key xs r) m q)))
  delete_in_node_safe n i o p = not_subscriptable_safe (node n)

  delete_on_node_safe : (n : ℕ) (x : List ℕ) (o : Option Node) → IsSafe k Any (delete_on_node n x o)
  delete_on_node_safe n x (Some (object es)) = found_safe (value_at bytes_eq x es) (no_attribute_safe (node n) x) (change_safe n _ (λ l le m q. on_object_below l _ (λ xs r. without_below l bytes_eq x xs r) m q))
  delete_on_node_safe n x o = no_attribute_safe (node n) x

module _ {k : ℕ} where
  pub item_safe : (v i : Value) → Below k i → IsSafe k Below (item v i)
  item_safe (text cs) i p = plain_safe (taken_any cs i) (λ c. value_safe (text (c ∷ [])) tt)
  item_safe (range a b c) i p = plain_safe (position_safe (range_length a b c) i) (λ n. value_safe (integer (a +ℤ pos n *ℤ c)) tt)
  item_safe (node n) i p = bind_safe (node_now_safe (node n)) (λ l le o q. node_item_safe (node n) i o (below_later k l le i p) q)
  item_safe v i p = not_subscriptable_safe v

  pub slice_safe : (v a b c : Value) → IsSafe k Below (slice v a b c)
  slice_safe (text cs) a b c = plain_safe (picked_any cs a b c) (λ ds. value_safe (text ds) tt)
  slice_safe (node n) a b c = bind_safe (node_now_safe (node n)) (λ l le o q. node_slice_safe (node n) a b c o q)
  slice_safe v a b c = not_subscriptable_safe v

  pub attribute_safe : (v : Value) (x : List ℕ) → IsSafe k Below (attribute v x)
  attribute_safe v x = bind_safe (node_now_safe v) (λ l le o q. node_attribute_safe v x o q)

  pub store_item_safe : (v i w : Value) → Below k w → IsSafe k Any (store_item v i w)
  store_item_safe (node n) i w p = bind_safe (node_now_safe (node n)) (λ l le o q. store_in_node_safe n i w o (below_later k l le w p))
  store_item_safe v i w p = not_subscriptable_safe v

  pub store_attribute_safe : (v : Value) (x : List ℕ) (w : Value) → Below k w → IsSafe k Any (store_attribute v x w)
  store_attribute_safe (node n) x w p = bind_safe (node_now_safe (node n)) (λ l le o q. store_on_node_safe n x w o (below_later k l le w p))
  store_attribute_safe v x w p = no_attribute_safe v x

  pub delete_item_safe : (v i : Value) → Below k i → IsSafe k Any (delete_item v i)
  delete_item_safe (node n) i p = bind_safe (node_now_safe (node n)) (λ l le o q. delete_in_node_safe n i o (below_later k l le i p))
  delete_item_safe v i p = not_subscriptable_safe v

  pub delete_attribute_safe : (v : Value) (x : List ℕ) → IsSafe k Any (delete_attribute v x)
  delete_attribute_safe (node n) x = bind_safe (node_now_safe (node n)) (λ l le o q. delete_on_node_safe n x o)
  delete_attribute_safe v x = no_attribute_safe v x

-- Sequences and their items keep node numbers those of nodes.
use Rattle.std.specs.Prelude.{ℕ, Option, Some, map, [], ◌∷◌, ◌++◌}
use Rattle.kishu_meaning.specs.items.Sequences.{count_of, count_in, node_items, items_of, walked, extended}
use Rattle.kishu_meaning.specs.values.Keys.{Key}
use Rattle.kishu_meaning.specs.values.Nodes.{on_list}
use Rattle.kishu_meaning.specs.values.Values.{Value, Node, list, tuple, dict, text, range, node}
use Rattle.kishu_soundness_laws.specs.Below.{Any, Maybe, NodeBelow, AllBelow, Below}
use Rattle.kishu_soundness_laws.specs.BelowLaws.{each_append, all_later}
use Rattle.kishu_soundness_laws.specs.moments.Steps.{IsSafe, plain_safe, look_any, any_else_safe, list_safe, give_safe, bind_safe, node_now_safe, then_safe, spend_safe}
use Rattle.kishu_soundness_laws.specs.moments.Heap.{change_safe}
use Rattle.kishu_soundness_laws.specs.values.Nodes.{texts_below, integers_below, on_list_below}
use Rattle.kishu_soundness_laws.specs.values.Kinds.{not_iterable_safe}
use Rattle.kishu_soundness_laws.specs.items.KeyOf.{values_of_keys_safe}

module _ {k : ℕ} where
  pub count_of_safe : (v : Value) → IsSafe k Any (count_of v)
  count_of_safe v = plain_safe (look_any (λ ns. count_in ns v)) (λ o. any_else_safe o (not_iterable_safe v))

  node_items_safe : (v : Value) (o : Option Node) → Maybe (NodeBelow k) o → IsSafe k AllBelow (node_items v o)
  node_items_safe v (Some (list vs)) h = list_safe vs h
  node_items_safe v (Some (tuple vs)) h = list_safe vs h
  node_items_safe v (Some (dict es)) h = values_of_keys_safe (map (λ (e : Key × Value). e.0) es)
  node_items_safe v o h = not_iterable_safe v

pub items_of_safe : {k : ℕ} (v : Value) → IsSafe k AllBelow (items_of v)
items_of_safe {k = k} (text cs) = list_safe (map (λ c. text (c ∷ [])) cs) (texts_below k cs)
items_of_safe {k = k} (range a b c) = give_safe AllBelow (λ l le. integers_below l _)
items_of_safe (node i) = bind_safe (node_now_safe (node i)) (λ n le o q. node_items_safe (node i) o q)
items_of_safe v = not_iterable_safe v

pub walked_safe : {k : ℕ} (v : Value) → IsSafe k AllBelow (walked v)
walked_safe v = then_safe (plain_safe (count_of_safe v) (λ n. spend_safe n)) (items_of_safe v)

pub extended_safe : {k : ℕ} (i : ℕ) (v : Value) → IsSafe k Any (extended i v)
extended_safe i v = bind_safe (walked_safe v) (λ n le vs q. change_safe i (on_list (λ xs. xs ++ vs)) (λ l le' m p. on_list_below l (λ xs. xs ++ vs) (λ xs r. each_append (Below l) xs vs r (all_later n l le' vs q)) m p))

-- Walks and the item of each turn keep node numbers those of nodes.
use Rattle.std.specs.Prelude.{ℕ, ◌≤◌, ◌==◌, Option, Some, length, option_and_then, [], ◌∷◌, None, option_map, Bool, ℤ, true, false, if◌then◌else◌, slice_get, codes, nat_lt, pos, ◌+ℤ◌, ◌*ℤ◌}
use Rattle.kishu_meaning.specs.calls.Operators.{list_from}
use Rattle.kishu_meaning.specs.comparing.Equal.{range_length}
use Rattle.kishu_meaning.specs.items.Walks.{Walk, along_list, along_dict, along_tuple, along_text, along_range, unpacked, node_walk, keys, walk_of, items_now, or_none_there, entries_now, View, walk_view, seen, values, items, entry_seen, item_for}
use Rattle.kishu_meaning.specs.moments.Moment.{give}
use Rattle.kishu_meaning.specs.values.Classes.{runtime_error_class}
use Rattle.kishu_meaning.specs.values.Keys.{Key}
use Rattle.kishu_meaning.specs.values.Nodes.{dict_in}
use Rattle.kishu_meaning.specs.values.Values.{Value, Node, list, tuple, dict, node, text, range, integer}
use Rattle.kishu_soundness_laws.specs.Below.{AllBelow, Maybe, NodeBelow, EntriesBelow, values_in, Below}
use Rattle.kishu_soundness_laws.specs.BelowLaws.{all_later, below_later, maybe_later, each_get}
use Rattle.kishu_soundness_laws.specs.moments.Steps.{IsSafe, give_safe, plain_safe, then_safe, spend_safe, if_safe, raise_safe, bind_safe, node_now_safe, list_safe, value_safe}
use Rattle.kishu_soundness_laws.specs.moments.Heap.{make_safe}
use Rattle.kishu_soundness_laws.specs.values.Nodes.{none_list, none_dict, MaybeBelow, entry_get}
use Rattle.kishu_soundness_laws.specs.values.Kinds.{not_iterable_safe}
use Rattle.kishu_soundness_laws.specs.items.KeyOf.{value_of_key_safe}
use Rattle.kishu_soundness_laws.specs.items.Sequences.{count_of_safe, items_of_safe}

abbrev pub WalkBelow : ℕ → Walk → Type 0
WalkBelow k (along_list i) = Unit {0}
WalkBelow k (along_dict i n view) = Unit {0}
WalkBelow k (along_tuple vs) = AllBelow k vs
WalkBelow k (along_text cs) = Unit {0}
WalkBelow k (along_range a b c) = Unit {0}

pub walk_later : (k l : ℕ) → k ≤ l → (u : Walk) → WalkBelow k u → WalkBelow l u
walk_later k l h (along_tuple vs) p = all_later k l h vs p
walk_later k l h u p = tt

pub walk_value_safe : {k : ℕ} (u : Walk) → WalkBelow k u → IsSafe k WalkBelow (give u)
walk_value_safe {k = k} u h = give_safe WalkBelow (λ l le. walk_later k l le u h)

module _ {k : ℕ} where
  pub unpacked_safe : (n : ℕ) (v : Value) → IsSafe k AllBelow (unpacked n v)
  unpacked_safe n v = plain_safe (count_of_safe v) (λ c. then_safe (spend_safe c) (if_safe (c == n) (items_of_safe v) (raise_safe _ _)))

  node_walk_safe : (i : ℕ) (o : Option Node) → Maybe (NodeBelow k) o → IsSafe k WalkBelow (node_walk i o)
  node_walk_safe i (Some (list vs)) h = walk_value_safe (along_list i) tt
  node_walk_safe i (Some (tuple vs)) h = walk_value_safe (along_tuple vs) h
  node_walk_safe i (Some (dict es)) h = walk_value_safe (along_dict i (length es) keys) tt
  node_walk_safe i o h = not_iterable_safe (node i)

module _ {k : ℕ} where
  pub walk_of_safe : (v : Value) → IsSafe k WalkBelow (walk_of v)
  walk_of_safe (text cs) = walk_value_safe (along_text cs) tt
  walk_of_safe (range a b c) = walk_value_safe (along_range a b c) tt
  walk_of_safe (node i) = bind_safe (node_now_safe (node i)) (λ n le o q. node_walk_safe i o q)
  walk_of_safe v = not_iterable_safe v

  items_now_safe : (i : ℕ) → IsSafe k AllBelow (items_now i)
  items_now_safe i = bind_safe (node_now_safe (node i)) (λ n le o q. list_safe (or_none_there (list_from o)) (none_list n o q))

  entries_now_safe : (i : ℕ) → IsSafe k (λ l. EntriesBelow l) (entries_now i)
  entries_now_safe i = bind_safe (node_now_safe (node i)) (λ n le o q. give_safe (λ l. EntriesBelow l) (λ l le'. all_later n l le' (values_in (or_none_there (option_and_then dict_in o))) (none_dict n o q)))

  pub walk_view_safe : (i : ℕ) (view : View) → IsSafe k WalkBelow (walk_view i view)
  walk_view_safe i view = bind_safe (entries_now_safe i) (λ n le es q. walk_value_safe (along_dict i (length es) view) tt)

  seen_safe : (view : View) (e : Key × Value) → Below k e.1 → IsSafe k Below (seen view e)
  seen_safe keys e h = value_of_key_safe e.0
  seen_safe values e h = value_safe e.1 h
  seen_safe items e h = bind_safe (value_of_key_safe e.0) (λ n le v q. make_safe (tuple (v ∷ e.1 ∷ [])) (q, (below_later k n le e.1 h, tt)))

  opt_safe : (o : Option Value) → MaybeBelow k o → IsSafe k MaybeBelow (give o)
  opt_safe o h = give_safe MaybeBelow (λ l le. maybe_later (Below k) (Below l) (below_later k l le) o h)

  entry_seen_safe : (view : View) (o : Option (Key × Value)) → Maybe (λ (e : Key × Value). Below k e.1) o → IsSafe k MaybeBelow (entry_seen view o)
  entry_seen_safe view None h = give_safe MaybeBelow (λ l le. tt)
  entry_seen_safe view (Some e) h = bind_safe (seen_safe view e h) (λ n le v q. give_safe MaybeBelow (λ l le'. below_later n l le' v q))

text_item : (k : ℕ) (o : Option ℕ) → Maybe (Below k) (option_map (λ c. text (c ∷ [])) o)
text_item k None = tt
text_item k (Some c) = tt

range_item : (k : ℕ) (b : Bool) (z : ℤ) → Maybe (Below k) (if b then Some (integer z) else None)
range_item k true z = tt
range_item k false z = tt

pub item_for_safe : {k : ℕ} (u : Walk) (i : ℕ) → WalkBelow k u → IsSafe k MaybeBelow (item_for u i)
item_for_safe (along_list n) i h = bind_safe (items_now_safe n) (λ l le vs q. opt_safe (slice_get vs i) (each_get (Below l) vs i q))
item_for_safe (along_dict n start view) i h = bind_safe (entries_now_safe n) (λ l le es q. if_safe (length es == start) (entry_seen_safe view (slice_get es i) (entry_get l es i q)) (raise_safe runtime_error_class (codes "dictionary changed size during iteration")))
item_for_safe (along_tuple vs) i h = opt_safe (slice_get vs i) (each_get (Below _) vs i h)
item_for_safe {k = k} (along_text cs) i h = opt_safe _ (text_item k (slice_get cs i))
item_for_safe {k = k} (along_range a b c) i h = opt_safe _ (range_item k (nat_lt i (range_length a b c)) (a +ℤ pos i *ℤ c))

-- Methods keep node numbers those of nodes: one line a method.
use Rattle.std.specs.Prelude.{ℕ, List, [], ◌∷◌, ◌≤◌, codes, length, take, drop, suc, slice_index_or, ℤ, reverse as reversed, ◌++◌, Option, Some, None, option_and_then, max, ◌*◌, map}
use Rattle.std.specs.List.{remove as without_item, insert as with_item, sum_by}
use Rattle.kishu_meaning.specs.calls.Methods.{with_entries, changing, place_of_equal, place_number, number, count_number, last_item, pop, take_out, without_place, pop_at, insert_at, pop_last, sort_in_place, method_name, sort, Method, list_row, append, insert, clear, extend, remove, index, count, reverse, copy, tuple_row, look_up, set_default, take_entry, pop_key, entries_of, update, update_by, dict_row, get, setdefault, made, is_cutting, search, new_texts, made_all, joined_by, texts_in, join, text_row, startswith, endswith, strip, isdigit, find, split, replace, node_row, value_row, call_method, method_named, methods_in}
use Rattle.kishu_meaning.specs.items.Finding.{place_from, count_from}
use Rattle.kishu_meaning.specs.items.Indexes.{bound_in}
use Rattle.kishu_meaning.specs.items.Sorting.{sort_steps, in_order}
use Rattle.kishu_meaning.specs.moments.Moment.{M, node_at}
use Rattle.kishu_meaning.specs.values.Keys.{Key, is_one}
use Rattle.kishu_meaning.specs.values.Nodes as n
use Rattle.kishu_meaning.specs.values.Nodes.{with_entry, on_list, on_dict, last_of, without_last, value_at, dict_in}
use Rattle.kishu_meaning.specs.values.Texts.{is_nonempty, joined, begins, occurrences, words, pieces, replaced}
use Rattle.kishu_meaning.specs.values.Values.{Value, Node, none, list, dict, text, bool, integer, tuple, node}
use Rattle.kishu_meaning.specs.values.White.{stripped}
use Rattle.kishu_soundness_laws.specs.Below.{EntriesBelow, NodeBelow, Below, AllBelow, Any, values_in, Maybe, EntriesAt}
use Rattle.kishu_soundness_laws.specs.BelowLaws.{all_later, each_append, below_later, maybe_later}
use Rattle.kishu_soundness_laws.specs.moments.Steps.{IsSafe, then_safe, value_safe, plain_safe, counted_safe, any_else_safe, raise_safe, or_else_safe, spend_safe, bind_safe, look_safe, now_good, if_safe, any_safe, safe_later, node_now_safe, look_any}
use Rattle.kishu_soundness_laws.specs.moments.Heap.{change_safe, make_safe}
use Rattle.kishu_soundness_laws.specs.values.Lists.{with_below, each_last, each_take, each_drop, each_index, each_without_last, each_reverse, at_below, without_below}
use Rattle.kishu_soundness_laws.specs.values.Nodes.{on_list_below, on_dict_below, MaybeBelow, dict_maybe, parts_below}
use Rattle.kishu_soundness_laws.specs.values.Kinds.{bad_arguments_safe, no_key_safe, no_attribute_safe}
use Rattle.kishu_soundness_laws.specs.items.KeyOf.{key_safe}
use Rattle.kishu_soundness_laws.specs.items.Subscripts.{place_of_safe, index_safe}
use Rattle.kishu_soundness_laws.specs.items.Sequences.{extended_safe, walked_safe}
use Rattle.kishu_soundness_laws.specs.items.Sorting.{order_below}

entries_with_below : (k : ℕ) (gs es : List (Key × Value)) → EntriesBelow k gs → EntriesBelow k es → EntriesBelow k (with_entries gs es)
entries_with_below k [] es h g = g
entries_with_below k (x ∷ gs) es h g = entries_with_below k gs (with_entry is_one x.0 x.1 es) h.1 (with_below k is_one x.0 x.1 es h.0 g)

module _ {k : ℕ} where
  -- ---- lists and tuples

  changing_safe : (i : ℕ) (f : Node → Node) → ((l : ℕ) → k ≤ l → (m : Node) → NodeBelow l m → NodeBelow l (f m)) → IsSafe k Below (changing i f)
  changing_safe i f h = then_safe (change_safe i f h) (value_safe none tt)

  list_change : (i : ℕ) (f : List Value → List Value) → ((l : ℕ) → k ≤ l → (vs : List Value) → AllBelow l vs → AllBelow l (f vs)) → IsSafe k Below (changing i (on_list f))
  list_change i f h = changing_safe i (on_list f) (λ l le m q. on_list_below l f (h l le) m q)

  dict_change : (i : ℕ) (f : List (Key × Value) → List (Key × Value)) → ((l : ℕ) → k ≤ l → (es : List (Key × Value)) → EntriesBelow l es → EntriesBelow l (f es)) → IsSafe k Below (changing i (on_dict f))
  dict_change i f h = changing_safe i (on_dict f) (λ l le m q. on_dict_below l f (h l le) m q)

  place_equal_safe : (x : Value) (vs : List Value) → IsSafe k Any (place_of_equal x vs)
  place_equal_safe x vs = plain_safe (counted_safe (λ s. place_from s.nodes s.depth x 0 vs)) (λ o. any_else_safe o (raise_safe _ (codes "value not found")))

  place_number_safe : (x : Value) (vs : List Value) → IsSafe k Below (place_number x vs)
  place_number_safe x vs = plain_safe (place_equal_safe x vs) (λ p. value_safe (number p) tt)

  count_number_safe : (x : Value) (vs : List Value) → IsSafe k Below (count_number x vs)
  count_number_safe x vs = plain_safe (counted_safe (λ s. count_from s.nodes s.depth x 0 vs)) (λ c. value_safe (number c) tt)

  last_item_safe : (vs : List Value) → AllBelow k vs → IsSafe k Below (last_item vs)
  last_item_safe vs h = or_else_safe Below (last_of vs) (raise_safe _ (codes "pop from empty list")) (λ l le. each_last (Below l) vs (all_later k l le vs h))

  take_out_safe : (i : ℕ) (vs : List Value) (p : ℕ) → AllBelow k vs → IsSafe k Below (take_out i vs p)
  take_out_safe i vs p h = then_safe (then_safe (spend_safe (length vs)) (change_safe i (without_place p) (λ l le m q. on_list_below l (λ xs. without_item xs p) (λ xs r. each_append (Below l) (take p xs) (drop (suc p) xs) (each_take (Below l) p xs r) (each_drop (Below l) (suc p) xs r)) m q))) (value_safe (slice_index_or vs p none) (each_index (Below k) vs p none tt h))

  pop_at_safe : (i : ℕ) (vs : List Value) (z : ℤ) → AllBelow k vs → IsSafe k Below (pop_at i vs z)
  pop_at_safe i vs z h = plain_safe (then_safe (last_item_safe vs h) (place_of_safe (length vs) z)) (λ p. take_out_safe i vs p h)

  insert_at_safe : (i : ℕ) (vs : List Value) (x : Value) (z : ℤ) → Below k x → IsSafe k Below (insert_at i vs x z)
  insert_at_safe i vs x z h = then_safe (spend_safe (length vs)) (list_change i (λ xs. with_item xs (bound_in (length vs) z) x) (λ l le xs r. each_append (Below l) (take (bound_in (length vs) z) xs) (x ∷ drop (bound_in (length vs) z) xs) (each_take (Below l) (bound_in (length vs) z) xs r) (below_later k l le x h, each_drop (Below l) (bound_in (length vs) z) xs r)))

pop_last_safe : {k : ℕ} (i : ℕ) (vs : List Value) → AllBelow k vs → IsSafe k Below (pop_last i vs)
pop_last_safe i vs h = bind_safe (last_item_safe vs h) (λ l le v q. then_safe (change_safe i n.pop (λ l le m q. on_list_below l without_last (λ xs r. each_without_last (Below l) xs r) m q)) (value_safe v q))

sort_safe : {k : ℕ} (i : ℕ) (vs : List Value) → AllBelow k vs → IsSafe k Below (sort_in_place i vs)
sort_safe {k = k} i vs h = bind_safe (then_safe (spend_safe (sort_steps (length vs))) (or_else_safe AllBelow (in_order vs) (bad_arguments_safe (method_name sort)) (λ l le. order_below l vs (all_later k l le vs h)))) (λ l le ws q. list_change i (λ xs. ws) (λ m le' xs r. all_later l m le' ws q))

module _ {k : ℕ} where
  list_row_safe : (m : Method) (i : ℕ) (vs args : List Value) → AllBelow k vs → AllBelow k args → IsSafe k Below (list_row m i vs args)
  list_row_safe append i vs (x ∷ []) h a = list_change i (λ xs. xs ++ x ∷ []) (λ l le xs r. each_append (Below l) xs (x ∷ []) r (below_later k l le x a.0, tt))
  list_row_safe pop i vs [] h a = pop_last_safe i vs h
  list_row_safe pop i vs (x ∷ []) h a = plain_safe (index_safe x) (λ z. pop_at_safe i vs z h)
  list_row_safe insert i vs (y ∷ (x ∷ [])) h a = plain_safe (index_safe y) (λ z. insert_at_safe i vs x z a.1.0)
  list_row_safe clear i vs [] h a = list_change i (λ xs. []) (λ l le xs r. tt)
  list_row_safe extend i vs (x ∷ []) h a = then_safe (extended_safe i x) (value_safe none tt)
  list_row_safe remove i vs (x ∷ []) h a = plain_safe (place_equal_safe x vs) (λ p. list_change i (λ xs. without_item xs p) (λ l le xs r. each_append (Below l) (take p xs) (drop (suc p) xs) (each_take (Below l) p xs r) (each_drop (Below l) (suc p) xs r)))
  list_row_safe index i vs (x ∷ []) h a = place_number_safe x vs
  list_row_safe count i vs (x ∷ []) h a = count_number_safe x vs
  list_row_safe reverse i vs [] h a = then_safe (spend_safe (length vs)) (list_change i reversed (λ l le xs r. each_reverse (Below l) xs r))
  list_row_safe copy i vs [] h a = then_safe (spend_safe (length vs)) (make_safe (list vs) h)
  list_row_safe sort i vs [] h a = sort_safe i vs h
  list_row_safe m i vs args h a = bad_arguments_safe (method_name m)

  tuple_row_safe : (m : Method) (vs args : List Value) → IsSafe k Below (tuple_row m vs args)
  tuple_row_safe index vs (x ∷ []) = place_number_safe x vs
  tuple_row_safe count vs (x ∷ []) = count_number_safe x vs
  tuple_row_safe m vs args = bad_arguments_safe (method_name m)

  -- ---- dicts

  look_up_safe : (es : List (Key × Value)) (v : Value) {m : M Value} → EntriesBelow k es → IsSafe k Below m → IsSafe k Below (look_up es v m)
  look_up_safe es v h e = plain_safe (key_safe v) (λ key. or_else_safe Below (value_at is_one key es) e (λ l le. at_below l is_one key es (all_later k l le (values_in es) h)))

  set_default_safe : (i : ℕ) (es : List (Key × Value)) (v w : Value) → EntriesBelow k es → Below k w → IsSafe k Below (set_default i es v w)
  set_default_safe i es v w h p = plain_safe (key_safe v) (λ key. or_else_safe Below (value_at is_one key es)
      (then_safe (change_safe i (n.insert key w) (λ l le m q. on_dict_below l (with_entry is_one key w) (λ xs r. with_below l is_one key w xs (below_later k l le w p) r) m q)) (value_safe w p))
      (λ l le. at_below l is_one key es (all_later k l le (values_in es) h)))

  take_entry_safe : (i : ℕ) (key : Key) {m : M Value} (o : Option Value) → MaybeBelow k o → IsSafe k Below m → IsSafe k Below (take_entry i key m o)
  take_entry_safe i key (Some v) h e = then_safe (change_safe i (n.remove key) (λ l le m q. on_dict_below l (n.without_entry is_one key) (λ xs r. without_below l is_one key xs r) m q)) (value_safe v h)
  take_entry_safe i key None h e = e

  pop_key_safe : (i : ℕ) (es : List (Key × Value)) (v : Value) {m : M Value} → EntriesBelow k es → IsSafe k Below m → IsSafe k Below (pop_key i es v m)
  pop_key_safe i es v h e = plain_safe (key_safe v) (λ key. take_entry_safe i key (value_at is_one key es) (at_below k is_one key es h) e)

entries_of_safe : {k : ℕ} (v : Value) → IsSafe k EntriesAt (entries_of v)
entries_of_safe v = bind_safe (look_safe (λ l. Maybe (EntriesAt l)) (λ ns. option_and_then dict_in (node_at ns v)) (λ l s le g. dict_maybe l (node_at s.nodes v) (now_good l s v g))) (λ l le o q.
    or_else_safe EntriesAt o (bad_arguments_safe (method_name update)) (λ m le'. maybe_later (EntriesAt l) (EntriesAt m) (λ es. all_later l m le' (values_in es)) o q))

module _ {k : ℕ} where
  update_by_safe : (i : ℕ) (es : List (Key × Value)) → EntriesBelow k es → IsSafe k Below (update_by i es)
  update_by_safe i es h = then_safe (spend_safe (length es)) (dict_change i (with_entries es) (λ l le xs r. entries_with_below l es xs (all_later k l le (values_in es) h) r))

  dict_row_safe : (m : Method) (i : ℕ) (es : List (Key × Value)) (args : List Value) → EntriesBelow k es → AllBelow k args → IsSafe k Below (dict_row m i es args)
  dict_row_safe get i es (x ∷ []) h a = look_up_safe es x h (value_safe none tt)
  dict_row_safe get i es (x ∷ (d ∷ [])) h a = look_up_safe es x h (value_safe d a.1.0)
  dict_row_safe setdefault i es (x ∷ []) h a = set_default_safe i es x none h tt
  dict_row_safe setdefault i es (x ∷ (d ∷ [])) h a = set_default_safe i es x d h a.1.0
  dict_row_safe pop i es (x ∷ []) h a = pop_key_safe i es x h (no_key_safe x a.0)
  dict_row_safe pop i es (x ∷ (d ∷ [])) h a = pop_key_safe i es x h (value_safe d a.1.0)
  dict_row_safe clear i es [] h a = dict_change i (λ xs. []) (λ l le xs r. tt)
  dict_row_safe update i es (d ∷ []) h a = bind_safe (entries_of_safe d) (λ l le gs q. updated_by l i gs q)
    where
      updated_by : (l i : ℕ) (gs : List (Key × Value)) → EntriesBelow l gs → IsSafe l Below (update_by i gs)
      updated_by l i gs q = then_safe (spend_safe (length gs)) (then_safe (change_safe i (on_dict (with_entries gs)) (λ m le x p. on_dict_below m (with_entries gs) (λ xs r. entries_with_below m gs xs (all_later l m le (values_in gs) q) r) x p)) (value_safe none tt))
  dict_row_safe copy i es [] h a = then_safe (spend_safe (length es)) (make_safe (dict es) h)
  dict_row_safe m i es args h a = bad_arguments_safe (method_name m)

  -- ---- texts

  made_safe : (cs : List ℕ) → IsSafe k Below (made cs)
  made_safe cs = then_safe (spend_safe (length cs)) (value_safe (text cs) tt)

  cutting_safe : (part : List ℕ) → IsSafe k Any (is_cutting part)
  cutting_safe part = if_safe (is_nonempty part) any_safe (raise_safe _ (codes "empty separator"))

  search_safe : (part cs : List ℕ) → IsSafe k Any (search part cs)
  search_safe part cs = spend_safe (length cs * max 1 (length part))

  new_texts_safe : (parts : List (List ℕ)) → IsSafe k Below (new_texts parts)
  new_texts_safe parts = make_safe (list (map text parts)) (parts_below k parts)

  made_all_safe : (parts : List (List ℕ)) → IsSafe k Below (made_all parts)
  made_all_safe parts = then_safe (spend_safe (sum_by length parts)) (new_texts_safe parts)

  joined_by_safe : (cs : List ℕ) (vs : List Value) → IsSafe k Below (joined_by cs vs)
  joined_by_safe cs vs = plain_safe (any_else_safe (texts_in vs) (bad_arguments_safe (method_name join))) (λ parts. made_safe (joined cs parts))

  text_row_safe : (m : Method) (cs : List ℕ) (args : List Value) → IsSafe k Below (text_row m cs args)
  text_row_safe startswith cs (text t ∷ []) = then_safe (spend_safe (length cs)) (value_safe (bool (begins t cs)) tt)
  text_row_safe endswith cs (text t ∷ []) = then_safe (spend_safe (length cs)) (value_safe (bool (begins (reversed t) (reversed cs))) tt)
  text_row_safe strip cs [] = then_safe (spend_safe (length cs)) (value_safe (text (stripped cs)) tt)
  text_row_safe isdigit cs [] = then_safe (spend_safe (length cs)) (value_safe (bool _) tt)
  text_row_safe find cs (text t ∷ []) = then_safe (search_safe t cs) (value_safe (integer _) tt)
  text_row_safe count cs (text t ∷ []) = then_safe (then_safe (cutting_safe t) (search_safe t cs)) (value_safe (number (occurrences t cs)) tt)
  text_row_safe split cs [] = then_safe (spend_safe (length cs)) (new_texts_safe (words cs))
  text_row_safe split cs (text t ∷ []) = then_safe (then_safe (cutting_safe t) (search_safe t cs)) (made_all_safe (pieces t cs))
  text_row_safe replace cs (text t ∷ (text u ∷ [])) = then_safe (then_safe (cutting_safe t) (search_safe t cs)) (made_safe (replaced cs t u))
  text_row_safe join cs (x ∷ []) = bind_safe (walked_safe x) (λ l le vs q. safe_later le (joined_by_safe cs vs))
  text_row_safe m cs args = bad_arguments_safe (method_name m)

  node_row_safe : (m : Method) (i : ℕ) (args : List Value) (o : Option Node) → AllBelow k args → Maybe (NodeBelow k) o → IsSafe k Below (node_row m i args o)
  node_row_safe m i args (Some (list vs)) a h = list_row_safe m i vs args h a
  node_row_safe m i args (Some (tuple vs)) a h = tuple_row_safe m vs args
  node_row_safe m i args (Some (dict es)) a h = dict_row_safe m i es args h a
  node_row_safe m i args o a h = bad_arguments_safe (method_name m)

value_row_safe : {k : ℕ} (m : Method) (v : Value) (args : List Value) → AllBelow k args → IsSafe k Below (value_row m v args)
value_row_safe m (text cs) args a = text_row_safe m cs args
value_row_safe {k = k} m (node i) args a = bind_safe (node_now_safe (node i)) (λ l le o q. node_row_safe m i args o (all_later k l le args a) q)
value_row_safe m v args a = bad_arguments_safe (method_name m)

pub call_method_safe : {k : ℕ} (v : Value) (x : List ℕ) (args : List Value) → AllBelow k args → IsSafe k Below (call_method v x args)
call_method_safe v x args a = plain_safe (plain_safe (look_any (λ ns. method_named x (methods_in ns v))) (λ o. any_else_safe o (no_attribute_safe v x))) (λ m. value_row_safe m v args a)

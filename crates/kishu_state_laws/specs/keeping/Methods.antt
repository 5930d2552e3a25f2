-- Sorting and methods keep what holds of every state.
use Rattle.std.specs.Prelude.{ℕ, ◌*◌, ◌≤◌, max, ℤ, if◌then◌else◌, List, [], ◌∷◌, ◌++◌, length, map, reverse as reversed, codes, Option, Some, None, option_map, option_and_then, slice_index_or}
use Rattle.std.specs.List.{AllByRecursion as Each, list_all, insert as with_item, remove as without_item, sum_by}
use Rattle.std.specs.Ordering.{int_cmp, nat_cmp}
use Rattle.std.specs.Cmp.Lexicographic.{slice_cmp}
use Rattle.std.proofs.Common.{refl, arith}
use Rattle.std.proofs.Math.Nat.{mul-le-mul_left}
use Rattle.kishu_meaning.specs.values.White.{stripped}
use Rattle.kishu_meaning.specs.values.Keys.{Key, is_one}
use Rattle.kishu_meaning.specs.values.Values.{Value, none, bool, integer, text, range, builtin, class, node, Node, list, tuple, dict}
use Rattle.kishu_meaning.specs.values.Nodes as n
use Rattle.kishu_meaning.specs.values.Nodes.{value_at, with_entry, without_entry, last_of, without_last, on_list, on_dict, dict_in}
use Rattle.kishu_meaning.specs.values.Texts.{begins, first_place, occurrences, pieces, replaced, joined, words, is_nonempty}
use Rattle.kishu_meaning.specs.moments.Moment.{M, node_at}
use Rattle.kishu_meaning.specs.items.Indexes.{bound_in}
use Rattle.kishu_meaning.specs.items.Sorting.{sorted_by, is_number, number_key, is_text, text_key, in_order, sort_steps}
use Rattle.kishu_meaning.specs.calls.Methods.{Method, append, clear, copy, count, endswith, extend, find, get, index, insert, isdigit, join, pop, remove, replace, reverse, setdefault, sort, split, startswith, strip, update, method_name, methods_in, method_named, changing, number, place_of_equal, place_number, count_number, without_place, last_item, pop_last, take_out, pop_at, insert_at, sort_in_place, look_up, set_default, take_entry, pop_key, entries_of, with_entries, update_by, search, is_cutting, place_or_minus_one, made, new_texts, made_all, texts_in, joined_by, list_row, tuple_row, dict_row, text_row, node_row, value_row, call_method}
use Rattle.kishu_objects.specs.State.{IsValue, AreValues, IsNode, IsKey, IsName, keys_in, values_in}
use Rattle.kishu_state_laws.specs.Moments.{widest_budget}
use Rattle.kishu_state_laws.specs.keeping.Logic.{Maybe, Any, IsText, Safe, Edits, bind_s, with_s, plain_s, then_s, so_s, any_s, value_s, raise_s, if_s, or_else_s, any_else_s, look_s, look_any, now_good, node_now_s, spend_s, make_s, change_s, value_later, values_later, maybe_later, each_append}
use Rattle.kishu_state_laws.specs.keeping.Lists.{each_reverse, each_index, each_last, each_without_last, each_sorted, each_without, each_with, maybe_if, value_found, AreEntries, no_entries, entries_with, entries_without, edits_list, edits_dict}
use Rattle.kishu_state_laws.specs.keeping.Texts.{AreTexts, text_stripped, texts_words, texts_pieces, text_joined, text_replaced}
use Rattle.kishu_state_laws.specs.keeping.Numbers.{IsWhole, whole_few, first_few, occurrences_few}
use Rattle.kishu_state_laws.specs.keeping.Counting.{place_s, count_s}
use Rattle.kishu_state_laws.specs.keeping.Leaves.{MaybeValue, no_key_s, no_attribute_s, bad_arguments_s, dict_maybe, key_s, walked_s, extended_s, index_s, place_of_s}

-- ---- sorting

pub order_values : (k : ℕ) (vs : List Value) → AreValues k vs → Maybe (AreValues k) (in_order vs)
order_values k vs h = maybe_if (AreValues k) (list_all is_number vs) (Some (sorted_by int_cmp number_key vs)) (if list_all is_text vs then Some (sorted_by (slice_cmp nat_cmp) text_key vs) else None) (each_sorted (IsValue k) _ vs h)
    (maybe_if (AreValues k) (list_all is_text vs) (Some (sorted_by (slice_cmp nat_cmp) text_key vs)) None (each_sorted (IsValue k) _ vs h) tt)

entries_onto : (k : ℕ) (gs es : List (Key × Value)) → Each IsKey (keys_in gs) → AreValues k (values_in gs) → AreEntries k es → AreEntries k (with_entries gs es)
entries_onto k [] es p h g = g
entries_onto k (x ∷ gs) es p h g = entries_onto k gs (with_entry is_one x.0 x.1 es) p.1 h.1 (entries_with k x.0 x.1 es p.0 h.0 g)

-- ---- the methods' names

method_text : (m : Method) → IsText (method_name m)
method_text append = refl
method_text clear = refl
method_text copy = refl
method_text count = refl
method_text endswith = refl
method_text extend = refl
method_text find = refl
method_text get = refl
method_text index = refl
method_text insert = refl
method_text isdigit = refl
method_text join = refl
method_text pop = refl
method_text remove = refl
method_text replace = refl
method_text reverse = refl
method_text setdefault = refl
method_text sort = refl
method_text split = refl
method_text startswith = refl
method_text strip = refl
method_text update = refl

module _ {k : ℕ} where
  -- ---- lists and tuples

  changing_s : (i : ℕ) (f : Node → Node) → Edits k f → Safe k IsValue (changing i f)
  changing_s i f h = then_s (change_s i f h) (value_s none tt)

  list_change : (i : ℕ) (f : List Value → List Value) → ((l : ℕ) → k ≤ l → (vs : List Value) → AreValues l vs → AreValues l (f vs)) → Safe k IsValue (changing i (on_list f))
  list_change i f h = changing_s i (on_list f) (edits_list f h)

  dict_change : (i : ℕ) (f : List (Key × Value) → List (Key × Value)) → ((l : ℕ) → k ≤ l → (es : List (Key × Value)) → AreEntries l es → AreEntries l (f es)) → Safe k IsValue (changing i (on_dict f))
  dict_change i f h = changing_s i (on_dict f) (edits_dict f h)

  place_equal_s : (x : Value) (vs : List Value) → Safe k (λ l p. p ≤ widest_budget) (place_of_equal x vs)
  place_equal_s x vs = with_s (place_s x vs) (λ o q. or_else_s (λ l p. p ≤ widest_budget) o (raise_s _ (codes "value not found") refl refl) (λ l le. q))

  place_number_s : (x : Value) (vs : List Value) → Safe k IsValue (place_number x vs)
  place_number_s x vs = with_s (place_equal_s x vs) (λ p q. value_s (number p) (whole_few p q))

  count_number_s : (x : Value) (vs : List Value) → Safe k IsValue (count_number x vs)
  count_number_s x vs = with_s (count_s x vs) (λ c q. value_s (number c) (whole_few c q))

  last_item_s : (vs : List Value) → AreValues k vs → Safe k IsValue (last_item vs)
  last_item_s vs h = or_else_s IsValue (last_of vs) (raise_s _ (codes "pop from empty list") refl refl) (λ l le. each_last (IsValue l) vs (values_later k l le vs h))

  take_out_s : (i : ℕ) (vs : List Value) (p : ℕ) → AreValues k vs → Safe k IsValue (take_out i vs p)
  take_out_s i vs p h = then_s (then_s (spend_s (length vs)) (change_s i (without_place p) (edits_list (λ xs. without_item xs p) (λ l le xs r. each_without (IsValue l) p xs r)))) (value_s (slice_index_or vs p none) (each_index (IsValue k) vs p none tt h))

  pop_at_s : (i : ℕ) (vs : List Value) (z : ℤ) → AreValues k vs → Safe k IsValue (pop_at i vs z)
  pop_at_s i vs z h = with_s (then_s (last_item_s vs h) (place_of_s (length vs) z)) (λ p q. take_out_s i vs p h)

  insert_at_s : (i : ℕ) (vs : List Value) (x : Value) (z : ℤ) → IsValue k x → Safe k IsValue (insert_at i vs x z)
  insert_at_s i vs x z h = then_s (spend_s (length vs)) (list_change i (λ xs. with_item xs (bound_in (length vs) z) x) (λ l le xs r. each_with (IsValue l) (bound_in (length vs) z) x xs (value_later k l le x h) r))

pop_last_s : {k : ℕ} (i : ℕ) (vs : List Value) → AreValues k vs → Safe k IsValue (pop_last i vs)
pop_last_s i vs h = bind_s (last_item_s vs h) (λ l le v q. then_s (change_s i n.pop (edits_list without_last (λ l le xs r. each_without_last (IsValue l) xs r))) (value_s v q))

sort_s : {k : ℕ} (i : ℕ) (vs : List Value) → AreValues k vs → Safe k IsValue (sort_in_place i vs)
sort_s {k = k} i vs h = bind_s (then_s (spend_s (sort_steps (length vs))) (or_else_s AreValues (in_order vs) (bad_arguments_s (method_name sort) refl) (λ l le. order_values l vs (values_later k l le vs h)))) (λ l le ws q. list_change i (λ xs. ws) (λ m le' xs r. values_later l m le' ws q))

module _ {k : ℕ} where
  list_row_s : (m : Method) (i : ℕ) (vs args : List Value) → AreValues k vs → AreValues k args → Safe k IsValue (list_row m i vs args)
  list_row_s append i vs (x ∷ []) h a = list_change i (λ xs. xs ++ x ∷ []) (λ l le xs r. each_append (IsValue l) xs (x ∷ []) r (value_later k l le x a.0, tt))
  list_row_s pop i vs [] h a = pop_last_s i vs h
  list_row_s pop i vs (x ∷ []) h a = plain_s (index_s x) (λ z. pop_at_s i vs z h)
  list_row_s insert i vs (y ∷ (x ∷ [])) h a = plain_s (index_s y) (λ z. insert_at_s i vs x z a.1.0)
  list_row_s clear i vs [] h a = list_change i (λ xs. []) (λ l le xs r. tt)
  list_row_s extend i vs (x ∷ []) h a = then_s (extended_s i x a.0) (value_s none tt)
  list_row_s remove i vs (x ∷ []) h a = with_s (place_equal_s x vs) (λ p q. list_change i (λ xs. without_item xs p) (λ l le xs r. each_without (IsValue l) p xs r))
  list_row_s index i vs (x ∷ []) h a = place_number_s x vs
  list_row_s count i vs (x ∷ []) h a = count_number_s x vs
  list_row_s reverse i vs [] h a = then_s (spend_s (length vs)) (list_change i reversed (λ l le xs r. each_reverse (IsValue l) xs r))
  list_row_s copy i vs [] h a = then_s (spend_s (length vs)) (make_s (list vs) h (λ p. tt))
  list_row_s sort i vs [] h a = sort_s i vs h
  list_row_s m i vs args h a = bad_arguments_s (method_name m) (method_text m)

  tuple_row_s : (m : Method) (vs args : List Value) → Safe k IsValue (tuple_row m vs args)
  tuple_row_s index vs (x ∷ []) = place_number_s x vs
  tuple_row_s count vs (x ∷ []) = count_number_s x vs
  tuple_row_s m vs args = bad_arguments_s (method_name m) (method_text m)

  -- ---- dicts

  look_up_s : (es : List (Key × Value)) (v : Value) {m : M Value} → AreValues k (values_in es) → IsValue k v → Safe k IsValue m → Safe k IsValue (look_up es v m)
  look_up_s es v h p e = with_s (key_s v p) (λ key q. or_else_s IsValue (value_at is_one key es) e (λ l le. value_found l is_one key es (values_later k l le (values_in es) h)))

  set_default_s : (i : ℕ) (es : List (Key × Value)) (v w : Value) → AreValues k (values_in es) → IsValue k v → IsValue k w → Safe k IsValue (set_default i es v w)
  set_default_s i es v w h r p = with_s (key_s v r) (λ key q. or_else_s IsValue (value_at is_one key es)
      (then_s (change_s i (n.insert key w) (edits_dict (with_entry is_one key w) (λ l le xs r. entries_with l key w xs q (value_later k l le w p) r))) (value_s w p))
      (λ l le. value_found l is_one key es (values_later k l le (values_in es) h)))

  take_entry_s : (i : ℕ) (key : Key) {m : M Value} (o : Option Value) → MaybeValue k o → Safe k IsValue m → Safe k IsValue (take_entry i key m o)
  take_entry_s i key (Some v) h e = then_s (change_s i (n.remove key) (edits_dict (without_entry is_one key) (λ l le xs r. entries_without l key xs r))) (value_s v h)
  take_entry_s i key None h e = e

  pop_key_s : (i : ℕ) (es : List (Key × Value)) (v : Value) {m : M Value} → AreValues k (values_in es) → IsValue k v → Safe k IsValue m → Safe k IsValue (pop_key i es v m)
  pop_key_s i es v h p e = with_s (key_s v p) (λ key q. take_entry_s i key (value_at is_one key es) (value_found k is_one key es h) e)

entries_of_s : {k : ℕ} (v : Value) → Safe k AreEntries (entries_of v)
entries_of_s v = bind_s (look_s (λ l. Maybe (AreEntries l)) (λ ns. option_and_then dict_in (node_at ns v)) (λ l s le g. dict_maybe l (node_at s.nodes v) (now_good l s v g))) (λ l le o q.
    or_else_s AreEntries o (bad_arguments_s (method_name update) refl) (λ m le'. maybe_later (AreEntries l) (AreEntries m) (λ es h. record { keys = h.keys; values = values_later l m le' (values_in es) h.values }) o q))

updated_by : {k : ℕ} (i : ℕ) (gs : List (Key × Value)) → AreEntries k gs → Safe k IsValue (update_by i gs)
updated_by {k = k} i gs q = then_s (spend_s (length gs)) (dict_change i (with_entries gs) (λ m le xs r. entries_onto m gs xs q.keys.each (values_later k m le (values_in gs) q.values) r))

module _ {k : ℕ} where
  dict_row_s : (m : Method) (i : ℕ) (es : List (Key × Value)) (args : List Value) → IsNode k (dict es) → AreValues k args → Safe k IsValue (dict_row m i es args)
  dict_row_s get i es (x ∷ []) h a = look_up_s es x h.2 a.0 (value_s none tt)
  dict_row_s get i es (x ∷ (d ∷ [])) h a = look_up_s es x h.2 a.0 (value_s d a.1.0)
  dict_row_s setdefault i es (x ∷ []) h a = set_default_s i es x none h.2 a.0 tt
  dict_row_s setdefault i es (x ∷ (d ∷ [])) h a = set_default_s i es x d h.2 a.0 a.1.0
  dict_row_s pop i es (x ∷ []) h a = pop_key_s i es x h.2 a.0 (no_key_s x a.0)
  dict_row_s pop i es (x ∷ (d ∷ [])) h a = pop_key_s i es x h.2 a.0 (value_s d a.1.0)
  dict_row_s clear i es [] h a = dict_change i (λ xs. []) (λ l le xs r. no_entries)
  dict_row_s update i es (d ∷ []) h a = bind_s (entries_of_s d) (λ l le gs q. updated_by i gs q)
  dict_row_s copy i es [] h a = then_s (spend_s (length es)) (make_s (dict es) h (λ p. tt))
  dict_row_s m i es args h a = bad_arguments_s (method_name m) (method_text m)

-- ---- texts

texts_values : (k : ℕ) (parts : List (List ℕ)) → AreTexts parts → AreValues k (map text parts)
texts_values k [] h = tt
texts_values k (part ∷ parts) h = (h.0, texts_values k parts h.1)

texts_found : (k : ℕ) (vs : List Value) → AreValues k vs → Maybe AreTexts (texts_in vs)
texts_found k [] h = tt
texts_found k (text cs ∷ vs) h = with_first (texts_in vs) (texts_found k vs h.1)
  where
    with_first : (o : Option (List (List ℕ))) → Maybe AreTexts o → Maybe AreTexts (option_map (λ parts. cs ∷ parts) o)
    with_first (Some parts) p = (h.0, p)
    with_first None p = tt
texts_found k (none ∷ vs) h = tt
texts_found k (bool b ∷ vs) h = tt
texts_found k (integer z ∷ vs) h = tt
texts_found k (range a b c ∷ vs) h = tt
texts_found k (builtin n ∷ vs) h = tt
texts_found k (class n ∷ vs) h = tt
texts_found k (node i ∷ vs) h = tt

as_long : (n m : ℕ) → n ≤ n * max 1 m
as_long n m = let p : n * 1 ≤ n * max 1 m = mul-le-mul_left n (omega arith) in omega (arith, p)

place_whole : (o : Option ℕ) → Maybe (λ p. p ≤ widest_budget) o → IsWhole (place_or_minus_one o)
place_whole (Some p) h = whole_few p h
place_whole None h = refl

place_few : (n : ℕ) (o : Option ℕ) → n ≤ widest_budget → Maybe (λ p. p ≤ n) o → Maybe (λ p. p ≤ widest_budget) o
place_few n o h p = maybe_later (λ q. q ≤ n) (λ q. q ≤ widest_budget) (λ q r. omega (arith, h, r)) o p

module _ {k : ℕ} where
  made_s : (cs : List ℕ) → IsText cs → Safe k IsValue (made cs)
  made_s cs h = then_s (spend_s (length cs)) (value_s (text cs) h)

  cutting_s : (part : List ℕ) → Safe k Any (is_cutting part)
  cutting_s part = if_s (is_nonempty part) any_s (raise_s _ (codes "empty separator") refl refl)

  -- The searched text was paid for.
  search_s : (part cs : List ℕ) → Safe k (λ l _. length cs ≤ widest_budget) (search part cs)
  search_s part cs = so_s (spend_s (length cs * max 1 (length part))) (λ l a q. (let p = as_long (length cs) (length part) in omega (arith, p, q)))

  new_texts_s : (parts : List (List ℕ)) → AreTexts parts → Safe k IsValue (new_texts parts)
  new_texts_s parts h = make_s (list (map text parts)) (texts_values k parts h) (λ p. tt)

  made_all_s : (parts : List (List ℕ)) → AreTexts parts → Safe k IsValue (made_all parts)
  made_all_s parts h = then_s (spend_s (sum_by length parts)) (new_texts_s parts h)

  joined_by_s : (cs : List ℕ) (vs : List Value) → IsText cs → AreValues k vs → Safe k IsValue (joined_by cs vs)
  joined_by_s cs vs h g = with_s (or_else_s (λ l. AreTexts) (texts_in vs) (bad_arguments_s (method_name join) refl) (λ l le. texts_found k vs g)) (λ parts q. made_s (joined cs parts) (text_joined cs parts h q))

module _ {k : ℕ} where
  text_row_s : (m : Method) (cs : List ℕ) (args : List Value) → IsText cs → AreValues k args → Safe k IsValue (text_row m cs args)
  text_row_s startswith cs (text t ∷ []) h a = then_s (spend_s (length cs)) (value_s (bool (begins t cs)) tt)
  text_row_s endswith cs (text t ∷ []) h a = then_s (spend_s (length cs)) (value_s (bool (begins (reversed t) (reversed cs))) tt)
  text_row_s strip cs [] h a = then_s (spend_s (length cs)) (value_s (text (stripped cs)) (text_stripped cs h))
  text_row_s isdigit cs [] h a = then_s (spend_s (length cs)) (value_s (bool _) tt)
  text_row_s find cs (text t ∷ []) h a = with_s (search_s t cs) (λ _ q. value_s (integer (place_or_minus_one (first_place t cs))) (place_whole (first_place t cs) (place_few (length cs) (first_place t cs) q (first_few t cs))))
  text_row_s count cs (text t ∷ []) h a = with_s (then_s (cutting_s t) (search_s t cs)) (λ _ q. value_s (number (occurrences t cs)) (whole_few (occurrences t cs) (let p = occurrences_few t cs in omega (arith, p, q))))
  text_row_s split cs [] h a = then_s (spend_s (length cs)) (new_texts_s (words cs) (texts_words cs h))
  text_row_s split cs (text t ∷ []) h a = then_s (then_s (cutting_s t) (search_s t cs)) (made_all_s (pieces t cs) (texts_pieces t cs h))
  text_row_s replace cs (text t ∷ (text u ∷ [])) h a = then_s (then_s (cutting_s t) (search_s t cs)) (made_s (replaced cs t u) (text_replaced cs t u h a.1.0))
  text_row_s join cs (x ∷ []) h a = bind_s (walked_s x a.0) (λ l le vs q. joined_by_s cs vs h q)
  text_row_s m cs args h a = bad_arguments_s (method_name m) (method_text m)

  -- ---- a call

  node_row_s : (m : Method) (i : ℕ) (args : List Value) (o : Option Node) → AreValues k args → Maybe (IsNode k) o → Safe k IsValue (node_row m i args o)
  node_row_s m i args (Some (list vs)) a h = list_row_s m i vs args h a
  node_row_s m i args (Some (tuple vs)) a h = tuple_row_s m vs args
  node_row_s m i args (Some (dict es)) a h = dict_row_s m i es args h a
  node_row_s m i args o a h = bad_arguments_s (method_name m) (method_text m)

value_row_s : {k : ℕ} (m : Method) (v : Value) (args : List Value) → IsValue k v → AreValues k args → Safe k IsValue (value_row m v args)
value_row_s m (text cs) args h a = text_row_s m cs args h a
value_row_s {k = k} m (node i) args h a = bind_s (node_now_s (node i)) (λ l le o q. node_row_s m i args o (values_later k l le args a) q)
value_row_s m v args h a = bad_arguments_s (method_name m) (method_text m)

pub call_method_s : {k : ℕ} (v : Value) (x : List ℕ) (args : List Value) → IsName x → IsValue k v → AreValues k args → Safe k IsValue (call_method v x args)
call_method_s v x args n h a = plain_s (plain_s (look_any (λ ns. method_named x (methods_in ns v))) (λ o. any_else_s o (no_attribute_s v x n))) (λ m. value_row_s m v args h a)

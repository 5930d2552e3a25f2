-- Methods go alike: one line a method.
use Rattle.std.specs.Prelude.{ℕ, List, suc, ℤ, length, Option, option_and_then, ◌≡◌, map, [], ◌∷◌, option_map, is_some}
use Rattle.std.specs.List.{insert as with_item}
use Rattle.std.proofs.Common.{subst, ap, refl}
use Rattle.kishu_meaning.specs.calls.Methods.{changing, place_of_equal, place_number, count_number, last_item, pop_last, take_out, pop_at, insert_at, sort_in_place, method_name, sort, Method, list_row, append, pop, insert, clear, extend, remove, index, count, reverse, copy, tuple_row, look_up, set_default, take_entry, pop_key, entries_of, update, with_entries, update_by, dict_row, get, setdefault, is_cutting, made, new_texts, made_all, texts_in, joined_by, join, text_row, startswith, endswith, strip, isdigit, find, split, replace, node_row, value_row, node_methods, methods_at, methods_in, method_named, has_method, call_method}
use Rattle.kishu_meaning.specs.items.Indexes.{bound_in}
use Rattle.kishu_meaning.specs.items.Sorting.{sort_steps}
use Rattle.kishu_meaning.specs.moments.Moment.{spend, ◌>>◌, M, look, node_at, or_else, ◌>>=◌, Moment}
use Rattle.kishu_meaning.specs.values.Keys.{Key, is_one}
use Rattle.kishu_meaning.specs.values.Kinds.{bad_arguments}
use Rattle.kishu_meaning.specs.values.Nodes.{on_list, dict_in, with_entry}
use Rattle.kishu_meaning.specs.values.Texts.{is_nonempty, joined, words, pieces, replaced}
use Rattle.kishu_meaning.specs.values.Values.{Node, none, Value, text, node}
use Rattle.kishu_pairing_laws.specs.World.{World, Paired, SameNode, GoQuietly, SameValue, plain, SameValues, Is, cons, nil, lists, SameEntries, BothOrNeither, both, neither, dicts, Any, paired, tuples, objects, functions, exceptions, IsPlain, SameMoment}
use Rattle.kishu_pairing_laws.specs.moments.Steps.{then_quiet, give_quiet, bind_is, or_else_quiet, raise_quiet, bind_quiet, spend_is, spend_quiet, look_quiet, cond_quiet}
use Rattle.kishu_pairing_laws.specs.values.Lists.{zip_last, zip_without_last, zip_length, zip_append, zip_take, zip_drop, zip_index, zip_reverse, entry_at, entries_with, entries_without, opt_then}
use Rattle.kishu_pairing_laws.specs.moments.Heap.{change_quiet, make_quiet, node_of, node_now_quiet}
use Rattle.kishu_pairing_laws.specs.values.Nodes.{opt_is, on_list_same, on_dict_same, in_dict}
use Rattle.kishu_pairing_laws.specs.values.Kinds.{bad_arguments_quiet, no_key_quiet, no_attribute_quiet}
use Rattle.kishu_pairing_laws.specs.items.KeyOf.{key_quiet}
use Rattle.kishu_pairing_laws.specs.items.Finding.{place_among_quiet, count_among_quiet}
use Rattle.kishu_pairing_laws.specs.items.Sequences.{extended_quiet, walked_quiet}
use Rattle.kishu_pairing_laws.specs.items.Indexes.{place_of_quiet, index_quiet}
use Rattle.kishu_pairing_laws.specs.items.Sorting.{in_order_same}

module _ (W : World) where
  -- ---- lists and tuples

  changing_quiet : {i j : ℕ} (f g : Node → Node) → Paired W i j → ((a b : Node) → SameNode W a b → SameNode W (f a) (g b)) → GoQuietly W (SameValue W) (changing i f) (changing j g)
  changing_quiet f g p h = then_quiet W (change_quiet W f g p h) (give_quiet W (plain none tt))

  place_equal_quiet : {v w : Value} {vs ws : List Value} → SameValue W v w → SameValues W vs ws → GoQuietly W Is (place_of_equal v vs) (place_of_equal w ws)
  place_equal_quiet vw z = bind_is W (place_among_quiet W vw z) (λ o. or_else_quiet W (raise_quiet W _ _) (opt_is W o))

  place_number_quiet : {v w : Value} {vs ws : List Value} → SameValue W v w → SameValues W vs ws → GoQuietly W (SameValue W) (place_number v vs) (place_number w ws)
  place_number_quiet vw z = bind_is W (place_equal_quiet vw z) (λ k. give_quiet W (plain _ tt))

  count_number_quiet : {v w : Value} {vs ws : List Value} → SameValue W v w → SameValues W vs ws → GoQuietly W (SameValue W) (count_number v vs) (count_number w ws)
  count_number_quiet vw z = bind_is W (count_among_quiet W vw z) (λ k. give_quiet W (plain _ tt))

  last_item_quiet : {vs ws : List Value} → SameValues W vs ws → GoQuietly W (SameValue W) (last_item vs) (last_item ws)
  last_item_quiet z = or_else_quiet W (raise_quiet W _ _) (zip_last z)

  pop_last_quiet : {i j : ℕ} {vs ws : List Value} → Paired W i j → SameValues W vs ws → GoQuietly W (SameValue W) (pop_last i vs) (pop_last j ws)
  pop_last_quiet p z = bind_quiet W (last_item_quiet z) (λ v w vw. then_quiet W (change_quiet W _ _ p (on_list_same W _ _ (λ a b h. zip_without_last h))) (give_quiet W vw))

  take_out_quiet : {i j : ℕ} {vs ws : List Value} (k : ℕ) → Paired W i j → SameValues W vs ws → GoQuietly W (SameValue W) (take_out i vs k) (take_out j ws k)
  take_out_quiet k p z = then_quiet W (then_quiet W (spend_is W (zip_length z)) (change_quiet W _ _ p (on_list_same W _ _ (λ a b h. zip_append (zip_take k h) (zip_drop (suc k) h))))) (give_quiet W (zip_index k none none (plain none tt) z))

  pop_at_quiet : {i j : ℕ} {vs ws : List Value} (k : ℤ) → Paired W i j → SameValues W vs ws → GoQuietly W (SameValue W) (pop_at i vs k) (pop_at j ws k)
  pop_at_quiet k p z = bind_is W (then_quiet W (last_item_quiet z) (place_of_quiet W k (zip_length z))) (λ at. take_out_quiet at p z)

  insert_at_quiet : {i j : ℕ} {vs ws : List Value} {v w : Value} (k : ℤ) → Paired W i j → SameValues W vs ws → SameValue W v w → GoQuietly W (SameValue W) (insert_at i vs v k) (insert_at j ws w k)
  insert_at_quiet {i = i} {j = j} {vs = vs} {ws = ws} {v = v} {w = w} k p z vw =
      subst (λ n. GoQuietly W (SameValue W) (insert_at i vs v k) (spend n >> changing j (on_list (λ xs. with_item xs (bound_in n k) w)))) (zip_length z)
      (then_quiet W (spend_quiet W (length vs)) (changing_quiet _ _ p (on_list_same W _ _ (λ a b h. zip_append (zip_take (bound_in (length vs) k) h) (cons vw (zip_drop (bound_in (length vs) k) h))))))

  sort_quiet : {i j : ℕ} {vs ws : List Value} → Paired W i j → SameValues W vs ws → GoQuietly W (SameValue W) (sort_in_place i vs) (sort_in_place j ws)
  sort_quiet p z = bind_quiet W (then_quiet W (spend_is W (ap sort_steps (zip_length z))) (or_else_quiet W (bad_arguments_quiet W (method_name sort)) (in_order_same W z))) (λ xs ys h. changing_quiet _ _ p (on_list_same W _ _ (λ a b k. h)))

  list_row_quiet : (method : Method) {i j : ℕ} {vs ws as' bs : List Value} → Paired W i j → SameValues W vs ws → SameValues W as' bs → GoQuietly W (SameValue W) (list_row method i vs as') (list_row method j ws bs)
  list_row_quiet append p z (cons h nil) = changing_quiet _ _ p (on_list_same W _ _ (λ a b k. zip_append k (cons h nil)))
  list_row_quiet pop p z nil = pop_last_quiet p z
  list_row_quiet pop p z (cons h nil) = bind_is W (index_quiet W h) (λ k. pop_at_quiet k p z)
  list_row_quiet insert p z (cons h (cons k nil)) = bind_is W (index_quiet W h) (λ at. insert_at_quiet at p z k)
  list_row_quiet clear p z nil = changing_quiet _ _ p (on_list_same W _ _ (λ a b k. nil))
  list_row_quiet extend p z (cons h nil) = then_quiet W (extended_quiet W p h) (give_quiet W (plain none tt))
  list_row_quiet remove p z (cons h nil) = bind_is W (place_equal_quiet h z) (λ k. changing_quiet _ _ p (on_list_same W _ _ (λ a b l. zip_append (zip_take k l) (zip_drop (suc k) l))))
  list_row_quiet index p z (cons h nil) = place_number_quiet h z
  list_row_quiet count p z (cons h nil) = count_number_quiet h z
  list_row_quiet reverse p z nil = then_quiet W (spend_is W (zip_length z)) (changing_quiet _ _ p (on_list_same W _ _ (λ a b k. zip_reverse k)))
  list_row_quiet copy p z nil = then_quiet W (spend_is W (zip_length z)) (make_quiet W (lists z))
  list_row_quiet sort p z nil = sort_quiet p z
  list_row_quiet method p z a = bad_arguments_quiet W (method_name method)

  tuple_row_quiet : (method : Method) {vs ws as' bs : List Value} → SameValues W vs ws → SameValues W as' bs → GoQuietly W (SameValue W) (tuple_row method vs as') (tuple_row method ws bs)
  tuple_row_quiet index z (cons h nil) = place_number_quiet h z
  tuple_row_quiet count z (cons h nil) = count_number_quiet h z
  tuple_row_quiet method z a = bad_arguments_quiet W (method_name method)

  -- ---- dicts

  look_up_quiet : {es fs : List (Key × Value)} {v w : Value} {m m' : M Value} → SameEntries W es fs → SameValue W v w → GoQuietly W (SameValue W) m m' → GoQuietly W (SameValue W) (look_up es v m) (look_up fs w m')
  look_up_quiet z vw mm = bind_is W (key_quiet W vw) (λ k. or_else_quiet W mm (entry_at W is_one k z))

  set_default_quiet : {i j : ℕ} {es fs : List (Key × Value)} {v w x y : Value} → Paired W i j → SameEntries W es fs → SameValue W v w → SameValue W x y → GoQuietly W (SameValue W) (set_default i es v x) (set_default j fs w y)
  set_default_quiet p z vw xy = bind_is W (key_quiet W vw) (λ k. or_else_quiet W (then_quiet W (change_quiet W _ _ p (on_dict_same W _ _ (λ a b h. entries_with W is_one k xy h))) (give_quiet W xy)) (entry_at W is_one k z))

  take_entry_quiet : {i j : ℕ} (k : Key) {m m' : M Value} {o q : Option Value} → Paired W i j → GoQuietly W (SameValue W) m m' → BothOrNeither (SameValue W) o q → GoQuietly W (SameValue W) (take_entry i k m o) (take_entry j k m' q)
  take_entry_quiet k p mm (both h) = then_quiet W (change_quiet W _ _ p (on_dict_same W _ _ (λ a b z. entries_without W is_one k z))) (give_quiet W h)
  take_entry_quiet k p mm neither = mm

  pop_key_quiet : {i j : ℕ} {es fs : List (Key × Value)} {v w : Value} {m m' : M Value} → Paired W i j → SameEntries W es fs → SameValue W v w → GoQuietly W (SameValue W) m m' → GoQuietly W (SameValue W) (pop_key i es v m) (pop_key j fs w m')
  pop_key_quiet p z vw mm = bind_is W (key_quiet W vw) (λ k. take_entry_quiet k p mm (entry_at W is_one k z))

  dict_now_quiet : {v w : Value} → SameValue W v w → GoQuietly W (BothOrNeither (SameEntries W)) (look (λ ns. option_and_then dict_in (node_at ns v))) (look (λ ns. option_and_then dict_in (node_at ns w)))
  dict_now_quiet vw = look_quiet W _ _ (λ s t st. opt_then (SameEntries W) dict_in dict_in (λ a b ab. in_dict W ab) (node_of W vw st))

  entries_of_quiet : {v w : Value} → SameValue W v w → GoQuietly W (SameEntries W) (entries_of v) (entries_of w)
  entries_of_quiet vw = bind_quiet W (dict_now_quiet vw) (λ o p op. or_else_quiet W (bad_arguments_quiet W (method_name update)) op)

  pub with_entry_is : {k l : Key} {v w : Value} {es fs : List (Key × Value)} → k ≡ l → SameValue W v w → SameEntries W es fs → SameEntries W (with_entry is_one k v es) (with_entry is_one l w fs)
  with_entry_is {k = k} {v = v} {w = w} {es = es} {fs = fs} e vw z = subst (λ l. SameEntries W (with_entry is_one k v es) (with_entry is_one l w fs)) e (entries_with W is_one k vw z)

  with_entries_same : {gs hs es fs : List (Key × Value)} → SameEntries W gs hs → SameEntries W es fs → SameEntries W (with_entries gs es) (with_entries hs fs)
  with_entries_same nil z = z
  with_entries_same (cons h k) z = with_entries_same k (with_entry_is h.0 h.1 z)

  update_by_quiet : {i j : ℕ} {es fs : List (Key × Value)} → Paired W i j → SameEntries W es fs → GoQuietly W (SameValue W) (update_by i es) (update_by j fs)
  update_by_quiet p z = then_quiet W (spend_is W (zip_length z)) (changing_quiet _ _ p (on_dict_same W _ _ (λ a b h. with_entries_same z h)))

  dict_row_quiet : (method : Method) {i j : ℕ} {es fs : List (Key × Value)} {as' bs : List Value} → Paired W i j → SameEntries W es fs → SameValues W as' bs → GoQuietly W (SameValue W) (dict_row method i es as') (dict_row method j fs bs)
  dict_row_quiet get p z (cons k nil) = look_up_quiet z k (give_quiet W (plain none tt))
  dict_row_quiet get p z (cons k (cons d nil)) = look_up_quiet z k (give_quiet W d)
  dict_row_quiet setdefault p z (cons k nil) = set_default_quiet p z k (plain none tt)
  dict_row_quiet setdefault p z (cons k (cons d nil)) = set_default_quiet p z k d
  dict_row_quiet pop p z (cons k nil) = pop_key_quiet p z k (no_key_quiet W k)
  dict_row_quiet pop p z (cons k (cons d nil)) = pop_key_quiet p z k (give_quiet W d)
  dict_row_quiet clear p z nil = changing_quiet _ _ p (on_dict_same W _ _ (λ a b h. nil))
  dict_row_quiet update p z (cons d nil) = bind_quiet W (entries_of_quiet d) (λ es fs h. update_by_quiet p h)
  dict_row_quiet copy p z nil = then_quiet W (spend_is W (zip_length z)) (make_quiet W (dicts z))
  dict_row_quiet method p z a = bad_arguments_quiet W (method_name method)

  -- ---- texts

  cutting_quiet : (part : List ℕ) → GoQuietly W Any (is_cutting part) (is_cutting part)
  cutting_quiet part = cond_quiet W (is_nonempty part) (give_quiet W tt) (raise_quiet W _ _)

  made_quiet : (cs : List ℕ) → GoQuietly W (SameValue W) (made cs) (made cs)
  made_quiet cs = then_quiet W (spend_quiet W _) (give_quiet W (plain _ tt))

  texts_same : (parts : List (List ℕ)) → SameValues W (map text parts) (map text parts)
  texts_same [] = nil
  texts_same (part ∷ parts) = cons (plain _ tt) (texts_same parts)

  new_texts_quiet : (parts : List (List ℕ)) → GoQuietly W (SameValue W) (new_texts parts) (new_texts parts)
  new_texts_quiet parts = make_quiet W (lists (texts_same parts))

  made_all_quiet : (parts : List (List ℕ)) → GoQuietly W (SameValue W) (made_all parts) (made_all parts)
  made_all_quiet parts = then_quiet W (spend_quiet W _) (new_texts_quiet parts)

  texts_in_is : {vs ws : List Value} → SameValues W vs ws → texts_in vs ≡ texts_in ws
  texts_in_is nil = refl
  texts_in_is (cons (plain (text cs) p) z) = ap (option_map (λ parts. cs ∷ parts)) (texts_in_is z)
  texts_in_is (cons (plain (node i) p) z) = absurd p
  texts_in_is (cons (plain v p) z) = refl
  texts_in_is (cons (paired i j p) z) = refl

  joined_by_quiet : (cs : List ℕ) {vs ws : List Value} → SameValues W vs ws → GoQuietly W (SameValue W) (joined_by cs vs) (joined_by cs ws)
  joined_by_quiet cs {vs = vs} z = subst (λ o. GoQuietly W (SameValue W) (joined_by cs vs) (or_else (bad_arguments (method_name join)) o >>= λ parts. made (joined cs parts))) (texts_in_is z) (bind_is W (or_else_quiet W (bad_arguments_quiet W (method_name join)) (opt_is W (texts_in vs))) (λ parts. made_quiet (joined cs parts)))

  text_row_quiet : (method : Method) (cs : List ℕ) {as' bs : List Value} → SameValues W as' bs → GoQuietly W (SameValue W) (text_row method cs as') (text_row method cs bs)
  text_row_quiet startswith cs (cons (plain (text t) p) nil) = then_quiet W (spend_quiet W _) (give_quiet W (plain _ tt))
  text_row_quiet endswith cs (cons (plain (text t) p) nil) = then_quiet W (spend_quiet W _) (give_quiet W (plain _ tt))
  text_row_quiet strip cs nil = then_quiet W (spend_quiet W _) (give_quiet W (plain _ tt))
  text_row_quiet isdigit cs nil = then_quiet W (spend_quiet W _) (give_quiet W (plain _ tt))
  text_row_quiet find cs (cons (plain (text t) p) nil) = then_quiet W (spend_quiet W _) (give_quiet W (plain _ tt))
  text_row_quiet count cs (cons (plain (text t) p) nil) = then_quiet W (then_quiet W (cutting_quiet t) (spend_quiet W _)) (give_quiet W (plain _ tt))
  text_row_quiet split cs nil = then_quiet W (spend_quiet W _) (new_texts_quiet (words cs))
  text_row_quiet split cs (cons (plain (text t) p) nil) = then_quiet W (then_quiet W (cutting_quiet t) (spend_quiet W _)) (made_all_quiet (pieces t cs))
  text_row_quiet replace cs (cons (plain (text t) p) (cons (plain (text u) q) nil)) = then_quiet W (then_quiet W (cutting_quiet t) (spend_quiet W _)) (made_quiet (replaced cs t u))
  text_row_quiet join cs (cons h nil) = bind_quiet W (walked_quiet W h) (λ vs ws z. joined_by_quiet cs z)
  text_row_quiet method cs a = bad_arguments_quiet W (method_name method)

  -- ---- a call

  node_row_quiet : (method : Method) {i j : ℕ} {as' bs : List Value} {o p : Option Node} → Paired W i j → SameValues W as' bs → BothOrNeither (SameNode W) o p → GoQuietly W (SameValue W) (node_row method i as' o) (node_row method j bs p)
  node_row_quiet method q a neither = bad_arguments_quiet W (method_name method)
  node_row_quiet method q a (both (lists z)) = list_row_quiet method q z a
  node_row_quiet method q a (both (tuples z)) = tuple_row_quiet method z a
  node_row_quiet method q a (both (dicts z)) = dict_row_quiet method q z a
  node_row_quiet method q a (both (objects z)) = bad_arguments_quiet W (method_name method)
  node_row_quiet method q a (both (functions profile code z)) = bad_arguments_quiet W (method_name method)
  node_row_quiet method q a (both (exceptions kind z)) = bad_arguments_quiet W (method_name method)

  plain_row : (method : Method) (v : Value) → IsPlain v → {as' bs : List Value} → SameValues W as' bs → GoQuietly W (SameValue W) (value_row method v as') (value_row method v bs)
  plain_row method (text cs) p a = text_row_quiet method cs a
  plain_row method (node i) p a = absurd p
  plain_row method v p a = bad_arguments_quiet W (method_name method)

  value_row_quiet : (method : Method) {v w : Value} {as' bs : List Value} → SameValue W v w → SameValues W as' bs → GoQuietly W (SameValue W) (value_row method v as') (value_row method w bs)
  value_row_quiet method (plain v p) a = plain_row method v p a
  value_row_quiet method (paired i j p) a = bind_quiet W (node_now_quiet W (paired i j p)) (λ o q oq. node_row_quiet method p a oq)

  node_methods_is : {a b : Node} → SameNode W a b → node_methods a ≡ node_methods b
  node_methods_is (lists z) = refl
  node_methods_is (tuples z) = refl
  node_methods_is (dicts z) = refl
  node_methods_is (objects z) = refl
  node_methods_is (functions profile code z) = refl
  node_methods_is (exceptions kind z) = refl

  methods_at_is : {o p : Option Node} → BothOrNeither (SameNode W) o p → methods_at o ≡ methods_at p
  methods_at_is neither = refl
  methods_at_is (both h) = node_methods_is h

  methods_plain : (ns ms : List Node) (v : Value) → IsPlain v → methods_in ns v ≡ methods_in ms v
  methods_plain ns ms (node i) p = absurd p
  methods_plain ns ms v p = refl

  methods_is : {v w : Value} {s t : Moment} → SameValue W v w → SameMoment W s t → methods_in s.nodes v ≡ methods_in t.nodes w
  methods_is {s = s} {t = t} (plain v p) st = methods_plain s.nodes t.nodes v p
  methods_is (paired i j p) st = methods_at_is (st.heaps.closed i j p)

  method_quiet : {v w : Value} (x : List ℕ) → SameValue W v w → GoQuietly W Is (look (λ ns. method_named x (methods_in ns v))) (look (λ ns. method_named x (methods_in ns w)))
  method_quiet x vw = look_quiet W _ _ (λ s t st. ap (method_named x) (methods_is vw st))

  pub has_method_quiet : {v w : Value} (x : List ℕ) → SameValue W v w → GoQuietly W Is (look (λ ns. has_method ns v x)) (look (λ ns. has_method ns w x))
  has_method_quiet x vw = look_quiet W _ _ (λ s t st. ap (λ ms. is_some (method_named x ms)) (methods_is vw st))

  pub call_method_quiet : {v w : Value} (x : List ℕ) {as' bs : List Value} → SameValue W v w → SameValues W as' bs → GoQuietly W (SameValue W) (call_method v x as') (call_method w x bs)
  call_method_quiet x vw a = bind_is W (bind_is W (method_quiet x vw) (λ o. or_else_quiet W (no_attribute_quiet W x vw) (opt_is W o))) (λ method. value_row_quiet method vw a)

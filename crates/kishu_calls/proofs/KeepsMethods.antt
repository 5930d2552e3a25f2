-- What a method gives or raises is sound, where its arguments are, and no node goes.
use Rattle.std.proofs.Common.{refl, ℕ, Bool, true, false, IsTrue, List, [], ◌∷◌, length, map, Option, Some, None}
use Rattle.std.specs.Prelude.{ℤ, if◌then◌else◌, codes, slice_get}
use Rattle.kishu_meaning.specs.values.Keys.{Key, is_one}
use Rattle.kishu_meaning.specs.values.Values.{Value, none, text, node, Node, list, tuple, dict}
use Rattle.kishu_meaning.specs.values.Texts.{is_nonempty, joined, pieces, words, occurrences, replaced}
use Rattle.kishu_meaning.specs.values.Nodes.{value_at, last_of, replace_list, insert}
use Rattle.kishu_meaning.specs.values.Sound.{is_sound, are_sound, is_sound_node}
use Rattle.kishu_meaning.specs.moments.Moment.{M, ◌>>=◌, ◌>>◌, give, or_else, spend, look, make, change}
use Rattle.kishu_meaning.specs.values.Kinds.{value_error, index_error, no_key, no_attribute, bad_arguments}
use Rattle.kishu_meaning.specs.values.Classes.{key_error_class}
use Rattle.kishu_meaning.specs.items.Indexes.{index_of, place_of}
use Rattle.kishu_meaning.specs.items.KeyOf.{key_of_value}
use Rattle.kishu_meaning.specs.items.Sequences.{walked, extended}
use Rattle.kishu_meaning.specs.items.Finding.{place_from, count_from, place_among, count_among}
use Rattle.kishu_meaning.specs.items.Sorting.{in_order, sort_steps}
use Rattle.kishu_meaning.specs.calls.Methods as m
use Rattle.kishu_meaning.specs.calls.Methods.{Method, call_method}
use Rattle.kishu_items.specs.Holding.{first, second}
use Rattle.kishu_machine.specs.SoundMore.{sound_more_all}
use Rattle.kishu_calls.proofs.Keeping.{Leaves, Keeps, anything, holds_in, as_leaves, then_leaves, any_leaves, any_keeps, both_leave, both_keep, plain_keeps, value_keeps, raise_keeps, raise_with_keeps, looked_keeps, spend_keeps, given_keeps, or_else_keeps, or_other_keeps, counted_keeps, make_keeps, change_leaves, give_leaves, no_attribute_keeps, bad_arguments_keeps}
use Rattle.kishu_calls.proofs.KeepsItems.{value_or, last_found, are_sound_entries, entry_found, entries_more, all_of, found_keeps, index_keeps, place_keeps, key_keeps, walked_keeps}

module _ (n : ℕ) where
  kept : {A : Type 0} (holds : ℕ → A → Bool) (m : M A) → Keeps n holds m → Leaves n holds m
  kept holds m h = as_leaves n holds m h

  refused : (name : List ℕ) → Leaves n is_sound (bad_arguments {A = Value} name)
  refused name = kept is_sound (bad_arguments name) (bad_arguments_keeps n is_sound name)

  changing_leaves : (i : ℕ) (f : Node → Node) → Leaves n is_sound (m.changing i f)
  changing_leaves i f = give_leaves n anything (change i f) none (change_leaves n i f) refl

  changed_leaves : (i : ℕ) (f : Node → Node) (v : Value) → IsTrue (is_sound n v) → Leaves n is_sound (change i f >> give v)
  changed_leaves i f v h = give_leaves n anything (change i f) v (change_leaves n i f) h

  spent_leaves : (k i : ℕ) (f : Node → Node) → Leaves n is_sound (spend k >> m.changing i f)
  spent_leaves k i f = both_leave n is_sound (spend k) (m.changing i f) (spend_keeps n k) (changing_leaves i f)

  extended_leaves : (i : ℕ) (v : Value) → Leaves n is_sound (extended i v >> give none)
  extended_leaves i v = give_leaves n anything (extended i v) none (any_leaves n are_sound anything (walked v) _ (walked_keeps n v) (λ more. change_leaves n i _)) refl

  place_among_keeps : (x : Value) (vs : List Value) → Keeps n anything (place_among x vs)
  place_among_keeps x vs = counted_keeps n (λ ns depth. place_from ns depth x 0 vs)

  count_among_keeps : (x : Value) (vs : List Value) → Keeps n anything (count_among x vs)
  count_among_keeps x vs = counted_keeps n (λ ns depth. count_from ns depth x 0 vs)

  place_of_equal_keeps : (x : Value) (vs : List Value) → Keeps n anything (m.place_of_equal x vs)
  place_of_equal_keeps x vs = any_keeps n anything anything (place_among x vs) _ (place_among_keeps x vs) (λ o. or_other_keeps n (value_error (codes "value not found")) o (raise_keeps n anything 24 _ refl))

  place_number_keeps : (x : Value) (vs : List Value) → Keeps n is_sound (m.place_number x vs)
  place_number_keeps x vs = any_keeps n anything is_sound (m.place_of_equal x vs) _ (place_of_equal_keeps x vs) (λ place. value_keeps n (m.number place) refl)

  count_number_keeps : (x : Value) (vs : List Value) → Keeps n is_sound (m.count_number x vs)
  count_number_keeps x vs = any_keeps n anything is_sound (count_among x vs) _ (count_among_keeps x vs) (λ many. value_keeps n (m.number many) refl)

  last_keeps : (vs : List Value) → IsTrue (are_sound n vs) → Keeps n is_sound (m.last_item vs)
  last_keeps vs h = or_else_keeps n is_sound (index_error (codes "pop from empty list")) (last_of vs) (raise_keeps n is_sound 15 _ refl) (λ k le. last_found k vs (sound_more_all n k le vs h))

  some_last_keeps : (vs : List Value) → Keeps n anything (m.last_item vs)
  some_last_keeps vs = or_other_keeps n (index_error (codes "pop from empty list")) (last_of vs) (raise_keeps n anything 15 _ refl)

  made_node_leaves : (steps : ℕ) (x : Node) → IsTrue (is_sound_node n x) → Leaves n is_sound (spend steps >> make x)
  made_node_leaves steps x h = kept is_sound (spend steps >> make x) (both_keep n is_sound (spend steps) (make x) (spend_keeps n steps) (make_keeps n x h))

  given_leaves : (steps : ℕ) (v : Value) → IsTrue (is_sound n v) → Leaves n is_sound (spend steps >> give v)
  given_leaves steps v h = kept is_sound (spend steps >> give v) (given_keeps n steps v h)

pop_last_leaves : (n i : ℕ) (vs : List Value) → IsTrue (are_sound n vs) → Leaves n is_sound (m.pop_last i vs)
pop_last_leaves n i vs h = then_leaves n is_sound is_sound (m.last_item vs) _ (last_keeps n vs h) (λ k v le w. changed_leaves k i _ v w)

refused_if_empty : (n : ℕ) (c : Bool) → Keeps {A = Unit {0}} n anything (if c then give tt else value_error (codes "empty separator"))
refused_if_empty n true = plain_keeps n (tt {0})
refused_if_empty n false = raise_keeps n anything 24 _ refl

module _ (n : ℕ) where
  take_out_leaves : (i : ℕ) (vs : List Value) (place : ℕ) → IsTrue (are_sound n vs) → Leaves n is_sound (m.take_out i vs place)
  take_out_leaves i vs place h =
      give_leaves n anything (spend (length vs) >> change i (m.without_place place)) _
      (both_leave n anything (spend (length vs)) (change i (m.without_place place)) (spend_keeps n (length vs)) (change_leaves n i (m.without_place place)))
      (value_or n vs place none h refl)

  pop_at_leaves : (i : ℕ) (vs : List Value) (z : ℤ) → IsTrue (are_sound n vs) → Leaves n is_sound (m.pop_at i vs z)
  pop_at_leaves i vs z h =
      any_leaves n anything is_sound (m.last_item vs >> place_of (length vs) z) (m.take_out i vs)
      (both_keep n anything (m.last_item vs) (place_of (length vs) z) (some_last_keeps n vs) (place_keeps n (length vs) z)) (λ place. take_out_leaves i vs place h)

  sort_leaves : (i : ℕ) (vs : List Value) → Leaves n is_sound (m.sort_in_place i vs)
  sort_leaves i vs =
      let other = bad_arguments {A = List Value} (m.method_name m.sort) in
      any_leaves n anything is_sound (spend (sort_steps (length vs)) >> or_else other (in_order vs)) _
      (both_keep n anything (spend (sort_steps (length vs))) (or_else other (in_order vs)) (spend_keeps n _) (or_other_keeps n other (in_order vs) (bad_arguments_keeps n anything (m.method_name m.sort))))
      (λ found. changing_leaves n i (replace_list found))

  look_up_leaves : (es : List (Key × Value)) (key : Value) (other : M Value) → IsTrue (are_sound_entries n es) → Keeps n is_sound other → Leaves n is_sound (m.look_up es key other)
  look_up_leaves es key other h ho =
      kept n is_sound (m.look_up es key other)
      (any_keeps n anything is_sound (key_of_value key) _ (key_keeps n key)
      (λ found. or_else_keeps n is_sound other (value_at is_one found es) ho (λ k le. entry_found is_one k found es (entries_more n k le es h))))

  or_set_leaves : (i : ℕ) (key : Key) (v : Value) (o : Option Value) → IsTrue (is_sound n v) → IsTrue (holds_in is_sound n o) → Leaves n is_sound (or_else (change i (insert key v) >> give v) o)
  or_set_leaves i key v (Some w) h ho = kept n is_sound (give w) (value_keeps n w ho)
  or_set_leaves i key v None h ho = changed_leaves n i (insert key v) v h

  set_default_leaves : (i : ℕ) (es : List (Key × Value)) (key v : Value) → IsTrue (are_sound_entries n es) → IsTrue (is_sound n v) → Leaves n is_sound (m.set_default i es key v)
  set_default_leaves i es key v h w = any_leaves n anything is_sound (key_of_value key) _ (key_keeps n key) (λ found. or_set_leaves i found v (value_at is_one found es) w (entry_found is_one n found es h))

  take_entry_leaves : (i : ℕ) (key : Key) (other : M Value) (o : Option Value) → Keeps n is_sound other → IsTrue (holds_in is_sound n o) → Leaves n is_sound (m.take_entry i key other o)
  take_entry_leaves i key other (Some v) h ho = changed_leaves n i _ v ho
  take_entry_leaves i key other None h ho = kept n is_sound other h

  pop_key_leaves : (i : ℕ) (es : List (Key × Value)) (key : Value) (other : M Value) → IsTrue (are_sound_entries n es) → Keeps n is_sound other → Leaves n is_sound (m.pop_key i es key other)
  pop_key_leaves i es key other h ho = any_leaves n anything is_sound (key_of_value key) _ (key_keeps n key) (λ found. take_entry_leaves i found other (value_at is_one found es) ho (entry_found is_one n found es h))

  update_leaves : (i : ℕ) (v : Value) → Leaves n is_sound (m.entries_of v >>= m.update_by i)
  update_leaves i v =
      any_leaves n anything is_sound (m.entries_of v) (m.update_by i)
      (any_keeps n anything anything (look _) (or_else (bad_arguments (m.method_name m.update))) (looked_keeps n _) (λ o. or_other_keeps n (bad_arguments (m.method_name m.update)) o (bad_arguments_keeps n anything (m.method_name m.update))))
      (λ es. spent_leaves n (length es) i _)

  -- ---- texts

  searched_keeps : (part cs : List ℕ) → Keeps n anything (m.is_cutting part >> m.search part cs)
  searched_keeps part cs = both_keep n anything (m.is_cutting part) (m.search part cs) (refused_if_empty n (is_nonempty part)) (spend_keeps n _)

  new_texts_keeps : (parts : List (List ℕ)) → Keeps n is_sound (m.new_texts parts)
  new_texts_keeps parts = make_keeps n (list (map text parts)) (all_of n text (λ cs. refl) parts)

  made_all_keeps : (parts : List (List ℕ)) → Keeps n is_sound (m.made_all parts)
  made_all_keeps parts = both_keep n is_sound (spend _) (m.new_texts parts) (spend_keeps n _) (new_texts_keeps parts)

  joined_keeps : (cs : List ℕ) (vs : List Value) → Keeps n is_sound (m.joined_by cs vs)
  joined_keeps cs vs =
      let other = bad_arguments {A = List (List ℕ)} (m.method_name m.join) in
      any_keeps n anything is_sound (or_else other (m.texts_in vs)) (λ parts. m.made (joined cs parts))
      (or_other_keeps n other (m.texts_in vs) (bad_arguments_keeps n anything (m.method_name m.join))) (λ parts. given_keeps n (length (joined cs parts)) (text (joined cs parts)) refl)

  -- ---- the rows

  list_row_leaves : (method : Method) (i : ℕ) (vs args : List Value) → IsTrue (are_sound n vs) → Leaves n is_sound (m.list_row method i vs args)
  list_row_leaves m.append i vs (x ∷ []) h = changing_leaves n i _
  list_row_leaves m.pop i vs [] h = pop_last_leaves n i vs h
  list_row_leaves m.pop i vs (at ∷ []) h = any_leaves n anything is_sound (index_of at) (m.pop_at i vs) (index_keeps n at) (λ z. pop_at_leaves i vs z h)
  list_row_leaves m.insert i vs (at ∷ x ∷ []) h = any_leaves n anything is_sound (index_of at) (m.insert_at i vs x) (index_keeps n at) (λ z. spent_leaves n (length vs) i _)
  list_row_leaves m.clear i vs [] h = changing_leaves n i _
  list_row_leaves m.extend i vs (s ∷ []) h = extended_leaves n i s
  list_row_leaves m.remove i vs (x ∷ []) h = any_leaves n anything is_sound (m.place_of_equal x vs) _ (place_of_equal_keeps n x vs) (λ place. changing_leaves n i _)
  list_row_leaves m.index i vs (x ∷ []) h = kept n is_sound (m.place_number x vs) (place_number_keeps n x vs)
  list_row_leaves m.count i vs (x ∷ []) h = kept n is_sound (m.count_number x vs) (count_number_keeps n x vs)
  list_row_leaves m.reverse i vs [] h = spent_leaves n (length vs) i _
  list_row_leaves m.copy i vs [] h = made_node_leaves n (length vs) (list vs) h
  list_row_leaves m.sort i vs [] h = sort_leaves i vs
  list_row_leaves method i vs args h = refused n (m.method_name method)

  tuple_row_leaves : (method : Method) (vs args : List Value) → Leaves n is_sound (m.tuple_row method vs args)
  tuple_row_leaves m.index vs (x ∷ []) = kept n is_sound (m.place_number x vs) (place_number_keeps n x vs)
  tuple_row_leaves m.count vs (x ∷ []) = kept n is_sound (m.count_number x vs) (count_number_keeps n x vs)
  tuple_row_leaves method vs args = refused n (m.method_name method)

  head_sound : (v : Value) (vs : List Value) → IsTrue (are_sound n (v ∷ vs)) → IsTrue (is_sound n v)
  head_sound v vs h = first (is_sound n v) _ h

  next_sound : (v w : Value) (vs : List Value) → IsTrue (are_sound n (v ∷ w ∷ vs)) → IsTrue (is_sound n w)
  next_sound v w vs h = head_sound w vs (second (is_sound n v) _ h)

  dict_row_leaves : (method : Method) (i : ℕ) (es : List (Key × Value)) (args : List Value) → IsTrue (are_sound_entries n es) → IsTrue (are_sound n args) → Leaves n is_sound (m.dict_row method i es args)
  dict_row_leaves m.get i es (key ∷ []) h a = look_up_leaves es key (give none) h (value_keeps n none refl)
  dict_row_leaves m.get i es (key ∷ d ∷ []) h a = look_up_leaves es key (give d) h (value_keeps n d (next_sound key d [] a))
  dict_row_leaves m.setdefault i es (key ∷ []) h a = set_default_leaves i es key none h refl
  dict_row_leaves m.setdefault i es (key ∷ d ∷ []) h a = set_default_leaves i es key d h (next_sound key d [] a)
  dict_row_leaves m.pop i es (key ∷ []) h a = pop_key_leaves i es key (no_key key) h (raise_with_keeps n is_sound key_error_class key refl (head_sound key [] a))
  dict_row_leaves m.pop i es (key ∷ d ∷ []) h a = pop_key_leaves i es key (give d) h (value_keeps n d (next_sound key d [] a))
  dict_row_leaves m.clear i es [] h a = changing_leaves n i _
  dict_row_leaves m.update i es (d ∷ []) h a = update_leaves i d
  dict_row_leaves m.copy i es [] h a = made_node_leaves n (length es) (dict es) h
  dict_row_leaves method i es args h a = refused n (m.method_name method)

  text_row_leaves : (method : Method) (cs : List ℕ) (args : List Value) → Leaves n is_sound (m.text_row method cs args)
  text_row_leaves m.startswith cs (text t ∷ []) = given_leaves n _ _ refl
  text_row_leaves m.endswith cs (text t ∷ []) = given_leaves n _ _ refl
  text_row_leaves m.strip cs [] = given_leaves n _ _ refl
  text_row_leaves m.isdigit cs [] = given_leaves n _ _ refl
  text_row_leaves m.find cs (text t ∷ []) = given_leaves n _ _ refl
  text_row_leaves m.count cs (text t ∷ []) = kept n is_sound _ (both_keep n is_sound (m.is_cutting t >> m.search t cs) (give (m.number (occurrences t cs))) (searched_keeps t cs) (value_keeps n (m.number (occurrences t cs)) refl))
  text_row_leaves m.split cs [] = kept n is_sound (spend (length cs) >> m.new_texts (words cs)) (both_keep n is_sound (spend (length cs)) (m.new_texts (words cs)) (spend_keeps n (length cs)) (new_texts_keeps (words cs)))
  text_row_leaves m.split cs (text t ∷ []) = kept n is_sound _ (both_keep n is_sound (m.is_cutting t >> m.search t cs) (m.made_all (pieces t cs)) (searched_keeps t cs) (made_all_keeps (pieces t cs)))
  text_row_leaves m.replace cs (text t ∷ text u ∷ []) = kept n is_sound _ (both_keep n is_sound (m.is_cutting t >> m.search t cs) (m.made (replaced cs t u)) (searched_keeps t cs) (given_keeps n (length (replaced cs t u)) (text (replaced cs t u)) refl))
  text_row_leaves m.join cs (s ∷ []) = kept n is_sound (walked s >>= m.joined_by cs) (any_keeps n are_sound is_sound (walked s) (m.joined_by cs) (walked_keeps n s) (joined_keeps cs))
  text_row_leaves method cs args = refused n (m.method_name method)

node_row_leaves : (n : ℕ) (method : Method) (i : ℕ) (args : List Value) (o : Option Node) → IsTrue (holds_in is_sound_node n o) → IsTrue (are_sound n args) → Leaves n is_sound (m.node_row method i args o)
node_row_leaves n method i args (Some (list vs)) h a = list_row_leaves n method i vs args h
node_row_leaves n method i args (Some (tuple vs)) h a = tuple_row_leaves n method vs args
node_row_leaves n method i args (Some (dict es)) h a = dict_row_leaves n method i es args h a
node_row_leaves n method i args _ h a = refused n (m.method_name method)

value_row_leaves : (n : ℕ) (method : Method) (v : Value) (args : List Value) → IsTrue (are_sound n args) → Leaves n is_sound (m.value_row method v args)
value_row_leaves n method (text cs) args a = text_row_leaves n method cs args
value_row_leaves n method (node i) args a = then_leaves n (holds_in is_sound_node) is_sound (look (λ ns. slice_get ns i)) (m.node_row method i args) (found_keeps n i) (λ k o le h. node_row_leaves k method i args o h (sound_more_all n k le args a))
value_row_leaves n method v args a = refused n (m.method_name method)

pub method_leaves : (n : ℕ) (v : Value) (name : List ℕ) (args : List Value) → IsTrue (are_sound n args) → Leaves n is_sound (call_method v name args)
method_leaves n v name args a =
    any_leaves n anything is_sound (look _ >>= or_else (no_attribute v name)) (λ method. m.value_row method v args)
    (any_keeps n anything anything (look _) (or_else (no_attribute v name)) (looked_keeps n _) (λ o. or_other_keeps n (no_attribute v name) o (no_attribute_keeps n anything v name)))
    (λ method. value_row_leaves n method v args a)

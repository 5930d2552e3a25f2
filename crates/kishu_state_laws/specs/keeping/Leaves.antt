-- Exceptions, keys, sequences and places keep what holds of every state.
use Rattle.std.specs.Prelude.{◌≡◌, ℕ, suc, ◌-◌, ◌<◌, nat_lt, ℤ, pos, negsuc, Bool, true, false, IsTrue, if◌then◌else◌, List, [], ◌∷◌, ◌++◌, length, map, codes, Option, Some, None, option_and_then}
use Rattle.std.specs.List.{AllByRecursion as Each}
use Rattle.std.specs.Str.{chars}
use Rattle.std.proofs.Common.{refl, arith, ltb-true}
use Rattle.kishu_meaning.specs.values.Classes.{type_error_class}
use Rattle.kishu_meaning.specs.values.Keys.{Key, KeyPart}
use Rattle.kishu_meaning.specs.values.Keys as kk
use Rattle.kishu_meaning.specs.values.Kinds.{kind_in, kind_of, in_quotes, no_key, not_iterable, bad_index, unhashable, no_attribute, bad_arguments}
use Rattle.kishu_meaning.specs.values.Nodes.{on_list, tuple_in, dict_in}
use Rattle.kishu_meaning.specs.values.Sound.{is_exception_class}
use Rattle.kishu_meaning.specs.values.Texts.{places}
use Rattle.kishu_meaning.specs.values.Values.{Value, none, bool, integer, text, range, builtin, class, node, Node, list, tuple, dict, object, function, exception}
use Rattle.kishu_meaning.specs.moments.Moment.{◌>>=◌, give, raise, node_at}
use Rattle.kishu_meaning.specs.comparing.Equal.{number_in, range_length}
use Rattle.kishu_meaning.specs.items.Indexes.{index_of, place_in, place_of}
use Rattle.kishu_meaning.specs.items.KeyOf.{part_in, parts_of, tuple_key, key_by, key_of_value, value_of_part, value_of_key, values_of_keys}
use Rattle.kishu_meaning.specs.items.Sequences.{count_in, count_of, text_items, range_items, node_items, items_of, walked, extended}
use Rattle.kishu_meaning.specs.calls.Operators.{bad_operands, bad_operand, list_from, tuple_from, is_full_at, truth}
use Rattle.kishu_meaning.specs.items.Subscripts.{not_subscriptable, position}
use Rattle.kishu_meaning.specs.items.Walks.{or_none_there}
use Rattle.kishu_objects.specs.State.{IsValue, AreValues, IsNode, IsKey, IsKeyPart, IsName, keys_in}
use Rattle.kishu_state_laws.specs.keeping.Logic.{Maybe, Any, IsText, Safe, bind_s, with_s, plain_s, then_s, give_s, any_s, value_s, list_s, throw_s, raise_s, or_else_s, any_else_s, look_s, look_any, now_good, node_now_s, spend_s, spend_any, make_s, change_s, value_later, values_later, each_append}
use Rattle.kishu_state_laws.specs.keeping.Lists.{edits_list, AreEntries, no_entries, dict_entries}
use Rattle.kishu_state_laws.specs.keeping.Texts.{scalars_append, text_between, text_kind, text_in_quotes, text_name, IsScalar, each_scalar, one_text}
use Rattle.kishu_state_laws.specs.keeping.Numbers.{IsWhole, wholes_range}

-- ---- exceptions

module _ {A : Type 0} {k : ℕ} {Q : ℕ → A → Type 0} where
  pub kind_raise : (v : Value) (kind : ℕ) (f : List ℕ → List ℕ) → IsTrue (is_exception_class kind) → ((c : List ℕ) → IsText c → IsText (f c)) → Safe k Q (kind_of v >>= λ c. raise kind (f c))
  kind_raise v kind f p h = with_s (look_s (λ l c. IsText c) (λ ns. kind_in ns v) (λ l s le g. text_kind s.nodes v)) (λ c q. raise_s kind (f c) p (h c q))

  pub no_key_s : (v : Value) → IsValue k v → Safe k Q (no_key v)
  no_key_s v h = throw_s _ (refl, (h, tt))

  pub not_iterable_s : (v : Value) → Safe k Q (not_iterable v)
  not_iterable_s v = kind_raise v _ (λ c. in_quotes c ++ codes " object is not iterable") refl (λ c q. scalars_append (in_quotes c) (codes " object is not iterable") (text_in_quotes c q) refl)

  pub bad_index_s : (v : Value) → Safe k Q (bad_index v)
  bad_index_s v = kind_raise v _ (λ c. codes "bad index type: " ++ in_quotes c) refl (λ c q. scalars_append (codes "bad index type: ") (in_quotes c) refl (text_in_quotes c q))

  pub unhashable_s : (v : Value) → Safe k Q (unhashable v)
  unhashable_s v = kind_raise v _ (λ c. codes "unhashable key: " ++ in_quotes c) refl (λ c q. scalars_append (codes "unhashable key: ") (in_quotes c) refl (text_in_quotes c q))

  pub no_attribute_s : (v : Value) (x : List ℕ) → IsName x → Safe k Q (no_attribute v x)
  no_attribute_s v x n = kind_raise v _ (λ c. in_quotes c ++ codes " object has no attribute '" ++ chars x ++ codes "'") refl (λ c q.
      scalars_append (in_quotes c ++ codes " object has no attribute '" ++ chars x) (codes "'") (scalars_append (in_quotes c ++ codes " object has no attribute '") (chars x) (scalars_append (in_quotes c) (codes " object has no attribute '") (text_in_quotes c q) refl) (text_name x n)) refl)

  pub not_subscriptable_s : (v : Value) → Safe k Q (not_subscriptable v)
  not_subscriptable_s v = kind_raise v _ (λ c. in_quotes c ++ codes " object is not subscriptable") refl (λ c q. scalars_append (in_quotes c) (codes " object is not subscriptable") (text_in_quotes c q) refl)

  pub bad_arguments_s : (name : List ℕ) → IsText name → Safe k Q (bad_arguments name)
  bad_arguments_s name h = raise_s _ (name ++ codes "() got bad arguments") refl (scalars_append name (codes "() got bad arguments") h refl)

  pub bad_operands_s : (sign : List ℕ) (v w : Value) → IsText sign → Safe k Q (bad_operands sign v w)
  bad_operands_s sign v w h =
      with_s (look_s (λ l c. IsText c) (λ ns. kind_in ns v) (λ l s le g. text_kind s.nodes v)) (λ c p. kind_raise w type_error_class (λ d. codes "bad operand types for " ++ sign ++ codes ": " ++ in_quotes c ++ codes " and " ++ in_quotes d) refl (λ d q.
      scalars_append (codes "bad operand types for " ++ sign ++ codes ": " ++ in_quotes c ++ codes " and ") (in_quotes d) (scalars_append (codes "bad operand types for " ++ sign ++ codes ": " ++ in_quotes c) (codes " and ") (scalars_append (codes "bad operand types for " ++ sign ++ codes ": ") (in_quotes c) (text_between (codes "bad operand types for ") sign (codes ": ") refl h refl) (text_in_quotes c p)) refl) (text_in_quotes d q)))

  pub bad_operand_s : (sign : List ℕ) (v : Value) → IsText sign → Safe k Q (bad_operand sign v)
  bad_operand_s sign v h = kind_raise v _ (λ c. codes "bad operand type for " ++ sign ++ codes ": " ++ in_quotes c) refl (λ c q.
      scalars_append (codes "bad operand type for " ++ sign ++ codes ": ") (in_quotes c) (text_between (codes "bad operand type for ") sign (codes ": ") refl h refl) (text_in_quotes c q))

-- ---- what is in a node

abbrev pub MaybeValue : ℕ → Option Value → Type 0
MaybeValue l = Maybe (IsValue l)

pub list_maybe : (k : ℕ) (o : Option Node) → Maybe (IsNode k) o → Maybe (AreValues k) (list_from o)
list_maybe k (Some (list vs)) h = h
list_maybe k (Some (tuple vs)) h = tt
list_maybe k (Some (dict es)) h = tt
list_maybe k (Some (object es)) h = tt
list_maybe k (Some (function profile code vs)) h = tt
list_maybe k (Some (exception kind vs)) h = tt
list_maybe k None h = tt

pub tuple_maybe : (k : ℕ) (o : Option Node) → Maybe (IsNode k) o → Maybe (AreValues k) (tuple_from o)
tuple_maybe k (Some (list vs)) h = tt
tuple_maybe k (Some (tuple vs)) h = h
tuple_maybe k (Some (dict es)) h = tt
tuple_maybe k (Some (object es)) h = tt
tuple_maybe k (Some (function profile code vs)) h = tt
tuple_maybe k (Some (exception kind vs)) h = tt
tuple_maybe k None h = tt

pub dict_maybe : (k : ℕ) (o : Option Node) → Maybe (IsNode k) o → Maybe (AreEntries k) (option_and_then dict_in o)
dict_maybe k (Some (list vs)) h = tt
dict_maybe k (Some (tuple vs)) h = tt
dict_maybe k (Some (dict es)) h = dict_entries k es h
dict_maybe k (Some (object es)) h = tt
dict_maybe k (Some (function profile code vs)) h = tt
dict_maybe k (Some (exception kind vs)) h = tt
dict_maybe k None h = tt

pub list_there : (k : ℕ) (o : Option (List Value)) → Maybe (AreValues k) o → AreValues k (or_none_there o)
list_there k (Some vs) h = h
list_there k None h = tt

pub dict_there : (k : ℕ) (o : Option (List (Key × Value))) → Maybe (AreEntries k) o → AreEntries k (or_none_there o)
dict_there k (Some es) h = h
dict_there k None h = no_entries

-- ---- keys

pub part_value : (k : ℕ) (p : KeyPart) → IsKeyPart p → IsValue k (value_of_part p)
part_value k kk.none h = tt
part_value k (kk.bool b) h = tt
part_value k (kk.integer z) h = h
part_value k (kk.text cs) h = h

parts_values : (k : ℕ) (ps : List KeyPart) → Each IsKeyPart ps → AreValues k (map value_of_part ps)
parts_values k [] h = tt
parts_values k (p ∷ ps) h = (part_value k p h.0, parts_values k ps h.1)

value_part : (k : ℕ) (v : Value) → IsValue k v → Maybe IsKeyPart (part_in v)
value_part k none h = tt
value_part k (bool b) h = tt
value_part k (integer z) h = h
value_part k (text cs) h = h
value_part k (range a b c) h = tt
value_part k (builtin n) h = tt
value_part k (class n) h = tt
value_part k (node i) h = tt

module _ {k : ℕ} where
  pub truth_s : (v : Value) → Safe k Any (truth v)
  truth_s (node i) = bind_s {f = λ o. give (is_full_at o)} (node_now_s (node i)) (λ _ _ _ _. any_s)
  truth_s v = any_s

  parts_s : (vs : List Value) → AreValues k vs → Safe k (λ l. Each IsKeyPart) (parts_of vs)
  parts_s [] h = give_s (λ l. Each IsKeyPart) (λ l le. tt)
  parts_s (v ∷ vs) h = with_s (or_else_s (λ l p. IsKeyPart p) (part_in v) (unhashable_s v) (λ l le. value_part k v h.0)) (λ p q. with_s (parts_s vs h.1) (λ ps r. give_s (λ l. Each IsKeyPart) (λ l le. (q, r))))

  tuple_key_s : (v : Value) (o : Option (List Value)) → Maybe (AreValues k) o → Safe k (λ l. IsKey) (tuple_key v o)
  tuple_key_s v (Some vs) h = with_s (then_s (spend_s (length vs)) (parts_s vs h)) (λ ps q. give_s (λ l. IsKey) (λ l le. q))
  tuple_key_s v None h = unhashable_s v

key_by_s : {k : ℕ} (v : Value) (o : Option KeyPart) → Maybe IsKeyPart o → Safe k (λ l. IsKey) (key_by v o)
key_by_s v (Some p) h = give_s (λ l. IsKey) (λ l le. h)
key_by_s v None h = bind_s (look_s (λ l. Maybe (AreValues l)) (λ ns. option_and_then tuple_in (node_at ns v)) (λ l s le g. tuple_maybe l (node_at s.nodes v) (now_good l s v g))) (λ l le o q. tuple_key_s v o q)

module _ {k : ℕ} where
  pub key_s : (v : Value) → IsValue k v → Safe k (λ l. IsKey) (key_of_value v)
  key_s v h = key_by_s v (part_in v) (value_part k v h)

  pub value_of_key_s : (key : Key) → IsKey key → Safe k IsValue (value_of_key key)
  value_of_key_s (kk.single p) h = value_s (value_of_part p) (part_value k p h)
  value_of_key_s (kk.tuple ps) h = then_s (spend_s (length ps)) (make_s (tuple (map value_of_part ps)) (parts_values k ps h) (λ p. tt))

values_of_keys_s : {k : ℕ} (ks : List Key) → Each IsKey ks → Safe k AreValues (values_of_keys ks)
values_of_keys_s [] h = list_s [] tt
values_of_keys_s (key ∷ ks) h = bind_s (value_of_key_s key h.0) (λ n le v q. bind_s (values_of_keys_s ks h.1) (λ m le' vs r. list_s (v ∷ vs) (value_later n m le' v q, r)))

-- ---- sequences

texts_values : (k : ℕ) (cs : List ℕ) → Each IsScalar cs → AreValues k (text_items cs)
texts_values k [] h = tt
texts_values k (c ∷ cs) h = (one_text c h.0, texts_values k cs h.1)

wholes_values : (k : ℕ) (zs : List ℤ) → Each IsWhole zs → AreValues k (map integer zs)
wholes_values k [] h = tt
wholes_values k (z ∷ zs) h = (h.0, wholes_values k zs h.1)

module _ {k : ℕ} where
  pub count_of_s : (v : Value) → Safe k Any (count_of v)
  count_of_s v = plain_s (look_any (λ ns. count_in ns v)) (λ o. any_else_s o (not_iterable_s v))

  node_items_s : (v : Value) (o : Option Node) → Maybe (IsNode k) o → Safe k AreValues (node_items v o)
  node_items_s v (Some (list vs)) h = list_s vs h
  node_items_s v (Some (tuple vs)) h = list_s vs h
  node_items_s v (Some (dict es)) h = values_of_keys_s (keys_in es) h.0
  node_items_s v o h = not_iterable_s v

pub items_of_s : {k : ℕ} (v : Value) → IsValue k v → Safe k AreValues (items_of v)
items_of_s {k = k} (text cs) h = list_s (text_items cs) (texts_values k cs (each_scalar cs h))
items_of_s {k = k} (range a b c) h = list_s (range_items a b c) (wholes_values k (places a c (range_length a b c)) (wholes_range a b c h.0 h.1))
items_of_s (node i) h = bind_s (node_now_s (node i)) (λ n le o q. node_items_s (node i) o q)
items_of_s v h = not_iterable_s v

pub walked_s : {k : ℕ} (v : Value) → IsValue k v → Safe k AreValues (walked v)
walked_s v h = then_s (plain_s (count_of_s v) (λ n. spend_any n)) (items_of_s v h)

pub extended_s : {k : ℕ} (i : ℕ) (v : Value) → IsValue k v → Safe k Any (extended i v)
extended_s i v h = bind_s (walked_s v h) (λ n le vs q. change_s i (on_list (λ xs. xs ++ vs)) (edits_list (λ xs. xs ++ vs) (λ l le' xs r. each_append (IsValue l) xs vs r (values_later n l le' vs q))))

-- ---- places

place_below : (n : ℕ) (z : ℤ) → Maybe (λ p. p < n) (place_in n z)
place_below n (pos k) = found (nat_lt k n) refl
  where
    found : (b : Bool) → nat_lt k n ≡ b → Maybe (λ p. p < n) (if b then Some k else None)
    found true e = ltb-true k n e
    found false e = tt
place_below n (negsuc k) = found (nat_lt k n) refl
  where
    found : (b : Bool) → nat_lt k n ≡ b → Maybe (λ p. p < n) (if b then Some (n - suc k) else None)
    found true e = (let h : k < n = ltb-true k n e in omega (arith, h))
    found false e = tt

module _ {k : ℕ} where
  pub index_s : (v : Value) → Safe k Any (index_of v)
  index_s v = any_else_s (number_in v) (bad_index_s v)

  pub place_of_s : (n : ℕ) (z : ℤ) → Safe k (λ l p. p < n) (place_of n z)
  place_of_s n z = or_else_s (λ l p. p < n) (place_in n z) (raise_s _ (codes "index out of range") refl refl) (λ l le. place_below n z)

  pub position_s : (n : ℕ) (v : Value) → Safe k (λ l p. p < n) (position n v)
  position_s n v = plain_s (index_s v) (λ z. place_of_s n z)

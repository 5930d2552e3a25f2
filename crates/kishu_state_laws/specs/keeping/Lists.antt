-- Lists, entries and changes of a node that keep what holds of their items, keys and values.
use Rattle.std.specs.Prelude.{◌≡◌, ℕ, suc, ◌≤◌, Bool, true, false, ◌||◌, if◌then◌else◌, IsFalse, List, [], ◌∷◌, ◌++◌, take, drop, Some}
use Rattle.std.specs.Cmp.Lexicographic.{nat_list_eq_equiv}
use Rattle.std.specs.List.{AllByRecursion as Each, list_any, filter}
use Rattle.std.specs.Str.{bytes_eq}
use Rattle.std.proofs.Common.{refl, ap, ◌∙◌}
use Rattle.kishu_meaning.specs.values.Keys.{Key, is_one}
use Rattle.kishu_meaning.specs.values.KeyLaws.{is_one_equiv}
use Rattle.kishu_meaning.specs.values.Values.{Value, Node, list, tuple, dict, object, function, exception}
use Rattle.kishu_meaning.specs.values.Nodes.{value_at, with_entry, without_entry, on_list, on_dict, on_object}
use Rattle.kishu_objects.specs.State.{IsValue, AreValues, IsKey, IsName, AreApart, keys_in, values_in, IsNode, Stays, the_same, lists, dicts, objects}
use Rattle.kishu_state_laws.specs.keeping.Logic.{Maybe, Edits, each_append, value_later}
pub use Rattle.kishu_soundness_laws.specs.values.Lists.{each_set, each_take, each_drop, each_reverse, each_index, each_many, each_last, each_without_last, each_picked, each_if, each_sorted, maybe_if}

module _ {A : Type 0} (P : A → Type 0) where
  pub each_filter : (test : A → Bool) (as' : List A) → Each P as' → Each P (filter test as')
  each_filter test [] h = tt
  each_filter test (a ∷ as') h = each_if P (test a) (a ∷ filter test as') (filter test as') (h.0, each_filter test as' h.1) (each_filter test as' h.1)

  pub each_without : (i : ℕ) (as' : List A) → Each P as' → Each P (take i as' ++ drop (suc i) as')
  each_without i as' h = each_append P (take i as') (drop (suc i) as') (each_take P i as' h) (each_drop P (suc i) as' h)

  pub each_with : (i : ℕ) (a : A) (as' : List A) → P a → Each P as' → Each P (take i as' ++ a ∷ drop i as')
  each_with i a as' p h = each_append P (take i as') (a ∷ drop i as') (each_take P i as' h) (p, each_drop P i as' h)

-- ---- entries: their values

module _ (k : ℕ) {K : Type 0} where
  entries_if : (b : Bool) (es fs : List (K × Value)) → AreValues k (values_in es) → AreValues k (values_in fs) → AreValues k (values_in (if b then es else fs))
  entries_if true es fs h g = h
  entries_if false es fs h g = g

  module _ (is_key : K → K → Bool) (key : K) where
    pub value_found : (es : List (K × Value)) → AreValues k (values_in es) → Maybe (IsValue k) (value_at is_key key es)
    value_found [] h = tt
    value_found (e ∷ es) h = maybe_if (IsValue k) (is_key key e.0) (Some e.1) (value_at is_key key es) h.0 (value_found es h.1)

    pub values_with : (v : Value) (es : List (K × Value)) → IsValue k v → AreValues k (values_in es) → AreValues k (values_in (with_entry is_key key v es))
    values_with v [] p h = (p, tt)
    values_with v (e ∷ es) p h = entries_if (is_key key e.0) ((e.0, v) ∷ es) (e ∷ with_entry is_key key v es) (p, h.1) (h.0, values_with v es p h.1)

    pub values_without : (es : List (K × Value)) → AreValues k (values_in es) → AreValues k (values_in (without_entry is_key key es))
    values_without [] h = tt
    values_without (e ∷ es) h = entries_if (is_key key e.0) es (e ∷ without_entry is_key key es) h.1 (h.0, values_without es h.1)

-- ---- entries: their keys

-- Keys are keys, and no two of them are one.
pub record AreKeys {K : Type 0} (is_key : K → K → Bool) (P : K → Type 0) (xs : List K) : Type 0 where
  pub each : Each P xs
  pub apart : AreApart is_key xs

or_false : (a b : Bool) → (a || b) ≡ false → (a ≡ false) × (b ≡ false)
or_false true b h = absurd cc
or_false false b h = (refl, h)

module _ {K : Type 0} (is_key : K → K → Bool) (P : K → Type 0) where
  keys_if : (b : Bool) (es fs : List (K × Value)) → (b ≡ true → AreKeys is_key P (keys_in es)) → (b ≡ false → AreKeys is_key P (keys_in fs)) → AreKeys is_key P (keys_in (if b then es else fs))
  keys_if true es fs h g = h refl
  keys_if false es fs h g = g refl

  any_if : (y : K) (b : Bool) (es fs : List (K × Value)) → IsFalse (list_any (is_key y) (keys_in es)) → IsFalse (list_any (is_key y) (keys_in fs)) → IsFalse (list_any (is_key y) (keys_in (if b then es else fs)))
  any_if y true es fs h g = h
  any_if y false es fs h g = g

  module _ (key : K) where
    without_any : (y : K) (es : List (K × Value)) → IsFalse (list_any (is_key y) (keys_in es)) → IsFalse (list_any (is_key y) (keys_in (without_entry is_key key es)))
    without_any y [] h = h
    without_any y (e ∷ es) h =
        let p = or_false (is_key y e.0) (list_any (is_key y) (keys_in es)) h in
        any_if y (is_key key e.0) es (e ∷ without_entry is_key key es) p.1 (ap (λ b. b || list_any (is_key y) (keys_in (without_entry is_key key es))) p.0 ∙ without_any y es p.1)

    pub keys_without : (es : List (K × Value)) → AreKeys is_key P (keys_in es) → AreKeys is_key P (keys_in (without_entry is_key key es))
    keys_without [] h = h
    keys_without (e ∷ es) h =
        let rest : AreKeys is_key P (keys_in es) = record { each = h.each.1; apart = h.apart.1 } in
        let further = keys_without es rest in
        keys_if (is_key key e.0) es (e ∷ without_entry is_key key es) (λ b. rest) (λ b. record { each = (h.each.0, further.each); apart = (without_any e.0 es h.apart.0, further.apart) })

    with_any : (v : Value) (y : K) (es : List (K × Value)) → IsFalse (is_key y key) → IsFalse (list_any (is_key y) (keys_in es)) → IsFalse (list_any (is_key y) (keys_in (with_entry is_key key v es)))
    with_any v y [] n h = ap (λ b. b || false) n
    with_any v y (e ∷ es) n h =
        let p = or_false (is_key y e.0) (list_any (is_key y) (keys_in es)) h in
        any_if y (is_key key e.0) ((e.0, v) ∷ es) (e ∷ with_entry is_key key v es) h (ap (λ b. b || list_any (is_key y) (keys_in (with_entry is_key key v es))) p.0 ∙ with_any v y es n p.1)

    pub keys_with : ((x y : K) → is_key x y ≡ is_key y x) → (v : Value) (es : List (K × Value)) → P key → AreKeys is_key P (keys_in es) → AreKeys is_key P (keys_in (with_entry is_key key v es))
    keys_with turned v [] p h = record { each = (p, tt); apart = (refl, tt) }
    keys_with turned v (e ∷ es) p h =
        let rest : AreKeys is_key P (keys_in es) = record { each = h.each.1; apart = h.apart.1 } in
        let further = keys_with turned v es p rest in
        keys_if (is_key key e.0) ((e.0, v) ∷ es) (e ∷ with_entry is_key key v es) (λ b. record { each = h.each; apart = h.apart })
        (λ b. record { each = (h.each.0, further.each); apart = (with_any v e.0 es (turned e.0 key ∙ b) h.apart.0, further.apart) })

-- ---- entries of dicts and of objects

pub record AreEntries (k : ℕ) (es : List (Key × Value)) : Type 0 where
  pub keys : AreKeys is_one IsKey (keys_in es)
  pub values : AreValues k (values_in es)

pub record AreAttributes (k : ℕ) (es : List (List ℕ × Value)) : Type 0 where
  pub keys : AreKeys bytes_eq IsName (keys_in es)
  pub values : AreValues k (values_in es)

pub no_entries : {k : ℕ} → AreEntries k []
no_entries = record { keys = record { each = tt; apart = tt }; values = tt }

pub entries_with : (k : ℕ) (key : Key) (v : Value) (es : List (Key × Value)) → IsKey key → IsValue k v → AreEntries k es → AreEntries k (with_entry is_one key v es)
entries_with k key v es p q h = record { keys = keys_with is_one IsKey key is_one_equiv.symm v es p h.keys; values = values_with k is_one key v es q h.values }

pub entries_without : (k : ℕ) (key : Key) (es : List (Key × Value)) → AreEntries k es → AreEntries k (without_entry is_one key es)
entries_without k key es h = record { keys = keys_without is_one IsKey key es h.keys; values = values_without k is_one key es h.values }

pub dict_entries : (k : ℕ) (es : List (Key × Value)) → IsNode k (dict es) → AreEntries k es
dict_entries k es h = record { keys = record { each = h.0; apart = h.1 }; values = h.2 }

pub dict_node : (k : ℕ) (es : List (Key × Value)) → AreEntries k es → IsNode k (dict es)
dict_node k es h = (h.keys.each, h.keys.apart, h.values)

pub object_node : (k : ℕ) (es : List (List ℕ × Value)) → AreAttributes k es → IsNode k (object es)
object_node k es h = (h.keys.each, h.keys.apart, h.values)

attributes_with : (k : ℕ) (x : List ℕ) (v : Value) (es : List (List ℕ × Value)) → IsName x → IsValue k v → AreAttributes k es → AreAttributes k (with_entry bytes_eq x v es)
attributes_with k x v es p q h = record { keys = keys_with bytes_eq IsName x nat_list_eq_equiv.symm v es p h.keys; values = values_with k bytes_eq x v es q h.values }

-- ---- one node

list_stays : (f : List Value → List Value) (n : Node) → Stays n (on_list f n)
list_stays f (list vs) = lists vs (f vs)
list_stays f (tuple vs) = the_same (tuple vs)
list_stays f (dict es) = the_same (dict es)
list_stays f (object es) = the_same (object es)
list_stays f (function profile code vs) = the_same (function profile code vs)
list_stays f (exception kind vs) = the_same (exception kind vs)

dict_stays : (f : List (Key × Value) → List (Key × Value)) (n : Node) → Stays n (on_dict f n)
dict_stays f (list vs) = the_same (list vs)
dict_stays f (tuple vs) = the_same (tuple vs)
dict_stays f (dict es) = dicts es (f es)
dict_stays f (object es) = the_same (object es)
dict_stays f (function profile code vs) = the_same (function profile code vs)
dict_stays f (exception kind vs) = the_same (exception kind vs)

object_stays : (f : List (List ℕ × Value) → List (List ℕ × Value)) (n : Node) → Stays n (on_object f n)
object_stays f (list vs) = the_same (list vs)
object_stays f (tuple vs) = the_same (tuple vs)
object_stays f (dict es) = the_same (dict es)
object_stays f (object es) = objects es (f es)
object_stays f (function profile code vs) = the_same (function profile code vs)
object_stays f (exception kind vs) = the_same (exception kind vs)

list_keeps : (k : ℕ) (f : List Value → List Value) → ((vs : List Value) → AreValues k vs → AreValues k (f vs)) → (n : Node) → IsNode k n → IsNode k (on_list f n)
list_keeps k f h (list vs) p = h vs p
list_keeps k f h (tuple vs) p = p
list_keeps k f h (dict es) p = p
list_keeps k f h (object es) p = p
list_keeps k f h (function profile code vs) p = p
list_keeps k f h (exception kind vs) p = p

dict_keeps : (k : ℕ) (f : List (Key × Value) → List (Key × Value)) → ((es : List (Key × Value)) → AreEntries k es → AreEntries k (f es)) → (n : Node) → IsNode k n → IsNode k (on_dict f n)
dict_keeps k f h (list vs) p = p
dict_keeps k f h (tuple vs) p = p
dict_keeps k f h (dict es) p = dict_node k (f es) (h es (dict_entries k es p))
dict_keeps k f h (object es) p = p
dict_keeps k f h (function profile code vs) p = p
dict_keeps k f h (exception kind vs) p = p

object_keeps : (k : ℕ) (f : List (List ℕ × Value) → List (List ℕ × Value)) → ((es : List (List ℕ × Value)) → AreAttributes k es → AreAttributes k (f es)) → (n : Node) → IsNode k n → IsNode k (on_object f n)
object_keeps k f h (list vs) p = p
object_keeps k f h (tuple vs) p = p
object_keeps k f h (dict es) p = p
object_keeps k f h (object es) p = object_node k (f es) (h es (record { keys = record { each = p.0; apart = p.1 }; values = p.2 }))
object_keeps k f h (function profile code vs) p = p
object_keeps k f h (exception kind vs) p = p

pub edits_list : {k : ℕ} (f : List Value → List Value) → ((l : ℕ) → k ≤ l → (vs : List Value) → AreValues l vs → AreValues l (f vs)) → Edits k (on_list f)
edits_list f h = record { stays = list_stays f; keeps = λ l le. list_keeps l f (h l le) }

pub edits_dict : {k : ℕ} (f : List (Key × Value) → List (Key × Value)) → ((l : ℕ) → k ≤ l → (es : List (Key × Value)) → AreEntries l es → AreEntries l (f es)) → Edits k (on_dict f)
edits_dict f h = record { stays = dict_stays f; keeps = λ l le. dict_keeps l f (h l le) }

edits_object : {k : ℕ} (f : List (List ℕ × Value) → List (List ℕ × Value)) → ((l : ℕ) → k ≤ l → (es : List (List ℕ × Value)) → AreAttributes l es → AreAttributes l (f es)) → Edits k (on_object f)
edits_object f h = record { stays = object_stays f; keeps = λ l le. object_keeps l f (h l le) }

pub edits_attribute : {k : ℕ} (x : List ℕ) (v : Value) → IsName x → IsValue k v → Edits k (on_object (with_entry bytes_eq x v))
edits_attribute {k = k} x v p q = edits_object (with_entry bytes_eq x v) (λ l le es h. attributes_with l x v es p (value_later k l le v q) h)

pub edits_without : {k : ℕ} (x : List ℕ) → Edits k (on_object (without_entry bytes_eq x))
edits_without x = edits_object (without_entry bytes_eq x) (λ l le es h. record { keys = keys_without bytes_eq IsName x es h.keys; values = values_without l bytes_eq x es h.values })

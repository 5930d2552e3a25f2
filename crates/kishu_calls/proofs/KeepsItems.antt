-- Keys, items and what is walked, taken from what is sound, are sound.
use Rattle.std.proofs.Common.{refl, ℕ, zero, suc, ◌≤◌, Bool, true, false, IsTrue, List, [], ◌∷◌, length, map, Option, Some, None}
use Rattle.std.specs.Prelude.{ℤ, slice_get, get_or, if◌then◌else◌}
use Rattle.std.specs.List.{list_all}
use Rattle.kishu_meaning.specs.values.Keys as k
use Rattle.kishu_meaning.specs.values.Keys.{KeyPart, Key}
use Rattle.kishu_meaning.specs.values.Values.{Value, integer, text, range, node, Node, list, tuple, dict}
use Rattle.kishu_meaning.specs.values.Texts.{places}
use Rattle.kishu_meaning.specs.values.Nodes.{value_at, last_of}
use Rattle.kishu_meaning.specs.values.Sound.{is_sound, are_sound, is_sound_node, are_sound_nodes}
use Rattle.kishu_meaning.specs.moments.Moment.{◌>>=◌, ◌>>◌, or_else, spend, look, make}
use Rattle.kishu_meaning.specs.comparing.Equal.{range_length}
use Rattle.kishu_meaning.specs.values.Kinds.{not_iterable, unhashable, bad_index, index_error}
use Rattle.kishu_meaning.specs.items.Indexes.{index_of, place_of}
use Rattle.kishu_meaning.specs.items.KeyOf.{part_in, parts_of, tuple_key, key_by, key_of_value, value_of_part, value_of_key, values_of_keys}
use Rattle.kishu_meaning.specs.items.Sequences.{count_in, count_of, text_items, range_items, node_items, items_of, walked}
use Rattle.kishu_items.specs.Holding.{both, first, second}
use Rattle.kishu_machine.specs.SoundMore.{sound_more}
use Rattle.kishu_calls.proofs.Keeping.{Keeps, anything, holds_in, then_keeps, any_keeps, both_keep, plain_keeps, value_keeps, items_keep, raise_keeps, look_keeps, looked_keeps, spend_keeps, or_other_keeps, make_keeps, not_iterable_keeps, bad_index_keeps, unhashable_keeps}

-- ---- among what is sound

pub node_found : (k : ℕ) (ns : List Node) (i : ℕ) → IsTrue (are_sound_nodes k ns) → IsTrue (holds_in is_sound_node k (slice_get ns i))
node_found k [] i h = refl
node_found k (x ∷ ns) zero h = first (is_sound_node k x) _ h
node_found k (x ∷ ns) (suc i) h = node_found k ns i (second (is_sound_node k x) _ h)

pub value_found : (k : ℕ) (vs : List Value) (i : ℕ) → IsTrue (are_sound k vs) → IsTrue (holds_in is_sound k (slice_get vs i))
value_found k [] i h = refl
value_found k (v ∷ vs) zero h = first (is_sound k v) _ h
value_found k (v ∷ vs) (suc i) h = value_found k vs i (second (is_sound k v) _ h)

pub value_or : (k : ℕ) (vs : List Value) (i : ℕ) (other : Value) → IsTrue (are_sound k vs) → IsTrue (is_sound k other) → IsTrue (is_sound k (get_or vs i other))
value_or k [] i other h o = o
value_or k (v ∷ vs) zero other h o = first (is_sound k v) _ h
value_or k (v ∷ vs) (suc i) other h o = value_or k vs i other (second (is_sound k v) _ h) o

pub last_found : (k : ℕ) (vs : List Value) → IsTrue (are_sound k vs) → IsTrue (holds_in is_sound k (last_of vs))
last_found k [] h = refl
last_found k (v ∷ []) h = first (is_sound k v) true h
last_found k (v ∷ (w ∷ vs)) h = last_found k (w ∷ vs) (second (is_sound k v) _ h)

abbrev pub are_sound_entries : {K : Type 0} → ℕ → List (K × Value) → Bool
are_sound_entries n = list_all (λ e. is_sound n e.1)

module _ {K : Type 0} (is_key : K → K → Bool) where
  either_found : (b : Bool) (n : ℕ) (v : Value) (o : Option Value) → IsTrue (is_sound n v) → IsTrue (holds_in is_sound n o) → IsTrue (holds_in is_sound n (if b then Some v else o))
  either_found true n v o h w = h
  either_found false n v o h w = w

  pub entry_found : (n : ℕ) (key : K) (es : List (K × Value)) → IsTrue (are_sound_entries n es) → IsTrue (holds_in is_sound n (value_at is_key key es))
  entry_found n key [] h = refl
  entry_found n key (e ∷ es) h = either_found (is_key key e.0) n e.1 _ (first (is_sound n e.1) _ h) (entry_found n key es (second (is_sound n e.1) _ h))

pub entries_more : {K : Type 0} (n m : ℕ) → n ≤ m → (es : List (K × Value)) → IsTrue (are_sound_entries n es) → IsTrue (are_sound_entries m es)
entries_more n m p [] h = refl
entries_more n m p (e ∷ es) h = both (is_sound m e.1) _ (sound_more n m p e.1 (first (is_sound n e.1) _ h)) (entries_more n m p es (second (is_sound n e.1) _ h))

pub all_of : {A : Type 0} (n : ℕ) (f : A → Value) → ((a : A) → IsTrue (is_sound n (f a))) → (as' : List A) → IsTrue (are_sound n (map f as'))
all_of n f h [] = refl
all_of n f h (a ∷ as') = both (is_sound n (f a)) _ (h a) (all_of n f h as')

part_sound : (n : ℕ) (p : KeyPart) → IsTrue (is_sound n (value_of_part p))
part_sound n k.none = refl
part_sound n (k.bool b) = refl
part_sound n (k.integer z) = refl
part_sound n (k.text cs) = refl

module _ (n : ℕ) where
  pub found_keeps : (i : ℕ) → Keeps n (holds_in is_sound_node) (look (λ ns. slice_get ns i))
  found_keeps i = look_keeps n (holds_in is_sound_node) (λ ns. slice_get ns i) (λ ns le g. node_found (length ns) ns i g)

  -- ---- indexes

  pub index_keeps : (v : Value) → Keeps n anything (index_of v)
  index_keeps v = or_other_keeps n (bad_index v) _ (bad_index_keeps n anything v)

  pub place_keeps : (many : ℕ) (z : ℤ) → Keeps n anything (place_of many z)
  place_keeps many z = or_other_keeps n (index_error _) _ (raise_keeps n anything 15 _ refl)

  -- ---- keys

  parts_keep : (vs : List Value) → Keeps n anything (parts_of vs)
  parts_keep [] = plain_keeps n []
  parts_keep (v ∷ vs) =
      any_keeps n anything anything (or_else (unhashable v) (part_in v)) _ (or_other_keeps n (unhashable v) (part_in v) (unhashable_keeps n anything v))
      (λ p. any_keeps n anything anything (parts_of vs) _ (parts_keep vs) (λ ps. plain_keeps n (p ∷ ps)))

  tuple_key_keeps : (v : Value) (o : Option (List Value)) → Keeps n anything (tuple_key v o)
  tuple_key_keeps v (Some vs) =
      any_keeps n anything anything (spend (length vs) >> parts_of vs) _
      (both_keep n anything (spend (length vs)) (parts_of vs) (spend_keeps n (length vs)) (parts_keep vs)) (λ ps. plain_keeps n (k.tuple ps))
  tuple_key_keeps v None = unhashable_keeps n anything v

  key_by_keeps : (v : Value) (o : Option KeyPart) → Keeps n anything (key_by v o)
  key_by_keeps v (Some p) = plain_keeps n (k.single p)
  key_by_keeps v None = any_keeps n anything anything (look _) (tuple_key v) (looked_keeps n _) (tuple_key_keeps v)

  pub key_keeps : (v : Value) → Keeps n anything (key_of_value v)
  key_keeps v = key_by_keeps v (part_in v)

  pub key_value_keeps : (key : Key) → Keeps n is_sound (value_of_key key)
  key_value_keeps (k.single p) = value_keeps n (value_of_part p) (part_sound n p)
  key_value_keeps (k.tuple ps) = both_keep n is_sound (spend (length ps)) (make _) (spend_keeps n (length ps)) (make_keeps n (tuple (map value_of_part ps)) (all_of n value_of_part (part_sound n) ps))

-- ---- items

pub key_values_keep : (n : ℕ) (keys : List Key) → Keeps n are_sound (values_of_keys keys)
key_values_keep n [] = items_keep n [] refl
key_values_keep n (key ∷ keys) =
    then_keeps n is_sound are_sound (value_of_key key) _ (key_value_keeps n key)
    (λ j v le h. then_keeps j are_sound are_sound (values_of_keys keys) _ (key_values_keep j keys)
    (λ i vs more hs. items_keep i (v ∷ vs) (both (is_sound i v) _ (sound_more j i more v h) hs)))

module _ (n : ℕ) where
  pub count_keeps : (v : Value) → Keeps n anything (count_of v)
  count_keeps v = any_keeps n anything anything (look (λ ns. count_in ns v)) (or_else (not_iterable v)) (looked_keeps n (λ ns. count_in ns v)) (λ o. or_other_keeps n (not_iterable v) o (not_iterable_keeps n anything v))

  node_items_keep : (v : Value) (o : Option Node) → IsTrue (holds_in is_sound_node n o) → Keeps n are_sound (node_items v o)
  node_items_keep v (Some (list vs)) h = items_keep n vs h
  node_items_keep v (Some (tuple vs)) h = items_keep n vs h
  node_items_keep v (Some (dict es)) h = key_values_keep n (map (λ e. e.0) es)
  node_items_keep v _ h = not_iterable_keeps n are_sound v

pub text_items_sound : (n : ℕ) (cs : List ℕ) → IsTrue (are_sound n (text_items cs))
text_items_sound n cs = all_of n (λ c. text (c ∷ [])) (λ c. refl) cs

pub range_items_sound : (n : ℕ) (a b c : ℤ) → IsTrue (are_sound n (range_items a b c))
range_items_sound n a b c = all_of n integer (λ z. refl) (places a c (range_length a b c))

pub items_of_keeps : (n : ℕ) (v : Value) → Keeps n are_sound (items_of v)
items_of_keeps n (text cs) = items_keep n (text_items cs) (text_items_sound n cs)
items_of_keeps n (range a b c) = items_keep n (range_items a b c) (range_items_sound n a b c)
items_of_keeps n (node i) = then_keeps n (holds_in is_sound_node) are_sound (look (λ ns. slice_get ns i)) (node_items (node i)) (found_keeps n i) (λ j o le h. node_items_keep j (node i) o h)
items_of_keeps n v = not_iterable_keeps n are_sound v

pub walked_keeps : (n : ℕ) (v : Value) → Keeps n are_sound (walked v)
walked_keeps n v =
    any_keeps n anything are_sound (count_of v >>= spend) (λ _. items_of v)
    (any_keeps n anything anything (count_of v) spend (count_keeps n v) (spend_keeps n)) (λ _. items_of_keeps n v)

-- Walks that correspond, and the item of each turn.
use Rattle.std.specs.Prelude.{ℕ, ◌==◌, List, ℤ, ◌≡◌, Option, option_and_then, length, slice_get, if◌then◌else◌, option_map, None, Some, [], ◌∷◌, Bool, true, false, nat_lt, pos, ◌+ℤ◌, ◌*ℤ◌}
use Rattle.std.proofs.Common.{subst}
use Rattle.kishu_meaning.specs.comparing.Equal.{range_length}
use Rattle.kishu_meaning.specs.items.KeyOf.{value_of_key}
use Rattle.kishu_meaning.specs.items.Walks.{unpacked, Walk, along_list, View, along_dict, along_tuple, along_text, along_range, node_walk, keys, walk_of, or_none_there, items_now, entries_now, walk_view, seen, values, items, entry_seen, size_changed, item_for}
use Rattle.kishu_meaning.specs.values.Keys.{Key}
use Rattle.kishu_meaning.specs.values.Nodes.{dict_in}
use Rattle.kishu_meaning.specs.values.Values.{Value, Node, text, range, node, integer}
use Rattle.kishu_pairing_laws.specs.World.{World, SameValue, GoQuietly, SameValues, Paired, BothOrNeither, SameNode, neither, paired, both, lists, tuples, dicts, objects, functions, exceptions, IsPlain, plain, Zip, nil, SameEntries, SameEntry, cons}
use Rattle.kishu_pairing_laws.specs.moments.Steps.{bind_is, then_quiet, spend_quiet, cond_quiet, raise_quiet, give_quiet, bind_quiet}
use Rattle.kishu_pairing_laws.specs.values.Lists.{zip_length, opt_then, zip_get}
use Rattle.kishu_pairing_laws.specs.moments.Heap.{node_now_quiet}
use Rattle.kishu_pairing_laws.specs.values.Nodes.{list_there, in_dict}
use Rattle.kishu_pairing_laws.specs.values.Kinds.{not_iterable_quiet}
use Rattle.kishu_pairing_laws.specs.calls.Operators.{new_tuple_quiet}
use Rattle.kishu_pairing_laws.specs.items.KeyOf.{value_of_key_quiet}
use Rattle.kishu_pairing_laws.specs.items.Sequences.{count_of_quiet, items_of_quiet}
use Rattle.kishu_pairing_laws.specs.Itself.{itself, one_pair, one_list}

module _ (W : World) where
  pub unpacked_quiet : (n : ℕ) {v w : Value} → SameValue W v w → GoQuietly W (SameValues W) (unpacked n v) (unpacked n w)
  unpacked_quiet n vw = bind_is W (count_of_quiet W vw) (λ k. then_quiet W (spend_quiet W k) (cond_quiet W (k == n) (items_of_quiet W vw) (raise_quiet W _ _)))

pub data SameWalk (W : World) : Walk → Walk → Type 0 where
  list_walks : {i j : ℕ} → Paired W i j → SameWalk W (along_list i) (along_list j)
  dict_walks : {i j : ℕ} (n : ℕ) (view : View) → Paired W i j → SameWalk W (along_dict i n view) (along_dict j n view)
  tuple_walks : {vs ws : List Value} → SameValues W vs ws → SameWalk W (along_tuple vs) (along_tuple ws)
  text_walks : (cs : List ℕ) → SameWalk W (along_text cs) (along_text cs)
  range_walks : (a b c : ℤ) → SameWalk W (along_range a b c) (along_range a b c)

module _ (W : World) where
  dict_walk_is : {i j : ℕ} {n m : ℕ} (view : View) → Paired W i j → n ≡ m → SameWalk W (along_dict i n view) (along_dict j m view)
  dict_walk_is {i = i} {j = j} {n = n} view p e = subst (λ m. SameWalk W (along_dict i n view) (along_dict j m view)) e (dict_walks n view p)

  node_walk_quiet : {i j : ℕ} {o q : Option Node} → Paired W i j → BothOrNeither (SameNode W) o q → GoQuietly W (SameWalk W) (node_walk i o) (node_walk j q)
  node_walk_quiet p neither = not_iterable_quiet W (paired _ _ p)
  node_walk_quiet p (both (lists z)) = give_quiet W (list_walks p)
  node_walk_quiet p (both (tuples z)) = give_quiet W (tuple_walks z)
  node_walk_quiet p (both (dicts z)) = give_quiet W (dict_walk_is keys p (zip_length z))
  node_walk_quiet p (both (objects z)) = not_iterable_quiet W (paired _ _ p)
  node_walk_quiet p (both (functions profile code z)) = not_iterable_quiet W (paired _ _ p)
  node_walk_quiet p (both (exceptions kind z)) = not_iterable_quiet W (paired _ _ p)

  walk_plain : (v : Value) → IsPlain v → GoQuietly W (SameWalk W) (walk_of v) (walk_of v)
  walk_plain (text cs) p = give_quiet W (text_walks cs)
  walk_plain (range a b c) p = give_quiet W (range_walks a b c)
  walk_plain (node i) p = absurd p
  walk_plain v p = not_iterable_quiet W (plain v p)

  pub walk_of_quiet : {v w : Value} → SameValue W v w → GoQuietly W (SameWalk W) (walk_of v) (walk_of w)
  walk_of_quiet (plain v p) = walk_plain v p
  walk_of_quiet (paired i j p) = bind_quiet W (node_now_quiet W (paired i j p)) (λ o q oq. node_walk_quiet p oq)

  none_there : {A B : Type 0} {R : A → B → Type 0} {o : Option (List A)} {p : Option (List B)} → BothOrNeither (Zip R) o p → Zip R (or_none_there o) (or_none_there p)
  none_there neither = nil
  none_there (both z) = z

  items_now_quiet : {i j : ℕ} → Paired W i j → GoQuietly W (SameValues W) (items_now i) (items_now j)
  items_now_quiet p = bind_quiet W (node_now_quiet W (paired _ _ p)) (λ o q oq. give_quiet W (none_there (list_there W oq)))

  dict_there : {o p : Option Node} → BothOrNeither (SameNode W) o p → BothOrNeither (SameEntries W) (option_and_then dict_in o) (option_and_then dict_in p)
  dict_there = opt_then (SameEntries W) dict_in dict_in (λ a b ab. in_dict W ab)

  entries_now_quiet : {i j : ℕ} → Paired W i j → GoQuietly W (SameEntries W) (entries_now i) (entries_now j)
  entries_now_quiet p = bind_quiet W (node_now_quiet W (paired _ _ p)) (λ o q oq. give_quiet W (none_there (dict_there oq)))

  pub walk_view_quiet : {i j : ℕ} (view : View) → Paired W i j → GoQuietly W (SameWalk W) (walk_view i view) (walk_view j view)
  walk_view_quiet view p = bind_quiet W (entries_now_quiet p) (λ es fs z. give_quiet W (dict_walk_is view p (zip_length z)))

  value_of_keys_is : {k l : Key} → k ≡ l → GoQuietly W (SameValue W) (value_of_key k) (value_of_key l)
  value_of_keys_is {k = k} e = subst (λ l. GoQuietly W (SameValue W) (value_of_key k) (value_of_key l)) e (value_of_key_quiet W k)

  seen_quiet : (view : View) (e f : Key × Value) → SameEntry W e f → GoQuietly W (SameValue W) (seen view e) (seen view f)
  seen_quiet keys e f h = value_of_keys_is h.0
  seen_quiet values e f h = give_quiet W h.1
  seen_quiet items e f h = bind_quiet W (value_of_keys_is h.0) (λ v w vw. new_tuple_quiet W (cons vw (cons h.1 nil)))

  entry_seen_quiet : (view : View) {o p : Option (Key × Value)} → BothOrNeither (SameEntry W) o p → GoQuietly W (BothOrNeither (SameValue W)) (entry_seen view o) (entry_seen view p)
  entry_seen_quiet view neither = give_quiet W neither
  entry_seen_quiet view (both {a = e} {b = f} h) = bind_quiet W (seen_quiet view e f h) (λ v w vw. give_quiet W (both vw))

  sized_quiet : (start : ℕ) (view : View) (k : ℕ) {es fs : List (Key × Value)} → SameEntries W es fs → GoQuietly W (BothOrNeither (SameValue W)) (if length es == start then entry_seen view (slice_get es k) else size_changed) (if length fs == start then entry_seen view (slice_get fs k) else size_changed)
  sized_quiet start view k {es = es} {fs = fs} z =
      subst (λ n. GoQuietly W (BothOrNeither (SameValue W)) (if length es == start then entry_seen view (slice_get es k) else size_changed) (if n == start then entry_seen view (slice_get fs k) else size_changed)) (zip_length z)
      (cond_quiet W (length es == start) (entry_seen_quiet view (zip_get k z)) (raise_quiet W _ _))

  text_item : (o : Option ℕ) → BothOrNeither (SameValue W) (option_map (λ c. text (c ∷ [])) o) (option_map (λ c. text (c ∷ [])) o)
  text_item None = neither
  text_item (Some c) = both (plain _ tt)

  range_item : (b : Bool) (z : ℤ) → BothOrNeither (SameValue W) (if b then Some (integer z) else None) (if b then Some (integer z) else None)
  range_item true z = both (plain _ tt)
  range_item false z = neither

  pub item_for_quiet : {u v : Walk} (k : ℕ) → SameWalk W u v → GoQuietly W (BothOrNeither (SameValue W)) (item_for u k) (item_for v k)
  item_for_quiet k (list_walks p) = bind_quiet W (items_now_quiet p) (λ vs ws z. give_quiet W (zip_get k z))
  item_for_quiet k (dict_walks n view p) = bind_quiet W (entries_now_quiet p) (λ es fs z. sized_quiet n view k z)
  item_for_quiet k (tuple_walks z) = give_quiet W (zip_get k z)
  item_for_quiet k (text_walks cs) = give_quiet W (text_item (slice_get cs k))
  item_for_quiet k (range_walks a b c) = give_quiet W (range_item (nat_lt k (range_length a b c)) (a +ℤ pos k *ℤ c))

pub one_walk : (u : Walk) → SameWalk itself u u
one_walk (along_list i) = list_walks (one_pair i)
one_walk (along_dict i n view) = dict_walks n view (one_pair i)
one_walk (along_tuple vs) = tuple_walks (one_list vs)
one_walk (along_text cs) = text_walks cs
one_walk (along_range a b c) = range_walks a b c

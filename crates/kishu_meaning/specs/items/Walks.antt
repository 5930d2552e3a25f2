-- Sequences that are walked: how many items they have, and the item of each turn (Python Language Reference 3, "The for statement" and "Assignment statements").
use Rattle.std.specs.Prelude.{ℕ, ◌==◌, nat_lt, ℤ, pos, ◌+ℤ◌, ◌*ℤ◌, if◌then◌else◌, List, [], ◌∷◌, ◌++◌, length, slice_get, decimal, codes, Option, Some, None, option_map, option_and_then}
use Rattle.kishu_meaning.specs.values.Classes.{runtime_error_class}
use Rattle.kishu_meaning.specs.values.Keys.{Key}
use Rattle.kishu_meaning.specs.values.Values.{Value, integer, text, range, node, Node, list, tuple, dict}
use Rattle.kishu_meaning.specs.values.Nodes.{dict_in}
use Rattle.kishu_meaning.specs.moments.Moment.{M, ◌>>=◌, ◌>>◌, give, raise, spend, node_now}
use Rattle.kishu_meaning.specs.comparing.Equal.{range_length}
use Rattle.kishu_meaning.specs.calls.Operators.{value_error, list_from, new_tuple}
use Rattle.kishu_meaning.specs.values.Kinds.{not_iterable}
use Rattle.kishu_meaning.specs.items.KeyOf.{value_of_key}
use Rattle.kishu_meaning.specs.items.Sequences.{count_of, items_of}

-- ---- all items at once

-- The items for a pattern of n targets. As many steps are taken as there are items, and only then are they walked.
abbrev pub unpacked : ℕ → Value → M (List Value)
unpacked n v = count_of v >>= λ k. spend k >> (if k == n then items_of v else value_error (codes "cannot unpack into " ++ decimal n))

-- ---- one after another

-- what is taken of an entry
pub data View : Type 0 where
  keys : View
  values : View
  items : View

abbrev pub view_name : View → List ℕ
view_name keys = codes "keys"
view_name values = codes "values"
view_name items = codes "items"

-- what is walked
pub data Walk : Type 0 where
  -- a list by its number: each turn sees the list as it is then
  along_list : ℕ → Walk
  -- a dict by its number, with its size at the start, which must stay
  along_dict : ℕ → (size : ℕ) → View → Walk
  along_tuple : List Value → Walk
  along_text : List ℕ → Walk
  along_range : (start stop step : ℤ) → Walk

abbrev pub node_walk : ℕ → Option Node → M Walk
node_walk n (Some (list vs)) = give (along_list n)
node_walk n (Some (tuple vs)) = give (along_tuple vs)
node_walk n (Some (dict es)) = give (along_dict n (length es) keys)
node_walk n _ = not_iterable (node n)

abbrev pub walk_of : Value → M Walk
walk_of (text cs) = give (along_text cs)
walk_of (range start stop step) = give (along_range start stop step)
walk_of (node n) = node_now (node n) >>= node_walk n
walk_of v = not_iterable v

abbrev pub or_none_there : {A : Type 0} → Option (List A) → List A
or_none_there (Some as') = as'
or_none_there None = []

-- the items of a list now, and the entries of a dict
abbrev pub items_now : ℕ → M (List Value)
items_now n = node_now (node n) >>= λ found. give (or_none_there (list_from found))

abbrev pub entries_now : ℕ → M (List (Key × Value))
entries_now n = node_now (node n) >>= λ found. give (or_none_there (option_and_then dict_in found))

-- of a dict of that number, its keys, its values, or both
abbrev pub walk_view : ℕ → View → M Walk
walk_view n view = entries_now n >>= λ es. give (along_dict n (length es) view)

-- A key that is a tuple, and a key with its value, is a new node each time.
abbrev pub seen : View → Key × Value → M Value
seen keys e = value_of_key e.0
seen values e = give e.1
seen items e = value_of_key e.0 >>= λ k. new_tuple (k ∷ e.1 ∷ [])

abbrev pub entry_seen : View → Option (Key × Value) → M (Option Value)
entry_seen view None = give None
entry_seen view (Some e) = seen view e >>= λ v. give (Some v)

abbrev pub size_changed : {A : Type 0} → M A
size_changed = raise runtime_error_class (codes "dictionary changed size during iteration")

-- the item for this turn, where there is one more
abbrev pub item_for : Walk → ℕ → M (Option Value)
item_for (along_list n) k = items_now n >>= λ vs. give (slice_get vs k)
item_for (along_dict n start view) k = entries_now n >>= λ es. if length es == start then entry_seen view (slice_get es k) else size_changed
item_for (along_tuple vs) k = give (slice_get vs k)
item_for (along_text cs) k = give (option_map (λ c. text (c ∷ [])) (slice_get cs k))
item_for (along_range start stop step) k = give (if nat_lt k (range_length start stop step) then Some (integer (start +ℤ pos k *ℤ step)) else None)

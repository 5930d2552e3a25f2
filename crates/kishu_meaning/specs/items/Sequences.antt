-- Sequences, and the items by which they are walked (Python Language Reference 3, "The standard type hierarchy"; Library Reference, "Sequence Types" and "Mapping Types").
use Rattle.std.specs.Prelude.{ℕ, ℤ, List, [], ◌∷◌, ◌++◌, length, map, Option, Some, None, slice_get, option_and_then}
use Rattle.kishu_meaning.specs.values.Values.{Value, none, bool, integer, text, range, builtin, class, node, Node, list, tuple, dict, object, function, exception}
use Rattle.kishu_meaning.specs.values.Nodes.{on_list}
use Rattle.kishu_meaning.specs.values.Texts.{places}
use Rattle.kishu_meaning.specs.comparing.Equal.{range_length}
use Rattle.kishu_meaning.specs.values.Kinds.{not_iterable}
use Rattle.kishu_meaning.specs.items.KeyOf.{values_of_keys}
use Rattle.kishu_meaning.specs.moments.Moment.{M, ◌>>=◌, give, or_else, spend, look, change}

-- ---- how many items there are

abbrev pub node_count : Node → Option ℕ
node_count (list vs) = Some (length vs)
node_count (tuple vs) = Some (length vs)
node_count (dict es) = Some (length es)
node_count (object as') = None
node_count (function profile code vs) = None
node_count (exception kind vs) = None

-- where the value is a sequence: a text, a range, a list, a tuple or a dict
abbrev pub count_in : List Node → Value → Option ℕ
count_in ns none = None
count_in ns (bool b) = None
count_in ns (integer z) = None
count_in ns (text cs) = Some (length cs)
count_in ns (range a b c) = Some (range_length a b c)
count_in ns (builtin n) = None
count_in ns (class n) = None
count_in ns (node i) = option_and_then node_count (slice_get ns i)

abbrev pub count_of : Value → M ℕ
count_of v = look (λ ns. count_in ns v) >>= or_else (not_iterable v)

-- ---- the items

-- the texts of one code point
abbrev pub text_items : List ℕ → List Value
text_items = map (λ c. text (c ∷ []))

abbrev pub range_items : ℤ → ℤ → ℤ → List Value
range_items start stop step = map integer (places start step (range_length start stop step))

-- A dict is walked by its keys.
abbrev pub node_items : Value → Option Node → M (List Value)
node_items v (Some (list vs)) = give vs
node_items v (Some (tuple vs)) = give vs
node_items v (Some (dict es)) = values_of_keys (map (λ e. e.0) es)
node_items v _ = not_iterable v

abbrev pub items_of : Value → M (List Value)
items_of (text cs) = give (text_items cs)
items_of (range a b c) = give (range_items a b c)
items_of (node i) = look (λ ns. slice_get ns i) >>= node_items (node i)
items_of v = not_iterable v

-- the items, after a step for each of them
abbrev pub walked : Value → M (List Value)
walked v = count_of v >>= spend >>= λ _. items_of v

-- The list at a node grows by the items, which are taken first.
abbrev pub extended : ℕ → Value → M (Unit {0})
extended i v = walked v >>= λ more. change i (on_list (λ items. items ++ more))

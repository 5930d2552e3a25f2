-- Items, slices and attributes: how they are read, stored and deleted (Python Language Reference 3, "Subscriptions", "Slicings", "Attribute references" and "The del statement").
use Rattle.std.specs.Prelude.{ℕ, suc, ℤ, pos, negsuc, ◌+ℤ◌, ◌-ℤ◌, ◌*ℤ◌, int_lt, if◌then◌else◌, List, [], ◌∷◌, ◌++◌, length, take, drop, slice_get, codes, Option, Some, None}
use Rattle.std.specs.List.{filter_map}
use Rattle.std.specs.Ordering.{int_eq}
use Rattle.std.specs.Str.{bytes_eq}
use Rattle.kishu_meaning.specs.values.Texts.{places}
use Rattle.kishu_meaning.specs.values.Keys.{is_one}
use Rattle.kishu_meaning.specs.values.Values.{Value, none, integer, text, range, node, Node, list, tuple, dict, object, exception}
use Rattle.kishu_meaning.specs.values.Nodes.{value_at, on_list, set_item, insert, remove, set_attr, remove_attr}
use Rattle.kishu_meaning.specs.moments.Moment.{M, or_else, ◌>>=◌, ◌>>◌, give, spend, change, node_now}
use Rattle.kishu_meaning.specs.comparing.Equal.{range_length}
use Rattle.kishu_meaning.specs.calls.Operators.{in_quotes, kind_of, type_error, value_error, new_list, new_tuple}
use Rattle.kishu_meaning.specs.values.Kinds.{no_key, no_attribute}
use Rattle.kishu_meaning.specs.items.Indexes.{index_of, place_of, out_of_range}
use Rattle.kishu_meaning.specs.items.KeyOf.{key_of_value}

abbrev pub not_subscriptable : {A : Type 0} → Value → M A
not_subscriptable v = kind_of v >>= λ k. type_error (in_quotes k ++ codes " object is not subscriptable")

-- ---- places

-- of an item among n
abbrev pub position : ℕ → Value → M ℕ
position n i = index_of i >>= place_of n

abbrev pub taken : {A : Type 0} → List A → Value → M A
taken as' i = position (length as') i >>= λ k. or_else out_of_range (slice_get as' k)

-- ---- `s[i]`

abbrev pub node_item : Value → Value → Option Node → M Value
node_item v i (Some (list vs)) = taken vs i
node_item v i (Some (tuple vs)) = taken vs i
node_item v i (Some (dict es)) = key_of_value i >>= λ k. or_else (no_key i) (value_at is_one k es)
node_item v i _ = not_subscriptable v

abbrev pub item : Value → Value → M Value
item (text cs) i = taken cs i >>= λ c. give (text (c ∷ []))
item (range start stop step) i = position (range_length start stop step) i >>= λ k. give (integer (start +ℤ pos k *ℤ step))
item (node n) i = node_now (node n) >>= node_item (node n) i
item v i = not_subscriptable v

-- ---- `s[a:b:c]`

-- a bound: None, or a number
abbrev pub bound_of : Value → M (Option ℤ)
bound_of none = give None
bound_of v = index_of v >>= λ z. give (Some z)

abbrev pub step_from : Option ℤ → M ℤ
step_from None = give (pos 1)
step_from (Some z) = if int_eq z (pos 0) then value_error (codes "step is zero") else give z

-- A step upwards takes bounds from 0 to n, and one downwards from -1 to n - 1.
abbrev pub lowest : ℕ → ℤ → ℤ
lowest n step = if int_lt (pos 0) step then pos 0 else negsuc 0

abbrev pub highest : ℕ → ℤ → ℤ
highest n step = if int_lt (pos 0) step then pos n else pos n -ℤ pos 1

abbrev pub counted_from_end : ℕ → ℤ → ℤ
counted_from_end n z = if int_lt z (pos 0) then z +ℤ pos n else z

abbrev pub brought : ℤ → ℤ → ℤ → ℤ
brought low high z = if int_lt z low then low else (if int_lt high z then high else z)

abbrev pub limit : ℕ → ℤ → ℤ → Option ℤ → ℤ
limit n step other (Some z) = brought (lowest n step) (highest n step) (counted_from_end n z)
limit n step other None = other

abbrev pub first_limit : ℕ → ℤ → Option ℤ → ℤ
first_limit n step start = limit n step (if int_lt (pos 0) step then lowest n step else highest n step) start

abbrev pub last_limit : ℕ → ℤ → Option ℤ → ℤ
last_limit n step stop = limit n step (if int_lt (pos 0) step then highest n step else lowest n step) stop

-- the places from the one limit on by the step, before the other
abbrev pub places_between : ℤ → ℤ → ℤ → List ℤ
places_between first last step = places first step (range_length first last step)

-- The bounds are asked in their order.
abbrev pub slice_places : ℕ → Value → Value → Value → M (List ℤ)
slice_places n start stop step = do
  a ← bound_of start
  b ← bound_of stop
  c ← bound_of step >>= step_from
  give (places_between (first_limit n c a) (last_limit n c b) c)

abbrev pub at_place : {A : Type 0} → List A → ℤ → Option A
at_place as' (pos i) = slice_get as' i
at_place as' (negsuc i) = None

-- what stands at the places of a slice; as many steps
abbrev pub picked : {A : Type 0} → List A → Value → Value → Value → M (List A)
picked as' start stop step = slice_places (length as') start stop step >>= λ zs. spend (length zs) >> give (filter_map (at_place as') zs)

abbrev pub node_slice : Value → Value → Value → Value → Option Node → M Value
node_slice v start stop step (Some (list vs)) = picked vs start stop step >>= new_list
node_slice v start stop step (Some (tuple vs)) = picked vs start stop step >>= new_tuple
node_slice v start stop step _ = not_subscriptable v

abbrev pub slice : Value → Value → Value → Value → M Value
slice (text cs) start stop step = picked cs start stop step >>= λ ds. give (text ds)
slice (node n) start stop step = node_now (node n) >>= node_slice (node n) start stop step
slice v start stop step = not_subscriptable v

-- ---- `o.a`

abbrev pub node_attribute : Value → List ℕ → Option Node → M Value
node_attribute v x (Some (object as')) = or_else (no_attribute v x) (value_at bytes_eq x as')
node_attribute v x (Some (exception kind vs)) = if bytes_eq x (codes "args") then new_tuple vs else no_attribute v x
node_attribute v x _ = no_attribute v x

abbrev pub attribute : Value → List ℕ → M Value
attribute v x = node_now v >>= node_attribute v x

-- ---- stores; what isn't one of these has no such place

abbrev pub store_in_node : ℕ → Value → Value → Option Node → M (Unit {0})
store_in_node n i w (Some (list vs)) = position (length vs) i >>= λ k. change n (set_item k w)
store_in_node n i w (Some (dict es)) = key_of_value i >>= λ k. change n (insert k w)
store_in_node n i w _ = not_subscriptable (node n)

-- `v[i] = w`
abbrev pub store_item : Value → Value → Value → M (Unit {0})
store_item (node n) i w = node_now (node n) >>= store_in_node n i w
store_item v i w = not_subscriptable v

abbrev pub store_on_node : ℕ → List ℕ → Value → Option Node → M (Unit {0})
store_on_node n x w (Some (object as')) = change n (set_attr x w)
store_on_node n x w _ = no_attribute (node n) x

-- `v.x = w`
abbrev pub store_attribute : Value → List ℕ → Value → M (Unit {0})
store_attribute (node n) x w = node_now (node n) >>= store_on_node n x w
store_attribute v x w = no_attribute v x

-- ---- `del`

abbrev pub without_place : {A : Type 0} → ℕ → List A → List A
without_place k as' = take k as' ++ drop (suc k) as'

-- where there is a value
abbrev pub where_found : {A : Type 0} → M (Unit {0}) → Option A → M (Unit {0}) → M (Unit {0})
where_found other (Some a) m = m
where_found other None m = other

abbrev pub delete_in_node : ℕ → Value → Option Node → M (Unit {0})
delete_in_node n i (Some (list vs)) = position (length vs) i >>= λ k. change n (on_list (without_place k))
delete_in_node n i (Some (dict es)) = key_of_value i >>= λ k. where_found (no_key i) (value_at is_one k es) (change n (remove k))
delete_in_node n i _ = not_subscriptable (node n)

abbrev pub delete_item : Value → Value → M (Unit {0})
delete_item (node n) i = node_now (node n) >>= delete_in_node n i
delete_item v i = not_subscriptable v

abbrev pub delete_on_node : ℕ → List ℕ → Option Node → M (Unit {0})
delete_on_node n x (Some (object as')) = where_found (no_attribute (node n) x) (value_at bytes_eq x as') (change n (remove_attr x))
delete_on_node n x _ = no_attribute (node n) x

abbrev pub delete_attribute : Value → List ℕ → M (Unit {0})
delete_attribute (node n) x = node_now (node n) >>= delete_on_node n x
delete_attribute v x = no_attribute v x

-- What the methods of lists, tuples, dicts and texts do: one line a method (Library Reference, "Common Sequence Operations", "Mutable Sequence Types", "Mapping Types" and "String Methods").
use Rattle.std.specs.Prelude.{ℕ, ◌*◌, max, ℤ, pos, negsuc, Bool, ◌&&◌, if◌then◌else◌, List, [], ◌∷◌, length, map, reverse as reversed, codes, Option, Some, None, is_some, option_map, option_and_then, slice_get, slice_index_or}
use Rattle.std.specs.List.{list_all, find as first_where, insert as with_item, remove as without_item, sum_by}
use Rattle.std.specs.Str.{bytes_eq}
use Rattle.kishu_language.specs.tokens.Names.{is_digit}
use Rattle.kishu_meaning.specs.values.White.{stripped}
use Rattle.kishu_meaning.specs.values.Keys.{Key, is_one}
use Rattle.kishu_meaning.specs.values.Values.{Value, none, bool, integer, text, range, builtin, class, node, Node, list, tuple, dict, object, function, exception}
use Rattle.kishu_meaning.specs.values.Texts.{begins, first_place, occurrences, pieces, replaced, joined, words, is_nonempty}
use Rattle.kishu_meaning.specs.values.Nodes as n
use Rattle.kishu_meaning.specs.values.Nodes.{value_at, with_entry, last_of, on_list, on_dict, replace_list, dict_in}
use Rattle.kishu_meaning.specs.moments.Moment.{M, ◌>>=◌, ◌>>◌, give, or_else, spend, look, make, change, node_at}
use Rattle.kishu_meaning.specs.values.Kinds.{value_error, index_error, no_key, no_attribute, bad_arguments}
use Rattle.kishu_meaning.specs.items.Indexes.{index_of, place_of, bound_in}
use Rattle.kishu_meaning.specs.items.KeyOf.{key_of_value}
use Rattle.kishu_meaning.specs.items.Sequences.{walked, extended}
use Rattle.kishu_meaning.specs.items.Finding.{place_among, count_among}
use Rattle.kishu_meaning.specs.items.Sorting.{in_order, sort_steps}

-- ---- the methods that there are

pub data Method : Type 0 where
  append : Method
  clear : Method
  copy : Method
  count : Method
  endswith : Method
  extend : Method
  find : Method
  get : Method
  index : Method
  insert : Method
  isdigit : Method
  join : Method
  pop : Method
  remove : Method
  replace : Method
  reverse : Method
  setdefault : Method
  sort : Method
  split : Method
  startswith : Method
  strip : Method
  update : Method

abbrev pub method_name : Method → List ℕ
method_name append = codes "append"
method_name clear = codes "clear"
method_name copy = codes "copy"
method_name count = codes "count"
method_name endswith = codes "endswith"
method_name extend = codes "extend"
method_name find = codes "find"
method_name get = codes "get"
method_name index = codes "index"
method_name insert = codes "insert"
method_name isdigit = codes "isdigit"
method_name join = codes "join"
method_name pop = codes "pop"
method_name remove = codes "remove"
method_name replace = codes "replace"
method_name reverse = codes "reverse"
method_name setdefault = codes "setdefault"
method_name sort = codes "sort"
method_name split = codes "split"
method_name startswith = codes "startswith"
method_name strip = codes "strip"
method_name update = codes "update"

abbrev pub list_methods : List Method
list_methods = append ∷ pop ∷ insert ∷ clear ∷ extend ∷ remove ∷ index ∷ count ∷ reverse ∷ copy ∷ sort ∷ []

abbrev pub tuple_methods : List Method
tuple_methods = index ∷ count ∷ []

abbrev pub dict_methods : List Method
dict_methods = get ∷ setdefault ∷ pop ∷ clear ∷ update ∷ copy ∷ []

abbrev pub text_methods : List Method
text_methods = startswith ∷ endswith ∷ strip ∷ isdigit ∷ find ∷ count ∷ split ∷ replace ∷ join ∷ []

abbrev pub node_methods : Node → List Method
node_methods (list vs) = list_methods
node_methods (tuple vs) = tuple_methods
node_methods (dict es) = dict_methods
node_methods (object as') = []
node_methods (function profile code vs) = []
node_methods (exception kind vs) = []

abbrev pub methods_at : Option Node → List Method
methods_at (Some n) = node_methods n
methods_at None = []

-- of a value among these nodes
abbrev pub methods_in : List Node → Value → List Method
methods_in ns none = []
methods_in ns (bool b) = []
methods_in ns (integer z) = []
methods_in ns (text cs) = text_methods
methods_in ns (range a b c) = []
methods_in ns (builtin n) = []
methods_in ns (class n) = []
methods_in ns (node i) = methods_at (slice_get ns i)

abbrev pub method_named : List ℕ → List Method → Option Method
method_named name = first_where (λ m. bytes_eq name (method_name m))

abbrev pub has_method : List Node → Value → List ℕ → Bool
has_method ns v name = is_some (method_named name (methods_in ns v))

-- of a method that changes the node of this number and answers None
abbrev pub changing : ℕ → (Node → Node) → M Value
changing i f = change i f >> give none

abbrev pub number : ℕ → Value
number k = integer (pos k)

-- ---- lists and tuples

-- the place of the first item that is equal to x
abbrev pub place_of_equal : Value → List Value → M ℕ
place_of_equal x vs = place_among x vs >>= or_else (value_error (codes "value not found"))

abbrev pub place_number : Value → List Value → M Value
place_number x vs = place_of_equal x vs >>= λ place. give (number place)

abbrev pub count_number : Value → List Value → M Value
count_number x vs = count_among x vs >>= λ k. give (number k)

abbrev pub without_place : ℕ → Node → Node
without_place place = on_list (λ vs. without_item vs place)

abbrev pub last_item : List Value → M Value
last_item vs = or_else (index_error (codes "pop from empty list")) (last_of vs)

abbrev pub pop_last : ℕ → List Value → M Value
pop_last i vs = last_item vs >>= λ v. change i n.pop >> give v

abbrev pub take_out : ℕ → List Value → ℕ → M Value
take_out i vs place = spend (length vs) >> change i (without_place place) >> give (slice_index_or vs place none)

-- An empty list is told before the index is looked at.
abbrev pub pop_at : ℕ → List Value → ℤ → M Value
pop_at i vs z = last_item vs >> place_of (length vs) z >>= take_out i vs

abbrev pub insert_at : ℕ → List Value → Value → ℤ → M Value
insert_at i vs x z = spend (length vs) >> changing i (on_list (λ items. with_item items (bound_in (length vs) z) x))

abbrev pub sort_in_place : ℕ → List Value → M Value
sort_in_place i vs = spend (sort_steps (length vs)) >> or_else (bad_arguments (method_name sort)) (in_order vs) >>= λ found. changing i (replace_list found)

-- ---- dicts

-- what is under the key, or the other
abbrev pub look_up : List (Key × Value) → Value → M Value → M Value
look_up es k other = key_of_value k >>= λ key. or_else other (value_at is_one key es)

-- what is under the key, and v under a key that isn't there
abbrev pub set_default : ℕ → List (Key × Value) → Value → Value → M Value
set_default i es k v = key_of_value k >>= λ key. or_else (change i (n.insert key v) >> give v) (value_at is_one key es)

abbrev pub take_entry : ℕ → Key → M Value → Option Value → M Value
take_entry i key other (Some v) = change i (n.remove key) >> give v
take_entry i key other None = other

-- what is under the key, taken out, or the other
abbrev pub pop_key : ℕ → List (Key × Value) → Value → M Value → M Value
pop_key i es k other = key_of_value k >>= λ key. take_entry i key other (value_at is_one key es)

abbrev pub entries_of : Value → M (List (Key × Value))
entries_of v = look (λ ns. option_and_then dict_in (node_at ns v)) >>= or_else (bad_arguments (method_name update))

-- each of these entries, in order: a key that is there keeps its place
abbrev pub with_entries : List (Key × Value) → List (Key × Value) → List (Key × Value)
with_entries [] es = es
with_entries (g ∷ gs) es = with_entries gs (with_entry is_one g.0 g.1 es)

abbrev pub update_by : ℕ → List (Key × Value) → M Value
update_by i es = spend (length es) >> changing i (on_dict (with_entries es))

-- ---- texts

-- A search takes the product of the lengths, the part's taken as at least 1.
abbrev pub search : List ℕ → List ℕ → M (Unit {0})
search part cs = spend (length cs * max 1 (length part))

abbrev pub is_cutting : List ℕ → M (Unit {0})
is_cutting part = if is_nonempty part then give tt else value_error (codes "empty separator")

abbrev pub place_or_minus_one : Option ℕ → ℤ
place_or_minus_one (Some place) = pos place
place_or_minus_one None = negsuc 0

-- a text that is made
abbrev pub made : List ℕ → M Value
made cs = spend (length cs) >> give (text cs)

abbrev pub new_texts : List (List ℕ) → M Value
new_texts parts = make (list (map text parts))

-- texts that are made
abbrev pub made_all : List (List ℕ) → M Value
made_all parts = spend (sum_by length parts) >> new_texts parts

-- where all are texts
abbrev pub texts_in : List Value → Option (List (List ℕ))
texts_in [] = Some []
texts_in (text cs ∷ vs) = option_map (λ parts. cs ∷ parts) (texts_in vs)
texts_in (_ ∷ vs) = None

abbrev pub joined_by : List ℕ → List Value → M Value
joined_by cs vs = or_else (bad_arguments (method_name join)) (texts_in vs) >>= λ parts. made (joined cs parts)

-- ---- the rows: arguments are refused first, then steps are taken, then the items are looked at, and a node is changed last

-- of the list at a node, with its items
abbrev pub list_row : Method → ℕ → List Value → List Value → M Value
list_row append i vs (x ∷ []) = changing i (n.push x)
list_row pop i vs [] = pop_last i vs
list_row pop i vs (at ∷ []) = index_of at >>= pop_at i vs
list_row insert i vs (at ∷ x ∷ []) = index_of at >>= insert_at i vs x
list_row clear i vs [] = changing i (replace_list [])
list_row extend i vs (s ∷ []) = extended i s >> give none
list_row remove i vs (x ∷ []) = place_of_equal x vs >>= λ place. changing i (without_place place)
list_row index i vs (x ∷ []) = place_number x vs
list_row count i vs (x ∷ []) = count_number x vs
list_row reverse i vs [] = spend (length vs) >> changing i (on_list reversed)
list_row copy i vs [] = spend (length vs) >> make (list vs)
list_row sort i vs [] = sort_in_place i vs
list_row method i vs args = bad_arguments (method_name method)

-- of a tuple, with its items
abbrev pub tuple_row : Method → List Value → List Value → M Value
tuple_row index vs (x ∷ []) = place_number x vs
tuple_row count vs (x ∷ []) = count_number x vs
tuple_row method vs args = bad_arguments (method_name method)

-- of the dict at a node, with its entries
abbrev pub dict_row : Method → ℕ → List (Key × Value) → List Value → M Value
dict_row get i es (k ∷ []) = look_up es k (give none)
dict_row get i es (k ∷ d ∷ []) = look_up es k (give d)
dict_row setdefault i es (k ∷ []) = set_default i es k none
dict_row setdefault i es (k ∷ d ∷ []) = set_default i es k d
dict_row pop i es (k ∷ []) = pop_key i es k (no_key k)
dict_row pop i es (k ∷ d ∷ []) = pop_key i es k (give d)
dict_row clear i es [] = changing i (on_dict (λ entries. []))
dict_row update i es (d ∷ []) = entries_of d >>= update_by i
dict_row copy i es [] = spend (length es) >> make (dict es)
dict_row method i es args = bad_arguments (method_name method)

-- of a text
abbrev pub text_row : Method → List ℕ → List Value → M Value
text_row startswith cs (text t ∷ []) = spend (length cs) >> give (bool (begins t cs))
text_row endswith cs (text t ∷ []) = spend (length cs) >> give (bool (begins (reversed t) (reversed cs)))
text_row strip cs [] = spend (length cs) >> give (text (stripped cs))
text_row isdigit cs [] = spend (length cs) >> give (bool (is_nonempty cs && list_all is_digit cs))
text_row find cs (text t ∷ []) = search t cs >> give (integer (place_or_minus_one (first_place t cs)))
text_row count cs (text t ∷ []) = is_cutting t >> search t cs >> give (number (occurrences t cs))
text_row split cs [] = spend (length cs) >> new_texts (words cs)
text_row split cs (text t ∷ []) = is_cutting t >> search t cs >> made_all (pieces t cs)
text_row replace cs (text t ∷ text u ∷ []) = is_cutting t >> search t cs >> made (replaced cs t u)
text_row join cs (s ∷ []) = walked s >>= joined_by cs
text_row method cs args = bad_arguments (method_name method)

-- ---- a call

abbrev pub node_row : Method → ℕ → List Value → Option Node → M Value
node_row method i args (Some (list vs)) = list_row method i vs args
node_row method i args (Some (tuple vs)) = tuple_row method vs args
node_row method i args (Some (dict es)) = dict_row method i es args
node_row method i args _ = bad_arguments (method_name method)

abbrev pub value_row : Method → Value → List Value → M Value
value_row method (text cs) args = text_row method cs args
value_row method (node i) args = look (λ ns. slice_get ns i) >>= node_row method i args
value_row method v args = bad_arguments (method_name method)

-- the method of this name, on the value, with these arguments
abbrev pub call_method : Value → List ℕ → List Value → M Value
call_method v name args = look (λ ns. method_named name (methods_in ns v)) >>= or_else (no_attribute v name) >>= λ method. value_row method v args

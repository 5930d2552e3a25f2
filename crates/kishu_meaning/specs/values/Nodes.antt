-- The nodes of a heap, and how each is changed (Python Language Reference 3, "Objects, values and types" and "Mappings").
use Rattle.std.specs.Prelude.{ℕ, zero, suc, Bool, if◌then◌else◌, List, [], ◌∷◌, ◌++◌, slice_get, slice_set, Option, Some, None, option_and_then}
use Rattle.std.specs.Str.{bytes_eq}
use Rattle.kishu_meaning.specs.values.Keys.{Key, is_one}
use Rattle.kishu_meaning.specs.values.Values.{Value, Node, list, tuple, dict, object, function, exception}

-- ---- entries under keys, in the order of insertion

module _ {K : Type 0} (is_key : K → K → Bool) where
  abbrev pub value_at : K → List (K × Value) → Option Value
  value_at k [] = None
  value_at k (e ∷ es) = if is_key k e.0 then Some e.1 else value_at k es

  -- A key that is there keeps its place and its first spelling, and a new one goes last.
  abbrev pub with_entry : K → Value → List (K × Value) → List (K × Value)
  with_entry k v [] = (k, v) ∷ []
  with_entry k v (e ∷ es) = if is_key k e.0 then (e.0, v) ∷ es else e ∷ with_entry k v es

  -- The others keep their order.
  abbrev pub without_entry : K → List (K × Value) → List (K × Value)
  without_entry k [] = []
  without_entry k (e ∷ es) = if is_key k e.0 then es else e ∷ without_entry k es

-- ---- one node; what isn't of the kind stays

abbrev pub last_of : {A : Type 0} → List A → Option A
last_of [] = None
last_of (a ∷ []) = Some a
last_of (a ∷ (b ∷ as')) = last_of (b ∷ as')

abbrev pub without_last : {A : Type 0} → List A → List A
without_last [] = []
without_last (a ∷ []) = []
without_last (a ∷ (b ∷ as')) = a ∷ without_last (b ∷ as')

abbrev pub on_list : (List Value → List Value) → Node → Node
on_list f (list vs) = list (f vs)
on_list f (tuple vs) = tuple vs
on_list f (dict es) = dict es
on_list f (object as') = object as'
on_list f (function profile code vs) = function profile code vs
on_list f (exception kind vs) = exception kind vs

abbrev pub on_dict : (List (Key × Value) → List (Key × Value)) → Node → Node
on_dict f (list vs) = list vs
on_dict f (tuple vs) = tuple vs
on_dict f (dict es) = dict (f es)
on_dict f (object as') = object as'
on_dict f (function profile code vs) = function profile code vs
on_dict f (exception kind vs) = exception kind vs

abbrev pub on_object : (List (List ℕ × Value) → List (List ℕ × Value)) → Node → Node
on_object f (list vs) = list vs
on_object f (tuple vs) = tuple vs
on_object f (dict es) = dict es
on_object f (object as') = object (f as')
on_object f (function profile code vs) = function profile code vs
on_object f (exception kind vs) = exception kind vs

-- a value in the place of an item
abbrev pub set_item : ℕ → Value → Node → Node
set_item at v = on_list (λ vs. slice_set vs at v)

abbrev pub push : Value → Node → Node
push v = on_list (λ vs. vs ++ v ∷ [])

abbrev pub pop : Node → Node
pop = on_list without_last

abbrev pub replace_list : List Value → Node → Node
replace_list items = on_list (λ vs. items)

abbrev pub insert : Key → Value → Node → Node
insert k v = on_dict (with_entry is_one k v)

abbrev pub remove : Key → Node → Node
remove k = on_dict (without_entry is_one k)

abbrev pub set_attr : List ℕ → Value → Node → Node
set_attr x v = on_object (with_entry bytes_eq x v)

abbrev pub remove_attr : List ℕ → Node → Node
remove_attr x = on_object (without_entry bytes_eq x)

-- ---- what is in a node of a kind

abbrev pub list_in : Node → Option (List Value)
list_in (list vs) = Some vs
list_in (tuple vs) = None
list_in (dict es) = None
list_in (object as') = None
list_in (function profile code vs) = None
list_in (exception kind vs) = None

abbrev pub tuple_in : Node → Option (List Value)
tuple_in (list vs) = None
tuple_in (tuple vs) = Some vs
tuple_in (dict es) = None
tuple_in (object as') = None
tuple_in (function profile code vs) = None
tuple_in (exception kind vs) = None

abbrev pub dict_in : Node → Option (List (Key × Value))
dict_in (list vs) = None
dict_in (tuple vs) = None
dict_in (dict es) = Some es
dict_in (object as') = None
dict_in (function profile code vs) = None
dict_in (exception kind vs) = None

abbrev pub object_in : Node → Option (List (List ℕ × Value))
object_in (list vs) = None
object_in (tuple vs) = None
object_in (dict es) = None
object_in (object as') = Some as'
object_in (function profile code vs) = None
object_in (exception kind vs) = None

-- the last item of a list
abbrev pub last_item : Node → Option Value
last_item n = option_and_then last_of (list_in n)

-- the value that a dict has under a key
abbrev pub value_under : Key → Node → Option Value
value_under k n = option_and_then (value_at is_one k) (dict_in n)

abbrev pub attribute : List ℕ → Node → Option Value
attribute x n = option_and_then (value_at bytes_eq x) (object_in n)

-- ---- among the nodes

abbrev pub changed : (Node → Node) → ℕ → List Node → List Node
changed f i [] = []
changed f zero (n ∷ ns) = f n ∷ ns
changed f (suc i) (n ∷ ns) = n ∷ changed f i ns

-- what f finds in the node at this place
abbrev pub found : {A : Type 0} → (Node → Option A) → ℕ → List Node → Option A
found f i ns = option_and_then f (slice_get ns i)

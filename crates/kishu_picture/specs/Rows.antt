-- What is asked of a node that is written, and how its values are.
use Rattle.std.specs.Prelude.{◌≡◌, ℕ, ◌<◌, ◌≤◌, ◌^◌, ⊤, List, [], ◌∷◌, ◌++◌, length, map, Some}
use Rattle.std.specs.List.{AllByRecursion}
use Rattle.std.specs.Rc.{rc_str_bytes}
use Rattle.std.specs.declared.alloc.Global.{Global}
use Rattle.std.specs.declared.rc.RcStr.{RcStr}
use Rattle.kishu_bytes.specs.Numbers.{profile_number}
use Rattle.kishu_heap.specs.declared.function.FunctionNode.{FunctionNode}
use Rattle.kishu_heap.specs.declared.node.Node as rust_node
use Rattle.kishu_heap.specs.Cells.{node_of, entries_of, attributes_of}
use Rattle.kishu_meaning.specs.declared.key.Key as rust_key
use Rattle.kishu_meaning.specs.declared.value.Value as rust
use Rattle.kishu_meaning.specs.values.Keys.{Key}
use Rattle.kishu_meaning.specs.values.Values.{Value, value_of, node, Node, list, tuple, dict, object, function, exception, Names, find}
use Rattle.kishu_names.specs.Namespace.{Namespace}
use Rattle.kishu_names.specs.Record.{texts_of}
use Rattle.kishu_picture.specs.Held.{order_of}
use Rattle.kishu_objects.specs.Bytes.{long, many, value_bytes, entry_bytes, name_bytes}
use Rattle.kishu_objects.specs.Fits.{AllFit, KeyFits, ValueFits}
use Rattle.kishu_objects.specs.Lists.{AllDiffer, In}
use Rattle.kishu_objects.specs.Picture.{place, renumbered, named, bound}
use Rattle.kishu_objects.specs.Shape.{children, each_child, node_at}

-- A byte holds the length of each name.
abbrev pub HasShort : List (List ℕ × Value) → Type 0
HasShort as' = AllByRecursion (λ (a : List ℕ × Value). length a.0 ≤ 255) as'

abbrev pub HasShortNames : Node → Type 0
HasShortNames (list vs) = ⊤
HasShortNames (tuple vs) = ⊤
HasShortNames (dict es) = ⊤
HasShortNames (object as') = HasShort as'
HasShortNames (function profile code vs) = ⊤
HasShortNames (exception kind vs) = ⊤

-- The nodes among the values were found.
abbrev pub AreFound : List ℕ → List Value → Type 0
AreFound found vs = (i : ℕ) → In (node i) vs → In i found

-- values with the places of their nodes
abbrev pub placed : List ℕ → List Value → List Value
placed found vs = map (renumbered (place found)) vs

abbrev pub placed_entries : {K : Type 0} → List ℕ → List (K × Value) → List (K × Value)
placed_entries {K} found es = map {A = K × Value} {B = K × Value} (λ e. (e.0, renumbered (place found) e.1)) es

abbrev pub values_in : {K : Type 0} → List (K × Value) → List Value
values_in es = map (λ e. e.1) es

-- ---- the bytes of nodes of the code

abbrev pub value_at : List ℕ → rust.Value → Value
value_at found v = renumbered (place found) (value_of v)

abbrev pub values_at : List ℕ → List rust.Value → List Value
values_at found vs = placed found (map value_of vs)

abbrev pub entries_at : List ℕ → List (rust_key.Key × rust.Value) → List (Key × Value)
entries_at found es = placed_entries found (entries_of es)

abbrev pub attributes_at : List ℕ → List (RcStr Global × rust.Value) → List (List ℕ × Value)
attributes_at found as' = placed_entries found (attributes_of as')

abbrev pub list_bytes : List ℕ → List rust.Value → List ℕ
list_bytes found vs = many value_bytes (values_at found vs)

abbrev pub dict_bytes : List ℕ → List (rust_key.Key × rust.Value) → List ℕ
dict_bytes found es = many entry_bytes (entries_at found es)

abbrev pub object_bytes : List ℕ → List (RcStr Global × rust.Value) → List ℕ
object_bytes found as' = many name_bytes (attributes_at found as')

abbrev pub function_bytes : List ℕ → FunctionNode → List ℕ
function_bytes found f = profile_number f.profile ∷ (long (rc_str_bytes f.code) ++ list_bytes found f.defaults.items)

abbrev pub node_at_places : List ℕ → rust_node.Node → Node
node_at_places found n = each_child (renumbered (place found)) (node_of n)

-- ---- what can be written

-- Entries and names that can be written.
abbrev pub EntriesFit : List (Key × Value) → Type 0
EntriesFit = AllFit (λ (e : Key × Value). KeyFits e.0 × ValueFits e.1)

abbrev pub NamesFit : List (List ℕ × Value) → Type 0
NamesFit = AllFit (λ (a : List ℕ × Value). ValueFits a.1)

-- ---- the whole

-- the names that are bound with their values, where nodes have their places among those found
abbrev pub names_of : List ℕ → Names → List (List ℕ) → Names
names_of found ns group = map (named (place found)) (bound (record { names = ns; nodes = [] }) group)

abbrev pub names_bytes : List ℕ → Namespace → List (RcStr Global) → List ℕ
names_bytes found names group = many name_bytes (names_of found names.bound (texts_of group))

-- nodes by their numbers, with the places of those to which they lead
abbrev pub rows_at : List Node → (found : List ℕ) → List ℕ → List Node
rows_at nodes found is = map (λ i. each_child (renumbered (place found)) (node_at nodes i)) is

-- the nodes that were found
abbrev pub rows_of : List Node → List ℕ → List Node
rows_of nodes found = rows_at nodes found found

-- The nodes that the names stand for were found.
abbrev pub AreMet : Names → List (List ℕ) → List ℕ → Type 0
AreMet ns group found = (x : List ℕ) (i : ℕ) → In x group → find x ns ≡ Some (node i) → In i found

-- Those to which they lead were found too.
abbrev pub AreClosed : List Node → List ℕ → Type 0
AreClosed nodes found = (i : ℕ) → In i found → AreFound found (children (node_at nodes i))

-- What was found are the nodes that the names of a group reach, in the order of first meeting.
pub record IsMet (nodes : List Node) (names : Namespace) (group : List (RcStr Global)) (found : List ℕ) : Type 0 where
  pub order : found ≡ order_of nodes names group
  pub low : (i : ℕ) → In i found → i < length nodes
  pub differ : AllDiffer found
  pub closed : AreClosed nodes found
  pub met : AreMet names.bound (texts_of group) found
  pub few : length found < 2 ^ 32

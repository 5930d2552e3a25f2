-- What the calls over the nodes of a picture speak of.
use Rattle.std.specs.Prelude.{◌≡◌, ℕ, ◌==◌, not, nat_le, nat_lt, ◌&&◌, false, IsTrue, List, map, Option, None, option_map, Result}
use Rattle.std.specs.List.{list_all, list_any}
use Rattle.std.specs.Rc.{rc_str_bytes}
use Rattle.std.specs.Str.{bytes_eq}
use Rattle.std.specs.declared.alloc.Global.{Global}
use Rattle.std.specs.declared.rc.RcStr.{RcStr}
use Rattle.std.specs.declared.vec.Vec.{Vec}
use Rattle.kishu_language.specs.Limits.{longest_text}
use Rattle.kishu_language.specs.declared.profile.Profile.{Profile}
use Rattle.kishu_language.specs.tokens.Names.{is_name}
use Rattle.kishu_meaning.specs.declared.key.Key as rust_key
use Rattle.kishu_meaning.specs.declared.key.KeyPart as rust_part
use Rattle.kishu_meaning.specs.declared.value.Value as rust
use Rattle.kishu_meaning.specs.declared.value.NodeId.{NodeId}
use Rattle.kishu_meaning.specs.values.Keys.{Key, key_of, KeyPart, part_of, is_one}
use Rattle.kishu_meaning.specs.values.Sound.{builtins, classes, is_exception_class, is_sound, are_sound, is_sound_node, are_sound_nodes, are_sound_names}
use Rattle.kishu_meaning.specs.values.Values.{Value, value_of, node, Node, Names}
use Rattle.kishu_heap.specs.Cells.{node_of, entries_of, attributes_of}
use Rattle.kishu_heap.specs.declared.function.FunctionNode.{FunctionNode}
use Rattle.kishu_heap.specs.declared.node.Node as rust_node
use Rattle.kishu_heap.specs.declared.node.Node.TheVariants as rust_nodes
use Rattle.kishu_names.specs.Namespace.{names_of}
use Rattle.kishu_objects.specs.Lists.{In}
use Rattle.kishu_reading.specs.FromBytes.{Reader, byte, bytes, number, keeping, node_number, is_code, is_number, code_defaults}
use Rattle.kishu_loading.specs.declared.functions.Code.{Code}
use Rattle.kishu_loading.specs.declared.values.Nodes.{Nodes}
use Rattle.kishu_loading.specs.Fronts.{Reads}
use Rattle.kishu_loading.specs.declared.cursor.Cursor.{Cursor}
use Rattle.kishu_loading.specs.declared.cursor.Stop.{Stop}
use Rattle.kishu_loading.specs.Moving.{read_as, moved, is_there, top, moved_value, one_key, attribute, entries_by, attributes_by, name_behind, names_by}
use Rattle.kishu_loading.specs.Seen.{keys_seen, names_seen}

-- ---- readers

-- a value among these nodes, behind the byte of its kind
abbrev pub value_in : Nodes → Reader Value
value_in n = moved_value n.base n.count

-- the number of one of them, in four bytes, as that of a node of the heap
abbrev pub number_in : Nodes → Reader Value
number_in n = λ s. read_as (moved n.base) (node_number (is_there n.count) s)

-- the number of a builtin function, in one byte
abbrev pub builtin_number : Reader ℕ
builtin_number = keeping (λ n. nat_lt n builtins) byte

-- the number of a class, in one byte
abbrev pub class_number : Reader ℕ
class_number = keeping (λ n. nat_lt n classes) byte

-- the number of an exception's class, in one byte
abbrev pub exception_number : Reader ℕ
exception_number = keeping is_exception_class byte

-- how many bytes a name has, in one byte and not 0
abbrev pub short_length : Reader ℕ
short_length = keeping (λ n. not (n == 0)) byte

-- how many bytes code has, in four bytes
abbrev pub code_length : Reader ℕ
code_length = keeping (λ n. nat_le n longest_text) number

-- code of so many bytes under the rules of a profile
abbrev pub code_of : Profile → ℕ → Reader (List ℕ)
code_of profile n = keeping (is_code profile) (bytes n)

-- how many defaults the function of this code has, in four bytes
abbrev pub defaults_number : Code → Reader ℕ
defaults_number c = keeping (is_number (code_defaults c.profile (rc_str_bytes c.text))) number

-- a key that is none of those of these entries
abbrev pub new_key : List (rust_key.Key × rust.Value) → Reader Key
new_key es = keeping (λ x. not (list_any (is_one x) (keys_seen es))) one_key

-- a name that is none of those of these attributes
abbrev pub new_attribute : List (RcStr Global × rust.Value) → Reader (List ℕ)
new_attribute es = keeping (λ x. not (list_any (bytes_eq x) (names_seen es))) attribute

-- the name behind the last one, of which this is the text
abbrev pub name_after : {A : Type 0} → (A → List ℕ) → Option A → Reader (List ℕ)
name_after text last = name_behind (option_map text last)

-- so many names, whose values lead behind so many nodes
abbrev pub names_among : ℕ → ℕ → Reader Names
names_among base n = names_by (moved_value base None) n None

-- ---- facts

-- so many entries of a dict, of whose map these are the pairs
abbrev pub ReadsEntries : {X : Type 0} → (X → List (rust_key.Key × rust.Value)) → Nodes → ℕ
    → Cursor → Result X Stop → Cursor → Type 0
ReadsEntries pairs n count = Reads (λ m. entries_of (pairs m)) (entries_by (value_in n) count)

-- so many attributes of an object
abbrev pub ReadsAttributes : {X : Type 0} → (X → List (RcStr Global × rust.Value)) → Nodes → ℕ
    → Cursor → Result X Stop → Cursor → Type 0
ReadsAttributes pairs n count = Reads (λ m. attributes_of (pairs m)) (attributes_by (value_in n) count)

-- no number of one of these nodes is as high
abbrev pub top_of : Nodes → ℕ
top_of n = top n.base n.count

-- The value exists and leads to one of so many nodes.
abbrev pub LeadsAmong : ℕ → rust.Value → Type 0
LeadsAmong n v = IsTrue (is_sound n (value_of v))

-- The value exists and leads to a node that is there.
abbrev pub IsSoundValue : Nodes → rust.Value → Type 0
IsSoundValue n = LeadsAmong (top_of n)

-- the same of each value of a list, a tuple, defaults or arguments
abbrev pub AreSoundValues : Nodes → Vec rust.Value Global → Type 0
AreSoundValues n v = IsTrue (are_sound (top_of n) (map value_of v.items))

-- the same of each value of a dict's entries, which are pairs of a key and a value
abbrev pub AreSoundEntries : Nodes → List (rust_key.Key × rust.Value) → Type 0
AreSoundEntries n es = IsTrue (list_all (λ e. is_sound (top_of n) e.1) (entries_of es))

-- the same of an object's attributes, which are pairs of a name and a value, and the names are names
abbrev pub AreSoundAttributes : Nodes → List (RcStr Global × rust.Value) → Type 0
AreSoundAttributes n es = IsTrue (list_all (λ a. is_name a.0 && is_sound (top_of n) a.1) (attributes_of es))

-- what a node leads to is there
abbrev pub IsSoundNode : Nodes → rust_node.Node → Type 0
IsSoundNode n m = IsTrue (is_sound_node (top_of n) (node_of m))

-- the same of nodes, among so many
abbrev pub AreSoundNodes : ℕ → Vec rust_node.Node Global → Type 0
AreSoundNodes k v = IsTrue (are_sound_nodes k (map node_of v.items))

-- The key is none of those of these entries.
abbrev pub IsNewKey : List (rust_key.Key × rust.Value) → rust_key.Key → Type 0
IsNewKey es k = list_any (is_one (key_of k)) (keys_seen es) ≡ false

-- the name is none of those of these attributes
abbrev pub IsNewName : List (RcStr Global × rust.Value) → RcStr Global → Type 0
IsNewName es x = list_any (bytes_eq (rc_str_bytes x)) (names_seen es) ≡ false

-- ---- what the code's values stand for: lists for vectors, and for texts their bytes

abbrev pub values_in : Vec rust.Value Global → List Value
values_in v = map value_of v.items

abbrev pub nodes_in : Vec rust_node.Node Global → List Node
nodes_in v = map node_of v.items

abbrev pub id_value : NodeId → Value
id_value id = node id.0

abbrev pub code_text : Code → List ℕ
code_text c = rc_str_bytes c.text

abbrev pub function_in : FunctionNode → Node
function_in f = node_of (rust_nodes.Function f)

abbrev pub parts_in : Vec rust_part.KeyPart Global → List KeyPart
parts_in v = map part_of v.items

abbrev pub names_in : Vec (RcStr Global × rust.Value) Global → Names
names_in v = names_of v.items

-- Each name is a name, and its value leads to one of so many nodes.
abbrev pub AreSoundNames : ℕ → Vec (RcStr Global × rust.Value) Global → Type 0
AreSoundNames n v = IsTrue (are_sound_names n (names_of v.items))

-- What leads among so many nodes goes on to do so.
abbrev pub KeepLeading : ℕ → Names → Names → Type 0
KeepLeading n old new = IsTrue (are_sound_names n old) → IsTrue (are_sound_names n new)

-- It is none of the names.
abbrev pub IsNoneOf : List ℕ → Vec (RcStr Global × rust.Value) Global → Type 0
IsNoneOf x v = In x (map (λ b. b.0) (names_of v.items)) → ⊥

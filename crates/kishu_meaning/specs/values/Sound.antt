-- What holds of every state: its builtin functions and classes exist, no range has step 0, names are names, and each node number is that of a node.
use Rattle.std.specs.Prelude.{ℕ, ◌+◌, nat_le, nat_lt, pos, Bool, true, not, ◌&&◌, if◌then◌else◌, List, [], ◌∷◌, length, is_some}
use Rattle.std.specs.List.{list_all}
use Rattle.std.specs.Ordering.{int_eq}
use Rattle.kishu_language.specs.tokens.Names.{is_name}
use Rattle.kishu_language.specs.trees.Tree.{Parameter, Definition}
use Rattle.kishu_meaning.specs.values.BuiltinNames.{all_builtins, all_classes}
use Rattle.kishu_meaning.specs.values.Classes.{any_exception}
use Rattle.kishu_meaning.specs.values.Values.{Value, none, bool, integer, text, range, builtin, class, node, Node, list, tuple, dict, object, function, exception, Names}

abbrev pub builtins : ℕ
builtins = length all_builtins

abbrev pub classes : ℕ
classes = length all_classes

-- the first class of exceptions
abbrev pub first_exception : ℕ
first_exception = any_exception

abbrev pub is_valid : Value → Bool
is_valid none = true
is_valid (bool b) = true
is_valid (integer z) = true
is_valid (text cs) = true
is_valid (range a b c) = not (int_eq c (pos 0))
is_valid (builtin n) = nat_lt n builtins
is_valid (class n) = nat_lt n classes
is_valid (node i) = true

-- A node number is below n.
abbrev pub is_below : ℕ → Value → Bool
is_below n none = true
is_below n (bool b) = true
is_below n (integer z) = true
is_below n (text cs) = true
is_below n (range a b c) = true
is_below n (builtin k) = true
is_below n (class k) = true
is_below n (node i) = nat_lt i n

-- among n nodes
abbrev pub is_sound : ℕ → Value → Bool
is_sound n v = is_valid v && is_below n v

abbrev pub are_sound : ℕ → List Value → Bool
are_sound n = list_all (is_sound n)

abbrev pub is_exception_class : ℕ → Bool
is_exception_class kind = nat_le first_exception kind && nat_lt kind classes

abbrev pub is_sound_node : ℕ → Node → Bool
is_sound_node n (list vs) = are_sound n vs
is_sound_node n (tuple vs) = are_sound n vs
is_sound_node n (dict es) = list_all (λ e. is_sound n e.1) es
is_sound_node n (object as') = list_all (λ a. is_name a.0 && is_sound n a.1) as'
is_sound_node n (function profile code vs) = are_sound n vs
is_sound_node n (exception kind vs) = is_exception_class kind && are_sound n vs

abbrev pub are_sound_nodes : ℕ → List Node → Bool
are_sound_nodes n = list_all (is_sound_node n)

-- Each node leads to nodes that are there.
abbrev pub is_sound_heap : List Node → Bool
is_sound_heap ns = are_sound_nodes (length ns) ns

abbrev pub are_sound_names : ℕ → Names → Bool
are_sound_names n = list_all (λ b. is_name b.0 && is_sound n b.1)

-- how many parameters of a function have a default
abbrev pub with_default : List Parameter → ℕ
with_default [] = 0
with_default (p ∷ ps) = (if is_some p.1 then 1 else 0) + with_default ps

abbrev pub default_count : Definition → ℕ
default_count d = with_default d.parameters

-- The kinds of values by their names, and the exceptions that tell them (Python Language Reference 3, "The standard type hierarchy"; Library Reference, "Built-in Exceptions").
use Rattle.std.specs.Prelude.{ℕ, List, [], ◌++◌, codes, Option, Some, None, slice_get}
use Rattle.std.specs.Str.{chars}
use Rattle.kishu_meaning.specs.values.Classes.{attribute_error_class, index_error_class, key_error_class, type_error_class, value_error_class}
use Rattle.kishu_meaning.specs.values.Values.{Value, none, bool, integer, text, range, builtin, class, node, Node, list, tuple, dict, object, function, exception}
use Rattle.kishu_meaning.specs.comparing.Show.{class_name}
use Rattle.kishu_meaning.specs.moments.Moment.{M, ◌>>=◌, raise, raise_with, look}

-- An exception's kind is its class.
abbrev pub node_kind : Node → List ℕ
node_kind (list vs) = codes "list"
node_kind (tuple vs) = codes "tuple"
node_kind (dict es) = codes "dict"
node_kind (object as') = codes "SimpleNamespace"
node_kind (function profile code vs) = codes "function"
node_kind (exception kind vs) = class_name kind

abbrev pub kind_at : Option Node → List ℕ
kind_at (Some n) = node_kind n
kind_at None = []

-- of a value among these nodes
abbrev pub kind_in : List Node → Value → List ℕ
kind_in ns none = codes "NoneType"
kind_in ns (bool b) = codes "bool"
kind_in ns (integer z) = codes "int"
kind_in ns (text cs) = codes "str"
kind_in ns (range a b c) = codes "range"
kind_in ns (builtin n) = codes "builtin"
kind_in ns (class n) = codes "class"
kind_in ns (node i) = kind_at (slice_get ns i)

abbrev pub in_quotes : List ℕ → List ℕ
in_quotes kind = codes "'" ++ kind ++ codes "'"

abbrev pub quoted_kind : List Node → Value → List ℕ
quoted_kind ns v = in_quotes (kind_in ns v)

abbrev pub kind_of : Value → M (List ℕ)
kind_of v = look (λ ns. kind_in ns v)

abbrev pub type_error : {A : Type 0} → List ℕ → M A
type_error message = raise type_error_class message

abbrev pub value_error : {A : Type 0} → List ℕ → M A
value_error message = raise value_error_class message

abbrev pub index_error : {A : Type 0} → List ℕ → M A
index_error message = raise index_error_class message

-- a KeyError, whose argument is the key itself
abbrev pub no_key : {A : Type 0} → Value → M A
no_key v = raise_with key_error_class v

abbrev pub not_iterable : {A : Type 0} → Value → M A
not_iterable v = kind_of v >>= λ k. type_error (in_quotes k ++ codes " object is not iterable")

abbrev pub bad_index : {A : Type 0} → Value → M A
bad_index v = kind_of v >>= λ k. type_error (codes "bad index type: " ++ in_quotes k)

abbrev pub unhashable : {A : Type 0} → Value → M A
unhashable v = kind_of v >>= λ k. type_error (codes "unhashable key: " ++ in_quotes k)

abbrev pub no_attribute : {A : Type 0} → Value → List ℕ → M A
no_attribute v name = kind_of v >>= λ k. raise attribute_error_class (in_quotes k ++ codes " object has no attribute '" ++ chars name ++ codes "'")

-- by the name of what was called
abbrev pub bad_arguments : {A : Type 0} → List ℕ → M A
bad_arguments name = type_error (name ++ codes "() got bad arguments")

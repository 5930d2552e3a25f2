-- The nodes of the code.
use Rattle.std.specs.Prelude.{List, map, ℕ}
use Rattle.std.specs.Rc.{rc_str_bytes}
use Rattle.std.specs.declared.alloc.Global.{Global}
use Rattle.std.specs.declared.rc.RcStr.{RcStr}
use Rattle.kishu_meaning.specs.declared.key.Key as rust_key
use Rattle.kishu_meaning.specs.declared.value.Value as rust_value
use Rattle.kishu_meaning.specs.values.Keys.{Key, key_of}
use Rattle.kishu_meaning.specs.values.Values.{Value, value_of, Node, list, tuple, dict, object, function, exception}
use Rattle.kishu_heap.specs.declared.node.Node as rust
use Rattle.kishu_heap.specs.declared.node.Node.TheVariants as nodes

abbrev pub entries_of : List (rust_key.Key × rust_value.Value) → List (Key × Value)
entries_of = map (λ e. (key_of e.0, value_of e.1))

abbrev pub attributes_of : List (RcStr Global × rust_value.Value) → List (List ℕ × Value)
attributes_of = map (λ e. (rc_str_bytes e.0, value_of e.1))

abbrev pub node_of : rust.Node → Node
node_of (nodes.List vs) = list (map value_of vs.items)
node_of (nodes.Tuple vs) = tuple (map value_of vs.items)
node_of (nodes.Dict m) = dict (entries_of m.entries)
node_of (nodes.Object m) = object (attributes_of m.entries)
node_of (nodes.Function f) = function f.profile (rc_str_bytes f.code) (map value_of f.defaults.items)
node_of (nodes.Exception c vs) = exception c.0 (map value_of vs.items)

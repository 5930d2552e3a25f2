-- What is bound, as texts, where nodes have their places in a list for numbers.
use Rattle.std.specs.Prelude.{◌≡◌, ℕ, List, [], ◌++◌, map, flat_map}
use Rattle.std.specs.declared.alloc.Global.{Global}
use Rattle.std.specs.declared.rc.RcStr.{RcStr}
use Rattle.kishu_heap.specs.Cells.{node_of, entries_of, attributes_of}
use Rattle.kishu_heap.specs.declared.node.Node as rust_node
use Rattle.kishu_meaning.specs.declared.key.Key as rust_key
use Rattle.kishu_meaning.specs.declared.value.NodeId.{NodeId}
use Rattle.kishu_meaning.specs.declared.value.Value as rust
use Rattle.kishu_meaning.specs.values.Keys.{Key}
use Rattle.kishu_meaning.specs.values.Values.{Value, value_of, Node}
use Rattle.kishu_names.specs.Namespace.{Namespace}
use Rattle.kishu_names.specs.Record.{texts_of}
use Rattle.kishu_objects.specs.Picture.{place, renumbered, named, bound}
use Rattle.kishu_objects.specs.Shape.{each_child, node_at}
use Rattle.kishu_picture.specs.Held.{held}
use Rattle.kishu_model.specs.requests.Inspect.{value_text, named_text, entry_texts, attribute_texts, node_texts}

-- The new texts are the old ones with these behind them.
abbrev pub Gains : (old new : List (RcStr Global)) → List (List ℕ) → Type 0
Gains old new more = texts_of new ≡ texts_of old ++ more

-- a value with the place of its node
abbrev pub placed : List ℕ → rust.Value → Value
placed found v = renumbered (place found) (value_of v)

-- the texts of values, of entries, of attributes and of a node
abbrev pub values_told : List ℕ → List rust.Value → List (List ℕ)
values_told found vs = map value_text (map (renumbered (place found)) (map value_of vs))

abbrev pub entries_told : List ℕ → List (rust_key.Key × rust.Value) → List (List ℕ)
entries_told found es = flat_map entry_texts
    (map (λ (e : Key × Value). (e.0, renumbered (place found) e.1)) (entries_of es))

abbrev pub attributes_told : List ℕ → List (RcStr Global × rust.Value) → List (List ℕ)
attributes_told found as' = flat_map attribute_texts
    (map (λ (a : List ℕ × Value). (a.0, renumbered (place found) a.1)) (attributes_of as'))

abbrev pub node_told : List ℕ → rust_node.Node → List (List ℕ)
node_told found n = node_texts (each_child (renumbered (place found)) (node_of n))

-- the numbers of nodes
abbrev pub numbers_of : List NodeId → List ℕ
numbers_of ids = map (λ id. id.0) ids

-- the names that are bound, with the texts of their values
abbrev pub names_told : List ℕ → Namespace → List (List ℕ) → List (List ℕ × List ℕ)
names_told found names group = map named_text (map (named (place found)) (bound (held [] names) group))

-- the texts of the nodes of these numbers
abbrev pub rows_told : List ℕ → List Node → List ℕ → List (List (List ℕ))
rows_told found nodes is = map (λ i. node_texts (each_child (renumbered (place found)) (node_at nodes i))) is

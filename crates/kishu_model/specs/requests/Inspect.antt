-- What is bound at the head's commit: the names with their values, and the nodes that they reach, in the order of first meeting. Nothing changes.
use Rattle.std.specs.Prelude.{ℕ, List, [], ◌∷◌, ◌++◌, map, flat_map, codes, decimal}
use Rattle.std.specs.Str.{encode_utf8_all}
use Rattle.kishu_bytes.specs.Numbers.{profile_number}
use Rattle.kishu_meaning.specs.comparing.Show.{class_name, key_text, repr_text}
use Rattle.kishu_meaning.specs.values.Keys.{Key}
use Rattle.kishu_meaning.specs.values.Values.{Value, node, Node, list, tuple, dict, object, function, exception, State}
use Rattle.kishu_objects.specs.Picture.{whole}
use Rattle.kishu_store.specs.Graph.{Graph}
use Rattle.kishu_replay.specs.Replay.{replay}
use Rattle.kishu_model.specs.Answers.{Answer, inspected}
use Rattle.kishu_model.specs.Request.{Stepped}

-- a value: a node by the number of its row, from 0, and any other by its repr (Library Reference, "Built-in Functions": repr)
abbrev pub value_text : Value → List ℕ
value_text (node i) = codes "#" ++ decimal i
value_text v = encode_utf8_all (repr_text v)

-- a name or an attribute with its value, and an entry of a dict
abbrev pub named_text : List ℕ × Value → List ℕ × List ℕ
named_text b = (b.0, value_text b.1)

abbrev pub attribute_texts : List ℕ × Value → List (List ℕ)
attribute_texts a = a.0 ∷ value_text a.1 ∷ []

abbrev pub entry_texts : Key × Value → List (List ℕ)
entry_texts e = encode_utf8_all (key_text e.0) ∷ value_text e.1 ∷ []

-- a node: the word for its kind, and then what it holds
abbrev pub node_texts : Node → List (List ℕ)
node_texts (list vs) = codes "list" ∷ map value_text vs
node_texts (tuple vs) = codes "tuple" ∷ map value_text vs
node_texts (dict es) = codes "dict" ∷ flat_map entry_texts es
node_texts (object as') = codes "object" ∷ flat_map attribute_texts as'
node_texts (function profile code vs) = codes "function" ∷ decimal (profile_number profile) ∷ code ∷ map value_text vs
node_texts (exception kind vs) = codes "exception" ∷ class_name kind ∷ map value_text vs

-- a state whose nodes have the numbers of their rows, at a commit
abbrev pub told_at : (commit : ℕ) → State → Answer
told_at commit p = inspected commit (map named_text p.names) (map node_texts p.nodes)

-- The picture of all names has these numbers.
abbrev pub step_inspect : Graph → Stepped
step_inspect g = record { graph = g; answer = told_at g.head.commit (whole (replay g g.head.commit)) }

-- What looks at no name records no access.
use Rattle.std.specs.Prelude.{List, [], ◌∷◌, ℕ}
use Rattle.kishu_language.specs.declared.tree.Comparison.{Comparison}
use Rattle.kishu_language.specs.declared.tree.Operator.{Operator}
use Rattle.kishu_language.specs.declared.tree.Sign.{Sign}
use Rattle.kishu_language.specs.trees.Tree.{Trailers, Arguments}
use Rattle.kishu_meaning.specs.calls.Callees.{Part, settled, callee, Given, call_builtin, construct, not_callable}
use Rattle.kishu_meaning.specs.calls.Methods.{call_method}
use Rattle.kishu_meaning.specs.calls.Operators.{new_list, new_tuple, operate, signed_value, truth}
use Rattle.kishu_meaning.specs.cells.Meaning.{no_place, nodes, new_dict, new_function, updated, shown_text}
use Rattle.kishu_meaning.specs.cells.Ways.{throw_value, throw_again, is_caught}
use Rattle.kishu_meaning.specs.comparing.Comparing.{compare}
use Rattle.kishu_meaning.specs.items.Subscripts.{item, slice, attribute, store_item, store_attribute, delete_item, delete_attribute}
use Rattle.kishu_meaning.specs.items.Walks.{unpacked, walk_of, View, walk_view}
use Rattle.kishu_meaning.specs.moments.Moment.{node_now, Thrown, exhausted, tick}
use Rattle.kishu_meaning.specs.values.Values.{Value}
use Rattle.kishu_pairing_laws.specs.World.{Grows, Zip, nil, cons, Any}
use Rattle.kishu_pairing_laws.specs.moments.Heap.{node_now_quiet}
use Rattle.kishu_pairing_laws.specs.calls.Operators.{new_list_quiet, new_tuple_quiet, operate_quiet, signed_value_quiet, truth_quiet}
use Rattle.kishu_pairing_laws.specs.comparing.Comparing.{compare_quiet}
use Rattle.kishu_pairing_laws.specs.items.Subscripts.{item_quiet, slice_quiet, attribute_quiet, store_item_quiet, store_attribute_quiet, delete_item_quiet, delete_attribute_quiet}
use Rattle.kishu_pairing_laws.specs.Itself.{quiet_grows, itself, one_value, one_list, one_pair, one_thrown}
use Rattle.kishu_pairing_laws.specs.items.Walks.{unpacked_quiet, walk_of_quiet, walk_view_quiet}
use Rattle.kishu_pairing_laws.specs.calls.Methods.{call_method_quiet}
use Rattle.kishu_pairing_laws.specs.calls.Callees.{settled_quiet, one_part, callee_quiet, call_builtin_quiet, one_given, construct_quiet, not_callable_quiet}
use Rattle.kishu_pairing_laws.specs.cells.Raising.{throw_value_quiet, throw_again_quiet, is_caught_quiet}
use Rattle.kishu_pairing_laws.specs.cells.Parts.{nodes_quiet, SamePair, new_dict_quiet, new_function_quiet, updated_quiet, shown_text_quiet}
use Rattle.kishu_pairing_laws.specs.moments.Steps.{tick_quiet}

pub tick_grows : Grows tick
tick_grows = quiet_grows (tick_quiet itself)

pub truth_grows : (v : Value) → Grows (truth v)
truth_grows v = quiet_grows (truth_quiet itself (one_value v))

pub exhausted_grows : {A : Type 0} → Grows {A = A} exhausted
exhausted_grows = record { grows = λ s x h. h }

pub no_place_grows : {A : Type 0} → Grows {A = A} no_place
no_place_grows = record { grows = λ s x h. h }

pub nodes_grows : (ts : Trailers) → Grows (nodes ts)
nodes_grows ts = quiet_grows (nodes_quiet itself ts)

one_pairs : (ps : List (Value × Value)) → Zip (SamePair itself) ps ps
one_pairs [] = nil
one_pairs (p ∷ ps) = cons (one_value p.0, one_value p.1) (one_pairs ps)

pub new_dict_grows : (ps : List (Value × Value)) → Grows (new_dict ps)
new_dict_grows ps = quiet_grows (new_dict_quiet itself (one_pairs ps))

pub new_list_grows : (vs : List Value) → Grows (new_list vs)
new_list_grows vs = quiet_grows (new_list_quiet itself (one_list vs))

pub new_tuple_grows : (vs : List Value) → Grows (new_tuple vs)
new_tuple_grows vs = quiet_grows (new_tuple_quiet itself (one_list vs))

pub new_function_grows : (code : List ℕ) (vs : List Value) → Grows (new_function code vs)
new_function_grows code vs = quiet_grows (new_function_quiet itself code (one_list vs))

pub updated_grows : (operator : Operator) (v w : Value) → Grows (updated operator v w)
updated_grows operator v w = quiet_grows (updated_quiet itself operator (one_value v) (one_value w))

pub operate_grows : (operator : Operator) (v w : Value) → Grows (operate operator v w)
operate_grows operator v w = quiet_grows (operate_quiet itself operator (one_value v) (one_value w))

pub signed_grows : (sign : Sign) (v : Value) → Grows (signed_value sign v)
signed_grows sign v = quiet_grows (signed_value_quiet itself sign (one_value v))

pub compare_grows : (comparison : Comparison) (v w : Value) → Grows (compare comparison v w)
compare_grows comparison v w = quiet_grows (compare_quiet itself comparison (one_value v) (one_value w))

pub item_grows : (v i : Value) → Grows (item v i)
item_grows v i = quiet_grows (item_quiet itself (one_value v) (one_value i))

pub slice_grows : (v a b c : Value) → Grows (slice v a b c)
slice_grows v a b c = quiet_grows (slice_quiet itself (one_value v) (one_value a) (one_value b) (one_value c))

pub attribute_grows : (v : Value) (x : List ℕ) → Grows (attribute v x)
attribute_grows v x = quiet_grows (attribute_quiet itself x (one_value v))

pub store_item_grows : (v i w : Value) → Grows (store_item v i w)
store_item_grows v i w = quiet_grows (store_item_quiet itself (one_value v) (one_value i) (one_value w))

pub store_attribute_grows : (v : Value) (x : List ℕ) (w : Value) → Grows (store_attribute v x w)
store_attribute_grows v x w = quiet_grows (store_attribute_quiet itself x (one_value v) (one_value w))

pub delete_item_grows : (v i : Value) → Grows (delete_item v i)
delete_item_grows v i = quiet_grows (delete_item_quiet itself (one_value v) (one_value i))

pub delete_attribute_grows : (v : Value) (x : List ℕ) → Grows (delete_attribute v x)
delete_attribute_grows v x = quiet_grows (delete_attribute_quiet itself x (one_value v))

pub unpacked_grows : (n : ℕ) (v : Value) → Grows (unpacked n v)
unpacked_grows n v = quiet_grows (unpacked_quiet itself n (one_value v))

pub walk_of_grows : (v : Value) → Grows (walk_of v)
walk_of_grows v = quiet_grows (walk_of_quiet itself (one_value v))

pub walk_view_grows : (i : ℕ) (view : View) → Grows (walk_view i view)
walk_view_grows i view = quiet_grows (walk_view_quiet itself view (one_pair i))

pub settled_grows : (p : Part) → Grows (settled p)
settled_grows p = quiet_grows (settled_quiet itself (one_part p))

pub callee_grows : (p : Part) (es : Arguments) → Grows (callee p es)
callee_grows p es = quiet_grows (callee_quiet itself es (one_part p))

pub builtin_grows : (n : ℕ) (given : Given) → Grows (call_builtin n given)
builtin_grows n given = quiet_grows (call_builtin_quiet itself n (one_given given))

pub construct_grows : (n : ℕ) (given : Given) → Grows (construct n given)
construct_grows n given = quiet_grows (construct_quiet itself n (one_given given))

pub not_callable_grows : {A : Type 0} (v : Value) → Grows {A = A} (not_callable v)
not_callable_grows {A = A} v = quiet_grows (not_callable_quiet itself {A = A} {B = A} {R = Any} (one_value v))

pub method_grows : (v : Value) (x : List ℕ) (vs : List Value) → Grows (call_method v x vs)
method_grows v x vs = quiet_grows (call_method_quiet itself x (one_value v) (one_list vs))

pub node_now_grows : (v : Value) → Grows (node_now v)
node_now_grows v = quiet_grows (node_now_quiet itself (one_value v))

pub throw_value_grows : {A : Type 0} (v : Value) → Grows {A = A} (throw_value v)
throw_value_grows {A = A} v = quiet_grows (throw_value_quiet itself {A = A} {B = A} {R = Any} (one_value v))

pub throw_again_grows : {A : Type 0} → Grows {A = A} throw_again
throw_again_grows {A = A} = quiet_grows (throw_again_quiet itself {A = A} {B = A} {R = Any})

pub is_caught_grows : (x : Thrown) (v : Value) → Grows (is_caught x v)
is_caught_grows x v = quiet_grows (is_caught_quiet itself (one_thrown x) (one_value v))

pub shown_grows : (v : Value) → Grows (shown_text v)
shown_grows v = quiet_grows (shown_text_quiet itself (one_value v))

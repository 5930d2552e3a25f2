-- When two states are one, as a test. Their names and nodes have to be one place by place: the test knows nothing of sameness.
use Rattle.std.specs.Prelude.{ℕ, ◌==◌, Bool, true, false, ◌&&◌, List}
use Rattle.std.specs.Ordering.{int_eq}
use Rattle.std.specs.Str.{bytes_eq}
use Rattle.std.specs.Cmp.Lexicographic.{pointwise}
use Rattle.std.specs.Bool.{beq}
use Rattle.kishu_language.specs.declared.profile.Profile.{Profile}
use Rattle.kishu_language.specs.declared.profile.Profile.TheVariants.{One, Two}
use Rattle.kishu_meaning.specs.values.Keys.{KeyPart, Key, single}
use Rattle.kishu_meaning.specs.values.Keys as k
use Rattle.kishu_meaning.specs.values.Values.{Value, none, bool, integer, text, range, builtin, class, node, Node, list, tuple, dict, object, function, exception, State}

abbrev pub is_value : Value → Value → Bool
is_value none none = true
is_value (bool a) (bool b) = beq a b
is_value (integer a) (integer b) = int_eq a b
is_value (text a) (text b) = bytes_eq a b
is_value (range a b c) (range d e f) = int_eq a d && (int_eq b e && int_eq c f)
is_value (builtin a) (builtin b) = a == b
is_value (class a) (class b) = a == b
is_value (node a) (node b) = a == b
is_value v w = false

abbrev pub is_profile : Profile → Profile → Bool
is_profile One One = true
is_profile Two Two = true
is_profile p q = false

abbrev pub is_part : KeyPart → KeyPart → Bool
is_part k.none k.none = true
is_part (k.bool a) (k.bool b) = beq a b
is_part (k.integer a) (k.integer b) = int_eq a b
is_part (k.text a) (k.text b) = bytes_eq a b
is_part p q = false

abbrev pub is_key : Key → Key → Bool
is_key (single p) (single q) = is_part p q
is_key (k.tuple ps) (k.tuple qs) = pointwise is_part ps qs
is_key p q = false

abbrev pub is_node : Node → Node → Bool
is_node (list vs) (list ws) = pointwise is_value vs ws
is_node (tuple vs) (tuple ws) = pointwise is_value vs ws
is_node (dict es) (dict fs) = pointwise (λ (e f : Key × Value). is_key e.0 f.0 && is_value e.1 f.1) es fs
is_node (object es) (object fs) = pointwise (λ (e f : List ℕ × Value). bytes_eq e.0 f.0 && is_value e.1 f.1) es fs
is_node (function p a vs) (function q b ws) = is_profile p q && (bytes_eq a b && pointwise is_value vs ws)
is_node (exception a vs) (exception b ws) = (a == b) && pointwise is_value vs ws
is_node n m = false

abbrev pub is_state : State → State → Bool
is_state s t = pointwise (λ (a b : List ℕ × Value). bytes_eq a.0 b.0 && is_value a.1 b.1) s.names t.names && pointwise is_node s.nodes t.nodes

-- What operators do, and the truth and the kinds of values (Python Language Reference 3, "Binary arithmetic operations", "Unary arithmetic operations" and "Boolean operations").
use Rattle.std.specs.Prelude.{ℕ, ◌+◌, ◌*◌, ◌==◌, ℤ, pos, negsuc, ◌+ℤ◌, ◌-ℤ◌, ◌*ℤ◌, neg_ℤ, Bool, true, false, not, if◌then◌else◌, List, ◌++◌, length, replicate, codes, Option, Some, None, option_and_then}
use Rattle.std.specs.Ordering.{int_eq}
use Rattle.std.specs.List.{flat_map}
use Rattle.kishu_language.specs.declared.tree.Operator.{Operator}
use Rattle.kishu_language.specs.declared.tree.Operator.TheVariants as operators
use Rattle.kishu_language.specs.declared.tree.Sign.{Sign}
use Rattle.kishu_language.specs.declared.tree.Sign.TheVariants as signs
use Rattle.kishu_meaning.specs.values.Classes.{overflow_error_class, zero_division_error_class}
use Rattle.kishu_meaning.specs.values.Numbers.{is_whole, floor_quotient, floor_remainder, power}
use Rattle.kishu_meaning.specs.values.Values.{Value, none, bool, integer, text, range, builtin, class, node, Node, list, tuple, dict, object, function, exception}
pub use Rattle.kishu_meaning.specs.values.Keys.{number_of_bool}
pub use Rattle.kishu_meaning.specs.comparing.Equal.{number_in, is_same, pair_steps, by_numbers, is_equal}
use Rattle.kishu_meaning.specs.comparing.Equal.{range_length, by_both}
use Rattle.kishu_meaning.specs.values.Nodes.{list_in, tuple_in}
pub use Rattle.kishu_meaning.specs.values.Kinds.{node_kind, kind_at, kind_in, in_quotes, quoted_kind, kind_of, type_error, value_error, bad_arguments}
use Rattle.kishu_meaning.specs.moments.Moment.{M, ◌>>=◌, ◌>>◌, give, raise, spend, make, node_now}

abbrev pub bad_operands : {A : Type 0} → List ℕ → Value → Value → M A
bad_operands sign a b = kind_of a >>= λ k. kind_of b >>= λ l. type_error (codes "bad operand types for " ++ sign ++ codes ": " ++ in_quotes k ++ codes " and " ++ in_quotes l)

abbrev pub bad_operand : {A : Type 0} → List ℕ → Value → M A
bad_operand sign v = kind_of v >>= λ k. type_error (codes "bad operand type for " ++ sign ++ codes ": " ++ in_quotes k)

-- ---- what a value holds

-- the items of a list, and those of a tuple
abbrev pub list_from : Option Node → Option (List Value)
list_from = option_and_then list_in

abbrev pub tuple_from : Option Node → Option (List Value)
tuple_from = option_and_then tuple_in

-- ---- truth

-- A list, a tuple and a dict are true where they are not empty, and other nodes always.
abbrev pub is_full : Node → Bool
is_full (list vs) = not (length vs == 0)
is_full (tuple vs) = not (length vs == 0)
is_full (dict es) = not (length es == 0)
is_full (object as') = true
is_full (function profile code vs) = true
is_full (exception kind vs) = true

abbrev pub is_full_at : Option Node → Bool
is_full_at (Some n) = is_full n
is_full_at None = true

abbrev pub truth : Value → M Bool
truth none = give false
truth (bool b) = give b
truth (integer z) = give (not (int_eq z (pos 0)))
truth (text cs) = give (not (length cs == 0))
truth (range a b c) = give (not (range_length a b c == 0))
truth (builtin n) = give true
truth (class n) = give true
truth (node i) = node_now (node i) >>= λ found. give (is_full_at found)

-- ---- whole numbers

abbrev pub whole : ℤ → M Value
whole z = if is_whole z then give (integer z) else raise overflow_error_class (codes "whole number too large")

abbrev pub divided : ℤ → ℤ → M Value
divided b z = if int_eq b (pos 0) then raise zero_division_error_class (codes "division by zero") else whole z

abbrev pub raised_to : ℤ → ℤ → M Value
raised_to a (pos n) = whole (power a n)
raised_to a (negsuc n) = value_error (codes "negative power")

abbrev pub arithmetic : Operator → ℤ → ℤ → M Value
arithmetic operators.Add a b = whole (a +ℤ b)
arithmetic operators.Subtract a b = whole (a -ℤ b)
arithmetic operators.Multiply a b = whole (a *ℤ b)
arithmetic operators.FloorDivide a b = divided b (floor_quotient a b)
arithmetic operators.Modulo a b = divided b (floor_remainder a b)
arithmetic operators.Power a b = raised_to a b

-- ---- texts, lists and tuples: what is made takes its length in steps

abbrev pub joined : List ℕ → List ℕ → M Value
joined a b = do
  spend (length a + length b)
  give (text (a ++ b))

abbrev pub new_list : List Value → M Value
new_list vs = make (list vs)

abbrev pub new_tuple : List Value → M Value
new_tuple vs = make (tuple vs)

-- a list or a tuple of both
abbrev pub both : (List Value → M Value) → List Value → List Value → M Value
both new vs ws = do
  spend (length vs + length ws)
  new (vs ++ ws)

-- n times; below 1 there is nothing
abbrev pub times : ℤ → ℕ
times (pos n) = n
times (negsuc n) = 0

abbrev pub repeated : List ℕ → ℤ → M Value
repeated cs z = do
  spend (length cs * times z)
  give (text (flat_map (λ part. part) (replicate (times z) cs)))

-- a list or a tuple, so often
abbrev pub often : (List Value → M Value) → List Value → ℤ → M Value
often new vs z = do
  spend (length vs * times z)
  new (flat_map (λ part. part) (replicate (times z) vs))

-- ---- operators

abbrev pub operator_sign : Operator → List ℕ
operator_sign operators.Add = codes "+"
operator_sign operators.Subtract = codes "-"
operator_sign operators.Multiply = codes "*"
operator_sign operators.FloorDivide = codes "//"
operator_sign operators.Modulo = codes "%"
operator_sign operators.Power = codes "**"

-- on two numbers, where there are two
abbrev pub on_numbers : Operator → Option ℤ → Option ℤ → M Value → M Value
on_numbers operator (Some a) (Some b) other = arithmetic operator a b
on_numbers operator _ _ other = other

-- two lists or two tuples
abbrev pub sum_of_nodes : Option Node → Option Node → M Value → M Value
sum_of_nodes m n other = by_both (list_from m) (list_from n) (both new_list) (by_both (tuple_from m) (tuple_from n) (both new_tuple) other)

-- two texts, two lists or two tuples
abbrev pub sum_of : Value → Value → M Value
sum_of (text cs) (text ds) = joined cs ds
sum_of a b = node_now a >>= λ m. node_now b >>= λ n. sum_of_nodes m n (bad_operands (operator_sign operators.Add) a b)

abbrev pub node_times : Option Node → ℤ → M Value → M Value
node_times (Some (list vs)) z other = often new_list vs z
node_times (Some (tuple vs)) z other = often new_tuple vs z
node_times _ z other = other

-- a text, a list or a tuple with a number
abbrev pub value_times : Value → Option ℤ → M Value → M Value
value_times (text cs) (Some z) other = repeated cs z
value_times (node i) (Some z) other = node_now (node i) >>= λ found. node_times found z other
value_times _ _ other = other

-- on either side
abbrev pub product_of : Value → Value → M Value
product_of a b = value_times a (number_in b) (value_times b (number_in a) (bad_operands (operator_sign operators.Multiply) a b))

abbrev pub on_sequences : Operator → Value → Value → M Value
on_sequences operators.Add a b = sum_of a b
on_sequences operators.Multiply a b = product_of a b
on_sequences operator a b = bad_operands (operator_sign operator) a b

abbrev pub operate : Operator → Value → Value → M Value
operate operator a b = on_numbers operator (number_in a) (number_in b) (on_sequences operator a b)

abbrev pub signed_number : Sign → ℤ → ℤ
signed_number signs.Plus z = z
signed_number signs.Minus z = neg_ℤ z

abbrev pub sign_text : Sign → List ℕ
sign_text signs.Plus = codes "+"
sign_text signs.Minus = codes "-"

abbrev pub signed_in : Sign → Value → Option ℤ → M Value
signed_in sign v (Some z) = whole (signed_number sign z)
signed_in sign v None = bad_operand (sign_text sign) v

abbrev pub signed_value : Sign → Value → M Value
signed_value sign v = signed_in sign v (number_in v)

-- Forms that the code's functions have, where they cut a rule of the language into parts.
use Rattle.std.specs.Prelude.{ℕ, ◌+◌, ◌*◌, ◌%◌, ◌==◌, nat_lt, Bool, false, ◌&&◌, ℤ, pos, negsuc, ◌+ℤ◌, ◌-ℤ◌, ◌*ℤ◌, List, [], ◌∷◌, ◌++◌, length, replicate, codes, Option, Some, None, Result, Ok, Err}
use Rattle.std.specs.List.{flat_map}
use Rattle.kishu_num.specs.declared.fault.NumFault.{NumFault}
use Rattle.kishu_num.specs.declared.fault.NumFault.TheVariants.{Overflow, ZeroDivisor, NegativePower}
use Rattle.kishu_num.specs.Results.{in_range, divided_by, raised_to}
use Rattle.kishu_language.specs.declared.tree.Operator.{Operator}
use Rattle.kishu_language.specs.declared.tree.Operator.TheVariants as operators
use Rattle.kishu_meaning.specs.values.Numbers.{floor_quotient, floor_remainder}
use Rattle.kishu_meaning.specs.values.Values.{Value, integer, text, node, Node, list, tuple}
use Rattle.kishu_meaning.specs.moments.Moment.{M, Thrown, fresh, raised, ◌>>=◌, ◌>>◌, give, spend, node_now}
use Rattle.kishu_meaning.specs.calls.Operators.{repeated, new_list, new_tuple, often, times, tuple_from}
use Rattle.kishu_meaning.specs.values.Classes.{overflow_error_class, value_error_class, zero_division_error_class}

-- the exception for a number that isn't there
abbrev pub thrown_for : NumFault → Thrown
thrown_for Overflow = fresh overflow_error_class (text (codes "whole number too large") ∷ [])
thrown_for ZeroDivisor = fresh zero_division_error_class (text (codes "division by zero") ∷ [])
thrown_for NegativePower = fresh value_error_class (text (codes "negative power") ∷ [])

abbrev pub answered : Result ℤ NumFault → M Value
answered (Ok z) s = give (integer z) s
answered (Err f) s = raised (thrown_for f) s

abbrev pub answer_of : Operator → ℤ → ℤ → Result ℤ NumFault
answer_of operators.Add a b = in_range (a +ℤ b)
answer_of operators.Subtract a b = in_range (a -ℤ b)
answer_of operators.Multiply a b = in_range (a *ℤ b)
answer_of operators.FloorDivide a b = divided_by b (floor_quotient a b)
answer_of operators.Modulo a b = divided_by b (floor_remainder a b)
answer_of operators.Power a b = raised_to a b

-- both, where there are two
abbrev pub maybe_both : Option (List Value) → Option (List Value) → M (Option (List Value))
maybe_both (Some vs) (Some ws) = spend (length vs + length ws) >> give (Some (vs ++ ws))
maybe_both (Some vs) None = give None
maybe_both None n = give None

-- so many times, where there are items
abbrev pub maybe_often : Option (List Value) → ℕ → M (Option (List Value))
maybe_often (Some vs) n = spend (length vs * n) >> give (Some (flat_map (λ part. part) (replicate n vs)))
maybe_often None n = give None

abbrev pub some : M Value → M (Option Value)
some m = m >>= λ v. give (Some v)

abbrev pub maybe_node_times : Option Node → ℤ → M (Option Value)
maybe_node_times (Some (list vs)) z = some (often new_list vs z)
maybe_node_times (Some (tuple vs)) z = some (often new_tuple vs z)
maybe_node_times _ z = give None

-- a text, a list or a tuple so many times, where there are both
abbrev pub maybe_value_times : Value → Option ℤ → M (Option Value)
maybe_value_times (text cs) (Some z) = some (repeated cs z)
maybe_value_times (node i) (Some z) = node_now (node i) >>= λ m. maybe_node_times m z
maybe_value_times _ _ = give None

-- the text that a value is
abbrev pub text_from : Value → Option (List ℕ)
text_from (text cs) = Some cs
text_from _ = None

-- the natural number that a whole number is
abbrev pub natural : ℤ → Option ℕ
natural (pos n) = Some n
natural (negsuc n) = None

-- whether so far is a whole number of steps, and less than so far
abbrev pub is_step_on : Option ℕ → Option ℕ → ℕ → Bool
is_step_on (Some d) (Some end) n = nat_lt d end && (d % n == 0)
is_step_on (Some d) None n = false
is_step_on None end n = false

-- what is made of the items of a tuple, where there are some
abbrev pub some_tuple : Option (List Value) → M (Option Value)
some_tuple (Some vs) = some (new_tuple vs)
some_tuple None = give None

-- a tuple so many times
abbrev pub maybe_tuple_times : Option Node → ℤ → M (Option Value)
maybe_tuple_times m z = maybe_often (tuple_from m) (times z) >>= some_tuple

-- what a call returned, which is there
abbrev pub some_value : {X E : Type 0} → Result X E → Result (Option X) E
some_value (Ok x) = Ok (Some x)
some_value (Err f) = Err f

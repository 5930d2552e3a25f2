-- What comparisons do (Python Language Reference 3, "Comparisons": "Value comparisons", "Membership test operations" and "Identity comparisons").
use Rattle.std.specs.Prelude.{ℕ, ◌*◌, max, nat_lt, ℤ, pos, negsuc, ◌-ℤ◌, Bool, false, not, ◌&&◌, if◌then◌else◌, List, [], ◌∷◌, length, codes, Option, Some, None, is_some}
use Rattle.std.specs.Ordering.{int_eq}
use Rattle.kishu_language.specs.declared.tree.Comparison.{Comparison}
use Rattle.kishu_language.specs.declared.tree.Comparison.TheVariants as comparisons
use Rattle.kishu_meaning.specs.values.Numbers.{floor_quotient, floor_remainder}
use Rattle.kishu_meaning.specs.values.Texts.{first_place}
use Rattle.kishu_meaning.specs.values.Keys.{is_one}
use Rattle.kishu_meaning.specs.values.Values.{Value, text, range, node, Node, list, tuple, dict}
use Rattle.kishu_meaning.specs.values.Nodes.{value_at}
use Rattle.kishu_meaning.specs.moments.Moment.{M, ◌>>=◌, ◌>>◌, give, spend, node_now}
use Rattle.kishu_meaning.specs.moments.Counting.{counted}
use Rattle.kishu_meaning.specs.comparing.Equal.{number_in, is_same, pair_steps, range_length, pair_equal, equal_nodes, room_at, equal, less, greater}
use Rattle.kishu_meaning.specs.calls.Operators.{bad_operands}
use Rattle.kishu_meaning.specs.values.Kinds.{not_iterable}
use Rattle.kishu_meaning.specs.items.KeyOf.{key_of_value}

abbrev pub comparison_sign : Comparison → List ℕ
comparison_sign comparisons.Less = codes "<"
comparison_sign comparisons.LessEqual = codes "<="
comparison_sign comparisons.Greater = codes ">"
comparison_sign comparisons.GreaterEqual = codes ">="
comparison_sign comparisons.Equal = codes "=="
comparison_sign comparisons.NotEqual = codes "!="
comparison_sign comparisons.In = codes "in"
comparison_sign comparisons.NotIn = codes "not in"
comparison_sign comparisons.Is = codes "is"
comparison_sign comparisons.IsNot = codes "is not"

-- The left one is less, where the two have an order.
abbrev pub or_unordered : Comparison → Value → Value → Option Bool → M Bool
or_unordered comparison a b (Some found) = give found
or_unordered comparison a b None = bad_operands (comparison_sign comparison) a b

abbrev pub identical : Value → Value → M Bool
identical a b = do
  spend (pair_steps a b)
  give (is_same a b)

-- ---- `in`

-- A search for a text takes the product of the lengths, the part's taken as at least 1.
abbrev pub part_in : List ℕ → List ℕ → M Bool
part_in part cs = do
  spend (length cs * max 1 (length part))
  give (is_some (first_place part cs))

-- An item is visited in a step, and is the value or equals it.
abbrev pub equals_item : Value → Value → M Bool
equals_item v item = λ s. counted (pair_equal (equal_nodes s.nodes (room_at s.depth)) item v) s

-- up to the first item that does
abbrev pub among : Value → List Value → M Bool
among v [] = give false
among v (w ∷ ws) = equals_item v w >>= λ found. if found then give found else among v ws

-- a place among n
abbrev pub is_place_of : ℕ → ℤ → Bool
is_place_of n (pos i) = nat_lt i n
is_place_of n (negsuc i) = false

-- The numbers of a range lie at whole steps from its start, one at each place.
abbrev pub is_number_of : ℤ → ℤ → ℤ → ℤ → Bool
is_number_of z start stop step = int_eq (floor_remainder (z -ℤ start) step) (pos 0) && is_place_of (range_length start stop step) (floor_quotient (z -ℤ start) step)

-- Only a number is in a range.
abbrev pub in_range : Option ℤ → ℤ → ℤ → ℤ → Bool
in_range (Some z) start stop step = is_number_of z start stop step
in_range None start stop step = false

abbrev pub in_node : Value → Value → Option Node → M Bool
in_node a b (Some (list vs)) = among a vs
in_node a b (Some (tuple vs)) = among a vs
in_node a b (Some (dict es)) = key_of_value a >>= λ k. give (is_some (value_at is_one k es))
in_node a b _ = not_iterable b

abbrev pub member : Comparison → Value → Value → M Bool
member comparison (text part) (text cs) = part_in part cs
member comparison a (text cs) = bad_operands (comparison_sign comparison) a (text cs)
member comparison a (range start stop step) = give (in_range (number_in a) start stop step)
member comparison a (node i) = node_now (node i) >>= in_node a (node i)
member comparison a b = not_iterable b

-- ---- each of them

abbrev pub negated : M Bool → M Bool
negated m = do
  found ← m
  give (not found)

abbrev pub compare : Comparison → Value → Value → M Bool
compare comparisons.Less a b = less a b >>= or_unordered comparisons.Less a b
compare comparisons.LessEqual a b = negated (greater a b >>= or_unordered comparisons.LessEqual a b)
compare comparisons.Greater a b = greater a b >>= or_unordered comparisons.Greater a b
compare comparisons.GreaterEqual a b = negated (less a b >>= or_unordered comparisons.GreaterEqual a b)
compare comparisons.Equal a b = equal a b
compare comparisons.NotEqual a b = negated (equal a b)
compare comparisons.In a b = member comparisons.In a b
compare comparisons.NotIn a b = negated (member comparisons.NotIn a b)
compare comparisons.Is a b = identical a b
compare comparisons.IsNot a b = negated (identical a b)

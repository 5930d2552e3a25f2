-- Comparisons make no node, and lead from good moments to good ones.
use Rattle.std.specs.Prelude.{ℕ, Option, Bool, Some, None, List, [], ◌∷◌}
use Rattle.kishu_language.specs.declared.tree.Comparison.{Comparison}
use Rattle.kishu_language.specs.declared.tree.Comparison.TheVariants as comparisons
use Rattle.kishu_meaning.specs.comparing.Comparing.{or_unordered, comparison_sign, equals_item, among, in_node, member, negated, identical, compare}
use Rattle.kishu_meaning.specs.comparing.Equal.{pair_equal, equal_nodes, room_at, less, less_in, greater, greater_in, equal, equal_in, pair_steps}
use Rattle.kishu_meaning.specs.moments.Moment.{M}
use Rattle.kishu_meaning.specs.values.Values.{Value, Node, list, tuple, dict, text, range, node}
use Rattle.kishu_soundness_laws.specs.Below.{Any}
use Rattle.kishu_soundness_laws.specs.moments.Steps.{IsSafe, any_safe, counted_safe, plain_safe, if_safe, give_safe, then_safe, spend_safe, bind_safe, node_now_safe, safe_later}
use Rattle.kishu_soundness_laws.specs.values.Kinds.{not_iterable_safe}
use Rattle.kishu_soundness_laws.specs.items.KeyOf.{key_safe}
use Rattle.kishu_soundness_laws.specs.calls.Operators.{bad_operands_safe}

module _ {k : ℕ} where
  unordered_safe : (comparison : Comparison) (v w : Value) (o : Option Bool) → IsSafe k Any (or_unordered comparison v w o)
  unordered_safe comparison v w (Some b) = any_safe
  unordered_safe comparison v w None = bad_operands_safe (comparison_sign comparison) v w

  item_equal : (v w : Value) → IsSafe k Any (equals_item v w)
  item_equal v w = counted_safe (λ s. pair_equal (equal_nodes s.nodes (room_at s.depth)) w v)

  among_safe : (v : Value) (vs : List Value) → IsSafe k Any (among v vs)
  among_safe v [] = any_safe
  among_safe v (w ∷ ws) = plain_safe (item_equal v w) (λ b. if_safe b (give_safe Any (λ l le. tt)) (among_safe v ws))

  in_node_safe : (v w : Value) (o : Option Node) → IsSafe k Any (in_node v w o)
  in_node_safe v w (Some (list vs)) = among_safe v vs
  in_node_safe v w (Some (tuple vs)) = among_safe v vs
  in_node_safe v w (Some (dict es)) = plain_safe (key_safe v) (λ key. any_safe)
  in_node_safe v w o = not_iterable_safe w

  member_safe : (comparison : Comparison) (v w : Value) → IsSafe k Any (member comparison v w)
  member_safe comparison (text part) (text cs) = then_safe (spend_safe _) any_safe
  member_safe comparison v (text cs) = bad_operands_safe (comparison_sign comparison) v (text cs)
  member_safe comparison v (range a b c) = any_safe
  member_safe comparison v (node i) = bind_safe (node_now_safe (node i)) (λ n le o q. safe_later le (in_node_safe v (node i) o))
  member_safe comparison v w = not_iterable_safe w

  negated_safe : {m : M Bool} → IsSafe k Any m → IsSafe k Any (negated m)
  negated_safe h = plain_safe h (λ b. any_safe)

  less_safe : (v w : Value) → IsSafe k Any (less v w)
  less_safe v w = counted_safe (λ s. less_in s.nodes s.depth v w)

  greater_safe : (v w : Value) → IsSafe k Any (greater v w)
  greater_safe v w = counted_safe (λ s. greater_in s.nodes s.depth v w)

  equal_safe : (v w : Value) → IsSafe k Any (equal v w)
  equal_safe v w = counted_safe (λ s. equal_in s.nodes s.depth v w)

  identical_safe : (v w : Value) → IsSafe k Any (identical v w)
  identical_safe v w = then_safe (spend_safe (pair_steps v w)) any_safe

  pub compare_safe : (comparison : Comparison) (v w : Value) → IsSafe k Any (compare comparison v w)
  compare_safe comparisons.Less v w = plain_safe (less_safe v w) (λ o. unordered_safe comparisons.Less v w o)
  compare_safe comparisons.LessEqual v w = negated_safe (plain_safe (greater_safe v w) (λ o. unordered_safe comparisons.LessEqual v w o))
  compare_safe comparisons.Greater v w = plain_safe (greater_safe v w) (λ o. unordered_safe comparisons.Greater v w o)
  compare_safe comparisons.GreaterEqual v w = negated_safe (plain_safe (less_safe v w) (λ o. unordered_safe comparisons.GreaterEqual v w o))
  compare_safe comparisons.Equal v w = equal_safe v w
  compare_safe comparisons.NotEqual v w = negated_safe (equal_safe v w)
  compare_safe comparisons.In v w = member_safe comparisons.In v w
  compare_safe comparisons.NotIn v w = negated_safe (member_safe comparisons.NotIn v w)
  compare_safe comparisons.Is v w = identical_safe v w
  compare_safe comparisons.IsNot v w = negated_safe (identical_safe v w)

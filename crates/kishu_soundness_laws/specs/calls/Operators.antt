-- Operators and truth keep node numbers those of nodes.
use Rattle.std.specs.Prelude.{ℕ, List, codes, ◌++◌, ℤ, pos, negsuc, ◌+ℤ◌, ◌-ℤ◌, ◌*ℤ◌, Option, None, Some, length, ◌+◌, ◌*◌, flat_map, replicate}
use Rattle.std.specs.Ordering.{int_eq}
use Rattle.kishu_language.specs.declared.tree.Operator.{Operator}
use Rattle.kishu_language.specs.declared.tree.Operator.TheVariants as operators
use Rattle.kishu_language.specs.declared.tree.Sign.{Sign}
use Rattle.kishu_meaning.specs.calls.Operators.{bad_operands, bad_operand, truth, is_full_at, whole, divided, raised_to, arithmetic, both, often, times, sum_of_nodes, list_from, new_list, tuple_from, new_tuple, node_times, operator_sign, sum_of, value_times, on_sequences, on_numbers, operate, signed_in, signed_number, sign_text, signed_value}
use Rattle.kishu_meaning.specs.comparing.Equal.{by_both, number_in}
use Rattle.kishu_meaning.specs.moments.Moment.{M, give, node_now, ◌>>=◌}
use Rattle.kishu_meaning.specs.values.Kinds.{kind_in, in_quotes}
use Rattle.kishu_meaning.specs.values.Numbers.{is_whole, power, floor_quotient, floor_remainder}
use Rattle.kishu_meaning.specs.values.Values.{Value, node, integer, Node, list, tuple, text}
use Rattle.kishu_soundness_laws.specs.Below.{AllBelow, Below, Any, Maybe, NodeBelow}
use Rattle.kishu_soundness_laws.specs.BelowLaws.{each_append, maybe_later, all_later}
use Rattle.kishu_soundness_laws.specs.moments.Steps.{IsSafe, plain_safe, look_any, bind_safe, node_now_safe, any_safe, if_safe, value_safe, raise_safe, then_safe, spend_safe, safe_later}
use Rattle.kishu_soundness_laws.specs.moments.Heap.{make_safe}
use Rattle.kishu_soundness_laws.specs.values.Lists.{each_many}
use Rattle.kishu_soundness_laws.specs.values.Nodes.{list_maybe, tuple_maybe}
use Rattle.kishu_soundness_laws.specs.values.Kinds.{kind_raise}

-- ---- exceptions

module _ {A : Type 0} {k : ℕ} {Q : ℕ → A → Type 0} where
  pub bad_operands_safe : (sign : List ℕ) (v w : Value) → IsSafe k Q (bad_operands sign v w)
  bad_operands_safe sign v w = plain_safe (look_any (λ ns. kind_in ns v)) (λ c. kind_raise w 23 (λ l. codes "bad operand types for " ++ sign ++ codes ": " ++ in_quotes c ++ codes " and " ++ in_quotes l))

  pub bad_operand_safe : (sign : List ℕ) (v : Value) → IsSafe k Q (bad_operand sign v)
  bad_operand_safe sign v = kind_raise v _ (λ c. codes "bad operand type for " ++ sign ++ codes ": " ++ in_quotes c)

abbrev MakesBelow : (List Value → M Value) → Type 0
MakesBelow new = (l : ℕ) (vs : List Value) → AllBelow l vs → IsSafe l Below (new vs)

module _ {k : ℕ} where
  pub truth_safe : (v : Value) → IsSafe k Any (truth v)
  truth_safe (node i) = bind_safe {f = λ o. give (is_full_at o)} (node_now_safe (node i)) (λ _ _ _ _. any_safe)
  truth_safe v = any_safe

module _ {k : ℕ} where
  -- ---- operators

  pub whole_safe : (z : ℤ) → IsSafe k Below (whole z)
  whole_safe z = if_safe (is_whole z) (value_safe (integer z) tt) (raise_safe _ (codes "whole number too large"))

  divided_safe : (b z : ℤ) → IsSafe k Below (divided b z)
  divided_safe b z = if_safe (int_eq b (pos 0)) (raise_safe _ (codes "division by zero")) (whole_safe z)

  power_safe : (a b : ℤ) → IsSafe k Below (raised_to a b)
  power_safe a (pos n) = whole_safe (power a n)
  power_safe a (negsuc n) = raise_safe _ (codes "negative power")

  arithmetic_safe : (operator : Operator) (a b : ℤ) → IsSafe k Below (arithmetic operator a b)
  arithmetic_safe operators.Add a b = whole_safe (a +ℤ b)
  arithmetic_safe operators.Subtract a b = whole_safe (a -ℤ b)
  arithmetic_safe operators.Multiply a b = whole_safe (a *ℤ b)
  arithmetic_safe operators.FloorDivide a b = divided_safe b (floor_quotient a b)
  arithmetic_safe operators.Modulo a b = divided_safe b (floor_remainder a b)
  arithmetic_safe operators.Power a b = power_safe a b

  by_both_safe : {X A : Type 0} {Q : ℕ → A → Type 0} (R : X → Type 0) (o p : Option X) {f : X → X → M A} {m : M A} → Maybe R o → Maybe R p → ((x y : X) → R x → R y → IsSafe k Q (f x y)) → IsSafe k Q m → IsSafe k Q (by_both o p f m)
  by_both_safe R None p h g e n = n
  by_both_safe R (Some x) None h g e n = n
  by_both_safe R (Some x) (Some y) h g e n = e x y h g

  both_safe : (new : List Value → M Value) → MakesBelow new → (vs ws : List Value) → AllBelow k vs → AllBelow k ws → IsSafe k Below (both new vs ws)
  both_safe new h vs ws p q = then_safe (spend_safe (length vs + length ws)) (h k (vs ++ ws) (each_append (Below k) vs ws p q))

  often_safe : (new : List Value → M Value) → MakesBelow new → (vs : List Value) (z : ℤ) → AllBelow k vs → IsSafe k Below (often new vs z)
  often_safe new h vs z p = then_safe (spend_safe (length vs * times z)) (h k _ (each_many (Below k) (times z) vs p))

  sum_nodes_safe : (o p : Option Node) {m : M Value} → Maybe (NodeBelow k) o → Maybe (NodeBelow k) p → IsSafe k Below m → IsSafe k Below (sum_of_nodes o p m)
  sum_nodes_safe o p h g e = by_both_safe (AllBelow k) (list_from o) (list_from p) (list_maybe k o h) (list_maybe k p g) (λ x y a b. both_safe new_list (λ l vs q. make_safe (list vs) q) x y a b)
      (by_both_safe (AllBelow k) (tuple_from o) (tuple_from p) (tuple_maybe k o h) (tuple_maybe k p g) (λ x y a b. both_safe new_tuple (λ l vs q. make_safe (tuple vs) q) x y a b) e)

  node_times_safe : (o : Option Node) (z : ℤ) {m : M Value} → Maybe (NodeBelow k) o → IsSafe k Below m → IsSafe k Below (node_times o z m)
  node_times_safe (Some (list vs)) z h e = often_safe new_list (λ l vs q. make_safe (list vs) q) vs z h
  node_times_safe (Some (tuple vs)) z h e = often_safe new_tuple (λ l vs q. make_safe (tuple vs) q) vs z h
  node_times_safe o z h e = e

module _ {k : ℕ} where
  sum_others_safe : (v w : Value) → IsSafe k Below (node_now v >>= λ m. node_now w >>= λ n. sum_of_nodes m n (bad_operands (operator_sign operators.Add) v w))
  sum_others_safe v w = bind_safe (node_now_safe v) (λ n le o q. bind_safe (node_now_safe w) (λ l le' p r. sum_nodes_safe o p (maybe_later (NodeBelow n) (NodeBelow l) (λ a. all_later n l le' _) o q) r (bad_operands_safe (operator_sign operators.Add) v w)))

  sum_of_safe : (v w : Value) → IsSafe k Below (sum_of v w)
  sum_of_safe (text cs) (text ds) = then_safe (spend_safe (length cs + length ds)) (value_safe (text (cs ++ ds)) tt)
  sum_of_safe v w = sum_others_safe v w

  value_times_safe : (v : Value) (o : Option ℤ) {m : M Value} → IsSafe k Below m → IsSafe k Below (value_times v o m)
  value_times_safe (text cs) (Some z) e = then_safe (spend_safe (length cs * times z)) (value_safe (text (flat_map (λ part. part) (replicate (times z) cs))) tt)
  value_times_safe (node i) (Some z) e = bind_safe (node_now_safe (node i)) (λ n le o q. node_times_safe o z q (safe_later le e))
  value_times_safe v o e = e

  on_sequences_safe : (operator : Operator) (v w : Value) → IsSafe k Below (on_sequences operator v w)
  on_sequences_safe operators.Add v w = sum_of_safe v w
  on_sequences_safe operators.Multiply v w = value_times_safe v (number_in w) (value_times_safe w (number_in v) (bad_operands_safe (operator_sign operators.Multiply) v w))
  on_sequences_safe operators.Subtract v w = bad_operands_safe (operator_sign operators.Subtract) v w
  on_sequences_safe operators.FloorDivide v w = bad_operands_safe (operator_sign operators.FloorDivide) v w
  on_sequences_safe operators.Modulo v w = bad_operands_safe (operator_sign operators.Modulo) v w
  on_sequences_safe operators.Power v w = bad_operands_safe (operator_sign operators.Power) v w

  on_numbers_safe : (operator : Operator) (o p : Option ℤ) {m : M Value} → IsSafe k Below m → IsSafe k Below (on_numbers operator o p m)
  on_numbers_safe operator (Some a) (Some b) e = arithmetic_safe operator a b
  on_numbers_safe operator (Some a) None e = e
  on_numbers_safe operator None p e = e

  pub operate_safe : (operator : Operator) (v w : Value) → IsSafe k Below (operate operator v w)
  operate_safe operator v w = on_numbers_safe operator (number_in v) (number_in w) (on_sequences_safe operator v w)

  signed_in_safe : (sign : Sign) (v : Value) (o : Option ℤ) → IsSafe k Below (signed_in sign v o)
  signed_in_safe sign v (Some z) = whole_safe (signed_number sign z)
  signed_in_safe sign v None = bad_operand_safe (sign_text sign) v

  pub signed_safe : (sign : Sign) (v : Value) → IsSafe k Below (signed_value sign v)
  signed_safe sign v = signed_in_safe sign v (number_in v)

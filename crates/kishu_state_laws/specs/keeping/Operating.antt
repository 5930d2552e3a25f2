-- Operators, comparisons and walks keep what holds of every state.
use Rattle.std.specs.Prelude.{◌≡◌, ℕ, zero, suc, ◌+◌, ◌*◌, ◌≤◌, ◌==◌, nat_lt, ℤ, pos, negsuc, ◌+ℤ◌, ◌-ℤ◌, ◌*ℤ◌, Bool, true, false, if◌then◌else◌, List, [], ◌∷◌, ◌++◌, length, replicate, codes, Option, Some, None, option_map, option_and_then, slice_get}
use Rattle.std.specs.List.{AllByRecursion as Each, flat_map}
use Rattle.std.specs.Ordering.{int_eq}
use Rattle.std.specs.Fmt.{decimal}
use Rattle.std.proofs.Common.{refl, ltb-true}
use Rattle.kishu_language.specs.declared.tree.Operator.{Operator}
use Rattle.kishu_language.specs.declared.tree.Operator.TheVariants as operators
use Rattle.kishu_language.specs.declared.tree.Sign.{Sign}
use Rattle.kishu_language.specs.declared.tree.Sign.TheVariants as signs
use Rattle.kishu_language.specs.declared.tree.Comparison.{Comparison}
use Rattle.kishu_language.specs.declared.tree.Comparison.TheVariants as comparisons
use Rattle.kishu_meaning.specs.values.Numbers.{is_whole, power, floor_quotient, floor_remainder}
use Rattle.kishu_meaning.specs.values.Keys.{Key}
use Rattle.kishu_meaning.specs.values.Nodes.{dict_in}
use Rattle.kishu_meaning.specs.values.Classes.{runtime_error_class}
use Rattle.kishu_meaning.specs.values.Values.{Value, integer, text, range, node, Node, list, tuple, dict}
use Rattle.kishu_meaning.specs.moments.Moment.{M, ◌>>=◌, give, node_now}
use Rattle.kishu_meaning.specs.comparing.Equal.{number_in, range_length, by_both, pair_steps}
use Rattle.kishu_meaning.specs.comparing.Comparing.{comparison_sign, or_unordered, identical, among, in_node, member, negated, compare}
use Rattle.kishu_meaning.specs.calls.Operators.{bad_operands, list_from, tuple_from, whole, divided, raised_to, arithmetic, new_list, new_tuple, both, times, often, operator_sign, on_numbers, sum_of_nodes, sum_of, node_times, value_times, on_sequences, operate, signed_number, sign_text, signed_in, signed_value}
use Rattle.kishu_meaning.specs.items.Walks.{unpacked, View, keys, values, items, Walk, along_list, along_dict, along_tuple, along_text, along_range, node_walk, walk_of, or_none_there, items_now, entries_now, walk_view, seen, entry_seen, item_for}
use Rattle.kishu_objects.specs.State.{IsValue, AreValues, IsNode, IsKey, keys_in, values_in}
use Rattle.kishu_state_laws.specs.Moments.{IsWalk}
use Rattle.kishu_state_laws.specs.keeping.Logic.{Maybe, Any, IsText, Safe, safe_later, bind_s, with_s, plain_s, then_s, give_s, any_s, value_s, list_s, raise_s, if_s, when_s, node_now_s, spend_s, make_s, value_later, values_later, maybe_later, optional_later, node_later, each_append, each_get}
use Rattle.kishu_state_laws.specs.keeping.Lists.{each_many}
use Rattle.kishu_state_laws.specs.keeping.Texts.{scalars_append, text_many, text_decimal, IsScalar, each_scalar, one_text}
use Rattle.kishu_state_laws.specs.keeping.Numbers.{IsWhole, whole_range}
use Rattle.kishu_state_laws.specs.keeping.Counting.{equal_s, less_s, greater_s, pair_s}
use Rattle.kishu_state_laws.specs.keeping.Leaves.{MaybeValue, not_iterable_s, bad_operands_s, bad_operand_s, list_maybe, tuple_maybe, dict_maybe, list_there, dict_there, key_s, value_of_key_s, count_of_s, items_of_s}

-- ---- operators

signed_text : (sign : Sign) → IsText (sign_text sign)
signed_text signs.Plus = refl
signed_text signs.Minus = refl

abbrev Makes : (List Value → M Value) → Type 0
Makes new = (l : ℕ) (vs : List Value) → AreValues l vs → Safe l IsValue (new vs)

module _ {k : ℕ} where
  pub whole_s : (z : ℤ) → Safe k IsValue (whole z)
  whole_s z = when_s (is_whole z) (λ e. value_s (integer z) e) (λ e. raise_s _ (codes "whole number too large") refl refl)

  divided_s : (b z : ℤ) → Safe k IsValue (divided b z)
  divided_s b z = if_s (int_eq b (pos 0)) (raise_s _ (codes "division by zero") refl refl) (whole_s z)

  power_s : (a b : ℤ) → Safe k IsValue (raised_to a b)
  power_s a (pos n) = whole_s (power a n)
  power_s a (negsuc n) = raise_s _ (codes "negative power") refl refl

  arithmetic_s : (operator : Operator) (a b : ℤ) → Safe k IsValue (arithmetic operator a b)
  arithmetic_s operators.Add a b = whole_s (a +ℤ b)
  arithmetic_s operators.Subtract a b = whole_s (a -ℤ b)
  arithmetic_s operators.Multiply a b = whole_s (a *ℤ b)
  arithmetic_s operators.FloorDivide a b = divided_s b (floor_quotient a b)
  arithmetic_s operators.Modulo a b = divided_s b (floor_remainder a b)
  arithmetic_s operators.Power a b = power_s a b

  by_both_s : {X A : Type 0} {Q : ℕ → A → Type 0} (R : X → Type 0) (o p : Option X) {f : X → X → M A} {m : M A} → Maybe R o → Maybe R p → ((x y : X) → R x → R y → Safe k Q (f x y)) → Safe k Q m → Safe k Q (by_both o p f m)
  by_both_s R None p h g e n = n
  by_both_s R (Some x) None h g e n = n
  by_both_s R (Some x) (Some y) h g e n = e x y h g

  both_s : (new : List Value → M Value) → Makes new → (vs ws : List Value) → AreValues k vs → AreValues k ws → Safe k IsValue (both new vs ws)
  both_s new h vs ws p q = then_s (spend_s (length vs + length ws)) (h k (vs ++ ws) (each_append (IsValue k) vs ws p q))

  often_s : (new : List Value → M Value) → Makes new → (vs : List Value) (z : ℤ) → AreValues k vs → Safe k IsValue (often new vs z)
  often_s new h vs z p = then_s (spend_s (length vs * times z)) (h k _ (each_many (IsValue k) (times z) vs p))

  sum_nodes_s : (o p : Option Node) {m : M Value} → Maybe (IsNode k) o → Maybe (IsNode k) p → Safe k IsValue m → Safe k IsValue (sum_of_nodes o p m)
  sum_nodes_s o p h g e = by_both_s (AreValues k) (list_from o) (list_from p) (list_maybe k o h) (list_maybe k p g) (λ x y a b. both_s new_list (λ l vs q. make_s (list vs) q (λ p. tt)) x y a b)
      (by_both_s (AreValues k) (tuple_from o) (tuple_from p) (tuple_maybe k o h) (tuple_maybe k p g) (λ x y a b. both_s new_tuple (λ l vs q. make_s (tuple vs) q (λ p. tt)) x y a b) e)

  node_times_s : (o : Option Node) (z : ℤ) {m : M Value} → Maybe (IsNode k) o → Safe k IsValue m → Safe k IsValue (node_times o z m)
  node_times_s (Some (list vs)) z h e = often_s new_list (λ l vs q. make_s (list vs) q (λ p. tt)) vs z h
  node_times_s (Some (tuple vs)) z h e = often_s new_tuple (λ l vs q. make_s (tuple vs) q (λ p. tt)) vs z h
  node_times_s o z h e = e

module _ {k : ℕ} where
  sum_others_s : (v w : Value) → Safe k IsValue (node_now v >>= λ m. node_now w >>= λ n. sum_of_nodes m n (bad_operands (operator_sign operators.Add) v w))
  sum_others_s v w = bind_s (node_now_s v) (λ n le o q. bind_s (node_now_s w) (λ l le' p r. sum_nodes_s o p (maybe_later (IsNode n) (IsNode l) (node_later n l le') o q) r (bad_operands_s (operator_sign operators.Add) v w refl)))

  sum_of_s : (v w : Value) → IsValue k v → IsValue k w → Safe k IsValue (sum_of v w)
  sum_of_s (text cs) (text ds) h g = then_s (spend_s (length cs + length ds)) (value_s (text (cs ++ ds)) (scalars_append cs ds h g))
  sum_of_s v w h g = sum_others_s v w

  value_times_s : (v : Value) (o : Option ℤ) {m : M Value} → IsValue k v → Safe k IsValue m → Safe k IsValue (value_times v o m)
  value_times_s (text cs) (Some z) h e = then_s (spend_s (length cs * times z)) (value_s (text (flat_map (λ part. part) (replicate (times z) cs))) (text_many (times z) cs h))
  value_times_s (node i) (Some z) h e = bind_s (node_now_s (node i)) (λ n le o q. node_times_s o z q (safe_later le e))
  value_times_s v o h e = e

  on_sequences_s : (operator : Operator) (v w : Value) → IsValue k v → IsValue k w → Safe k IsValue (on_sequences operator v w)
  on_sequences_s operators.Add v w h g = sum_of_s v w h g
  on_sequences_s operators.Multiply v w h g = value_times_s v (number_in w) h (value_times_s w (number_in v) g (bad_operands_s (operator_sign operators.Multiply) v w refl))
  on_sequences_s operators.Subtract v w h g = bad_operands_s (operator_sign operators.Subtract) v w refl
  on_sequences_s operators.FloorDivide v w h g = bad_operands_s (operator_sign operators.FloorDivide) v w refl
  on_sequences_s operators.Modulo v w h g = bad_operands_s (operator_sign operators.Modulo) v w refl
  on_sequences_s operators.Power v w h g = bad_operands_s (operator_sign operators.Power) v w refl

  on_numbers_s : (operator : Operator) (o p : Option ℤ) {m : M Value} → Safe k IsValue m → Safe k IsValue (on_numbers operator o p m)
  on_numbers_s operator (Some a) (Some b) e = arithmetic_s operator a b
  on_numbers_s operator (Some a) None e = e
  on_numbers_s operator None p e = e

  pub operate_s : (operator : Operator) (v w : Value) → IsValue k v → IsValue k w → Safe k IsValue (operate operator v w)
  operate_s operator v w h g = on_numbers_s operator (number_in v) (number_in w) (on_sequences_s operator v w h g)

  signed_in_s : (sign : Sign) (v : Value) (o : Option ℤ) → Safe k IsValue (signed_in sign v o)
  signed_in_s sign v (Some z) = whole_s (signed_number sign z)
  signed_in_s sign v None = bad_operand_s (sign_text sign) v (signed_text sign)

  pub signed_s : (sign : Sign) (v : Value) → Safe k IsValue (signed_value sign v)
  signed_s sign v = signed_in_s sign v (number_in v)

  -- ---- comparisons: nothing is made

  unordered_s : (comparison : Comparison) (v w : Value) (o : Option Bool) → IsText (comparison_sign comparison) → Safe k Any (or_unordered comparison v w o)
  unordered_s comparison v w (Some b) h = any_s
  unordered_s comparison v w None h = bad_operands_s (comparison_sign comparison) v w h

  among_s : (v : Value) (vs : List Value) → Safe k Any (among v vs)
  among_s v [] = any_s
  among_s v (w ∷ ws) = plain_s (pair_s w v) (λ b. if_s b (give_s Any (λ l le. tt)) (among_s v ws))

  in_node_s : (v w : Value) (o : Option Node) → IsValue k v → Safe k Any (in_node v w o)
  in_node_s v w (Some (list vs)) h = among_s v vs
  in_node_s v w (Some (tuple vs)) h = among_s v vs
  in_node_s v w (Some (dict es)) h = with_s (key_s v h) (λ key q. any_s)
  in_node_s v w o h = not_iterable_s w

module _ {k : ℕ} where
  member_s : (comparison : Comparison) (v w : Value) → IsText (comparison_sign comparison) → IsValue k v → Safe k Any (member comparison v w)
  member_s comparison (text part) (text cs) t h = then_s (spend_s _) any_s
  member_s comparison v (text cs) t h = bad_operands_s (comparison_sign comparison) v (text cs) t
  member_s comparison v (range a b c) t h = any_s
  member_s comparison v (node i) t h = bind_s (node_now_s (node i)) (λ n le o q. in_node_s v (node i) o (value_later k n le v h))
  member_s comparison v w t h = not_iterable_s w

  negated_s : {m : M Bool} → Safe k Any m → Safe k Any (negated m)
  negated_s h = plain_s h (λ b. any_s)

  identical_s : (v w : Value) → Safe k Any (identical v w)
  identical_s v w = then_s (spend_s (pair_steps v w)) any_s

  pub compare_s : (comparison : Comparison) (v w : Value) → IsValue k v → Safe k Any (compare comparison v w)
  compare_s comparisons.Less v w h = plain_s (less_s v w) (λ o. unordered_s comparisons.Less v w o refl)
  compare_s comparisons.LessEqual v w h = negated_s (plain_s (greater_s v w) (λ o. unordered_s comparisons.LessEqual v w o refl))
  compare_s comparisons.Greater v w h = plain_s (greater_s v w) (λ o. unordered_s comparisons.Greater v w o refl)
  compare_s comparisons.GreaterEqual v w h = negated_s (plain_s (less_s v w) (λ o. unordered_s comparisons.GreaterEqual v w o refl))
  compare_s comparisons.Equal v w h = equal_s v w
  compare_s comparisons.NotEqual v w h = negated_s (equal_s v w)
  compare_s comparisons.In v w h = member_s comparisons.In v w refl h
  compare_s comparisons.NotIn v w h = negated_s (member_s comparisons.NotIn v w refl h)
  compare_s comparisons.Is v w h = identical_s v w
  compare_s comparisons.IsNot v w h = negated_s (identical_s v w)

-- ---- walks

pub walk_later : (k l : ℕ) → k ≤ l → (u : Walk) → IsWalk k u → IsWalk l u
walk_later k l h (along_list i) p = p
walk_later k l h (along_dict i n view) p = p
walk_later k l h (along_tuple vs) p = values_later k l h vs p
walk_later k l h (along_text cs) p = p
walk_later k l h (along_range a b c) p = p

pub walk_value_s : {k : ℕ} (u : Walk) → IsWalk k u → Safe k IsWalk (give u)
walk_value_s {k = k} u h = give_s IsWalk (λ l le. walk_later k l le u h)

module _ {k : ℕ} where
  pub unpacked_s : (n : ℕ) (v : Value) → IsValue k v → Safe k AreValues (unpacked n v)
  unpacked_s n v h = plain_s (count_of_s v) (λ c. then_s (spend_s c) (if_s (c == n) (items_of_s v h) (raise_s _ (codes "cannot unpack into " ++ decimal n) refl (scalars_append (codes "cannot unpack into ") (decimal n) refl (text_decimal n)))))

  node_walk_s : (i : ℕ) (o : Option Node) → Maybe (IsNode k) o → Safe k IsWalk (node_walk i o)
  node_walk_s i (Some (list vs)) h = walk_value_s (along_list i) tt
  node_walk_s i (Some (tuple vs)) h = walk_value_s (along_tuple vs) h
  node_walk_s i (Some (dict es)) h = walk_value_s (along_dict i (length es) keys) tt
  node_walk_s i o h = not_iterable_s (node i)

abbrev EntriesAt : ℕ → List (Key × Value) → Type 0
EntriesAt l es = Each IsKey (keys_in es) × AreValues l (values_in es)

module _ {k : ℕ} where
  pub walk_of_s : (v : Value) → IsValue k v → Safe k IsWalk (walk_of v)
  walk_of_s (text cs) h = walk_value_s (along_text cs) h
  walk_of_s (range a b c) h = walk_value_s (along_range a b c) (h.0, h.1)
  walk_of_s (node i) h = bind_s (node_now_s (node i)) (λ n le o q. node_walk_s i o q)
  walk_of_s v h = not_iterable_s v

  items_now_s : (i : ℕ) → Safe k AreValues (items_now i)
  items_now_s i = bind_s (node_now_s (node i)) (λ n le o q. list_s (or_none_there (list_from o)) (list_there n (list_from o) (list_maybe n o q)))

  entries_now_s : (i : ℕ) → Safe k EntriesAt (entries_now i)
  entries_now_s i = bind_s (node_now_s (node i)) (λ n le o q.
      let there = dict_there n (option_and_then dict_in o) (dict_maybe n o q) in
      give_s EntriesAt (λ l le'. (there.keys.each, values_later n l le' (values_in (or_none_there (option_and_then dict_in o))) there.values)))

  pub walk_view_s : (i : ℕ) (view : View) → Safe k IsWalk (walk_view i view)
  walk_view_s i view = bind_s (entries_now_s i) (λ n le es q. walk_value_s (along_dict i (length es) view) tt)

  seen_s : (view : View) (e : Key × Value) → IsKey e.0 → IsValue k e.1 → Safe k IsValue (seen view e)
  seen_s keys e m h = value_of_key_s e.0 m
  seen_s values e m h = value_s e.1 h
  seen_s items e m h = bind_s (value_of_key_s e.0 m) (λ n le v q. make_s (tuple (v ∷ e.1 ∷ [])) (q, (value_later k n le e.1 h, tt)) (λ p. tt))

  opt_s : (o : Option Value) → MaybeValue k o → Safe k MaybeValue (give o)
  opt_s o h = give_s MaybeValue (λ l le. optional_later k l le o h)

  entry_seen_s : (view : View) (o : Option (Key × Value)) → Maybe (λ (e : Key × Value). IsKey e.0 × IsValue k e.1) o → Safe k MaybeValue (entry_seen view o)
  entry_seen_s view None h = give_s MaybeValue (λ l le. tt)
  entry_seen_s view (Some e) h = bind_s (seen_s view e h.0 h.1) (λ n le v q. give_s MaybeValue (λ l le'. value_later n l le' v q))

entry_get : (k : ℕ) (es : List (Key × Value)) (i : ℕ) → Each IsKey (keys_in es) → AreValues k (values_in es) → Maybe (λ (e : Key × Value). IsKey e.0 × IsValue k e.1) (slice_get es i)
entry_get k [] i p h = tt
entry_get k (e ∷ es) zero p h = (p.0, h.0)
entry_get k (e ∷ es) (suc i) p h = entry_get k es i p.1 h.1

text_item : (k : ℕ) (o : Option ℕ) → Maybe IsScalar o → MaybeValue k (option_map (λ c. text (c ∷ [])) o)
text_item k None h = tt
text_item k (Some c) h = one_text c h

range_item : (k : ℕ) (b : Bool) (z : ℤ) → (b ≡ true → IsWhole z) → MaybeValue k (if b then Some (integer z) else None)
range_item k true z h = h refl
range_item k false z h = tt

pub item_for_s : {k : ℕ} (u : Walk) (i : ℕ) → IsWalk k u → Safe k MaybeValue (item_for u i)
item_for_s (along_list n) i h = bind_s (items_now_s n) (λ l le vs q. opt_s (slice_get vs i) (each_get (IsValue l) vs i q))
item_for_s (along_dict n start view) i h = bind_s (entries_now_s n) (λ l le es q. if_s (length es == start) (entry_seen_s view (slice_get es i) (entry_get l es i q.0 q.1)) (raise_s runtime_error_class (codes "dictionary changed size during iteration") refl refl))
item_for_s (along_tuple vs) i h = opt_s (slice_get vs i) (each_get (IsValue _) vs i h)
item_for_s {k = k} (along_text cs) i h = opt_s _ (text_item k (slice_get cs i) (each_get IsScalar cs i (each_scalar cs h)))
item_for_s {k = k} (along_range a b c) i h = opt_s _ (range_item k (nat_lt i (range_length a b c)) (a +ℤ pos i *ℤ c) (λ e. whole_range a b c i h.0 h.1 (ltb-true i (range_length a b c) e)))

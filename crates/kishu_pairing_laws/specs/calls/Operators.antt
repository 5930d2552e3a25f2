-- Operators and truth go alike: one line an operator.
use Rattle.std.specs.Prelude.{ℕ, not, ◌≡◌, ◌==◌, Option, List, codes, ◌++◌, ℤ, pos, negsuc, ◌+ℤ◌, ◌-ℤ◌, ◌*ℤ◌, ◌+◌, ◌*◌, Some, None}
use Rattle.std.specs.Ordering.{int_eq}
use Rattle.std.proofs.Common.{ap, refl, subst, ◌∙◌}
use Rattle.kishu_language.specs.declared.tree.Operator.{Operator}
use Rattle.kishu_language.specs.declared.tree.Operator.TheVariants as operators
use Rattle.kishu_language.specs.declared.tree.Sign.{Sign}
use Rattle.kishu_meaning.specs.calls.Operators.{is_full, is_full_at, truth, new_list, new_tuple, bad_operands, bad_operand, whole, divided, raised_to, arithmetic, both as both_of, often, times, sum_of_nodes, operator_sign, sum_of, node_times, value_times, product_of, on_sequences, on_numbers, operate, signed_in, signed_number, sign_text, signed_value}
use Rattle.kishu_meaning.specs.comparing.Equal.{by_both, number_in}
use Rattle.kishu_meaning.specs.moments.Moment.{M, spend, node_now, ◌>>=◌}
use Rattle.kishu_meaning.specs.values.Classes.{type_error_class}
use Rattle.kishu_meaning.specs.values.Kinds.{in_quotes}
use Rattle.kishu_meaning.specs.values.Numbers.{is_whole, power, floor_quotient, floor_remainder}
use Rattle.kishu_meaning.specs.values.Values.{Node, Value, node, text}
use Rattle.kishu_pairing_laws.specs.World.{World, SameNode, lists, tuples, dicts, objects, functions, exceptions, BothOrNeither, neither, both, IsPlain, GoQuietly, Is, SameValue, plain, paired, SameValues, Any, Paired}
use Rattle.kishu_pairing_laws.specs.moments.Steps.{give_quiet, bind_quiet, bind_is, cond_quiet, raise_quiet, spend_is, then_quiet, spend_quiet}
use Rattle.kishu_pairing_laws.specs.values.Lists.{zip_length, zip_append, zip_many}
use Rattle.kishu_pairing_laws.specs.moments.Heap.{node_now_quiet, make_quiet}
use Rattle.kishu_pairing_laws.specs.values.Nodes.{list_there, tuple_there}
use Rattle.kishu_pairing_laws.specs.values.Kinds.{kind_quiet, by_kind}
use Rattle.kishu_pairing_laws.specs.comparing.Equal.{number_same}

module _ (W : World) where
  -- ---- truth

  fulls : {a b : Node} → SameNode W a b → is_full a ≡ is_full b
  fulls (lists z) = ap (λ (n : ℕ). not (n == 0)) (zip_length z)
  fulls (tuples z) = ap (λ (n : ℕ). not (n == 0)) (zip_length z)
  fulls (dicts z) = ap (λ (n : ℕ). not (n == 0)) (zip_length z)
  fulls (objects z) = refl
  fulls (functions profile code z) = refl
  fulls (exceptions kind z) = refl

  fulls_at : {o p : Option Node} → BothOrNeither (SameNode W) o p → is_full_at o ≡ is_full_at p
  fulls_at neither = refl
  fulls_at (both h) = fulls h

  truth_plain : (v : Value) → IsPlain v → GoQuietly W Is (truth v) (truth v)
  truth_plain (node i) p = absurd p
  truth_plain v p = give_quiet W refl

  pub truth_quiet : {v w : Value} → SameValue W v w → GoQuietly W Is (truth v) (truth w)
  truth_quiet (plain v p) = truth_plain v p
  truth_quiet (paired i j p) = bind_quiet W (node_now_quiet W (paired i j p)) (λ a b ab. give_quiet W (fulls_at ab))

  -- ---- new nodes

  pub new_list_quiet : {vs ws : List Value} → SameValues W vs ws → GoQuietly W (SameValue W) (new_list vs) (new_list ws)
  new_list_quiet z = make_quiet W (lists z)

  pub new_tuple_quiet : {vs ws : List Value} → SameValues W vs ws → GoQuietly W (SameValue W) (new_tuple vs) (new_tuple ws)
  new_tuple_quiet z = make_quiet W (tuples z)

module _ (W : World) where
  module _ {A B : Type 0} {R : A → B → Type 0} where
    pub bad_operands_quiet : {v w x y : Value} (sign : List ℕ) → SameValue W v w → SameValue W x y → GoQuietly W R (bad_operands sign v x) (bad_operands sign w y)
    bad_operands_quiet sign vw xy = bind_is W (kind_quiet W vw) (λ k. by_kind W type_error_class (λ l. codes "bad operand types for " ++ sign ++ codes ": " ++ in_quotes k ++ codes " and " ++ in_quotes l) xy)

    bad_operand_quiet : {v w : Value} (sign : List ℕ) → SameValue W v w → GoQuietly W R (bad_operand sign v) (bad_operand sign w)
    bad_operand_quiet sign vw = by_kind W _ (λ k. codes "bad operand type for " ++ sign ++ codes ": " ++ in_quotes k) vw

  -- ---- numbers

  pub whole_quiet : (z : ℤ) → GoQuietly W (SameValue W) (whole z) (whole z)
  whole_quiet z = cond_quiet W (is_whole z) (give_quiet W (plain _ tt)) (raise_quiet W _ _)

  pub whole_is : {x y : ℤ} → x ≡ y → GoQuietly W (SameValue W) (whole x) (whole y)
  whole_is {x = x} e = subst (λ y. GoQuietly W (SameValue W) (whole x) (whole y)) e (whole_quiet x)

  divided_quiet : (b z : ℤ) → GoQuietly W (SameValue W) (divided b z) (divided b z)
  divided_quiet b z = cond_quiet W (int_eq b (pos 0)) (raise_quiet W _ _) (whole_quiet z)

  power_quiet : (a b : ℤ) → GoQuietly W (SameValue W) (raised_to a b) (raised_to a b)
  power_quiet a (pos n) = whole_quiet (power a n)
  power_quiet a (negsuc n) = raise_quiet W _ _

  arithmetic_quiet : (operator : Operator) (a b : ℤ) → GoQuietly W (SameValue W) (arithmetic operator a b) (arithmetic operator a b)
  arithmetic_quiet operators.Add a b = whole_quiet (a +ℤ b)
  arithmetic_quiet operators.Subtract a b = whole_quiet (a -ℤ b)
  arithmetic_quiet operators.Multiply a b = whole_quiet (a *ℤ b)
  arithmetic_quiet operators.FloorDivide a b = divided_quiet b (floor_quotient a b)
  arithmetic_quiet operators.Modulo a b = divided_quiet b (floor_remainder a b)
  arithmetic_quiet operators.Power a b = power_quiet a b

  -- ---- sequences

  by_both_quiet : {X Y A B : Type 0} {R : X → Y → Type 0} {S : A → B → Type 0} {o q : Option X} {p r : Option Y} {f : X → X → M A} {g : Y → Y → M B} {m : M A} {n : M B} →
      BothOrNeither R o p → BothOrNeither R q r → ((x : X) (y : Y) (x' : X) (y' : Y) → R x y → R x' y' → GoQuietly W S (f x x') (g y y')) → GoQuietly W S m n → GoQuietly W S (by_both o q f m) (by_both p r g n)
  by_both_quiet neither k h e = e
  by_both_quiet (both l) neither h e = e
  by_both_quiet (both {a = x} {b = y} l) (both {a = x'} {b = y'} k) h e = h x y x' y' l k

  abbrev Makes : (List Value → M Value) → Type 0
  Makes new = (vs ws : List Value) → SameValues W vs ws → GoQuietly W (SameValue W) (new vs) (new ws)

  spend_sum : {a b c d : ℕ} → a ≡ b → c ≡ d → GoQuietly W Any (spend (a + c)) (spend (b + d))
  spend_sum {a = a} {b = b} {c = c} e h = spend_is W (ap (λ n. n + c) e ∙ ap (λ n. b + n) h)

  both_quiet : (new : List Value → M Value) → Makes new → (vs ws xs ys : List Value) → SameValues W vs ws → SameValues W xs ys → GoQuietly W (SameValue W) (both_of new vs xs) (both_of new ws ys)
  both_quiet new h vs ws xs ys z z' = then_quiet W (spend_sum (zip_length z) (zip_length z')) (h _ _ (zip_append z z'))

  often_quiet : (new : List Value → M Value) → Makes new → {vs ws : List Value} (n : ℤ) → SameValues W vs ws → GoQuietly W (SameValue W) (often new vs n) (often new ws n)
  often_quiet new h n z = then_quiet W (spend_is W (ap (λ k. k * times n) (zip_length z))) (h _ _ (zip_many (times n) z))

  sum_of_nodes_quiet : {o p q r : Option Node} {m n : M Value} → BothOrNeither (SameNode W) o p → BothOrNeither (SameNode W) q r → GoQuietly W (SameValue W) m n → GoQuietly W (SameValue W) (sum_of_nodes o q m) (sum_of_nodes p r n)
  sum_of_nodes_quiet op qr mn = by_both_quiet (list_there W op) (list_there W qr) (λ x y x' y' h k. both_quiet new_list (λ vs ws z. new_list_quiet W z) x y x' y' h k) (by_both_quiet (tuple_there W op) (tuple_there W qr) (λ x y x' y' h k. both_quiet new_tuple (λ vs ws z. new_tuple_quiet W z) x y x' y' h k) mn)

  sum_of_others : {v w x y : Value} → SameValue W v w → SameValue W x y → GoQuietly W (SameValue W) (node_now v >>= λ m. node_now x >>= λ n. sum_of_nodes m n (bad_operands (operator_sign operators.Add) v x)) (node_now w >>= λ m. node_now y >>= λ n. sum_of_nodes m n (bad_operands (operator_sign operators.Add) w y))
  sum_of_others vw xy = bind_quiet W (node_now_quiet W vw) (λ o p op. bind_quiet W (node_now_quiet W xy) (λ q r qr. sum_of_nodes_quiet op qr (bad_operands_quiet (operator_sign operators.Add) vw xy)))

  sum_texts : (v x : Value) → IsPlain v → IsPlain x → GoQuietly W (SameValue W) (sum_of v x) (sum_of v x)
  sum_texts (text cs) (text ds) p q = then_quiet W (spend_quiet W _) (give_quiet W (plain _ tt))
  sum_texts (node i) x p q = absurd p
  sum_texts v (node i) p q = absurd q
  sum_texts v x p q = sum_of_others (plain v p) (plain x q)

  sum_left : (v : Value) → IsPlain v → {i j : ℕ} → Paired W i j → GoQuietly W (SameValue W) (sum_of v (node i)) (sum_of v (node j))
  sum_left (node i) p q = absurd p
  sum_left v p q = sum_of_others (plain v p) (paired _ _ q)

  sum_of_quiet : {v w x y : Value} → SameValue W v w → SameValue W x y → GoQuietly W (SameValue W) (sum_of v x) (sum_of w y)
  sum_of_quiet (plain v p) (plain x q) = sum_texts v x p q
  sum_of_quiet (plain v p) (paired i j q) = sum_left v p q
  sum_of_quiet (paired i j p) xy = sum_of_others (paired i j p) xy

  node_times_quiet : {o p : Option Node} {m n : M Value} (z : ℤ) → BothOrNeither (SameNode W) o p → GoQuietly W (SameValue W) m n → GoQuietly W (SameValue W) (node_times o z m) (node_times p z n)
  node_times_quiet z neither mn = mn
  node_times_quiet z (both (lists h)) mn = often_quiet new_list (λ vs ws k. new_list_quiet W k) z h
  node_times_quiet z (both (tuples h)) mn = often_quiet new_tuple (λ vs ws k. new_tuple_quiet W k) z h
  node_times_quiet z (both (dicts h)) mn = mn
  node_times_quiet z (both (objects h)) mn = mn
  node_times_quiet z (both (functions profile code h)) mn = mn
  node_times_quiet z (both (exceptions kind h)) mn = mn

  times_plain : (v : Value) → IsPlain v → (o : Option ℤ) {m n : M Value} → GoQuietly W (SameValue W) m n → GoQuietly W (SameValue W) (value_times v o m) (value_times v o n)
  times_plain (text cs) p (Some z) mn = then_quiet W (spend_quiet W _) (give_quiet W (plain _ tt))
  times_plain (node i) p o mn = absurd p
  times_plain v p o mn = mn

  times_paired : {i j : ℕ} → Paired W i j → (o : Option ℤ) {m n : M Value} → GoQuietly W (SameValue W) m n → GoQuietly W (SameValue W) (value_times (node i) o m) (value_times (node j) o n)
  times_paired p None mn = mn
  times_paired p (Some z) mn = bind_quiet W (node_now_quiet W (paired _ _ p)) (λ o q oq. node_times_quiet z oq mn)

  value_times_quiet : {v w : Value} → SameValue W v w → (o : Option ℤ) {m n : M Value} → GoQuietly W (SameValue W) m n → GoQuietly W (SameValue W) (value_times v o m) (value_times w o n)
  value_times_quiet (plain v p) o mn = times_plain v p o mn
  value_times_quiet (paired i j p) o mn = times_paired p o mn

  product_of_quiet : {v w x y : Value} → SameValue W v w → SameValue W x y → GoQuietly W (SameValue W) (product_of v x) (product_of w y)
  product_of_quiet {v = v} {w = w} {x = x} {y = y} vw xy =
      subst (λ o. GoQuietly W (SameValue W) (product_of v x) (value_times w o (value_times y (number_in w) (bad_operands (operator_sign operators.Multiply) w y)))) (number_same W xy)
      (subst (λ o. GoQuietly W (SameValue W) (product_of v x) (value_times w (number_in x) (value_times y o (bad_operands (operator_sign operators.Multiply) w y)))) (number_same W vw)
      (value_times_quiet vw (number_in x) (value_times_quiet xy (number_in v) (bad_operands_quiet (operator_sign operators.Multiply) vw xy))))

  on_sequences_quiet : (operator : Operator) {v w x y : Value} → SameValue W v w → SameValue W x y → GoQuietly W (SameValue W) (on_sequences operator v x) (on_sequences operator w y)
  on_sequences_quiet operators.Add vw xy = sum_of_quiet vw xy
  on_sequences_quiet operators.Multiply vw xy = product_of_quiet vw xy
  on_sequences_quiet operators.Subtract vw xy = bad_operands_quiet (operator_sign operators.Subtract) vw xy
  on_sequences_quiet operators.FloorDivide vw xy = bad_operands_quiet (operator_sign operators.FloorDivide) vw xy
  on_sequences_quiet operators.Modulo vw xy = bad_operands_quiet (operator_sign operators.Modulo) vw xy
  on_sequences_quiet operators.Power vw xy = bad_operands_quiet (operator_sign operators.Power) vw xy

  on_numbers_quiet : (operator : Operator) (o p : Option ℤ) {m n : M Value} → GoQuietly W (SameValue W) m n → GoQuietly W (SameValue W) (on_numbers operator o p m) (on_numbers operator o p n)
  on_numbers_quiet operator (Some a) (Some b) mn = arithmetic_quiet operator a b
  on_numbers_quiet operator (Some a) None mn = mn
  on_numbers_quiet operator None p mn = mn

  pub operate_quiet : (operator : Operator) {v w x y : Value} → SameValue W v w → SameValue W x y → GoQuietly W (SameValue W) (operate operator v x) (operate operator w y)
  operate_quiet operator {v = v} {w = w} {x = x} {y = y} vw xy =
      subst (λ o. GoQuietly W (SameValue W) (operate operator v x) (on_numbers operator o (number_in y) (on_sequences operator w y))) (number_same W vw)
      (subst (λ o. GoQuietly W (SameValue W) (operate operator v x) (on_numbers operator (number_in v) o (on_sequences operator w y))) (number_same W xy)
      (on_numbers_quiet operator (number_in v) (number_in x) (on_sequences_quiet operator vw xy)))

  signed_in_quiet : (sign : Sign) {v w : Value} (o : Option ℤ) → SameValue W v w → GoQuietly W (SameValue W) (signed_in sign v o) (signed_in sign w o)
  signed_in_quiet sign (Some z) vw = whole_quiet (signed_number sign z)
  signed_in_quiet sign None vw = bad_operand_quiet (sign_text sign) vw

  pub signed_value_quiet : (sign : Sign) {v w : Value} → SameValue W v w → GoQuietly W (SameValue W) (signed_value sign v) (signed_value sign w)
  signed_value_quiet sign {v = v} {w = w} vw = subst (λ o. GoQuietly W (SameValue W) (signed_value sign v) (signed_in sign w o)) (number_same W vw) (signed_in_quiet sign (number_in v) vw)

-- Loops over lists of trees: how one begins, goes on, fails and ends.
use Rattle.std.proofs.Common.{◌≡◌, ◌∙◌, refl, ap, sym, subst, arith, ℕ, ◌+◌, ◌<◌, length, Bool, true, false, List, [], ◌∷◌, ◌++◌}
use Rattle.std.proofs.lemmas.List.{append-nil}
use Rattle.std.specs.Bool.{beq}
use Rattle.std.specs.Prelude.{if◌then◌else◌}
use Rattle.kishu_language.specs.declared.tree.Comparison.{Comparison}
use Rattle.kishu_language.specs.declared.tree.Operator.{Operator}
use Rattle.kishu_language.specs.declared.tree.Expr.{Expr}
use Rattle.kishu_meaning.specs.values.Values.{Value, bool}
use Rattle.kishu_language.specs.trees.Tree.{Expression, Expressions, Operands, Links, Pairs, no_expressions, more_expressions, more_operands, more_links, more_pairs}
use Rattle.kishu_meaning.specs.comparing.Comparing.{compare}
use Rattle.kishu_meaning.specs.calls.Operators.{truth, operate}
use Rattle.kishu_meaning.specs.cells.Meaning.{Calls, expr, pairs, first_that, operands}
use Rattle.kishu_meaning.specs.moments.Moment.{Moment, Ends, fine, raised, stopped, M, give, and_then, deeper, tick, ◌>>=◌}
use Rattle.kishu_language.specs.trees.Parts.{expressions_of}
use Rattle.kishu_machine.specs.declared.fault.Fault.{Fault}
use Rattle.kishu_machine.specs.Composing.{fails_on}
use Rattle.kishu_machine.specs.declared.machine.Machine.{Machine}
use Rattle.kishu_machine.specs.Machine.{Fails, GrownBy}
use Rattle.kishu_statements.specs.Forms.{linked}

-- nothing is made yet
pub begun : {A : Type 0} (e : Ends (List A)) → e ≡ and_then e (λ xs. give ([] ++ xs))
begun (fine xs s) = refl
begun (raised x s) = refl
begun (stopped s) = refl

-- what the rest, that is none, makes behind what was made
pub all_made : {A : Type 0} (e : Ends (List A)) (before : List A) (s : Moment) → e ≡ and_then (fine [] s) (λ xs. give (before ++ xs)) → e ≡ fine before s
all_made e before s h = h ∙ ap (λ l. fine l s) (append-nil before)

-- What is done behind a step is paid for by it.
pub paid_on : (m1 m2 m3 : Machine) (a b c : ℕ) → m2.heap ≡ m1.heap → m2.budget.left + 1 ≡ m1.budget.left → GrownBy 0 m1 a m2 b → GrownBy 1 m2 b m3 c → GrownBy 0 m1 a m3 c
paid_on m1 m2 m3 a b c h t g k = (omega (arith, g.0, k.0), omega (arith, ap length h, t, k.1), omega (arith, g.2, k.2))

module _ (calls : Calls) (f : Fault) (s t : Moment) where
  pub pairs_fail : (before : List (Value × Value)) (key e : Expression) (ps : Pairs) → Fails {A = Value} f t (deeper (expr calls key) s) → Fails {A = List (Value × Value)} f t (and_then (pairs calls (more_pairs key e ps) s) (λ vs. give (before ++ vs)))
  pairs_fail before key e ps h =
      fails_on (λ vs. give (before ++ vs)) f t (pairs calls (more_pairs key e ps) s)
      (fails_on (λ a s1. and_then (deeper (expr calls e) s1) (λ b s2. and_then (pairs calls ps s2) (λ es. give ((a, b) ∷ es)))) f t (deeper (expr calls key) s) h)

-- the value of a pair fails, behind its key
pub pairs_fail_behind : (calls : Calls) (f : Fault) (s t u : Moment) (before : List (Value × Value)) (v : Value) (key e : Expression) (ps : Pairs) → deeper (expr calls key) s ≡ fine v t → Fails {A = Value} f u (deeper (expr calls e) t)
    → Fails {A = List (Value × Value)} f u (and_then (pairs calls (more_pairs key e ps) s) (λ vs. give (before ++ vs)))
pairs_fail_behind calls f s t u before v key e ps h k =
    subst (λ (x : Ends Value). Fails {A = List (Value × Value)} f u (and_then (and_then x (λ a s1. and_then (deeper (expr calls e) s1) (λ b s2. and_then (pairs calls ps s2) (λ es. give ((a, b) ∷ es))))) (λ vs. give (before ++ vs)))) (sym h)
    (fails_on (λ vs. give (before ++ vs)) f u (and_then (deeper (expr calls e) t) (λ b s2. and_then (pairs calls ps s2) (λ es. give ((v, b) ∷ es))))
    (fails_on (λ b s2. and_then (pairs calls ps s2) (λ es. give ((v, b) ∷ es))) f u (deeper (expr calls e) t) k))

-- ---- operators from left to right

module _ (calls : Calls) (op : Operator) (v : Value) (e : Expression) (os : Operands) (s : Moment) where
  abbrev then_operate : Ends Value → Ends Value
  then_operate x = and_then x (λ w s1. and_then (and_then (tick s1) (λ _. operate op v w)) (λ x. operands calls x os))

  abbrev behind_tick : Value → Ends (Unit {0}) → Ends Value
  behind_tick w x = and_then (and_then x (λ _. operate op v w)) (λ x. operands calls x os)

  abbrev behind_operate : Ends Value → Ends Value
  behind_operate x = and_then x (λ x. operands calls x os)

  pub operands_on : (w x : Value) (u : Unit {0}) (s1 s2 s3 : Moment) → expr calls e s ≡ fine w s1 → tick s1 ≡ fine u s2 → operate op v w s2 ≡ fine x s3 → operands calls v (more_operands op e os) s ≡ operands calls x os s3
  operands_on w x u s1 s2 s3 h k l = ap then_operate h ∙ ap (behind_tick w) k ∙ ap behind_operate l

  pub operand_fails : (f : Fault) (t : Moment) → Fails {A = Value} f t (expr calls e s) → Fails {A = Value} f t (operands calls v (more_operands op e os) s)
  operand_fails f t h = fails_on (λ w s1. and_then (and_then (tick s1) (λ _. operate op v w)) (λ x. operands calls x os)) f t (expr calls e s) h

  pub operand_tick_fails : (w : Value) (f : Fault) (s1 t : Moment) → expr calls e s ≡ fine w s1 → Fails {A = Unit {0}} f t (tick s1) → Fails {A = Value} f t (operands calls v (more_operands op e os) s)
  operand_tick_fails w f s1 t h k =
      subst (λ (x : Ends Value). Fails {A = Value} f t (then_operate x)) (sym h)
      (fails_on (λ x. operands calls x os) f t (and_then (tick s1) (λ _. operate op v w)) (fails_on (λ _. operate op v w) f t (tick s1) k))

  pub operator_fails : (w : Value) (u : Unit {0}) (f : Fault) (s1 s2 t : Moment) → expr calls e s ≡ fine w s1 → tick s1 ≡ fine u s2 → Fails {A = Value} f t (operate op v w s2) → Fails {A = Value} f t (operands calls v (more_operands op e os) s)
  operator_fails w u f s1 s2 t h k l =
      subst (λ (x : Ends Value). Fails {A = Value} f t (then_operate x)) (sym h)
      (subst (λ (x : Ends (Unit {0})). Fails {A = Value} f t (behind_tick w x)) (sym k)
      (fails_on (λ x. operands calls x os) f t (operate op v w s2) l))

-- ---- comparisons from left to right

module _ (calls : Calls) (c : Comparison) (v : Value) (e : Expression) (ls : Links) (s : Moment) where
  abbrev next_link : Value → Bool → M Value
  next_link w b = if b then linked calls w ls else give (bool false)

  abbrev then_compare : Ends Value → Ends Value
  then_compare x = and_then x (λ w s1. and_then (and_then (tick s1) (λ _. compare c v w)) (next_link w))

  abbrev compare_behind : Value → Ends (Unit {0}) → Ends Value
  compare_behind w x = and_then (and_then x (λ _. compare c v w)) (next_link w)

  abbrev behind_compare : Value → Ends Bool → Ends Value
  behind_compare w x = and_then x (next_link w)

  pub links_on : (w : Value) (b : Bool) (u : Unit {0}) (s1 s2 s3 : Moment) → expr calls e s ≡ fine w s1 → tick s1 ≡ fine u s2 → compare c v w s2 ≡ fine b s3 → linked calls v (more_links c e ls) s ≡ next_link w b s3
  links_on w b u s1 s2 s3 h k l = ap then_compare h ∙ ap (compare_behind w) k ∙ ap (behind_compare w) l

  pub link_fails : (f : Fault) (t : Moment) → Fails {A = Value} f t (expr calls e s) → Fails {A = Value} f t (linked calls v (more_links c e ls) s)
  link_fails f t h = fails_on (λ w s1. and_then (and_then (tick s1) (λ _. compare c v w)) (next_link w)) f t (expr calls e s) h

  pub link_tick_fails : (w : Value) (f : Fault) (s1 t : Moment) → expr calls e s ≡ fine w s1 → Fails {A = Unit {0}} f t (tick s1) → Fails {A = Value} f t (linked calls v (more_links c e ls) s)
  link_tick_fails w f s1 t h k =
      subst (λ (x : Ends Value). Fails {A = Value} f t (then_compare x)) (sym h)
      (fails_on (next_link w) f t (and_then (tick s1) (λ _. compare c v w)) (fails_on (λ _. compare c v w) f t (tick s1) k))

  pub comparison_fails : (w : Value) (u : Unit {0}) (f : Fault) (s1 s2 t : Moment) → expr calls e s ≡ fine w s1 → tick s1 ≡ fine u s2 → Fails {A = Bool} f t (compare c v w s2) → Fails {A = Value} f t (linked calls v (more_links c e ls) s)
  comparison_fails w u f s1 s2 t h k l =
      subst (λ (x : Ends Value). Fails {A = Value} f t (then_compare x)) (sym h)
      (subst (λ (x : Ends (Unit {0})). Fails {A = Value} f t (compare_behind w x)) (sym k)
      (fails_on (next_link w) f t (compare c v w s2) l))

-- ---- the operand that decides

module _ (calls : Calls) (which : Bool) (e : Expression) (s : Moment) where
  pub first_fails : (f : Fault) (t : Moment) (es : Expressions) → Fails {A = Value} f t (expr calls e s) → Fails {A = Value} f t (first_that calls which (more_expressions e es) s)
  first_fails f t no_expressions h = h
  first_fails f t (more_expressions g es) h = fails_on (λ v. truth v >>= λ b. if beq b which then give v else first_that calls which (more_expressions g es)) f t (expr calls e s) h

  abbrev decide : Value → M Value → Bool → M Value
  decide v others b = if b then give v else others

  pub first_decided : (v : Value) (b : Bool) (t : Moment) (es : Expressions) → expr calls e s ≡ fine v t → truth v t ≡ fine b t → beq b which ≡ true → first_that calls which (more_expressions e es) s ≡ fine v t
  first_decided v b t no_expressions h k d = h
  first_decided v b t (more_expressions g es) h k d =
      ap (λ (x : Ends Value). and_then x (λ v. truth v >>= λ b. if beq b which then give v else first_that calls which (more_expressions g es))) h
      ∙ ap (λ (x : Ends Bool). and_then x (λ b. if beq b which then give v else first_that calls which (more_expressions g es))) k
      ∙ ap (λ (b : Bool). decide v (first_that calls which (more_expressions g es)) b t) d

  pub first_open : (v : Value) (b : Bool) (t : Moment) (os : List Expr) → 0 < length os → expr calls e s ≡ fine v t → truth v t ≡ fine b t → beq b which ≡ false → first_that calls which (more_expressions e (expressions_of os)) s ≡ first_that calls which (expressions_of os) t
  first_open v b t [] p h k d = absurd (omega arith)
  first_open v b t (o ∷ os) p h k d =
      ap (λ (x : Ends Value). and_then x (λ v. truth v >>= λ b. if beq b which then give v else first_that calls which (expressions_of (o ∷ os)))) h
      ∙ ap (λ (x : Ends Bool). and_then x (λ b. if beq b which then give v else first_that calls which (expressions_of (o ∷ os)))) k
      ∙ ap (λ (b : Bool). decide v (first_that calls which (expressions_of (o ∷ os))) b t) d

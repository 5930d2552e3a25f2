-- The blocks of a choice, one after the other.
use Rattle.std.proofs.Common.{◌≡◌, ◌∙◌, ap, sym, subst, arith, ℕ, ◌+◌, ◌≤◌, ◌<◌, Bool, true, false, List, length, drop, get_or, max, Result}
use Rattle.std.specs.Prelude.{if◌then◌else◌}
use Rattle.std.proofs.Math.Nat.{le-max_left, le-max_right}
use Rattle.std.proofs.lemmas.List.{drop_all}
use Rattle.kishu_language.specs.declared.tree.Stmt.{Stmt}
use Rattle.kishu_language.specs.declared.tree.Arm as rust
use Rattle.kishu_language.specs.trees.Fits.{ExpressionFits, StatementsFit, ArmsFit}
use Rattle.kishu_language.specs.trees.Height.{of_expression, of_statements, of_arms}
use Rattle.kishu_meaning.specs.cells.Meaning.{Calls, act, acts, expr, in_block}
use Rattle.kishu_meaning.specs.moments.Moment.{Moment, Ends, fine, M, and_then, ◌>>=◌}
use Rattle.kishu_meaning.specs.calls.Operators.{truth}
use Rattle.kishu_language.specs.trees.Tree.{Statements, Arm, Arms, more_arms, expression_of}
use Rattle.kishu_language.specs.trees.Tree as t
use Rattle.kishu_meaning.specs.values.Values.{Value}
use Rattle.kishu_meaning.specs.cells.Ways.{Flow}
use Rattle.kishu_items.specs.Gathering.{dropped}
use Rattle.kishu_machine.specs.declared.fault.Fault.{Fault}
use Rattle.kishu_machine.specs.Composing.{fails_on}
use Rattle.kishu_machine.specs.Machine.{Fails, Gives}
use Rattle.kishu_calls.specs.declared.ways.Flow as rust_flow
use Rattle.kishu_calls.specs.Calls.{flow_of}
use Rattle.kishu_language.specs.trees.StatementRows.{arm_at}
use Rattle.kishu_language.specs.trees.Parts.{arms_of, statements_of}

pub no_arm : (arms : List rust.Arm) (i : ℕ) → length arms ≤ i → (calls : Calls) (other : Statements) (s : Moment)
    → act calls (t.choose (arms_of (drop i arms)) other) s ≡ in_block other (acts calls other) s
no_arm arms i h calls other s = ap (λ (rest : List rust.Arm). act calls (t.choose (arms_of rest) other) s) (drop_all i arms h)

module _ (arms : List rust.Arm) (i : ℕ) (arm : rust.Arm) (p : i < length arms) (is : arm ≡ get_or arms i arm) where
  abbrev rest : Arms
  rest = arms_of (drop (i + 1) arms)

  abbrev test : ℕ
  test = of_expression (expression_of arm.test)

  abbrev body : ℕ
  body = of_statements (statements_of arm.body.items)

  arms_next : arms_of (drop i arms) ≡ more_arms (expression_of arm.test) (statements_of arm.body.items) rest
  arms_next = ap arms_of (dropped arms i arm p is) ∙ ap (λ (k : Arm). more_arms k.0 k.1 rest) (arm_at arm)

  pub arms_low : (test ≤ of_arms (arms_of (drop i arms))) × (body ≤ of_arms (arms_of (drop i arms))) × (of_arms rest ≤ of_arms (arms_of (drop i arms)))
  arms_low =
      let d = of_arms rest in
      let both = le-max_right test (max body d) in
      let first = le-max_left body d in
      let last = le-max_right body d in
      subst (λ (x : Arms). (test ≤ of_arms x) × (body ≤ of_arms x) × (d ≤ of_arms x)) (sym arms_next)
      (le-max_left test (max body d), omega (arith, both, first), omega (arith, both, last))

  pub arms_fit : ArmsFit (arms_of (drop i arms)) → ExpressionFits (expression_of arm.test) × StatementsFit (statements_of arm.body.items) × ArmsFit rest
  arms_fit f = subst (λ (x : Arms). ArmsFit x) arms_next f

  module _ (calls : Calls) (other : Statements) (s : Moment) where
    abbrev chosen : List Stmt → Bool → M Flow
    chosen ss b = if b then in_block (statements_of ss) (acts calls (statements_of ss)) else act calls (t.choose rest other)

    abbrev decided : List Stmt → Value → M Flow
    decided ss v = truth v >>= chosen ss

    choice_is : act calls (t.choose (arms_of (drop i arms)) other) s ≡ and_then (expr calls (expression_of arm.test) s) (decided arm.body.items)
    choice_is = ap (λ (k : Arms). act calls (t.choose k other) s) arms_next

    pub arm_fails : (f : Fault) (u : Moment) → Fails f u (expr calls (expression_of arm.test) s) → Fails f u (act calls (t.choose (arms_of (drop i arms)) other) s)
    arm_fails f u k = subst (λ (e : Ends Flow). Fails f u e) (sym choice_is) (fails_on (decided arm.body.items) f u (expr calls (expression_of arm.test) s) k)

    module _ (v : Value) (s1 : Moment) (b : Bool) (h : expr calls (expression_of arm.test) s ≡ fine v s1) (k : truth v s1 ≡ fine b s1) where
      decides : act calls (t.choose (arms_of (drop i arms)) other) s ≡ chosen arm.body.items b s1
      decides = choice_is ∙ ap (λ (e : Ends Value). and_then e (decided arm.body.items)) h ∙ ap (λ (e : Ends Bool). and_then e (chosen arm.body.items)) k

      pub next_arm : b ≡ false → act calls (t.choose (arms_of (drop i arms)) other) s ≡ act calls (t.choose rest other) s1
      next_arm q = decides ∙ ap (λ (c : Bool). chosen arm.body.items c s1) q

      pub this_arm : b ≡ true → (ss : List Stmt) → ss ≡ arm.body.items → (r : Result rust_flow.Flow Fault) (u : Moment)
          → Gives flow_of r u (in_block (statements_of ss) (acts calls (statements_of ss)) s1) → Gives flow_of r u (act calls (t.choose (arms_of (drop i arms)) other) s)
      this_arm q ss same r u g =
          subst (λ (e : Ends Flow). Gives flow_of r u e)
          (sym (decides ∙ ap (λ (c : Bool). chosen arm.body.items c s1) q ∙ ap (λ (ss : List Stmt). chosen ss true s1) (sym same)))
          g

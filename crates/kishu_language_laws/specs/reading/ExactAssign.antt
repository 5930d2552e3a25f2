-- Assignments and updates are read exactly: values are read by turns, and those before `=` turn out to be targets.
use Rattle.std.specs.Prelude.{◌≡◌, ℕ, true, false, List, [], ◌∷◌, ◌++◌, length, Some}
use Rattle.std.proofs.Common.{refl, sym, ap, subst, ◌∙◌, arith, inl, inr, ⊎_elim}
use Rattle.kishu_language.specs.declared.token.Mark.{Mark}
use Rattle.kishu_language.specs.declared.token.Mark.TheVariants as m
use Rattle.kishu_language.specs.declared.tree.Operator.{Operator}
use Rattle.kishu_language.specs.trees.Tree.{Expression, Statement}
use Rattle.kishu_language.specs.trees.Tree as t
use Rattle.kishu_language.specs.grammar.Language.{Tokens, Language, Many, done, more}
use Rattle.kishu_language.specs.grammar.Language as l
use Rattle.kishu_language.specs.grammar.Grammar.{exprs}
use Rattle.kishu_language.specs.grammar.Grammar as g
use Rattle.kishu_language.specs.grammar.Targets.{place, targets, is_place, is_target}
use Rattle.kishu_language.specs.grammar.Refusals.{Around}
use Rattle.kishu_language.specs.grammar.Statements as st
use Rattle.kishu_language.specs.reading.Reader.{sees, sees_one}
use Rattle.kishu_language.specs.reading.Reader as r
use Rattle.kishu_language.specs.reading.ReadExpressions.{kind_begins, begins_expr, expr_begins}
use Rattle.kishu_language.specs.reading.ReadExpressions as f
use Rattle.kishu_language.specs.reading.ReadStatements.{Assigned}
use Rattle.kishu_language.specs.reading.ReadStatements as rs
use Rattle.kishu_language_laws.specs.reading.Exact.{Reads, Begins, anything, pure_reads, where_reads, bind_reads, either_reads, begins_then, same_reads, same_begins, fewer_ends, mark_begins, one_of_reads, one_of_begins, many_reads, after}
use Rattle.kishu_language_laws.specs.reading.Follow.{kind_follow, follow, not_true}
use Rattle.kishu_language_laws.specs.reading.ExactOperators.{table_unseen}
use Rattle.kishu_language_laws.specs.reading.ExactInner.{Ends_phrase, Closer, close_exprs, marked_reads, marked_begins}
use Rattle.kishu_language_laws.specs.reading.ExactPhrases.{phrases}
use Rattle.kishu_language_laws.specs.reading.TargetTrees.{clash, place_phrase, phrase_place, targets_phrase, phrase_targets}
use Rattle.kishu_language_laws.specs.reading.Starts.{EndsSimple}

operator_closes : (k : Mark) (x : Operator) → st.update_operator k ≡ Some x → Closer k
operator_closes m.PlusAssign x h = (refl, refl)
operator_closes m.MinusAssign x h = (refl, refl)
operator_closes m.StarAssign x h = (refl, refl)
operator_closes m.FloorDivideAssign x h = (refl, refl)
operator_closes m.PercentAssign x h = (refl, refl)
operator_closes m.PowerAssign x h = (refl, refl)
operator_closes _ x h = absurd cc

operator_ends : (ts us : Tokens) (x : Operator) → l.one_of st.update_operator ts us x → Ends_phrase exprs ts
operator_ends ts us x h = (
  omega (arith, ap follow h.2 ∙ ap kind_follow h.3 ∙ (operator_closes h.1 x h.4).0),
  ap expr_begins h.2 ∙ ap (kind_begins begins_expr) h.3 ∙ (operator_closes h.1 x h.4).1,
)

module _ (around : Around) (depth : ℕ) where
  pub value_reads : {A : Type 0} (make : Expression → A) → Reads (l.◌>>=◌ (g.phrase depth exprs) (λ value. l.pure (make value))) (r.◌>>=◌ (f.phrase depth exprs) (λ value. r.pure (make value))) (Ends_phrase exprs)
  value_reads make = bind_reads (Ends_phrase exprs) ((phrases depth).reads exprs) (λ value. pure_reads) (λ a ts us b h s. subst (Ends_phrase exprs) (sym h.0) s)

  -- ---- as it is read

  abbrev update_tail : Expression → Language Statement
  update_tail first =
      l.◌>>◌ (l.where_true (is_place first)) (l.◌>>=◌ (l.one_of st.update_operator) (λ operator. l.◌>>=◌ (g.phrase depth exprs) (λ value. l.pure (t.update first operator value))))

  abbrev turn : Assigned → Language Assigned
  turn x = l.◌>>◌ (l.where_true (is_target x.1)) (l.◌>>◌ (l.mark m.Assign) (l.◌>>=◌ (g.phrase depth exprs) (λ next. l.pure (x.0 ++ x.1 ∷ [], next))))

  abbrev assign_tail : Expression → Language Statement
  assign_tail first = l.◌>>=◌ (Many turn ([], first)) (λ x. l.pure (t.assign x.0 x.1))

  abbrev as_read : Language Statement
  as_read = l.◌>>=◌ (g.phrase depth exprs) (λ first. l.◌or◌ (update_tail first) (assign_tail first))

  update_tail_reads : (first : Expression) → Reads (update_tail first) (rs.update_of around depth first) (Ends_phrase exprs)
  unfolding rs.update_of
  update_tail_reads first = bind_reads anything where_reads
      (λ _. bind_reads anything (one_of_reads st.update_operator) (λ operator. value_reads (t.update first operator)) (λ a ts us b h s. tt)) (λ a ts us b h s. tt)

  turn_reads : (x : Assigned) → Reads (turn x) (rs.assign_turn around depth x) (Ends_phrase exprs)
  turn_reads x = bind_reads anything where_reads (λ _. marked_reads m.Assign (value_reads (λ next. (x.0 ++ x.1 ∷ [], next)))) (λ a ts us b h s. tt)

  turn_sees : (x y : Assigned) (ts us : Tokens) → turn x ts us y → sees m.Assign ts ≡ true
  turn_sees x y ts us h = ap (sees m.Assign) h.2.0 ∙ mark_begins.begins h.0 h.3.0 h.3.1 h.3.2

  turn_begins : (x : Assigned) → Begins (turn x) (sees m.Assign)
  turn_begins x = record {
    begins = λ ts us y h. turn_sees x y ts us h;
    shorter = λ ts us y h. (let less = (marked_begins m.Assign (value_reads (λ next. (x.0 ++ x.1 ∷ [], next)))).shorter h.0 us y h.3 in omega (arith, less, ap length h.2.0));
  }

  turn_goes_on : (x y : Assigned) (ts us : Tokens) → turn x ts us y → Ends_phrase exprs ts
  turn_goes_on x y ts us h = close_exprs m.Assign (refl, refl) ts (turn_sees x y ts us h)

  -- what follows the value
  abbrev EndsValue : Tokens → Type 0
  EndsValue ts = Ends_phrase exprs ts × (sees m.Assign ts ≡ false)

  assign_tail_reads : (first : Expression) → Reads (assign_tail first) (rs.assignment_of around depth first) EndsValue
  unfolding rs.assignment_of
  assign_tail_reads first = bind_reads EndsValue
      (many_reads (sees m.Assign) turn (rs.assign_turn around depth) (Ends_phrase exprs) EndsValue turn_reads turn_begins (λ ts k. (k.1, k.0)) turn_goes_on ([], first))
      (λ x. pure_reads) (λ a ts us b h s. subst EndsValue (sym h.0) s)

  assign_tail_after : (first : Expression) (ts us : Tokens) (x : Statement) → assign_tail first ts us x → EndsValue us → Ends_phrase exprs ts
  assign_tail_after first ts us x h s =
      after (sees m.Assign) turn (rs.assign_turn around depth) (Ends_phrase exprs) EndsValue turn_reads turn_begins (λ ts k. (k.1, k.0)) turn_goes_on h.2 (subst EndsValue (sym h.3.0) s)

  -- no operator stands where `=` does
  no_operator : {x y : Assigned} {ts us : Tokens} → Many turn x ts us y → sees_one st.update_operator us ≡ false → sees_one st.update_operator ts ≡ false
  no_operator done s = s
  no_operator (more {a = x} {b = y} {ts = ts} {us = us} h k) s = not_true (sees_one st.update_operator ts) (λ e. clash (turn_sees x y ts us h) (table_unseen st.update_operator m.Assign ts refl e))

  ends_value : (ts : Tokens) → EndsSimple ts → EndsValue ts
  ends_value ts s = ((s.0, s.1), s.3)

  tail_reads : (first : Expression) → Reads (l.◌or◌ (update_tail first) (assign_tail first))
      (r.either (sees_one st.update_operator) (rs.update_of around depth first) (rs.assignment_of around depth first)) EndsSimple
  tail_reads first = either_reads (fewer_ends (update_tail_reads first) (λ ts s. (s.0, s.1))) (fewer_ends (assign_tail_reads first) ends_value)
      (λ ts us a h s. ap (sees_one st.update_operator) h.2.0 ∙ (one_of_begins st.update_operator).begins h.0 h.3.0 h.3.1 h.3.2)
      (λ ts us a h s. no_operator h.2 (ap (sees_one st.update_operator) h.3.0 ∙ s.4))

  tail_ends : (first : Expression) (ts us : Tokens) (x : Statement) → l.◌or◌ (update_tail first) (assign_tail first) ts us x → EndsSimple us → Ends_phrase exprs ts
  tail_ends first ts us x h s = ⊎_elim
      (λ k. subst (Ends_phrase exprs) (sym k.2.0) (operator_ends k.0 k.3.0 k.3.1 k.3.2))
      (λ k. assign_tail_after first ts us x k (ends_value us s)) h

  as_read_reads : Reads as_read (rs.update_or_assignment around depth) EndsSimple
  unfolding rs.update_or_assignment
  as_read_reads = bind_reads (Ends_phrase exprs) ((phrases depth).reads exprs) tail_reads tail_ends

  as_read_begins : Begins as_read expr_begins
  as_read_begins = begins_then _ EndsSimple ((phrases depth).begins exprs) tail_reads

  -- ---- as the grammar has it

  -- targets "="
  abbrev assigned : Language Expression
  assigned = l.◌>>=◌ (targets depth) (λ found. l.◌>>◌ (l.mark m.Assign) (l.pure found))

  as_values : (found : List Expression) (x : Assigned) (ts mid us : Tokens) → Many (l.one_more assigned) found ts mid x.0 → g.phrase depth exprs mid us x.1
      → (next : Tokens) × (first : Expression) × g.phrase depth exprs ts next first × Many turn (found, first) next us x
  as_values found x ts mid us done value = (us, x.1, value, done)
  as_values found x ts mid us (more {b = all} {us = vs} h k) value =
      let rest = as_values all x vs mid us k value in
      let one = h.2 in
      let equals = one.3 in
      let target = targets_phrase depth ts one.0 one.1 one.2 in (
        one.0,
        one.1,
        target.0,
        more (
          one.0,
          tt,
          (refl, target.1),
          (
            equals.0,
            equals.1,
            equals.2,
            (rest.0, rest.1, subst (λ (v : Tokens). g.phrase depth exprs v rest.0 rest.1) (sym (equals.3.0 ∙ h.3.0)) rest.2, (refl, λ i. ((ap (λ e. found ++ e ∷ []) equals.3.1 ∙ h.3.1) i, rest.1))),
          ),
        ) rest.3,
      )

  as_targets : (x y : Assigned) (ts next us : Tokens) → g.phrase depth exprs ts next x.1 → Many turn x next us y
      → (mid : Tokens) × Many (l.one_more assigned) x.0 ts mid y.0 × g.phrase depth exprs mid us y.1
  as_targets x y ts next us first done = (ts, done, first)
  as_targets x y ts next us first (more {b = z} {us = vs} h k) =
      let equals = h.3 in
      let value : g.phrase depth exprs equals.0 vs z.1 = subst (λ (v : Tokens × Expression). g.phrase depth exprs equals.0 v.0 v.1) (λ i. (equals.3.3.0 i, (equals.3.3.1 i).1)) equals.3.2 in
      let rest = as_targets z y equals.0 vs us value k in
      let at : l.mark m.Assign next equals.0 equals.1 = subst (λ (v : Tokens). l.mark m.Assign v equals.0 equals.1) (sym h.2.0) equals.2 in
      (rest.0, more (equals.0, x.1, (next, x.1, phrase_targets depth ts next x.1 first h.2.1, (equals.0, equals.1, at, (refl, refl))), (refl, λ i. (equals.3.3.1 i).0)) rest.1, rest.2)

  of_read : (ts us : Tokens) (x : Statement) → as_read ts us x → l.◌or◌ (st.update around depth) (st.assignment around depth) ts us x
  unfolding st.update st.assignment
  of_read ts us x h = ⊎_elim
      (λ k. inl (k.0, h.1, subst (λ (v : Tokens). place depth ts v h.1) k.2.0 (phrase_place depth ts h.0 h.1 h.2 k.2.1), k.3))
      (λ k. (let found = as_targets ([], h.1) k.1 ts h.0 k.0 h.2 k.2 in inr (found.0, k.1.0, found.1, (k.0, k.1.1, found.2, k.3)))) h.3

  to_read : (ts us : Tokens) (x : Statement) → l.◌or◌ (st.update around depth) (st.assignment around depth) ts us x → as_read ts us x
  unfolding st.update st.assignment
  to_read ts us x h = ⊎_elim
      (λ k. (let at = place_phrase depth ts k.0 k.1 k.2 in (k.0, k.1, at.0, inl (k.0, tt, (refl, at.1), k.3))))
      (λ k. (let found = as_values [] (k.1, k.3.1) ts k.0 k.3.0 k.2 k.3.2 in (found.0, found.1, found.2, inr (k.3.0, (k.1, k.3.1), found.3, k.3.3)))) h

  pub assign_reads : Reads (l.◌or◌ (st.update around depth) (st.assignment around depth)) (rs.update_or_assignment around depth) EndsSimple
  assign_reads = same_reads as_read_reads of_read to_read

  pub assign_begins : Begins (l.◌or◌ (st.update around depth) (st.assignment around depth)) expr_begins
  assign_begins = same_begins as_read_begins to_read

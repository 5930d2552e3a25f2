-- Each level of expressions is read exactly.
use Rattle.std.specs.Prelude.{◌≡◌, Bool, true, false, List, [], ◌∷◌, None, is_some}
use Rattle.std.proofs.Common.{refl, sym, ap, subst, arith, ⊎_elim}
use Rattle.kishu_language.specs.declared.token.Mark.{Mark}
use Rattle.kishu_language.specs.declared.token.Mark.TheVariants as m
use Rattle.kishu_language.specs.declared.tree.Sign.{Sign}
use Rattle.kishu_language.specs.tokens.Layout.{Kind}
use Rattle.kishu_language.specs.tokens.Layout as kind
use Rattle.kishu_language.specs.trees.Tree.{Expression, Trailer}
use Rattle.kishu_language.specs.trees.Tree as t
use Rattle.kishu_language.specs.grammar.Language.{Tokens, Language}
use Rattle.kishu_language.specs.grammar.Language as l
use Rattle.kishu_language.specs.grammar.Grammar.{Phrase, exprs, expr, negated, unary}
use Rattle.kishu_language.specs.grammar.Grammar as g
use Rattle.kishu_language.specs.reading.Reader.{Reader, sees, sees_one}
use Rattle.kishu_language.specs.reading.Reader as r
use Rattle.kishu_language.specs.reading.ReadExpressions.{starts_with, begins_operand, begins_unary, begins_expr, expr_begins, begins_trailer, begins_comparison}
use Rattle.kishu_language.specs.reading.ReadExpressions as f
use Rattle.kishu_language_laws.specs.reading.Exact.{Reads, Begins, anything, pure_reads, bind_reads, either_reads, either_swapped, begins_then, begins_or, begins_by, fewer_ends, mark_reads, mark_begins, one_of_reads, one_of_begins, list_reads, list_after}
use Rattle.kishu_language_laws.specs.reading.Follow.{Stop, sees_follow, sees_starts, stop_sees, starts_unseen, sees_one_follow, stop_sees_one, operand_is_unary, unary_is_expr}
use Rattle.kishu_language_laws.specs.reading.ExactLists.{operated_reads, operated_begins, listed_reads, listed_begins}
use Rattle.kishu_language_laws.specs.reading.ExactOperators.{sum_bound, product_bound, comparison_bound, trailer_bound, NoNot, comparison_reads, comparison_begins}
use Rattle.kishu_language_laws.specs.reading.ExactInner.{Ends_phrase, comma_expr, Inner, marked_reads, marked_begins}
use Rattle.kishu_language_laws.specs.reading.ExactTrailers.{trailer_reads, trailer_begins}
use Rattle.kishu_language_laws.specs.reading.ExactAtoms.{atom_reads, atom_begins}

-- an operand begins with no sign, and a sign begins an operand
no_sign : (k : Mark) → begins_operand k ≡ true → g.sign k ≡ None
no_sign m.Plus h = absurd cc
no_sign m.Minus h = absurd cc
no_sign _ h = refl

sign_unary : (k : Mark) → is_some (g.sign k) ≡ true → begins_unary k ≡ true
sign_unary m.Plus h = refl
sign_unary m.Minus h = refl
sign_unary _ h = absurd cc

operand_no_sign : (ts : Tokens) → starts_with begins_operand ts ≡ true → sees_one g.sign ts ≡ false
operand_no_sign [] h = refl
operand_no_sign (u ∷ ts) h = by_kind u.kind h
  where
    by_kind : (k : Kind) → f.kind_begins begins_operand k ≡ true → is_some (r.in_table g.sign k) ≡ false
    by_kind (kind.mark k) h = ap is_some (no_sign k h)
    by_kind (kind.name x) h = refl
    by_kind (kind.integer z) h = refl
    by_kind (kind.quoted x) h = refl
    by_kind kind.newline h = refl
    by_kind kind.indent h = refl
    by_kind kind.dedent h = refl

sign_is_unary : (ts : Tokens) → sees_one g.sign ts ≡ true → starts_with begins_unary ts ≡ true
sign_is_unary [] h = absurd cc
sign_is_unary (u ∷ ts) h = by_kind u.kind h
  where
    by_kind : (k : Kind) → is_some (r.in_table g.sign k) ≡ true → f.kind_begins begins_unary k ≡ true
    by_kind (kind.mark k) h = sign_unary k h
    by_kind (kind.name x) h = absurd cc
    by_kind (kind.integer z) h = absurd cc
    by_kind (kind.quoted x) h = absurd cc
    by_kind kind.newline h = absurd cc
    by_kind kind.indent h = absurd cc
    by_kind kind.dedent h = absurd cc

module _ (room : Bool) (inner : Phrase → Language Expression) (read : Phrase → Reader Expression) (deeper : Inner inner read) where
  trailer_end : (ts : Tokens) → Stop 1 ts → (sees_one begins_trailer ts ≡ false) × Stop 0 ts
  trailer_end ts s = (stop_sees_one begins_trailer 1 trailer_bound ts s, omega arith)

  trailer_goes_on : (ts us : Tokens) (a : Trailer) → g.trailer room inner ts us a → Stop 0 ts
  trailer_goes_on ts us a h = omega (arith, sees_one_follow begins_trailer 1 trailer_bound ts ((trailer_begins room inner read deeper).begins ts us a h))

  trailers_reads : Reads (l.many (g.trailer room inner)) (r.many (sees_one begins_trailer) (f.trailer room read)) (Stop 1)
  trailers_reads = list_reads (Stop 0) (fewer_ends (trailer_reads room inner read deeper) (λ ts s. tt)) (sees_one begins_trailer) (Stop 1) (trailer_begins room inner read deeper) trailer_end trailer_goes_on []

  found_reads_of : (first : Expression) → Reads {A = Expression × List Trailer} (l.◌>>=◌ (l.many (g.trailer room inner)) (λ found. l.pure (first, found)))
      (r.◌>>=◌ (r.many (sees_one begins_trailer) (f.trailer room read)) (λ found. r.pure (first, found))) (Stop 1)
  found_reads_of first = bind_reads (Stop 1) trailers_reads (λ found. pure_reads) (λ a ts us b h s. subst (Stop 1) (sym h.0) s)

  primary_parts_reads : Reads (g.primary_parts room inner) (f.primary_parts room read) (Stop 1)
  unfolding g.primary_parts f.primary_parts
  primary_parts_reads = bind_reads (Stop 0) (atom_reads room inner read deeper) found_reads_of
      (λ first ts us b h s. list_after (Stop 0) (fewer_ends (trailer_reads room inner read deeper) (λ ts s. tt)) (sees_one begins_trailer) (Stop 1) (trailer_begins room inner read deeper) trailer_end trailer_goes_on [] h.1 ts h.0 h.2 (subst (Stop 1) (sym h.3.0) s))

  primary_parts_begins : Begins (g.primary_parts room inner) (starts_with begins_operand)
  unfolding g.primary_parts
  primary_parts_begins = begins_then _ (Stop 1) (atom_begins room inner read deeper) found_reads_of

  pub primary_reads : Reads (g.primary room inner) (f.primary room read) (Stop 1)
  unfolding g.primary f.primary
  primary_reads = bind_reads (Stop 1) primary_parts_reads (λ parts. pure_reads) (λ a ts us b h s. subst (Stop 1) (sym h.0) s)

  pub primary_begins : Begins (g.primary room inner) (starts_with begins_operand)
  unfolding g.primary
  primary_begins = begins_then _ (Stop 1) primary_parts_begins (λ parts. pure_reads)

  raised_reads : (base : Expression) → Reads (l.◌or◌ (l.pure base) (l.◌>>◌ (l.mark m.Power) (l.◌>>=◌ (inner unary) (λ exponent. l.pure (t.power base exponent)))))
      (r.either (sees m.Power) (r.◌>>◌ (r.mark m.Power) (r.◌>>=◌ (read unary) (λ exponent. r.pure (t.power base exponent)))) (r.pure base)) (Stop 2)
  raised_reads base = either_swapped
      (bind_reads anything mark_reads (λ _. bind_reads (Stop 2) (deeper.reads unary) (λ _. pure_reads) (λ a ts us b h s. subst (Stop 2) (sym h.0) s)) (λ a ts us b h s. tt))
      pure_reads (λ ts us a h s. mark_begins.begins ts h.0 h.1 h.2) (λ ts us a h s. subst (λ v. sees m.Power v ≡ false) (sym h.0) (stop_sees 2 m.Power us s (omega arith)))

  raised_ends : (base : Expression) (ts us : Tokens) (b : Expression) → l.◌or◌ (l.pure base) (l.◌>>◌ (l.mark m.Power) (l.◌>>=◌ (inner unary) (λ exponent. l.pure (t.power base exponent)))) ts us b → Stop 2 us → Stop 1 ts
  raised_ends base ts us b h s = ⊎_elim (λ k. subst (Stop 1) (sym k.0) (omega arith)) (λ k. omega (arith, sees_follow m.Power ts (mark_begins.begins ts k.0 k.1 k.2))) h

  power_reads : Reads (g.power room inner) (f.power room read) (Stop 2)
  unfolding g.power f.power
  power_reads = bind_reads (Stop 1) primary_reads raised_reads raised_ends

  power_begins : Begins (g.power room inner) (starts_with begins_operand)
  unfolding g.power
  power_begins = begins_then _ (Stop 2) primary_begins raised_reads

  signed_tail : (before : Sign) → Reads (l.◌>>=◌ (inner unary) (λ operand. l.pure (t.signed before operand))) (r.◌>>=◌ (read unary) (λ operand. r.pure (t.signed before operand))) (Stop 2)
  signed_tail before = bind_reads (Stop 2) (deeper.reads unary) (λ _. pure_reads) (λ a ts us b h s. subst (Stop 2) (sym h.0) s)

  pub unary_reads : Reads (g.unary_level room inner) (f.unary_level room read) (Stop 2)
  unfolding g.unary_level f.unary_level
  unary_reads = either_reads (bind_reads anything (one_of_reads g.sign) signed_tail (λ a ts us b h s. tt)) power_reads
      (λ ts us a h s. (one_of_begins g.sign).begins ts h.0 h.1 h.2) (λ ts us a h s. operand_no_sign ts (power_begins.begins ts us a h))

  pub unary_begins : Begins (g.unary_level room inner) (starts_with begins_unary)
  unfolding g.unary_level
  unary_begins = begins_or (begins_by (begins_then _ (Stop 2) (one_of_begins g.sign) signed_tail) sign_is_unary) (begins_by power_begins operand_is_unary)

  term_reads : Reads (g.term room inner) (f.term room read) (Stop 3)
  unfolding g.term f.term
  term_reads = operated_reads (g.unary_level room inner) (f.unary_level room read) 2 (starts_with begins_unary) (l.one_of g.product_operator) (r.one_of g.product_operator) (sees_one g.product_operator) anything g.multiplied unary_reads unary_begins (one_of_reads g.product_operator) (one_of_begins g.product_operator) (sees_one_follow g.product_operator 3 product_bound) (λ ts h. tt)

  term_begins : Begins (g.term room inner) (starts_with begins_unary)
  unfolding g.term
  term_begins = operated_begins (g.unary_level room inner) (f.unary_level room read) 2 (starts_with begins_unary) (l.one_of g.product_operator) (r.one_of g.product_operator) (sees_one g.product_operator) anything g.multiplied unary_reads unary_begins (one_of_reads g.product_operator) (one_of_begins g.product_operator) (sees_one_follow g.product_operator 3 product_bound) (λ ts h. tt)

  sum_reads : Reads (g.sum room inner) (f.sum room read) (Stop 4)
  unfolding g.sum f.sum
  sum_reads = operated_reads (g.term room inner) (f.term room read) 3 (starts_with begins_unary) (l.one_of g.sum_operator) (r.one_of g.sum_operator) (sees_one g.sum_operator) anything g.summed term_reads term_begins (one_of_reads g.sum_operator) (one_of_begins g.sum_operator) (sees_one_follow g.sum_operator 4 sum_bound) (λ ts h. tt)

  sum_begins : Begins (g.sum room inner) (starts_with begins_unary)
  unfolding g.sum
  sum_begins = operated_begins (g.term room inner) (f.term room read) 3 (starts_with begins_unary) (l.one_of g.sum_operator) (r.one_of g.sum_operator) (sees_one g.sum_operator) anything g.summed term_reads term_begins (one_of_reads g.sum_operator) (one_of_begins g.sum_operator) (sees_one_follow g.sum_operator 4 sum_bound) (λ ts h. tt)

  compared_reads : Reads (g.compared room inner) (f.compared room read) (Stop 5)
  unfolding g.compared f.compared
  compared_reads = operated_reads (g.sum room inner) (f.sum room read) 4 (starts_with begins_unary) g.comparison f.comparison (sees_one begins_comparison) NoNot g.compared_with sum_reads sum_begins comparison_reads comparison_begins (sees_one_follow begins_comparison 5 comparison_bound) (λ ts h. starts_unseen begins_unary m.Not ts h refl)

  compared_begins : Begins (g.compared room inner) (starts_with begins_unary)
  unfolding g.compared
  compared_begins = operated_begins (g.sum room inner) (f.sum room read) 4 (starts_with begins_unary) g.comparison f.comparison (sees_one begins_comparison) NoNot g.compared_with sum_reads sum_begins comparison_reads comparison_begins (sees_one_follow begins_comparison 5 comparison_bound) (λ ts h. starts_unseen begins_unary m.Not ts h refl)

  not_tail : Reads (l.◌>>=◌ (inner negated) (λ operand. l.pure (t.not operand))) (r.◌>>=◌ (read negated) (λ operand. r.pure (t.not operand))) (Stop 5)
  not_tail = bind_reads (Stop 5) (deeper.reads negated) (λ _. pure_reads) (λ a ts us b h s. subst (Stop 5) (sym h.0) s)

  pub negated_reads : Reads (g.negated_level room inner) (f.negated_level room read) (Stop 5)
  unfolding g.negated_level f.negated_level
  negated_reads = either_reads (marked_reads m.Not not_tail) compared_reads
      (λ ts us a h s. mark_begins.begins ts h.0 h.1 h.2) (λ ts us a h s. starts_unseen begins_unary m.Not ts (compared_begins.begins ts us a h) refl)

  pub negated_begins : Begins (g.negated_level room inner) expr_begins
  unfolding g.negated_level
  negated_begins = begins_or (begins_by (marked_begins m.Not not_tail) (λ ts h. sees_starts begins_expr m.Not ts h)) (begins_by compared_begins unary_is_expr)

  conjunction_reads : Reads (g.conjunction room inner) (f.conjunction room read) (Stop 6)
  unfolding g.conjunction f.conjunction
  conjunction_reads = operated_reads (g.negated_level room inner) (f.negated_level room read) 5 expr_begins (l.mark m.And) (r.mark m.And) (sees m.And) anything g.all_of negated_reads negated_begins mark_reads mark_begins (sees_follow m.And) (λ ts h. tt)

  conjunction_begins : Begins (g.conjunction room inner) expr_begins
  unfolding g.conjunction
  conjunction_begins = operated_begins (g.negated_level room inner) (f.negated_level room read) 5 expr_begins (l.mark m.And) (r.mark m.And) (sees m.And) anything g.all_of negated_reads negated_begins mark_reads mark_begins (sees_follow m.And) (λ ts h. tt)

  disjunction_reads : Reads (g.disjunction room inner) (f.disjunction room read) (Stop 7)
  unfolding g.disjunction f.disjunction
  disjunction_reads = operated_reads (g.conjunction room inner) (f.conjunction room read) 6 expr_begins (l.mark m.Or) (r.mark m.Or) (sees m.Or) anything g.any_of conjunction_reads conjunction_begins mark_reads mark_begins (sees_follow m.Or) (λ ts h. tt)

  disjunction_begins : Begins (g.disjunction room inner) expr_begins
  unfolding g.disjunction
  disjunction_begins = operated_begins (g.conjunction room inner) (f.conjunction room read) 6 expr_begins (l.mark m.Or) (r.mark m.Or) (sees m.Or) anything g.any_of conjunction_reads conjunction_begins mark_reads mark_begins (sees_follow m.Or) (λ ts h. tt)

  choice_reads : (value : Expression) → Reads (l.◌or◌ (l.pure value) (l.◌>>◌ (l.mark m.If) (l.◌>>=◌ (g.disjunction room inner) (λ test. l.◌>>◌ (l.mark m.Else) (l.◌>>=◌ (inner expr) (λ other. l.pure (t.conditional value test other)))))))
      (r.either (sees m.If) (r.◌>>◌ (r.mark m.If) (r.◌>>=◌ (f.disjunction room read) (λ test. r.◌>>◌ (r.mark m.Else) (r.◌>>=◌ (read expr) (λ other. r.pure (t.conditional value test other)))))) (r.pure value)) (Stop 8)
  choice_reads value = either_swapped
      (bind_reads anything mark_reads (λ _. bind_reads (Stop 7) disjunction_reads
      (λ test. bind_reads anything mark_reads (λ _. bind_reads (Stop 8) (deeper.reads expr) (λ _. pure_reads) (λ a ts us b h s. subst (Stop 8) (sym h.0) s)) (λ a ts us b h s. tt))
      (λ test ts us b h s. omega (arith, sees_follow m.Else ts (mark_begins.begins ts h.0 h.1 h.2)))) (λ a ts us b h s. tt))
      pure_reads (λ ts us a h s. mark_begins.begins ts h.0 h.1 h.2) (λ ts us a h s. subst (λ v. sees m.If v ≡ false) (sym h.0) (stop_sees 8 m.If us s (omega arith)))

  pub expr_reads : Reads (g.expr_level room inner) (f.expr_level room read) (Stop 8)
  unfolding g.expr_level f.expr_level
  expr_reads = bind_reads (Stop 7) disjunction_reads choice_reads
      (λ value ts us b h s. ⊎_elim (λ k. subst (Stop 7) (sym k.0) (omega arith)) (λ k. omega (arith, sees_follow m.If ts (mark_begins.begins ts k.0 k.1 k.2))) h)

  pub expr_starts : Begins (g.expr_level room inner) expr_begins
  unfolding g.expr_level
  expr_starts = begins_then _ (Stop 8) disjunction_begins choice_reads

  exprs_end : (ts : Tokens) → Ends_phrase exprs ts → (sees m.Comma ts ≡ false) × Stop 8 ts × (expr_begins ts ≡ false)
  exprs_end ts s = (stop_sees 9 m.Comma ts s.0 (omega arith), omega (arith, s.0), s.1)

  pub exprs_reads : Reads (g.exprs_level room inner) (f.exprs_level room read) (Ends_phrase exprs)
  unfolding g.exprs_level f.exprs_level
  exprs_reads = listed_reads (g.expr_level room inner) (f.expr_level room read) (Stop 8) (Ends_phrase exprs) g.alone g.several expr_reads expr_starts comma_expr exprs_end

  pub exprs_start : Begins (g.exprs_level room inner) expr_begins
  unfolding g.exprs_level
  exprs_start = listed_begins (g.expr_level room inner) (f.expr_level room read) (Stop 8) (Ends_phrase exprs) g.alone g.several expr_reads expr_starts comma_expr exprs_end

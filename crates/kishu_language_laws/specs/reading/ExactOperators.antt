-- Operators are read exactly.
use Rattle.std.specs.Prelude.{◌≡◌, true, false, Option, Some, None, is_some}
use Rattle.std.proofs.Common.{refl, sym, ap, subst, ◌∙◌, ⊎_elim}
use Rattle.kishu_language.specs.declared.token.Mark.{Mark}
use Rattle.kishu_language.specs.declared.token.Mark.TheVariants as m
use Rattle.kishu_language.specs.declared.tree.Operator.{Operator}
use Rattle.kishu_language.specs.declared.tree.Comparison.{Comparison}
use Rattle.kishu_language.specs.declared.tree.Comparison.TheVariants as comparisons
use Rattle.kishu_language.specs.tokens.Layout.{same}
use Rattle.kishu_language.specs.grammar.Language.{Tokens}
use Rattle.kishu_language.specs.grammar.Language as l
use Rattle.kishu_language.specs.grammar.Grammar as g
use Rattle.kishu_language.specs.reading.Reader.{sees, sees_one}
use Rattle.kishu_language.specs.reading.Reader as r
use Rattle.kishu_language.specs.reading.ReadExpressions.{begins_trailer, begins_comparison}
use Rattle.kishu_language.specs.reading.ReadExpressions as f
use Rattle.kishu_language_laws.specs.reading.Exact.{Reads, Begins, anything, pure_reads, bind_reads, either_reads, either_swapped, begins_then, begins_or, begins_by, mark_reads, mark_begins, one_of_reads, one_of_begins}
use Rattle.kishu_language_laws.specs.reading.Follow.{binding, not_true, sees_is}

pub sum_bound : (k : Mark) (a : Operator) → g.sum_operator k ≡ Some a → binding k ≡ 4
sum_bound m.Plus a h = refl
sum_bound m.Minus a h = refl
sum_bound _ a h = absurd cc

pub product_bound : (k : Mark) (a : Operator) → g.product_operator k ≡ Some a → binding k ≡ 3
product_bound m.Star a h = refl
product_bound m.FloorDivide a h = refl
product_bound m.Percent a h = refl
product_bound _ a h = absurd cc

pub comparison_bound : (k : Mark) (a : Unit {0}) → begins_comparison k ≡ Some a → binding k ≡ 5
comparison_bound m.Not a h = refl
comparison_bound m.Is a h = refl
comparison_bound m.Less a h = refl
comparison_bound m.LessEqual a h = refl
comparison_bound m.Greater a h = refl
comparison_bound m.GreaterEqual a h = refl
comparison_bound m.Equal a h = refl
comparison_bound m.NotEqual a h = refl
comparison_bound m.In a h = refl
comparison_bound _ a h = absurd cc

pub trailer_bound : (k : Mark) (a : Unit {0}) → begins_trailer k ≡ Some a → binding k ≡ 1
trailer_bound m.Dot a h = refl
trailer_bound m.LeftParenthesis a h = refl
trailer_bound m.LeftBracket a h = refl
trailer_bound _ a h = absurd cc

-- where the one mark is met, the other isn't
pub other_mark : (k n : Mark) (ts : Tokens) → sees k ts ≡ true → same k n ≡ false → sees n ts ≡ false
other_mark k n ts h differ = let p = sees_is k ts h in
    ap (sees n) p.1 ∙ ap (λ c. is_some (r.is_mark n c)) p.2 ∙ ap (λ b. is_some (r.where_so b)) differ

pub sees_table : {A : Type 0} (table : Mark → Option A) (k : Mark) (a : A) (ts : Tokens) → table k ≡ Some a → sees k ts ≡ true → sees_one table ts ≡ true
sees_table table k a ts is h = let p = sees_is k ts h in
    ap (sees_one table) p.1 ∙ ap (λ c. is_some (r.in_table table c)) p.2 ∙ ap is_some is

-- after `is` the sum that follows begins with no `not`
abbrev pub NoNot : Tokens → Type 0
NoNot ts = sees m.Not ts ≡ false

comparison_mark_bound : (k : Mark) (a : Comparison) → g.comparison_mark k ≡ Some a → begins_comparison k ≡ Some tt
comparison_mark_bound m.Less a h = refl
comparison_mark_bound m.LessEqual a h = refl
comparison_mark_bound m.Greater a h = refl
comparison_mark_bound m.GreaterEqual a h = refl
comparison_mark_bound m.Equal a h = refl
comparison_mark_bound m.NotEqual a h = refl
comparison_mark_bound m.In a h = refl
comparison_mark_bound _ a h = absurd cc

-- a mark that the table hasn't
pub table_unseen : {A : Type 0} (table : Mark → Option A) (k : Mark) (ts : Tokens) → table k ≡ None → sees_one table ts ≡ true → sees k ts ≡ false
table_unseen table k ts is h = not_true (sees k ts)
    (λ e. (let p = sees_is k ts e in let q : true ≡ false = sym h ∙ ap (sees_one table) p.1 ∙ ap (λ c. is_some (r.in_table table c)) p.2 ∙ ap is_some is in absurd cc))

not_in_reads : Reads (l.◌>>◌ (l.◌>>◌ (l.mark m.Not) (l.mark m.In)) (l.pure comparisons.NotIn)) (r.◌>>◌ (r.◌>>◌ (r.mark m.Not) (r.mark m.In)) (r.pure comparisons.NotIn)) NoNot
not_in_reads = bind_reads anything (bind_reads anything mark_reads (λ _. mark_reads) (λ a ts us b h s. tt)) (λ _. pure_reads) (λ a ts us b h s. tt)

not_in_begins : Begins (l.◌>>◌ (l.◌>>◌ (l.mark m.Not) (l.mark m.In)) (l.pure comparisons.NotIn)) (sees m.Not)
not_in_begins = begins_then _ anything (begins_then _ anything mark_begins (λ _. mark_reads)) (λ _. pure_reads)

is_tail : Reads (l.◌or◌ (l.pure comparisons.Is) (l.◌>>◌ (l.mark m.Not) (l.pure comparisons.IsNot))) (r.either (sees m.Not) (r.◌>>◌ (r.mark m.Not) (r.pure comparisons.IsNot)) (r.pure comparisons.Is)) NoNot
is_tail = either_swapped (bind_reads anything mark_reads (λ _. pure_reads) (λ a ts us b h s. tt)) pure_reads
    (λ ts us a h s. mark_begins.begins ts h.0 h.1 h.2) (λ ts us a h s. subst NoNot (sym h.0) s)

is_reads : Reads (l.◌>>◌ (l.mark m.Is) (l.◌or◌ (l.pure comparisons.Is) (l.◌>>◌ (l.mark m.Not) (l.pure comparisons.IsNot)))) (r.◌>>◌ (r.mark m.Is) (r.either (sees m.Not) (r.◌>>◌ (r.mark m.Not) (r.pure comparisons.IsNot)) (r.pure comparisons.Is))) NoNot
is_reads = bind_reads anything mark_reads (λ _. is_tail) (λ a ts us b h s. tt)

is_begins : Begins (l.◌>>◌ (l.mark m.Is) (l.◌or◌ (l.pure comparisons.Is) (l.◌>>◌ (l.mark m.Not) (l.pure comparisons.IsNot)))) (sees m.Is)
is_begins = begins_then _ NoNot mark_begins (λ _. is_tail)

pub comparison_reads : Reads g.comparison f.comparison NoNot
comparison_reads = either_reads not_in_reads
    (either_reads is_reads (one_of_reads g.comparison_mark) (λ ts us a h s. is_begins.begins ts us a h)
    (λ ts us a h s. table_unseen g.comparison_mark m.Is ts refl ((one_of_begins g.comparison_mark).begins ts us a h)))
    (λ ts us a h s. not_in_begins.begins ts us a h)
    (λ ts us a h s. ⊎_elim (λ k. other_mark m.Is m.Not ts (is_begins.begins ts us a k) refl)
    (λ k. table_unseen g.comparison_mark m.Not ts refl ((one_of_begins g.comparison_mark).begins ts us a k)) h)

pub comparison_begins : Begins g.comparison (sees_one begins_comparison)
comparison_begins = begins_or (begins_by not_in_begins (λ ts h. sees_table begins_comparison m.Not tt ts refl h))
    (begins_or (begins_by is_begins (λ ts h. sees_table begins_comparison m.Is tt ts refl h))
    (record {
      begins = λ ts us a h. ap (sees_one begins_comparison) h.2 ∙ ap (λ c. is_some (r.in_table begins_comparison c)) h.3 ∙ ap is_some (comparison_mark_bound h.1 a h.4);
      shorter = λ ts us a h. (one_of_begins g.comparison_mark).shorter ts us a h;
    }))

-- Places and targets are read exactly.
use Rattle.std.specs.Prelude.{◌≡◌, ℕ, zero, suc, Bool, true}
use Rattle.std.proofs.Common.{refl, sym, ap, subst, ◌∙◌}
use Rattle.kishu_language.specs.trees.Tree.{Expression}
use Rattle.kishu_language.specs.grammar.Language.{Tokens, Language}
use Rattle.kishu_language.specs.grammar.Language as l
use Rattle.kishu_language.specs.grammar.Grammar.{Phrase}
use Rattle.kishu_language.specs.grammar.Grammar as g
use Rattle.kishu_language.specs.grammar.Targets.{is_place, is_target}
use Rattle.kishu_language.specs.grammar.Targets as a
use Rattle.kishu_language.specs.reading.Reader.{Reader}
use Rattle.kishu_language.specs.reading.Reader as r
use Rattle.kishu_language.specs.reading.ReadExpressions.{expr_begins}
use Rattle.kishu_language.specs.reading.ReadExpressions as f
use Rattle.kishu_language.specs.reading.ReadStatements as rs
use Rattle.kishu_language_laws.specs.reading.Exact.{Reads, Begins, anything, pure_reads, none_reads, none_begins, where_reads, bind_reads, begins_by, same_reads, same_begins}
use Rattle.kishu_language_laws.specs.reading.Follow.{Stop, operand_is_unary, unary_is_expr}
use Rattle.kishu_language_laws.specs.reading.ExactInner.{Inner}
use Rattle.kishu_language_laws.specs.reading.ExactExpressions.{primary_reads, primary_begins}
use Rattle.kishu_language_laws.specs.reading.ExactPhrases.{phrases}
use Rattle.kishu_language_laws.specs.reading.TargetTrees.{phrase_fits, same_targets, place_in, primary_place, primary_target, target_primary}

module _ (room : Bool) (inner : Phrase → Language Expression) (read : Phrase → Reader Expression) (deeper : Inner inner read) (test : Expression → Bool) where
  tested : Language Expression
  tested = l.◌>>=◌ (g.primary room inner) (λ e. l.◌>>◌ (l.where_true (test e)) (l.pure e))

  tested_reads : Reads tested (r.◌>>=◌ (f.primary room read) (λ e. r.◌>>◌ (r.where_true (test e)) (r.pure e))) (Stop 1)
  unfolding tested
  tested_reads = bind_reads (Stop 1) (primary_reads room inner read deeper)
      (λ e. bind_reads anything where_reads (λ _. pure_reads) (λ a ts us b h s. tt)) (λ e ts us b h s. subst (Stop 1) (sym (h.2.0 ∙ h.3.0)) s)

  tested_is : (ts us : Tokens) (x : Expression) → tested ts us x → g.primary room inner ts us x × (test x ≡ true)
  unfolding tested
  tested_is ts us x h =
      let end = h.3 in
      (subst (λ (y : Tokens × Expression). g.primary room inner ts y.0 y.1) (λ i. ((end.2.0 ∙ end.3.0) i, end.3.1 i)) h.2, ap test (sym end.3.1) ∙ end.2.1)

  is_tested : (ts us : Tokens) (x : Expression) → g.primary room inner ts us x → test x ≡ true → tested ts us x
  unfolding tested
  is_tested ts us x h is = (us, x, h, (us, tt, (refl, is), (refl, refl)))

module _ (n : ℕ) where
  place_of : (ts us : Tokens) (x : Expression) → tested (g.has_room n) (g.phrase n) (f.phrase n) (phrases n) is_place ts us x → a.place_level (g.has_room n) (g.phrase n) ts us x
  place_of ts us x h = let p = tested_is (g.has_room n) (g.phrase n) (f.phrase n) (phrases n) is_place ts us x h in primary_place (g.has_room n) (g.phrase n) ts us x p.0 p.1

  of_place : (ts us : Tokens) (x : Expression) → a.place_level (g.has_room n) (g.phrase n) ts us x → tested (g.has_room n) (g.phrase n) (f.phrase n) (phrases n) is_place ts us x
  of_place ts us x h = let p = place_in (g.has_room n) (g.phrase n) (phrase_fits n) ts us x h in is_tested (g.has_room n) (g.phrase n) (f.phrase n) (phrases n) is_place ts us x p.0 p.1

  target_of : (ts us : Tokens) (x : Expression) → tested (g.has_room n) (g.phrase n) (f.phrase n) (phrases n) is_target ts us x → a.target_level (g.has_room n) (g.phrase n) (a.target n) ts us x
  target_of ts us x h =
      let p = tested_is (g.has_room n) (g.phrase n) (f.phrase n) (phrases n) is_target ts us x h in primary_target (g.has_room n) (g.phrase n) (a.target n) (same_targets n) (phrase_fits n) ts us x p.0 p.1

  of_target : (ts us : Tokens) (x : Expression) → a.target_level (g.has_room n) (g.phrase n) (a.target n) ts us x → tested (g.has_room n) (g.phrase n) (f.phrase n) (phrases n) is_target ts us x
  of_target ts us x h =
      let p = target_primary (g.has_room n) (g.phrase n) (a.target n) (same_targets n) (phrase_fits n) ts us x h in is_tested (g.has_room n) (g.phrase n) (f.phrase n) (phrases n) is_target ts us x p.0 p.1

  primary_starts : Begins (g.primary (g.has_room n) (g.phrase n)) expr_begins
  primary_starts = begins_by (primary_begins (g.has_room n) (g.phrase n) (f.phrase n) (phrases n)) (λ ts h. unary_is_expr ts (operand_is_unary ts h))

pub place_reads : (n : ℕ) → Reads (a.place n) (r.◌>>=◌ (rs.primary_at n) rs.where_place) (Stop 1)
unfolding a.place rs.primary_at
place_reads zero = none_reads
place_reads (suc n) = same_reads (tested_reads (g.has_room n) (g.phrase n) (f.phrase n) (phrases n) is_place) (place_of n) (of_place n)

pub place_begins : (n : ℕ) → Begins (a.place n) expr_begins
unfolding a.place
place_begins zero = none_begins
place_begins (suc n) = same_begins (primary_starts n) (λ ts us x h. (place_in (g.has_room n) (g.phrase n) (phrase_fits n) ts us x h).0)

pub target_reads : (n : ℕ) → Reads (a.target n) (r.◌>>=◌ (rs.primary_at n) rs.where_target) (Stop 1)
unfolding a.target rs.primary_at
target_reads zero = none_reads
target_reads (suc n) = same_reads (tested_reads (g.has_room n) (g.phrase n) (f.phrase n) (phrases n) is_target) (target_of n) (of_target n)

pub target_begins : (n : ℕ) → Begins (a.target n) expr_begins
unfolding a.target
target_begins zero = none_begins
target_begins (suc n) = same_begins (primary_starts n) (λ ts us x h. (target_primary (g.has_room n) (g.phrase n) (a.target n) (same_targets n) (phrase_fits n) ts us x h).0)

-- Simple statements are read exactly.
use Rattle.std.specs.Prelude.{◌≡◌, ℕ, zero, suc, ◌≤◌, Bool, true, false, not, ◌&&◌, List, [], ◌∷◌, codes, Some, None}
use Rattle.std.proofs.Common.{refl, sym, ap, subst, ◌∙◌, arith, inl, inr, ⊎_elim}
use Rattle.std.proofs.Math.Bool.{and-false}
use Rattle.kishu_language.specs.declared.token.Mark.{Mark}
use Rattle.kishu_language.specs.declared.token.Mark.TheVariants as m
use Rattle.kishu_language.specs.tokens.Layout as kind
use Rattle.kishu_language.specs.trees.Tree.{Expression, Statement}
use Rattle.kishu_language.specs.trees.Tree as t
use Rattle.kishu_language.specs.grammar.Language.{Tokens, Language, Many}
use Rattle.kishu_language.specs.grammar.Language as l
use Rattle.kishu_language.specs.grammar.Grammar.{exprs, expr}
use Rattle.kishu_language.specs.grammar.Grammar as g
use Rattle.kishu_language.specs.grammar.Targets.{place}
use Rattle.kishu_language.specs.grammar.Refusals.{Around}
use Rattle.kishu_language.specs.grammar.Statements as st
use Rattle.kishu_language.specs.reading.Reader.{rest, sees_some, sees}
use Rattle.kishu_language.specs.reading.Reader as r
use Rattle.kishu_language.specs.reading.ReadExpressions.{starts_with, expr_begins}
use Rattle.kishu_language.specs.reading.ReadExpressions as f
use Rattle.kishu_language.specs.reading.ReadStatements as rs
use Rattle.kishu_language_laws.specs.reading.Exact.{Reads, Begins, anything, pure_reads, none_reads, none_begins, where_reads, bind_reads, either_reads, either_swapped, begins_then, begins_by, same_reads, same_begins, fewer_ends, mark_reads, mark_begins, token_reads, token_begins, name_finds, list_reads, list_after, optional_reads}
use Rattle.kishu_language_laws.specs.reading.Follow.{Stop, stop_sees, sees_follow}
use Rattle.kishu_language_laws.specs.reading.ExactLists.{separated_reads}
use Rattle.kishu_language_laws.specs.reading.ExactInner.{comma_expr, marked_reads, marked_begins, name_is_expr}
use Rattle.kishu_language_laws.specs.reading.ExactPhrases.{phrases}
use Rattle.kishu_language_laws.specs.reading.ExactTargets.{place_reads, place_begins}
use Rattle.kishu_language_laws.specs.reading.Starts.{EndsSimple, semicolon_ends, newline_ends, newline_unseen, newline_finds, kind_unseen, word_finds, begins_simple, rank, expr_rank, expr_is_simple, Begun, marked, Tail, either_tail, same_tail}
use Rattle.kishu_language_laws.specs.reading.ExactAssign.{assign_reads, assign_begins}

ends_expr : (ts : Tokens) → EndsSimple ts → Stop 8 ts
ends_expr ts s = omega (arith, s.0)

-- a word that is refused where it doesn't stand right
lone_reads : (k : Mark) (b : Bool) (x : Statement) → Reads (l.◌>>◌ (l.mark k) (l.◌>>◌ (l.where_true b) (l.pure x))) (r.◌>>◌ (r.◌>>◌ (r.mark k) (r.where_true b)) (r.pure x)) EndsSimple
lone_reads k b x = same_reads
    (bind_reads anything (bind_reads anything mark_reads (λ _. where_reads) (λ a ts us c h s. tt)) (λ _. pure_reads) (λ a ts us c h s. tt))
    (λ ts us a h. (h.2.0, h.2.1, h.2.2, (h.0, h.1, h.2.3, h.3))) (λ ts us a h. (h.3.0, h.3.1, (h.0, h.1, h.2, h.3.2), h.3.3))

lone_begins : (k : Mark) (b : Bool) (x : Statement) → Begins (l.◌>>◌ (l.mark k) (l.◌>>◌ (l.where_true b) (l.pure x))) (sees k)
lone_begins k b x = begins_then _ anything mark_begins (λ _. bind_reads anything where_reads (λ _. pure_reads) (λ a ts us c h s. tt))

lone : (k : Mark) (b : Bool) (x : Statement) → Begun (l.◌>>◌ (l.mark k) (l.◌>>◌ (l.where_true b) (l.pure x))) (r.◌>>◌ (r.◌>>◌ (r.mark k) (r.where_true b)) (r.pure x)) EndsSimple (sees k)
lone k b x = record { reads = lone_reads k b x; begins = lone_begins k b x }

module _ (around : Around) (depth : ℕ) where
  pass_begun : Begun (st.pass around depth) (r.◌>>◌ (r.mark m.Pass) (r.pure t.pass)) EndsSimple (sees m.Pass)
  unfolding st.pass
  pass_begun = marked m.Pass pure_reads

  break_begun : Begun (st.break around depth) (r.◌>>◌ (r.◌>>◌ (r.mark m.Break) (r.where_true around.loop)) (r.pure t.break)) EndsSimple (sees m.Break)
  unfolding st.break
  break_begun = lone m.Break around.loop t.break

  continue_begun : Begun (st.continue around depth) (r.◌>>◌ (r.◌>>◌ (r.mark m.Continue) (r.where_true around.loop)) (r.pure t.continue)) EndsSimple (sees m.Continue)
  unfolding st.continue
  continue_begun = lone m.Continue around.loop t.continue

  return_begun : Begun (st.return around depth) (rs.return around depth) EndsSimple (sees m.Return)
  unfolding st.return rs.return
  return_begun = marked m.Return (bind_reads anything where_reads
      (λ _. bind_reads EndsSimple
      (optional_reads expr_begins EndsSimple (fewer_ends ((phrases depth).reads exprs) (λ ts s. (s.0, s.1))) ((phrases depth).begins exprs) (λ ts s. s.1))
      (λ value. pure_reads) (λ a ts us b h s. subst EndsSimple (sym h.0) s))
      (λ a ts us b h s. tt))

  raise_tail : Reads (l.◌or◌ (l.◌>>=◌ (g.phrase depth expr) (λ value. l.pure (t.raise (Some value)))) (l.◌>>◌ (l.where_true around.handler) (l.pure (t.raise None))))
      (r.either expr_begins (r.◌>>=◌ (f.phrase depth expr) (λ value. r.pure (t.raise (Some value)))) (r.◌>>◌ (r.where_true around.handler) (r.pure (t.raise None)))) EndsSimple
  raise_tail = either_reads
      (bind_reads (Stop 8) ((phrases depth).reads expr) (λ value. pure_reads) (λ a ts us b h s. subst (Stop 8) (sym h.0) (ends_expr us s)))
      (bind_reads anything where_reads (λ _. pure_reads) (λ a ts us b h s. tt))
      (λ ts us a h s. ((phrases depth).begins expr).begins ts h.0 h.1 h.2)
      (λ ts us a h s. ap expr_begins (h.2.0 ∙ h.3.0) ∙ s.1)

  of_raise : (ts us : Tokens) (a : Statement) → l.◌or◌ (st.raise_again around depth) (st.raise around depth) ts us a
      → l.◌>>◌ (l.mark m.Raise) (l.◌or◌ (l.◌>>=◌ (g.phrase depth expr) (λ value. l.pure (t.raise (Some value)))) (l.◌>>◌ (l.where_true around.handler) (l.pure (t.raise None)))) ts us a
  unfolding st.raise_again st.raise
  of_raise ts us a h = ⊎_elim (λ k. (k.0, k.1, k.2, inr k.3)) (λ k. (k.0, k.1, k.2, inl k.3)) h

  raise_begun : Begun (l.◌or◌ (st.raise_again around depth) (st.raise around depth)) (rs.raise around depth) EndsSimple (sees m.Raise)
  unfolding st.raise_again st.raise rs.raise
  raise_begun = record {
    reads = same_reads (marked_reads m.Raise raise_tail) (λ ts us a h. ⊎_elim (λ k. inr (h.0, h.1, h.2, k)) (λ k. inl (h.0, h.1, h.2, k)) h.3) of_raise;
    begins = same_begins (marked_begins m.Raise raise_tail) of_raise;
  }

  no_comma : (ts : Tokens) → EndsSimple ts → sees m.Comma ts ≡ false
  no_comma ts s = stop_sees 9 m.Comma ts s.0 (omega arith)

  no_other : (ts : Tokens) → EndsSimple ts → f.another m.Comma ts ≡ false
  unfolding f.another
  no_other ts s = ap (λ b. b && expr_begins (rest ts)) (no_comma ts s)

  message_ends : (test : Expression) (ts us : Tokens) (b : Statement)
      → l.◌>>=◌ (l.optional (l.◌>>◌ (l.mark m.Comma) (g.phrase depth expr))) (λ message. l.pure (t.assert test message)) ts us b → EndsSimple us → Stop 8 ts
  message_ends test ts us b h s = ⊎_elim
      (λ k. subst (Stop 8) (sym (k.0 ∙ h.3.0)) (ends_expr us s)) (λ k. comma_expr ts (mark_begins.begins ts k.2.0 k.2.1 k.2.2)) h.2

  assertion_begun : Begun (st.assertion around depth) (rs.assertion around depth) EndsSimple (sees m.Assert)
  unfolding st.assertion rs.assertion
  assertion_begun = marked m.Assert (bind_reads (Stop 8) ((phrases depth).reads expr)
      (λ test. bind_reads EndsSimple
      (optional_reads (sees m.Comma) EndsSimple (fewer_ends (marked_reads m.Comma ((phrases depth).reads expr)) ends_expr) (marked_begins m.Comma ((phrases depth).reads expr)) no_comma)
      (λ message. pure_reads) (λ a ts us b h s. subst EndsSimple (sym h.0) s))
      message_ends)

  delete_begun : Begun (st.delete around depth) (rs.delete around depth) EndsSimple (sees m.Del)
  unfolding st.delete rs.delete
  delete_begun = marked m.Del (bind_reads (λ ts. (f.another m.Comma ts ≡ false) × Stop 1 ts)
      (separated_reads m.Comma (place depth) (r.◌>>=◌ (rs.primary_at depth) rs.where_place) (Stop 1) (place_reads depth) (place_begins depth) (λ ts h. omega (arith, sees_follow m.Comma ts h)))
      (λ places. pure_reads) (λ a ts us b h s. (ap (f.another m.Comma) h.0 ∙ no_other us s, subst (Stop 1) (sym h.0) (omega (arith, s.0)))))

  global_begun : Begun (st.global around depth) (rs.global around depth) EndsSimple (sees m.Global)
  unfolding st.global rs.global
  global_begun = marked m.Global (bind_reads anything where_reads
      (λ _. bind_reads (λ ts. (f.another m.Comma ts ≡ false) × anything ts)
      (separated_reads m.Comma (l.token kind.name) (r.token r.a_name) anything (token_reads name_finds) (begins_by (token_begins name_finds) name_is_expr) (λ ts h. tt))
      (λ names. pure_reads) (λ a ts us b h s. (ap (f.another m.Comma) h.0 ∙ no_other us s, tt)))
      (λ a ts us b h s. tt))

  renamed_reads : Reads (l.◌>>◌ (l.mark m.As) (l.token kind.name)) (r.◌>>◌ (r.mark m.As) (r.token r.a_name)) EndsSimple
  renamed_reads = marked_reads m.As (token_reads name_finds)

  import_begun : Begun (st.import around depth) (rs.import around depth) EndsSimple (sees m.From)
  unfolding st.import rs.import
  import_begun = marked m.From (bind_reads anything (token_reads (word_finds (codes "types")))
      (λ _. marked_reads m.Import (bind_reads anything (token_reads (word_finds t.simple_namespace))
      (λ _. bind_reads EndsSimple
      (optional_reads (sees m.As) EndsSimple renamed_reads (marked_begins {T = anything} m.As (token_reads name_finds)) (λ ts s. s.2))
      (λ found. pure_reads) (λ a ts us b h s. subst EndsSimple (sym h.0) s))
      (λ a ts us b h s. tt)))
      (λ a ts us b h s. tt))

  -- ---- all of them

  assign_tail : Tail (l.◌or◌ (st.update around depth) (st.assignment around depth)) (rs.update_or_assignment around depth) EndsSimple begins_simple 14
  assign_tail = record {
    reads = assign_reads around depth;
    begins = begins_by (assign_begins around depth) expr_is_simple;
    least = λ ts us a h. omega (arith, expr_rank ts ((assign_begins around depth).begins ts us a h));
  }

  pub simple_tail : Tail (st.simple around depth) (rs.simple around depth) EndsSimple begins_simple 5
  unfolding st.simple rs.simple
  simple_tail =
      either_tail m.Pass 5 refl refl pass_begun
      (either_tail m.Break 6 refl refl break_begun
      (either_tail m.Continue 7 refl refl continue_begun
      (either_tail m.Return 8 refl refl return_begun
      (same_tail
      (either_tail m.Raise 9 refl refl raise_begun
      (either_tail m.Assert 10 refl refl assertion_begun
      (either_tail m.Del 11 refl refl delete_begun
      (either_tail m.Global 12 refl refl global_begun
      (either_tail m.From 13 refl refl import_begun assign_tail)))))
      (λ ts us a h. ⊎_elim (λ k. ⊎_elim (λ j. inl j) (λ j. inr (inl j)) k) (λ k. inr (inr k)) h)
      (λ ts us a h. ⊎_elim (λ k. inl (inl k)) (λ k. ⊎_elim (λ j. inl (inr j)) (λ j. inr j) k) h)))))

  -- ---- lines

  abbrev AtNewline : Tokens → Type 0
  AtNewline ts = sees_some r.is_newline ts ≡ true

  another_reads : Reads (l.◌>>◌ (l.mark m.Semicolon) (st.simple around depth)) (r.◌>>◌ (r.mark m.Semicolon) (rs.simple around depth)) EndsSimple
  another_reads = marked_reads m.Semicolon simple_tail.reads

  another_begins : Begins (l.◌>>◌ (l.mark m.Semicolon) (st.simple around depth)) rs.another_simple
  unfolding rs.another_simple
  another_begins = record {
    begins = λ ts us a h. (λ i. (mark_begins.begins ts h.0 h.1 h.2 i)
        && (ap (λ (v : Tokens). not (sees_some r.is_newline (rest v))) h.2.1 ∙ ap not (kind_unseen newline_finds begins_simple refl h.0 (simple_tail.begins.begins h.0 us a h.3))) i);
    shorter = λ ts us a h. (marked_begins m.Semicolon simple_tail.reads).shorter ts us a h;
  }

  -- what follows the last statement of a line
  abbrev EndsLine : Tokens → Type 0
  EndsLine ts = (rs.another_simple ts ≡ false) × EndsSimple ts

  ends_line : (ts mid us : Tokens) (a b : Unit {0}) → l.perhaps m.Semicolon ts mid a → l.newline mid us b → EndsLine ts
  unfolding rs.another_simple
  ends_line ts mid us a b h n =
      let at : sees_some r.is_newline mid ≡ true = (token_begins newline_finds).begins mid us b n in ⊎_elim
      (λ k. (let e : sees_some r.is_newline ts ≡ true = ap (sees_some r.is_newline) k.0 ∙ at in
      (ap (λ c. c && not (sees_some r.is_newline (rest ts))) (newline_unseen m.Semicolon ts e), newline_ends ts e)))
      (λ k. (
        ap (λ (v : Tokens). sees m.Semicolon v && not (sees_some r.is_newline (rest v))) k.1 ∙ ap (λ c. sees m.Semicolon (k.0 ∷ mid) && not c) at ∙ and-false (sees m.Semicolon (k.0 ∷ mid)),
        semicolon_ends ts (mark_begins.begins ts mid a k),
      )) h

  lines_reads : (all : List Statement) → Reads (Many (l.one_more (l.◌>>◌ (l.mark m.Semicolon) (st.simple around depth))) all)
      (r.turns rs.another_simple (r.one_more (r.◌>>◌ (r.mark m.Semicolon) (rs.simple around depth))) all) EndsLine
  lines_reads = list_reads EndsSimple another_reads rs.another_simple EndsLine another_begins (λ ts k. k) (λ ts us a h. semicolon_ends ts (mark_begins.begins ts h.0 h.1 h.2))

  lines_after : (a b : List Statement) (ts us : Tokens) → Many (l.one_more (l.◌>>◌ (l.mark m.Semicolon) (st.simple around depth))) a ts us b → EndsLine us → EndsSimple ts
  lines_after = list_after EndsSimple another_reads rs.another_simple EndsLine another_begins (λ ts k. k) (λ ts us a h. semicolon_ends ts (mark_begins.begins ts h.0 h.1 h.2))

  -- [ ";" ] NEWLINE
  abbrev line_end : List Statement → Language (List Statement)
  line_end all = l.◌>>◌ (l.perhaps m.Semicolon) (l.◌>>◌ l.newline (l.pure all))

  perhaps_reads : Reads (l.perhaps m.Semicolon) (r.either (sees m.Semicolon) (r.mark m.Semicolon) (r.pure tt)) AtNewline
  perhaps_reads = either_swapped mark_reads pure_reads (λ ts us a h s. mark_begins.begins ts us a h)
      (λ ts us a h s. newline_unseen m.Semicolon ts (ap (sees_some r.is_newline) h.0 ∙ s))

  line_end_reads : (all : List Statement) → Reads (line_end all) (r.◌>>◌ (r.either (sees m.Semicolon) (r.mark m.Semicolon) (r.pure tt)) (r.◌>>◌ (r.token r.is_newline) (r.pure all))) anything
  line_end_reads all = bind_reads AtNewline perhaps_reads
      (λ _. bind_reads anything (token_reads newline_finds) (λ _. pure_reads) (λ a ts us b h s. tt)) (λ a ts us b h s. (token_begins newline_finds).begins ts h.0 h.1 h.2)

  -- as it is read
  abbrev line : Language (List Statement)
  line = l.◌>>=◌ (st.simple around depth) (λ first. l.◌>>=◌ (Many (l.one_more (l.◌>>◌ (l.mark m.Semicolon) (st.simple around depth))) (first ∷ [])) line_end)

  first_reads : (first : Statement) → Reads (l.◌>>=◌ (Many (l.one_more (l.◌>>◌ (l.mark m.Semicolon) (st.simple around depth))) (first ∷ [])) line_end)
      (r.◌>>=◌ (r.turns rs.another_simple (r.one_more (r.◌>>◌ (r.mark m.Semicolon) (rs.simple around depth))) (first ∷ []))
      (λ all. r.◌>>◌ (r.either (sees m.Semicolon) (r.mark m.Semicolon) (r.pure tt)) (r.◌>>◌ (r.token r.is_newline) (r.pure all)))) anything
  first_reads first = bind_reads EndsLine (lines_reads (first ∷ [])) line_end_reads (λ all ts us b h s. ends_line ts h.0 h.3.0 h.1 h.3.1 h.2 h.3.2)

  line_reads : Reads line (rs.simples around depth) anything
  unfolding rs.simples
  line_reads = bind_reads EndsSimple simple_tail.reads first_reads
      (λ first ts us b h s. (let last = h.3 in lines_after (first ∷ []) h.1 ts h.0 h.2 (ends_line h.0 last.0 last.3.0 last.1 last.3.1 last.2 last.3.2)))

  line_begins : Begins line (starts_with begins_simple)
  line_begins = begins_then _ anything simple_tail.begins first_reads

  of_simples : (ts us : Tokens) (a : List Statement) → st.simples around depth ts us a → line ts us a
  unfolding st.simples
  of_simples ts us a h = (h.2.0, h.2.1, h.2.2, (h.0, h.1, h.2.3, h.3))

  pub simples_reads : Reads (st.simples around depth) (rs.simples around depth) anything
  unfolding st.simples
  simples_reads = same_reads line_reads (λ ts us a h. (h.3.0, h.3.1, (h.0, h.1, h.2, h.3.2), h.3.3)) of_simples

  pub simples_begins : Begins (st.simples around depth) (starts_with begins_simple)
  simples_begins = same_begins line_begins of_simples

  -- and by no word of a statement with blocks
  pub simples_least : (ts us : Tokens) (a : List Statement) → st.simples around depth ts us a → 5 ≤ rank ts
  unfolding st.simples
  simples_least ts us a h = simple_tail.least ts h.2.0 h.2.1 h.2.2

pub nested_reads : (around : Around) (n : ℕ) → Reads (st.line around n) (rs.line around n) anything
unfolding st.line rs.line
nested_reads around zero = none_reads
nested_reads around (suc n) = simples_reads around (suc n)

pub nested_begins : (around : Around) (n : ℕ) → Begins (st.line around n) (starts_with begins_simple)
unfolding st.line
nested_begins around zero = none_begins
nested_begins around (suc n) = simples_begins around (suc n)

-- Statements with blocks are read exactly.
use Rattle.std.specs.Prelude.{◌≡◌, ℕ, zero, suc, true, false, not, List, [], ◌∷◌, length, Option}
use Rattle.std.proofs.Common.{refl, sym, ap, subst, ◌∙◌, arith, ⊎_elim}
use Rattle.kishu_language.specs.declared.token.Mark.{Mark}
use Rattle.kishu_language.specs.declared.token.Mark.TheVariants as m
use Rattle.kishu_language.specs.tokens.Layout.{same}
use Rattle.kishu_language.specs.tokens.Layout as kind
use Rattle.kishu_language.specs.trees.Tree.{Text, Expression, Statement, Statements, Parameter}
use Rattle.kishu_language.specs.grammar.Language.{Tokens, Language}
use Rattle.kishu_language.specs.grammar.Language as l
use Rattle.kishu_language.specs.grammar.Grammar.{exprs, expr, alone, several, deepest}
use Rattle.kishu_language.specs.grammar.Grammar as g
use Rattle.kishu_language.specs.grammar.Targets.{target}
use Rattle.kishu_language.specs.grammar.Targets as a
use Rattle.kishu_language.specs.grammar.Refusals.{Around, in_function, in_loop, in_handler}
use Rattle.kishu_language.specs.grammar.Statements as st
use Rattle.kishu_language.specs.reading.Reader.{Reader, sees_some, sees, sees_one}
use Rattle.kishu_language.specs.reading.Reader as r
use Rattle.kishu_language.specs.reading.ReadExpressions.{starts_with, begins_expr, expr_begins}
use Rattle.kishu_language.specs.reading.ReadExpressions as f
use Rattle.kishu_language.specs.reading.ReadStatements as rs
use Rattle.kishu_language_laws.specs.reading.Exact.{Reads, Begins, anything, pure_reads, none_reads, none_begins, where_reads, bind_reads, either_reads, either_swapped, begins_then, begins_or, begins_by, fewer_ends, mark_begins, token_reads, token_begins, name_finds, list_reads, some_reads, some_begins, optional_reads, spelled_reads}
use Rattle.kishu_language_laws.specs.reading.Follow.{Stop, sees_starts, sees_follow}
use Rattle.kishu_language_laws.specs.reading.ExactLists.{listed_reads, any_listed_reads}
use Rattle.kishu_language_laws.specs.reading.ExactOperators.{other_mark, sees_table}
use Rattle.kishu_language_laws.specs.reading.ExactInner.{Ends_phrase, close_exprs, close_expr, close_list, comma_expr, marked_reads, marked_begins, name_is_expr}
use Rattle.kishu_language_laws.specs.reading.ExactTrailers.{EndsArgument}
use Rattle.kishu_language_laws.specs.reading.ExactPhrases.{phrases}
use Rattle.kishu_language_laws.specs.reading.ExactTargets.{target_reads, target_begins}
use Rattle.kishu_language_laws.specs.reading.Starts.{EndsChunk, dedent_ends, chunk_ends, no_compound, newline_finds, indent_finds, dedent_finds, kind_unseen, begins_simple, begins_chunk, simple_is_chunk, Begun, marked, Tail, either_tail, last_tail}
use Rattle.kishu_language_laws.specs.reading.ExactSimple.{nested_reads, nested_begins, simples_reads, simples_begins, simples_least}

-- a mark that isn't met
abbrev Without : Mark → Tokens → Type 0
Without k ts = sees k ts ≡ false

abbrev AtColon : Tokens → Type 0
AtColon ts = sees m.Colon ts ≡ true

abbrev AtDedent : Tokens → Type 0
AtDedent ts = sees_some r.is_dedent ts ≡ true

module _ (source : Text) (depth : ℕ) (inner : Around → Language (List Statement)) (read : Around → Reader (List Statement))
    (reads : (around : Around) → Reads (inner around) (read around) EndsChunk) (begins : (around : Around) → Begins (inner around) (starts_with begins_chunk)) where
  -- ---- blocks

  parts_reads : (around : Around) → Reads (l.some (inner around)) (r.some (λ ts. not (sees_some r.is_dedent ts)) (read around)) AtDedent
  parts_reads around = some_reads EndsChunk (reads around) (λ ts. not (sees_some r.is_dedent ts)) AtDedent
      (begins_by (begins around) (λ ts h. ap not (kind_unseen dedent_finds begins_chunk refl ts h)))
      (λ ts h. (ap not h, dedent_ends ts h)) (λ ts us a h. chunk_ends ts ((begins around).begins ts us a h))

  block_reads : (around : Around) → Reads (st.block source depth inner around) (rs.block source depth read around) anything
  unfolding st.block rs.block
  block_reads around = either_swapped
      (bind_reads anything (token_reads newline_finds)
      (λ _. bind_reads anything (token_reads indent_finds)
      (λ _. bind_reads AtDedent (parts_reads around)
      (λ parts. bind_reads anything (token_reads dedent_finds) (λ _. pure_reads) (λ a ts us b h s. tt))
      (λ parts ts us b h s. (token_begins dedent_finds).begins ts h.0 h.1 h.2))
      (λ a ts us b h s. tt))
      (λ a ts us b h s. tt))
      (bind_reads anything (nested_reads around depth) (λ all. pure_reads) (λ a ts us b h s. tt))
      (λ ts us a h s. (token_begins newline_finds).begins ts h.0 h.1 h.2)
      (λ ts us a h s. kind_unseen newline_finds begins_simple refl ts ((nested_begins around depth).begins ts h.0 h.1 h.2))

  block_after_reads : (before : Mark) (around : Around) → Reads (st.block_after source depth inner before around) (rs.block_after source depth read before around) (Without before)
  unfolding st.block_after rs.block_after
  block_after_reads before around = either_swapped
      (marked_reads before (marked_reads m.Colon (fewer_ends (block_reads around) (λ ts s. tt)))) pure_reads
      (λ ts us a h s. mark_begins.begins ts h.0 h.1 h.2) (λ ts us a h s. ap (sees before) h.0 ∙ s)

  -- before it stands no other mark
  block_after_unseen : (before k : Mark) (around : Around) → same before k ≡ false → (ts us : Tokens) (body : Statements) → st.block_after source depth inner before around ts us body → Without k us → Without k ts
  unfolding st.block_after
  block_after_unseen before k around differ ts us body h s = ⊎_elim (λ j. ap (sees k) j.0 ∙ s) (λ j. other_mark before k ts (mark_begins.begins ts j.0 j.1 j.2) differ) h

  -- ---- `if`, `while` and `for`

  arm_reads : (around : Around) → Reads (st.arm source depth inner around) (rs.arm source depth read around) anything
  unfolding st.arm rs.arm
  arm_reads around = bind_reads (Stop 8) ((phrases (suc depth)).reads expr)
      (λ test. marked_reads m.Colon (bind_reads anything (block_reads around) (λ body. pure_reads) (λ a ts us b h s. tt)))
      (λ test ts us b h s. close_expr m.Colon refl ts (mark_begins.begins ts h.0 h.1 h.2))

  elif_reads : (around : Around) → Reads (l.◌>>◌ (l.mark m.Elif) (st.arm source depth inner around)) (r.◌>>◌ (r.mark m.Elif) (rs.arm source depth read around)) anything
  elif_reads around = marked_reads m.Elif (arm_reads around)

  elif_begins : (around : Around) → Begins (l.◌>>◌ (l.mark m.Elif) (st.arm source depth inner around)) (sees m.Elif)
  elif_begins around = marked_begins m.Elif (arm_reads around)

  choice_begun : (around : Around) → Begun (st.choice source depth inner around) (rs.choice source depth read around) EndsChunk (sees m.If)
  unfolding st.choice rs.choice
  choice_begun around = marked m.If (bind_reads anything (arm_reads around)
      (λ first. bind_reads (Without m.Elif)
      (list_reads anything (elif_reads around) (sees m.Elif) (Without m.Elif) (elif_begins around) (λ ts k. (k, tt)) (λ ts us a h. tt) (first ∷ []))
      (λ all. bind_reads (Without m.Else) (block_after_reads m.Else around) (λ other. pure_reads) (λ other ts us b h s. ap (sees m.Else) h.0 ∙ s.1))
      (λ all ts us b h s. block_after_unseen m.Else m.Elif around refl ts h.0 h.1 h.2 (ap (sees m.Elif) h.3.0 ∙ s.0)))
      (λ first ts us b h s. tt))

  while_begun : (around : Around) → Begun (st.while source depth inner around) (rs.while source depth read around) EndsChunk (sees m.While)
  unfolding st.while rs.while
  while_begun around = marked m.While (bind_reads anything (arm_reads (in_loop around)) (λ found. pure_reads) (λ a ts us b h s. tt))

  abbrev AtIn : Tokens → Type 0
  AtIn ts = sees m.In ts ≡ true

  targets_reads : Reads (a.targets (suc depth)) (f.listed (r.◌>>=◌ (rs.primary_at (suc depth)) rs.where_target) alone several) AtIn
  unfolding a.targets
  targets_reads = listed_reads (target (suc depth)) (r.◌>>=◌ (rs.primary_at (suc depth)) rs.where_target) (Stop 1) AtIn alone several
      (target_reads (suc depth)) (target_begins (suc depth)) (λ ts h. omega (arith, sees_follow m.Comma ts h))
      (λ ts h. (other_mark m.In m.Comma ts h refl, omega (arith, sees_follow m.In ts h), sees_starts begins_expr m.In ts h))

  for_begun : (around : Around) → Begun (st.for source depth inner around) (rs.for source depth read around) EndsChunk (sees m.For)
  unfolding st.for rs.for
  for_begun around = marked m.For (bind_reads AtIn targets_reads
      (λ found. marked_reads m.In (bind_reads (Ends_phrase exprs) ((phrases (suc depth)).reads exprs)
      (λ walked. marked_reads m.Colon (bind_reads anything (block_reads (in_loop around)) (λ body. pure_reads) (λ a ts us b h s. tt)))
      (λ walked ts us b h s. close_exprs m.Colon (refl, refl) ts (mark_begins.begins ts h.0 h.1 h.2))))
      (λ found ts us b h s. mark_begins.begins ts h.0 h.1 h.2))

  -- ---- `try`

  named_reads : Reads (l.optional (l.◌>>◌ (l.mark m.As) (l.token kind.name))) (r.optional (sees m.As) (r.◌>>◌ (r.mark m.As) (r.token r.a_name))) (Without m.As)
  named_reads = optional_reads (sees m.As) (Without m.As) (marked_reads m.As (token_reads name_finds)) (marked_begins {T = anything} m.As (token_reads name_finds)) (λ ts s. s)

  class_reads : (class : Expression) → Reads {A = Expression × Option Text} (l.◌>>=◌ (l.optional (l.◌>>◌ (l.mark m.As) (l.token kind.name))) (λ found. l.pure (class, found)))
      (r.◌>>=◌ (r.optional (sees m.As) (r.◌>>◌ (r.mark m.As) (r.token r.a_name))) (λ found. r.pure (class, found))) AtColon
  class_reads class = bind_reads (Without m.As) named_reads (λ found. pure_reads) (λ found ts us b h s. ap (sees m.As) h.0 ∙ other_mark m.Colon m.As us s refl)

  class_ends : (class : Expression) (ts us : Tokens) (b : Expression × Option Text)
      → l.◌>>=◌ (l.optional (l.◌>>◌ (l.mark m.As) (l.token kind.name))) (λ found. l.pure {A = Expression × Option Text} (class, found)) ts us b → AtColon us → Stop 8 ts
  class_ends class ts us b h s = ⊎_elim
      (λ k. close_expr m.Colon refl ts (ap (sees m.Colon) (k.0 ∙ h.3.0) ∙ s)) (λ k. close_expr m.As refl ts (mark_begins.begins ts k.2.0 k.2.1 k.2.2)) h.2

  caught_reads : Reads (st.caught source depth inner) (rs.caught source depth read) AtColon
  unfolding st.caught rs.caught
  caught_reads = bind_reads (Stop 8) ((phrases (suc depth)).reads expr) class_reads class_ends

  caught_begins : Begins (st.caught source depth inner) expr_begins
  unfolding st.caught
  caught_begins = begins_then _ AtColon ((phrases (suc depth)).begins expr) class_reads

  handler_begun : (around : Around) → Begun (st.handler source depth inner around) (rs.handler source depth read around) anything (sees m.Except)
  unfolding st.handler rs.handler
  handler_begun around = marked m.Except (bind_reads AtColon
      (optional_reads expr_begins AtColon caught_reads caught_begins (λ ts h. sees_starts begins_expr m.Colon ts h))
      (λ found. marked_reads m.Colon (bind_reads anything (block_reads (in_handler around)) (λ body. pure_reads) (λ a ts us b h s. tt)))
      (λ found ts us b h s. mark_begins.begins ts h.0 h.1 h.2))

  handlers_reads : (around : Around) → Reads (l.some (st.handler source depth inner around)) (r.some (sees m.Except) (rs.handler source depth read around)) (Without m.Except)
  handlers_reads around = some_reads anything (handler_begun around).reads (sees m.Except) (Without m.Except) (handler_begun around).begins (λ ts k. (k, tt)) (λ ts us a h. tt)

  handlers_begin : (around : Around) → Begins (l.some (st.handler source depth inner around)) (sees m.Except)
  handlers_begin around = some_begins anything (handler_begun around).reads (sees m.Except) (Without m.Except) (handler_begun around).begins (λ ts k. (k, tt)) (λ ts us a h. tt) (handler_begun around).begins

  handled_reads : (body : Statements) (around : Around) → Reads (st.handled source depth inner body around) (rs.handled source depth read body around) EndsChunk
  unfolding st.handled rs.handled
  handled_reads body around = bind_reads (Without m.Except) (handlers_reads around)
      (λ found. bind_reads anything where_reads
      (λ _. bind_reads (Without m.Else) (block_after_reads m.Else around)
      (λ other. bind_reads (Without m.Finally) (block_after_reads m.Finally around) (λ last. pure_reads) (λ last ts us b h s. ap (sees m.Finally) h.0 ∙ s.3))
      (λ other ts us b h s. block_after_unseen m.Finally m.Else around refl ts h.0 h.1 h.2 (ap (sees m.Else) h.3.0 ∙ s.1)))
      (λ a ts us b h s. tt))
      (λ found ts us b h s. (let other = h.3 in let last = other.3 in
      ap (sees m.Except) h.2.0 ∙ block_after_unseen m.Else m.Except around refl h.0 other.0 other.1 other.2
      (block_after_unseen m.Finally m.Except around refl other.0 last.0 last.1 last.2 (ap (sees m.Except) last.3.0 ∙ s.2))))

  handled_sees : (body : Statements) (around : Around) (ts us : Tokens) (x : Statement) → st.handled source depth inner body around ts us x → sees m.Except ts ≡ true
  unfolding st.handled
  handled_sees body around ts us x h = (handlers_begin around).begins ts h.0 h.1 h.2

  finished_begun : (body : Statements) (around : Around) → Begun (st.finished source depth inner body around) (rs.finished source depth read body around) EndsChunk (sees m.Finally)
  unfolding st.finished rs.finished
  finished_begun body around = marked m.Finally (marked_reads m.Colon (bind_reads anything (block_reads around) (λ last. pure_reads) (λ a ts us b h s. tt)))

  try_begun : (around : Around) → Begun (st.try source depth inner around) (rs.try source depth read around) EndsChunk (sees m.Try)
  unfolding st.try rs.try
  try_begun around = marked m.Try (marked_reads m.Colon (bind_reads anything (block_reads around)
      (λ body. either_reads (handled_reads body around) (finished_begun body around).reads
      (λ ts us a h s. handled_sees body around ts us a h)
      (λ ts us a h s. other_mark m.Finally m.Except ts ((finished_begun body around).begins.begins ts us a h) refl))
      (λ a ts us b h s. tt)))

  -- ---- `def`

  default_reads : (x : Text) → Reads {A = Parameter} (l.◌>>=◌ (l.optional (l.◌>>◌ (l.mark m.Assign) (g.phrase depth expr))) (λ default. l.pure (x, default)))
      (r.◌>>=◌ (r.optional (sees m.Assign) (r.◌>>◌ (r.mark m.Assign) (f.phrase depth expr))) (λ default. r.pure (x, default))) EndsArgument
  default_reads x = bind_reads EndsArgument
      (optional_reads (sees m.Assign) EndsArgument (fewer_ends (marked_reads m.Assign ((phrases depth).reads expr)) (λ ts s. s.0)) (marked_begins m.Assign ((phrases depth).reads expr)) (λ ts s. s.1))
      (λ default. pure_reads) (λ a ts us b h s. subst EndsArgument (sym h.0) s)

  parameter_reads : Reads (st.parameter source depth inner) (rs.parameter source depth read) EndsArgument
  unfolding st.parameter rs.parameter
  parameter_reads = bind_reads anything (token_reads name_finds) default_reads (λ a ts us b h s. tt)

  parameter_begins : Begins (st.parameter source depth inner) expr_begins
  unfolding st.parameter
  parameter_begins = begins_by (begins_then _ EndsArgument (token_begins name_finds) default_reads) name_is_expr

  abbrev AtParenthesis : Tokens → Type 0
  AtParenthesis ts = sees m.RightParenthesis ts ≡ true

  parameters_reads : Reads (g.any_listed (st.parameter source depth inner)) (f.any_listed (rs.parameter source depth read)) AtParenthesis
  parameters_reads = any_listed_reads (st.parameter source depth inner) (rs.parameter source depth read) EndsArgument AtParenthesis parameter_reads parameter_begins
      (λ ts h. (comma_expr ts h, other_mark m.Comma m.Assign ts h refl))
      (λ ts h. (let c = close_list m.RightParenthesis (refl, refl) ts h in (c.0, (c.1, other_mark m.RightParenthesis m.Assign ts h refl), c.2)))

  definition_begun : Begun (st.definition source depth inner) (rs.definition source depth read) anything (sees m.Def)
  unfolding st.definition rs.definition
  definition_begun = marked m.Def (bind_reads anything (token_reads name_finds)
      (λ x. marked_reads m.LeftParenthesis (bind_reads AtParenthesis parameters_reads
      (λ all. marked_reads m.RightParenthesis (bind_reads anything where_reads
      (λ _. marked_reads m.Colon (bind_reads anything (block_reads in_function)
      (λ body. bind_reads anything where_reads (λ _. pure_reads) (λ a ts us b h s. tt))
      (λ a ts us b h s. tt)))
      (λ a ts us b h s. tt)))
      (λ all ts us b h s. mark_begins.begins ts h.0 h.1 h.2)))
      (λ a ts us b h s. tt))

  define_begun : (around : Around) → Begun (st.define source depth inner around) (rs.define source depth read around) EndsChunk (sees m.Def)
  unfolding st.define rs.define
  define_begun around = record {
    reads = bind_reads anything where_reads (λ _. bind_reads anything (spelled_reads definition_begun.reads) (λ found. pure_reads) (λ a ts us b h s. tt)) (λ a ts us b h s. tt);
    begins = record {
      begins = λ ts us x h. ap (sees m.Def) h.2.0 ∙ definition_begun.begins.begins h.0 h.3.0 h.3.1.0 h.3.2.0;
      shorter = λ ts us x h. omega (arith, ap length h.2.0, definition_begun.begins.shorter h.0 h.3.0 h.3.1.0 h.3.2.0, ap length h.3.3.0);
    };
  }

  -- ---- all of them

  pub compound_tail : (around : Around) → Tail (st.compound source depth inner around) (rs.compound source depth read around) EndsChunk begins_chunk 0
  unfolding st.compound rs.compound
  compound_tail around =
      either_tail m.If 0 refl refl (choice_begun around)
      (either_tail m.While 1 refl refl (while_begun around)
      (either_tail m.For 2 refl refl (for_begun around)
      (either_tail m.Try 3 refl refl (try_begun around)
      (last_tail m.Def 4 refl refl (define_begun around)))))

  pub compound_sees : (around : Around) (ts us : Tokens) (x : Statement) → st.compound source depth inner around ts us x → sees_one rs.begins_compound ts ≡ true
  unfolding st.compound
  compound_sees around ts us x h = ⊎_elim (λ k. sees_table rs.begins_compound m.If tt ts refl ((choice_begun around).begins.begins ts us x k))
      (λ h. ⊎_elim (λ k. sees_table rs.begins_compound m.While tt ts refl ((while_begun around).begins.begins ts us x k))
      (λ h. ⊎_elim (λ k. sees_table rs.begins_compound m.For tt ts refl ((for_begun around).begins.begins ts us x k))
      (λ h. ⊎_elim (λ k. sees_table rs.begins_compound m.Try tt ts refl ((try_begun around).begins.begins ts us x k))
      (λ k. sees_table rs.begins_compound m.Def tt ts refl ((define_begun around).begins.begins ts us x k)) h) h) h) h

-- ---- the whole

pub record Chunks (source : Text) (n : ℕ) : Type 0 where
  pub reads : (around : Around) → Reads (st.chunk source n around) (rs.chunk source n around) EndsChunk
  pub begins : (around : Around) → Begins (st.chunk source n around) (starts_with begins_chunk)

pub chunks_read : (source : Text) (n : ℕ) → Chunks source n
unfolding st.chunk rs.chunk
chunks_read source zero = record { reads = λ around. none_reads; begins = λ around. none_begins }
chunks_read source (suc n) =
    let below = chunks_read source n in
    let compound = compound_tail source n (st.chunk source n) (rs.chunk source n) below.reads below.begins in
    record {
      reads = λ around. either_swapped
          (bind_reads EndsChunk (compound around).reads (λ found. pure_reads) (λ a ts us b h s. subst EndsChunk (sym h.0) s))
          (fewer_ends (simples_reads around (suc n)) (λ ts s. tt))
          (λ ts us a h s. compound_sees source n (st.chunk source n) (rs.chunk source n) below.reads below.begins around ts h.0 h.1 h.2)
          (λ ts us a h s. no_compound ts (simples_least around (suc n) ts us a h));
      begins = λ around. begins_or (begins_by (simples_begins around (suc n)) simple_is_chunk)
          (begins_then (λ found. r.pure (found ∷ [])) anything (compound around).begins (λ found. pure_reads));
    }

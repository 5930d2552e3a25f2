-- The tokens of a function are those of one function, to its end.
use Rattle.std.specs.Prelude.{◌≡◌, ℕ, zero, suc, true, false, cond, List, [], ◌∷◌}
use Rattle.std.proofs.Common.{refl, ap, ◌∙◌, ⊎_elim}
use Rattle.kishu_language.specs.declared.token.Mark.{Mark}
use Rattle.kishu_language.specs.declared.token.Mark.TheVariants as m
use Rattle.kishu_language.specs.tokens.Layout as kind
use Rattle.kishu_language.specs.tokens.Layout.{Token}
use Rattle.kishu_language.specs.trees.Tree.{Text, Statement, Statements, Definition}
use Rattle.kishu_language.specs.grammar.Language.{Tokens, Language, Many, done, more}
use Rattle.kishu_language.specs.grammar.Language as l
use Rattle.kishu_language.specs.grammar.Grammar.{exprs, expr}
use Rattle.kishu_language.specs.grammar.Refusals.{Around, in_function, in_loop, in_handler}
use Rattle.kishu_language.specs.grammar.Statements as st
use Rattle.kishu_language_laws.specs.codes.CodeTokens.{is_indent, line_ended, taken, is_rest, one_token, opens, shuts, IsEven, even_pure, even_none, even_where, even_then, even_or, even_token, even_mark, even_name, even_one_of, even_more, even_optional, even_separated, even_any_listed, even_phrase, even_place, even_targets}

-- Where a block is open, no more and no fewer are so after these tokens.
record IsLevel {A : Type 0} (p : Language A) : Type 0 where
  same : (ts us : Tokens) (a : A) (n : ℕ) → p ts us a → is_rest ts [] (suc n) ≡ is_rest us [] (suc n)

level_of : {A : Type 0} {p : Language A} → IsEven p → IsLevel p
level_of even = record { same = λ ts us a n h. even.same ts us a [] (suc n) h }

level_pure : {A : Type 0} {a : A} → IsLevel (l.pure a)
level_pure = level_of even_pure

level_none : {A : Type 0} → IsLevel (l.none {A = A})
level_none = level_of even_none

level_then : {A B : Type 0} {p : Language A} {q : A → Language B} → IsLevel p → ((a : A) → IsLevel (q a)) → IsLevel (l.◌>>=◌ p q)
level_then first second = record { same = λ ts us b n h. first.same ts h.0 h.1 n h.2 ∙ (second h.1).same h.0 us b n h.3 }

level_or : {A : Type 0} {p q : Language A} → IsLevel p → IsLevel q → IsLevel (l.◌or◌ p q)
level_or first second = record { same = λ ts us a n h. ⊎_elim (first.same ts us a n) (second.same ts us a n) h }

level_spelled : {A : Type 0} {p : Language A} → IsLevel p → IsLevel (l.spelled p)
level_spelled first = record { same = λ ts us a n h. first.same ts us a.0 n h.0 }

many_level : {A : Type 0} {step : A → Language A} → ((a : A) → IsLevel (step a)) → {a b : A} {ts us : Tokens} (n : ℕ) → Many step a ts us b → is_rest ts [] (suc n) ≡ is_rest us [] (suc n)
many_level each n done = refl
many_level each n (more {a = a} h k) = (each a).same _ _ _ n h ∙ many_level each n k

level_more : {A : Type 0} {item : Language A} {all : List A} → IsLevel item → IsLevel (Many (l.one_more item) all)
level_more each = record { same = λ ts us a n h. many_level (λ all. level_then each (λ next. level_pure)) n h }

level_some : {A : Type 0} {item : Language A} → IsLevel item → IsLevel (l.some item)
level_some each = level_then each (λ first. level_more each)

level_newline : IsLevel l.newline
level_newline = record { same = λ ts us a n h. one_token kind.newline ts us [] (suc n) h }

-- ---- lines

module _ (around : Around) (depth : ℕ) where
  even_simple : IsEven (st.simple around depth)
  unfolding st.simple st.pass st.break st.continue st.return st.raise_again st.raise st.assertion st.delete st.global st.import st.update st.assignment
  even_simple =
      even_or (even_then (even_mark (refl, refl)) (λ _. even_pure))
      (even_or (even_then (even_mark (refl, refl)) (λ _. even_then even_where (λ _. even_pure)))
      (even_or (even_then (even_mark (refl, refl)) (λ _. even_then even_where (λ _. even_pure)))
      (even_or (even_then (even_mark (refl, refl)) (λ _. even_then even_where (λ _. even_then (even_optional (even_phrase depth exprs)) (λ value. even_pure))))
      (even_or (even_then (even_mark (refl, refl)) (λ _. even_then even_where (λ _. even_pure)))
      (even_or (even_then (even_mark (refl, refl)) (λ _. even_then (even_phrase depth expr) (λ value. even_pure)))
      (even_or (even_then (even_mark (refl, refl)) (λ _. even_then (even_phrase depth expr) (λ test. even_then (even_optional (even_then (even_mark (refl, refl)) (λ _. even_phrase depth expr))) (λ message. even_pure))))
      (even_or (even_then (even_mark (refl, refl)) (λ _. even_then (even_separated (refl, refl) (even_place depth)) (λ places. even_pure)))
      (even_or (even_then (even_mark (refl, refl)) (λ _. even_then even_where (λ _. even_then (even_separated (refl, refl) even_name) (λ names. even_pure))))
      (even_or (even_then (even_mark (refl, refl)) (λ _. even_then (even_token (λ a bs n ts rest. refl)) (λ _. even_then (even_mark (refl, refl)) (λ _. even_then (even_token (λ a bs n ts rest. refl))
      (λ _. even_then (even_optional (even_then (even_mark (refl, refl)) (λ _. even_name))) (λ found. even_pure))))))
      (even_or (even_then (even_place depth) (λ at. even_then (even_one_of ((refl, refl, refl), (refl, refl, refl))) (λ operator. even_then (even_phrase depth exprs) (λ value. even_pure))))
      (even_then (even_more (even_then (even_targets depth) (λ found. even_then (even_mark (refl, refl)) (λ _. even_pure)))) (λ all. even_then (even_phrase depth exprs) (λ value. even_pure)))))))))))))

  simples_level : IsLevel (st.simples around depth)
  unfolding st.simples
  simples_level =
      level_then (level_of (even_separated (refl, refl) even_simple)) (λ all. level_then (level_of (even_or even_pure (even_mark (refl, refl)))) (λ _. level_then level_newline (λ _. level_pure)))

  -- A line ends where no block is open.
  simples_over : (ts us : Tokens) (a : List Statement) → st.simples around depth ts us a → is_rest ts [] 0 ≡ line_ended 0 us (is_rest us [] 0)
  unfolding st.simples
  simples_over ts us a h =
      let last = h.3 in
      let end = last.3 in
      (even_separated {by = m.Semicolon} (refl, refl) even_simple).same ts h.0 h.1 [] 0 h.2 ∙ (even_or even_pure (even_mark {k = m.Semicolon} (refl, refl))).same h.0 last.0 last.1 [] 0 last.2
      ∙ one_token kind.newline last.0 end.0 [] 0 end.2 ∙ ap (λ (v : Tokens). line_ended 0 v (is_rest v [] 0)) end.3.0

line_level : (around : Around) (n : ℕ) → IsLevel (st.line around n)
unfolding st.line
line_level around zero = level_none
line_level around (suc n) = simples_level around (suc n)

line_over : (around : Around) (n : ℕ) (ts us : Tokens) (a : List Statement) → st.line around n ts us a → is_rest ts [] 0 ≡ line_ended 0 us (is_rest us [] 0)
unfolding st.line
line_over around zero ts us a h = absurd h
line_over around (suc n) ts us a h = simples_over around (suc n) ts us a h

-- ---- blocks

indented : (ts us : Tokens) (a : Unit {0}) (n : ℕ) → l.indent ts us a → line_ended n ts (is_rest ts [] n) ≡ is_rest us [] (suc n)
indented ts us a zero h =
    ap (λ (v : Tokens). line_ended 0 v (is_rest v [] 0)) h.1 ∙ ap (λ b. cond b (is_rest (h.0 ∷ us) [] 0) false) (ap is_indent h.2) ∙ ap (λ k. taken k [] 0 us (λ bs n. is_rest us bs n)) h.2
indented ts us a (suc n) h = one_token kind.indent ts us [] (suc n) h

-- from the end of a line to the end of a block
block_rest : {inner : Language (List Statement)} → IsLevel inner → (n : ℕ) (ts us : Tokens) (a : Statements)
    → l.◌>>◌ l.newline (l.◌>>◌ l.indent (l.◌>>=◌ (l.some inner) (λ parts. l.◌>>◌ l.dedent (l.pure (st.in_order parts))))) ts us a → is_rest ts [] n ≡ line_ended n us (is_rest us [] n)
block_rest inner n ts us a h =
    let begun = h.3 in
    let parts = begun.3 in
    let last = parts.3 in
    one_token kind.newline ts h.0 [] n h.2 ∙ indented h.0 begun.0 begun.1 n begun.2 ∙ (level_some inner).same begun.0 parts.0 parts.1 n parts.2
    ∙ one_token kind.dedent parts.0 last.0 [] (suc n) last.2 ∙ ap (λ (v : Tokens). line_ended n v (is_rest v [] n)) last.3.0

module _ (source : Text) (depth : ℕ) (inner : Around → Language (List Statement)) (each : (around : Around) → IsLevel (inner around)) where
  block_level : (around : Around) → IsLevel (st.block source depth inner around)
  unfolding st.block
  block_level around = level_or (level_then (line_level around depth) (λ all. level_pure)) (record { same = λ ts us a n h. block_rest (each around) (suc n) ts us a h })

  block_over : (around : Around) (ts us : Tokens) (a : Statements) → st.block source depth inner around ts us a → is_rest ts [] 0 ≡ line_ended 0 us (is_rest us [] 0)
  unfolding st.block
  block_over around ts us a h = ⊎_elim
      (λ h. line_over around depth ts h.0 h.1 h.2 ∙ ap (λ (v : Tokens). line_ended 0 v (is_rest v [] 0)) h.3.0)
      (λ h. block_rest (each around) 0 ts us a h) h

  block_after_level : (k : Mark) (around : Around) → IsLevel (l.mark k) → IsLevel (st.block_after source depth inner k around)
  unfolding st.block_after
  block_after_level k around plain = level_or level_pure (level_then plain (λ _. level_then (level_of (even_mark (refl, refl))) (λ _. block_level around)))

  arm_level : (around : Around) → IsLevel (st.arm source depth inner around)
  unfolding st.arm
  arm_level around = level_then (level_of (even_phrase (suc depth) expr)) (λ test. level_then (level_of (even_mark (refl, refl))) (λ _. level_then (block_level around) (λ body. level_pure)))

  choice_level : (around : Around) → IsLevel (st.choice source depth inner around)
  unfolding st.choice
  choice_level around = level_then (level_of (even_mark (refl, refl))) (λ _. level_then (arm_level around)
      (λ first. level_then (level_more (level_then (level_of (even_mark (refl, refl))) (λ _. arm_level around))) (λ all. level_then (block_after_level m.Else around (level_of (even_mark (refl, refl)))) (λ other. level_pure))))

  while_level : (around : Around) → IsLevel (st.while source depth inner around)
  unfolding st.while
  while_level around = level_then (level_of (even_mark (refl, refl))) (λ _. level_then (arm_level (in_loop around)) (λ found. level_pure))

  for_level : (around : Around) → IsLevel (st.for source depth inner around)
  unfolding st.for
  for_level around = level_then (level_of (even_mark (refl, refl))) (λ _. level_then (level_of (even_targets (suc depth))) (λ found. level_then (level_of (even_mark (refl, refl)))
      (λ _. level_then (level_of (even_phrase (suc depth) exprs)) (λ walked. level_then (level_of (even_mark (refl, refl))) (λ _. level_then (block_level (in_loop around)) (λ body. level_pure))))))

  even_caught : IsEven (st.caught source depth inner)
  unfolding st.caught
  even_caught = even_then (even_phrase (suc depth) expr) (λ class. even_then (even_optional (even_then (even_mark (refl, refl)) (λ _. even_name))) (λ found. even_pure))

  handler_level : (around : Around) → IsLevel (st.handler source depth inner around)
  unfolding st.handler
  handler_level around = level_then (level_of (even_mark (refl, refl)))
      (λ _. level_then (level_of (even_optional even_caught)) (λ found. level_then (level_of (even_mark (refl, refl))) (λ _. level_then (block_level (in_handler around)) (λ body. level_pure))))

  handled_level : (body : Statements) (around : Around) → IsLevel (st.handled source depth inner body around)
  unfolding st.handled
  handled_level body around = level_then (level_some (handler_level around))
      (λ found. level_then (level_of even_where) (λ _. level_then (block_after_level m.Else around (level_of (even_mark (refl, refl))))
      (λ other. level_then (block_after_level m.Finally around (level_of (even_mark (refl, refl)))) (λ last. level_pure))))

  finished_level : (body : Statements) (around : Around) → IsLevel (st.finished source depth inner body around)
  unfolding st.finished
  finished_level body around = level_then (level_of (even_mark (refl, refl))) (λ _. level_then (level_of (even_mark (refl, refl))) (λ _. level_then (block_level around) (λ last. level_pure)))

  try_level : (around : Around) → IsLevel (st.try source depth inner around)
  unfolding st.try
  try_level around = level_then (level_of (even_mark (refl, refl)))
      (λ _. level_then (level_of (even_mark (refl, refl))) (λ _. level_then (block_level around) (λ body. level_or (handled_level body around) (finished_level body around))))

  even_parameter : IsEven (st.parameter source depth inner)
  unfolding st.parameter
  even_parameter = even_then even_name (λ x. even_then (even_optional (even_then (even_mark (refl, refl)) (λ _. even_phrase depth expr))) (λ default. even_pure))

  -- from `def` to the end of the function's last line
  definition_from : (n : ℕ) (ts us : Tokens) (d : Definition) → ((ts us : Tokens) (a : Statements) → st.block source depth inner in_function ts us a → is_rest ts [] n ≡ line_ended n us (is_rest us [] n))
      → st.definition source depth inner ts us d → is_rest ts [] n ≡ line_ended n us (is_rest us [] n)
  unfolding st.definition
  definition_from n ts us d over h =
      let name = h.3 in
      let begun = name.3 in
      let found = begun.3 in
      let close = found.3 in
      let fits = close.3 in
      let colon = fits.3 in
      let body = colon.3 in
      let globals = body.3 in
      (even_mark {k = m.Def} (refl, refl)).same ts h.0 h.1 [] n h.2 ∙ even_name.same h.0 name.0 name.1 [] n name.2 ∙ opens m.LeftParenthesis name.0 begun.0 begun.1 [] n refl begun.2
      ∙ (even_any_listed even_parameter).same begun.0 found.0 found.1 (m.LeftParenthesis ∷ []) n found.2 ∙ shuts m.LeftParenthesis m.RightParenthesis found.0 close.0 close.1 [] n refl refl refl close.2
      ∙ even_where.same close.0 fits.0 fits.1 [] n fits.2 ∙ (even_mark {k = m.Colon} (refl, refl)).same fits.0 colon.0 colon.1 [] n colon.2 ∙ over colon.0 body.0 body.1 body.2
      ∙ ap (λ (v : Tokens). line_ended n v (is_rest v [] n)) (globals.2.0 ∙ globals.3.0)

  define_level : (around : Around) → IsLevel (st.define source depth inner around)
  unfolding st.define
  define_level around = level_then (level_of even_where) (λ _. level_then (level_spelled (record {
    same = λ ts us d n h. definition_from (suc n) ts us d (λ ts us a h. (block_level in_function).same ts us a n h) h;
  })) (λ found. level_pure))

  compound_level : (around : Around) → IsLevel (st.compound source depth inner around)
  unfolding st.compound
  compound_level around = level_or (choice_level around) (level_or (while_level around) (level_or (for_level around) (level_or (try_level around) (define_level around))))

chunk_level : (source : Text) (n : ℕ) (around : Around) → IsLevel (st.chunk source n around)
unfolding st.chunk
chunk_level source zero around = level_none
chunk_level source (suc n) around =
    level_or (simples_level around (suc n)) (level_then (compound_level source n (st.chunk source n) (chunk_level source n) around) (λ found. level_pure))

-- ---- a function

pub definition_rest : (source : Text) (n : ℕ) (ts : Tokens) (d : Definition) → st.definition source n (st.chunk source n) ts [] d → is_rest ts [] 0 ≡ true
definition_rest source n ts d h =
    definition_from source n (st.chunk source n) (chunk_level source n) 0 ts [] d (λ ts us a h. block_over source n (st.chunk source n) (chunk_level source n) in_function ts us a h) h

-- It begins with `def`.
pub definition_first : (source : Text) (n : ℕ) (ts us : Tokens) (d : Definition) → st.definition source n (st.chunk source n) ts us d → (t : Token) × (rest : Tokens) × (ts ≡ t ∷ rest) × (t.kind ≡ kind.mark m.Def)
unfolding st.definition
definition_first source n ts us d h = (h.2.0, h.0, h.2.1, h.2.2)

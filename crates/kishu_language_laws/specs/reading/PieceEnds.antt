-- A statement ends where its piece of the text ends.
use Rattle.std.specs.Prelude.{◌≡◌, ℕ, zero, suc, ◌-◌, Bool, true, false, ◌&&◌, ◌==◌, cond, List}
use Rattle.std.proofs.Common.{refl, ap, ◌∙◌, arith, ⊎_elim}
use Rattle.std.proofs.Math.Bool.{and-false}
use Rattle.std.proofs.lemmas.Bool.{eqb-true}
use Rattle.kishu_language.specs.declared.token.Mark.{Mark}
use Rattle.kishu_language.specs.declared.token.Mark.TheVariants as m
use Rattle.kishu_language.specs.trees.Tree.{Text, Statement, Statements}
use Rattle.kishu_language.specs.grammar.Language.{Tokens, Language, Many, done, more}
use Rattle.kishu_language.specs.grammar.Language as l
use Rattle.kishu_language.specs.grammar.Grammar.{exprs, expr}
use Rattle.kishu_language.specs.grammar.Refusals.{Around, in_function, in_loop, in_handler}
use Rattle.kishu_language.specs.grammar.Statements as st
use Rattle.kishu_language.specs.grammar.Pieces.{goes_on, starts_line, starts_piece, after_line, rest_after, piece_rest}
use Rattle.kishu_language_laws.specs.reading.Follow.{not_true}
use Rattle.kishu_language_laws.specs.reading.Unbroken.{IsUnbroken, still_pure, still_where, still_then, still_or, still_mark, still_name, still_token, still_one_of, still_more, still_optional, still_separated, still_any_listed, still_phrase, still_place, still_targets}

-- where the piece ends that has come to the end of a line
abbrev on_from : Tokens → ℕ → Tokens
on_from ts blocks = after_line blocks ts (piece_rest ts blocks)

-- However many blocks are open, a line ends behind these tokens.
pub record Closes {A : Type 0} (p : Language A) : Type 0 where
  pub ends : (ts us : Tokens) (a : A) (blocks : ℕ) → p ts us a → piece_rest ts blocks ≡ on_from us blocks

-- Behind a line's end they go on with the piece to another, or there are none.
pub record GoesOn {A : Type 0} (p : Language A) : Type 0 where
  pub on : (ts us : Tokens) (a : A) (blocks : ℕ) → p ts us a → on_from ts blocks ≡ on_from us blocks

-- ---- put together

closes_after : {A B : Type 0} {p : Language A} {q : A → Language B} → IsUnbroken p → ((a : A) → Closes (q a)) → Closes (l.◌>>=◌ p q)
closes_after first second = record { ends = λ ts us b n h. first.same ts h.0 h.1 n h.2 ∙ (second h.1).ends h.0 us b n h.3 }

closes_then : {A B : Type 0} {p : Language A} {q : A → Language B} → Closes p → ((a : A) → GoesOn (q a)) → Closes (l.◌>>=◌ p q)
closes_then first second = record { ends = λ ts us b n h. first.ends ts h.0 h.1 n h.2 ∙ (second h.1).on h.0 us b n h.3 }

closes_or : {A : Type 0} {p q : Language A} → Closes p → Closes q → Closes (l.◌or◌ p q)
closes_or first second = record { ends = λ ts us a n h. ⊎_elim (first.ends ts us a n) (second.ends ts us a n) h }

closes_none : {A : Type 0} → Closes (l.none {A = A})
closes_none = record { ends = λ ts us a n h. absurd h }

closes_spelled : {A : Type 0} {p : Language A} → Closes p → Closes (l.spelled p)
closes_spelled first = record { ends = λ ts us a n h. first.ends ts us a.0 n h.0 }

on_pure : {A : Type 0} {a : A} → GoesOn (l.pure a)
on_pure = record { on = λ ts us a n h. ap (λ v. on_from v n) h.0 }

on_where : {b : Bool} → GoesOn (l.where_true b)
on_where = record { on = λ ts us a n h. ap (λ v. on_from v n) h.0 }

on_then : {A B : Type 0} {p : Language A} {q : A → Language B} → GoesOn p → ((a : A) → GoesOn (q a)) → GoesOn (l.◌>>=◌ p q)
on_then first second = record { on = λ ts us b n h. first.on ts h.0 h.1 n h.2 ∙ (second h.1).on h.0 us b n h.3 }

on_or : {A : Type 0} {p q : Language A} → GoesOn p → GoesOn q → GoesOn (l.◌or◌ p q)
on_or first second = record { on = λ ts us a n h. ⊎_elim (first.on ts us a n) (second.on ts us a n) h }

many_on : {A : Type 0} {step : A → Language A} → ((a : A) → GoesOn (step a)) → {a b : A} {ts us : Tokens} (n : ℕ) → Many step a ts us b → on_from ts n ≡ on_from us n
many_on each n done = refl
many_on each n (more {a = a} h k) = (each a).on _ _ _ n h ∙ many_on each n k

on_more : {A : Type 0} {item : Language A} {all : List A} → GoesOn item → GoesOn (Many (l.one_more item) all)
on_more each = record { on = λ ts us a n h. many_on (λ all. on_then each (λ next. on_pure)) n h }

-- ---- the ends of lines

-- No piece ends before what goes on with it.
no_end : (n : ℕ) (ts rest : Tokens) → starts_piece ts ≡ false → after_line n ts rest ≡ rest
no_end n ts rest h = ap (λ b. cond (n == 0 && b) ts rest) h ∙ ap (λ b. cond b ts rest) (and-false (n == 0))

-- nor where a block is open
no_end_inside : (n : ℕ) (ts rest : Tokens) → after_line (suc n) ts rest ≡ rest
no_end_inside n ts rest = ap (λ b. cond (b && starts_piece ts) ts rest) (not_true (suc n == 0) (λ h. omega (arith, eqb-true (suc n) 0 h)))

-- a word that goes on with a statement, and then a line's end
on_marked : {A : Type 0} {q : Language A} (k : Mark) → goes_on k ≡ true → Closes q → GoesOn (l.◌>>◌ (l.mark k) q)
on_marked k is second = record {
  on = λ ts us a n h.
      no_end n ts (piece_rest ts n) (ap starts_piece h.2.1 ∙ ap starts_line h.2.2 ∙ ap (λ b. cond b false true) is)
      ∙ still_mark.same ts h.0 h.1 n h.2 ∙ second.ends h.0 us a n h.3;
}

newline_closes : Closes l.newline
newline_closes = record { ends = λ ts us a n h. ap (λ v. piece_rest v n) h.1 ∙ ap (λ k. rest_after k n us (λ i. piece_rest us i)) h.2 }

-- ---- lines

module _ (around : Around) (depth : ℕ) where
  still_simple : IsUnbroken (st.simple around depth)
  unfolding st.simple st.pass st.break st.continue st.return st.raise_again st.raise st.assertion st.delete st.global st.import st.update st.assignment
  still_simple =
      still_or (still_then still_mark (λ _. still_pure))
      (still_or (still_then still_mark (λ _. still_then still_where (λ _. still_pure)))
      (still_or (still_then still_mark (λ _. still_then still_where (λ _. still_pure)))
      (still_or (still_then still_mark (λ _. still_then still_where (λ _. still_then (still_optional (still_phrase depth exprs)) (λ value. still_pure))))
      (still_or (still_then still_mark (λ _. still_then still_where (λ _. still_pure)))
      (still_or (still_then still_mark (λ _. still_then (still_phrase depth expr) (λ value. still_pure)))
      (still_or (still_then still_mark (λ _. still_then (still_phrase depth expr) (λ test. still_then (still_optional (still_then still_mark (λ _. still_phrase depth expr))) (λ message. still_pure))))
      (still_or (still_then still_mark (λ _. still_then (still_separated (still_place depth)) (λ places. still_pure)))
      (still_or (still_then still_mark (λ _. still_then still_where (λ _. still_then (still_separated still_name) (λ names. still_pure))))
      (still_or (still_then still_mark (λ _. still_then (still_token (λ a n ts rest. refl)) (λ _. still_then still_mark (λ _. still_then (still_token (λ a n ts rest. refl))
      (λ _. still_then (still_optional (still_then still_mark (λ _. still_name))) (λ found. still_pure))))))
      (still_or (still_then (still_place depth) (λ at. still_then still_one_of (λ operator. still_then (still_phrase depth exprs) (λ value. still_pure))))
      (still_then (still_more (still_then (still_targets depth) (λ found. still_then still_mark (λ _. still_pure)))) (λ all. still_then (still_phrase depth exprs) (λ value. still_pure)))))))))))))

  simples_close : Closes (st.simples around depth)
  unfolding st.simples
  simples_close = closes_after (still_separated still_simple) (λ all. closes_after (still_or still_pure still_mark) (λ _. closes_then newline_closes (λ _. on_pure)))

line_closes : (around : Around) (n : ℕ) → Closes (st.line around n)
unfolding st.line
line_closes around zero = closes_none
line_closes around (suc n) = simples_close around (suc n)

-- ---- blocks

module _ (source : Text) (depth : ℕ) (inner : Around → Language (List Statement)) (closes : (around : Around) → Closes (inner around)) where
  -- where a block is open
  inside : (around : Around) (n : ℕ) (ts us : Tokens) (a : List Statement) → inner around ts us a → piece_rest ts (suc n) ≡ piece_rest us (suc n)
  inside around n ts us a h = (closes around).ends ts us a (suc n) h ∙ no_end_inside n us (piece_rest us (suc n))

  insides : (around : Around) {a b : List (List Statement)} {ts us : Tokens} (n : ℕ) → Many (l.one_more (inner around)) a ts us b → piece_rest ts (suc n) ≡ piece_rest us (suc n)
  insides around n done = refl
  insides around n (more h k) = inside around n _ _ _ h.2 ∙ ap (λ v. piece_rest v (suc n)) h.3.0 ∙ insides around n k

  indented : (ts us : Tokens) (a : Unit {0}) (n : ℕ) → l.indent ts us a → on_from ts n ≡ piece_rest us (suc n)
  indented ts us a n h =
      no_end n ts (piece_rest ts n) (ap starts_piece h.1 ∙ ap starts_line h.2) ∙ ap (λ v. piece_rest v n) h.1 ∙ ap (λ k. rest_after k n us (λ i. piece_rest us i)) h.2

  dedented : (ts us : Tokens) (a : Unit {0}) (n : ℕ) → l.dedent ts us a → piece_rest ts (suc n) ≡ on_from us n
  dedented ts us a n h =
      let back : suc n - 1 ≡ n = omega arith in
      ap (λ v. piece_rest v (suc n)) h.1 ∙ ap (λ k. rest_after k (suc n) us (λ i. piece_rest us i)) h.2 ∙ ap (on_from us) back

  block_closes : (around : Around) → Closes (st.block source depth inner around)
  unfolding st.block
  block_closes around = closes_or (closes_then (line_closes around depth) (λ all. on_pure)) (record {
    ends = λ ts us a n h.
        (let begun = h.3 in
        let parts = begun.3 in
        let last = parts.3 in
        newline_closes.ends ts h.0 h.1 n h.2 ∙ indented h.0 begun.0 begun.1 n begun.2
        ∙ inside around n begun.0 parts.2.0 parts.2.1 parts.2.2 ∙ insides around n parts.2.3
        ∙ dedented parts.0 last.0 last.1 n last.2 ∙ ap (λ v. on_from v n) last.3.0);
  })

  block_after_on : (k : Mark) (around : Around) → goes_on k ≡ true → GoesOn (st.block_after source depth inner k around)
  unfolding st.block_after
  block_after_on k around is = on_or on_pure (on_marked k is (closes_after still_mark (λ _. block_closes around)))

  arm_closes : (around : Around) → Closes (st.arm source depth inner around)
  unfolding st.arm
  arm_closes around = closes_after (still_phrase (suc depth) expr) (λ test. closes_after still_mark (λ _. closes_then (block_closes around) (λ body. on_pure)))

  choice_closes : (around : Around) → Closes (st.choice source depth inner around)
  unfolding st.choice
  choice_closes around = closes_after still_mark (λ _. closes_then (arm_closes around)
      (λ first. on_then (on_more (on_marked m.Elif refl (arm_closes around))) (λ all. on_then (block_after_on m.Else around refl) (λ other. on_pure))))

  while_closes : (around : Around) → Closes (st.while source depth inner around)
  unfolding st.while
  while_closes around = closes_after still_mark (λ _. closes_then (arm_closes (in_loop around)) (λ found. on_pure))

  for_closes : (around : Around) → Closes (st.for source depth inner around)
  unfolding st.for
  for_closes around = closes_after still_mark (λ _. closes_after (still_targets (suc depth)) (λ found. closes_after still_mark (λ _. closes_after (still_phrase (suc depth) exprs)
      (λ walked. closes_after still_mark (λ _. closes_then (block_closes (in_loop around)) (λ body. on_pure))))))

  still_caught : IsUnbroken (st.caught source depth inner)
  unfolding st.caught
  still_caught = still_then (still_phrase (suc depth) expr) (λ class. still_then (still_optional (still_then still_mark (λ _. still_name))) (λ found. still_pure))

  handler_on : (around : Around) → GoesOn (st.handler source depth inner around)
  unfolding st.handler
  handler_on around = on_marked m.Except refl (closes_after (still_optional still_caught) (λ found. closes_after still_mark (λ _. closes_then (block_closes (in_handler around)) (λ body. on_pure))))

  handled_on : (body : Statements) (around : Around) → GoesOn (st.handled source depth inner body around)
  unfolding st.handled
  handled_on body around = on_then (on_then (handler_on around) (λ first. on_more (handler_on around)))
      (λ found. on_then on_where (λ _. on_then (block_after_on m.Else around refl) (λ other. on_then (block_after_on m.Finally around refl) (λ last. on_pure))))

  finished_on : (body : Statements) (around : Around) → GoesOn (st.finished source depth inner body around)
  unfolding st.finished
  finished_on body around = on_marked m.Finally refl (closes_after still_mark (λ _. closes_then (block_closes around) (λ last. on_pure)))

  try_closes : (around : Around) → Closes (st.try source depth inner around)
  unfolding st.try
  try_closes around = closes_after still_mark (λ _. closes_after still_mark (λ _. closes_then (block_closes around) (λ body. on_or (handled_on body around) (finished_on body around))))

  still_parameter : IsUnbroken (st.parameter source depth inner)
  unfolding st.parameter
  still_parameter = still_then still_name (λ x. still_then (still_optional (still_then still_mark (λ _. still_phrase depth expr))) (λ default. still_pure))

  definition_closes : Closes (st.definition source depth inner)
  unfolding st.definition
  definition_closes = closes_after still_mark (λ _. closes_after still_name (λ x. closes_after still_mark (λ _. closes_after (still_any_listed still_parameter)
      (λ all. closes_after still_mark (λ _. closes_after still_where (λ _. closes_after still_mark (λ _. closes_then (block_closes in_function) (λ body. on_then on_where (λ _. on_pure)))))))))

  define_closes : (around : Around) → Closes (st.define source depth inner around)
  unfolding st.define
  define_closes around = closes_after still_where (λ _. closes_then (closes_spelled definition_closes) (λ found. on_pure))

  compound_closes : (around : Around) → Closes (st.compound source depth inner around)
  unfolding st.compound
  compound_closes around = closes_or (choice_closes around) (closes_or (while_closes around) (closes_or (for_closes around) (closes_or (try_closes around) (define_closes around))))

pub chunk_closes : (source : Text) (n : ℕ) (around : Around) → Closes (st.chunk source n around)
unfolding st.chunk
chunk_closes source zero around = closes_none
chunk_closes source (suc n) around =
    closes_or (simples_close around (suc n)) (closes_then (compound_closes source n (st.chunk source n) (chunk_closes source n) around) (λ found. on_pure))

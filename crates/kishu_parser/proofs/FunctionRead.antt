-- A text is one function's code exactly where its tokens are read as that function, and nothing follows.
use Rattle.std.specs.Prelude.{◌≡◌, ℕ, ◌-◌, ◌<◌, ◌≤◌, max, Bool, true, false, cond, List, [], ◌∷◌, length, take, Option, Some, None, is_some, Result, Ok, Err}
use Rattle.std.proofs.Common.{refl, sym, ap, subst, ◌∙◌, arith}
use Rattle.std.proofs.Math.Nat.{le-max_left}
use Rattle.kishu_language.specs.declared.profile.Profile.{Profile}
use Rattle.kishu_language.specs.declared.token.Mark.TheVariants as m
use Rattle.kishu_language.specs.trees.Tree.{Text, Statement, Definition}
use Rattle.kishu_language.specs.trees.Tree as t
use Rattle.kishu_language.specs.grammar.Language.{Tokens}
use Rattle.kishu_language.specs.grammar.Grammar.{deepest}
use Rattle.kishu_language.specs.grammar.Refusals.{Around, top, in_function, parameters_fit, globals_fit}
use Rattle.kishu_language.specs.trees.Code.{code_of}
use Rattle.kishu_language.specs.grammar.Statements as s
use Rattle.kishu_language.specs.reading.Reader.{Reader, Outcome, ◌>>=◌, ◌>>◌, pure, and_then, and_rest, next, is_mark, where_true, token, a_name, mark, sees}
use Rattle.kishu_language.specs.reading.ReadExpressions.{any_listed}
use Rattle.kishu_language.specs.reading.ReadStatements as rs
use Rattle.kishu_language_laws.specs.reading.Exact.{some_is}
use Rattle.kishu_language_laws.specs.reading.ExactOperators.{other_mark, sees_table}
use Rattle.kishu_language_laws.specs.reading.ExactBlocks.{chunks_read}
use Rattle.kishu_language.specs.tokens.Tokens.{tokens}
use Rattle.kishu_language.specs.grammar.Parse.{plain_text, ParseDef}
use Rattle.kishu_language.specs.trees.Height.{of_statement}
use Rattle.kishu_language_laws.specs.trees.HeightLaws.{tree_height}
use Rattle.kishu_parser.specs.declared.cursor.Stop.{Stop}
use Rattle.kishu_parser.specs.declared.cursor.Stop.TheVariants as stop
use Rattle.kishu_parser.specs.Views.{Fails}
use Rattle.kishu_parser.specs.Statements.{defined, between, GivesFunction}
use Rattle.kishu_parser.proofs.Whole.{same_code, one_function}
use Rattle.kishu_parser.proofs.OneFunction.{is_define, one_is, Chunk, chunk_define, program_chunk, chunk_program}

-- how deep what stands in a function at the top may be
abbrev below_top : ℕ
below_top = 60

module _ (source : Text) where
  abbrev after_def : Reader Definition
  after_def = do
    x ← token a_name
    mark m.LeftParenthesis
    all ← any_listed (rs.parameter source below_top (rs.chunk source below_top))
    mark m.RightParenthesis
    where_true (parameters_fit all)
    mark m.Colon
    body ← rs.block source below_top (rs.chunk source below_top) in_function
    where_true (globals_fit all body)
    pure (record { title = x; parameters = all; body = body })

  abbrev inner : Around → Reader (List Statement)
  inner = rs.chunk source below_top

  abbrev define : Reader Statement
  define = rs.define source below_top inner top

  abbrev one_found : Outcome Statement → Outcome (List Statement)
  one_found o = and_then o (λ x us. Some (x ∷ [], us))

  abbrev choices : Bool → Bool → Bool → Bool → Bool → Tokens → Outcome (List Statement)
  choices compound if while for try ts = cond compound (one_found
      (cond if (rs.choice source below_top inner top ts)
      (cond while (rs.while source below_top inner top ts)
      (cond for (rs.for source below_top inner top ts)
      (cond try (rs.try source below_top inner top ts) (define ts)))))) (rs.simples top deepest ts)

  -- a chunk that begins with `def`
  by_def : (ts : Tokens) → sees m.Def ts ≡ true → rs.chunk source deepest top ts ≡ one_found (define ts)
  unfolding rs.chunk rs.compound
  by_def ts h =
      ap (λ b. choices b (sees m.If ts) (sees m.While ts) (sees m.For ts) (sees m.Try ts) ts) (sees_table rs.begins_compound m.Def tt ts refl h)
      ∙ ap (λ b. choices true b (sees m.While ts) (sees m.For ts) (sees m.Try ts) ts) (other_mark m.Def m.If ts h refl)
      ∙ ap (λ b. choices true false b (sees m.For ts) (sees m.Try ts) ts) (other_mark m.Def m.While ts h refl)
      ∙ ap (λ b. choices true false false b (sees m.Try ts) ts) (other_mark m.Def m.For ts h refl)
      ∙ ap (λ b. choices true false false false b ts) (other_mark m.Def m.Try ts h refl)

  abbrev with_code : Tokens → Outcome Definition → Outcome Statement
  with_code ts o = and_then {A = Definition × Tokens} (and_then o (λ d us. Some ((d, take (length ts - length us) ts), us)))
      (λ found us. Some (t.define found.0.title found.0.parameters found.0.body (code_of source found.1), us))

  abbrev behind_def : Tokens → Outcome (Unit {0}) → Outcome Statement
  behind_def ts o = with_code ts (and_then o (λ u. after_def))

  define_begins : (ts : Tokens) (p : Statement × Tokens) → define ts ≡ Some p → sees m.Def ts ≡ true
  unfolding rs.define rs.definition
  define_begins ts p e = by (next (is_mark m.Def) ts) refl
    where
      by : (o : Option (Unit {0})) → next (is_mark m.Def) ts ≡ o → sees m.Def ts ≡ true
      by None none = let nothing : define ts ≡ None = ap (λ o. behind_def ts (and_rest ts o)) none in absurd (both (sym nothing ∙ e))
        where
          both : ◌≡◌ {A = Outcome Statement} None (Some p) → ⊥
          both e = cc
      by (Some u) found = ap is_some found

  all_read : (ts : Tokens) (x : Statement) → define ts ≡ Some (x, []) → Chunk source deepest ts [] (x ∷ [])
  all_read ts x e = ((chunks_read source deepest).reads top).sound ts [] (x ∷ []) (by_def ts (define_begins ts (x, []) e) ∙ ap one_found e)

  chunk_begins : (ts us : Tokens) (x : Statement) → s.define source below_top (s.chunk source below_top) top ts us x → sees m.Def ts ≡ true
  unfolding s.define s.definition
  chunk_begins ts us x h = let first = h.3.2.0.2 in ap (sees m.Def) (h.2.0 ∙ first.1) ∙ ap (λ k. is_some (is_mark m.Def k)) first.2

  read_all : (ts : Tokens) (x : Statement) → Chunk source deepest ts [] (x ∷ []) → is_define x ≡ true → define ts ≡ Some (x, [])
  read_all ts x h is =
      let begins = chunk_begins ts [] x (chunk_define source below_top ts [] x h is) in
      same (define ts) (sym (by_def ts begins) ∙ ((chunks_read source deepest).reads top).complete ts [] (x ∷ []) h (refl, refl, refl, refl))
    where
      same : (o : Outcome Statement) → one_found o ≡ Some (x ∷ [], []) → o ≡ Some (x, [])
      same None e = absurd cc
      same (Some p) e = let both : ◌≡◌ {A = List Statement × Tokens} (p.0 ∷ [], p.1) (x ∷ [], []) = some_is e in let left : p.0 ∷ [] ≡ x ∷ [] = ap (λ v. v.0) both in (λ i. Some (one_is left i, (both i).1))

  -- ---- a function and its code, read

  define_of : (ts us : Tokens) (d : Definition) → rs.definition source below_top inner ts ≡ Some (d, us) → define ts ≡ Some (defined d (code_of source (between ts us)), us)
  unfolding rs.define
  define_of ts us d e = ap (with_code ts) e

  both_same : {x y : Statement} {us vs : Tokens} → ◌≡◌ {A = Outcome Statement} (Some (x, us)) (Some (y, vs)) → (x ≡ y) × (us ≡ vs)
  both_same e = let both : ◌≡◌ {A = Statement × Tokens} (_, _) (_, _) = some_is e in (ap (λ p. p.0) both, ap (λ p. p.1) both)

  pub no_definition : (text : Text) (all ts : Tokens) (e : Stop) → ts ≡ all → Fails (rs.definition source below_top inner ts) e → GivesFunction (define all) text (Err e)
  unfolding rs.define
  no_definition text all ts stop.Refused first h = λ d k. none (sym (ap (with_code ts) h) ∙ ap define first ∙ k)
    where
      none : {p : Statement × Tokens} → ◌≡◌ {A = Outcome Statement} None (Some p) → ⊥
      none e = cc
  no_definition text all ts stop.NoMemory first h = tt

  -- More tokens follow.
  pub not_all : (text : Text) (all ts us : Tokens) (d : Definition) (n : ℕ) → ts ≡ all → rs.definition source below_top inner ts ≡ Some (d, us) → n ≡ length us → 0 < n → GivesFunction (define all) text (Err stop.Refused)
  not_all text all ts us d n first e size some f k = omega (arith, some, size, ap length (both_same (sym (define_of ts us d e) ∙ ap define first ∙ k)).1)

  -- The text is no code of it.
  pub other_code : (text : Text) (all ts us : Tokens) (d : Definition) → ts ≡ all → rs.definition source below_top inner ts ≡ Some (d, us) → (code_of source (between ts us) ≡ text → ⊥) → GivesFunction (define all) text (Err stop.Refused)
  other_code text all ts us d first e differ f k = differ (same_code d f (code_of source (between ts us)) text (both_same (sym (define_of ts us d e) ∙ ap define first ∙ k)).0)

  pub all_of_it : (text : Text) (all ts us : Tokens) (d : Definition) (n : ℕ) → ts ≡ all → rs.definition source below_top inner ts ≡ Some (d, us) → n ≡ length us → n ≤ 0 → code_of source (between ts us) ≡ text → define all ≡ Some (defined d text, [])
  all_of_it text all ts us d n first e size none is = ap define (sym first) ∙ define_of ts us d e ∙ ap (λ c. Some (defined d c, us)) is ∙ ap (λ (v : Tokens). Some (defined d text, v)) (empty us (omega (arith, size, none)))
    where
      empty : (us : Tokens) → length us ≡ 0 → us ≡ []
      empty [] e = refl
      empty (u ∷ us) e = absurd (omega arith)

module _ (profile : Profile) (text source : Text) (ts : Tokens) (whole : source ≡ plain_text text) (given : tokens profile text ≡ Ok ts) where
  -- Tokens that are read as a function, with the text as its code, are that function's.
  pub function_found : (d : Definition) → define source ts ≡ Some (defined d text, []) → ParseDef profile text d
  function_found d e = (ts, given, subst (λ v. s.program v ts [] (defined d text ∷ [])) whole (chunk_program source ts (defined d text) (all_read source ts (defined d text) e)))

  pub function_only : (d : Definition) → ParseDef profile text d → define source ts ≡ Some (defined d text, [])
  function_only d h =
      let same : h.0 ≡ ts = ok_is (sym h.1 ∙ given) in
      let all : s.program source ts [] (defined d text ∷ []) = subst (λ v. s.program v ts [] (defined d text ∷ [])) (sym whole) (subst (λ (v : Tokens). s.program (plain_text text) v [] (defined d text ∷ [])) same h.2) in
      read_all source ts (defined d text) (program_chunk source ts (defined d text) all) refl
    where
      ok_is : {x y : Tokens} → ◌≡◌ {A = Result Tokens ℕ} (Ok x) (Ok y) → x ≡ y
      ok_is e = cc

  -- There is one at most.
  pub same_function : (d e : Definition) → define source ts ≡ Some (defined d text, []) → ParseDef profile text e → d ≡ e
  same_function d e found h = one_function {text = text} d e (both_same source (sym found ∙ function_only e h)).0

  -- Where no function is read, the text is none's code.
  pub none_other : (e : Stop) → e ≡ stop.Refused → GivesFunction (define source ts) text (Err e) → (d : Definition) → ParseDef profile text d → ⊥
  none_other stop.Refused is h d k = h d (function_only d k)
  none_other stop.NoMemory is h d k = absurd cc

-- A function's code is no higher than any other text.
pub low_function : (profile : Profile) (text : Text) (d : Definition) → ParseDef profile text d → of_statement (defined d text) ≤ 611
low_function profile text d h =
    let low : max (of_statement (defined d text)) 0 ≤ 611 = tree_height profile text (defined d text ∷ []) h in
    omega (arith, low, le-max_left (of_statement (defined d text)) 0)

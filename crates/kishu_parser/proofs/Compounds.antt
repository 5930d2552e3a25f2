-- What the readers of a loop and of a function give, step by step.
use Rattle.std.proofs.Common.{◌≡◌, ℕ, Bool, true, false, List, Some, None, sym, ap, ◌∙◌}
use Rattle.kishu_language.specs.declared.token.Mark.TheVariants as m
use Rattle.kishu_language.specs.declared.tree.Arm as rust_arm
use Rattle.kishu_language.specs.declared.tree.Stmt.TheVariants as s
use Rattle.kishu_language.specs.trees.Tree.{Text, Parameter, Statement, Statements, Arm, Definition, statement_of}
use Rattle.kishu_language.specs.trees.Tree as t
use Rattle.kishu_language.specs.grammar.Language.{Tokens}
use Rattle.kishu_language.specs.grammar.Refusals.{Around, in_loop, in_function, parameters_fit, globals_fit}
use Rattle.kishu_language.specs.reading.Reader.{Reader, Outcome, and_then, where_true, mark, token, a_name}
use Rattle.kishu_language.specs.reading.ReadExpressions.{any_listed}
use Rattle.kishu_language.specs.reading.ReadStatements as spec
use Rattle.kishu_language.specs.trees.Parts.{arm_of}
use Rattle.kishu_parser.specs.Statements as lines
use Rattle.kishu_parser.proofs.Bodies as bodies
use Rattle.kishu_language.specs.trees.StatementRows.{arm_is, while_is}

abbrev looped : Arm → Reader Statement
looped found ts = Some (t.while found.0 found.1, ts)

pub while_reads : (source : Text) (depth : ℕ) (inner : Around → Reader (List Statement)) (around inside : Around) (t0 t1 t2 : Tokens) (a : rust_arm.Arm)
    → inside ≡ in_loop around → mark m.While t0 ≡ Some (tt, t1) → spec.arm source depth inner inside t1 ≡ Some (arm_of a, t2)
    → spec.while source depth inner around t0 ≡ Some (statement_of (s.While a.test a.body), t2)
while_reads source depth inner around inside t0 t1 t2 a same word found =
    bodies.while_is source depth inner around t0
    ∙ ap (λ o. and_then o (λ u us. and_then (spec.arm source depth inner (in_loop around) us) looped)) word
    ∙ ap (λ where_it_is. and_then (spec.arm source depth inner where_it_is t1) looped) (sym same)
    ∙ ap (λ o. and_then o looped) found
    ∙ ap (λ p. looped p t2) (arm_is a.test a.body)
    ∙ ap (λ st. Some (st, t2)) (sym (while_is a.test a.body))

-- ---- a function, from its end to its begin

abbrev whole : Text → List Parameter → Statements → Definition
whole x all body = record { title = x; parameters = all; body = body }

abbrev checked : Text → List Parameter → Statements → Reader Definition
checked x all body ts = and_then (where_true (globals_fit all body) ts) (λ u us. Some (whole x all body, us))

module _ (source : Text) (depth : ℕ) (inner : Around → Reader (List Statement)) where
  abbrev with_body : Text → List Parameter → Reader Definition
  with_body x all ts = and_then (mark m.Colon ts) (λ u us. and_then (spec.block source depth inner in_function us) (checked x all))

  abbrev fitting : Text → List Parameter → Reader Definition
  fitting x all ts = and_then (where_true (parameters_fit all) ts) (λ u. with_body x all)

  abbrev behind_parameters : Text → List Parameter → Reader Definition
  behind_parameters x all ts = and_then (mark m.RightParenthesis ts) (λ u. fitting x all)

  abbrev with_parameters : Text → Reader Definition
  with_parameters x ts = and_then (any_listed (lines.parameter depth) ts) (behind_parameters x)

  abbrev behind_title : Text → Reader Definition
  behind_title x ts = and_then (mark m.LeftParenthesis ts) (λ u. with_parameters x)

  abbrev titled : Reader Definition
  titled ts = and_then (token a_name ts) behind_title

  pub head_reads : (t0 t1 t2 t3 t4 t5 : Tokens) (x : Text) (all : List Parameter)
      → mark m.Def t0 ≡ Some (tt, t1) → token a_name t1 ≡ Some (x, t2) → mark m.LeftParenthesis t2 ≡ Some (tt, t3) → any_listed (lines.parameter depth) t3 ≡ Some (all, t4) → mark m.RightParenthesis t4 ≡ Some (tt, t5)
      → spec.definition source depth inner t0 ≡ fitting x all t5
  unfolding spec.definition spec.parameter
  head_reads t0 t1 t2 t3 t4 t5 x all word title begin found end =
      ap (λ o. and_then o (λ u. titled)) word
      ∙ ap (λ o. and_then o behind_title) title
      ∙ ap (λ o. and_then o (λ u. with_parameters x)) begin
      ∙ ap (λ o. and_then o (behind_parameters x)) found
      ∙ ap (λ o. and_then o (λ u. fitting x all)) end

  pub parameters_refused : (x : Text) (all : List Parameter) (ts : Tokens) → parameters_fit all ≡ false → fitting x all ts ≡ None
  parameters_refused x all ts fit = ap (λ b. and_then (where_true b ts) (λ u. with_body x all)) fit

  pub body_reads : (inside : Around) (x : Text) (all : List Parameter) (body : Statements) (ts us vs : Tokens)
      → inside ≡ in_function → parameters_fit all ≡ true → mark m.Colon ts ≡ Some (tt, us) → spec.block source depth inner inside us ≡ Some (body, vs) → fitting x all ts ≡ checked x all body vs
  body_reads inside x all body ts us vs same fit colon found =
      ap (λ b. and_then (where_true b ts) (λ u. with_body x all)) fit
      ∙ ap (λ o. and_then o (λ u ws. and_then (spec.block source depth inner in_function ws) (checked x all))) colon
      ∙ ap (λ where_it_is. and_then (spec.block source depth inner where_it_is us) (checked x all)) (sym same)
      ∙ ap (λ o. and_then o (checked x all)) found

pub globals_refused : (x : Text) (all : List Parameter) (body : Statements) (ts : Tokens) → globals_fit all body ≡ false → checked x all body ts ≡ None
globals_refused x all body ts fit = ap (λ b. and_then (where_true b ts) (λ u us. Some (whole x all body, us))) fit

pub globals_pass : (x : Text) (all : List Parameter) (body : Statements) (ts : Tokens) → globals_fit all body ≡ true → checked x all body ts ≡ Some (whole x all body, ts)
globals_pass x all body ts fit = ap (λ b. and_then (where_true b ts) (λ u us. Some (whole x all body, us))) fit

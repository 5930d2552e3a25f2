-- Where a turn of an assignment fails: a target, `=`, and what may be a target too.
use Rattle.std.proofs.Common.{◌≡◌, ℕ, ◌+◌, ◌-◌, ◌<◌, Bool, true, false, [], ◌∷◌, ◌++◌, Some, None, ap, ◌∙◌}
use Rattle.kishu_language.specs.declared.token.Mark.TheVariants as m
use Rattle.kishu_language.specs.grammar.Language.{Tokens}
use Rattle.kishu_language.specs.grammar.Grammar.{exprs}
use Rattle.kishu_language.specs.grammar.Refusals.{Around}
use Rattle.kishu_language.specs.grammar.Targets.{is_target}
use Rattle.kishu_language.specs.reading.Reader.{Reader, Outcome, and_then, climb, mark, where_true}
use Rattle.kishu_language.specs.reading.ReadExpressions.{phrase}
use Rattle.kishu_language.specs.reading.ReadStatements.{Assigned, assign_turn}
use Rattle.kishu_parser.specs.declared.cursor.Stop.{Stop}
use Rattle.kishu_parser.specs.Views.{Fails}
use Rattle.kishu_parser.proofs.Counts.{breaks, fails_by}

module _ (around : Around) (depth : ℕ) (a : Assigned) (ts : Tokens) where
  abbrev value_after : Reader Assigned
  value_after vs = and_then (phrase depth exprs vs) (λ next ws. Some ((a.0 ++ a.1 ∷ [], next), ws))

  no_target : is_target a.1 ≡ false → assign_turn around depth a ts ≡ None
  no_target h = ap (λ b. and_then (where_true b ts) (λ u us. and_then (mark m.Assign us) (λ v vs. value_after vs))) h

  is_so : is_target a.1 ≡ true → assign_turn around depth a ts ≡ and_then (mark m.Assign ts) (λ v vs. value_after vs)
  is_so h = ap (λ b. and_then (where_true b ts) (λ u us. and_then (mark m.Assign us) (λ v vs. value_after vs))) h

  no_mark : is_target a.1 ≡ true → mark m.Assign ts ≡ None → assign_turn around depth a ts ≡ None
  no_mark h k = is_so h ∙ ap (λ o. and_then o (λ v vs. value_after vs)) k

  marked : (us : Tokens) → is_target a.1 ≡ true → mark m.Assign ts ≡ Some (tt, us) → assign_turn around depth a ts ≡ value_after us
  marked us h k = is_so h ∙ ap (λ o. and_then o (λ v vs. value_after vs)) k

  no_value : (us : Tokens) → is_target a.1 ≡ true → mark m.Assign ts ≡ Some (tt, us) → phrase depth exprs us ≡ None → assign_turn around depth a ts ≡ None
  no_value us h k n = marked us h k ∙ ap (λ o. and_then o (λ next ws. Some ((a.0 ++ a.1 ∷ [], next), ws))) n

module _ {x : Outcome Assigned} (test : Tokens → Bool) (around : Around) (depth : ℕ) (n at : ℕ) (a : Assigned) (ts : Tokens) (below : at < n) (so_far : x ≡ climb test (assign_turn around depth) (n - at) a ts) (go : test ts ≡ true) where
  pub fails_target : is_target a.1 ≡ false → x ≡ None
  fails_target h = breaks test (assign_turn around depth) n at a ts below so_far go (no_target around depth a ts h)

  pub fails_assign : (e : Stop) → is_target a.1 ≡ true → Fails (mark m.Assign ts) e → Fails x e
  fails_assign e h = fails_by (mark m.Assign ts) x e (λ none. breaks test (assign_turn around depth) n at a ts below so_far go (no_mark around depth a ts h none))

  pub fails_value : (us : Tokens) (e : Stop) → is_target a.1 ≡ true → mark m.Assign ts ≡ Some (tt, us) → Fails (phrase depth exprs us) e → Fails x e
  fails_value us e h k = fails_by (phrase depth exprs us) x e (λ none. breaks test (assign_turn around depth) n at a ts below so_far go (no_value around depth a ts us h k none))

-- Which simple statement the next token begins, with no more said of its place than it asks for.
use Rattle.std.proofs.Common.{◌≡◌, ℕ, Bool, true, false, cond, refl, ap, ◌∙◌}
use Rattle.kishu_language.specs.declared.token.Mark.TheVariants as m
use Rattle.kishu_language.specs.trees.Tree.{Statement}
use Rattle.kishu_language.specs.grammar.Language.{Tokens}
use Rattle.kishu_language.specs.grammar.Refusals.{Around}
use Rattle.kishu_language.specs.reading.Reader.{Reader, sees, either}
use Rattle.kishu_language.specs.reading.ReadStatements as spec
use Rattle.kishu_parser.specs.Statements as lines

module _ {A : Type 0} (test : Tokens → Bool) (p q : Reader A) (ts : Tokens) where
  first_one : test ts ≡ true → either test p q ts ≡ p ts
  first_one h = ap (λ b. cond b (p ts) (q ts)) h

  other_one : test ts ≡ false → either test p q ts ≡ q ts
  other_one h = ap (λ b. cond b (p ts) (q ts)) h

module _ (around : Around) (depth : ℕ) where
  abbrev from_import : Reader Statement
  from_import = either (sees m.From) (spec.import around depth) (spec.update_or_assignment around depth)

  abbrev from_global : Reader Statement
  from_global = either (sees m.Global) (spec.global around depth) from_import

  abbrev from_delete : Reader Statement
  from_delete = either (sees m.Del) (spec.delete around depth) from_global

  abbrev from_assert : Reader Statement
  from_assert = either (sees m.Assert) (spec.assertion around depth) from_delete

  abbrev from_raise : Reader Statement
  from_raise = either (sees m.Raise) (spec.raise around depth) from_assert

  abbrev from_return : Reader Statement
  from_return = either (sees m.Return) (spec.return around depth) from_raise

  abbrev from_continue : Reader Statement
  from_continue = either (sees m.Continue) (lines.continue around) from_return

  abbrev from_break : Reader Statement
  from_break = either (sees m.Break) (lines.break around) from_continue

  simple_is : (ts : Tokens) → spec.simple around depth ts ≡ either (sees m.Pass) lines.pass from_break ts
  unfolding spec.simple
  simple_is ts = refl

  assertion_is : (ts : Tokens) → spec.assertion around depth ts ≡ spec.assertion lines.anywhere depth ts
  unfolding spec.assertion
  assertion_is ts = refl

  delete_is : (ts : Tokens) → spec.delete around depth ts ≡ spec.delete lines.anywhere depth ts
  unfolding spec.delete
  delete_is ts = refl

  global_is : (ts : Tokens) → spec.global around depth ts ≡ spec.global around 0 ts
  unfolding spec.global
  global_is ts = refl

  import_is : (ts : Tokens) → spec.import around depth ts ≡ spec.import lines.anywhere 0 ts
  unfolding spec.import
  import_is ts = refl

  update_or_assignment_is : (ts : Tokens) → spec.update_or_assignment around depth ts ≡ spec.update_or_assignment lines.anywhere depth ts
  unfolding spec.update_or_assignment spec.update_of spec.assignment_of
  update_or_assignment_is ts = refl

module _ (around : Around) (depth : ℕ) (ts : Tokens) (no_pass : sees m.Pass ts ≡ false) (no_break : sees m.Break ts ≡ false) (no_continue : sees m.Continue ts ≡ false) (no_return : sees m.Return ts ≡ false) (no_raise : sees m.Raise ts ≡ false) where
  past_raise : spec.simple around depth ts ≡ from_assert around depth ts
  past_raise =
      simple_is around depth ts
      ∙ other_one (sees m.Pass) lines.pass (from_break around depth) ts no_pass
      ∙ other_one (sees m.Break) (lines.break around) (from_continue around depth) ts no_break
      ∙ other_one (sees m.Continue) (lines.continue around) (from_return around depth) ts no_continue
      ∙ other_one (sees m.Return) (spec.return around depth) (from_raise around depth) ts no_return
      ∙ other_one (sees m.Raise) (spec.raise around depth) (from_assert around depth) ts no_raise

  pub to_assertion : sees m.Assert ts ≡ true → spec.simple around depth ts ≡ spec.assertion lines.anywhere depth ts
  to_assertion h = past_raise ∙ first_one (sees m.Assert) (spec.assertion around depth) (from_delete around depth) ts h ∙ assertion_is around depth ts

  module _ (no_assert : sees m.Assert ts ≡ false) where
    past_assert : spec.simple around depth ts ≡ from_delete around depth ts
    past_assert = past_raise ∙ other_one (sees m.Assert) (spec.assertion around depth) (from_delete around depth) ts no_assert

    pub to_delete : sees m.Del ts ≡ true → spec.simple around depth ts ≡ spec.delete lines.anywhere depth ts
    to_delete h = past_assert ∙ first_one (sees m.Del) (spec.delete around depth) (from_global around depth) ts h ∙ delete_is around depth ts

    module _ (no_delete : sees m.Del ts ≡ false) where
      past_delete : spec.simple around depth ts ≡ from_global around depth ts
      past_delete = past_assert ∙ other_one (sees m.Del) (spec.delete around depth) (from_global around depth) ts no_delete

      pub to_global : sees m.Global ts ≡ true → spec.simple around depth ts ≡ spec.global around 0 ts
      to_global h = past_delete ∙ first_one (sees m.Global) (spec.global around depth) (from_import around depth) ts h ∙ global_is around depth ts

      module _ (no_global : sees m.Global ts ≡ false) where
        past_global : spec.simple around depth ts ≡ from_import around depth ts
        past_global = past_delete ∙ other_one (sees m.Global) (spec.global around depth) (from_import around depth) ts no_global

        pub to_import : sees m.From ts ≡ true → spec.simple around depth ts ≡ spec.import lines.anywhere 0 ts
        to_import h = past_global ∙ first_one (sees m.From) (spec.import around depth) (spec.update_or_assignment around depth) ts h ∙ import_is around depth ts

        pub to_assignment : sees m.From ts ≡ false → spec.simple around depth ts ≡ spec.update_or_assignment lines.anywhere depth ts
        to_assignment h = past_global ∙ other_one (sees m.From) (spec.import around depth) (spec.update_or_assignment around depth) ts h ∙ update_or_assignment_is around depth ts

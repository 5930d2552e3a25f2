use Rattle.std.proofs.Common.{◌≡◌, ◌∙◌, ap, subst, inl, inr, rules, []}
use Rattle.clap.specs.Words.{App, app_of, found_of, is_simple, kind_of, matches_of, rows_of}
use Rattle.clap.specs.Kinds.{IsAmong}
use Rattle.clap.specs.Faults.{fault_of, is_simple_and_free}
use Rattle.kishu_words.specs.Words.{texts}
use Rattle.kishu_words.specs.Parses.{line_app}
use Rattle.kishu_words.proofs.Parsed.{app-free, app-simple, no-line, tells, told-line}
use Rattle.kishu_words.proofs.line.parse.Goals as goal

pub returns-in-Ok : goal.returns-in-Ok
returns-in-Ok c =
    let ws = texts c.args.words.now in
    let app_is : app_of c.in_ok-command.command ≡ line_app = c.in_ok-command.ensures in
    let passes : fault_of line_app ws ≡ [] = subst (λ (a : App). fault_of a ws ≡ []) app_is (c.in-Ok.ensures.kinds (ap is_simple_and_free app_is ∙ app-free)) in
    let told = told-line ws c.requires passes in
    let rows : rows_of (found_of c.in-Ok.matches) ≡ matches_of line_app ws = (c.in-Ok.ensures.matches (ap is_simple app_is ∙ app-simple)).0 ∙ ap (λ a. matches_of a ws) app_is in
    (told.0, told.1, tells c.in-Ok.matches (matches_of line_app ws) told.0 rows told.2)

pub returns : goal.returns
returns c =
    let ws = texts c.args.words.now in
    let app_is : app_of c.in_ok-command.command ≡ line_app = c.in_ok-command.ensures in
    let kind = kind_of c.in-Err.error in
    elim (c.in-Err.ensures.kinds (ap is_simple_and_free app_is ∙ app-free)) [
      | inl none ↦ absurd (search rules)
      | inr among ↦ no-line ws kind c.requires (subst (λ (a : App). IsAmong kind (fault_of a ws)) app_is among)
    ]

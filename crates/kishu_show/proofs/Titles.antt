-- The name of a function whose code reads as its tree.
use Rattle.std.proofs.Common.{◌≡◌, ◌∙◌, ap, sym, ℕ, List}
use Rattle.std.specs.Coded.{Coded-set, coded_list, coded_ℕ}
use Rattle.std.specs.Rc.{rc_str_bytes}
use Rattle.std.specs.Str.{chars}
use Rattle.std.proofs.Math.Logic.{∥∥₁_elim}
use Rattle.kishu_language.specs.declared.profile.Profile.{Profile}
use Rattle.kishu_language.specs.declared.tree.Def.{Def}
use Rattle.kishu_language.specs.declared.tree.Stmt.TheFolds.{fold-roll-Def}
use Rattle.kishu_language.specs.trees.Fits.{IsCodeOf}
use Rattle.kishu_meaning.specs.comparing.Show.{function_name}
use Rattle.kishu_meaning_laws.specs.ShowLaws.{name_as_read}
use Rattle.kishu_language.specs.trees.Tree.{Text, Statement, Arm, Definition, Handler, definition_of, statement_of, statement_step, arm_step, definition_step, handler_step}

title_is : (d : Def) → (definition_of d).title ≡ rc_str_bytes d.name
unfolding definition_of statement_of
title_is d = ap (λ k. k.title) (fold-roll-Def Statement Arm Definition Handler statement_step arm_step definition_step handler_step (record { name = d.name; params = d.params; body = d.body }))

pub named : (profile : Profile) (code : Text) (d : Def) (cs : List ℕ) → ∥ IsCodeOf profile code (definition_of d) ∥₁ → cs ≡ rc_str_bytes d.name → chars cs ≡ function_name profile code
named profile code d cs h e =
    ∥∥₁_elim h (Coded-set (coded_list coded_ℕ) _ _) (λ p. ap chars (e ∙ sym (title_is d)) ∙ sym (name_as_read profile code (definition_of d) p.reads))

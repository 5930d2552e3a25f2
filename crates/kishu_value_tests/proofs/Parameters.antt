-- What a function's node keeps: it has no defaults where it has no parameters, and its code reads as its tree.
use Rattle.kishu_language.specs.Limits.{longest_text}
use Rattle.std.proofs.Common.{◌≡◌, ◌≤◌, ◌∙◌, ap, sym, length, map, subst}
use Rattle.std.proofs.lemmas.List.{nil_from_length}
use Rattle.kishu_language.specs.declared.profile.Profile.{Profile}
use Rattle.kishu_language.specs.declared.tree.Def.{Def}
use Rattle.kishu_language.specs.declared.tree.Stmt.TheFolds.{fold-roll-Def}
use Rattle.std.specs.Str.{IsUtf8}
use Rattle.kishu_language.specs.grammar.Parse.{ParseDef}
use Rattle.kishu_language.specs.trees.Fits.{IsCodeOf}
use Rattle.kishu_language_laws.specs.trees.ParsedFits.{code_of_parsed}
use Rattle.kishu_meaning.specs.values.Sound.{with_default, default_count}
use Rattle.kishu_language.specs.trees.Tree.{Text, Statement, Arm, Definition, Handler, definition_of, statement_of, statement_step, arm_step, definition_step, handler_step, parameter_of}

parameters_are : (d : Def) → (definition_of d).parameters ≡ map parameter_of d.params.items
unfolding definition_of statement_of
parameters_are d = ap (λ k. k.parameters) (fold-roll-Def Statement Arm Definition Handler statement_step arm_step definition_step handler_step (record { name = d.name; params = d.params; body = d.body }))

pub no_defaults : (d : Def) → length d.params.items ≡ 0 → default_count (definition_of d) ≡ 0
no_defaults d none = ap with_default (parameters_are d ∙ ap (map parameter_of) (nil_from_length d.params.items none))

pub read_as : (profile : Profile) (code bytes : Text) (d e : Def) → IsUtf8 code → length code ≤ longest_text → ParseDef profile code (definition_of d) → bytes ≡ code → e ≡ d → ∥ IsCodeOf profile bytes (definition_of e) ∥₁
read_as profile code bytes d e utf8 small found same this =
    ∣ subst (λ k. IsCodeOf profile bytes (definition_of k)) (sym this) (subst (λ k. IsCodeOf profile k (definition_of d)) (sym same) (code_of_parsed profile code (definition_of d) utf8 small found)) ∣₁

use Rattle.std.proofs.Common.{◌∙◌, ap, sym, subst, ◌∷◌, []}
use Rattle.std.specs.Str.{chars}
use Rattle.kishu_meaning.specs.values.Classes.{value_error_class}
use Rattle.kishu_meaning.specs.values.Values.{text}
use Rattle.kishu_meaning.specs.calls.Methods.{is_cutting}
use Rattle.kishu_meaning.specs.moments.Moment.{raised, fresh}
use Rattle.kishu_methods.specs.Called.{Gives}
use Rattle.kishu_methods.proofs.TextSteps.{cutting_some, cutting_none}
use Rattle.kishu_methods.proofs.texts.check_separator.Goals as goal

pub returns-then-is_nonempty-clause-gives : goal.returns-then-is_nonempty-clause-gives
returns-then-is_nonempty-clause-gives c = λ s. cutting_some (chars c.args.part.now) s c.if-is_nonempty.ensures.value

pub returns-clause-gives : goal.returns-clause-gives
returns-clause-gives c = λ s.
    subst (λ r. Gives (λ u. u) r s (is_cutting (chars c.args.part.now) s)) (sym c.raise.ensures)
    (cutting_none (chars c.args.part.now) s c.if-is_nonempty.ensures.value ∙ ap (λ w. raised (fresh value_error_class (text w ∷ [])) s) (sym c.in_ok-plain_text.ensures))

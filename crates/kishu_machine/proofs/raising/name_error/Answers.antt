use Rattle.std.proofs.Common.{ℕ, List, ◌++◌, ◌∙◌, ap, subst, append_assoc}
use Rattle.std.specs.Prelude.{codes}
use Rattle.std.specs.Str.{chars}
use Rattle.kishu_machine.specs.Machine.{IsRaised}
use Rattle.kishu_machine.proofs.raising.name_error.Goals as goal
use Rattle.kishu_meaning.specs.values.Classes.{name_error_class}

pub returns : goal.returns
returns g c =
    let name = chars c.args.name.now in
    subst (λ (cs : List ℕ). IsRaised c.raise.result name_error_class cs) (c.in_ok-quoted.ensures ∙ ap (λ (y : List ℕ). codes "name '" ++ y) (append_assoc name (codes "'") (codes " is not defined"))) c.raise.ensures

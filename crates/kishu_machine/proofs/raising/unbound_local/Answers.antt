use Rattle.std.proofs.Common.{ℕ, List, ◌++◌, ◌∙◌, ap, subst, append_assoc}
use Rattle.std.specs.Prelude.{codes}
use Rattle.std.specs.Str.{chars}
use Rattle.kishu_machine.specs.Machine.{IsRaised}
use Rattle.kishu_machine.proofs.raising.unbound_local.Goals as goal
use Rattle.kishu_meaning.specs.values.Classes.{unbound_local_error_class}

pub returns : goal.returns
returns g c =
    let name = chars c.args.name.now in
    subst (λ (cs : List ℕ). IsRaised c.raise.result unbound_local_error_class cs) (c.in_ok-text.ensures ∙ ap (λ (y : List ℕ). codes "local name '" ++ y) (append_assoc name (codes "'") (codes " has no value"))) c.raise.ensures

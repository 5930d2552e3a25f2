use Rattle.std.proofs.Common.{◌∙◌, sym, ap}
use Rattle.std.specs.Prelude.{None, Some}
use Rattle.std.specs.Option.{option_copied}
use Rattle.kishu_loading.proofs.Turns.{last_get}
use Rattle.kishu_loading.proofs.naming.last_name.Goals as goal

pub returns-in-Some : goal.returns-in-Some
returns-in-Some c =
    ap (λ x. Some x) c.as_str.ensures.value ∙ sym (last_get None c.args.names.now c.in-Some.field-0.now
    (sym c.last.ensures.value ∙ ap option_copied c.in-Some.is))

use Rattle.std.proofs.Common.{◌∙◌, ap}
use Rattle.std.specs.Str.{chars}
use Rattle.std.proofs.lemmas.Str.{chars-nil}
use Rattle.kishu_machine.proofs.products.repeated_text.Goals as goal

pub loop-turn-init : goal.loop-turn-init
loop-turn-init c = ap chars c.new-repeated.ensures.bytes ∙ chars-nil

use Rattle.std.proofs.Common.{◌∙◌, ap, arith}
use Rattle.std.specs.Str.{chars}
use Rattle.std.proofs.lemmas.Str.{chars-nil}
use Rattle.kishu_machine.proofs.Messages.{nothing_many}
use Rattle.kishu_machine.proofs.products.many.Goals as goal

pub returns-then-count-eq0 : goal.returns-then-count-eq0
returns-then-count-eq0 c = ap chars c.new.ensures.bytes ∙ chars-nil ∙ nothing_many (chars c.args.text.now) c.args.times (omega arith)

pub overflow_cast-times : goal.overflow_cast-times
overflow_cast-times c = grind arith

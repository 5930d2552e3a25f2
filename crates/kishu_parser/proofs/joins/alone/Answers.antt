use Rattle.std.proofs.Common.{◌≡◌, refl, sym, ap, ◌∙◌, length, false-eqb}
use Rattle.kishu_language.specs.trees.Rows.{tuple_is}
use Rattle.kishu_parser.proofs.Parts.{alone_many}
use Rattle.kishu_parser.proofs.joins.alone.Goals as goal

pub returns-else-len-eq1 : goal.returns-else-len-eq1
returns-else-len-eq1 c = rw tuple_is (alone_many _ (λ e. c.if-len-eq1.false (c.len.ensures ∙ c.args.all.ok.0 ∙ e)))

use Rattle.std.proofs.Common.{◌≡◌, sym, ap, ◌∙◌}
use Rattle.kishu_language.specs.grammar.Grammar as spec
use Rattle.kishu_parser.specs.Views.{left, by_table}
use Rattle.kishu_parser.proofs.Fronts.{by_mark}
use Rattle.kishu_parser.proofs.cursor.Parser.product_operator.Goals as goal

pub returns : goal.returns
returns c = c.product_operator.ensures ∙ ap (by_table spec.product_operator) c.mark.ensures ∙ sym (by_mark spec.product_operator (left c.args.self.now.tokens.now c.args.at))

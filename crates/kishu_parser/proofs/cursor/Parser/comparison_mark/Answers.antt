use Rattle.std.proofs.Common.{◌≡◌, sym, ap, ◌∙◌}
use Rattle.kishu_language.specs.grammar.Grammar as spec
use Rattle.kishu_parser.specs.Views.{left, by_table}
use Rattle.kishu_parser.proofs.Fronts.{by_mark}
use Rattle.kishu_parser.proofs.cursor.Parser.comparison_mark.Goals as goal

pub returns : goal.returns
returns c = c.comparison_mark.ensures ∙ ap (by_table spec.comparison_mark) c.mark.ensures ∙ sym (by_mark spec.comparison_mark (left c.args.self.now.tokens.now c.args.at))

use Rattle.std.proofs.Common.{◌≡◌, sym, ap, ◌∙◌}
use Rattle.kishu_language.specs.grammar.Grammar as spec
use Rattle.kishu_parser.specs.Views.{left, by_table}
use Rattle.kishu_parser.proofs.Fronts.{by_mark}
use Rattle.kishu_parser.proofs.cursor.Parser.sign.Goals as goal

pub returns : goal.returns
returns c = c.sign.ensures ∙ ap (by_table spec.sign) c.mark.ensures ∙ sym (by_mark spec.sign (left c.args.self.now.tokens.now c.args.at))

use Rattle.std.proofs.Common.{◌≡◌, sym, ap, ◌∙◌}
use Rattle.std.specs.Prelude.{is_some}
use Rattle.kishu_language.specs.reading.ReadExpressions as spec
use Rattle.kishu_parser.specs.Views.{left, by_table}
use Rattle.kishu_parser.proofs.Fronts.{by_mark}
use Rattle.kishu_parser.proofs.cursor.Parser.begins_comparison.Goals as goal

pub returns : goal.returns
returns c = c.begins_comparison.ensures ∙ ap (λ m. is_some (by_table spec.begins_comparison m)) c.mark.ensures ∙ sym (ap is_some (by_mark spec.begins_comparison (left c.args.self.now.tokens.now c.args.at)))

use Rattle.std.proofs.Common.{◌≡◌, sym, ap, ◌∙◌}
use Rattle.std.specs.Prelude.{is_some}
use Rattle.kishu_language.specs.tokens.Layout.{same}
use Rattle.kishu_language.specs.reading.Reader as reader
use Rattle.kishu_parser.specs.Views.{left, by_table}
use Rattle.kishu_parser.proofs.Fronts.{by_mark}
use Rattle.kishu_parser.proofs.cursor.Parser.sees.Goals as goal

pub returns : goal.returns
returns c = c.is_mark.ensures ∙ ap (λ m. is_some (by_table (λ k. reader.where_so (same k c.args.mark)) m)) c.mark.ensures ∙ sym (ap is_some (by_mark (λ k. reader.where_so (same k c.args.mark)) (left c.args.self.now.tokens.now c.args.at)))

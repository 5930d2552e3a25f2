use Rattle.std.proofs.Common.{◌≡◌, Some, None, sym, ap, ◌∙◌}
use Rattle.kishu_language.specs.trees.Tree.{expression_of, value_of}
use Rattle.kishu_language.specs.grammar.Grammar.{constant_of}
use Rattle.kishu_parser.specs.Views.{left, by_table}
use Rattle.kishu_parser.proofs.Fronts.{one_gives, one_misses}
use Rattle.kishu_parser.proofs.cursor.Parser.constant.Goals as goal

pub returns-in-Some : goal.returns-in-Some
returns-in-Some c =
    let ts = left c.args.self.now.tokens.now c.args.at.now in
    one_gives constant_of ts (expression_of c.in-Some.constant) (sym (ap (by_table constant_of) c.mark.ensures) ∙ sym c.constant.ensures ∙ ap value_of c.in-Some.is)
    ∙ ap (λ r. Some (expression_of c.in-Some.constant, r)) (sym c.skip.ensures)

pub returns-in-None : goal.returns-in-None
returns-in-None c =
    let ts = left c.args.self.now.tokens.now c.args.at.now in
    one_misses constant_of ts (sym (ap (by_table constant_of) c.mark.ensures) ∙ sym c.constant.ensures ∙ ap value_of c.in-None.is)

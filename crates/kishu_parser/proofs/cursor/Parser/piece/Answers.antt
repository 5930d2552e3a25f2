use Rattle.std.proofs.Common.{sym, ◌∙◌}
use Rattle.std.proofs.lemmas.Result.{err_from_is_err_and}
use Rattle.kishu_parser.specs.Views.{left}
use Rattle.kishu_parser.specs.Statements as lines
use Rattle.kishu_parser.proofs.Cuts.{refused, whole, part}
use Rattle.kishu_parser.proofs.cursor.Parser.piece.Goals as goal

pub returns-in_err-found : goal.returns-in_err-found
returns-in_err-found c =
    let p = err_from_is_err_and c.from_residual.result c.from_residual.ensures.1 in
    rw (p.1, p.2) (refused c.args.self.now.source.now (lines.around_of c.top.result) (left c.args.self.now.tokens.now c.args.at) _ c.top.ensures c.in_err-found.ensures)

pub returns-then-left : goal.returns-then-left
returns-then-left c =
    whole c.args.self.now.source.now (lines.around_of c.top.result) (left c.args.self.now.tokens.now c.args.at) _ (left c.args.self.now.tokens.now c.args.next) _
    c.top.ensures c.in_ok-found.ensures c.requires.end (sym c.left.ensures ∙ c.if-left.true ∙ c.left-2.ensures)

pub returns-else-left : goal.returns-else-left
returns-else-left c =
    part c.args.self.now.source.now (lines.around_of c.top.result) (left c.args.self.now.tokens.now c.args.at) _ (left c.args.self.now.tokens.now c.args.next) (lines.statements_in c.in_ok-found.found)
    c.top.ensures c.in_ok-found.ensures c.requires.end (λ e. c.if-left.false (c.left.ensures ∙ e ∙ sym c.left-2.ensures))

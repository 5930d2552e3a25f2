use Rattle.std.proofs.Common.{sym, ap, ◌∙◌, map}
use Rattle.std.proofs.lemmas.Result.{err_from_is_err_and}
use Rattle.kishu_parser.specs.TopLevel.{piece_of}
use Rattle.kishu_parser.specs.Views.{left, tokens_of}
use Rattle.kishu_parser.proofs.Cuts.{all_left, some_left}
use Rattle.kishu_parser.proofs.TopPieces.{lined_begun, lined_finished, lined_fails, lined_joins}
use Rattle.kishu_parser.proofs.cursor.Parser.lined_pieces.Goals as goal

pub loop-turn-init : goal.loop-turn-init
loop-turn-init c = lined_begun c.args.self.now.source.now (tokens_of c.args.self.now.tokens.now) (left c.args.self.now.tokens.now 0) c.left-turn-end.result (map piece_of c.new-all.result.items)
    (all_left c.args.self.now.tokens.now) c.left-turn-end.ensures (ap (map piece_of) c.new-all.ensures.items)

pub returns-then-left-eq0 : goal.returns-then-left-eq0
returns-then-left-eq0 c = c.loop-turn.invariant ∙ lined_finished c.args.self.now.source.now _ (map piece_of c.loop-turn.all.items) (left c.args.self.now.tokens.now c.loop-turn.at) (sym c.left.ensures ∙ c.if-left-eq0.true)

pub returns-in_err-statements : goal.returns-in_err-statements
returns-in_err-statements c =
    let p = err_from_is_err_and c.from_residual.result c.from_residual.ensures.1 in
    rw (p.1, p.2) (lined_fails c.args.self.now.source.now c.left-turn-end.result c.loop-turn._turn (map piece_of c.loop-turn.all.items) (left c.args.self.now.tokens.now c.loop-turn.at) _ c.loop-turn-test.true c.loop-turn.invariant
    (some_left c.left.result (left c.args.self.now.tokens.now c.loop-turn.at) c.if-left-eq0.false c.left.ensures) c.in_err-statements.ensures)

pub loop-turn-preserved : goal.loop-turn-preserved
loop-turn-preserved c = lined_joins c.args.self.now.source.now c.left-turn-end.result c.loop-turn._turn c.loop-turn.all.items _ (record { line = c.line_at-line.result; statements = c.in_ok-statements.statements })
    (left c.args.self.now.tokens.now c.loop-turn.at) (left c.args.self.now.tokens.now c.next_piece-next.result) c.loop-turn-test.true c.loop-turn.invariant
    (some_left c.left.result (left c.args.self.now.tokens.now c.loop-turn.at) c.if-left-eq0.false c.left.ensures) c.line_at-line.ensures c.in_ok-statements.ensures c.next_piece-next.ensures c.in_ok-push_piece.ensures

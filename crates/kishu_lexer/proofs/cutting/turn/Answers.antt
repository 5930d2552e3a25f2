use Rattle.std.proofs.Common.{arith}
use Rattle.std.proofs.lemmas.Result.{err_from_is_err_and}
use Rattle.kishu_lexer.specs.Views.{cut_of}
use Rattle.kishu_lexer.proofs.Whole.{found_whole}
use Rattle.kishu_lexer.proofs.Turns.{turned, failed}
use Rattle.kishu_lexer.proofs.cutting.turn.Goals as goal

pub step-requires : goal.step-requires
step-requires c = found_whole c.args.line c.args.rest.now (cut_of (c.in_ok-lexeme.lexeme, c.in_ok-lexeme.n)) c.in_ok-lexeme.ensures.value (omega arith)

pub returns-in_err-step-clause-fails : goal.returns-in_err-step-clause-fails
returns-in_err-step-clause-fails c =
    let p = err_from_is_err_and c.from_residual-in_err-step.result c.from_residual-in_err-step.ensures.1 in
    rw (p.1, p.2) (failed c.args.line c.args.start c.args.rest.now (cut_of (c.in_ok-lexeme.lexeme, c.in_ok-lexeme.n)) _ _ c.in_err-step.field-0.0 c.in_ok-lexeme.ensures.value c.requires.some c.in_ok-lexeme.ensures.some c.behind-next.ensures.place c.in_err-step.ensures)

pub returns-clause-goes : goal.returns-clause-goes
returns-clause-goes c = turned c.args.line c.args.start c.args.rest.now (cut_of (c.in_ok-lexeme.lexeme, c.in_ok-lexeme.n)) _ _ _ _ _ c.in_ok-lexeme.ensures.value c.requires.some c.in_ok-lexeme.ensures.some c.behind-next.ensures.line c.behind-next.ensures.place c.behind-next.ensures.rest c.in_ok-step.ensures

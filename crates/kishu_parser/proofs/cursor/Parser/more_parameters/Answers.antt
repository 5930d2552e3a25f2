use Rattle.std.proofs.Common.{rules, arith, ◌≡◌, [], ◌∷◌, ◌++◌, ℕ, ◌+◌, ◌-◌, ◌*◌}
use Rattle.std.specs.Rc.{rc_str_bytes}
use Rattle.kishu_language.specs.declared.token.Mark.TheVariants as m
use Rattle.kishu_language.specs.trees.Tree.{expression_of, statement_of, parameter_of}
use Rattle.kishu_language.specs.reading.Reader as reader
use Rattle.kishu_language.specs.reading.ReadExpressions as expressions
use Rattle.kishu_language.specs.reading.ReadStatements as spec
use Rattle.kishu_parser.specs.Views.{left}
use Rattle.kishu_parser.specs.Turns as turns
use Rattle.kishu_parser.specs.Statements as lines
use Rattle.std.proofs.lemmas.Grind.{common_steps}
use Rattle.kishu_parser.proofs.Counts.{one_more, stops, fails_mark, fails_item}
use Rattle.std.proofs.Common.{sym, ◌∙◌}
use Rattle.std.proofs.lemmas.Result.{err_from_is_err_and}
use Rattle.kishu_parser.proofs.cursor.Parser.more_parameters.Goals as goal

pub loop-turn-preserved : goal.loop-turn-preserved
loop-turn-preserved c =
    let e = one_more (λ n. reader.climb (expressions.another m.Comma) (turns.more_turn m.Comma (lines.parameter c.args.room)) n (lines.parameters_in c.loop-turn.all) (left c.args.self.now.tokens.now c.loop-turn.at)) _ c.loop-turn._turn c.loop-turn-test.true c.loop-turn.invariant in
    first_of (search rules, grind (arith, common_steps))

pub returns-then-not-sees_another : goal.returns-then-not-sees_another
returns-then-not-sees_another c = stops (expressions.another m.Comma) (turns.more_turn m.Comma (lines.parameter c.args.room)) c.left-turn-end.result c.loop-turn._turn (lines.parameters_in c.loop-turn.all) (left c.args.self.now.tokens.now c.loop-turn.at) c.loop-turn-test.true c.loop-turn.invariant (sym c.sees_another.ensures ∙ c.if-not-sees_another.true)

pub returns-in_err-expect : goal.returns-in_err-expect
returns-in_err-expect c =
    let p = err_from_is_err_and c.from_residual-in_err-expect.result c.from_residual-in_err-expect.ensures.1 in
    rw (p.1, p.2) (fails_mark (expressions.another m.Comma) m.Comma (lines.parameter c.args.room) c.left-turn-end.result c.loop-turn._turn (lines.parameters_in c.loop-turn.all) (left c.args.self.now.tokens.now c.loop-turn.at) _ c.loop-turn-test.true c.loop-turn.invariant (sym c.sees_another.ensures ∙ c.if-not-sees_another.false) c.in_err-expect.ensures)

pub returns-in_err-next : goal.returns-in_err-next
returns-in_err-next c =
    let p = err_from_is_err_and c.from_residual-in_err-next.result c.from_residual-in_err-next.ensures.1 in
    rw (p.1, p.2) (fails_item (expressions.another m.Comma) m.Comma (lines.parameter c.args.room) c.left-turn-end.result c.loop-turn._turn (lines.parameters_in c.loop-turn.all) (left c.args.self.now.tokens.now c.loop-turn.at) _ _ c.loop-turn-test.true c.loop-turn.invariant (sym c.sees_another.ensures ∙ c.if-not-sees_another.false) c.in_ok-expect.ensures c.in_err-next.ensures)

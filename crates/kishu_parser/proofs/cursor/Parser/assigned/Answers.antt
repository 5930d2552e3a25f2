use Rattle.std.proofs.Common.{rules, arith, ◌-◌, ◌∙◌, sym}
use Rattle.kishu_language.specs.declared.token.Mark.TheVariants as m
use Rattle.kishu_language.specs.reading.Reader as reader
use Rattle.kishu_language.specs.reading.ReadStatements as spec
use Rattle.kishu_parser.specs.Views.{left}
use Rattle.kishu_parser.specs.Statements as lines
use Rattle.std.proofs.lemmas.Grind.{common_steps}
use Rattle.std.proofs.lemmas.Result.{err_from_is_err_and}
use Rattle.kishu_parser.proofs.Counts.{one_more, stops}
use Rattle.kishu_parser.proofs.Assigned.{fails_target, fails_assign, fails_value}
use Rattle.kishu_parser.proofs.cursor.Parser.assigned.Goals as goal

pub loop-turn-preserved : goal.loop-turn-preserved
loop-turn-preserved c =
    let e = one_more (λ n. reader.climb (reader.sees m.Assign) (spec.assign_turn lines.anywhere c.args.room) n (lines.assigned_of (c.loop-turn.targets, c.loop-turn.value)) (left c.args.self.now.tokens.now c.loop-turn.at)) _ c.loop-turn._turn c.loop-turn-test.true c.loop-turn.invariant in
    first_of (search rules, grind (arith, common_steps))

pub returns-then-not-sees : goal.returns-then-not-sees
returns-then-not-sees c = stops (reader.sees m.Assign) (spec.assign_turn lines.anywhere c.args.room) c.left-turn-end.result c.loop-turn._turn (lines.assigned_of (c.loop-turn.targets, c.loop-turn.value)) (left c.args.self.now.tokens.now c.loop-turn.at) c.loop-turn-test.true c.loop-turn.invariant (sym c.sees.ensures ∙ c.if-not-sees.true)

pub returns-then-not-is_target : goal.returns-then-not-is_target
returns-then-not-is_target c = fails_target (reader.sees m.Assign) lines.anywhere c.args.room c.left-turn-end.result c.loop-turn._turn (lines.assigned_of (c.loop-turn.targets, c.loop-turn.value)) (left c.args.self.now.tokens.now c.loop-turn.at) c.loop-turn-test.true c.loop-turn.invariant (sym c.sees.ensures ∙ c.if-not-sees.false) (sym c.is_target.ensures ∙ c.if-not-is_target.true)

pub returns-in_err-expect : goal.returns-in_err-expect
returns-in_err-expect c =
    let p = err_from_is_err_and c.from_residual.result c.from_residual.ensures.1 in
    rw (p.1, p.2) (fails_assign (reader.sees m.Assign) lines.anywhere c.args.room c.left-turn-end.result c.loop-turn._turn (lines.assigned_of (c.loop-turn.targets, c.loop-turn.value)) (left c.args.self.now.tokens.now c.loop-turn.at) c.loop-turn-test.true c.loop-turn.invariant (sym c.sees.ensures ∙ c.if-not-sees.false) _ (sym c.is_target.ensures ∙ c.if-not-is_target.false) c.in_err-expect.ensures)

pub returns-in_err-next : goal.returns-in_err-next
returns-in_err-next c =
    let p = err_from_is_err_and c.from_residual-in_err-next.result c.from_residual-in_err-next.ensures.1 in
    rw (p.1, p.2) (fails_value (reader.sees m.Assign) lines.anywhere c.args.room c.left-turn-end.result c.loop-turn._turn (lines.assigned_of (c.loop-turn.targets, c.loop-turn.value)) (left c.args.self.now.tokens.now c.loop-turn.at) c.loop-turn-test.true c.loop-turn.invariant (sym c.sees.ensures ∙ c.if-not-sees.false) _ _ (sym c.is_target.ensures ∙ c.if-not-is_target.false) c.in_ok-expect.ensures c.in_err-next.ensures)

use Rattle.std.proofs.Common.{rules, arith, ◌≡◌, [], ◌∷◌, ◌++◌, ℕ, ◌+◌, ◌-◌, ◌*◌}
use Rattle.kishu_language.specs.declared.token.Mark.TheVariants as m
use Rattle.kishu_language.specs.trees.Tree.{expression_of}
use Rattle.kishu_language.specs.grammar.Grammar as g
use Rattle.kishu_language.specs.reading.Reader as reader
use Rattle.kishu_language.specs.reading.ReadExpressions as spec
use Rattle.kishu_parser.specs.Views.{left}
use Rattle.kishu_parser.specs.Trees as views
use Rattle.kishu_parser.specs.Turns as turns
use Rattle.std.proofs.lemmas.Grind.{common_steps}
use Rattle.kishu_parser.proofs.Counts.{one_more, stops, fails_mark, fails_item, fails_operator, fails_operand, fails_one, operator_read, phrase_none, phrase_opens}
use Rattle.std.specs.Prelude.{is_some}
use Rattle.std.proofs.Common.{ap}
use Rattle.std.proofs.Common.{sym, ◌∙◌}
use Rattle.std.proofs.lemmas.Result.{err_from_is_err_and}
use Rattle.kishu_parser.proofs.cursor.Parser.+expressions.Goals as goal

pub more_exprs-loop-turn-preserved : goal.more_exprs-loop-turn-preserved
more_exprs-loop-turn-preserved t c =
    let e = one_more (λ n. reader.climb (spec.another m.Comma) (turns.more_turn m.Comma (spec.expr_level (g.has_room c.args.room) (spec.phrase c.args.room))) n (views.expressions_in c.loop-turn.all) (left c.args.self.now.tokens.now c.loop-turn.at)) _ c.loop-turn._turn c.loop-turn-test.true c.loop-turn.invariant in
    first_of (search rules, grind (arith, common_steps))

pub conjunctions-loop-turn-preserved : goal.conjunctions-loop-turn-preserved
conjunctions-loop-turn-preserved t c =
    let e = one_more (λ n. reader.climb (reader.sees m.Or) (reader.one_more (spec.operation (spec.conjunction (g.has_room c.args.room) (spec.phrase c.args.room)) (reader.mark m.Or))) n (views.joined_in c.loop-turn.all) (left c.args.self.now.tokens.now c.loop-turn.at)) _ c.loop-turn._turn c.loop-turn-test.true c.loop-turn.invariant in
    first_of (search rules, grind (arith, common_steps))

pub negations-loop-turn-preserved : goal.negations-loop-turn-preserved
negations-loop-turn-preserved t c =
    let e = one_more (λ n. reader.climb (reader.sees m.And) (reader.one_more (spec.operation (spec.negated_level (g.has_room c.args.room) (spec.phrase c.args.room)) (reader.mark m.And))) n (views.joined_in c.loop-turn.all) (left c.args.self.now.tokens.now c.loop-turn.at)) _ c.loop-turn._turn c.loop-turn-test.true c.loop-turn.invariant in
    first_of (search rules, grind (arith, common_steps))

pub links-loop-turn-preserved : goal.links-loop-turn-preserved
links-loop-turn-preserved t c =
    let e = one_more (λ n. reader.climb (reader.sees_one spec.begins_comparison) (reader.one_more (spec.operation (spec.sum (g.has_room c.args.room) (spec.phrase c.args.room)) spec.comparison)) n (views.links_in c.loop-turn.links) (left c.args.self.now.tokens.now c.loop-turn.at)) _ c.loop-turn._turn c.loop-turn-test.true c.loop-turn.invariant in
    first_of (search rules, grind (arith, common_steps))

pub terms-loop-turn-preserved : goal.terms-loop-turn-preserved
terms-loop-turn-preserved t c =
    let e = one_more (λ n. reader.climb (reader.sees_one g.sum_operator) (reader.one_more (spec.operation (spec.term (g.has_room c.args.room) (spec.phrase c.args.room)) (reader.one_of g.sum_operator))) n (views.operands_in c.loop-turn.all) (left c.args.self.now.tokens.now c.loop-turn.at)) _ c.loop-turn._turn c.loop-turn-test.true c.loop-turn.invariant in
    first_of (search rules, grind (arith, common_steps))

pub factors-loop-turn-preserved : goal.factors-loop-turn-preserved
factors-loop-turn-preserved t c =
    let e = one_more (λ n. reader.climb (reader.sees_one g.product_operator) (reader.one_more (spec.operation (spec.unary_level (g.has_room c.args.room) (spec.phrase c.args.room)) (reader.one_of g.product_operator))) n (views.operands_in c.loop-turn.all) (left c.args.self.now.tokens.now c.loop-turn.at)) _ c.loop-turn._turn c.loop-turn-test.true c.loop-turn.invariant in
    first_of (search rules, grind (arith, common_steps))

pub trailers-loop-turn-preserved : goal.trailers-loop-turn-preserved
trailers-loop-turn-preserved t c =
    let e = one_more (λ n. reader.climb (reader.sees_one spec.begins_trailer) (reader.one_more (spec.trailer (g.has_room c.args.room) (spec.phrase c.args.room))) n (views.trailers_in c.loop-turn.all) (left c.args.self.now.tokens.now c.loop-turn.at)) _ c.loop-turn._turn c.loop-turn-test.true c.loop-turn.invariant in
    first_of (search rules, grind (arith, common_steps))

pub more_items-loop-turn-preserved : goal.more_items-loop-turn-preserved
more_items-loop-turn-preserved t c =
    let e = one_more (λ n. reader.climb (spec.another m.Comma) (turns.more_turn m.Comma (spec.phrase c.args.room g.expr)) n (views.expressions_in c.loop-turn.all) (left c.args.self.now.tokens.now c.loop-turn.at)) _ c.loop-turn._turn c.loop-turn-test.true c.loop-turn.invariant in
    first_of (search rules, grind (arith, common_steps))

pub more_pairs-loop-turn-preserved : goal.more_pairs-loop-turn-preserved
more_pairs-loop-turn-preserved t c =
    let e = one_more (λ n. reader.climb (spec.another m.Comma) (turns.more_turn m.Comma (spec.pair (spec.phrase c.args.room))) n (views.pairs_in c.loop-turn.all) (left c.args.self.now.tokens.now c.loop-turn.at)) _ c.loop-turn._turn c.loop-turn-test.true c.loop-turn.invariant in
    first_of (search rules, grind (arith, common_steps))

pub more_arguments-loop-turn-preserved : goal.more_arguments-loop-turn-preserved
more_arguments-loop-turn-preserved t c =
    let e = one_more (λ n. reader.climb (spec.another m.Comma) (turns.more_turn m.Comma (spec.argument (spec.phrase c.args.room))) n (views.arguments_in c.loop-turn.all) (left c.args.self.now.tokens.now c.loop-turn.at)) _ c.loop-turn._turn c.loop-turn-test.true c.loop-turn.invariant in
    first_of (search rules, grind (arith, common_steps))

pub nested-returns-in-Exprs : goal.nested-returns-in-Exprs
nested-returns-in-Exprs t c = rw (phrase_opens c.args.room (views.phrase_of c.args.phrase) (left c.args.self.now.tokens.now c.args.at.now) c.if-room-eq0.false, c.in-Exprs.is) c.exprs_level.ensures

pub nested-returns-in-Expr : goal.nested-returns-in-Expr
nested-returns-in-Expr t c = rw (phrase_opens c.args.room (views.phrase_of c.args.phrase) (left c.args.self.now.tokens.now c.args.at.now) c.if-room-eq0.false, c.in-Expr.is) c.expr_level.ensures

pub nested-returns-in-Negated : goal.nested-returns-in-Negated
nested-returns-in-Negated t c = rw (phrase_opens c.args.room (views.phrase_of c.args.phrase) (left c.args.self.now.tokens.now c.args.at.now) c.if-room-eq0.false, c.in-Negated.is) c.negated_level.ensures

pub nested-returns-in-Unary : goal.nested-returns-in-Unary
nested-returns-in-Unary t c = rw (phrase_opens c.args.room (views.phrase_of c.args.phrase) (left c.args.self.now.tokens.now c.args.at.now) c.if-room-eq0.false, c.in-Unary.is) c.unary_level.ensures

pub more_exprs-returns-then-not-sees_another : goal.more_exprs-returns-then-not-sees_another
more_exprs-returns-then-not-sees_another t c = stops (spec.another m.Comma) (turns.more_turn m.Comma (spec.expr_level (g.has_room c.args.room) (spec.phrase c.args.room))) c.left-turn-end.result c.loop-turn._turn (views.expressions_in c.loop-turn.all) (left c.args.self.now.tokens.now c.loop-turn.at) c.loop-turn-test.true c.loop-turn.invariant (sym c.sees_another.ensures ∙ c.if-not-sees_another.true)

pub more_exprs-returns-in_err-expect : goal.more_exprs-returns-in_err-expect
more_exprs-returns-in_err-expect t c =
    let p = err_from_is_err_and c.from_residual-in_err-expect.result c.from_residual-in_err-expect.ensures.1 in
    rw (p.1, p.2) (fails_mark (spec.another m.Comma) m.Comma (spec.expr_level (g.has_room c.args.room) (spec.phrase c.args.room)) c.left-turn-end.result c.loop-turn._turn (views.expressions_in c.loop-turn.all) (left c.args.self.now.tokens.now c.loop-turn.at) _ c.loop-turn-test.true c.loop-turn.invariant (sym c.sees_another.ensures ∙ c.if-not-sees_another.false) c.in_err-expect.ensures)

pub more_exprs-returns-in_err-next : goal.more_exprs-returns-in_err-next
more_exprs-returns-in_err-next t c =
    let p = err_from_is_err_and c.from_residual-in_err-next.result c.from_residual-in_err-next.ensures.1 in
    rw (p.1, p.2) (fails_item (spec.another m.Comma) m.Comma (spec.expr_level (g.has_room c.args.room) (spec.phrase c.args.room)) c.left-turn-end.result c.loop-turn._turn (views.expressions_in c.loop-turn.all) (left c.args.self.now.tokens.now c.loop-turn.at) _ _ c.loop-turn-test.true c.loop-turn.invariant (sym c.sees_another.ensures ∙ c.if-not-sees_another.false) c.in_ok-expect.ensures c.in_err-next.ensures)

pub more_items-returns-then-not-sees_another : goal.more_items-returns-then-not-sees_another
more_items-returns-then-not-sees_another t c = stops (spec.another m.Comma) (turns.more_turn m.Comma (spec.phrase c.args.room g.expr)) c.left-turn-end.result c.loop-turn._turn (views.expressions_in c.loop-turn.all) (left c.args.self.now.tokens.now c.loop-turn.at) c.loop-turn-test.true c.loop-turn.invariant (sym c.sees_another.ensures ∙ c.if-not-sees_another.true)

pub more_items-returns-in_err-expect : goal.more_items-returns-in_err-expect
more_items-returns-in_err-expect t c =
    let p = err_from_is_err_and c.from_residual-in_err-expect.result c.from_residual-in_err-expect.ensures.1 in
    rw (p.1, p.2) (fails_mark (spec.another m.Comma) m.Comma (spec.phrase c.args.room g.expr) c.left-turn-end.result c.loop-turn._turn (views.expressions_in c.loop-turn.all) (left c.args.self.now.tokens.now c.loop-turn.at) _ c.loop-turn-test.true c.loop-turn.invariant (sym c.sees_another.ensures ∙ c.if-not-sees_another.false) c.in_err-expect.ensures)

pub more_items-returns-in_err-next : goal.more_items-returns-in_err-next
more_items-returns-in_err-next t c =
    let p = err_from_is_err_and c.from_residual-in_err-next.result c.from_residual-in_err-next.ensures.1 in
    rw (p.1, p.2) (fails_item (spec.another m.Comma) m.Comma (spec.phrase c.args.room g.expr) c.left-turn-end.result c.loop-turn._turn (views.expressions_in c.loop-turn.all) (left c.args.self.now.tokens.now c.loop-turn.at) _ _ c.loop-turn-test.true c.loop-turn.invariant (sym c.sees_another.ensures ∙ c.if-not-sees_another.false) c.in_ok-expect.ensures c.in_err-next.ensures)

pub more_arguments-returns-then-not-sees_another : goal.more_arguments-returns-then-not-sees_another
more_arguments-returns-then-not-sees_another t c = stops (spec.another m.Comma) (turns.more_turn m.Comma (spec.argument (spec.phrase c.args.room))) c.left-turn-end.result c.loop-turn._turn (views.arguments_in c.loop-turn.all) (left c.args.self.now.tokens.now c.loop-turn.at) c.loop-turn-test.true c.loop-turn.invariant (sym c.sees_another.ensures ∙ c.if-not-sees_another.true)

pub more_arguments-returns-in_err-expect : goal.more_arguments-returns-in_err-expect
more_arguments-returns-in_err-expect t c =
    let p = err_from_is_err_and c.from_residual-in_err-expect.result c.from_residual-in_err-expect.ensures.1 in
    rw (p.1, p.2) (fails_mark (spec.another m.Comma) m.Comma (spec.argument (spec.phrase c.args.room)) c.left-turn-end.result c.loop-turn._turn (views.arguments_in c.loop-turn.all) (left c.args.self.now.tokens.now c.loop-turn.at) _ c.loop-turn-test.true c.loop-turn.invariant (sym c.sees_another.ensures ∙ c.if-not-sees_another.false) c.in_err-expect.ensures)

pub more_arguments-returns-in_err-next : goal.more_arguments-returns-in_err-next
more_arguments-returns-in_err-next t c =
    let p = err_from_is_err_and c.from_residual-in_err-next.result c.from_residual-in_err-next.ensures.1 in
    rw (p.1, p.2) (fails_item (spec.another m.Comma) m.Comma (spec.argument (spec.phrase c.args.room)) c.left-turn-end.result c.loop-turn._turn (views.arguments_in c.loop-turn.all) (left c.args.self.now.tokens.now c.loop-turn.at) _ _ c.loop-turn-test.true c.loop-turn.invariant (sym c.sees_another.ensures ∙ c.if-not-sees_another.false) c.in_ok-expect.ensures c.in_err-next.ensures)

pub more_pairs-returns-then-not-sees_another : goal.more_pairs-returns-then-not-sees_another
more_pairs-returns-then-not-sees_another t c = stops (spec.another m.Comma) (turns.more_turn m.Comma (spec.pair (spec.phrase c.args.room))) c.left-turn-end.result c.loop-turn._turn (views.pairs_in c.loop-turn.all) (left c.args.self.now.tokens.now c.loop-turn.at) c.loop-turn-test.true c.loop-turn.invariant (sym c.sees_another.ensures ∙ c.if-not-sees_another.true)

pub more_pairs-returns-in_err-expect : goal.more_pairs-returns-in_err-expect
more_pairs-returns-in_err-expect t c =
    let p = err_from_is_err_and c.from_residual-in_err-expect.result c.from_residual-in_err-expect.ensures.1 in
    rw (p.1, p.2) (fails_mark (spec.another m.Comma) m.Comma (spec.pair (spec.phrase c.args.room)) c.left-turn-end.result c.loop-turn._turn (views.pairs_in c.loop-turn.all) (left c.args.self.now.tokens.now c.loop-turn.at) _ c.loop-turn-test.true c.loop-turn.invariant (sym c.sees_another.ensures ∙ c.if-not-sees_another.false) c.in_err-expect.ensures)

pub more_pairs-returns-in_err-key : goal.more_pairs-returns-in_err-key
more_pairs-returns-in_err-key t c =
    let p = err_from_is_err_and c.from_residual-in_err-key.result c.from_residual-in_err-key.ensures.1 in
    rw (p.1, p.2) (fails_item (spec.another m.Comma) m.Comma (spec.pair (spec.phrase c.args.room)) c.left-turn-end.result c.loop-turn._turn (views.pairs_in c.loop-turn.all) (left c.args.self.now.tokens.now c.loop-turn.at) _ _ c.loop-turn-test.true c.loop-turn.invariant (sym c.sees_another.ensures ∙ c.if-not-sees_another.false) c.in_ok-expect.ensures c.in_err-key.ensures)

pub conjunctions-returns-then-not-sees : goal.conjunctions-returns-then-not-sees
conjunctions-returns-then-not-sees t c = stops (reader.sees m.Or) (reader.one_more (spec.operation (spec.conjunction (g.has_room c.args.room) (spec.phrase c.args.room)) (reader.mark m.Or))) c.left-turn-end.result c.loop-turn._turn (views.joined_in c.loop-turn.all) (left c.args.self.now.tokens.now c.loop-turn.at) c.loop-turn-test.true c.loop-turn.invariant (sym c.sees.ensures ∙ c.if-not-sees.true)

pub conjunctions-returns-in_err-next : goal.conjunctions-returns-in_err-next
conjunctions-returns-in_err-next t c =
    let p = err_from_is_err_and c.from_residual-in_err-next.result c.from_residual-in_err-next.ensures.1 in
    rw (p.1, p.2) (fails_operand (reader.sees m.Or) (reader.mark m.Or) (spec.conjunction (g.has_room c.args.room) (spec.phrase c.args.room)) c.left-turn-end.result c.loop-turn._turn (views.joined_in c.loop-turn.all) (left c.args.self.now.tokens.now c.loop-turn.at) _ tt _ c.loop-turn-test.true c.loop-turn.invariant (sym c.sees.ensures ∙ c.if-not-sees.false) c.in_ok-expect.ensures c.in_err-next.ensures)

pub negations-returns-then-not-sees : goal.negations-returns-then-not-sees
negations-returns-then-not-sees t c = stops (reader.sees m.And) (reader.one_more (spec.operation (spec.negated_level (g.has_room c.args.room) (spec.phrase c.args.room)) (reader.mark m.And))) c.left-turn-end.result c.loop-turn._turn (views.joined_in c.loop-turn.all) (left c.args.self.now.tokens.now c.loop-turn.at) c.loop-turn-test.true c.loop-turn.invariant (sym c.sees.ensures ∙ c.if-not-sees.true)

pub negations-returns-in_err-next : goal.negations-returns-in_err-next
negations-returns-in_err-next t c =
    let p = err_from_is_err_and c.from_residual-in_err-next.result c.from_residual-in_err-next.ensures.1 in
    rw (p.1, p.2) (fails_operand (reader.sees m.And) (reader.mark m.And) (spec.negated_level (g.has_room c.args.room) (spec.phrase c.args.room)) c.left-turn-end.result c.loop-turn._turn (views.joined_in c.loop-turn.all) (left c.args.self.now.tokens.now c.loop-turn.at) _ tt _ c.loop-turn-test.true c.loop-turn.invariant (sym c.sees.ensures ∙ c.if-not-sees.false) c.in_ok-expect.ensures c.in_err-next.ensures)

pub links-returns-then-not-begins_comparison : goal.links-returns-then-not-begins_comparison
links-returns-then-not-begins_comparison t c = stops (reader.sees_one spec.begins_comparison) (reader.one_more (spec.operation (spec.sum (g.has_room c.args.room) (spec.phrase c.args.room)) spec.comparison)) c.left-turn-end.result c.loop-turn._turn (views.links_in c.loop-turn.links) (left c.args.self.now.tokens.now c.loop-turn.at) c.loop-turn-test.true c.loop-turn.invariant (sym c.begins_comparison.ensures ∙ c.if-not-begins_comparison.true)

pub links-returns-in_err-comparison : goal.links-returns-in_err-comparison
links-returns-in_err-comparison t c =
    let p = err_from_is_err_and c.from_residual.result c.from_residual.ensures.1 in
    rw (p.1, p.2) (fails_operator (reader.sees_one spec.begins_comparison) spec.comparison (spec.sum (g.has_room c.args.room) (spec.phrase c.args.room)) c.left-turn-end.result c.loop-turn._turn (views.links_in c.loop-turn.links) (left c.args.self.now.tokens.now c.loop-turn.at) _ c.loop-turn-test.true c.loop-turn.invariant (sym c.begins_comparison.ensures ∙ c.if-not-begins_comparison.false) c.in_err-comparison.ensures)

pub links-returns-in_err-value : goal.links-returns-in_err-value
links-returns-in_err-value t c =
    let p = err_from_is_err_and c.from_residual-in_err-value.result c.from_residual-in_err-value.ensures.1 in
    rw (p.1, p.2) (fails_operand (reader.sees_one spec.begins_comparison) spec.comparison (spec.sum (g.has_room c.args.room) (spec.phrase c.args.room)) c.left-turn-end.result c.loop-turn._turn (views.links_in c.loop-turn.links) (left c.args.self.now.tokens.now c.loop-turn.at) _ _ _ c.loop-turn-test.true c.loop-turn.invariant (sym c.begins_comparison.ensures ∙ c.if-not-begins_comparison.false) c.in_ok-comparison.ensures c.in_err-value.ensures)

pub terms-returns-in_default : goal.terms-returns-in_default
terms-returns-in_default t c = stops (reader.sees_one g.sum_operator) (reader.one_more (spec.operation (spec.term (g.has_room c.args.room) (spec.phrase c.args.room)) (reader.one_of g.sum_operator))) c.left-turn-end.result c.loop-turn._turn (views.operands_in c.loop-turn.all) (left c.args.self.now.tokens.now c.loop-turn.at) c.loop-turn-test.true c.loop-turn.invariant (ap is_some (sym c.sum_operator.ensures ∙ c.in_default.is))

pub terms-returns-in_err-value : goal.terms-returns-in_err-value
terms-returns-in_err-value t c =
    let p = err_from_is_err_and c.from_residual.result c.from_residual.ensures.1 in
    rw (p.1, p.2) (fails_operand (reader.sees_one g.sum_operator) (reader.one_of g.sum_operator) (spec.term (g.has_room c.args.room) (spec.phrase c.args.room)) c.left-turn-end.result c.loop-turn._turn (views.operands_in c.loop-turn.all) (left c.args.self.now.tokens.now c.loop-turn.at) _ c.in-Some.operator _ c.loop-turn-test.true c.loop-turn.invariant (ap is_some (sym c.sum_operator.ensures ∙ c.in-Some.is)) (operator_read g.sum_operator (left c.args.self.now.tokens.now c.loop-turn.at) _ _ c.in-Some.operator c.sum_operator.ensures c.in-Some.is c.skip.ensures) c.in_err-value.ensures)

pub factors-returns-in_default : goal.factors-returns-in_default
factors-returns-in_default t c = stops (reader.sees_one g.product_operator) (reader.one_more (spec.operation (spec.unary_level (g.has_room c.args.room) (spec.phrase c.args.room)) (reader.one_of g.product_operator))) c.left-turn-end.result c.loop-turn._turn (views.operands_in c.loop-turn.all) (left c.args.self.now.tokens.now c.loop-turn.at) c.loop-turn-test.true c.loop-turn.invariant (ap is_some (sym c.product_operator.ensures ∙ c.in_default.is))

pub factors-returns-in_err-value : goal.factors-returns-in_err-value
factors-returns-in_err-value t c =
    let p = err_from_is_err_and c.from_residual.result c.from_residual.ensures.1 in
    rw (p.1, p.2) (fails_operand (reader.sees_one g.product_operator) (reader.one_of g.product_operator) (spec.unary_level (g.has_room c.args.room) (spec.phrase c.args.room)) c.left-turn-end.result c.loop-turn._turn (views.operands_in c.loop-turn.all) (left c.args.self.now.tokens.now c.loop-turn.at) _ c.in-Some.operator _ c.loop-turn-test.true c.loop-turn.invariant (ap is_some (sym c.product_operator.ensures ∙ c.in-Some.is)) (operator_read g.product_operator (left c.args.self.now.tokens.now c.loop-turn.at) _ _ c.in-Some.operator c.product_operator.ensures c.in-Some.is c.skip.ensures) c.in_err-value.ensures)

pub trailers-returns-then-not-begins_trailer : goal.trailers-returns-then-not-begins_trailer
trailers-returns-then-not-begins_trailer t c = stops (reader.sees_one spec.begins_trailer) (reader.one_more (spec.trailer (g.has_room c.args.room) (spec.phrase c.args.room))) c.left-turn-end.result c.loop-turn._turn (views.trailers_in c.loop-turn.all) (left c.args.self.now.tokens.now c.loop-turn.at) c.loop-turn-test.true c.loop-turn.invariant (sym c.begins_trailer.ensures ∙ c.if-not-begins_trailer.true)

pub trailers-returns-in_err-next : goal.trailers-returns-in_err-next
trailers-returns-in_err-next t c =
    let p = err_from_is_err_and c.from_residual.result c.from_residual.ensures.1 in
    rw (p.1, p.2) (fails_one (reader.sees_one spec.begins_trailer) (spec.trailer (g.has_room c.args.room) (spec.phrase c.args.room)) c.left-turn-end.result c.loop-turn._turn (views.trailers_in c.loop-turn.all) (left c.args.self.now.tokens.now c.loop-turn.at) _ c.loop-turn-test.true c.loop-turn.invariant (sym c.begins_trailer.ensures ∙ c.if-not-begins_trailer.false) c.in_err-next.ensures)

pub nested-returns-then-room-eq0 : goal.nested-returns-then-room-eq0
nested-returns-then-room-eq0 t c = phrase_none c.args.room (views.phrase_of c.args.phrase) (left c.args.self.now.tokens.now c.args.at.now) c.if-room-eq0.true

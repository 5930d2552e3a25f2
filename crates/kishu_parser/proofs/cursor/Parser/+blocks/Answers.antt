use Rattle.std.proofs.Common.{rules, arith, ◌≡◌, [], ◌∷◌, ◌++◌, ℕ, ◌+◌, ◌-◌, ◌*◌}
use Rattle.std.specs.Rc.{rc_str_bytes}
use Rattle.kishu_language.specs.declared.token.Mark.TheVariants as m
use Rattle.kishu_language.specs.trees.Tree.{expression_of, statement_of, parameter_of}
use Rattle.kishu_language.specs.reading.Reader as reader
use Rattle.kishu_language.specs.reading.ReadExpressions as expressions
use Rattle.kishu_language.specs.reading.ReadStatements as spec
use Rattle.kishu_parser.specs.Views.{left}
use Rattle.kishu_parser.specs.Turns as turns
use Rattle.kishu_parser.specs.Statements as lines
use Rattle.std.proofs.lemmas.Grind.{common_steps}
use Rattle.kishu_parser.proofs.Counts.{one_more, stops, fails_mark, fails_item, fails_one}
use Rattle.std.specs.Prelude.{not}
use Rattle.std.proofs.Common.{sym, ap, ◌∙◌}
use Rattle.std.proofs.lemmas.Result.{err_from_is_err_and}
use Rattle.kishu_parser.proofs.Chunks.{fails_chunk}
use Rattle.kishu_parser.proofs.Counts.{chunk_opens}
use Rattle.std.proofs.Common.{map, Some}
use Rattle.kishu_language.specs.trees.Tree.{statements}
use Rattle.kishu_language.specs.grammar.Refusals.{parameters_fit, globals_fit}
use Rattle.kishu_language.specs.trees.StatementRows.{definition_is}
use Rattle.kishu_parser.proofs.Compounds.{while_reads, head_reads, parameters_refused, body_reads, globals_refused, globals_pass}
use Rattle.kishu_parser.proofs.cursor.Parser.+blocks.Goals as goal

pub more_chunks-loop-turn-preserved : goal.more_chunks-loop-turn-preserved
more_chunks-loop-turn-preserved t c =
    let e = one_more (λ n. reader.climb lines.sees_chunk (lines.chunk_turn (spec.chunk c.args.self.now.source.now c.args.room (lines.around_of c.args.around))) n (lines.statements_in c.loop-turn.all) (left c.args.self.now.tokens.now c.loop-turn.at)) _ c.loop-turn._turn c.loop-turn-test.true c.loop-turn.invariant in
    first_of (search rules, grind (arith, common_steps))

pub more_arms-loop-turn-preserved : goal.more_arms-loop-turn-preserved
more_arms-loop-turn-preserved t c =
    let e = one_more (λ n. reader.climb (reader.sees m.Elif) (turns.more_turn m.Elif (spec.arm c.args.self.now.source.now c.args.room (spec.chunk c.args.self.now.source.now c.args.room) (lines.around_of c.args.around))) n (lines.arms_in c.loop-turn.arms) (left c.args.self.now.tokens.now c.loop-turn.at)) _ c.loop-turn._turn c.loop-turn-test.true c.loop-turn.invariant in
    first_of (search rules, grind (arith, common_steps))

pub more_handlers-loop-turn-preserved : goal.more_handlers-loop-turn-preserved
more_handlers-loop-turn-preserved t c =
    let e = one_more (λ n. reader.climb (reader.sees m.Except) (reader.one_more (spec.handler c.args.self.now.source.now c.args.room (spec.chunk c.args.self.now.source.now c.args.room) (lines.around_of c.args.around))) n (lines.handlers_in c.loop-turn.all) (left c.args.self.now.tokens.now c.loop-turn.at)) _ c.loop-turn._turn c.loop-turn-test.true c.loop-turn.invariant in
    first_of (search rules, grind (arith, common_steps))

pub chunk-returns-then-not-begins_compound : goal.chunk-returns-then-not-begins_compound
chunk-returns-then-not-begins_compound t c =
    let e = chunk_opens c.args.self.now.source.now c.args.room (lines.around_of c.args.around) (left c.args.self.now.tokens.now c.args.at.now) c.if-room-eq0.false in
    first_of (search rules, grind (arith, common_steps))

pub chunk-returns : goal.chunk-returns
chunk-returns t c =
    let e = chunk_opens c.args.self.now.source.now c.args.room (lines.around_of c.args.around) (left c.args.self.now.tokens.now c.args.at.now) c.if-room-eq0.false in
    first_of (search rules, grind (arith, common_steps))

pub more_chunks-returns-then-sees_dedent : goal.more_chunks-returns-then-sees_dedent
more_chunks-returns-then-sees_dedent t c = stops lines.sees_chunk (lines.chunk_turn (spec.chunk c.args.self.now.source.now c.args.room (lines.around_of c.args.around))) c.left-turn-end.result c.loop-turn._turn (lines.statements_in c.loop-turn.all) (left c.args.self.now.tokens.now c.loop-turn.at) c.loop-turn-test.true c.loop-turn.invariant (ap not (sym c.sees_dedent.ensures ∙ c.if-sees_dedent.true))

pub more_chunks-returns-in_err-next : goal.more_chunks-returns-in_err-next
more_chunks-returns-in_err-next t c =
    let p = err_from_is_err_and c.from_residual.result c.from_residual.ensures.1 in
    rw (p.1, p.2) (fails_chunk lines.sees_chunk (spec.chunk c.args.self.now.source.now c.args.room (lines.around_of c.args.around)) c.left-turn-end.result c.loop-turn._turn (lines.statements_in c.loop-turn.all) (left c.args.self.now.tokens.now c.loop-turn.at) _ c.loop-turn-test.true c.loop-turn.invariant (ap not (sym c.sees_dedent.ensures ∙ c.if-sees_dedent.false)) c.in_err-next.ensures)

pub more_arms-returns-then-not-sees : goal.more_arms-returns-then-not-sees
more_arms-returns-then-not-sees t c = stops (reader.sees m.Elif) (turns.more_turn m.Elif (spec.arm c.args.self.now.source.now c.args.room (spec.chunk c.args.self.now.source.now c.args.room) (lines.around_of c.args.around))) c.left-turn-end.result c.loop-turn._turn (lines.arms_in c.loop-turn.arms) (left c.args.self.now.tokens.now c.loop-turn.at) c.loop-turn-test.true c.loop-turn.invariant (sym c.sees.ensures ∙ c.if-not-sees.true)

pub more_arms-returns-in_err-expect : goal.more_arms-returns-in_err-expect
more_arms-returns-in_err-expect t c =
    let p = err_from_is_err_and c.from_residual-in_err-expect.result c.from_residual-in_err-expect.ensures.1 in
    rw (p.1, p.2) (fails_mark (reader.sees m.Elif) m.Elif (spec.arm c.args.self.now.source.now c.args.room (spec.chunk c.args.self.now.source.now c.args.room) (lines.around_of c.args.around)) c.left-turn-end.result c.loop-turn._turn (lines.arms_in c.loop-turn.arms) (left c.args.self.now.tokens.now c.loop-turn.at) _ c.loop-turn-test.true c.loop-turn.invariant (sym c.sees.ensures ∙ c.if-not-sees.false) c.in_err-expect.ensures)

pub more_arms-returns-in_err-next : goal.more_arms-returns-in_err-next
more_arms-returns-in_err-next t c =
    let p = err_from_is_err_and c.from_residual-in_err-next.result c.from_residual-in_err-next.ensures.1 in
    rw (p.1, p.2) (fails_item (reader.sees m.Elif) m.Elif (spec.arm c.args.self.now.source.now c.args.room (spec.chunk c.args.self.now.source.now c.args.room) (lines.around_of c.args.around)) c.left-turn-end.result c.loop-turn._turn (lines.arms_in c.loop-turn.arms) (left c.args.self.now.tokens.now c.loop-turn.at) _ _ c.loop-turn-test.true c.loop-turn.invariant (sym c.sees.ensures ∙ c.if-not-sees.false) c.in_ok-expect.ensures c.in_err-next.ensures)

pub more_handlers-returns-then-not-sees : goal.more_handlers-returns-then-not-sees
more_handlers-returns-then-not-sees t c = stops (reader.sees m.Except) (reader.one_more (spec.handler c.args.self.now.source.now c.args.room (spec.chunk c.args.self.now.source.now c.args.room) (lines.around_of c.args.around))) c.left-turn-end.result c.loop-turn._turn (lines.handlers_in c.loop-turn.all) (left c.args.self.now.tokens.now c.loop-turn.at) c.loop-turn-test.true c.loop-turn.invariant (sym c.sees.ensures ∙ c.if-not-sees.true)

pub more_handlers-returns-in_err-next : goal.more_handlers-returns-in_err-next
more_handlers-returns-in_err-next t c =
    let p = err_from_is_err_and c.from_residual-in_err-next.result c.from_residual-in_err-next.ensures.1 in
    rw (p.1, p.2) (fails_one (reader.sees m.Except) (spec.handler c.args.self.now.source.now c.args.room (spec.chunk c.args.self.now.source.now c.args.room) (lines.around_of c.args.around)) c.left-turn-end.result c.loop-turn._turn (lines.handlers_in c.loop-turn.all) (left c.args.self.now.tokens.now c.loop-turn.at) _ c.loop-turn-test.true c.loop-turn.invariant (sym c.sees.ensures ∙ c.if-not-sees.false) c.in_err-next.ensures)

pub while_-returns : goal.while_-returns
while_-returns t c = while_reads c.args.self.now.source.now c.args.room (spec.chunk c.args.self.now.source.now c.args.room) (lines.around_of c.args.around) (lines.around_of c.in_loop.result) _ _ _ c.in_ok-found.found c.in_loop.ensures c.in_ok-expect.ensures c.in_ok-found.ensures

pub definition-returns-then-not-branch : goal.definition-returns-then-not-branch
definition-returns-then-not-branch t c =
    head_reads c.args.self.now.source.now c.args.room (spec.chunk c.args.self.now.source.now c.args.room) _ _ _ _ _ _ (rc_str_bytes c.in_ok-name.name) (lines.parameters_in c.in_ok-params.params) c.in_ok-expect.ensures c.in_ok-name.ensures c.in_ok-expect-2.ensures c.in_ok-params.ensures c.in_ok-expect-3.ensures
    ∙ parameters_refused c.args.self.now.source.now c.args.room (spec.chunk c.args.self.now.source.now c.args.room) (rc_str_bytes c.in_ok-name.name) (lines.parameters_in c.in_ok-params.params) (left c.args.self.now.tokens.now c.expect-3.new.at) (ap (λ ps. parameters_fit (map parameter_of ps)) (sym c.as_slice.ensures.value) ∙ sym c.in_ok-parameters_fit.ensures ∙ c.if-not-branch.true)

pub definition-returns-then-not-branch-2 : goal.definition-returns-then-not-branch-2
definition-returns-then-not-branch-2 t c =
    head_reads c.args.self.now.source.now c.args.room (spec.chunk c.args.self.now.source.now c.args.room) _ _ _ _ _ _ (rc_str_bytes c.in_ok-name.name) (lines.parameters_in c.in_ok-params.params) c.in_ok-expect.ensures c.in_ok-name.ensures c.in_ok-expect-2.ensures c.in_ok-params.ensures c.in_ok-expect-3.ensures
    ∙ body_reads c.args.self.now.source.now c.args.room (spec.chunk c.args.self.now.source.now c.args.room) (lines.around_of c.function.result) (rc_str_bytes c.in_ok-name.name) (lines.parameters_in c.in_ok-params.params) (lines.block_of c.in_ok-body.body) (left c.args.self.now.tokens.now c.expect-3.new.at) (left c.args.self.now.tokens.now c.expect-4.new.at) (left c.args.self.now.tokens.now c.block.new.at) c.function.ensures (ap (λ ps. parameters_fit (map parameter_of ps)) (sym c.as_slice.ensures.value) ∙ sym c.in_ok-parameters_fit.ensures ∙ c.if-not-branch.false) c.in_ok-expect-4.ensures c.in_ok-body.ensures
    ∙ globals_refused (rc_str_bytes c.in_ok-name.name) (lines.parameters_in c.in_ok-params.params) (lines.block_of c.in_ok-body.body) (left c.args.self.now.tokens.now c.block.new.at) (ap (λ ps. globals_fit (map parameter_of ps) (lines.block_of c.in_ok-body.body)) (sym c.as_slice-2.ensures.value) ∙ ap (λ ss. globals_fit (map parameter_of c.as_slice-2.result.now) (statements (map statement_of ss))) (sym c.as_slice-3.ensures.value) ∙ sym c.in_ok-globals_fit.ensures ∙ c.if-not-branch-2.true)

pub definition-returns : goal.definition-returns
definition-returns t c =
    head_reads c.args.self.now.source.now c.args.room (spec.chunk c.args.self.now.source.now c.args.room) _ _ _ _ _ _ (rc_str_bytes c.in_ok-name.name) (lines.parameters_in c.in_ok-params.params) c.in_ok-expect.ensures c.in_ok-name.ensures c.in_ok-expect-2.ensures c.in_ok-params.ensures c.in_ok-expect-3.ensures
    ∙ body_reads c.args.self.now.source.now c.args.room (spec.chunk c.args.self.now.source.now c.args.room) (lines.around_of c.function.result) (rc_str_bytes c.in_ok-name.name) (lines.parameters_in c.in_ok-params.params) (lines.block_of c.in_ok-body.body) (left c.args.self.now.tokens.now c.expect-3.new.at) (left c.args.self.now.tokens.now c.expect-4.new.at) (left c.args.self.now.tokens.now c.block.new.at) c.function.ensures (ap (λ ps. parameters_fit (map parameter_of ps)) (sym c.as_slice.ensures.value) ∙ sym c.in_ok-parameters_fit.ensures ∙ c.if-not-branch.false) c.in_ok-expect-4.ensures c.in_ok-body.ensures
    ∙ globals_pass (rc_str_bytes c.in_ok-name.name) (lines.parameters_in c.in_ok-params.params) (lines.block_of c.in_ok-body.body) (left c.args.self.now.tokens.now c.block.new.at) (ap (λ ps. globals_fit (map parameter_of ps) (lines.block_of c.in_ok-body.body)) (sym c.as_slice-2.ensures.value) ∙ ap (λ ss. globals_fit (map parameter_of c.as_slice-2.result.now) (statements (map statement_of ss))) (sym c.as_slice-3.ensures.value) ∙ sym c.in_ok-globals_fit.ensures ∙ c.if-not-branch-2.false)
    ∙ ap (λ d. Some (d, (left c.args.self.now.tokens.now c.block.new.at))) (sym (definition_is c.in_ok-name.name c.in_ok-params.params c.in_ok-body.body))

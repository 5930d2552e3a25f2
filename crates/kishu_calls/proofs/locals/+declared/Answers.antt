use Rattle.std.proofs.Common.{◌≡◌, suc, max, ap, ◌∙◌, arith, refl, map, ◌++◌, List}
use Rattle.kishu_machine.specs.Frames.{texts_of}
use Rattle.kishu_language.specs.declared.tree.Stmt.{Stmt}
use Rattle.kishu_language.specs.declared.tree.Arm.{Arm as Arm'}
use Rattle.kishu_language.specs.declared.tree.Handler.{Handler as Handler'}
use Rattle.kishu_meaning.specs.calls.Functions.{declared_in, declared_in_block, declared_in_arms, declared_in_handlers}
use Rattle.kishu_language.specs.trees.Height.{of_expression, of_optional, of_statement, of_statements, of_arms, of_handlers}
use Rattle.kishu_language.specs.trees.Tree.{statements, arms, handlers, value_of, expression_of, statement_of}
use Rattle.kishu_language.specs.trees.StatementRows.{global_is, if_is, while_is, for_is, try_is, finally_is}
use Rattle.kishu_language.specs.trees.Parts.{arm_of, handler_of}
use Rattle.kishu_calls.proofs.LocalNames.{both_if_ok, four_if_ok, one_more, height_here, arm_declared, arm_height, handler_declared, handler_height}
use Rattle.kishu_calls.proofs.locals.+declared.Goals as goal

pub push_declared-returns-in-Global : goal.push_declared-returns-in-Global
push_declared-returns-in-Global t c =
    rw (c.in-Global.is, global_is) (rw c.deref.ensures.value at c.push_names.ensures)

pub push_declared-push_declared_arms-requires : goal.push_declared-push_declared_arms-requires
push_declared-push_declared_arms-requires t c =
    let h : of_statement (statement_of c.args.statement.now) ≡ suc (max (of_arms (arms (map arm_of c.in-If.arms.items))) (of_statements (statements (map statement_of c.in-If.other.items)))) = ap of_statement (ap statement_of c.in-If.is ∙ if_is c.in-If.arms c.in-If.other) in rw c.deref-in-If.ensures.value (omega arith, tt)

pub push_declared-push_declared_block-requires : goal.push_declared-push_declared_block-requires
push_declared-push_declared_block-requires t c =
    let h : of_statement (statement_of c.args.statement.now) ≡ suc (max (of_arms (arms (map arm_of c.in-If.arms.items))) (of_statements (statements (map statement_of c.in-If.other.items)))) = ap of_statement (ap statement_of c.in-If.is ∙ if_is c.in-If.arms c.in-If.other) in rw c.deref-in-If-2.ensures.value (omega arith, tt)

pub push_declared-returns-in_ok-push_declared_arms-in-If : goal.push_declared-returns-in_ok-push_declared_arms-in-If
push_declared-returns-in_ok-push_declared_arms-in-If t c =
    rw (c.in-If.is, if_is) (both_if_ok c.push_declared_block.result (texts_of c.args.names.now.items) (texts_of c.push_declared_arms.new.names.items) (texts_of c.push_declared_block.new.names.items) (declared_in_arms (arms (map arm_of c.in-If.arms.items))) (declared_in_block (statements (map statement_of c.in-If.other.items))) (rw c.deref-in-If.ensures.value at c.in_ok-push_declared_arms-in-If.ensures) (rw c.deref-in-If-2.ensures.value at c.push_declared_block.ensures))

pub push_declared-push_declared_block-requires-in-While : goal.push_declared-push_declared_block-requires-in-While
push_declared-push_declared_block-requires-in-While t c =
    let h : of_statement (statement_of c.args.statement.now) ≡ suc (max (of_expression (expression_of c.in-While.field-0)) (of_statements (statements (map statement_of c.in-While.body.items)))) = ap of_statement (ap statement_of c.in-While.is ∙ while_is c.in-While.field-0 c.in-While.body) in rw c.deref-in-While.ensures.value (omega arith, tt)

pub push_declared-returns-in-While : goal.push_declared-returns-in-While
push_declared-returns-in-While t c =
    rw (c.in-While.is, while_is) (rw c.deref-in-While.ensures.value at c.push_declared_block-in-While.ensures)

pub push_declared-push_declared_block-requires-in-For : goal.push_declared-push_declared_block-requires-in-For
push_declared-push_declared_block-requires-in-For t c =
    let h : of_statement (statement_of c.args.statement.now) ≡ suc (max (of_expression (expression_of c.in-For.field-0)) (max (of_expression (expression_of c.in-For.field-1)) (of_statements (statements (map statement_of c.in-For.body.items))))) = ap of_statement (ap statement_of c.in-For.is ∙ for_is c.in-For.field-0 c.in-For.field-1 c.in-For.body) in rw c.deref-in-For.ensures.value (omega arith, tt)

pub push_declared-returns-in-For : goal.push_declared-returns-in-For
push_declared-returns-in-For t c =
    rw (c.in-For.is, for_is) (rw c.deref-in-For.ensures.value at c.push_declared_block-in-For.ensures)

pub push_declared-push_declared_block-requires-in-Try : goal.push_declared-push_declared_block-requires-in-Try
push_declared-push_declared_block-requires-in-Try t c =
    let h : of_statement (statement_of c.args.statement.now) ≡ suc (max (of_statements (statements (map statement_of c.in-Try.body.items))) (max (of_handlers (handlers (map handler_of c.in-Try.handlers.items))) (max (of_statements (statements (map statement_of c.in-Try.other.items))) (of_statements (statements (map statement_of c.in-Try.last.items)))))) = ap of_statement (ap statement_of c.in-Try.is ∙ try_is c.in-Try.body c.in-Try.handlers c.in-Try.other c.in-Try.last) in rw c.deref-in-Try.ensures.value (omega arith, tt)

pub push_declared-push_declared_handlers-requires : goal.push_declared-push_declared_handlers-requires
push_declared-push_declared_handlers-requires t c =
    let h : of_statement (statement_of c.args.statement.now) ≡ suc (max (of_statements (statements (map statement_of c.in-Try.body.items))) (max (of_handlers (handlers (map handler_of c.in-Try.handlers.items))) (max (of_statements (statements (map statement_of c.in-Try.other.items))) (of_statements (statements (map statement_of c.in-Try.last.items)))))) = ap of_statement (ap statement_of c.in-Try.is ∙ try_is c.in-Try.body c.in-Try.handlers c.in-Try.other c.in-Try.last) in rw c.deref-in-Try-2.ensures.value (omega arith, tt)

pub push_declared-push_declared_block-requires-in-Try-2 : goal.push_declared-push_declared_block-requires-in-Try-2
push_declared-push_declared_block-requires-in-Try-2 t c =
    let h : of_statement (statement_of c.args.statement.now) ≡ suc (max (of_statements (statements (map statement_of c.in-Try.body.items))) (max (of_handlers (handlers (map handler_of c.in-Try.handlers.items))) (max (of_statements (statements (map statement_of c.in-Try.other.items))) (of_statements (statements (map statement_of c.in-Try.last.items)))))) = ap of_statement (ap statement_of c.in-Try.is ∙ try_is c.in-Try.body c.in-Try.handlers c.in-Try.other c.in-Try.last) in rw c.deref-in-Try-3.ensures.value (omega arith, tt)

pub push_declared-push_declared_block-requires-in-Try-3 : goal.push_declared-push_declared_block-requires-in-Try-3
push_declared-push_declared_block-requires-in-Try-3 t c =
    let h : of_statement (statement_of c.args.statement.now) ≡ suc (max (of_statements (statements (map statement_of c.in-Try.body.items))) (max (of_handlers (handlers (map handler_of c.in-Try.handlers.items))) (max (of_statements (statements (map statement_of c.in-Try.other.items))) (of_statements (statements (map statement_of c.in-Try.last.items)))))) = ap of_statement (ap statement_of c.in-Try.is ∙ try_is c.in-Try.body c.in-Try.handlers c.in-Try.other c.in-Try.last) in rw c.deref-in-Try-4.ensures.value (omega arith, tt)

pub push_declared-returns-in_ok-push_declared_block-in-Try-2 : goal.push_declared-returns-in_ok-push_declared_block-in-Try-2
push_declared-returns-in_ok-push_declared_block-in-Try-2 t c =
    rw (c.in-Try.is, try_is) (four_if_ok c.push_declared_block-in-Try-3.result (texts_of c.args.names.now.items) (texts_of c.push_declared_block-in-Try.new.names.items) (texts_of c.push_declared_handlers.new.names.items) (texts_of c.push_declared_block-in-Try-2.new.names.items) (texts_of c.push_declared_block-in-Try-3.new.names.items) (declared_in_block (statements (map statement_of c.in-Try.body.items))) (declared_in_handlers (handlers (map handler_of c.in-Try.handlers.items))) (declared_in_block (statements (map statement_of c.in-Try.other.items))) (declared_in_block (statements (map statement_of c.in-Try.last.items))) (rw c.deref-in-Try.ensures.value at c.in_ok-push_declared_block-in-Try.ensures) (rw c.deref-in-Try-2.ensures.value at c.in_ok-push_declared_handlers-in-Try.ensures) (rw c.deref-in-Try-3.ensures.value at c.in_ok-push_declared_block-in-Try-2.ensures) (rw c.deref-in-Try-4.ensures.value at c.push_declared_block-in-Try-3.ensures))

pub push_declared-push_declared_block-requires-in-Finally : goal.push_declared-push_declared_block-requires-in-Finally
push_declared-push_declared_block-requires-in-Finally t c =
    let h : of_statement (statement_of c.args.statement.now) ≡ suc (max (of_statements (statements (map statement_of c.in-Finally.body.items))) (of_statements (statements (map statement_of c.in-Finally.last.items)))) = ap of_statement (ap statement_of c.in-Finally.is ∙ finally_is c.in-Finally.body c.in-Finally.last) in rw c.deref-in-Finally.ensures.value (omega arith, tt)

pub push_declared-push_declared_block-requires-in-Finally-2 : goal.push_declared-push_declared_block-requires-in-Finally-2
push_declared-push_declared_block-requires-in-Finally-2 t c =
    let h : of_statement (statement_of c.args.statement.now) ≡ suc (max (of_statements (statements (map statement_of c.in-Finally.body.items))) (of_statements (statements (map statement_of c.in-Finally.last.items)))) = ap of_statement (ap statement_of c.in-Finally.is ∙ finally_is c.in-Finally.body c.in-Finally.last) in rw c.deref-in-Finally-2.ensures.value (omega arith, tt)

pub push_declared-returns-in_ok-push_declared_block-in-Finally : goal.push_declared-returns-in_ok-push_declared_block-in-Finally
push_declared-returns-in_ok-push_declared_block-in-Finally t c =
    rw (c.in-Finally.is, finally_is) (both_if_ok c.push_declared_block-in-Finally-2.result (texts_of c.args.names.now.items) (texts_of c.push_declared_block-in-Finally.new.names.items) (texts_of c.push_declared_block-in-Finally-2.new.names.items) (declared_in_block (statements (map statement_of c.in-Finally.body.items))) (declared_in_block (statements (map statement_of c.in-Finally.last.items))) (rw c.deref-in-Finally.ensures.value at c.in_ok-push_declared_block-in-Finally.ensures) (rw c.deref-in-Finally-2.ensures.value at c.push_declared_block-in-Finally-2.ensures))

pub push_declared_block-loop-statement-preserved : goal.push_declared_block-loop-statement-preserved
push_declared_block-loop-statement-preserved t c =
    let k = height_here (λ (x : Stmt). of_statement (statement_of x)) (λ (ys : List Stmt). of_statements (statements (map statement_of ys))) (λ x xs. refl) c.args.block.now c.loop-statement.statement-index c.statement-item.result c.loop-statement-test.true c.statement-item.is in record { told = one_more (λ (x : Stmt). declared_in (statement_of x)) (λ (ys : List Stmt). declared_in_block (statements (map statement_of ys))) (λ x xs. refl) (texts_of c.args.names.now.items ++ declared_in_block (statements (map statement_of c.args.block.now))) c.args.block.now c.loop-statement.statement-index c.statement-item.result (texts_of c.loop-statement.names.items) (texts_of c.push_declared.new.names.items) c.loop-statement.invariant.told c.loop-statement-test.true c.statement-item.is c.in_ok-push_declared.ensures; height = omega arith }

pub push_declared_arms-push_declared_block-requires : goal.push_declared_arms-push_declared_block-requires
push_declared_arms-push_declared_block-requires t c =
    let k = height_here (λ (x : Arm'). max (of_expression (expression_of x.test)) (of_statements (statements (map statement_of x.body.items)))) (λ (ys : List Arm'). of_arms (arms (map arm_of ys))) arm_height c.args.arms.now c.loop-arm.arm-index c.arm-item.result c.loop-arm-test.true c.arm-item.is in rw c.deref.ensures.value (omega arith, tt)

pub push_declared_arms-loop-arm-preserved : goal.push_declared_arms-loop-arm-preserved
push_declared_arms-loop-arm-preserved t c =
    let k = height_here (λ (x : Arm'). max (of_expression (expression_of x.test)) (of_statements (statements (map statement_of x.body.items)))) (λ (ys : List Arm'). of_arms (arms (map arm_of ys))) arm_height c.args.arms.now c.loop-arm.arm-index c.arm-item.result c.loop-arm-test.true c.arm-item.is in record { told = one_more (λ (x : Arm'). declared_in_block (statements (map statement_of x.body.items))) (λ (ys : List Arm'). declared_in_arms (arms (map arm_of ys))) arm_declared (texts_of c.args.names.now.items ++ declared_in_arms (arms (map arm_of c.args.arms.now))) c.args.arms.now c.loop-arm.arm-index c.arm-item.result (texts_of c.loop-arm.names.items) (texts_of c.push_declared_block.new.names.items) c.loop-arm.invariant.told c.loop-arm-test.true c.arm-item.is (rw c.deref.ensures.value at c.in_ok-push_declared_block.ensures); height = omega arith }

pub push_declared_handlers-push_declared_block-requires : goal.push_declared_handlers-push_declared_block-requires
push_declared_handlers-push_declared_block-requires t c =
    let k = height_here (λ (x : Handler'). max (of_optional (value_of x.class)) (of_statements (statements (map statement_of x.body.items)))) (λ (ys : List Handler'). of_handlers (handlers (map handler_of ys))) handler_height c.args.handlers.now c.loop-handler.handler-index c.handler-item.result c.loop-handler-test.true c.handler-item.is in rw c.deref.ensures.value (omega arith, tt)

pub push_declared_handlers-loop-handler-preserved : goal.push_declared_handlers-loop-handler-preserved
push_declared_handlers-loop-handler-preserved t c =
    let k = height_here (λ (x : Handler'). max (of_optional (value_of x.class)) (of_statements (statements (map statement_of x.body.items)))) (λ (ys : List Handler'). of_handlers (handlers (map handler_of ys))) handler_height c.args.handlers.now c.loop-handler.handler-index c.handler-item.result c.loop-handler-test.true c.handler-item.is in record { told = one_more (λ (x : Handler'). declared_in_block (statements (map statement_of x.body.items))) (λ (ys : List Handler'). declared_in_handlers (handlers (map handler_of ys))) handler_declared (texts_of c.args.names.now.items ++ declared_in_handlers (handlers (map handler_of c.args.handlers.now))) c.args.handlers.now c.loop-handler.handler-index c.handler-item.result (texts_of c.loop-handler.names.items) (texts_of c.push_declared_block.new.names.items) c.loop-handler.invariant.told c.loop-handler-test.true c.handler-item.is (rw c.deref.ensures.value at c.in_ok-push_declared_block.ensures); height = omega arith }

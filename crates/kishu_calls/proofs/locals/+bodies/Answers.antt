use Rattle.std.proofs.Common.{◌≡◌, suc, max, ap, ◌∙◌, arith, refl, map, ◌++◌, List}
use Rattle.kishu_machine.specs.Frames.{texts_of}
use Rattle.kishu_language.specs.declared.tree.Stmt.{Stmt}
use Rattle.kishu_language.specs.declared.tree.Arm.{Arm as Arm'}
use Rattle.kishu_language.specs.declared.tree.Handler.{Handler as Handler'}
use Rattle.kishu_meaning.specs.calls.Functions.{names_in, bound_by, bound_in, bound_in_block, bound_in_arms, bound_in_handlers}
use Rattle.kishu_language.specs.trees.Height.{of_expression, of_optional, of_statement, of_statements, of_arms, of_handlers}
use Rattle.kishu_language.specs.trees.Tree.{statements, arms, handlers, value_of, text_of, expression_of, statement_of}
use Rattle.kishu_language.specs.trees.StatementRows.{delete_is, import_is, update_is, assign_is, if_is, while_is, for_is, try_is, finally_is}
use Rattle.kishu_language.specs.trees.Parts.{arm_of, handler_of}
use Rattle.kishu_calls.proofs.LocalNames.{both_more, both_if_ok, four_if_ok, one_more, height_here, all_by_each, arm_bound, arm_height, handler_bound, handler_height}
use Rattle.kishu_calls.proofs.locals.+bodies.Goals as goal

pub push_statement-returns-in-Del : goal.push_statement-returns-in-Del
push_statement-returns-in-Del t c =
    rw (c.in-Del.is, delete_is, ← all_by_each (map expression_of c.in-Del.places.items)) (rw c.deref.ensures.value at c.push_all_bound.ensures)

pub push_statement-returns-in-Import : goal.push_statement-returns-in-Import
push_statement-returns-in-Import t c =
    rw (c.in-Import.is, import_is) c.push_imported.ensures

pub push_statement-returns-in-Update : goal.push_statement-returns-in-Update
push_statement-returns-in-Update t c =
    rw (c.in-Update.is, update_is) c.push_bound.ensures

pub push_statement-returns-in-Assign : goal.push_statement-returns-in-Assign
push_statement-returns-in-Assign t c =
    rw (c.in-Assign.is, assign_is, ← all_by_each (map expression_of c.in-Assign.targets.items)) (rw c.deref-in-Assign.ensures.value at c.push_all_bound-in-Assign.ensures)

pub push_statement-push_arms-requires : goal.push_statement-push_arms-requires
push_statement-push_arms-requires t c =
    let h : of_statement (statement_of c.args.statement.now) ≡ suc (max (of_arms (arms (map arm_of c.in-If.arms.items))) (of_statements (statements (map statement_of c.in-If.other.items)))) = ap of_statement (ap statement_of c.in-If.is ∙ if_is c.in-If.arms c.in-If.other) in rw c.deref-in-If.ensures.value (omega arith, tt)

pub push_statement-push_block-requires : goal.push_statement-push_block-requires
push_statement-push_block-requires t c =
    let h : of_statement (statement_of c.args.statement.now) ≡ suc (max (of_arms (arms (map arm_of c.in-If.arms.items))) (of_statements (statements (map statement_of c.in-If.other.items)))) = ap of_statement (ap statement_of c.in-If.is ∙ if_is c.in-If.arms c.in-If.other) in rw c.deref-in-If-2.ensures.value (omega arith, tt)

pub push_statement-returns-in_ok-push_arms-in-If : goal.push_statement-returns-in_ok-push_arms-in-If
push_statement-returns-in_ok-push_arms-in-If t c =
    rw (c.in-If.is, if_is) (both_if_ok c.push_block.result (texts_of c.args.names.now.items) (texts_of c.push_arms.new.names.items) (texts_of c.push_block.new.names.items) (bound_in_arms (arms (map arm_of c.in-If.arms.items))) (bound_in_block (statements (map statement_of c.in-If.other.items))) (rw c.deref-in-If.ensures.value at c.in_ok-push_arms-in-If.ensures) (rw c.deref-in-If-2.ensures.value at c.push_block.ensures))

pub push_statement-push_block-requires-in-While : goal.push_statement-push_block-requires-in-While
push_statement-push_block-requires-in-While t c =
    let h : of_statement (statement_of c.args.statement.now) ≡ suc (max (of_expression (expression_of c.in-While.field-0)) (of_statements (statements (map statement_of c.in-While.body.items)))) = ap of_statement (ap statement_of c.in-While.is ∙ while_is c.in-While.field-0 c.in-While.body) in rw c.deref-in-While.ensures.value (omega arith, tt)

pub push_statement-returns-in-While : goal.push_statement-returns-in-While
push_statement-returns-in-While t c =
    rw (c.in-While.is, while_is) (rw c.deref-in-While.ensures.value at c.push_block-in-While.ensures)

pub push_statement-push_block-requires-in-For : goal.push_statement-push_block-requires-in-For
push_statement-push_block-requires-in-For t c =
    let h : of_statement (statement_of c.args.statement.now) ≡ suc (max (of_expression (expression_of c.in-For.target)) (max (of_expression (expression_of c.in-For.field-1)) (of_statements (statements (map statement_of c.in-For.body.items))))) = ap of_statement (ap statement_of c.in-For.is ∙ for_is c.in-For.target c.in-For.field-1 c.in-For.body) in rw c.deref-in-For.ensures.value (omega arith, tt)

pub push_statement-returns-in_ok-push_bound-in-For : goal.push_statement-returns-in_ok-push_bound-in-For
push_statement-returns-in_ok-push_bound-in-For t c =
    rw (c.in-For.is, for_is) (both_if_ok c.push_block-in-For.result (texts_of c.args.names.now.items) (texts_of c.push_bound-in-For.new.names.items) (texts_of c.push_block-in-For.new.names.items) (bound_by (expression_of c.in-For.target)) (bound_in_block (statements (map statement_of c.in-For.body.items))) c.in_ok-push_bound-in-For.ensures (rw c.deref-in-For.ensures.value at c.push_block-in-For.ensures))

pub push_statement-push_block-requires-in-Try : goal.push_statement-push_block-requires-in-Try
push_statement-push_block-requires-in-Try t c =
    let h : of_statement (statement_of c.args.statement.now) ≡ suc (max (of_statements (statements (map statement_of c.in-Try.body.items))) (max (of_handlers (handlers (map handler_of c.in-Try.handlers.items))) (max (of_statements (statements (map statement_of c.in-Try.other.items))) (of_statements (statements (map statement_of c.in-Try.last.items)))))) = ap of_statement (ap statement_of c.in-Try.is ∙ try_is c.in-Try.body c.in-Try.handlers c.in-Try.other c.in-Try.last) in rw c.deref-in-Try.ensures.value (omega arith, tt)

pub push_statement-push_handlers-requires : goal.push_statement-push_handlers-requires
push_statement-push_handlers-requires t c =
    let h : of_statement (statement_of c.args.statement.now) ≡ suc (max (of_statements (statements (map statement_of c.in-Try.body.items))) (max (of_handlers (handlers (map handler_of c.in-Try.handlers.items))) (max (of_statements (statements (map statement_of c.in-Try.other.items))) (of_statements (statements (map statement_of c.in-Try.last.items)))))) = ap of_statement (ap statement_of c.in-Try.is ∙ try_is c.in-Try.body c.in-Try.handlers c.in-Try.other c.in-Try.last) in rw c.deref-in-Try-2.ensures.value (omega arith, tt)

pub push_statement-push_block-requires-in-Try-2 : goal.push_statement-push_block-requires-in-Try-2
push_statement-push_block-requires-in-Try-2 t c =
    let h : of_statement (statement_of c.args.statement.now) ≡ suc (max (of_statements (statements (map statement_of c.in-Try.body.items))) (max (of_handlers (handlers (map handler_of c.in-Try.handlers.items))) (max (of_statements (statements (map statement_of c.in-Try.other.items))) (of_statements (statements (map statement_of c.in-Try.last.items)))))) = ap of_statement (ap statement_of c.in-Try.is ∙ try_is c.in-Try.body c.in-Try.handlers c.in-Try.other c.in-Try.last) in rw c.deref-in-Try-3.ensures.value (omega arith, tt)

pub push_statement-push_block-requires-in-Try-3 : goal.push_statement-push_block-requires-in-Try-3
push_statement-push_block-requires-in-Try-3 t c =
    let h : of_statement (statement_of c.args.statement.now) ≡ suc (max (of_statements (statements (map statement_of c.in-Try.body.items))) (max (of_handlers (handlers (map handler_of c.in-Try.handlers.items))) (max (of_statements (statements (map statement_of c.in-Try.other.items))) (of_statements (statements (map statement_of c.in-Try.last.items)))))) = ap of_statement (ap statement_of c.in-Try.is ∙ try_is c.in-Try.body c.in-Try.handlers c.in-Try.other c.in-Try.last) in rw c.deref-in-Try-4.ensures.value (omega arith, tt)

pub push_statement-returns-in_ok-push_block-in-Try-2 : goal.push_statement-returns-in_ok-push_block-in-Try-2
push_statement-returns-in_ok-push_block-in-Try-2 t c =
    rw (c.in-Try.is, try_is) (four_if_ok c.push_block-in-Try-3.result (texts_of c.args.names.now.items) (texts_of c.push_block-in-Try.new.names.items) (texts_of c.push_handlers.new.names.items) (texts_of c.push_block-in-Try-2.new.names.items) (texts_of c.push_block-in-Try-3.new.names.items) (bound_in_block (statements (map statement_of c.in-Try.body.items))) (bound_in_handlers (handlers (map handler_of c.in-Try.handlers.items))) (bound_in_block (statements (map statement_of c.in-Try.other.items))) (bound_in_block (statements (map statement_of c.in-Try.last.items))) (rw c.deref-in-Try.ensures.value at c.in_ok-push_block-in-Try.ensures) (rw c.deref-in-Try-2.ensures.value at c.in_ok-push_handlers-in-Try.ensures) (rw c.deref-in-Try-3.ensures.value at c.in_ok-push_block-in-Try-2.ensures) (rw c.deref-in-Try-4.ensures.value at c.push_block-in-Try-3.ensures))

pub push_statement-push_block-requires-in-Finally : goal.push_statement-push_block-requires-in-Finally
push_statement-push_block-requires-in-Finally t c =
    let h : of_statement (statement_of c.args.statement.now) ≡ suc (max (of_statements (statements (map statement_of c.in-Finally.body.items))) (of_statements (statements (map statement_of c.in-Finally.last.items)))) = ap of_statement (ap statement_of c.in-Finally.is ∙ finally_is c.in-Finally.body c.in-Finally.last) in rw c.deref-in-Finally.ensures.value (omega arith, tt)

pub push_statement-push_block-requires-in-Finally-2 : goal.push_statement-push_block-requires-in-Finally-2
push_statement-push_block-requires-in-Finally-2 t c =
    let h : of_statement (statement_of c.args.statement.now) ≡ suc (max (of_statements (statements (map statement_of c.in-Finally.body.items))) (of_statements (statements (map statement_of c.in-Finally.last.items)))) = ap of_statement (ap statement_of c.in-Finally.is ∙ finally_is c.in-Finally.body c.in-Finally.last) in rw c.deref-in-Finally-2.ensures.value (omega arith, tt)

pub push_statement-returns-in_ok-push_block-in-Finally : goal.push_statement-returns-in_ok-push_block-in-Finally
push_statement-returns-in_ok-push_block-in-Finally t c =
    rw (c.in-Finally.is, finally_is) (both_if_ok c.push_block-in-Finally-2.result (texts_of c.args.names.now.items) (texts_of c.push_block-in-Finally.new.names.items) (texts_of c.push_block-in-Finally-2.new.names.items) (bound_in_block (statements (map statement_of c.in-Finally.body.items))) (bound_in_block (statements (map statement_of c.in-Finally.last.items))) (rw c.deref-in-Finally.ensures.value at c.in_ok-push_block-in-Finally.ensures) (rw c.deref-in-Finally-2.ensures.value at c.push_block-in-Finally-2.ensures))

pub push_block-loop-statement-preserved : goal.push_block-loop-statement-preserved
push_block-loop-statement-preserved t c =
    let k = height_here (λ (x : Stmt). of_statement (statement_of x)) (λ (ys : List Stmt). of_statements (statements (map statement_of ys))) (λ x xs. refl) c.args.block.now c.loop-statement.statement-index c.statement-item.result c.loop-statement-test.true c.statement-item.is in record { told = one_more (λ (x : Stmt). bound_in (statement_of x)) (λ (ys : List Stmt). bound_in_block (statements (map statement_of ys))) (λ x xs. refl) (texts_of c.args.names.now.items ++ bound_in_block (statements (map statement_of c.args.block.now))) c.args.block.now c.loop-statement.statement-index c.statement-item.result (texts_of c.loop-statement.names.items) (texts_of c.push_statement.new.names.items) c.loop-statement.invariant.told c.loop-statement-test.true c.statement-item.is c.in_ok-push_statement.ensures; height = omega arith }

pub push_arms-push_block-requires : goal.push_arms-push_block-requires
push_arms-push_block-requires t c =
    let k = height_here (λ (x : Arm'). max (of_expression (expression_of x.test)) (of_statements (statements (map statement_of x.body.items)))) (λ (ys : List Arm'). of_arms (arms (map arm_of ys))) arm_height c.args.arms.now c.loop-arm.arm-index c.arm-item.result c.loop-arm-test.true c.arm-item.is in rw c.deref.ensures.value (omega arith, tt)

pub push_arms-loop-arm-preserved : goal.push_arms-loop-arm-preserved
push_arms-loop-arm-preserved t c =
    let k = height_here (λ (x : Arm'). max (of_expression (expression_of x.test)) (of_statements (statements (map statement_of x.body.items)))) (λ (ys : List Arm'). of_arms (arms (map arm_of ys))) arm_height c.args.arms.now c.loop-arm.arm-index c.arm-item.result c.loop-arm-test.true c.arm-item.is in record { told = one_more (λ (x : Arm'). bound_in_block (statements (map statement_of x.body.items))) (λ (ys : List Arm'). bound_in_arms (arms (map arm_of ys))) arm_bound (texts_of c.args.names.now.items ++ bound_in_arms (arms (map arm_of c.args.arms.now))) c.args.arms.now c.loop-arm.arm-index c.arm-item.result (texts_of c.loop-arm.names.items) (texts_of c.push_block.new.names.items) c.loop-arm.invariant.told c.loop-arm-test.true c.arm-item.is (rw c.deref.ensures.value at c.in_ok-push_block.ensures); height = omega arith }

pub push_handlers-push_block-requires : goal.push_handlers-push_block-requires
push_handlers-push_block-requires t c =
    let k = height_here (λ (x : Handler'). max (of_optional (value_of x.class)) (of_statements (statements (map statement_of x.body.items)))) (λ (ys : List Handler'). of_handlers (handlers (map handler_of ys))) handler_height c.args.handlers.now c.loop-handler.handler-index c.handler-item.result c.loop-handler-test.true c.handler-item.is in rw c.deref.ensures.value (omega arith, tt)

pub push_handlers-loop-handler-preserved : goal.push_handlers-loop-handler-preserved
push_handlers-loop-handler-preserved t c =
    let k = height_here (λ (x : Handler'). max (of_optional (value_of x.class)) (of_statements (statements (map statement_of x.body.items)))) (λ (ys : List Handler'). of_handlers (handlers (map handler_of ys))) handler_height c.args.handlers.now c.loop-handler.handler-index c.handler-item.result c.loop-handler-test.true c.handler-item.is in record { told = one_more (λ (x : Handler'). names_in (text_of x.name) ++ bound_in_block (statements (map statement_of x.body.items))) (λ (ys : List Handler'). bound_in_handlers (handlers (map handler_of ys))) handler_bound (texts_of c.args.names.now.items ++ bound_in_handlers (handlers (map handler_of c.args.handlers.now))) c.args.handlers.now c.loop-handler.handler-index c.handler-item.result (texts_of c.loop-handler.names.items) (texts_of c.push_block.new.names.items) c.loop-handler.invariant.told c.loop-handler-test.true c.handler-item.is (both_more (texts_of c.loop-handler.names.items) (texts_of c.push_caught.new.names.items) (texts_of c.push_block.new.names.items) (names_in (text_of c.handler-item.result.name)) (bound_in_block (statements (map statement_of c.handler-item.result.body.items))) c.in_ok-push_caught.ensures (rw c.deref.ensures.value at c.in_ok-push_block.ensures)); height = omega arith }

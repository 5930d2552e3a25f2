use Rattle.std.proofs.Common.{◌≡◌, ◌+◌, ◌<◌, suc, max, ap, sym, ◌∙◌, arith, refl, map, drop, length, get_or, ◌++◌, List, ◌∷◌}
use Rattle.std.specs.Prelude.{flat_map}
use Rattle.std.specs.Rc.{rc_str_bytes}
use Rattle.kishu_language.specs.declared.tree.Stmt.{Stmt}
use Rattle.kishu_language.specs.declared.tree.Arm.{Arm as Arm'}
use Rattle.kishu_language.specs.declared.tree.Handler.{Handler as Handler'}
use Rattle.kishu_language.specs.trees.Tree.{expressions, statements, arms, handlers, value_of, text_of, expression_of, statement_of, definition_of}
use Rattle.kishu_language.specs.grammar.Refusals.{variables, in_expression, in_expressions, in_optional, in_statement, in_statements, in_arms, in_handlers}
use Rattle.kishu_language.specs.trees.Height.{of_expression, of_optional, of_list, of_parameters, of_statement, of_statements, of_arms, of_handlers}
use Rattle.kishu_language.specs.trees.Parts.{arm_of, handler_of}
use Rattle.kishu_parser.specs.Sets.{names_in, note, noted}
use Rattle.kishu_language.specs.trees.StatementRows.{pass_is, break_is, continue_is, return_is, raise_is, assert_is, delete_is, global_is, import_is, update_is, assign_is, if_is, while_is, for_is, try_is, finally_is, def_is}
use Rattle.kishu_parser.proofs.Walks.{here, note_then, note_ends, then_if_ok, fits_on, fits_off, told_more, told_ends, height_here, listed_names, arm_names, arm_height, handler_names, handler_height}
use Rattle.kishu_parser.proofs.mentions.+globals.Goals as goal

pub statement_fits-returns-in-Pass : goal.statement_fits-returns-in-Pass
statement_fits-returns-in-Pass t c =
    rw (c.in-Pass.is, pass_is) refl

pub statement_fits-returns-in-Break : goal.statement_fits-returns-in-Break
statement_fits-returns-in-Break t c =
    rw (c.in-Break.is, break_is) refl

pub statement_fits-returns-in-Continue : goal.statement_fits-returns-in-Continue
statement_fits-returns-in-Continue t c =
    rw (c.in-Continue.is, continue_is) refl

pub statement_fits-returns-in_ok-add_optional-in-Return : goal.statement_fits-returns-in_ok-add_optional-in-Return
statement_fits-returns-in_ok-add_optional-in-Return t c =
    rw (c.in-Return.is, return_is) c.in_ok-add_optional-in-Return.ensures

pub statement_fits-returns-in_ok-add_optional-in-Raise : goal.statement_fits-returns-in_ok-add_optional-in-Raise
statement_fits-returns-in_ok-add_optional-in-Raise t c =
    rw (c.in-Raise.is, raise_is) c.in_ok-add_optional-in-Raise.ensures

pub statement_fits-returns-in_ok-add_optional-in-Assert : goal.statement_fits-returns-in_ok-add_optional-in-Assert
statement_fits-returns-in_ok-add_optional-in-Assert t c =
    rw (c.in-Assert.is, assert_is) (note_then (names_in c.args.seen.now) (names_in c.add_expr.new.seen) (in_expression (expression_of c.in-Assert.test)) (in_optional (value_of c.in-Assert.message)) c.in_ok-add_expr-in-Assert.ensures ∙ c.in_ok-add_optional-in-Assert.ensures)

pub statement_fits-returns-in_ok-add_exprs-in-Del : goal.statement_fits-returns-in_ok-add_exprs-in-Del
statement_fits-returns-in_ok-add_exprs-in-Del t c =
    rw (c.in-Del.is, delete_is, ← listed_names (map expression_of c.in-Del.places.items)) (rw c.deref.ensures.value at c.in_ok-add_exprs-in-Del.ensures)

pub statement_fits-returns-in-Global : goal.statement_fits-returns-in-Global
statement_fits-returns-in-Global t c =
    rw (c.in-Global.is, global_is) (rw c.deref-in-Global.ensures.value at c.none_seen.ensures)

pub statement_fits-returns-in_ok-add_import-in-Import : goal.statement_fits-returns-in_ok-add_import-in-Import
statement_fits-returns-in_ok-add_import-in-Import t c =
    rw (c.in-Import.is, import_is) c.in_ok-add_import-in-Import.ensures

pub statement_fits-returns-in_ok-add_expr-in-Update-2 : goal.statement_fits-returns-in_ok-add_expr-in-Update-2
statement_fits-returns-in_ok-add_expr-in-Update-2 t c =
    rw (c.in-Update.is, update_is) (note_then (names_in c.args.seen.now) (names_in c.add_expr-in-Update.new.seen) (in_expression (expression_of c.in-Update.place)) (in_expression (expression_of c.in-Update.value)) c.in_ok-add_expr-in-Update.ensures ∙ c.in_ok-add_expr-in-Update-2.ensures)

pub statement_fits-returns-in_ok-add_expr-in-Assign : goal.statement_fits-returns-in_ok-add_expr-in-Assign
statement_fits-returns-in_ok-add_expr-in-Assign t c =
    rw (c.in-Assign.is, assign_is, ← listed_names (map expression_of c.in-Assign.targets.items)) (note_then (names_in c.args.seen.now) (names_in c.add_exprs-in-Assign.new.seen) (in_expressions (expressions (map expression_of c.in-Assign.targets.items))) (in_expression (expression_of c.in-Assign.value)) (rw c.deref-in-Assign.ensures.value at c.in_ok-add_exprs-in-Assign.ensures) ∙ c.in_ok-add_expr-in-Assign.ensures)

pub statement_fits-returns-in_ok-add_head-in-Def : goal.statement_fits-returns-in_ok-add_head-in-Def
statement_fits-returns-in_ok-add_head-in-Def t c =
    rw (c.in-Def.is, def_is) (rw c.deref-in-Def.ensures at c.in_ok-add_head-in-Def.ensures)

pub statement_fits-arms_fit-requires : goal.statement_fits-arms_fit-requires
statement_fits-arms_fit-requires t c =
    let h : of_statement (statement_of c.args.statement.now) ≡ suc (max (of_arms (arms (map arm_of c.in-If.arms.items))) (of_statements (statements (map statement_of c.in-If.other.items)))) = ap of_statement (ap statement_of c.in-If.is ∙ if_is c.in-If.arms c.in-If.other) in rw c.deref-in-If.ensures.value (omega arith, tt)

pub statement_fits-statements_fit-requires : goal.statement_fits-statements_fit-requires
statement_fits-statements_fit-requires t c =
    let h : of_statement (statement_of c.args.statement.now) ≡ suc (max (of_arms (arms (map arm_of c.in-If.arms.items))) (of_statements (statements (map statement_of c.in-If.other.items)))) = ap of_statement (ap statement_of c.in-If.is ∙ if_is c.in-If.arms c.in-If.other) in rw c.deref-in-If-2.ensures.value (omega arith, tt)

pub statement_fits-returns-then-not-branch : goal.statement_fits-returns-then-not-branch
statement_fits-returns-then-not-branch t c =
    rw (c.in-If.is, if_is) (note_ends (names_in c.args.seen.now) (in_arms (arms (map arm_of c.in-If.arms.items))) (in_statements (statements (map statement_of c.in-If.other.items))) (fits_off c.in_ok-arms_fit-in-If.field-0 (note (names_in c.args.seen.now) (in_arms (arms (map arm_of c.in-If.arms.items)))) (names_in c.arms_fit.new.seen) (rw c.deref-in-If.ensures.value at c.in_ok-arms_fit-in-If.ensures) c.if-not-branch.true))

pub statement_fits-returns-else-not-branch : goal.statement_fits-returns-else-not-branch
statement_fits-returns-else-not-branch t c =
    rw (c.in-If.is, if_is) (then_if_ok c.statements_fit.result (names_in c.args.seen.now) (names_in c.arms_fit.new.seen) (names_in c.statements_fit.new.seen) (in_arms (arms (map arm_of c.in-If.arms.items))) (in_statements (statements (map statement_of c.in-If.other.items))) (fits_on c.in_ok-arms_fit-in-If.field-0 (note (names_in c.args.seen.now) (in_arms (arms (map arm_of c.in-If.arms.items)))) (names_in c.arms_fit.new.seen) (rw c.deref-in-If.ensures.value at c.in_ok-arms_fit-in-If.ensures) c.if-not-branch.false) (rw c.deref-in-If-2.ensures.value at c.statements_fit.ensures))

pub statement_fits-statements_fit-requires-in-While : goal.statement_fits-statements_fit-requires-in-While
statement_fits-statements_fit-requires-in-While t c =
    let h : of_statement (statement_of c.args.statement.now) ≡ suc (max (of_expression (expression_of c.in-While.test)) (of_statements (statements (map statement_of c.in-While.body.items)))) = ap of_statement (ap statement_of c.in-While.is ∙ while_is c.in-While.test c.in-While.body) in rw c.deref-in-While.ensures.value (omega arith, tt)

pub statement_fits-returns-in_ok-add_expr-in-While : goal.statement_fits-returns-in_ok-add_expr-in-While
statement_fits-returns-in_ok-add_expr-in-While t c =
    rw (c.in-While.is, while_is) (then_if_ok c.statements_fit-in-While.result (names_in c.args.seen.now) (names_in c.add_expr-in-While.new.seen) (names_in c.statements_fit-in-While.new.seen) (in_expression (expression_of c.in-While.test)) (in_statements (statements (map statement_of c.in-While.body.items))) c.in_ok-add_expr-in-While.ensures (rw c.deref-in-While.ensures.value at c.statements_fit-in-While.ensures))

pub statement_fits-statements_fit-requires-in-For : goal.statement_fits-statements_fit-requires-in-For
statement_fits-statements_fit-requires-in-For t c =
    let h : of_statement (statement_of c.args.statement.now) ≡ suc (max (of_expression (expression_of c.in-For.targets)) (max (of_expression (expression_of c.in-For.walked)) (of_statements (statements (map statement_of c.in-For.body.items))))) = ap of_statement (ap statement_of c.in-For.is ∙ for_is c.in-For.targets c.in-For.walked c.in-For.body) in rw c.deref-in-For.ensures.value (omega arith, tt)

pub statement_fits-returns-in_ok-add_expr-in-For-2 : goal.statement_fits-returns-in_ok-add_expr-in-For-2
statement_fits-returns-in_ok-add_expr-in-For-2 t c =
    rw (c.in-For.is, for_is) (then_if_ok c.statements_fit-in-For.result (names_in c.args.seen.now) (names_in c.add_expr-in-For-2.new.seen) (names_in c.statements_fit-in-For.new.seen) ((in_expression (expression_of c.in-For.targets)) ++ (in_expression (expression_of c.in-For.walked))) (in_statements (statements (map statement_of c.in-For.body.items))) (note_then (names_in c.args.seen.now) (names_in c.add_expr-in-For.new.seen) (in_expression (expression_of c.in-For.targets)) (in_expression (expression_of c.in-For.walked)) c.in_ok-add_expr-in-For.ensures ∙ c.in_ok-add_expr-in-For-2.ensures) (rw c.deref-in-For.ensures.value at c.statements_fit-in-For.ensures))

pub statement_fits-statements_fit-requires-in-Try : goal.statement_fits-statements_fit-requires-in-Try
statement_fits-statements_fit-requires-in-Try t c =
    let h : of_statement (statement_of c.args.statement.now) ≡ suc (max (of_statements (statements (map statement_of c.in-Try.body.items))) (max (of_handlers (handlers (map handler_of c.in-Try.handlers.items))) (max (of_statements (statements (map statement_of c.in-Try.other.items))) (of_statements (statements (map statement_of c.in-Try.last.items)))))) = ap of_statement (ap statement_of c.in-Try.is ∙ try_is c.in-Try.body c.in-Try.handlers c.in-Try.other c.in-Try.last) in rw c.deref-in-Try.ensures.value (omega arith, tt)

pub statement_fits-handler_bodies_fit-requires : goal.statement_fits-handler_bodies_fit-requires
statement_fits-handler_bodies_fit-requires t c =
    let h : of_statement (statement_of c.args.statement.now) ≡ suc (max (of_statements (statements (map statement_of c.in-Try.body.items))) (max (of_handlers (handlers (map handler_of c.in-Try.handlers.items))) (max (of_statements (statements (map statement_of c.in-Try.other.items))) (of_statements (statements (map statement_of c.in-Try.last.items)))))) = ap of_statement (ap statement_of c.in-Try.is ∙ try_is c.in-Try.body c.in-Try.handlers c.in-Try.other c.in-Try.last) in rw c.deref-in-Try-2.ensures.value (omega arith, tt)

pub statement_fits-statements_fit-requires-in-Try-2 : goal.statement_fits-statements_fit-requires-in-Try-2
statement_fits-statements_fit-requires-in-Try-2 t c =
    let h : of_statement (statement_of c.args.statement.now) ≡ suc (max (of_statements (statements (map statement_of c.in-Try.body.items))) (max (of_handlers (handlers (map handler_of c.in-Try.handlers.items))) (max (of_statements (statements (map statement_of c.in-Try.other.items))) (of_statements (statements (map statement_of c.in-Try.last.items)))))) = ap of_statement (ap statement_of c.in-Try.is ∙ try_is c.in-Try.body c.in-Try.handlers c.in-Try.other c.in-Try.last) in rw c.deref-in-Try-3.ensures.value (omega arith, tt)

pub statement_fits-statements_fit-requires-in-Try-3 : goal.statement_fits-statements_fit-requires-in-Try-3
statement_fits-statements_fit-requires-in-Try-3 t c =
    let h : of_statement (statement_of c.args.statement.now) ≡ suc (max (of_statements (statements (map statement_of c.in-Try.body.items))) (max (of_handlers (handlers (map handler_of c.in-Try.handlers.items))) (max (of_statements (statements (map statement_of c.in-Try.other.items))) (of_statements (statements (map statement_of c.in-Try.last.items)))))) = ap of_statement (ap statement_of c.in-Try.is ∙ try_is c.in-Try.body c.in-Try.handlers c.in-Try.other c.in-Try.last) in rw c.deref-in-Try-4.ensures.value (omega arith, tt)

pub statement_fits-returns-then-not-branch-2 : goal.statement_fits-returns-then-not-branch-2
statement_fits-returns-then-not-branch-2 t c =
    rw (c.in-Try.is, try_is) (note_ends (names_in c.args.seen.now) ((in_statements (statements (map statement_of c.in-Try.body.items))) ++ (in_handlers (handlers (map handler_of c.in-Try.handlers.items))) ++ (in_statements (statements (map statement_of c.in-Try.other.items)))) (in_statements (statements (map statement_of c.in-Try.last.items))) (note_ends (names_in c.args.seen.now) ((in_statements (statements (map statement_of c.in-Try.body.items))) ++ (in_handlers (handlers (map handler_of c.in-Try.handlers.items)))) (in_statements (statements (map statement_of c.in-Try.other.items))) (note_ends (names_in c.args.seen.now) (in_statements (statements (map statement_of c.in-Try.body.items))) (in_handlers (handlers (map handler_of c.in-Try.handlers.items))) (fits_off c.in_ok-statements_fit-in-Try.field-0 (note (names_in c.args.seen.now) (in_statements (statements (map statement_of c.in-Try.body.items)))) (names_in c.statements_fit-in-Try.new.seen) (rw c.deref-in-Try.ensures.value at c.in_ok-statements_fit-in-Try.ensures) c.if-not-branch-2.true))))

pub statement_fits-returns-then-not-branch-3 : goal.statement_fits-returns-then-not-branch-3
statement_fits-returns-then-not-branch-3 t c =
    rw (c.in-Try.is, try_is) (note_ends (names_in c.args.seen.now) ((in_statements (statements (map statement_of c.in-Try.body.items))) ++ (in_handlers (handlers (map handler_of c.in-Try.handlers.items))) ++ (in_statements (statements (map statement_of c.in-Try.other.items)))) (in_statements (statements (map statement_of c.in-Try.last.items))) (note_ends (names_in c.args.seen.now) ((in_statements (statements (map statement_of c.in-Try.body.items))) ++ (in_handlers (handlers (map handler_of c.in-Try.handlers.items)))) (in_statements (statements (map statement_of c.in-Try.other.items))) (note_then (names_in c.args.seen.now) (names_in c.statements_fit-in-Try.new.seen) (in_statements (statements (map statement_of c.in-Try.body.items))) (in_handlers (handlers (map handler_of c.in-Try.handlers.items))) (fits_on c.in_ok-statements_fit-in-Try.field-0 (note (names_in c.args.seen.now) (in_statements (statements (map statement_of c.in-Try.body.items)))) (names_in c.statements_fit-in-Try.new.seen) (rw c.deref-in-Try.ensures.value at c.in_ok-statements_fit-in-Try.ensures) c.if-not-branch-2.false) ∙ (fits_off c.in_ok-handler_bodies_fit-in-Try.field-0 (note (names_in c.statements_fit-in-Try.new.seen) (in_handlers (handlers (map handler_of c.in-Try.handlers.items)))) (names_in c.handler_bodies_fit.new.seen) (rw c.deref-in-Try-2.ensures.value at c.in_ok-handler_bodies_fit-in-Try.ensures) c.if-not-branch-3.true))))

pub statement_fits-returns-then-not-branch-4 : goal.statement_fits-returns-then-not-branch-4
statement_fits-returns-then-not-branch-4 t c =
    rw (c.in-Try.is, try_is) (note_ends (names_in c.args.seen.now) ((in_statements (statements (map statement_of c.in-Try.body.items))) ++ (in_handlers (handlers (map handler_of c.in-Try.handlers.items))) ++ (in_statements (statements (map statement_of c.in-Try.other.items)))) (in_statements (statements (map statement_of c.in-Try.last.items))) (note_then (names_in c.args.seen.now) (names_in c.handler_bodies_fit.new.seen) ((in_statements (statements (map statement_of c.in-Try.body.items))) ++ (in_handlers (handlers (map handler_of c.in-Try.handlers.items)))) (in_statements (statements (map statement_of c.in-Try.other.items))) (note_then (names_in c.args.seen.now) (names_in c.statements_fit-in-Try.new.seen) (in_statements (statements (map statement_of c.in-Try.body.items))) (in_handlers (handlers (map handler_of c.in-Try.handlers.items))) (fits_on c.in_ok-statements_fit-in-Try.field-0 (note (names_in c.args.seen.now) (in_statements (statements (map statement_of c.in-Try.body.items)))) (names_in c.statements_fit-in-Try.new.seen) (rw c.deref-in-Try.ensures.value at c.in_ok-statements_fit-in-Try.ensures) c.if-not-branch-2.false) ∙ (fits_on c.in_ok-handler_bodies_fit-in-Try.field-0 (note (names_in c.statements_fit-in-Try.new.seen) (in_handlers (handlers (map handler_of c.in-Try.handlers.items)))) (names_in c.handler_bodies_fit.new.seen) (rw c.deref-in-Try-2.ensures.value at c.in_ok-handler_bodies_fit-in-Try.ensures) c.if-not-branch-3.false)) ∙ (fits_off c.in_ok-statements_fit-in-Try-2.field-0 (note (names_in c.handler_bodies_fit.new.seen) (in_statements (statements (map statement_of c.in-Try.other.items)))) (names_in c.statements_fit-in-Try-2.new.seen) (rw c.deref-in-Try-3.ensures.value at c.in_ok-statements_fit-in-Try-2.ensures) c.if-not-branch-4.true)))

pub statement_fits-returns-else-not-branch-4 : goal.statement_fits-returns-else-not-branch-4
statement_fits-returns-else-not-branch-4 t c =
    rw (c.in-Try.is, try_is) (then_if_ok c.statements_fit-in-Try-3.result (names_in c.args.seen.now) (names_in c.statements_fit-in-Try-2.new.seen) (names_in c.statements_fit-in-Try-3.new.seen) ((in_statements (statements (map statement_of c.in-Try.body.items))) ++ (in_handlers (handlers (map handler_of c.in-Try.handlers.items))) ++ (in_statements (statements (map statement_of c.in-Try.other.items)))) (in_statements (statements (map statement_of c.in-Try.last.items))) (note_then (names_in c.args.seen.now) (names_in c.handler_bodies_fit.new.seen) ((in_statements (statements (map statement_of c.in-Try.body.items))) ++ (in_handlers (handlers (map handler_of c.in-Try.handlers.items)))) (in_statements (statements (map statement_of c.in-Try.other.items))) (note_then (names_in c.args.seen.now) (names_in c.statements_fit-in-Try.new.seen) (in_statements (statements (map statement_of c.in-Try.body.items))) (in_handlers (handlers (map handler_of c.in-Try.handlers.items))) (fits_on c.in_ok-statements_fit-in-Try.field-0 (note (names_in c.args.seen.now) (in_statements (statements (map statement_of c.in-Try.body.items)))) (names_in c.statements_fit-in-Try.new.seen) (rw c.deref-in-Try.ensures.value at c.in_ok-statements_fit-in-Try.ensures) c.if-not-branch-2.false) ∙ (fits_on c.in_ok-handler_bodies_fit-in-Try.field-0 (note (names_in c.statements_fit-in-Try.new.seen) (in_handlers (handlers (map handler_of c.in-Try.handlers.items)))) (names_in c.handler_bodies_fit.new.seen) (rw c.deref-in-Try-2.ensures.value at c.in_ok-handler_bodies_fit-in-Try.ensures) c.if-not-branch-3.false)) ∙ (fits_on c.in_ok-statements_fit-in-Try-2.field-0 (note (names_in c.handler_bodies_fit.new.seen) (in_statements (statements (map statement_of c.in-Try.other.items)))) (names_in c.statements_fit-in-Try-2.new.seen) (rw c.deref-in-Try-3.ensures.value at c.in_ok-statements_fit-in-Try-2.ensures) c.if-not-branch-4.false)) (rw c.deref-in-Try-4.ensures.value at c.statements_fit-in-Try-3.ensures))

pub statement_fits-statements_fit-requires-in-Finally : goal.statement_fits-statements_fit-requires-in-Finally
statement_fits-statements_fit-requires-in-Finally t c =
    let h : of_statement (statement_of c.args.statement.now) ≡ suc (max (of_statements (statements (map statement_of c.in-Finally.body.items))) (of_statements (statements (map statement_of c.in-Finally.last.items)))) = ap of_statement (ap statement_of c.in-Finally.is ∙ finally_is c.in-Finally.body c.in-Finally.last) in rw c.deref-in-Finally.ensures.value (omega arith, tt)

pub statement_fits-statements_fit-requires-in-Finally-2 : goal.statement_fits-statements_fit-requires-in-Finally-2
statement_fits-statements_fit-requires-in-Finally-2 t c =
    let h : of_statement (statement_of c.args.statement.now) ≡ suc (max (of_statements (statements (map statement_of c.in-Finally.body.items))) (of_statements (statements (map statement_of c.in-Finally.last.items)))) = ap of_statement (ap statement_of c.in-Finally.is ∙ finally_is c.in-Finally.body c.in-Finally.last) in rw c.deref-in-Finally-2.ensures.value (omega arith, tt)

pub statement_fits-returns-then-not-branch-5 : goal.statement_fits-returns-then-not-branch-5
statement_fits-returns-then-not-branch-5 t c =
    rw (c.in-Finally.is, finally_is) (note_ends (names_in c.args.seen.now) (in_statements (statements (map statement_of c.in-Finally.body.items))) (in_statements (statements (map statement_of c.in-Finally.last.items))) (fits_off c.in_ok-statements_fit-in-Finally.field-0 (note (names_in c.args.seen.now) (in_statements (statements (map statement_of c.in-Finally.body.items)))) (names_in c.statements_fit-in-Finally.new.seen) (rw c.deref-in-Finally.ensures.value at c.in_ok-statements_fit-in-Finally.ensures) c.if-not-branch-5.true))

pub statement_fits-returns-else-not-branch-5 : goal.statement_fits-returns-else-not-branch-5
statement_fits-returns-else-not-branch-5 t c =
    rw (c.in-Finally.is, finally_is) (then_if_ok c.statements_fit-in-Finally-2.result (names_in c.args.seen.now) (names_in c.statements_fit-in-Finally.new.seen) (names_in c.statements_fit-in-Finally-2.new.seen) (in_statements (statements (map statement_of c.in-Finally.body.items))) (in_statements (statements (map statement_of c.in-Finally.last.items))) (fits_on c.in_ok-statements_fit-in-Finally.field-0 (note (names_in c.args.seen.now) (in_statements (statements (map statement_of c.in-Finally.body.items)))) (names_in c.statements_fit-in-Finally.new.seen) (rw c.deref-in-Finally.ensures.value at c.in_ok-statements_fit-in-Finally.ensures) c.if-not-branch-5.false) (rw c.deref-in-Finally-2.ensures.value at c.statements_fit-in-Finally-2.ensures))

pub statements_fit-returns-then-not-branch : goal.statements_fit-returns-then-not-branch
statements_fit-returns-then-not-branch t c =
    told_ends (λ (x : Stmt). in_statement (statement_of x)) (λ (ys : List Stmt). in_statements (statements (map statement_of ys))) (λ x xs. refl) (note (names_in c.args.seen.now) (in_statements (statements (map statement_of c.args.all.now)))) c.args.all.now c.loop-statement.statement-index c.statement-item.result (names_in c.loop-statement.seen) c.loop-statement.invariant.told c.loop-statement-test.true c.statement-item.is (fits_off c.in_ok-statement_fits.field-0 (note (names_in c.loop-statement.seen) (in_statement (statement_of c.statement-item.result))) (names_in c.statement_fits.new.seen) c.in_ok-statement_fits.ensures c.if-not-branch.true)

pub statements_fit-loop-statement-preserved : goal.statements_fit-loop-statement-preserved
statements_fit-loop-statement-preserved t c =
    let k : of_statements (statements (map statement_of (drop c.loop-statement.statement-index c.args.all.now))) ≡ max (of_statement (statement_of c.statement-item.result)) (of_statements (statements (map statement_of (drop (c.loop-statement.statement-index + 1) c.args.all.now)))) = height_here (λ (x : Stmt). of_statement (statement_of x)) (λ (ys : List Stmt). of_statements (statements (map statement_of ys))) (λ x xs. refl) c.args.all.now c.loop-statement.statement-index c.statement-item.result c.loop-statement-test.true c.statement-item.is in record { told = told_more (λ (x : Stmt). in_statement (statement_of x)) (λ (ys : List Stmt). in_statements (statements (map statement_of ys))) (λ x xs. refl) (note (names_in c.args.seen.now) (in_statements (statements (map statement_of c.args.all.now)))) c.args.all.now c.loop-statement.statement-index c.statement-item.result (names_in c.loop-statement.seen) (names_in c.statement_fits.new.seen) c.loop-statement.invariant.told c.loop-statement-test.true c.statement-item.is (fits_on c.in_ok-statement_fits.field-0 (note (names_in c.loop-statement.seen) (in_statement (statement_of c.statement-item.result))) (names_in c.statement_fits.new.seen) c.in_ok-statement_fits.ensures c.if-not-branch.false); height = omega arith }

pub arms_fit-statements_fit-requires : goal.arms_fit-statements_fit-requires
arms_fit-statements_fit-requires t c =
    let k : of_arms (arms (map arm_of (drop c.loop-arm.arm-index c.args.arms.now))) ≡ max (max (of_expression (expression_of c.arm-item.result.test)) (of_statements (statements (map statement_of c.arm-item.result.body.items)))) (of_arms (arms (map arm_of (drop (c.loop-arm.arm-index + 1) c.args.arms.now)))) = height_here (λ (x : Arm'). max (of_expression (expression_of x.test)) (of_statements (statements (map statement_of x.body.items)))) (λ (ys : List Arm'). of_arms (arms (map arm_of ys))) arm_height c.args.arms.now c.loop-arm.arm-index c.arm-item.result c.loop-arm-test.true c.arm-item.is in rw c.deref.ensures.value (omega arith, tt)

pub arms_fit-returns-then-not-branch : goal.arms_fit-returns-then-not-branch
arms_fit-returns-then-not-branch t c =
    told_ends (λ (x : Arm'). in_expression (expression_of x.test) ++ in_statements (statements (map statement_of x.body.items))) (λ (ys : List Arm'). in_arms (arms (map arm_of ys))) arm_names (note (names_in c.args.seen.now) (in_arms (arms (map arm_of c.args.arms.now)))) c.args.arms.now c.loop-arm.arm-index c.arm-item.result (names_in c.loop-arm.seen) c.loop-arm.invariant.told c.loop-arm-test.true c.arm-item.is (note_then (names_in c.loop-arm.seen) (names_in c.add_expr.new.seen) (in_expression (expression_of c.arm-item.result.test)) (in_statements (statements (map statement_of c.arm-item.result.body.items))) c.in_ok-add_expr.ensures ∙ fits_off c.in_ok-statements_fit.field-0 (note (names_in c.add_expr.new.seen) (in_statements (statements (map statement_of c.arm-item.result.body.items)))) (names_in c.statements_fit.new.seen) (rw c.deref.ensures.value at c.in_ok-statements_fit.ensures) c.if-not-branch.true)

pub arms_fit-loop-arm-preserved : goal.arms_fit-loop-arm-preserved
arms_fit-loop-arm-preserved t c =
    let k : of_arms (arms (map arm_of (drop c.loop-arm.arm-index c.args.arms.now))) ≡ max (max (of_expression (expression_of c.arm-item.result.test)) (of_statements (statements (map statement_of c.arm-item.result.body.items)))) (of_arms (arms (map arm_of (drop (c.loop-arm.arm-index + 1) c.args.arms.now)))) = height_here (λ (x : Arm'). max (of_expression (expression_of x.test)) (of_statements (statements (map statement_of x.body.items)))) (λ (ys : List Arm'). of_arms (arms (map arm_of ys))) arm_height c.args.arms.now c.loop-arm.arm-index c.arm-item.result c.loop-arm-test.true c.arm-item.is in record { told = told_more (λ (x : Arm'). in_expression (expression_of x.test) ++ in_statements (statements (map statement_of x.body.items))) (λ (ys : List Arm'). in_arms (arms (map arm_of ys))) arm_names (note (names_in c.args.seen.now) (in_arms (arms (map arm_of c.args.arms.now)))) c.args.arms.now c.loop-arm.arm-index c.arm-item.result (names_in c.loop-arm.seen) (names_in c.statements_fit.new.seen) c.loop-arm.invariant.told c.loop-arm-test.true c.arm-item.is (note_then (names_in c.loop-arm.seen) (names_in c.add_expr.new.seen) (in_expression (expression_of c.arm-item.result.test)) (in_statements (statements (map statement_of c.arm-item.result.body.items))) c.in_ok-add_expr.ensures ∙ fits_on c.in_ok-statements_fit.field-0 (note (names_in c.add_expr.new.seen) (in_statements (statements (map statement_of c.arm-item.result.body.items)))) (names_in c.statements_fit.new.seen) (rw c.deref.ensures.value at c.in_ok-statements_fit.ensures) c.if-not-branch.false); height = omega arith }

pub handler_bodies_fit-statements_fit-requires : goal.handler_bodies_fit-statements_fit-requires
handler_bodies_fit-statements_fit-requires t c =
    let k : of_handlers (handlers (map handler_of (drop c.loop-handler.handler-index c.args.handlers.now))) ≡ max (max (of_optional (value_of c.handler-item.result.class)) (of_statements (statements (map statement_of c.handler-item.result.body.items)))) (of_handlers (handlers (map handler_of (drop (c.loop-handler.handler-index + 1) c.args.handlers.now)))) = height_here (λ (x : Handler'). max (of_optional (value_of x.class)) (of_statements (statements (map statement_of x.body.items)))) (λ (ys : List Handler'). of_handlers (handlers (map handler_of ys))) handler_height c.args.handlers.now c.loop-handler.handler-index c.handler-item.result c.loop-handler-test.true c.handler-item.is in rw c.deref.ensures.value (omega arith, tt)

pub handler_bodies_fit-returns-then-not-branch : goal.handler_bodies_fit-returns-then-not-branch
handler_bodies_fit-returns-then-not-branch t c =
    told_ends (λ (x : Handler'). in_optional (value_of x.class) ++ variables (text_of x.name) ++ in_statements (statements (map statement_of x.body.items))) (λ (ys : List Handler'). in_handlers (handlers (map handler_of ys))) handler_names (note (names_in c.args.seen.now) (in_handlers (handlers (map handler_of c.args.handlers.now)))) c.args.handlers.now c.loop-handler.handler-index c.handler-item.result (names_in c.loop-handler.seen) c.loop-handler.invariant.told c.loop-handler-test.true c.handler-item.is (note_then (names_in c.loop-handler.seen) (names_in c.add_caught.new.seen) ((in_optional (value_of c.handler-item.result.class)) ++ (variables (text_of c.handler-item.result.name))) (in_statements (statements (map statement_of c.handler-item.result.body.items))) (note_then (names_in c.loop-handler.seen) (names_in c.add_optional.new.seen) (in_optional (value_of c.handler-item.result.class)) (variables (text_of c.handler-item.result.name)) c.in_ok-add_optional.ensures ∙ c.in_ok-add_caught.ensures) ∙ fits_off c.in_ok-statements_fit.field-0 (note (names_in c.add_caught.new.seen) (in_statements (statements (map statement_of c.handler-item.result.body.items)))) (names_in c.statements_fit.new.seen) (rw c.deref.ensures.value at c.in_ok-statements_fit.ensures) c.if-not-branch.true)

pub handler_bodies_fit-loop-handler-preserved : goal.handler_bodies_fit-loop-handler-preserved
handler_bodies_fit-loop-handler-preserved t c =
    let k : of_handlers (handlers (map handler_of (drop c.loop-handler.handler-index c.args.handlers.now))) ≡ max (max (of_optional (value_of c.handler-item.result.class)) (of_statements (statements (map statement_of c.handler-item.result.body.items)))) (of_handlers (handlers (map handler_of (drop (c.loop-handler.handler-index + 1) c.args.handlers.now)))) = height_here (λ (x : Handler'). max (of_optional (value_of x.class)) (of_statements (statements (map statement_of x.body.items)))) (λ (ys : List Handler'). of_handlers (handlers (map handler_of ys))) handler_height c.args.handlers.now c.loop-handler.handler-index c.handler-item.result c.loop-handler-test.true c.handler-item.is in record { told = told_more (λ (x : Handler'). in_optional (value_of x.class) ++ variables (text_of x.name) ++ in_statements (statements (map statement_of x.body.items))) (λ (ys : List Handler'). in_handlers (handlers (map handler_of ys))) handler_names (note (names_in c.args.seen.now) (in_handlers (handlers (map handler_of c.args.handlers.now)))) c.args.handlers.now c.loop-handler.handler-index c.handler-item.result (names_in c.loop-handler.seen) (names_in c.statements_fit.new.seen) c.loop-handler.invariant.told c.loop-handler-test.true c.handler-item.is (note_then (names_in c.loop-handler.seen) (names_in c.add_caught.new.seen) ((in_optional (value_of c.handler-item.result.class)) ++ (variables (text_of c.handler-item.result.name))) (in_statements (statements (map statement_of c.handler-item.result.body.items))) (note_then (names_in c.loop-handler.seen) (names_in c.add_optional.new.seen) (in_optional (value_of c.handler-item.result.class)) (variables (text_of c.handler-item.result.name)) c.in_ok-add_optional.ensures ∙ c.in_ok-add_caught.ensures) ∙ fits_on c.in_ok-statements_fit.field-0 (note (names_in c.add_caught.new.seen) (in_statements (statements (map statement_of c.handler-item.result.body.items)))) (names_in c.statements_fit.new.seen) (rw c.deref.ensures.value at c.in_ok-statements_fit.ensures) c.if-not-branch.false); height = omega arith }

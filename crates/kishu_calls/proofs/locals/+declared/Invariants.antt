use Rattle.std.proofs.Common.{◌≡◌, ◌+◌, ◌*◌, ◌++◌, ◌≤◌, drop}
use Rattle.kishu_machine.specs.Frames.{texts_of}
use Rattle.kishu_meaning.specs.calls.Functions.{declared_in_arms, declared_in_block, declared_in_handlers}
use Rattle.kishu_language.specs.trees.Height.{of_arms, of_handlers, of_statement, of_statements}
use Rattle.kishu_language.specs.trees.Tree.{statement_of}
use Rattle.kishu_language.specs.trees.Parts.{arms_of, handlers_of, statements_of}
use Rattle.kishu_calls.proofs.locals.+declared.Given as goal

abbrev pub decreases-push_declared : goal.decreases-push_declared
decreases-push_declared l = 3 * of_statement (statement_of l.statement.now)

abbrev pub decreases-push_declared_block : goal.decreases-push_declared_block
decreases-push_declared_block l = 3 * of_statements (statements_of l.block.now) + 1

abbrev pub decreases-push_declared_arms : goal.decreases-push_declared_arms
decreases-push_declared_arms l = 3 * of_arms (arms_of l.arms.now) + 2

abbrev pub decreases-push_declared_handlers : goal.decreases-push_declared_handlers
decreases-push_declared_handlers l = 3 * of_handlers (handlers_of l.handlers.now) + 2

abbrev pub invariant-push_declared_block-loop-statement : goal.invariant-push_declared_block-loop-statement
invariant-push_declared_block-loop-statement l = record {
  told : texts_of l.names.items ++ declared_in_block (statements_of (drop l.statement-index l.block)) ≡ texts_of l.fn.names.items ++ declared_in_block (statements_of l.block);
  height : of_statements (statements_of (drop l.statement-index l.block)) ≤ of_statements (statements_of l.block);
}

abbrev pub invariant-push_declared_arms-loop-arm : goal.invariant-push_declared_arms-loop-arm
invariant-push_declared_arms-loop-arm l = record {
  told : texts_of l.names.items ++ declared_in_arms (arms_of (drop l.arm-index l.arms)) ≡ texts_of l.fn.names.items ++ declared_in_arms (arms_of l.arms);
  height : of_arms (arms_of (drop l.arm-index l.arms)) ≤ of_arms (arms_of l.arms);
}

abbrev pub invariant-push_declared_handlers-loop-handler : goal.invariant-push_declared_handlers-loop-handler
invariant-push_declared_handlers-loop-handler l = record {
  told : texts_of l.names.items ++ declared_in_handlers (handlers_of (drop l.handler-index l.handlers)) ≡ texts_of l.fn.names.items ++ declared_in_handlers (handlers_of l.handlers);
  height : of_handlers (handlers_of (drop l.handler-index l.handlers)) ≤ of_handlers (handlers_of l.handlers);
}

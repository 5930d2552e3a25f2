use Rattle.std.proofs.Common.{◌≡◌, ◌+◌, ◌*◌, ◌≤◌, ℕ, drop, map}
use Rattle.kishu_language.specs.trees.Tree.{statements, arms, handlers, statement_of}
use Rattle.kishu_language.specs.grammar.Refusals.{in_statements, in_arms, in_handlers}
use Rattle.kishu_language.specs.trees.Height.{of_statement, of_statements, of_arms, of_handlers}
use Rattle.kishu_language.specs.trees.Parts.{arm_of, handler_of}
use Rattle.kishu_parser.specs.Sets.{names_in, note}
use Rattle.kishu_parser.proofs.mentions.+globals.Given as goal

abbrev pub decreases-statement_fits : goal.decreases-statement_fits
decreases-statement_fits l = 4 * of_statement (statement_of l.statement.now)

abbrev pub decreases-statements_fit : goal.decreases-statements_fit
decreases-statements_fit l = 4 * of_statements (statements (map statement_of l.all.now)) + 1

abbrev pub decreases-arms_fit : goal.decreases-arms_fit
decreases-arms_fit l = 4 * of_arms (arms (map arm_of l.arms.now)) + 2

abbrev pub decreases-handler_bodies_fit : goal.decreases-handler_bodies_fit
decreases-handler_bodies_fit l = 4 * of_handlers (handlers (map handler_of l.handlers.now)) + 2

abbrev pub invariant-statements_fit-loop-statement : goal.invariant-statements_fit-loop-statement
invariant-statements_fit-loop-statement l = record {
  told : note (names_in l.fn.seen) (in_statements (statements (map statement_of l.all))) ≡ note (names_in l.seen) (in_statements (statements (map statement_of (drop l.statement-index l.all))));
  height : of_statements (statements (map statement_of (drop l.statement-index l.all))) ≤ of_statements (statements (map statement_of l.all));
}

abbrev pub invariant-arms_fit-loop-arm : goal.invariant-arms_fit-loop-arm
invariant-arms_fit-loop-arm l = record {
  told : note (names_in l.fn.seen) (in_arms (arms (map arm_of l.arms))) ≡ note (names_in l.seen) (in_arms (arms (map arm_of (drop l.arm-index l.arms))));
  height : of_arms (arms (map arm_of (drop l.arm-index l.arms))) ≤ of_arms (arms (map arm_of l.arms));
}

abbrev pub invariant-handler_bodies_fit-loop-handler : goal.invariant-handler_bodies_fit-loop-handler
invariant-handler_bodies_fit-loop-handler l = record {
  told : note (names_in l.fn.seen) (in_handlers (handlers (map handler_of l.handlers))) ≡ note (names_in l.seen) (in_handlers (handlers (map handler_of (drop l.handler-index l.handlers))));
  height : of_handlers (handlers (map handler_of (drop l.handler-index l.handlers))) ≤ of_handlers (handlers (map handler_of l.handlers));
}

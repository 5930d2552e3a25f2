-- Each call goes down: in the calls that may still be entered, then in the height of the tree, and then by a constant.
use Rattle.std.proofs.Common.{◌≡◌, ◌+◌, ◌*◌, ◌^◌, ◌++◌, ◌≤◌, ◌<◌, ℕ, IsTrue, length, map, max, drop}
use Rattle.kishu_language.specs.trees.Height.{of_expression, of_expressions, of_operands, of_links, of_pairs, of_trailers, of_trailer, of_bound, of_arguments, of_optional, of_list, of_parameters, of_statement, of_statements, of_arms, of_handlers}
use Rattle.kishu_meaning.specs.cells.Meaning.{call, expr, values, inner_values, pairs, first_that, operands, arguments, part, trailers, store, store_each, store_all, delete_all, act, acts, in_block, handlers, defaults}
use Rattle.kishu_meaning.specs.moments.Moment.{tick, give, and_then, ◌>>=◌, ◌>>◌, Ends}
use Rattle.kishu_meaning.specs.values.Sound.{is_sound, are_sound, with_default}
use Rattle.kishu_language.specs.trees.Tree.{expression_of, statement_of, definition_of, parameter_of, bound_of, value_of as tree_value}
use Rattle.kishu_meaning.specs.values.Values.{value_of}
use Rattle.kishu_meaning.specs.cells.Ways.{turns, walk_on, walk_along}
use Rattle.kishu_items.specs.Walks.{walk_of}
use Rattle.kishu_calls.specs.Calls.{part_of, given_of, is_sound_part, is_sound_given, owed, Owing}
use Rattle.kishu_language.specs.trees.Parts.{expressions_of, operands_of, links_of, pairs_of, trailers_of, trailer_of, arguments_of, statements_of, arms_of, handlers_of}
use Rattle.kishu_machine.specs.Lists.{are_sound_pairs, value_pairs}
use Rattle.kishu_machine.specs.Machine.{GrownBy, moment_of, is_sound_thrown, thrown_of, ReadsBy, Gives, IsSound}
use Rattle.kishu_language.specs.trees.Fits.{ArgumentsFit, ArmsFit, ExpressionsFit, HandlersFit, LinksFit, ListFits, OperandsFit, PairsFit, ParametersFit, StatementsFit, TrailersFit, keywords}
use Rattle.kishu_language.specs.grammar.Refusals.{all_differ}
use Rattle.kishu_statements.specs.Forms.{linked, LeavesPart}
use Rattle.kishu_statements.proofs.Joined.{joined}
use Rattle.kishu_meaning.specs.calls.Callees.{Part}
use Rattle.kishu_language.specs.grammar.Targets.{is_target}
use Rattle.std.specs.List.{list_all}
use Rattle.kishu_language.specs.trees.Tree as t
use Rattle.kishu_statements.proofs.+run.Given as goal

abbrev pub decreases-expressions::evaluate : goal.decreases-expressions::evaluate
decreases-expressions::evaluate g l = 2 ^ 24 * l.calls_left + 8 * (of_expression (expression_of l.e.now)) + 2

abbrev pub decreases-expressions::deeper_value : goal.decreases-expressions::deeper_value
decreases-expressions::deeper_value g l = 2 ^ 24 * l.calls_left + 8 * (of_expression (expression_of l.e.now)) + 3

abbrev pub decreases-displays::tuple_value : goal.decreases-displays::tuple_value
decreases-displays::tuple_value g l = 2 ^ 24 * l.calls_left + 8 * (of_expressions (expressions_of l.items.now)) + 6

abbrev pub decreases-displays::values_of : goal.decreases-displays::values_of
decreases-displays::values_of g l = 2 ^ 24 * l.calls_left + 8 * (of_expressions (expressions_of l.items.now)) + 5

abbrev pub decreases-displays::list_value : goal.decreases-displays::list_value
decreases-displays::list_value g l = 2 ^ 24 * l.calls_left + 8 * (of_expressions (expressions_of l.items.now)) + 6

abbrev pub decreases-displays::inner_values : goal.decreases-displays::inner_values
decreases-displays::inner_values g l = 2 ^ 24 * l.calls_left + 8 * (of_expressions (expressions_of l.items.now)) + 5

abbrev pub decreases-displays::dict_value : goal.decreases-displays::dict_value
decreases-displays::dict_value g l = 2 ^ 24 * l.calls_left + 8 * (of_pairs (pairs_of l.pairs.now)) + 6

abbrev pub decreases-displays::pair_values : goal.decreases-displays::pair_values
decreases-displays::pair_values g l = 2 ^ 24 * l.calls_left + 8 * (of_pairs (pairs_of l.pairs.now)) + 5

abbrev pub decreases-expressions::chosen_value : goal.decreases-expressions::chosen_value
decreases-expressions::chosen_value g l = 2 ^ 24 * l.calls_left + 8 * (max (of_expression (expression_of l.value.now)) (max (of_expression (expression_of l.test.now)) (of_expression (expression_of l.other.now)))) + 5

abbrev pub decreases-expressions::deciding_value : goal.decreases-expressions::deciding_value
decreases-expressions::deciding_value g l = 2 ^ 24 * l.calls_left + 8 * (of_expressions (expressions_of l.operands.now)) + 5

abbrev pub decreases-operators::negated_value : goal.decreases-operators::negated_value
decreases-operators::negated_value g l = 2 ^ 24 * l.calls_left + 8 * (of_expression (expression_of l.e.now)) + 5

abbrev pub decreases-operators::value_with_sign : goal.decreases-operators::value_with_sign
decreases-operators::value_with_sign g l = 2 ^ 24 * l.calls_left + 8 * (of_expression (expression_of l.e.now)) + 5

abbrev pub decreases-operators::power_value : goal.decreases-operators::power_value
decreases-operators::power_value g l = 2 ^ 24 * l.calls_left + 8 * (max (of_expression (expression_of l.base.now)) (of_expression (expression_of l.exponent.now))) + 5

abbrev pub decreases-operators::combined_value : goal.decreases-operators::combined_value
decreases-operators::combined_value g l = 2 ^ 24 * l.calls_left + 8 * (max (of_expression (expression_of l.first.now)) (of_operands (operands_of l.others.now))) + 5

abbrev pub decreases-operators::compared_value : goal.decreases-operators::compared_value
decreases-operators::compared_value g l = 2 ^ 24 * l.calls_left + 8 * (max (of_expression (expression_of l.first.now)) (of_links (links_of l.links.now))) + 6

abbrev pub decreases-primaries::primary_value : goal.decreases-primaries::primary_value
decreases-primaries::primary_value g l = 2 ^ 24 * l.calls_left + 8 * (max (of_expression (expression_of l.atom.now)) (of_trailers (trailers_of l.trailers.now))) + 9

abbrev pub decreases-primaries::primary_part : goal.decreases-primaries::primary_part
decreases-primaries::primary_part g l = 2 ^ 24 * l.calls_left + 8 * (max (of_expression (expression_of l.atom.now)) (of_trailers (trailers_of l.trailers.now))) + 8

abbrev pub decreases-primaries::part_behind : goal.decreases-primaries::part_behind
decreases-primaries::part_behind g l = 2 ^ 24 * l.calls_left + 8 * (max (of_expression (expression_of l.atom.now)) (of_trailers (trailers_of l.trailers.now))) + 7

abbrev pub decreases-primaries::part : goal.decreases-primaries::part
decreases-primaries::part g l = 2 ^ 24 * l.calls_left + 8 * (of_expression (expression_of l.e.now)) + 4

abbrev pub decreases-primaries::whole_part : goal.decreases-primaries::whole_part
decreases-primaries::whole_part g l = 2 ^ 24 * l.calls_left + 8 * (of_expression (expression_of l.e.now)) + 3

abbrev pub decreases-primaries::deeper_part : goal.decreases-primaries::deeper_part
decreases-primaries::deeper_part g l = 2 ^ 24 * l.calls_left + 8 * (of_expression (expression_of l.e.now)) + 5

abbrev pub decreases-primaries::sliced_part : goal.decreases-primaries::sliced_part
decreases-primaries::sliced_part g l = 2 ^ 24 * l.calls_left + 8 * (max (of_bound (bound_of (tree_value l.start.now))) (max (of_bound (bound_of (tree_value l.stop.now))) (of_bound (bound_of (tree_value l.step.now))))) + 6

abbrev pub decreases-primaries::called_part : goal.decreases-primaries::called_part
decreases-primaries::called_part g l = 2 ^ 24 * l.calls_left + 8 * (of_arguments (arguments_of l.arguments.now)) + 5

abbrev pub decreases-primaries::item_part : goal.decreases-primaries::item_part
decreases-primaries::item_part g l = 2 ^ 24 * l.calls_left + 8 * (of_expression (expression_of l.index.now)) + 5

abbrev pub decreases-primaries::bound_value : goal.decreases-primaries::bound_value
decreases-primaries::bound_value g l = 2 ^ 24 * l.calls_left + 8 * (of_bound (bound_of (tree_value l.bound.now))) + 4

abbrev pub decreases-primaries::slice_part : goal.decreases-primaries::slice_part
decreases-primaries::slice_part g l = 2 ^ 24 * l.calls_left + 8 * (max (of_bound (bound_of (tree_value l.start.now))) (max (of_bound (bound_of (tree_value l.stop.now))) (of_bound (bound_of (tree_value l.step.now))))) + 5

abbrev pub decreases-calls::arguments_given : goal.decreases-calls::arguments_given
decreases-calls::arguments_given g l = 2 ^ 24 * l.calls_left + 8 * (of_arguments (arguments_of l.arguments.now)) + 4

abbrev pub decreases-calls::apply : goal.decreases-calls::apply
decreases-calls::apply g l = 2 ^ 24 * l.calls_left + 3

abbrev pub decreases-calls::call_value : goal.decreases-calls::call_value
decreases-calls::call_value g l = 2 ^ 24 * l.calls_left + 2

abbrev pub decreases-calls::call_node : goal.decreases-calls::call_node
decreases-calls::call_node g l = 2 ^ 24 * l.calls_left + 1

abbrev pub decreases-calls::called : goal.decreases-calls::called
decreases-calls::called g l = 2 ^ 24 * l.calls_left

abbrev pub decreases-calls::entered : goal.decreases-calls::entered
decreases-calls::entered g l = 2 ^ 24 * l.calls_left + 8 * (of_statements (definition_of l.def.now).body) + 8

abbrev pub decreases-targets::place_at : goal.decreases-targets::place_at
decreases-targets::place_at g l = 2 ^ 24 * l.calls_left + 8 * (of_expression (expression_of l.e.now)) + 1

abbrev pub decreases-targets::primary_place : goal.decreases-targets::primary_place
decreases-targets::primary_place g l = 2 ^ 24 * l.calls_left + 8 * (max (of_expression (expression_of l.atom.now)) (of_trailers (trailers_of l.trailers.now))) + 8

abbrev pub decreases-targets::last_place : goal.decreases-targets::last_place
decreases-targets::last_place g l = 2 ^ 24 * l.calls_left + 8 * (of_trailer (trailer_of l.last.now)) + 4

abbrev pub decreases-targets::store : goal.decreases-targets::store
decreases-targets::store g l = 2 ^ 24 * l.calls_left + 8 * (of_expression (expression_of l.target.now)) + 3

abbrev pub decreases-targets::store_place : goal.decreases-targets::store_place
decreases-targets::store_place g l = 2 ^ 24 * l.calls_left + 8 * (of_expression (expression_of l.target.now)) + 2

abbrev pub decreases-targets::store_deeper : goal.decreases-targets::store_deeper
decreases-targets::store_deeper g l = 2 ^ 24 * l.calls_left + 8 * (of_expression (expression_of l.target.now)) + 4

abbrev pub decreases-targets::store_pattern : goal.decreases-targets::store_pattern
decreases-targets::store_pattern g l = 2 ^ 24 * l.calls_left + 8 * (of_expressions (expressions_of l.targets.now)) + 5

abbrev pub decreases-targets::store_deeper_pattern : goal.decreases-targets::store_deeper_pattern
decreases-targets::store_deeper_pattern g l = 2 ^ 24 * l.calls_left + 8 * (of_expressions (expressions_of l.targets.now)) + 6

abbrev pub decreases-targets::store_each : goal.decreases-targets::store_each
decreases-targets::store_each g l = 2 ^ 24 * l.calls_left + 8 * (of_expressions (expressions_of l.targets.now)) + 4

abbrev pub decreases-targets::store_all : goal.decreases-targets::store_all
decreases-targets::store_all g l = 2 ^ 24 * l.calls_left + 8 * (of_list (map expression_of l.targets.now)) + 4

abbrev pub decreases-statements::run_statement : goal.decreases-statements::run_statement
decreases-statements::run_statement g l = 2 ^ 24 * l.calls_left + 8 * (of_statement (statement_of l.statement.now)) + 5

abbrev pub decreases-statements::run_return : goal.decreases-statements::run_return
decreases-statements::run_return g l = 2 ^ 24 * l.calls_left + 8 * (of_optional (tree_value l.value.now)) + 4

abbrev pub decreases-statements::run_raise : goal.decreases-statements::run_raise
decreases-statements::run_raise g l = 2 ^ 24 * l.calls_left + 8 * (of_optional (tree_value l.value.now)) + 4

abbrev pub decreases-statements::run_assert : goal.decreases-statements::run_assert
decreases-statements::run_assert g l = 2 ^ 24 * l.calls_left + 8 * (max (of_expression (expression_of l.test.now)) (of_optional (tree_value l.message.now))) + 4

abbrev pub decreases-statements::run_delete : goal.decreases-statements::run_delete
decreases-statements::run_delete g l = 2 ^ 24 * l.calls_left + 8 * (of_list (map expression_of l.places.now)) + 4

abbrev pub decreases-statements::run_assignment : goal.decreases-statements::run_assignment
decreases-statements::run_assignment g l = 2 ^ 24 * l.calls_left + 8 * (max (of_list (map expression_of l.targets.now)) (of_expression (expression_of l.value.now))) + 5

abbrev pub decreases-statements::run_update : goal.decreases-statements::run_update
decreases-statements::run_update g l = 2 ^ 24 * l.calls_left + 8 * (max (of_expression (expression_of l.target.now)) (of_expression (expression_of l.operand.now))) + 5

abbrev pub decreases-statements::block : goal.decreases-statements::block
decreases-statements::block g l = 2 ^ 24 * l.calls_left + 8 * (of_statements (statements_of l.body.now)) + 7

abbrev pub decreases-statements::run_all : goal.decreases-statements::run_all
decreases-statements::run_all g l = 2 ^ 24 * l.calls_left + 8 * (of_statements (statements_of l.body.now)) + 6

abbrev pub decreases-statements::run_choice : goal.decreases-statements::run_choice
decreases-statements::run_choice g l = 2 ^ 24 * l.calls_left + 8 * (max (of_arms (arms_of l.arms.now)) (of_statements (statements_of l.other.now))) + 8

abbrev pub decreases-loops::run_while : goal.decreases-loops::run_while
decreases-loops::run_while g l = 2 ^ 24 * l.calls_left + 8 * (max (of_expression (expression_of l.test.now)) (of_statements (statements_of l.body.now))) + 8

abbrev pub decreases-loops::run_for : goal.decreases-loops::run_for
decreases-loops::run_for g l = 2 ^ 24 * l.calls_left + 8 * (max (of_expression (expression_of l.target.now)) (max (of_expression (expression_of l.walked.now)) (of_statements (statements_of l.body.now)))) + 9

abbrev pub decreases-loops::run_turns : goal.decreases-loops::run_turns
decreases-loops::run_turns g l = 2 ^ 24 * l.calls_left + 8 * (max (of_expression (expression_of l.target.now)) (of_statements (statements_of l.body.now))) + 8

abbrev pub decreases-tries::run_try : goal.decreases-tries::run_try
decreases-tries::run_try g l = 2 ^ 24 * l.calls_left + 8 * (max (of_statements (statements_of l.body.now)) (max (of_handlers (handlers_of l.handlers.now)) (max (of_statements (statements_of l.other.now)) (of_statements (statements_of l.last.now))))) + 12

abbrev pub decreases-tries::run_attempt : goal.decreases-tries::run_attempt
decreases-tries::run_attempt g l = 2 ^ 24 * l.calls_left + 8 * (max (of_statements (statements_of l.body.now)) (max (of_handlers (handlers_of l.handlers.now)) (of_statements (statements_of l.other.now)))) + 11

abbrev pub decreases-tries::run_handlers : goal.decreases-tries::run_handlers
decreases-tries::run_handlers g l = 2 ^ 24 * l.calls_left + 8 * (of_handlers (handlers_of l.handlers.now)) + 10

abbrev pub decreases-tries::is_for : goal.decreases-tries::is_for
decreases-tries::is_for g l = 2 ^ 24 * l.calls_left + 8 * (of_optional (tree_value l.class.now)) + 4

abbrev pub decreases-tries::handle : goal.decreases-tries::handle
decreases-tries::handle g l = 2 ^ 24 * l.calls_left + 8 * (of_statements (statements_of l.body.now)) + 9

abbrev pub decreases-tries::handling : goal.decreases-tries::handling
decreases-tries::handling g l = 2 ^ 24 * l.calls_left + 8 * (of_statements (statements_of l.body.now)) + 8

abbrev pub decreases-tries::run_finally : goal.decreases-tries::run_finally
decreases-tries::run_finally g l = 2 ^ 24 * l.calls_left + 8 * (max (of_statements (statements_of l.body.now)) (of_statements (statements_of l.last.now))) + 9

abbrev pub decreases-tries::run_last : goal.decreases-tries::run_last
decreases-tries::run_last g l = 2 ^ 24 * l.calls_left + 8 * (of_statements (statements_of l.last.now)) + 8

abbrev pub decreases-statements::default_values : goal.decreases-statements::default_values
decreases-statements::default_values g l = 2 ^ 24 * l.calls_left + 8 * (of_parameters (map parameter_of l.params.now)) + 5

abbrev pub decreases-statements::run_def : goal.decreases-statements::run_def
decreases-statements::run_def g l = 2 ^ 24 * l.calls_left + 8 * (of_parameters (definition_of l.def.now.value).parameters) + 6

-- ---- loops: what is left of the list goes on from here

abbrev pub invariant-displays::values_of-loop-item : goal.invariant-displays::values_of-loop-item
invariant-displays::values_of-loop-item g l = record {
  told : values (call l.calls_left) (expressions_of l.items) (moment_of l.fn.machine) ≡ and_then (values (call l.calls_left) (expressions_of (drop l.item-index l.items)) (moment_of l.machine)) (λ vs. give (map value_of l.values.items ++ vs));
  height : of_expressions (expressions_of (drop l.item-index l.items)) ≤ of_expressions (expressions_of l.items);
  fits : ExpressionsFit (expressions_of (drop l.item-index l.items));
  kept : GrownBy 0 l.fn.machine l.fn.steps l.machine l.steps;
  reads : ReadsBy 0 l.fn.machine l.fn.steps l.machine l.steps;
  sound : IsTrue (are_sound (length l.machine.heap) (map value_of l.values.items));
}

abbrev pub invariant-displays::inner_values-loop-item : goal.invariant-displays::inner_values-loop-item
invariant-displays::inner_values-loop-item g l = record {
  told : inner_values (call l.calls_left) (expressions_of l.items) (moment_of l.fn.machine) ≡ and_then (inner_values (call l.calls_left) (expressions_of (drop l.item-index l.items)) (moment_of l.machine)) (λ vs. give (map value_of l.values.items ++ vs));
  height : of_expressions (expressions_of (drop l.item-index l.items)) ≤ of_expressions (expressions_of l.items);
  fits : ExpressionsFit (expressions_of (drop l.item-index l.items));
  kept : GrownBy 0 l.fn.machine l.fn.steps l.machine l.steps;
  reads : ReadsBy 0 l.fn.machine l.fn.steps l.machine l.steps;
  sound : IsTrue (are_sound (length l.machine.heap) (map value_of l.values.items));
}

abbrev pub invariant-displays::pair_values-loop-pair : goal.invariant-displays::pair_values-loop-pair
invariant-displays::pair_values-loop-pair g l = record {
  told : pairs (call l.calls_left) (pairs_of l.pairs) (moment_of l.fn.machine) ≡ and_then (pairs (call l.calls_left) (pairs_of (drop l.pair-index l.pairs)) (moment_of l.machine)) (λ vs. give (value_pairs l.entries ++ vs));
  height : of_pairs (pairs_of (drop l.pair-index l.pairs)) ≤ of_pairs (pairs_of l.pairs);
  fits : PairsFit (pairs_of (drop l.pair-index l.pairs));
  kept : GrownBy 0 l.fn.machine l.fn.steps l.machine l.steps;
  reads : l.steps + 128 * l.machine.budget.left + 4 * length l.entries.items ≤ l.fn.steps + 128 * l.fn.machine.budget.left;
  sound : IsTrue (are_sound_pairs (length l.machine.heap) (value_pairs l.entries));
}

abbrev pub invariant-expressions::deciding_value-loop-i : goal.invariant-expressions::deciding_value-loop-i
invariant-expressions::deciding_value-loop-i g l = record {
  told : (tick >> first_that (call l.calls_left) l.which (expressions_of l.operands)) (moment_of l.fn.machine) ≡ first_that (call l.calls_left) l.which (expressions_of (drop l.i l.operands)) (moment_of l.machine);
  height : of_expressions (expressions_of (drop l.i l.operands)) ≤ of_expressions (expressions_of l.operands);
  fits : ExpressionsFit (expressions_of (drop l.i l.operands));
  kept : GrownBy 0 l.fn.machine l.fn.steps l.machine l.steps;
  reads : l.steps + 128 * l.machine.budget.left + 64 ≤ l.fn.steps + 128 * l.fn.machine.budget.left;
}

abbrev pub invariant-operators::combined_value-loop-other : goal.invariant-operators::combined_value-loop-other
invariant-operators::combined_value-loop-other g l = record {
  told : expr (call l.calls_left) (t.sum (expression_of l.fn.first) (operands_of l.others)) (moment_of l.fn.machine) ≡ operands (call l.calls_left) (value_of l.value) (operands_of (drop l.other-index l.others)) (moment_of l.machine);
  height : of_operands (operands_of (drop l.other-index l.others)) ≤ of_operands (operands_of l.others);
  fits : OperandsFit (operands_of (drop l.other-index l.others));
  kept : GrownBy 0 l.fn.machine l.fn.steps l.machine l.steps;
  reads : l.steps + 128 * l.machine.budget.left + 64 ≤ l.fn.steps + 128 * l.fn.machine.budget.left;
  sound : IsTrue (is_sound (length l.machine.heap) (value_of l.value));
}

abbrev pub invariant-operators::compared_value-loop-link : goal.invariant-operators::compared_value-loop-link
invariant-operators::compared_value-loop-link g l = record {
  told : expr (call l.calls_left) (t.compared (expression_of l.fn.first) (links_of l.links)) (moment_of l.fn.machine) ≡ linked (call l.calls_left) (value_of l.left) (links_of (drop l.link-index l.links)) (moment_of l.machine);
  height : of_links (links_of (drop l.link-index l.links)) ≤ of_links (links_of l.links);
  fits : LinksFit (links_of (drop l.link-index l.links));
  kept : GrownBy 0 l.fn.machine l.fn.steps l.machine l.steps;
  reads : l.steps + 128 * l.machine.budget.left + 64 ≤ l.fn.steps + 128 * l.fn.machine.budget.left;
  sound : IsTrue (is_sound (length l.machine.heap) (value_of l.left));
}

abbrev pub invariant-primaries::part_behind-loop-trailer : goal.invariant-primaries::part_behind-loop-trailer
invariant-primaries::part_behind-loop-trailer g l = record {
  told : (e : Ends Part) × Gives part_of l.found (moment_of l.machine) e × ((part (call l.calls_left) (expression_of l.atom) (expr (call l.calls_left) (expression_of l.atom)) >>= λ p. trailers (call l.calls_left) p (trailers_of l.trailers)) (moment_of l.fn.machine) ≡ and_then e (λ p. trailers (call l.calls_left) p (trailers_of (drop l.trailer-index l.trailers))));
  height : of_trailers (trailers_of (drop l.trailer-index l.trailers)) ≤ of_trailers (trailers_of l.trailers);
  fits : TrailersFit (trailers_of (drop l.trailer-index l.trailers));
  kept : GrownBy l.trailer-index l.fn.machine l.fn.steps l.machine l.steps;
  reads : LeavesPart (120 * l.trailer-index) l.fn.machine l.fn.steps l.found l.machine l.steps;
  owes : Owing l.trailer-index l.fn.machine l.found l.machine;
  sound : IsSound (λ v. is_sound_part (length l.machine.heap) (part_of v)) (length l.machine.heap) l.found;
}

abbrev pub invariant-calls::arguments_given-loop-argument : goal.invariant-calls::arguments_given-loop-argument
invariant-calls::arguments_given-loop-argument g l = record {
  told : arguments (call l.calls_left) (arguments_of l.arguments) (moment_of l.fn.machine) ≡ and_then (arguments (call l.calls_left) (arguments_of (drop l.argument-index l.arguments)) (moment_of l.machine)) (λ given. give (joined (given_of (record { plain = l.plain; named = l.named })) given));
  height : of_arguments (arguments_of (drop l.argument-index l.arguments)) ≤ of_arguments (arguments_of l.arguments);
  fits : ArgumentsFit (arguments_of (drop l.argument-index l.arguments));
  differ : IsTrue (all_differ (map (λ k. k.0) (given_of (record { plain = l.plain; named = l.named })).named ++ keywords (arguments_of (drop l.argument-index l.arguments))));
  kept : GrownBy 0 l.fn.machine l.fn.steps l.machine l.steps;
  reads : l.steps + 128 * l.machine.budget.left + 2 * length l.plain.items ≤ l.fn.steps + 128 * l.fn.machine.budget.left;
  sound : IsTrue (is_sound_given (length l.machine.heap) (given_of (record { plain = l.plain; named = l.named })));
}

abbrev pub invariant-targets::store_each-loop-i : goal.invariant-targets::store_each-loop-i
invariant-targets::store_each-loop-i g l = record {
  told : store_each (call l.calls_left) (expressions_of l.targets) (map value_of l.items) (moment_of l.fn.machine) ≡ store_each (call l.calls_left) (expressions_of (drop l.i l.targets)) (map value_of (drop l.i l.items)) (moment_of l.machine);
  height : of_expressions (expressions_of (drop l.i l.targets)) ≤ of_expressions (expressions_of l.targets);
  fits : ExpressionsFit (expressions_of (drop l.i l.targets));
  kept : GrownBy 0 l.fn.machine l.fn.steps l.machine l.steps;
  reads : ReadsBy 0 l.fn.machine l.fn.steps l.machine l.steps;
  targets : IsTrue (list_all is_target (map expression_of (drop l.i l.targets)));
}

abbrev pub invariant-targets::store_all-loop-target : goal.invariant-targets::store_all-loop-target
invariant-targets::store_all-loop-target g l = record {
  told : store_all (call l.calls_left) (map expression_of l.targets) (value_of l.value) (moment_of l.fn.machine) ≡ store_all (call l.calls_left) (map expression_of (drop l.target-index l.targets)) (value_of l.value) (moment_of l.machine);
  height : of_list (map expression_of (drop l.target-index l.targets)) ≤ of_list (map expression_of l.targets);
  fits : ListFits (map expression_of (drop l.target-index l.targets));
  kept : GrownBy 0 l.fn.machine l.fn.steps l.machine l.steps;
  reads : ReadsBy 0 l.fn.machine l.fn.steps l.machine l.steps;
  targets : IsTrue (list_all is_target (map expression_of (drop l.target-index l.targets)));
}

abbrev pub invariant-statements::run_delete-loop-e : goal.invariant-statements::run_delete-loop-e
invariant-statements::run_delete-loop-e g l = record {
  told : delete_all (call l.calls_left) (map expression_of l.places) (moment_of l.fn.machine) ≡ delete_all (call l.calls_left) (map expression_of (drop l.e-index l.places)) (moment_of l.machine);
  height : of_list (map expression_of (drop l.e-index l.places)) ≤ of_list (map expression_of l.places);
  fits : ListFits (map expression_of (drop l.e-index l.places));
  kept : GrownBy 0 l.fn.machine l.fn.steps l.machine l.steps;
  reads : ReadsBy 0 l.fn.machine l.fn.steps l.machine l.steps;
}

abbrev pub invariant-statements::run_all-loop-statement : goal.invariant-statements::run_all-loop-statement
invariant-statements::run_all-loop-statement g l = record {
  told : acts (call l.calls_left) (statements_of l.body) (moment_of l.fn.machine) ≡ acts (call l.calls_left) (statements_of (drop l.statement-index l.body)) (moment_of l.machine);
  height : of_statements (statements_of (drop l.statement-index l.body)) ≤ of_statements (statements_of l.body);
  fits : StatementsFit (statements_of (drop l.statement-index l.body));
  kept : GrownBy 0 l.fn.machine l.fn.steps l.machine l.steps;
  reads : ReadsBy 0 l.fn.machine l.fn.steps l.machine l.steps;
}

abbrev pub invariant-statements::run_choice-loop-arm : goal.invariant-statements::run_choice-loop-arm
invariant-statements::run_choice-loop-arm g l = record {
  told : act (call l.calls_left) (t.choose (arms_of l.arms) (statements_of l.other)) (moment_of l.fn.machine) ≡ act (call l.calls_left) (t.choose (arms_of (drop l.arm-index l.arms)) (statements_of l.other)) (moment_of l.machine);
  height : of_arms (arms_of (drop l.arm-index l.arms)) ≤ of_arms (arms_of l.arms);
  fits : ArmsFit (arms_of (drop l.arm-index l.arms));
  kept : GrownBy 0 l.fn.machine l.fn.steps l.machine l.steps;
  reads : ReadsBy 0 l.fn.machine l.fn.steps l.machine l.steps;
}

abbrev pub invariant-loops::run_while-loop-value : goal.invariant-loops::run_while-loop-value
invariant-loops::run_while-loop-value g l = record {
  told : (n : ℕ) × (l.machine.budget.left < n) × (act (call l.calls_left) (t.while (expression_of l.test) (statements_of l.body)) (moment_of l.fn.machine) ≡ turns n (expr (call l.calls_left) (expression_of l.test)) (in_block (statements_of l.body) (acts (call l.calls_left) (statements_of l.body))) (moment_of l.machine));
  kept : GrownBy 0 l.fn.machine l.fn.steps l.machine l.steps;
  reads : ReadsBy 0 l.fn.machine l.fn.steps l.machine l.steps;
}

abbrev pub decreases-loops::run_while-loop-value : goal.decreases-loops::run_while-loop-value
decreases-loops::run_while-loop-value g l = l.machine.budget.left

abbrev pub invariant-loops::run_turns-loop-item : goal.invariant-loops::run_turns-loop-item
invariant-loops::run_turns-loop-item g l = record {
  told : (n : ℕ) × (l.machine.budget.left < n) × (walk_along (walk_of l.walk) (λ v. store (call l.calls_left) (expression_of l.target) v >> in_block (statements_of l.body) (acts (call l.calls_left) (statements_of l.body))) (moment_of l.fn.machine) ≡ walk_on n (walk_of l.walk) l.place (λ v. store (call l.calls_left) (expression_of l.target) v >> in_block (statements_of l.body) (acts (call l.calls_left) (statements_of l.body))) (moment_of l.machine));
  place : l.place + l.machine.budget.left ≤ l.fn.machine.budget.left;
  kept : GrownBy 0 l.fn.machine l.fn.steps l.machine l.steps;
  reads : ReadsBy 0 l.fn.machine l.fn.steps l.machine l.steps;
}

abbrev pub decreases-loops::run_turns-loop-item : goal.decreases-loops::run_turns-loop-item
decreases-loops::run_turns-loop-item g l = l.machine.budget.left

abbrev pub invariant-tries::run_handlers-loop-handler : goal.invariant-tries::run_handlers-loop-handler
invariant-tries::run_handlers-loop-handler g l = record {
  told : handlers (call l.calls_left) (handlers_of l.handlers) (thrown_of l.fn.thrown) (moment_of l.fn.machine) ≡ handlers (call l.calls_left) (handlers_of (drop l.handler-index l.handlers)) (thrown_of l.thrown) (moment_of l.machine);
  height : of_handlers (handlers_of (drop l.handler-index l.handlers)) ≤ of_handlers (handlers_of l.handlers);
  fits : HandlersFit (handlers_of (drop l.handler-index l.handlers));
  kept : GrownBy 0 l.fn.machine l.fn.steps l.machine l.steps;
  reads : ReadsBy 0 l.fn.machine l.fn.steps l.machine l.steps;
  sound : IsTrue (is_sound_thrown (length l.machine.heap) (thrown_of l.thrown));
}

abbrev pub invariant-statements::default_values-loop-default : goal.invariant-statements::default_values-loop-default
invariant-statements::default_values-loop-default g l = record {
  told : defaults (call l.calls_left) (map parameter_of l.params) (moment_of l.fn.machine) ≡ and_then (defaults (call l.calls_left) (map parameter_of (drop l.default-index l.params)) (moment_of l.machine)) (λ vs. give (map value_of l.values.items ++ vs));
  height : of_parameters (map parameter_of (drop l.default-index l.params)) ≤ of_parameters (map parameter_of l.params);
  fits : ParametersFit (map parameter_of (drop l.default-index l.params));
  kept : GrownBy 0 l.fn.machine l.fn.steps l.machine l.steps;
  reads : ReadsBy 0 l.fn.machine l.fn.steps l.machine l.steps;
  count : length l.values.items + with_default (map parameter_of (drop l.default-index l.params)) ≡ with_default (map parameter_of l.params);
  sound : IsTrue (are_sound (length l.machine.heap) (map value_of l.values.items));
}

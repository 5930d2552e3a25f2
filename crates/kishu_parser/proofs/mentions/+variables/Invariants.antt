use Rattle.std.proofs.Common.{◌≡◌, ◌+◌, ◌*◌, ◌≤◌, ℕ, drop, map}
use Rattle.kishu_language.specs.trees.Tree.{expressions, links, operands, pairs, trailers, arguments, expression_of, value_of}
use Rattle.kishu_language.specs.grammar.Refusals.{in_expressions, in_links, in_operands, in_pairs, in_trailers, in_arguments}
use Rattle.kishu_language.specs.trees.Height.{of_expression, of_expressions, of_links, of_operands, of_pairs, of_trailers, of_trailer, of_arguments, of_argument, of_optional}
use Rattle.kishu_language.specs.trees.Parts.{link_of, operand_of, pair_of, trailer_of, argument_of}
use Rattle.kishu_parser.specs.Sets.{names_in, note}
use Rattle.kishu_parser.proofs.mentions.+variables.Given as goal

abbrev pub decreases-add_expr : goal.decreases-add_expr
decreases-add_expr l = 6 * of_expression (expression_of l.e.now)

abbrev pub decreases-add_optional : goal.decreases-add_optional
decreases-add_optional l = 6 * of_optional (value_of l.e.now) + 1

abbrev pub decreases-add_argument : goal.decreases-add_argument
decreases-add_argument l = 6 * of_argument (argument_of l.argument.now) + 2

abbrev pub decreases-add_arguments : goal.decreases-add_arguments
decreases-add_arguments l = 6 * of_arguments (arguments (map argument_of l.arguments.now)) + 3

abbrev pub decreases-add_trailer : goal.decreases-add_trailer
decreases-add_trailer l = 6 * of_trailer (trailer_of l.trailer.now) + 4

abbrev pub decreases-add_trailers : goal.decreases-add_trailers
decreases-add_trailers l = 6 * of_trailers (trailers (map trailer_of l.trailers.now)) + 5

abbrev pub decreases-add_exprs : goal.decreases-add_exprs
decreases-add_exprs l = 6 * of_expressions (expressions (map expression_of l.all.now)) + 1

abbrev pub decreases-add_links : goal.decreases-add_links
decreases-add_links l = 6 * of_links (links (map link_of l.links.now)) + 1

abbrev pub decreases-add_operands : goal.decreases-add_operands
decreases-add_operands l = 6 * of_operands (operands (map operand_of l.operands.now)) + 1

abbrev pub decreases-add_pairs : goal.decreases-add_pairs
decreases-add_pairs l = 6 * of_pairs (pairs (map pair_of l.pairs.now)) + 1

abbrev pub invariant-add_exprs-loop-e : goal.invariant-add_exprs-loop-e
invariant-add_exprs-loop-e l = record {
  told : note (names_in l.fn.seen) (in_expressions (expressions (map expression_of l.all))) ≡ note (names_in l.seen) (in_expressions (expressions (map expression_of (drop l.e-index l.all))));
  height : of_expressions (expressions (map expression_of (drop l.e-index l.all))) ≤ of_expressions (expressions (map expression_of l.all));
}

abbrev pub invariant-add_links-loop-link : goal.invariant-add_links-loop-link
invariant-add_links-loop-link l = record {
  told : note (names_in l.fn.seen) (in_links (links (map link_of l.links))) ≡ note (names_in l.seen) (in_links (links (map link_of (drop l.link-index l.links))));
  height : of_links (links (map link_of (drop l.link-index l.links))) ≤ of_links (links (map link_of l.links));
}

abbrev pub invariant-add_operands-loop-operand : goal.invariant-add_operands-loop-operand
invariant-add_operands-loop-operand l = record {
  told : note (names_in l.fn.seen) (in_operands (operands (map operand_of l.operands))) ≡ note (names_in l.seen) (in_operands (operands (map operand_of (drop l.operand-index l.operands))));
  height : of_operands (operands (map operand_of (drop l.operand-index l.operands))) ≤ of_operands (operands (map operand_of l.operands));
}

abbrev pub invariant-add_pairs-loop-pair : goal.invariant-add_pairs-loop-pair
invariant-add_pairs-loop-pair l = record {
  told : note (names_in l.fn.seen) (in_pairs (pairs (map pair_of l.pairs))) ≡ note (names_in l.seen) (in_pairs (pairs (map pair_of (drop l.pair-index l.pairs))));
  height : of_pairs (pairs (map pair_of (drop l.pair-index l.pairs))) ≤ of_pairs (pairs (map pair_of l.pairs));
}

abbrev pub invariant-add_trailers-loop-trailer : goal.invariant-add_trailers-loop-trailer
invariant-add_trailers-loop-trailer l = record {
  told : note (names_in l.fn.seen) (in_trailers (trailers (map trailer_of l.trailers))) ≡ note (names_in l.seen) (in_trailers (trailers (map trailer_of (drop l.trailer-index l.trailers))));
  height : of_trailers (trailers (map trailer_of (drop l.trailer-index l.trailers))) ≤ of_trailers (trailers (map trailer_of l.trailers));
}

abbrev pub invariant-add_arguments-loop-argument : goal.invariant-add_arguments-loop-argument
invariant-add_arguments-loop-argument l = record {
  told : note (names_in l.fn.seen) (in_arguments (arguments (map argument_of l.arguments))) ≡ note (names_in l.seen) (in_arguments (arguments (map argument_of (drop l.argument-index l.arguments))));
  height : of_arguments (arguments (map argument_of (drop l.argument-index l.arguments))) ≤ of_arguments (arguments (map argument_of l.arguments));
}

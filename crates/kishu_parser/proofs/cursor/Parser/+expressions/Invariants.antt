use Rattle.std.proofs.Common.{◌≡◌, [], ◌∷◌, ◌++◌, ℕ, ◌+◌, ◌-◌, ◌*◌}
use Rattle.kishu_language.specs.declared.token.Mark.TheVariants as m
use Rattle.kishu_language.specs.trees.Tree.{expression_of}
use Rattle.kishu_language.specs.grammar.Grammar as g
use Rattle.kishu_language.specs.reading.Reader as reader
use Rattle.kishu_language.specs.reading.ReadExpressions as spec
use Rattle.kishu_parser.specs.Views.{left}
use Rattle.kishu_parser.specs.Trees as views
use Rattle.kishu_language.specs.trees.Parts as tree_parts
use Rattle.kishu_parser.specs.Turns as turns
use Rattle.kishu_parser.proofs.cursor.Parser.+expressions.Given as goal

abbrev pub decreases-nested : goal.decreases-nested
decreases-nested l = 40 * l.room

abbrev pub decreases-bound : goal.decreases-bound
decreases-bound l = 40 * l.room + 1

abbrev pub decreases-step : goal.decreases-step
decreases-step l = 40 * l.room + 2

abbrev pub decreases-slice_after : goal.decreases-slice_after
decreases-slice_after l = 40 * l.room + 3

abbrev pub decreases-between_brackets : goal.decreases-between_brackets
decreases-between_brackets l = 40 * l.room + 4

abbrev pub decreases-item_or_slice : goal.decreases-item_or_slice
decreases-item_or_slice l = 40 * l.room + 5

abbrev pub decreases-argument : goal.decreases-argument
decreases-argument l = 40 * l.room + 1

abbrev pub decreases-more_arguments : goal.decreases-more_arguments
decreases-more_arguments l = 40 * l.room + 2

abbrev pub decreases-arguments : goal.decreases-arguments
decreases-arguments l = 40 * l.room + 3

abbrev pub decreases-call : goal.decreases-call
decreases-call l = 40 * l.room + 4

abbrev pub decreases-trailer : goal.decreases-trailer
decreases-trailer l = 40 * l.room + 6

abbrev pub decreases-trailers : goal.decreases-trailers
decreases-trailers l = 40 * l.room + 7

abbrev pub decreases-pair : goal.decreases-pair
decreases-pair l = 40 * l.room + 1

abbrev pub decreases-more_pairs : goal.decreases-more_pairs
decreases-more_pairs l = 40 * l.room + 2

abbrev pub decreases-pairs : goal.decreases-pairs
decreases-pairs l = 40 * l.room + 3

abbrev pub decreases-dict : goal.decreases-dict
decreases-dict l = 40 * l.room + 4

abbrev pub decreases-more_items : goal.decreases-more_items
decreases-more_items l = 40 * l.room + 1

abbrev pub decreases-items : goal.decreases-items
decreases-items l = 40 * l.room + 2

abbrev pub decreases-list : goal.decreases-list
decreases-list l = 40 * l.room + 3

abbrev pub decreases-parenthesised : goal.decreases-parenthesised
decreases-parenthesised l = 40 * l.room + 1

abbrev pub decreases-bracketed_atom : goal.decreases-bracketed_atom
decreases-bracketed_atom l = 40 * l.room + 5

abbrev pub decreases-atom : goal.decreases-atom
decreases-atom l = 40 * l.room + 6

abbrev pub decreases-primary : goal.decreases-primary
decreases-primary l = 40 * l.room + 8

abbrev pub decreases-power : goal.decreases-power
decreases-power l = 40 * l.room + 9

abbrev pub decreases-unary_level : goal.decreases-unary_level
decreases-unary_level l = 40 * l.room + 10

abbrev pub decreases-factors : goal.decreases-factors
decreases-factors l = 40 * l.room + 11

abbrev pub decreases-term : goal.decreases-term
decreases-term l = 40 * l.room + 12

abbrev pub decreases-terms : goal.decreases-terms
decreases-terms l = 40 * l.room + 13

abbrev pub decreases-sum : goal.decreases-sum
decreases-sum l = 40 * l.room + 14

abbrev pub decreases-links : goal.decreases-links
decreases-links l = 40 * l.room + 15

abbrev pub decreases-compared : goal.decreases-compared
decreases-compared l = 40 * l.room + 16

abbrev pub decreases-negated_level : goal.decreases-negated_level
decreases-negated_level l = 40 * l.room + 17

abbrev pub decreases-negations : goal.decreases-negations
decreases-negations l = 40 * l.room + 18

abbrev pub decreases-conjunction : goal.decreases-conjunction
decreases-conjunction l = 40 * l.room + 19

abbrev pub decreases-conjunctions : goal.decreases-conjunctions
decreases-conjunctions l = 40 * l.room + 20

abbrev pub decreases-disjunction : goal.decreases-disjunction
decreases-disjunction l = 40 * l.room + 21

abbrev pub decreases-expr_level : goal.decreases-expr_level
decreases-expr_level l = 40 * l.room + 22

abbrev pub decreases-more_exprs : goal.decreases-more_exprs
decreases-more_exprs l = 40 * l.room + 23

abbrev pub decreases-exprs_level : goal.decreases-exprs_level
decreases-exprs_level l = 40 * l.room + 24

abbrev pub invariant-more_exprs-loop-turn : goal.invariant-more_exprs-loop-turn
invariant-more_exprs-loop-turn l = reader.turns (spec.another m.Comma) (turns.more_turn m.Comma (spec.expr_level (g.has_room l.room) (spec.phrase l.room))) (expression_of l.fn.first ∷ []) (left l.self.tokens.now l.fn.at)
    ≡ reader.climb (spec.another m.Comma) (turns.more_turn m.Comma (spec.expr_level (g.has_room l.room) (spec.phrase l.room))) (l._turn-end - l._turn) (views.expressions_in l.all) (left l.self.tokens.now l.at)

abbrev pub invariant-conjunctions-loop-turn : goal.invariant-conjunctions-loop-turn
invariant-conjunctions-loop-turn l = reader.turns (reader.sees m.Or) (reader.one_more (spec.operation (spec.conjunction (g.has_room l.room) (spec.phrase l.room)) (reader.mark m.Or))) [] (left l.self.tokens.now l.fn.at)
    ≡ reader.climb (reader.sees m.Or) (reader.one_more (spec.operation (spec.conjunction (g.has_room l.room) (spec.phrase l.room)) (reader.mark m.Or))) (l._turn-end - l._turn) (views.joined_in l.all) (left l.self.tokens.now l.at)

abbrev pub invariant-negations-loop-turn : goal.invariant-negations-loop-turn
invariant-negations-loop-turn l = reader.turns (reader.sees m.And) (reader.one_more (spec.operation (spec.negated_level (g.has_room l.room) (spec.phrase l.room)) (reader.mark m.And))) [] (left l.self.tokens.now l.fn.at)
    ≡ reader.climb (reader.sees m.And) (reader.one_more (spec.operation (spec.negated_level (g.has_room l.room) (spec.phrase l.room)) (reader.mark m.And))) (l._turn-end - l._turn) (views.joined_in l.all) (left l.self.tokens.now l.at)

abbrev pub invariant-links-loop-turn : goal.invariant-links-loop-turn
invariant-links-loop-turn l = reader.turns (reader.sees_one spec.begins_comparison) (reader.one_more (spec.operation (spec.sum (g.has_room l.room) (spec.phrase l.room)) spec.comparison)) [] (left l.self.tokens.now l.fn.at)
    ≡ reader.climb (reader.sees_one spec.begins_comparison) (reader.one_more (spec.operation (spec.sum (g.has_room l.room) (spec.phrase l.room)) spec.comparison)) (l._turn-end - l._turn) (views.links_in l.links) (left l.self.tokens.now l.at)

abbrev pub invariant-terms-loop-turn : goal.invariant-terms-loop-turn
invariant-terms-loop-turn l = reader.turns (reader.sees_one g.sum_operator) (reader.one_more (spec.operation (spec.term (g.has_room l.room) (spec.phrase l.room)) (reader.one_of g.sum_operator))) [] (left l.self.tokens.now l.fn.at)
    ≡ reader.climb (reader.sees_one g.sum_operator) (reader.one_more (spec.operation (spec.term (g.has_room l.room) (spec.phrase l.room)) (reader.one_of g.sum_operator))) (l._turn-end - l._turn) (views.operands_in l.all) (left l.self.tokens.now l.at)

abbrev pub invariant-factors-loop-turn : goal.invariant-factors-loop-turn
invariant-factors-loop-turn l = reader.turns (reader.sees_one g.product_operator) (reader.one_more (spec.operation (spec.unary_level (g.has_room l.room) (spec.phrase l.room)) (reader.one_of g.product_operator))) [] (left l.self.tokens.now l.fn.at)
    ≡ reader.climb (reader.sees_one g.product_operator) (reader.one_more (spec.operation (spec.unary_level (g.has_room l.room) (spec.phrase l.room)) (reader.one_of g.product_operator))) (l._turn-end - l._turn) (views.operands_in l.all) (left l.self.tokens.now l.at)

abbrev pub invariant-trailers-loop-turn : goal.invariant-trailers-loop-turn
invariant-trailers-loop-turn l = reader.turns (reader.sees_one spec.begins_trailer) (reader.one_more (spec.trailer (g.has_room l.room) (spec.phrase l.room))) [] (left l.self.tokens.now l.fn.at)
    ≡ reader.climb (reader.sees_one spec.begins_trailer) (reader.one_more (spec.trailer (g.has_room l.room) (spec.phrase l.room))) (l._turn-end - l._turn) (views.trailers_in l.all) (left l.self.tokens.now l.at)

abbrev pub invariant-more_items-loop-turn : goal.invariant-more_items-loop-turn
invariant-more_items-loop-turn l = reader.turns (spec.another m.Comma) (turns.more_turn m.Comma (spec.phrase l.room g.expr)) (expression_of l.fn.first ∷ []) (left l.self.tokens.now l.fn.at)
    ≡ reader.climb (spec.another m.Comma) (turns.more_turn m.Comma (spec.phrase l.room g.expr)) (l._turn-end - l._turn) (views.expressions_in l.all) (left l.self.tokens.now l.at)

abbrev pub invariant-more_pairs-loop-turn : goal.invariant-more_pairs-loop-turn
invariant-more_pairs-loop-turn l = reader.turns (spec.another m.Comma) (turns.more_turn m.Comma (spec.pair (spec.phrase l.room))) (views.both_of l.fn.first ∷ []) (left l.self.tokens.now l.fn.at)
    ≡ reader.climb (spec.another m.Comma) (turns.more_turn m.Comma (spec.pair (spec.phrase l.room))) (l._turn-end - l._turn) (views.pairs_in l.all) (left l.self.tokens.now l.at)

abbrev pub invariant-more_arguments-loop-turn : goal.invariant-more_arguments-loop-turn
invariant-more_arguments-loop-turn l = reader.turns (spec.another m.Comma) (turns.more_turn m.Comma (spec.argument (spec.phrase l.room))) (tree_parts.argument_of l.fn.first ∷ []) (left l.self.tokens.now l.fn.at)
    ≡ reader.climb (spec.another m.Comma) (turns.more_turn m.Comma (spec.argument (spec.phrase l.room))) (l._turn-end - l._turn) (views.arguments_in l.all) (left l.self.tokens.now l.at)

use Rattle.std.proofs.Common.{◌≡◌, [], ◌∷◌, ◌++◌, ℕ, ◌+◌, ◌-◌, ◌*◌}
use Rattle.std.specs.Rc.{rc_str_bytes}
use Rattle.kishu_language.specs.declared.token.Mark.TheVariants as m
use Rattle.kishu_language.specs.trees.Tree.{expression_of, statement_of, parameter_of}
use Rattle.kishu_language.specs.reading.Reader as reader
use Rattle.kishu_language.specs.reading.ReadExpressions as expressions
use Rattle.kishu_language.specs.reading.ReadStatements as spec
use Rattle.kishu_parser.specs.Views.{left}
use Rattle.kishu_parser.specs.Turns as turns
use Rattle.kishu_language.specs.trees.Parts as tree_parts
use Rattle.kishu_parser.specs.Statements as lines
use Rattle.kishu_parser.proofs.cursor.Parser.+blocks.Given as goal

abbrev pub decreases-chunk : goal.decreases-chunk
decreases-chunk l = 20 * l.room

abbrev pub decreases-more_chunks : goal.decreases-more_chunks
decreases-more_chunks l = 20 * l.room + 1

abbrev pub decreases-block : goal.decreases-block
decreases-block l = 20 * l.room + 2

abbrev pub decreases-block_after : goal.decreases-block_after
decreases-block_after l = 20 * l.room + 3

abbrev pub decreases-arm : goal.decreases-arm
decreases-arm l = 20 * l.room + 3

abbrev pub decreases-more_arms : goal.decreases-more_arms
decreases-more_arms l = 20 * l.room + 4

abbrev pub decreases-choice : goal.decreases-choice
decreases-choice l = 20 * l.room + 5

abbrev pub decreases-while_ : goal.decreases-while_
decreases-while_ l = 20 * l.room + 4

abbrev pub decreases-for_ : goal.decreases-for_
decreases-for_ l = 20 * l.room + 3

abbrev pub decreases-handler : goal.decreases-handler
decreases-handler l = 20 * l.room + 3

abbrev pub decreases-more_handlers : goal.decreases-more_handlers
decreases-more_handlers l = 20 * l.room + 4

abbrev pub decreases-finished : goal.decreases-finished
decreases-finished l = 20 * l.room + 3

abbrev pub decreases-handled : goal.decreases-handled
decreases-handled l = 20 * l.room + 5

abbrev pub decreases-try_ : goal.decreases-try_
decreases-try_ l = 20 * l.room + 6

abbrev pub decreases-definition : goal.decreases-definition
decreases-definition l = 20 * l.room + 3

abbrev pub decreases-define : goal.decreases-define
decreases-define l = 20 * l.room + 4

abbrev pub decreases-compound : goal.decreases-compound
decreases-compound l = 20 * l.room + 7

abbrev pub invariant-more_chunks-loop-turn : goal.invariant-more_chunks-loop-turn
invariant-more_chunks-loop-turn l = reader.turns lines.sees_chunk (lines.chunk_turn (spec.chunk l.self.source.now l.room (lines.around_of l.around))) (lines.statements_in l.fn.first) (left l.self.tokens.now l.fn.at)
    ≡ reader.climb lines.sees_chunk (lines.chunk_turn (spec.chunk l.self.source.now l.room (lines.around_of l.around))) (l._turn-end - l._turn) (lines.statements_in l.all) (left l.self.tokens.now l.at)

abbrev pub invariant-more_arms-loop-turn : goal.invariant-more_arms-loop-turn
invariant-more_arms-loop-turn l = reader.turns (reader.sees m.Elif) (turns.more_turn m.Elif (spec.arm l.self.source.now l.room (spec.chunk l.self.source.now l.room) (lines.around_of l.around))) (tree_parts.arm_of l.fn.first ∷ []) (left l.self.tokens.now l.fn.at)
    ≡ reader.climb (reader.sees m.Elif) (turns.more_turn m.Elif (spec.arm l.self.source.now l.room (spec.chunk l.self.source.now l.room) (lines.around_of l.around))) (l._turn-end - l._turn) (lines.arms_in l.arms) (left l.self.tokens.now l.at)

abbrev pub invariant-more_handlers-loop-turn : goal.invariant-more_handlers-loop-turn
invariant-more_handlers-loop-turn l = reader.turns (reader.sees m.Except) (reader.one_more (spec.handler l.self.source.now l.room (spec.chunk l.self.source.now l.room) (lines.around_of l.around))) (tree_parts.handler_of l.fn.first ∷ []) (left l.self.tokens.now l.fn.at)
    ≡ reader.climb (reader.sees m.Except) (reader.one_more (spec.handler l.self.source.now l.room (spec.chunk l.self.source.now l.room) (lines.around_of l.around))) (l._turn-end - l._turn) (lines.handlers_in l.all) (left l.self.tokens.now l.at)

use Rattle.std.proofs.Common.{◌≡◌, [], ◌∷◌, ◌-◌}
use Rattle.kishu_language.specs.declared.token.Mark.TheVariants as m
use Rattle.kishu_language.specs.trees.Tree.{statement_of}
use Rattle.kishu_language.specs.reading.Reader as reader
use Rattle.kishu_language.specs.reading.ReadStatements as spec
use Rattle.kishu_parser.specs.Views.{left}
use Rattle.kishu_parser.specs.Turns as turns
use Rattle.kishu_parser.specs.Statements as lines
use Rattle.kishu_parser.proofs.cursor.Parser.more_simples.Given as goal

abbrev pub invariant-loop-turn : goal.invariant-loop-turn
invariant-loop-turn l = reader.turns spec.another_simple (turns.more_turn m.Semicolon (spec.simple (lines.around_of l.around) l.room)) (statement_of l.fn.first ∷ []) (left l.self.tokens.now l.fn.at)
    ≡ reader.climb spec.another_simple (turns.more_turn m.Semicolon (spec.simple (lines.around_of l.around) l.room)) (l._turn-end - l._turn) (lines.statements_in l.all) (left l.self.tokens.now l.at)

use Rattle.std.proofs.Common.{◌≡◌, [], ◌∷◌, ◌++◌, ℕ, ◌+◌, ◌-◌, ◌*◌}
use Rattle.std.specs.Rc.{rc_str_bytes}
use Rattle.kishu_language.specs.declared.token.Mark.TheVariants as m
use Rattle.kishu_language.specs.trees.Tree.{expression_of, statement_of, parameter_of}
use Rattle.kishu_language.specs.reading.Reader as reader
use Rattle.kishu_language.specs.reading.ReadExpressions as expressions
use Rattle.kishu_language.specs.reading.ReadStatements as spec
use Rattle.kishu_parser.specs.Views.{left}
use Rattle.kishu_parser.specs.Turns as turns
use Rattle.kishu_parser.specs.Statements as lines
use Rattle.kishu_parser.proofs.cursor.Parser.more_parameters.Given as goal

abbrev pub invariant-loop-turn : goal.invariant-loop-turn
invariant-loop-turn l = reader.turns (expressions.another m.Comma) (turns.more_turn m.Comma (lines.parameter l.room)) (parameter_of l.fn.first ∷ []) (left l.self.tokens.now l.fn.at)
    ≡ reader.climb (expressions.another m.Comma) (turns.more_turn m.Comma (lines.parameter l.room)) (l._turn-end - l._turn) (lines.parameters_in l.all) (left l.self.tokens.now l.at)

use Rattle.std.proofs.Common.{◌≡◌, [], ◌-◌}
use Rattle.kishu_language.specs.declared.token.Mark.TheVariants as m
use Rattle.kishu_language.specs.trees.Tree.{expression_of}
use Rattle.kishu_language.specs.reading.Reader as reader
use Rattle.kishu_language.specs.reading.ReadStatements as spec
use Rattle.kishu_parser.specs.Views.{left}
use Rattle.kishu_parser.specs.Statements as lines
use Rattle.kishu_parser.proofs.cursor.Parser.assigned.Given as goal

abbrev pub invariant-loop-turn : goal.invariant-loop-turn
invariant-loop-turn l = reader.turns (reader.sees m.Assign) (spec.assign_turn lines.anywhere l.room) ([], expression_of l.fn.first) (left l.self.tokens.now l.fn.at)
    ≡ reader.climb (reader.sees m.Assign) (spec.assign_turn lines.anywhere l.room) (l._turn-end - l._turn) (lines.assigned_of (l.targets, l.value)) (left l.self.tokens.now l.at)

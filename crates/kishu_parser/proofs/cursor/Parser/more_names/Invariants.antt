use Rattle.std.proofs.Common.{◌≡◌, [], ◌∷◌, ◌-◌}
use Rattle.std.specs.Rc.{rc_str_bytes}
use Rattle.kishu_language.specs.declared.token.Mark.TheVariants as m
use Rattle.kishu_language.specs.reading.Reader as reader
use Rattle.kishu_language.specs.reading.ReadExpressions as expressions
use Rattle.kishu_parser.specs.Views.{left}
use Rattle.kishu_parser.specs.Trees as views
use Rattle.kishu_parser.specs.Turns as turns
use Rattle.kishu_parser.proofs.cursor.Parser.more_names.Given as goal

abbrev pub invariant-loop-turn : goal.invariant-loop-turn
invariant-loop-turn l = reader.turns (expressions.another m.Comma) (turns.more_turn m.Comma (reader.token reader.a_name)) (rc_str_bytes l.fn.first ∷ []) (left l.self.tokens.now l.fn.at)
    ≡ reader.climb (expressions.another m.Comma) (turns.more_turn m.Comma (reader.token reader.a_name)) (l._turn-end - l._turn) (views.texts_in l.all) (left l.self.tokens.now l.at)

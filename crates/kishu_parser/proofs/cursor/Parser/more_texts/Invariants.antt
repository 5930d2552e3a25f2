use Rattle.std.proofs.Common.{◌≡◌, [], ◌∷◌, ◌-◌}
use Rattle.std.specs.Rc.{rc_str_bytes}
use Rattle.kishu_language.specs.reading.Reader as reader
use Rattle.kishu_parser.specs.Views.{left}
use Rattle.kishu_parser.specs.Trees as views
use Rattle.kishu_parser.proofs.cursor.Parser.more_texts.Given as goal

abbrev pub invariant-loop-turn : goal.invariant-loop-turn
invariant-loop-turn l = reader.turns (reader.sees_some reader.a_text) (reader.one_more (reader.token reader.a_text)) (rc_str_bytes l.fn.first ∷ []) (left l.self.tokens.now l.fn.at)
    ≡ reader.climb (reader.sees_some reader.a_text) (reader.one_more (reader.token reader.a_text)) (l._turn-end - l._turn) (views.texts_in l.all) (left l.self.tokens.now l.at)

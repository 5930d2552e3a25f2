use Rattle.std.proofs.Common.{◌≡◌, ◌-◌, [], length, map}
use Rattle.kishu_parser.specs.TopLevel.{lined, piece_of}
use Rattle.kishu_parser.specs.Views.{left, tokens_of}
use Rattle.kishu_parser.proofs.cursor.Parser.lined_pieces.Given as goal

abbrev pub invariant-loop-turn : goal.invariant-loop-turn
invariant-loop-turn l = lined l.self.source.now (length (tokens_of l.self.tokens.now)) [] (tokens_of l.self.tokens.now)
    ≡ lined l.self.source.now (l._turn-end - l._turn) (map piece_of l.all.items) (left l.self.tokens.now l.at)

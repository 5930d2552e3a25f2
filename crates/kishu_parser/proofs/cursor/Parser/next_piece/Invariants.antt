use Rattle.std.proofs.Common.{◌≡◌, ◌-◌, ◌≤◌, length}
use Rattle.kishu_language.specs.grammar.Pieces as spec
use Rattle.kishu_parser.specs.Views.{left}
use Rattle.kishu_parser.proofs.cursor.Parser.next_piece.Given as goal

abbrev pub invariant-loop-turn : goal.invariant-loop-turn
invariant-loop-turn l = record {
  same : spec.next_piece (left l.self.tokens.now l.fn.at) ≡ spec.piece_rest (left l.self.tokens.now l.next) l.blocks;
  count : l._turn-end - l._turn ≡ length (left l.self.tokens.now l.next);
  few : l.blocks ≤ l._turn;
}

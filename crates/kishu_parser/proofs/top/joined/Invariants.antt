use Rattle.std.proofs.Common.{◌≡◌, ◌++◌, map}
use Rattle.kishu_parser.specs.Statements as lines
use Rattle.kishu_parser.specs.TopLevel.{piece_of}
use Rattle.kishu_parser.specs.TopLaws.{statements_of}
use Rattle.kishu_parser.proofs.top.joined.Given as goal

abbrev pub invariant-loop-piece : goal.invariant-loop-piece
invariant-loop-piece l = statements_of (map piece_of l.fn.pieces.items) ≡ lines.statements_in l.all ++ statements_of (map piece_of l.piece-iterator.rest.items)

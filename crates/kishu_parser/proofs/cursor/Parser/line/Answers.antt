use Rattle.kishu_parser.specs.Views.{left}
use Rattle.kishu_parser.specs.Statements.{around_of}
use Rattle.kishu_parser.proofs.Counts.{line_opens}
use Rattle.kishu_parser.proofs.cursor.Parser.line.Goals as goal

pub returns : goal.returns
returns c = rw (line_opens (around_of c.args.around) c.args.room (left c.args.self.now.tokens.now c.args.at.now) c.if-room-eq0.false) c.simples.ensures

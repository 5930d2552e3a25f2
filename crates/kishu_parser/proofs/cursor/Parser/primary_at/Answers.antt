use Rattle.kishu_parser.specs.Views.{left}
use Rattle.kishu_parser.proofs.Counts.{primary_opens}
use Rattle.kishu_parser.proofs.cursor.Parser.primary_at.Goals as goal

pub returns : goal.returns
returns c = rw (primary_opens c.args.room (left c.args.self.now.tokens.now c.args.at.now) c.if-room-eq0.false) c.primary.ensures

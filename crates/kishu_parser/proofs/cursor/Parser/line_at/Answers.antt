use Rattle.std.proofs.Common.{sym}
use Rattle.std.proofs.lemmas.Bool.{ltb-true, ltb-false}
use Rattle.kishu_parser.proofs.Fronts.{line_is, no_line}
use Rattle.kishu_parser.proofs.cursor.Parser.line_at.Goals as goal

pub returns-in-Some : goal.returns-in-Some
returns-in-Some c = line_is c.args.self.now.tokens.now c.args.at c.in-Some.token.now (ltb-true _ _ (sym c.in-Some.ensures.lookup.0)) c.in-Some.ensures.lookup.1

pub returns-in-None : goal.returns-in-None
returns-in-None c = no_line c.args.self.now.tokens.now c.args.at (ltb-false _ _ (sym c.in-None.ensures.lookup.0))

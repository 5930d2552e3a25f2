use Rattle.std.proofs.Common.{sym, ◌-◌}
use Rattle.std.proofs.Common.{take, drop}
use Rattle.kishu_parser.proofs.Codes.{placed_take, placed_drop, part_is}
use Rattle.kishu_parser.proofs.cursor.Parser.code_between.Goals as goal

pub code_of-requires : goal.code_of-requires
code_of-requires c =
    placed_take c.args.self.now.source.now (c.min-end.result - c.min-begin.result) (drop c.min-begin.result c.args.self.now.tokens.now) (placed_drop c.args.self.now.source.now c.min-begin.result c.args.self.now.tokens.now c.requires)

pub returns : goal.returns
returns c = rw (sym (part_is c.args.self.now.tokens.now c.args.from c.args.to c.min-begin.result c.min-end.result c.min-end.ensures c.min-begin.ensures)) c.code_of.ensures

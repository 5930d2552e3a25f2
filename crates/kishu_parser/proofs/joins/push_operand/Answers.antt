use Rattle.kishu_language.specs.trees.Parts.{operand_of}
use Rattle.kishu_language.specs.trees.Rows.{operand_is}
use Rattle.kishu_parser.proofs.Parts.{pushed}
use Rattle.kishu_parser.proofs.joins.push_operand.Goals as goal

pub returns : goal.returns
returns c = pushed operand_of _ _ _ _ c.in_ok-push.ensures.items (operand_is c.args.operator c.args.value)

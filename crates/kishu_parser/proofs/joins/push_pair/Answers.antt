use Rattle.kishu_language.specs.trees.Parts.{pair_of}
use Rattle.kishu_language.specs.trees.Rows.{pair_is}
use Rattle.kishu_parser.proofs.Parts.{pushed}
use Rattle.kishu_parser.proofs.joins.push_pair.Goals as goal

pub returns : goal.returns
returns c = pushed pair_of _ _ _ _ c.in_ok-push.ensures.items (pair_is c.args.key c.args.value)

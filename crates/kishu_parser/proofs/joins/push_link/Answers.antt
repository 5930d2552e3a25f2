use Rattle.kishu_language.specs.trees.Parts.{link_of}
use Rattle.kishu_language.specs.trees.Rows.{link_is}
use Rattle.kishu_parser.proofs.Parts.{pushed}
use Rattle.kishu_parser.proofs.joins.push_link.Goals as goal

pub returns : goal.returns
returns c = pushed link_of _ _ _ _ c.in_ok-push.ensures.items (link_is c.args.comparison c.args.value)

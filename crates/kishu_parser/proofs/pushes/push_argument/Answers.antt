use Rattle.std.proofs.Common.{refl}
use Rattle.kishu_language.specs.trees.Parts.{argument_of}
use Rattle.kishu_parser.proofs.Parts.{pushed}
use Rattle.kishu_parser.proofs.pushes.push_argument.Goals as goal

pub returns : goal.returns
returns c = pushed argument_of _ _ _ _ c.in_ok-push.ensures.items refl

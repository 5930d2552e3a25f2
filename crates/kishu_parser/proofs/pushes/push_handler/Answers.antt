use Rattle.std.proofs.Common.{refl}
use Rattle.kishu_language.specs.trees.Parts.{handler_of}
use Rattle.kishu_parser.proofs.Parts.{pushed}
use Rattle.kishu_parser.proofs.pushes.push_handler.Goals as goal

pub returns : goal.returns
returns c = pushed handler_of _ _ _ _ c.in_ok-push.ensures.items refl

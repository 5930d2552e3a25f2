use Rattle.std.proofs.Common.{refl}
use Rattle.kishu_language.specs.trees.Parts.{arm_of}
use Rattle.kishu_parser.proofs.Parts.{pushed}
use Rattle.kishu_parser.proofs.pushes.push_arm.Goals as goal

pub returns : goal.returns
returns c = pushed arm_of _ _ _ _ c.in_ok-push.ensures.items refl

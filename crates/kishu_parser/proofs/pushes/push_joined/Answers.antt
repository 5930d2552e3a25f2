use Rattle.std.proofs.Common.{refl}
use Rattle.kishu_language.specs.trees.Tree.{expression_of}
use Rattle.kishu_parser.proofs.Parts.{pushed}
use Rattle.kishu_parser.proofs.pushes.push_joined.Goals as goal

pub returns : goal.returns
returns c = pushed (λ e. (tt, expression_of e)) _ _ _ _ c.in_ok-push.ensures.items refl

use Rattle.std.proofs.Common.{refl}
use Rattle.std.specs.Rc.{rc_str_bytes}
use Rattle.kishu_parser.proofs.Parts.{pushed}
use Rattle.kishu_parser.proofs.pushes.push_text.Goals as goal

pub returns : goal.returns
returns c = pushed rc_str_bytes _ _ _ _ c.in_ok-push.ensures.items refl

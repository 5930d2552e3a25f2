use Rattle.std.proofs.Common.{◌∙◌, ap, length}
use Rattle.kishu_methods.proofs.Changes.{length_changed}
use Rattle.kishu_methods.proofs.dicts.set_new.Goals as goal

pub returns-clause-long : goal.returns-clause-long
returns-clause-long c = ap length c.in_ok-insert.ensures.ok ∙ length_changed _ _ _

use Rattle.std.proofs.Common.{refl, ◌∙◌}
use Rattle.kishu_store.specs.Holds.{header}
use Rattle.kishu_journal.proofs.Anew.{anew}
use Rattle.kishu_journal.proofs.opening.begin.Goals as goal

pub returns-clause-fresh : goal.returns-clause-fresh
unfolding header
returns-clause-fresh g c told = c.sync.ensures.keeps.file ∙ c.in_ok-write_at.ensures.written told ∙ anew _ _ refl (c.requires told)

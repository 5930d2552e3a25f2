use Rattle.kishu_machine.proofs.names.set_copied.Goals as goal

pub returns-clause-ok : goal.returns-clause-ok
returns-clause-ok c = rw c.in_ok-clone.ensures.cases at c.set.ensures.ok

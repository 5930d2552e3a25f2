use Rattle.kishu_commit.specs.AttachedLaws.{accesses-leave, told-attached, recorded-attached}
use Rattle.kishu_commit.proofs.laws.sessions_stay_attached.Goals as goal

pub returns-clause-leaves : goal.returns-clause-leaves
returns-clause-leaves c = accesses-leave

pub returns-clause-cells : goal.returns-clause-cells
returns-clause-cells c = told-attached

pub returns-clause-recorded : goal.returns-clause-recorded
returns-clause-recorded c = recorded-attached

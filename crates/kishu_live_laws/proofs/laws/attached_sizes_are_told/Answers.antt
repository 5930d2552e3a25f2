use Rattle.kishu_live_laws.specs.Told.{told_size, ran_told}
use Rattle.kishu_live_laws.proofs.laws.attached_sizes_are_told.Goals as goal

pub returns-clause-size : goal.returns-clause-size
returns-clause-size c = told_size

pub returns-clause-ran : goal.returns-clause-ran
returns-clause-ran c = ran_told

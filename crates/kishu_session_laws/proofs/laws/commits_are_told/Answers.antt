use Rattle.kishu_session_laws.specs.RunLaws.{told_drops, told_stores}
use Rattle.kishu_session_laws.proofs.laws.commits_are_told.Goals as goal

pub returns-clause-dropped : goal.returns-clause-dropped
returns-clause-dropped c = told_drops

pub returns-clause-stored : goal.returns-clause-stored
returns-clause-stored c = told_stores

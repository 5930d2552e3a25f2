use Rattle.kishu_commit.specs.LiveLaws.{record-by, table-by, tested-untold}
use Rattle.kishu_commit.proofs.laws.commits_tell_states_by_tests.Goals as goal

pub returns-clause-record : goal.returns-clause-record
returns-clause-record c = record-by

pub returns-clause-table : goal.returns-clause-table
returns-clause-table c = table-by

pub returns-clause-untold : goal.returns-clause-untold
returns-clause-untold c h k cells s u accessed live there leaves same stay dropped stored told can = tested-untold h k cells dropped stored u s accessed same told there leaves can live stay

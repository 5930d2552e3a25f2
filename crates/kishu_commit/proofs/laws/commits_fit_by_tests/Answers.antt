use Rattle.kishu_commit.specs.FitLaws.{tested-fits, tested-follows-at}
use Rattle.kishu_commit.specs.WritingLaws.{tested-fit, tested-record}
use Rattle.kishu_commit.proofs.laws.commits_fit_by_tests.Goals as goal

pub returns-clause-table : goal.returns-clause-table
returns-clause-table c t is s u accessed = tested-fits t is s u accessed

pub returns-clause-follows : goal.returns-clause-follows
returns-clause-follows c = tested-follows-at

pub returns-clause-rules : goal.returns-clause-rules
returns-clause-rules c = tested-record

pub returns-clause-stored : goal.returns-clause-stored
returns-clause-stored c = tested-fit

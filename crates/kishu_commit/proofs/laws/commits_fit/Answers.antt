use Rattle.kishu_commit.specs.FitLaws.{told-fits, told-follows}
use Rattle.kishu_commit.specs.WritingLaws.{told-fit, told-record}
use Rattle.kishu_commit.specs.LengthLaws.{live-names}
use Rattle.kishu_commit.proofs.laws.commits_fit.Goals as goal

pub returns-clause-table : goal.returns-clause-table
returns-clause-table c t is s u accessed = told-fits t is s u accessed

pub returns-clause-follows : goal.returns-clause-follows
returns-clause-follows c = told-follows

pub returns-clause-rules : goal.returns-clause-rules
returns-clause-rules c = told-record

pub returns-clause-names : goal.returns-clause-names
returns-clause-names c = live-names

pub returns-clause-stored : goal.returns-clause-stored
returns-clause-stored c t s u accessed = told-fit t s accessed u

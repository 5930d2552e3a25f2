use Rattle.kishu_commit.specs.LiveLaws.{record-told, told-table, live-untold, live-held}
use Rattle.kishu_commit.specs.RecordedLaws.{recorded-live}
use Rattle.kishu_commit.proofs.laws.commits_tell_states.Goals as goal

pub returns-clause-record : goal.returns-clause-record
returns-clause-record c = record-told

pub returns-clause-table : goal.returns-clause-table
returns-clause-table c = told-table

pub returns-clause-untold : goal.returns-clause-untold
returns-clause-untold c h k cells s u accessed live there leaves can = live-untold h k cells s u accessed there leaves can live

pub returns-clause-told : goal.returns-clause-told
returns-clause-told c h k cells s u accessed file grown live there leaves can = live-held h k cells s u accessed there leaves can file grown live

pub returns-clause-recorded : goal.returns-clause-recorded
returns-clause-recorded c rs cells s u accessed file had live there leaves can grown has = recorded-live rs cells s u accessed file had grown has live there leaves can

use Rattle.kishu_history.specs.Stored.{Stored}
use Rattle.kishu_history_laws.specs.cells.LiveLaws.{live_after, table_after, row_kept, stored_rise, dropped_rise}
use Rattle.kishu_history_laws.proofs.laws.cells_stay_live.Goals as goal

pub returns-clause-live : goal.returns-clause-live
returns-clause-live c = λ file t s u accessed rows is live there leaves stores new. live_after (Stored file) t is s u live there accessed leaves rows stores new

pub returns-clause-table : goal.returns-clause-table
returns-clause-table c = λ file t s u accessed rows is live there leaves stores new. table_after (Stored file) t is s u live there accessed leaves rows stores new

pub returns-clause-kept : goal.returns-clause-kept
returns-clause-kept c = λ file t s u accessed rows is live there leaves stores new. row_kept (Stored file) t is s u live there accessed leaves rows stores new

pub returns-clause-order : goal.returns-clause-order
returns-clause-order c = λ file t s u accessed rows is live there leaves stores new. (dropped_rise (Stored file) t is s u live there accessed leaves rows stores new, stored_rise (Stored file) t is s u live there accessed leaves rows stores new)

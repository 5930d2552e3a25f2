use Rattle.kishu_history.specs.Stored.{Stored}
use Rattle.kishu_history_laws.specs.cells.SizeLaws.{tested_takes}
use Rattle.kishu_history_laws.specs.cells.LedLaws.{live_after, table_after, row_kind, stored_rise, dropped_rise}
use Rattle.kishu_history_laws.proofs.laws.cells_stay_live_by_tests.Goals as goal

pub returns-clause-live : goal.returns-clause-live
returns-clause-live c = λ file t s u accessed same rows is live there led standing stores new. live_after (Stored file) t is s u live there accessed led same standing rows stores new

pub returns-clause-table : goal.returns-clause-table
returns-clause-table c = λ file t s u accessed same rows is live there led standing stores new. table_after (Stored file) t is s u live there accessed led same standing rows stores new

pub returns-clause-takes : goal.returns-clause-takes
returns-clause-takes c = λ file t s u accessed same rows is live there led standing stores new. tested_takes file t s u accessed same rows is live there standing stores new

pub returns-clause-kinds : goal.returns-clause-kinds
returns-clause-kinds c = λ file t s u accessed same rows is live there led standing stores new. row_kind (Stored file) t is s u live there accessed led same standing rows stores new

pub returns-clause-order : goal.returns-clause-order
returns-clause-order c = λ file t s u accessed same rows is live there led standing stores new. (dropped_rise (Stored file) t is s u live there accessed led same standing rows stores new, stored_rise (Stored file) t is s u live there accessed led same standing rows stores new)

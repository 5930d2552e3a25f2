use Rattle.kishu_session_laws.specs.RunLaws.{live_by_cells, table_by_cells}
use Rattle.kishu_session_laws.proofs.laws.cells_stay_live.Goals as goal

pub returns-clause-live : goal.returns-clause-live
returns-clause-live c = live_by_cells

pub returns-clause-table : goal.returns-clause-table
returns-clause-table c = table_by_cells

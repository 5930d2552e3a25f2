use Rattle.kishu_history_laws.specs.stores.BackLaws.{attached_same}
use Rattle.kishu_history_laws.specs.stores.AttachedLaws.{attached_opened, attached_still, attached_moved}
use Rattle.kishu_session_laws.specs.CellLaws.{replays_are_states}
use Rattle.kishu_session_laws.specs.RunLaws.{attached_by_cells, rows_by_cells}
use Rattle.kishu_session_laws.proofs.laws.sessions_stay_attached.Goals as goal

pub returns-clause-opened : goal.returns-clause-opened
returns-clause-opened c = λ file g of rows. attached_opened file g of rows (replays_are_states g)

pub returns-clause-still : goal.returns-clause-still
returns-clause-still c = λ file grown g of rows s attached. attached_still file grown g of rows s attached

pub returns-clause-moved : goal.returns-clause-moved
returns-clause-moved c = λ file grown g of rows s attached. attached_moved file grown g of rows (replays_are_states g) s attached

pub returns-clause-cells : goal.returns-clause-cells
returns-clause-cells c = λ file grown g of rows s attached keeps profile cells new news. attached_by_cells file g of rows s attached profile cells grown keeps new news

pub returns-clause-rows : goal.returns-clause-rows
returns-clause-rows c = λ file grown g of rows s attached keeps profile cells new news. rows_by_cells file g of rows s attached profile cells grown keeps new news

pub returns-clause-same : goal.returns-clause-same
returns-clause-same c = λ file g of rows good head s here same. attached_same file g of rows (replays_are_states g) head s here same good

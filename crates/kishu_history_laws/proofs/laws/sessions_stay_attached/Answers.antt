use Rattle.kishu_history_laws.specs.stores.BackLaws.{attached_same}
use Rattle.kishu_history_laws.specs.stores.AttachedLaws.{attached_new, attached_opened, attached_still, attached_moved, attached_cells}
use Rattle.kishu_history_laws.proofs.laws.sessions_stay_attached.Goals as goal

pub returns-clause-new : goal.returns-clause-new
returns-clause-new c = attached_new

pub returns-clause-opened : goal.returns-clause-opened
returns-clause-opened c = attached_opened

pub returns-clause-still : goal.returns-clause-still
returns-clause-still c = λ file grown g of rows s attached. attached_still file grown g of rows s attached

pub returns-clause-moved : goal.returns-clause-moved
returns-clause-moved c = attached_moved

pub returns-clause-cells : goal.returns-clause-cells
returns-clause-cells c = λ file grown g of rows states s attached keeps profile cells u now ran same accessed leaves new news small. attached_cells file grown g of rows states s attached keeps profile cells u now ran same accessed leaves new news.groups news.version news.held small

pub returns-clause-same : goal.returns-clause-same
returns-clause-same c = λ file g of rows states good head s here same. attached_same file g of rows states head s here same good

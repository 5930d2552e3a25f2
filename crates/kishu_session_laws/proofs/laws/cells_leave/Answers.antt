use Rattle.kishu_session_laws.specs.CellLaws.{cells_leave}
use Rattle.kishu_session_laws.proofs.laws.cells_leave.Goals as goal

pub returns : goal.returns
returns c = cells_leave

use Rattle.kishu_session_laws.specs.CellLaws.{groups_after_cells, size_after_cells, cells_drop, cells_store}
use Rattle.kishu_session_laws.proofs.laws.cells_are_told.Goals as goal

pub returns-clause-groups : goal.returns-clause-groups
returns-clause-groups c = groups_after_cells

pub returns-clause-size : goal.returns-clause-size
returns-clause-size c = size_after_cells

pub returns-clause-dropped : goal.returns-clause-dropped
returns-clause-dropped c = cells_drop

pub returns-clause-stored : goal.returns-clause-stored
returns-clause-stored c = cells_store

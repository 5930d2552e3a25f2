use Rattle.kishu_history_laws.specs.cells.GroupsAfter.{groups_after_cell}
use Rattle.kishu_history_laws.specs.cells.LeavesLaws.{kept_after, dropped_changed, stored_changed}
use Rattle.kishu_history_laws.proofs.laws.cells_are_told.Goals as goal

pub returns-clause-groups : goal.returns-clause-groups
returns-clause-groups c = groups_after_cell

pub returns-clause-kept : goal.returns-clause-kept
returns-clause-kept c = kept_after

pub returns-clause-dropped : goal.returns-clause-dropped
returns-clause-dropped c = dropped_changed

pub returns-clause-stored : goal.returns-clause-stored
returns-clause-stored c = stored_changed

use Rattle.kishu_history_laws.specs.cells.GroupsAfter.{size_after, same_size}
use Rattle.kishu_history_laws.specs.cells.SizeLaws.{cell_takes}
use Rattle.kishu_history_laws.specs.checkouts.PlaceLaws.{rows_take_theirs, table_takes}
use Rattle.kishu_history_laws.proofs.laws.sizes_are_told.Goals as goal

pub returns-clause-cell : goal.returns-clause-cell
returns-clause-cell c = size_after

pub returns-clause-after : goal.returns-clause-after
returns-clause-after c = cell_takes

pub returns-clause-rows : goal.returns-clause-rows
returns-clause-rows c = rows_take_theirs

pub returns-clause-table : goal.returns-clause-table
returns-clause-table c = table_takes

pub returns-clause-same : goal.returns-clause-same
returns-clause-same c = same_size

use Rattle.kishu_pairing_laws.specs.runs.CellsInRow.{cells_are_state}
use Rattle.kishu_pairing_laws.proofs.cells.cells_are_sound.Goals as goal

pub returns : goal.returns
returns c = cells_are_state

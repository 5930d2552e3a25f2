use Rattle.kishu_pairing_laws.specs.runs.CellsInRow.{same_after}
use Rattle.kishu_pairing_laws.proofs.cells.cells_cannot_tell.Goals as goal

pub returns : goal.returns
returns c = same_after

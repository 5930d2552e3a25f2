use Rattle.kishu_soundness_laws.specs.cells.Cells.{run_below}
use Rattle.kishu_soundness_laws.proofs.laws.runs_keep_numbers.Goals as goal

pub returns : goal.returns
returns c = run_below

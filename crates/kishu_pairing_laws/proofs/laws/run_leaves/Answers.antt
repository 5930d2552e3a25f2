use Rattle.kishu_pairing_laws.specs.runs.LocalRuns.{run_leaves_inside}
use Rattle.kishu_pairing_laws.proofs.laws.run_leaves.Goals as goal

pub returns : goal.returns
returns c = run_leaves_inside

use Rattle.kishu_pairing_laws.specs.runs.PairedRuns.{same_runs}
use Rattle.kishu_pairing_laws.proofs.laws.run_cannot_tell.Goals as goal

pub returns : goal.returns
returns c = same_runs

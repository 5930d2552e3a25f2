use Rattle.kishu_pairing_laws.specs.runs.PairedRuns.{local_runs}
use Rattle.kishu_pairing_laws.proofs.laws.run_is_local.Goals as goal

pub returns : goal.returns
returns c = local_runs

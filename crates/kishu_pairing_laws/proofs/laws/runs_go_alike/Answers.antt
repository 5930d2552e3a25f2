use Rattle.kishu_pairing_laws.specs.runs.PairedRuns.{listed_runs}
use Rattle.kishu_pairing_laws.proofs.laws.runs_go_alike.Goals as goal

pub returns : goal.returns
returns c = listed_runs

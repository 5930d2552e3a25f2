use Rattle.kishu_pairing_laws.specs.runs.LocalRuns.{left_alone, run_leaves_rest}
use Rattle.kishu_pairing_laws.proofs.laws.run_leaves_alone.Goals as goal

pub returns : goal.returns
returns c = record { runs = run_leaves_rest; follows = left_alone }

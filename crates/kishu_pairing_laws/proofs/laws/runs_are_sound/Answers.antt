use Rattle.kishu_pairing_laws.specs.runs.SoundRuns.{run_is_state}
use Rattle.kishu_pairing_laws.proofs.laws.runs_are_sound.Goals as goal

pub returns : goal.returns
returns c = run_is_state

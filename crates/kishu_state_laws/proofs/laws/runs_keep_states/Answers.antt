use Rattle.kishu_state_laws.specs.Whole.{run_becomes}
use Rattle.kishu_state_laws.specs.keeping.Running.{empty_is_state}
use Rattle.kishu_state_laws.proofs.laws.runs_keep_states.Goals as goal

pub returns : goal.returns
returns c = record { empty = empty_is_state; run = λ profile text s h g. (run_becomes profile text s h g).state }

use Rattle.kishu_state_laws.specs.Profiles.{run_under, cells_under, replay_under, held_replay_under}
use Rattle.kishu_state_laws.proofs.laws.runs_keep_profiles.Goals as goal

pub returns-clause-run : goal.returns-clause-run
returns-clause-run c = run_under

pub returns-clause-cells : goal.returns-clause-cells
returns-clause-cells c = cells_under

pub returns-clause-replays : goal.returns-clause-replays
returns-clause-replays c = replay_under

pub returns-clause-held : goal.returns-clause-held
returns-clause-held c = held_replay_under

use Rattle.kishu_session_laws.specs.CellLaws.{cells_keep, replay_is_state, replays_are_states}
use Rattle.kishu_session_laws.proofs.laws.replays_are_states.Goals as goal

pub returns-clause-all : goal.returns-clause-all
returns-clause-all c = replays_are_states

pub returns-clause-each : goal.returns-clause-each
returns-clause-each c = replay_is_state

pub returns-clause-cells : goal.returns-clause-cells
returns-clause-cells c = cells_keep

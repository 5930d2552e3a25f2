use Rattle.kishu_history_laws.specs.states.SoundLaws.{picture_state, with_picture_state, carried_state}
use Rattle.kishu_history_laws.proofs.laws.loads_keep_states_sound.Goals as goal

pub returns-clause-picture : goal.returns-clause-picture
returns-clause-picture c = picture_state

pub returns-clause-loaded : goal.returns-clause-loaded
returns-clause-loaded c = with_picture_state

pub returns-clause-carried : goal.returns-clause-carried
returns-clause-carried c = carried_state

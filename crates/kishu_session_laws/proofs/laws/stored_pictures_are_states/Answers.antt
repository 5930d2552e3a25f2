use Rattle.kishu_history.specs.Stored.{Stored}
use Rattle.kishu_session_laws.specs.StoredLaws.{carried_is_state, stored_are_states, read_state, good_pictures}
use Rattle.kishu_session_laws.proofs.laws.stored_pictures_are_states.Goals as goal

pub returns-clause-carried : goal.returns-clause-carried
returns-clause-carried c = carried_is_state

pub returns-clause-loaded : goal.returns-clause-loaded
returns-clause-loaded c = λ file. stored_are_states (Stored file)

pub returns-clause-good : goal.returns-clause-good
returns-clause-good c = good_pictures

pub returns-clause-read : goal.returns-clause-read
returns-clause-read c = read_state

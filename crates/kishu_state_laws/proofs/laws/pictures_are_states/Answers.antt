use Rattle.kishu_state_laws.specs.Pictures.{picture_is_state, with_picture_is_state, unbound_is_state}
use Rattle.kishu_state_laws.proofs.laws.pictures_are_states.Goals as goal

pub returns-clause-picture : goal.returns-clause-picture
returns-clause-picture c = λ s names h. picture_is_state s h names

pub returns-clause-loaded : goal.returns-clause-loaded
returns-clause-loaded c = with_picture_is_state

pub returns-clause-unbound : goal.returns-clause-unbound
returns-clause-unbound c = unbound_is_state

use Rattle.kishu_history_laws.specs.states.SameLaws.{same_groups, same_pictures, same_changed}
use Rattle.kishu_history_laws.proofs.laws.same_states_change_alike.Goals as goal

pub returns-clause-groups : goal.returns-clause-groups
returns-clause-groups c = same_groups

pub returns-clause-pictures : goal.returns-clause-pictures
returns-clause-pictures c = same_pictures

pub returns-clause-changes : goal.returns-clause-changes
returns-clause-changes c = same_changed

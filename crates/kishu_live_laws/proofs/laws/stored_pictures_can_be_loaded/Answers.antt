use Rattle.kishu_live_laws.specs.Loads.{replay_known, replayed_known, good_loads}
use Rattle.kishu_live_laws.proofs.laws.stored_pictures_can_be_loaded.Goals as goal

pub returns-clause-known : goal.returns-clause-known
returns-clause-known c = replay_known

pub returns-clause-pictures : goal.returns-clause-pictures
returns-clause-pictures c = replayed_known

pub returns-clause-loads : goal.returns-clause-loads
returns-clause-loads c = good_loads

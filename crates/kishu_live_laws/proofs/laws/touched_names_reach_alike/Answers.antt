use Rattle.kishu_live_laws.specs.Reached.{cell_left, charge_alike, reached_alike, reached_here}
use Rattle.kishu_live_laws.proofs.laws.touched_names_reach_alike.Goals as goal

pub returns-clause-same : goal.returns-clause-same
returns-clause-same c = λ s t here there same text. reached_alike text s t here there same

pub returns-clause-reached : goal.returns-clause-reached
returns-clause-reached c = reached_here

pub returns-clause-charge : goal.returns-clause-charge
returns-clause-charge c = charge_alike

pub returns-clause-left : goal.returns-clause-left
returns-clause-left c = cell_left

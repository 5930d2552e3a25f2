use Rattle.kishu_live_laws.specs.CellsAlike.{ran_alike, shown_alike, charge_alike, ran_left_alike}
use Rattle.kishu_live_laws.proofs.laws.cells_run_alike.Goals as goal

pub returns-clause-ran : goal.returns-clause-ran
returns-clause-ran c = ran_alike

pub returns-clause-shown : goal.returns-clause-shown
returns-clause-shown c = shown_alike

pub returns-clause-charge : goal.returns-clause-charge
returns-clause-charge c = charge_alike

pub returns-clause-left : goal.returns-clause-left
returns-clause-left c = ran_left_alike

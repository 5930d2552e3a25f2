use Rattle.kishu_state_laws.specs.Fitting.{state_fits, picture_fits, same_in_bytes}
use Rattle.kishu_state_laws.proofs.laws.states_fit.Goals as goal

pub returns-clause-bytes : goal.returns-clause-bytes
returns-clause-bytes c = state_fits

pub returns-clause-picture : goal.returns-clause-picture
returns-clause-picture c = picture_fits

pub returns-clause-same : goal.returns-clause-same
returns-clause-same c = same_in_bytes

use Rattle.kishu_state_laws.specs.Real.{state_is_real}
use Rattle.kishu_state_laws.proofs.laws.states_are_real.Goals as goal

pub returns : goal.returns
returns c = state_is_real

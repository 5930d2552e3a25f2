use Rattle.kishu_state_laws.specs.Real.{same_after}
use Rattle.kishu_state_laws.proofs.laws.cells_cannot_tell_states.Goals as goal

pub returns : goal.returns
returns c = same_after

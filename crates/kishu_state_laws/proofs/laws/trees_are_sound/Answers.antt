use Rattle.kishu_state_laws.specs.Whole.{cell_is_sound}
use Rattle.kishu_state_laws.proofs.laws.trees_are_sound.Goals as goal

pub returns : goal.returns
returns c = cell_is_sound

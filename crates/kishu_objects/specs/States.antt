-- What holds of each state that a run leaves.
use Rattle.kishu_meaning.specs.values.Values.{State}
use Rattle.kishu_objects.specs.Picture.{listed}
use Rattle.kishu_objects.specs.Sound.{IsSound}
use Rattle.kishu_objects.specs.Lists.{Rise}

-- Its node numbers are those of nodes, and its names stand in byte order, each once.
pub record IsSoundState (s : State) : Type 0 where
  pub sound : IsSound s
  pub rise : Rise (listed s)

-- What cells leave of a state, up to sameness.
use Rattle.std.specs.Prelude.{ℕ, List}
use Rattle.kishu_meaning.specs.values.Values.{State}
use Rattle.kishu_objects.specs.Locality.{Leaves}
use Rattle.kishu_objects.specs.Same.{Same}
use Rattle.kishu_objects.specs.States.{IsSoundState}

-- The second state is the same as one in which all that these names don't reach is as it was in the first: cells that accessed them left that one, or it loaded anew.
pub record LeadsTo (accessed : List (List ℕ)) (s u : State) : Type 0 where
  pub state : State
  pub leaves : Leaves accessed s state
  pub sound : IsSoundState state
  pub same : Same state u

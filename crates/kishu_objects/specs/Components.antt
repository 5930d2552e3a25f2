-- Nodes that edges join, taken either way.
use Rattle.std.specs.Prelude.{ℕ, List}
use Rattle.kishu_meaning.specs.values.Values.{State}
use Rattle.kishu_objects.specs.Lists.{In}
use Rattle.kishu_objects.specs.Picture.{leads, order}

-- From the one node one comes to the other along edges of nodes that names of the list reach, forwards and backwards.
pub data Joined (s : State) (of : List (List ℕ)) (i : ℕ) : ℕ → Type 0 where
  here : Joined s of i i
  down : (j k : ℕ) → Joined s of i j → In j (order s of) → In k (leads s.nodes j) → Joined s of i k
  up : (j k : ℕ) → Joined s of i k → In j (order s of) → In k (leads s.nodes j) → Joined s of i j

-- When a state's node numbers are those of nodes.
use Rattle.std.specs.Prelude.{◌≡◌, ℕ, ◌<◌, List, length, Some}
use Rattle.kishu_meaning.specs.values.Values.{node, State, find}
use Rattle.kishu_objects.specs.Lists.{In}
use Rattle.kishu_objects.specs.Picture.{leads}

-- Each node number in it, of a name or in a node, is that of a node.
pub record IsSound (s : State) : Type 0 where
  pub names : (x : List ℕ) (i : ℕ) → find x s.names ≡ Some (node i) → i < length s.nodes
  pub nodes : (i a : ℕ) → In a (leads s.nodes i) → a < length s.nodes

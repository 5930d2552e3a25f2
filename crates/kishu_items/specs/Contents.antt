-- Nodes that come to a heap.
use Rattle.std.specs.Prelude.{◌≡◌, ℕ, ◌≤◌, List, ◌++◌, length}
use Rattle.kishu_meaning.specs.values.Values.{Node}

-- At most so many nodes are added at the end.
pub record IsGrown (most : ℕ) (old new : List Node) : Type 0 where
  pub more : List Node
  pub is : new ≡ old ++ more
  pub few : length more ≤ most

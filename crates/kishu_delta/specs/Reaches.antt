-- How many nodes groups reach.
use Rattle.std.specs.Prelude.{ℕ, List, length}
use Rattle.std.specs.List.{sum_by}
use Rattle.kishu_meaning.specs.values.Values.{State}
use Rattle.kishu_objects.specs.Picture.{order}
use Rattle.kishu_store.specs.Groups.{Group}

-- the nodes that each of these groups reaches, counted one group after another
abbrev pub nodes_among : State → List Group → ℕ
nodes_among s gs = sum_by (λ g. length (order s g)) gs

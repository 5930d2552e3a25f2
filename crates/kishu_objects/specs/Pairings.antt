-- When a pairing of nodes relates two states.
use Rattle.std.specs.Prelude.{◌≡◌, ℕ, List}
use Rattle.std.specs.List.{AllZip}
use Rattle.kishu_meaning.specs.values.Values.{Value, none, node, Node, State, find}
use Rattle.kishu_objects.specs.Shape.{children, each_child, node_at}
use Rattle.kishu_objects.specs.Same.{BothOrNone}

-- a node with None for each child
abbrev pub bare : Node → Node
bare = each_child (λ v. none)

-- One plain value, or two nodes of which P holds.
abbrev pub Alike : (ℕ → ℕ → Type 0) → Value → Value → Type 0
Alike P (node i) (node j) = P i j
Alike P (node i) w = ⊥
Alike P v (node j) = ⊥
Alike P v w = v ≡ w

-- A pairing of nodes that is one to one and closed: paired nodes show the same and their children correspond in order. The values of the names of N correspond by it.
pub record Pairs (P : ℕ → ℕ → Type 0) (N : List ℕ → Type 0) (s t : State) : Type 0 where
  pub one_right : (i j k : ℕ) → P i j → P i k → j ≡ k
  pub one_left : (i j k : ℕ) → P i k → P j k → i ≡ j
  pub shows : (i j : ℕ) → P i j → bare (node_at s.nodes i) ≡ bare (node_at t.nodes j)
  pub leads_on : (i j : ℕ) → P i j → AllZip (Alike P) (children (node_at s.nodes i)) (children (node_at t.nodes j))
  pub names : (x : List ℕ) → N x → BothOrNone (Alike P) (find x s.names) (find x t.names)

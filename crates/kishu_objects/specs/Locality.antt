-- What a run that accesses some names can have changed, and what it leaves as it was.
use Rattle.std.specs.Prelude.{List, ℕ, length, ◌≤◌, ◌⊎◌, Some, ◌≡◌, slice_get, ◌<◌}
use Rattle.kishu_meaning.specs.values.Values.{State, node, find}
use Rattle.kishu_objects.specs.Groups.{Reaches}
use Rattle.kishu_objects.specs.Lists.{In}
use Rattle.kishu_objects.specs.Picture.{leads}
use Rattle.kishu_objects.specs.Shape.{node_at}

-- A path from one of these names reaches the node.
abbrev pub Reached : List (List ℕ) → State → ℕ → Type 0
Reached accessed s i = (x : List ℕ) × In x accessed × Reaches s x i

-- Inside the reach of the accessed names: what is new since the state s, and what they reached there.
abbrev pub Inside : List (List ℕ) → State → ℕ → Type 0
Inside accessed s i = (length s.nodes ≤ i) ⊎ Reached accessed s i

-- What a run from s to t leaves that accesses these names.
pub record Leaves (accessed : List (List ℕ)) (s t : State) : Type 0 where
  -- No node is taken away.
  pub grows : length s.nodes ≤ length t.nodes
  -- Other names keep their values.
  pub names : (x : List ℕ) → (In x accessed → ⊥) → find x s.names ≡ find x t.names
  -- Nodes outside stay as they were.
  pub nodes : (i : ℕ) → (Inside accessed s i → ⊥) → node_at s.nodes i ≡ node_at t.nodes i
  -- Accessed names stand for what is inside.
  pub begins : (x : List ℕ) (i : ℕ) → In x accessed → find x t.names ≡ Some (node i) → Inside accessed s i
  -- What is inside leads to what is inside.
  pub goes_on : (i j : ℕ) → Inside accessed s i → In j (leads t.nodes i) → Inside accessed s j

-- The same as seen from outside. It says less: what the names reached before, and don't reach afterwards, may lead anywhere.
pub record LeavesAlone (accessed : List (List ℕ)) (s t : State) : Type 0 where
  -- Other names keep their values.
  pub names : (x : List ℕ) → (In x accessed → ⊥) → find x s.names ≡ find x t.names
  -- Old nodes that no accessed name reached stay as they were.
  pub nodes : (i : ℕ) → i < length s.nodes → (Reached accessed s i → ⊥) → slice_get s.nodes i ≡ slice_get t.nodes i
  -- No accessed name reaches one of them afterwards.
  pub apart : (i : ℕ) → i < length s.nodes → (Reached accessed s i → ⊥) → Reached accessed t i → ⊥

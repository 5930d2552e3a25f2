-- Runs from two states that a pairing of their nodes relates. These are the words of the laws on what a run can't tell apart.
use Rattle.std.specs.Prelude.{ℕ, List, length, ◌<◌, Contains, ◌≡◌, ◌+◌, ◌≤◌, ◌⊎◌, slice_get}
use Rattle.kishu_meaning.specs.values.Values.{State, Ran, find}
use Rattle.kishu_objects.specs.Pairings.{Pairs}
use Rattle.kishu_objects.specs.Picture.{listed}
use Rattle.kishu_objects.specs.Same.{SameWhere}
use Rattle.kishu_objects.specs.Lists.{Rise}

-- The pairing P is closed and one to one, it pairs nodes of s with nodes of t, and the values of the names of which N holds correspond by it. In both states the names stand in order.
pub record IsPairing (P : ℕ → ℕ → Type 0) (N : List ℕ → Type 0) (s t : State) : Type 0 where
  pub pairs : Pairs P N s t
  pub left_in : (i j : ℕ) → P i j → i < length s.nodes
  pub right_in : (i j : ℕ) → P i j → j < length t.nodes
  pub left_rise : Rise (listed s)
  pub right_rise : Rise (listed t)

-- The pairing that a list of pairs is.
abbrev pub ArePaired : List (ℕ × ℕ) → ℕ → ℕ → Type 0
ArePaired pairs i j = Contains {X = ℕ × ℕ} pairs (i, j)

-- A pair of P, or new nodes at one place of making: the first that one run made with the first that the other made, and so on. Numbers past both ends are paired too, and no node stands there on either side.
abbrev pub Extended : (P : ℕ → ℕ → Type 0) (s t : State) → ℕ → ℕ → Type 0
Extended P s t i j = P i j ⊎ (length s.nodes ≤ i) × (i + length t.nodes ≡ j + length s.nodes)

-- The runs on s and on t, which give r and q, go alike.
pub record RunAlike (P : ℕ → ℕ → Type 0) (N : List ℕ → Type 0) (s t : State) (r q : Ran) : Type 0 where
  -- They have equal outcomes and outputs, access the same names and charge as many steps.
  pub report : r.report ≡ q.report
  pub accessed : r.accessed ≡ q.accessed
  pub charge : r.charge ≡ q.charge
  -- Nodes are added alone, as many here as there.
  pub nodes_grow : length s.nodes ≤ length r.state.nodes
  pub nodes_new : length r.state.nodes + length t.nodes ≡ length q.state.nodes + length s.nodes
  -- P with the pairs of new nodes is closed and one to one, and the names of which N holds correspond by it.
  pub pairs : Pairs (Extended P s t) N r.state q.state
  -- Other names keep their values.
  pub left_names : (x : List ℕ) → (N x → ⊥) → find x r.state.names ≡ find x s.names
  pub right_names : (x : List ℕ) → (N x → ⊥) → find x q.state.names ≡ find x t.names
  -- Old nodes that P doesn't pair stay as they were.
  pub left_nodes : (i : ℕ) → i < length s.nodes → ((j : ℕ) → P i j → ⊥) → slice_get r.state.nodes i ≡ slice_get s.nodes i
  pub right_nodes : (j : ℕ) → j < length t.nodes → ((i : ℕ) → P i j → ⊥) → slice_get q.state.nodes j ≡ slice_get t.nodes j
  -- Names stand in order afterwards too.
  pub left_rise : Rise (listed r.state)
  pub right_rise : Rise (listed q.state)

-- The runs on s and on t, which give r and q, can't be told apart: equal outcomes, outputs, accessed names, charges and numbers of new nodes, and states that are the same for the names of which N holds.
pub record RunsSame (N : List ℕ → Type 0) (s t : State) (r q : Ran) : Type 0 where
  pub report : r.report ≡ q.report
  pub accessed : r.accessed ≡ q.accessed
  pub charge : r.charge ≡ q.charge
  pub nodes_new : length r.state.nodes + length t.nodes ≡ length q.state.nodes + length s.nodes
  pub states : SameWhere N r.state q.state

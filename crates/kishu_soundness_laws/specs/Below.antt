-- When node numbers are those of nodes: in a value, in a node, and in a state.
use Rattle.std.specs.Prelude.{ℕ, ◌<◌, List, [], ◌∷◌, length, map, Option, Some, None}
-- each item of a list
pub use Rattle.std.specs.List.{AllByRecursion as Each}
use Rattle.kishu_meaning.specs.moments.Moment.{Thrown, fresh, thrown_object}
use Rattle.kishu_meaning.specs.values.Values.{Value, node, Node, State}
use Rattle.kishu_meaning.specs.values.Keys.{Key}
use Rattle.kishu_objects.specs.Shape.{children}

-- what stands there, if anything does
abbrev pub Maybe : {A : Type 0} → (A → Type 0) → Option A → Type 0
Maybe P None = Unit {0}
Maybe P (Some a) = P a

-- A value's node number, where it has one, is below k.
abbrev pub Below : ℕ → Value → Type 0
Below k (node i) = i < k
Below k _ = Unit {0}

abbrev pub AllBelow : ℕ → List Value → Type 0
AllBelow k = Each (Below k)

-- A node leads to nodes below k.
abbrev pub NodeBelow : ℕ → Node → Type 0
NodeBelow k n = AllBelow k (children n)

abbrev pub values_in : {K : Type 0} → List (K × Value) → List Value
values_in es = map (λ e. e.1) es

-- the values of names, of a dict or of an object
abbrev pub EntriesBelow : ℕ → {K : Type 0} → List (K × Value) → Type 0
EntriesBelow k es = AllBelow k (values_in es)

abbrev pub EntriesAt : ℕ → List (Key × Value) → Type 0
EntriesAt k es = EntriesBelow k es

-- an exception on its way
abbrev pub ThrownBelow : ℕ → Thrown → Type 0
ThrownBelow k (fresh kind vs) = AllBelow k vs
ThrownBelow k (thrown_object i) = i < k

-- a result without node numbers
abbrev pub Any : {A : Type 0} → ℕ → A → Type 0
Any k a = Unit {0}

-- Each node number in the state is that of a node.
pub record StateBelow (s : State) : Type 0 where
  pub nodes : Each (NodeBelow (length s.nodes)) s.nodes
  pub names : EntriesBelow (length s.nodes) s.names

-- The picture of names: the state in which they stand alone, with the nodes that they reach in the order of first meeting, breadth first.
use Rattle.std.specs.Prelude.{ℕ, zero, suc, ◌==◌, not, if◌then◌else◌, List, [], ◌∷◌, ◌++◌, map, length, filter, flat_map, Option, Some, None}
use Rattle.kishu_meaning.specs.values.Values.{Value, node, Node, Names, State, find}
use Rattle.kishu_objects.specs.Shape.{children, each_child, node_at}

-- f after itself, n times
abbrev pub times : {A : Type 0} → ℕ → (A → A) → A → A
times zero f a = a
times (suc n) f a = f (times n f a)

-- each number once, at its first place
abbrev pub firsts : List ℕ → List ℕ
firsts [] = []
firsts (i ∷ is) = i ∷ filter (λ k. not (i == k)) (firsts is)

-- at which place a number stands
abbrev pub place : List ℕ → ℕ → ℕ
place [] i = 0
place (k ∷ ks) i = if k == i then 0 else suc (place ks i)

-- ---- what leads where

-- the node that a value is, if it is one
abbrev pub number : Value → List ℕ
number (node i) = i ∷ []
number v = []

-- the nodes among values
abbrev pub numbers : List Value → List ℕ
numbers = flat_map number

-- the nodes to which a node leads
abbrev pub leads : List Node → ℕ → List ℕ
leads nodes i = numbers (children (node_at nodes i))

-- the name with its value, if it has one
abbrev pub with_value : List ℕ → Option Value → Names
with_value x None = []
with_value x (Some v) = (x, v) ∷ []

-- the names of the list that are bound, with their values
abbrev pub bound : State → List (List ℕ) → Names
bound s names = flat_map (λ x. with_value x (find x s.names)) names

-- the nodes among the values of the names
abbrev pub roots : State → List (List ℕ) → List ℕ
roots s names = numbers (map (λ b. b.1) (bound s names))

-- ---- the order of first meeting

-- the nodes that are met in the values of the names, and then in the nodes of a list, one after another
abbrev pub met : List Node → List ℕ → List ℕ → List ℕ
met nodes from seen = firsts (from ++ flat_map (leads nodes) seen)

-- The nodes that names reach, in the order of first meeting. Each round meets those one step further away, and no way without turns is longer than the list of nodes.
abbrev pub order : State → List (List ℕ) → List ℕ
order s names = times (length s.nodes) (met s.nodes (roots s names)) []

-- ---- the picture

-- the value, with a node's new number
abbrev pub renumbered : (ℕ → ℕ) → Value → Value
renumbered f (node i) = node (f i)
renumbered f v = v

-- the name, with its value's new number
abbrev pub named : (ℕ → ℕ) → List ℕ × Value → List ℕ × Value
named f b = (b.0, renumbered f b.1)

-- what stands under these names with the nodes of a list, which get their places in it as numbers
abbrev pub laid_out : State → List (List ℕ) → List ℕ → State
laid_out s names is = record {
  names = map (named (place is)) (bound s names);
  nodes = map (λ i. each_child (renumbered (place is)) (node_at s.nodes i)) is;
}

-- the names that are bound, and the nodes that they reach in the order of first meeting
abbrev pub picture : State → List (List ℕ) → State
picture s names = laid_out s names (order s names)

-- all names, in byte order
abbrev pub listed : State → List (List ℕ)
listed s = map (λ (b : List ℕ × Value). b.0) s.names

-- the picture of all names
abbrev pub whole : State → State
whole s = picture s (listed s)

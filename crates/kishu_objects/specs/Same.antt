-- When two states can't be told apart: isomorphism of what names reach, sharing and identity included, by paths.
use Rattle.std.specs.Prelude.{◌≡◌, ℕ, List, Option, Some, None, Contains, ⊤}
use Rattle.kishu_meaning.specs.values.Values.{Value, none, node, Node, State}
use Rattle.kishu_objects.specs.Shape.{each_child, node_at, reached}

-- what shows of a value without following it
pub data View : Type 0 where
  plain : Value → View
  -- a node with None for each child
  inside : Node → View

-- a plain value itself, and a node as it shows
abbrev pub view : List Node → Value → View
view nodes (node i) = inside (each_child (λ v. none) (node_at nodes i))
view nodes v = plain v

-- two that correspond, or nothing in either
abbrev pub BothOrNone : {A B : Type 0} → (A → B → Type 0) → Option A → Option B → Type 0
BothOrNone R None None = ⊤
BothOrNone R (Some a) (Some b) = R a b
BothOrNone R None (Some b) = ⊥
BothOrNone R (Some a) None = ⊥

-- The two paths reach one node.
abbrev pub OneNode : State → (x : List ℕ) (p : List ℕ) (y : List ℕ) (q : List ℕ) → Type 0
OneNode s x p y q = (i : ℕ) × (reached s x p ≡ Some (node i)) × (reached s y q ≡ Some (node i))

-- For the names of which N holds: each path reaches equal views in both states or nothing in either, and two paths reach one node in one state where they do in the other.
pub record SameWhere (N : List ℕ → Type 0) (s t : State) : Type 0 where
  pub views : (x : List ℕ) (p : List ℕ) → N x → BothOrNone (λ v w. view s.nodes v ≡ view t.nodes w) (reached s x p) (reached t x p)
  pub shared_there : (x p y q : List ℕ) → N x → N y → OneNode s x p y q → OneNode t x p y q
  pub shared_here : (x p y q : List ℕ) → N x → N y → OneNode t x p y q → OneNode s x p y q

-- for all names
abbrev pub Same : State → State → Type 0
Same s t = SameWhere (λ x. ⊤) s t

-- for the names of a list alone; one of them may be unbound in both
abbrev pub SameOn : State → State → List (List ℕ) → Type 0
SameOn s t names = SameWhere (λ x. Contains names x) s t

-- Groups of names: those from which one can come to another by names that share a node with the next (Kishu, "co-variable").
use Rattle.std.specs.Prelude.{◌≡◌, ℕ, ◌==◌, Bool, false, ◌||◌, if◌then◌else◌, List, [], ◌∷◌, length, filter, flat_map, Some, Contains}
use Rattle.std.specs.List.{list_any, AllPairs}
use Rattle.std.specs.Str.{bytes_eq}
use Rattle.kishu_meaning.specs.values.Values.{Value, node, State, find}
use Rattle.kishu_objects.specs.Shape.{reached}
use Rattle.kishu_objects.specs.Picture.{times, order, listed}

-- A path from the name reaches the node.
abbrev pub Reaches : State → List ℕ → ℕ → Type 0
Reaches s x i = (p : List ℕ) × (reached s x p ≡ Some (node i))

-- The two names reach one node.
abbrev pub Touch : State → List ℕ → List ℕ → Type 0
Touch s x y = (i : ℕ) × Reaches s x i × Reaches s y i

-- From the one name one comes to the other by names of the list, each of which shares a node with the next.
pub data Linked (s : State) (of : List (List ℕ)) (x : List ℕ) : List ℕ → Type 0 where
  itself : Linked s of x x
  further : (y z : List ℕ) → Linked s of x y → Contains of z → Touch s y z → Linked s of x z

-- No two of the groups share a node.
abbrev pub AreApart : State → List (List (List ℕ)) → Type 0
AreApart s gs = AllPairs (λ g h. (x y : List ℕ) → Contains g x → Contains h y → Touch s x y → ⊥) gs

-- Each bound name is in one of the groups.
abbrev pub Cuts : State → List (List (List ℕ)) → Type 0
Cuts s gs = (x : List ℕ) (v : Value) → find x s.names ≡ Some v → (g : List (List ℕ)) × Contains gs g × Contains g x

-- ---- computed

-- whether a number is in the list
abbrev pub is_in : ℕ → List ℕ → Bool
is_in i = list_any (λ k. i == k)

-- whether the names are one, or share a node
abbrev pub touches : State → List ℕ → List ℕ → Bool
touches s x y = bytes_eq x y || list_any (λ i. is_in i (order s (y ∷ []))) (order s (x ∷ []))

-- the names that touch one of these
abbrev pub near : State → List (List ℕ) → List (List ℕ) → List (List ℕ)
near s of xs = filter (λ y. list_any (λ x. touches s x y) xs) of

-- The class of a name: the names of the list that are linked to it, in the list's order. Each round comes to those one step further away.
abbrev pub class_of : State → List (List ℕ) → List ℕ → List (List ℕ)
class_of s of x = times (length of) (near s of) (x ∷ [])

-- whether the list's first name is this one
abbrev pub begins_with : List ℕ → List (List ℕ) → Bool
begins_with x [] = false
begins_with x (y ∷ ys) = bytes_eq x y

-- the classes of the names of a list, each at its first name
abbrev pub groups : State → List (List ℕ) → List (List (List ℕ))
groups s of = flat_map (λ x. if begins_with x (class_of s of x) then class_of s of x ∷ [] else []) of

-- the groups of all names
abbrev pub groups_of : State → List (List (List ℕ))
groups_of s = groups s (listed s)

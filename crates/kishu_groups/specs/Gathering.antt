-- The names of each class together, from the first numbers of the classes.
use Rattle.std.specs.Prelude.{◌≡◌, ℕ, zero, suc, ◌≤◌, ◌==◌, if◌then◌else◌, List, [], ◌∷◌, ◌++◌, map, length, get_or, slice_get, slice_set, Option, Some, None}
use Rattle.kishu_meaning.specs.values.Values.{State}
use Rattle.kishu_objects.specs.Groups.{Linked}

-- Each class has its least number for its first one.
pub record AreFirsts (rs : List ℕ) : Type 0 where
  pub low : (i r : ℕ) → slice_get rs i ≡ Some r → r ≤ i
  pub again : (i r : ℕ) → slice_get rs i ≡ Some r → slice_get rs r ≡ Some r

-- Of each name the first number of its class: one class is what is linked.
pub record Classifies (s : State) (of : List (List ℕ)) (rs : List ℕ) : Type 0 where
  pub many : length rs ≡ length of
  pub firsts : AreFirsts rs
  pub linked : (i j : ℕ) (x y : List ℕ) → slice_get of i ≡ Some x → slice_get of j ≡ Some y → slice_get rs i ≡ slice_get rs j → Linked s of x y
  pub told : (i j : ℕ) (x y : List ℕ) → slice_get of i ≡ Some x → slice_get of j ≡ Some y → Linked s of x y → slice_get rs i ≡ slice_get rs j

-- the first numbers of classes among the numbers below k
abbrev pub heads : List ℕ → ℕ → List ℕ
heads rs zero = []
heads rs (suc k) = heads rs k ++ (if get_or rs k 0 == k then k ∷ [] else [])

-- the names of the class of r among those below k
abbrev pub members : List ℕ → List (List ℕ) → ℕ → ℕ → List (List ℕ)
members rs of zero r = []
members rs of (suc k) r = members rs of k r ++ (if get_or rs k 0 == r then get_or of k [] ∷ [] else [])

-- the names below k, class by class
unfoldable pub by_class : List ℕ → List (List ℕ) → ℕ → List (List (List ℕ))
by_class rs of k = map (members rs of k) (heads rs k)

-- ---- a name more

-- the groups with a name behind those of one
abbrev pub grown : List (List (List ℕ)) → ℕ → List ℕ → List (List (List ℕ))
grown gs p x = slice_set gs p (get_or gs p [] ++ x ∷ [])

-- a group's place: the one that is told, or that of a new group behind the others
abbrev pub Placed : Option ℕ → (old new : List (List (List ℕ))) → ℕ → Type 0
Placed (Some q) old new p = (p ≡ q) × (new ≡ old)
Placed None old new p = (p ≡ length old) × (new ≡ old ++ [] ∷ [])

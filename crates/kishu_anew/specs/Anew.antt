-- A state that is loaded anew from the pictures of its groups.
use Rattle.std.specs.Prelude.{◌≡◌, ◌≤◌, ◌^◌, ℕ, List, length, map}
use Rattle.std.specs.List.{AllZip, sum_by}
use Rattle.std.specs.declared.alloc.Global.{Global}
use Rattle.std.specs.declared.vec.Vec.{Vec}
use Rattle.kishu_meaning.specs.values.Values.{State, empty}
use Rattle.kishu_objects.specs.Groups.{Cuts, groups_of}
use Rattle.kishu_objects.specs.Picture.{picture}
use Rattle.kishu_objects.specs.Same.{Same}
use Rattle.kishu_objects.specs.Sizes.{size_among, most_bytes}
use Rattle.kishu_objects.specs.State.{IsState}
use Rattle.kishu_reading.specs.Pictured.{AreKnown, IsPictureOf}
use Rattle.kishu_history.specs.Checkout.{with_pictures}

-- from so many nodes at most a heap stays as it is
abbrev pub most_kept : ℕ
most_kept = 8000000

-- What pictures can hold: each value, node and name is one of a state, and functions are of the profile that there is.
pub record IsWholeState (s : State) : Type 0 where
  pub state : IsState s
  pub known : AreKnown s.nodes

-- So it is, said as a proposition, which a type's field can hold.
abbrev pub IsWhole : State → Type 0
IsWhole s = ∥ IsWholeState s ∥₁

-- Each bound name is in one of some groups, whose pictures have together at most 2^28 bytes.
abbrev pub IsSmall : State → Type 0
IsSmall s = (gs : List (List (List ℕ))) × Cuts s gs × (size_among gs s ≤ most_bytes)

-- The second is the first one loaded anew, or where that has few nodes the first itself.
pub record IsAnew (s t : State) : Type 0 where
  pub same : Same s t
  pub whole : IsWhole t
  pub few : length t.nodes ≤ length s.nodes
  pub room : length t.nodes ≤ 2 ^ 28
  pub stays : length s.nodes ≤ most_kept → t ≡ s

-- the state into which the pictures of a state's groups bring an empty one
abbrev pub loaded_anew : State → State
loaded_anew s = with_pictures (map (picture s) (groups_of s)) empty

-- ---- pictures as bytes

-- the bytes of each
abbrev pub contents : List (Vec ℕ Global) → List (List ℕ)
contents ps = map (λ p. p.items) ps

-- how many they are together
abbrev pub taken_by : List (List ℕ) → ℕ
taken_by ps = sum_by (λ p. length p) ps

-- Each is a picture.
abbrev pub ArePictures : List (List ℕ) → Type 0
ArePictures bytes = ∥ ((ps : List State) × AllZip IsPictureOf bytes ps) ∥₁

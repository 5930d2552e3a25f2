-- When groups cut a state.
use Rattle.std.specs.Prelude.{◌≡◌, ◌↔◌, ℕ, List}
use Rattle.kishu_meaning.specs.values.Values.{State}
use Rattle.kishu_objects.specs.Picture.{listed}
use Rattle.kishu_objects.specs.Groups.{Touch}
use Rattle.kishu_objects.specs.Lists.{In}
use Rattle.kishu_history.specs.Changed.{Group}

-- The state's bound names are just theirs, groups that share a node are one, and so are groups that share a name. Whole groups of a state do, and so do coarser ones, as all names in one.
pub record IsCut (gs : List Group) (s : State) : Type 0 where
  pub bound : (x : List ℕ) → (In x (listed s) ↔ ((g : Group) × In g gs × In x g))
  pub apart : (g h : Group) (x y : List ℕ) → In g gs → In h gs → In x g → In y h → Touch s x y → g ≡ h
  pub one : (g h : Group) (x : List ℕ) → In g gs → In h gs → In x g → In x h → g ≡ h

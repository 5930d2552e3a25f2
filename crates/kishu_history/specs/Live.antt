-- When a live state is the one that a table tells, and what may be loaded for a row.
use Rattle.std.specs.Prelude.{◌≡◌, ◌↔◌, ℕ, List}
use Rattle.kishu_meaning.specs.values.Values.{State}
use Rattle.kishu_objects.specs.Picture.{picture, listed, whole}
use Rattle.kishu_objects.specs.Groups.{Touch}
use Rattle.kishu_objects.specs.Lists.{In, Rise}
use Rattle.kishu_objects.specs.Sound.{IsSound}
use Rattle.kishu_objects.specs.State.{IsState}
use Rattle.kishu_objects.specs.States.{IsSoundState}
use Rattle.kishu_history.specs.Tables.{Row, Table}

-- Where `at` says which picture is stored for a row: the bound names are just those of the rows, rows that share a node are one, and each row has its stored picture.
pub record IsLive (at : Row → State → Type 0) (t : Table) (s : State) : Type 0 where
  pub state : IsSoundState s
  pub bound : (x : List ℕ) → (In x (listed s) ↔ ((r : Row) × In r t × In x r.group))
  pub apart : (r q : Row) (x y : List ℕ) → In r t → In q t → In x r.group → In y q.group → Touch s x y → r ≡ q
  pub pictures : (r : Row) → In r t → at r (picture s r.group)

-- What laws ask of a state that is loaded for a row: it binds just the row's names, is its own picture, and is stored for the row. Whether its values, nodes and names are those of a state (`IsState`) is not asked, so bytes of which this holds needn't be a picture: a range with step 0 is let through. `IsStoredPicture` asks it.
pub record IsPictureOf (at : Row → State → Type 0) (r : Row) (p : State) : Type 0 where
  pub sound : IsSound p
  pub names : listed p ≡ r.group
  pub rise : Rise (listed p)
  pub own : whole p ≡ p
  pub stored : at r p

-- A picture that is stored for a row: a state besides, so its values, nodes and names are those of one.
pub record IsStoredPicture (at : Row → State → Type 0) (r : Row) (p : State) : Type 0 where
  pub state : IsState p
  pub loads : IsPictureOf at r p

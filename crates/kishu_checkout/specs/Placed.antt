-- What is left where groups are dropped and the pictures of rows are loaded, and where there is a picture that isn't its row's.
use Rattle.std.specs.Prelude.{◌≡◌, ◌⊎◌, ℕ, List, [], ◌∷◌, map}
use Rattle.std.specs.List.{AllZip}
use Rattle.kishu_host.specs.Host as host
use Rattle.kishu_meaning.specs.values.Values.{State}
use Rattle.kishu_objects.specs.Picture.{listed}
use Rattle.kishu_reading.specs.Pictured as reading
use Rattle.kishu_store.specs.Groups.{Group}
use Rattle.kishu_store.specs.Tables.{Table, groups_in}
use Rattle.kishu_history.specs.Checkout.{carried}
use Rattle.kishu_checkout.specs.Fetched.{AreFetched, LacksBytes}
use Rattle.kishu_checkout.specs.Groups.{IsNoneOf, IsOneOf}

-- Each of these is a picture of just its row's names, and what is left is the state without the names of these groups and with the pictures loaded, in the rows' order.
pub record ArePlaced (gone : List Group) (t : Table) (bytes : List (List ℕ)) (before after : State) : Type 0 where
  pub pictures : List State
  pub told : AllZip reading.IsPictureOf bytes pictures
  pub names : map listed pictures ≡ groups_in t
  pub is : after ≡ carried gone pictures before

-- The first of these that isn't a picture of just its row's names is that of the row with this place.
abbrev pub FailsAt : Table → List (List ℕ) → ℕ → Type 0
FailsAt (r ∷ rs) (b ∷ bs) at = (IsNoneOf r.group b × (at ≡ r.place)) ⊎ (IsOneOf r.group b × FailsAt rs bs at)
FailsAt [] bs at = ⊥
FailsAt (r ∷ rs) [] at = ⊥

-- ---- what is read first and then placed

-- What is left where bytes that are read for the rows are placed.
pub record IsCarriedOut (s : host.State) (gone : List Group) (t : Table) (before after : State) : Type 0 where
  pub bytes : List (List ℕ)
  pub fetched : AreFetched s t bytes
  pub placed : ArePlaced gone t bytes before after

-- Of bytes that are read for the rows, the first that aren't a picture of just their row's names are those of the row with this place.
pub record FailsFirst (s : host.State) (t : Table) (at : ℕ) : Type 0 where
  pub bytes : List (List ℕ)
  pub fetched : AreFetched s t bytes
  pub fails : FailsAt t bytes at

-- The file ends before the picture of the row with this place does, or it is the first of them all that isn't one.
abbrev pub IsFirstDamage : host.State → Table → ℕ → Type 0
IsFirstDamage s t at = LacksBytes s t at ⊎ FailsFirst s t at

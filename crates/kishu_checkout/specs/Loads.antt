-- What the loading of a table leaves.
use Rattle.std.specs.Prelude.{◌≡◌, ℕ, List, [], Option}
use Rattle.std.specs.List.{AllZip}
use Rattle.kishu_meaning.specs.values.Values.{State, empty}
use Rattle.kishu_store.specs.Groups.{Group}
use Rattle.kishu_store.specs.Tables.{Table}
use Rattle.kishu_history.specs.Checkout.{carried}
use Rattle.kishu_history.specs.Live.{IsPictureOf}
use Rattle.kishu_history.specs.Stored.{Held, Stored}

-- A picture that is stored for each of these rows was loaded, in the rows' order, after the names of these groups were unbound.
pub record AreCarried (file : Option (List ℕ)) (gone : List Group) (t : Table) (before after : State) : Type 0 where
  pub pictures : List State
  pub each : AllZip (IsPictureOf (Stored file)) t pictures
  pub is : after ≡ carried gone pictures before

-- These are the pictures that the file holds for the rows, and the state is what they leave of the empty one, loaded in the rows' order.
pub record IsLoadedFrom (file : List ℕ) (t : Table) (u : State) : Type 0 where
  pub pictures : List State
  pub each : AllZip (IsPictureOf (Held file)) t pictures
  pub is : u ≡ carried [] pictures empty

-- Which pictures of a table's rows a file holds, and what is found where one can't be loaded.
use Rattle.std.specs.Prelude.{◌≡◌, ℕ, if◌then◌else◌, List, Option, Some, None}
use Rattle.kishu_host.specs.Host as host
use Rattle.kishu_meaning.specs.values.Values.{State}
use Rattle.kishu_objects.specs.Lists.{In}
use Rattle.kishu_reading.specs.Pictured.{AreKnown}
use Rattle.kishu_store.specs.Tables.{Row, Table}
use Rattle.kishu_history.specs.Live.{IsStoredPicture}
use Rattle.kishu_history.specs.Stored.{Held}

-- the file, where the host tells it
abbrev pub told_file : host.State → Option (List ℕ)
told_file s = if s.tells then Some s.file else None

-- The file holds this picture for the row, and it may be loaded: its functions are of the profile that there is.
abbrev pub CanBeLoaded : List ℕ → Row → State → Type 0
CanBeLoaded file r p = IsStoredPicture (Held file) r p × AreKnown p.nodes

-- The file holds none for the row that may be loaded.
abbrev pub HasNone : List ℕ → Row → Type 0
HasNone file r = (p : State) → CanBeLoaded file r p → ⊥

-- It holds one for each row of the table.
abbrev pub HasEach : List ℕ → Table → Type 0
HasEach file t = (r : Row) → In r t → (p : State) × CanBeLoaded file r p

-- At this place a row of the table has its picture; where the host tells its file, there is none.
pub record LacksAt (s : host.State) (t : Table) (at : ℕ) : Type 0 where
  pub row : Row
  pub there : In row t
  pub place : at ≡ row.place
  pub none : host.Told s (HasNone s.file row)

-- Where the host tells its file, it doesn't hold one for each row.
abbrev pub LacksSome : host.State → Table → Type 0
LacksSome s t = host.Told s (HasEach s.file t → ⊥)

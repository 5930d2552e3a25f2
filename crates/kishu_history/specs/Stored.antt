-- What a file holds for the rows of tables.
use Rattle.std.specs.Prelude.{◌≡◌, ◌≤◌, ℕ, List, [], ◌∷◌, ◌++◌, length, Option, Some, None}
use Rattle.kishu_meaning.specs.values.Values.{State}
use Rattle.kishu_objects.specs.Bytes.{state_bytes}
use Rattle.kishu_objects.specs.Picture.{picture}
use Rattle.kishu_objects.specs.Fits.{StateFits}
use Rattle.kishu_objects.specs.Lists.{In}
pub use Rattle.kishu_store.specs.Tables.{bytes_at}
use Rattle.kishu_history.specs.Tables.{Row, Table, groups_in, Change}
use Rattle.kishu_history.specs.Touched.{stored_among}

-- The file holds this picture at the row's place. The picture is one that bytes can tell: its numbers, texts and lengths fit.
pub record Held (file : List ℕ) (r : Row) (p : State) : Type 0 where
  pub bytes : bytes_at file r ≡ state_bytes p
  pub len : length (state_bytes p) ≡ r.len
  pub fits : StateFits p

-- The same, with nothing asked of the picture: the file has its bytes there.
pub record IsWritten (file : List ℕ) (r : Row) (p : State) : Type 0 where
  pub bytes : bytes_at file r ≡ state_bytes p
  pub len : length (state_bytes p) ≡ r.len

-- The picture has the length that the row tells: what is known where the host tells no file.
pub record HasLength (r : Row) (p : State) : Type 0 where
  pub len : length (state_bytes p) ≡ r.len
  pub fits : StateFits p

-- what is known to be stored for a row: the picture in the file, or where the host tells none, its length
abbrev pub Stored : Option (List ℕ) → Row → State → Type 0
Stored (Some file) r p = Held file r p
Stored None r p = HasLength r p

-- The bytes at the rows' places are in the second file as in the first.
abbrev pub Keeps : (file grown : List ℕ) → Table → Type 0
Keeps file grown t = (r : Row) → In r t → bytes_at file r ≡ bytes_at grown r

-- So it is for the rows of each record up to this commit's.
abbrev pub KeepsRecords : (file grown : List ℕ) → (newest : ℕ) → (ℕ → Change) → Type 0
KeepsRecords file grown newest of = (c : ℕ) → c ≤ newest → Keeps file grown (of c).stored

-- pictures as a record has them, one behind another
abbrev pub joined : List (List ℕ) → List ℕ
joined [] = []
joined (p ∷ ps) = p ++ joined ps

-- The rows that a commit stores after a cell that leads from s to u: they have just the groups that are told among the touched names, this commit for their version, and the pictures of these groups in the file.
pub record AreNewRows (file : List ℕ) (commit : ℕ) (t : Table) (s : State) (accessed : List (List ℕ)) (u : State) (rows : Table) : Type 0 where
  pub groups : groups_in rows ≡ stored_among (groups_in t) (picture s) accessed u
  pub version : (r : Row) → In r rows → r.version ≡ commit
  pub held : (r : Row) → In r rows → Held file r (picture u r.group)

-- What a commit says of the state that its cells left, told by its parent's table among the names that they accessed.
use Rattle.std.specs.Prelude.{◌≡◌, ℕ, suc, ◌+◌, ◌<◌, ◌≤◌, Bool, true, List, [], ◌∷◌, length, map, flat_map, Option}
use Rattle.std.specs.List.{AllByRecursion}
use Rattle.kishu_meaning.specs.values.Values.{State}
use Rattle.kishu_objects.specs.Bytes.{picture_bytes}
use Rattle.kishu_objects.specs.Fits.{StateFits}
use Rattle.kishu_objects.specs.Lists.{In}
use Rattle.kishu_objects.specs.Picture.{picture}
use Rattle.kishu_store.specs.Entries.{Entry, commit, Record}
use Rattle.kishu_store.specs.EntryBytes.{group_bytes}
use Rattle.kishu_store.specs.Graph.{newest}
use Rattle.kishu_store.specs.Groups.{Group}
use Rattle.kishu_store.specs.Histories.{History, before_body, before_pictures, head_table}
use Rattle.kishu_store.specs.Limits.{newest_profile, most_pictured}
use Rattle.kishu_store.specs.Rules.{AreCells}
use Rattle.kishu_store.specs.Tables.{Row, Table, Change, groups_in, rows_from}
use Rattle.kishu_model.specs.requests.Cells.{texts_size, largest_texts}
use Rattle.kishu_history.specs.Alike.{is_state}
use Rattle.kishu_history.specs.Stored.{Stored}
use Rattle.kishu_history.specs.Touched.{classes, dropped_among, stored_among}
use Rattle.kishu_delta.specs.Deltas.{dropped_by, stored_by}

-- a group with the length of its picture
abbrev pub measured : State → Group → Group × ℕ
measured u g = (g, length (picture_bytes u g))

-- groups with the lengths of these pictures
abbrev pub with_lengths : List Group → List (List ℕ) → List (Group × ℕ)
with_lengths [] ps = []
with_lengths (g ∷ gs) [] = []
with_lengths (g ∷ gs) (p ∷ ps) = (g, length p) ∷ with_lengths gs ps

-- what a commit of cells says that drops these groups and stores those, with these pictures
abbrev pub record_with : (parent : ℕ) → (cells : List (List ℕ)) → (dropped stored : List Group) → (pictures : List (List ℕ)) → Record
record_with parent cells dropped stored pictures = record { entry = commit parent newest_profile cells dropped (with_lengths stored pictures); pictures = pictures }

-- ---- of groups that are dropped and stored

-- What a commit says that drops these groups, and stores those with the pictures that they have in a state,
abbrev pub entry_by : (parent : ℕ) → (cells : List (List ℕ)) → (dropped stored : List Group) → State → Entry
entry_by parent cells dropped stored u = commit parent newest_profile cells dropped (map (measured u) stored)

-- and with these pictures.
abbrev pub record_by : (parent : ℕ) → (cells : List (List ℕ)) → (dropped stored : List Group) → State → Record
record_by parent cells dropped stored u = record { entry = entry_by parent cells dropped stored u; pictures = map (picture_bytes u) stored }

-- the same behind the records of a history, whose head is the commit's parent
abbrev pub next_entry_by : History → (cells : List (List ℕ)) → (dropped stored : List Group) → State → Entry
next_entry_by h cells dropped stored u = entry_by h.graph.head.commit cells dropped stored u

abbrev pub next_record_by : History → (cells : List (List ℕ)) → (dropped stored : List Group) → State → Record
next_record_by h cells dropped stored u = record_by h.graph.head.commit cells dropped stored u

-- the rows of what it stores there
abbrev pub rows_by : History → (cells : List (List ℕ)) → (dropped stored : List Group) → State → Table
rows_by h cells dropped stored u =
    rows_from (suc (newest h.graph)) (h.place + before_body + before_pictures (next_entry_by h cells dropped stored u)) (map (measured u) stored)

-- the change of a table that drops these groups and stores those rows
abbrev pub change_by : (dropped : List Group) → (rows : Table) → Change
change_by dropped rows = record { dropped = dropped; stored = rows }

-- Both lists are told by one test which classes of the names that were accessed stay.
abbrev pub AreToldBy : Table → (accessed : List (List ℕ)) → State → (same : Group → Bool) → (dropped stored : List Group) → Type 0
AreToldBy t accessed u same dropped stored = (dropped ≡ dropped_by (groups_in t) accessed u same) × (stored ≡ stored_by (groups_in t) accessed u same)

-- ---- after cells

-- the test by which those stay that have their picture still
abbrev pub is_still : State → State → Group → Bool
is_still s u g = is_state (picture u g) (picture s g)

-- From the table before cells, the state that it tells, the names that they accessed, and the state that they left: the groups that are dropped,
abbrev pub dropped_told : Table → State → List (List ℕ) → State → List Group
dropped_told t s accessed u = dropped_among (groups_in t) (picture s) accessed u

-- those that are stored,
abbrev pub groups_told : Table → State → List (List ℕ) → State → List Group
groups_told t s accessed u = stored_among (groups_in t) (picture s) accessed u

-- the same with the lengths of their pictures,
abbrev pub stored_told : Table → State → List (List ℕ) → State → List (Group × ℕ)
stored_told t s accessed u = map (measured u) (groups_told t s accessed u)

-- these pictures,
abbrev pub pictures_told : Table → State → List (List ℕ) → State → List (List ℕ)
pictures_told t s accessed u = map (picture_bytes u) (groups_told t s accessed u)

-- and what the commit says.
abbrev pub told_entry : (parent : ℕ) → (cells : List (List ℕ)) → Table → State → List (List ℕ) → State → Entry
told_entry parent cells t s accessed u = entry_by parent cells (dropped_told t s accessed u) (groups_told t s accessed u) u

abbrev pub told_record : (parent : ℕ) → (cells : List (List ℕ)) → Table → State → List (List ℕ) → State → Record
told_record parent cells t s accessed u = record_by parent cells (dropped_told t s accessed u) (groups_told t s accessed u) u

-- the same behind the records of a history, whose head is the commit's parent
abbrev pub next_entry : History → (cells : List (List ℕ)) → State → List (List ℕ) → State → Entry
next_entry h cells s accessed u = told_entry h.graph.head.commit cells (head_table h) s accessed u

abbrev pub next_record : History → (cells : List (List ℕ)) → State → List (List ℕ) → State → Record
next_record h cells s accessed u = told_record h.graph.head.commit cells (head_table h) s accessed u

-- the rows of what it stores there
abbrev pub next_rows : History → (cells : List (List ℕ)) → State → List (List ℕ) → State → Table
next_rows h cells s accessed u = rows_by h cells (dropped_told (head_table h) s accessed u) (groups_told (head_table h) s accessed u) u

-- ---- what is asked

-- The pictures of these groups are ones that bytes can tell.
abbrev pub PicturesFit : State → List Group → Type 0
PicturesFit u gs = AllByRecursion (λ g. StateFits (picture u g)) gs

-- So are those that are stored.
abbrev pub CanBeStored : Table → State → List (List ℕ) → State → Type 0
CanBeStored t s accessed u = PicturesFit u (groups_told t s accessed u)

-- Of each row whose group is such a class and passes the test the picture now is what is known to be stored: it lies in the file, or where the host tells none, it has the row's length.
abbrev pub StayStored : (file : Option (List ℕ)) → Table → (accessed : List (List ℕ)) → State → (same : Group → Bool) → Type 0
StayStored file t accessed u same = (r : Row) → In r t → In r.group (classes (groups_in t) accessed u) → same r.group ≡ true → Stored file r (picture u r.group)

-- Cells that a commit may hold: one at least, and together not too long.
pub record MayBeCommitted (texts : List (List ℕ)) : Type 0 where
  pub some : 0 < length texts
  pub cells : AreCells texts
  pub size : texts_size texts ≤ largest_texts

-- The names of the table's groups take at most what its pictures may.
abbrev pub HasShortNames : Table → Type 0
HasShortNames t = length (flat_map group_bytes (groups_in t)) ≤ most_pictured

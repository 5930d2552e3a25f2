-- What a session keeps of its store, and the state at its head.
use Rattle.std.specs.Prelude.{◌≡◌, ◌≤◌, ◌*◌, ◌^◌, ℕ, List, Option, Some, None}
use Rattle.kishu_host.specs.Host.{State}
use Rattle.kishu_meaning.specs.values.Values as values
use Rattle.kishu_store.specs.Graph.{Graph, newest, count_of}
use Rattle.kishu_store.specs.Groups.{Group}
use Rattle.kishu_store.specs.Histories.{History, head_table, table_to}
use Rattle.kishu_store.specs.Tables.{Table, bytes_in, groups_in}
use Rattle.kishu_graph.specs.Kept.{Kept}
use Rattle.kishu_graph.specs.Tables.{table_of_rows}
use Rattle.kishu_history.specs.Checkout.{to_load, to_drop}
use Rattle.kishu_history.specs.Live.{IsLive}
use Rattle.kishu_history.specs.Stored.{Stored}
use Rattle.kishu_delta.specs.Kept.{KeepsJust}
use Rattle.kishu_journal.specs.Going.{ReadsAtMost}
use Rattle.kishu_checkout.specs.Loads.{AreCarried, IsLoadedFrom}
use Rattle.kishu_checkout.specs.Pictures.{LacksAt, LacksSome}
use Rattle.kishu_session.specs.Known.{IsHistoryOf}
use Rattle.kishu_session.specs.Lives.{state_of}
use Rattle.kishu_session.specs.Renewing.{Starts}
use Rattle.kishu_session.specs.declared.head.Head.{Head}

-- ---- the cells on the path

-- It counts the cells on the path to the graph's head. A commit has fewer than 2^32.
pub record CountsPath (head : Head) (g : Graph) : Type 0 where
  pub is : head.cells ≡ count_of g g.head.commit
  pub few : head.cells ≤ newest g * 2 ^ 32

-- The same in each history that is kept.
abbrev pub Counts : Head → Type 0
Counts head = (h : History) → IsHistoryOf head.graph h → CountsPath head h.graph

-- So many cells are on the path to that commit, fewer than 2^32 a commit.
pub record CountsTo (kept : Kept) (c n : ℕ) : Type 0 where
  pub is : (h : History) → IsHistoryOf kept h → n ≡ count_of h.graph c
  pub few : n ≤ c * 2 ^ 32

-- ---- the live state

-- Where a host tells this of its file: the names of the live state are just those of the rows of the table of the history's head, no two of these share a node, and each has the picture that is stored for it.
abbrev pub LivesAt : Option (List ℕ) → Head → History → Type 0
LivesAt file head h = IsLive (Stored file) (head_table h) (state_of head.live)

-- The same of each history that is kept. (They have one table.)
abbrev pub Lives : Option (List ℕ) → Head → Type 0
Lives file head = (h : History) → IsHistoryOf head.graph h → LivesAt file head h

-- The table of the history's head is kept, and just of its groups the digests of the pictures in the live state.
pub record KeepsTable (head : Head) (h : History) : Type 0 where
  pub table : table_of_rows head.table ≡ head_table h
  pub pictures : KeepsJust head.kept (groups_in (head_table h)) (state_of head.live)

-- That table is kept, whichever history is meant.
abbrev pub KeepsHeadTable : Head → Type 0
KeepsHeadTable head = (h : History) → IsHistoryOf head.graph h → table_of_rows head.table ≡ head_table h

-- Where the file is told, the live state is what its pictures leave of the empty one that are stored for the rows of the head's table.
abbrev pub IsGiven : Option (List ℕ) → Head → History → Type 0
IsGiven None head h = Unit {0}
IsGiven (Some file) head h = IsLoadedFrom file (head_table h) (state_of head.live)

-- It was loaded for that table, and this and the digests of its pictures are kept.
pub record IsLoadedAt (file : Option (List ℕ)) (head : Head) (h : History) : Type 0 where
  pub lives : LivesAt file head h
  pub given : IsGiven file head h
  pub held : KeepsTable head h

-- So it is for the head's table in each history that is kept.
abbrev pub IsLoaded : Option (List ℕ) → Head → Type 0
IsLoaded file head = (h : History) → IsHistoryOf head.graph h → IsLoadedAt file head h

-- ---- a state that was carried on

-- The rows whose pictures are loaded on the way from one table to another, and the groups whose names are unbound: those of the heads.
abbrev pub rows_to_load : (old new : Head) → Table
rows_to_load old new = to_load (table_of_rows old.table) (table_of_rows new.table)

abbrev pub groups_to_drop : (old new : Head) → List Group
groups_to_drop old new = to_drop (table_of_rows old.table) (table_of_rows new.table)

-- Now the table of the head's commit is kept, in each history that is kept. Where a host tells this of its file, the live state is this one with the pictures loaded that are stored for the rows to load, after the names of the groups to drop were unbound; and just of the table's groups the digests of the pictures in it are kept.
pub record CarriesFrom (file : Option (List ℕ)) (start : values.State) (old new : Head) : Type 0 where
  pub to : (h : History) → IsHistoryOf new.graph h → table_of_rows new.table ≡ head_table h
  pub state : AreCarried file (groups_to_drop old new) (rows_to_load old new) start (state_of new.live)
  pub pictures : KeepsJust new.kept (groups_in (table_of_rows new.table)) (state_of new.live)

-- So it is from the live state.
abbrev pub Carries : Option (List ℕ) → (old new : Head) → Type 0
Carries file old new = CarriesFrom file (state_of old.live) old new

-- So it came from the table of the head before, which was kept, and from the state before, loaded anew or not.
pub record IsCarried (file : Option (List ℕ)) (old new : Head) : Type 0 where
  pub from : (h : History) → IsHistoryOf old.graph h → table_of_rows old.table ≡ head_table h
  pub start : values.State
  pub starts : Starts (state_of old.live) start
  pub carries : CarriesFrom file start old new

-- What is kept of the table of some commit, in each history that is kept: the live state is the one that this table tells, by the lengths of its pictures, and just of its groups the digests of the pictures in it are kept.
pub record KeepsSome (head : Head) : Type 0 where
  pub commit : ℕ
  pub table : (h : History) → IsHistoryOf head.graph h → table_of_rows head.table ≡ table_to h commit
  pub lives : IsLive (Stored None) (table_of_rows head.table) (state_of head.live)
  pub pictures : KeepsJust head.kept (groups_in (table_of_rows head.table)) (state_of head.live)

-- ---- pictures that aren't there

-- At this place a row of the table has no picture; and so not each row has one.
pub record Lacks (s : State) (t : Table) (at : ℕ) : Type 0 where
  pub lacks : LacksAt s t at
  pub some : LacksSome s t

-- So it is with the rows that are to be loaded, from the table that is kept to that of the head's commit.
abbrev pub LacksToLoad : Head → State → ℕ → Type 0
LacksToLoad head s at = (h : History) → IsHistoryOf head.graph h → Lacks s (to_load (table_of_rows head.table) (head_table h)) at

-- So it is with the head's table.
abbrev pub LacksAtHead : Kept → State → ℕ → Type 0
LacksAtHead kept s at = (h : History) → IsHistoryOf kept h → Lacks s (head_table h) at

-- ---- the bytes that are read

-- At most the pictures of those rows were read.
abbrev pub ReadsToLoad : Head → (s t : State) → Type 0
ReadsToLoad head s t = (h : History) → IsHistoryOf head.graph h → ReadsAtMost s.reads t.reads (bytes_in (to_load (table_of_rows head.table) (head_table h)))

-- At most those of the head's table.
abbrev pub ReadsAtHead : Kept → (s t : State) → Type 0
ReadsAtHead kept s t = (h : History) → IsHistoryOf kept h → ReadsAtMost s.reads t.reads (bytes_in (head_table h))

-- ---- whatever the host tells

-- The history is kept, its records end at that place, the cells on the path to its head are counted, the live state has the names of the head's table, and pictures of the lengths that this tells; and that table is kept, and the digests of these pictures.
pub record IsHeadOf (head : Head) (place : ℕ) (h : History) : Type 0 where
  pub kept : IsHistoryOf head.graph h
  pub place_is : h.place ≡ place
  pub count : CountsPath head h.graph
  pub lives : LivesAt None head h
  pub held : KeepsTable head h

-- There is such a history.
abbrev pub IsKnown : Head → ℕ → Type 0
IsKnown head place = ∥ ((h : History) × IsHeadOf head place h) ∥₁

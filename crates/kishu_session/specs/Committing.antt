-- The commit of cells that were run, with the state that they left.
use Rattle.std.specs.Prelude.{◌≡◌, ◌≤◌, ℕ, suc, List, Option, None, Some}
use Rattle.kishu_meaning.specs.values.Values.{State}
use Rattle.kishu_store.specs.Entries.{Record}
use Rattle.kishu_store.specs.Graph.{Graph, newest}
use Rattle.kishu_store.specs.Groups.{Group}
use Rattle.kishu_store.specs.Histories.{History, Follows, head_table, led}
use Rattle.kishu_store.specs.Limits.{newest_profile}
use Rattle.kishu_store.specs.Rules.{IsRecord}
use Rattle.kishu_store.specs.Tables.{Table}
use Rattle.kishu_objects.specs.Sizes.{most_bytes}
use Rattle.kishu_objects.specs.States.{IsSoundState}
use Rattle.kishu_history.specs.Accessed.{accessed_by}
use Rattle.kishu_history.specs.Live.{IsLive}
use Rattle.kishu_history.specs.Stored.{Stored}
use Rattle.kishu_live_laws.specs.OnStates.{left_size}
use Rattle.kishu_graph.specs.Kept.{Kept, KeepsHistory, HasShapeOf}
use Rattle.kishu_graph.specs.Tables.{table_of_rows}
use Rattle.kishu_record.specs.Entries as entries
use Rattle.kishu_delta.specs.Deltas.{table_groups}
use Rattle.kishu_delta.specs.Kept.{KeepsJust}
use Rattle.kishu_commit.specs.Told.{next_record, next_record_by, CanBeStored}
use Rattle.kishu_commit.specs.declared.committing.Record as rust
use Rattle.kishu_session.specs.Head.{CountsPath, KeepsTable}
use Rattle.kishu_session.specs.Known.{IsHistoryOf}
use Rattle.kishu_session.specs.Lives.{state_of}
use Rattle.kishu_session.specs.Renewing.{IsLeft}
use Rattle.kishu_session.specs.Running.{AreSameNames}
use Rattle.kishu_session.specs.declared.committing.Committed.{Committed}
use Rattle.kishu_session.specs.declared.head.Head.{Head}

-- the record that a value of the program is
abbrev pub record_of : rust.Record → Record
record_of r = entries.record_of r.entry r.pictures.items

-- the number of a further commit
abbrev pub IsNextNumber : Kept → ℕ → Type 0
IsNextNumber kept number = (g : Graph) → HasShapeOf kept g → number ≡ suc (newest g)

-- ---- cells that were run

-- A history is kept whose records end at this place, and the table is that of its head.
abbrev pub HasTable : Head → (place : ℕ) → Type 0
HasTable head place = ∥ ((h : History) × IsHistoryOf head.graph h × (h.place ≡ place) × (table_of_rows head.table ≡ head_table h)) ∥₁

-- The cells ran from a state that the table tells, and just of the table's groups the digests of the pictures in it are kept. They accessed the names that are recorded, and left a state that is the same as the live one, which isn't too large as the table tells it.
pub record HasRun (place : ℕ) (before : State) (head : Head) (cells : List (List ℕ)) : Type 0 where
  pub known : HasTable head place
  pub told : IsLive (Stored None) (table_of_rows head.table) before
  pub pictures : KeepsJust head.kept (table_groups head.table) before
  pub left : IsLeft cells before (state_of head.live)
  pub sound : IsSoundState (state_of head.live)
  pub accessed : AreSameNames head.live.names.accessed (accessed_by newest_profile cells before)
  pub small : left_size (table_of_rows head.table) cells before ≤ most_bytes

-- ---- their commit

-- The host tells this of its file, and by the pictures that this holds the table tells the state.
abbrev pub IsTold : Option (List ℕ) → Table → State → Type 0
IsTold None t s = ⊥
IsTold (Some file) t s = IsLive (Stored (Some file)) t s

-- In a history that was kept, it drops some groups and stores some with their pictures in the new state, and fits. Where the file that the host tells holds the pictures of the state before, these are the groups that the head's table tells among the names that the cells accessed; their pictures can be told by bytes. The cells on the path are counted with its own.
pub record IsCommit (file : Option (List ℕ)) (h : History) (before : State) (old new : Head) (cells : List (List ℕ)) (r : Record) : Type 0 where
  pub dropped : List Group
  pub stored : List Group
  pub is : r ≡ next_record_by h cells dropped stored (state_of old.live)
  pub told : IsTold file (head_table h) before → r ≡ next_record h cells before (accessed_by newest_profile cells before) (state_of old.live)
  pub fits : Follows h r.entry
  pub can : CanBeStored (head_table h) before (accessed_by newest_profile cells before) (state_of old.live)
  pub count : CountsPath old h.graph → CountsPath new (led h r.entry).graph

-- So it does in each; and where that one's records end at this place, what is kept is the history with it. The new head's table is kept then, which tells the new state by the lengths of its pictures, and the digests of these.
pub record Commits (file : Option (List ℕ)) (place : ℕ) (before : State) (old new : Head) (cells : List (List ℕ)) (c : Committed) : Type 0 where
  pub number : IsNextNumber old.graph c.number
  pub rules : IsRecord (record_of c.recorded)
  pub sound : IsSoundState (state_of old.live)
  pub each : (h : History) → IsHistoryOf old.graph h → IsCommit file h before old new cells (record_of c.recorded)
  pub keeps : (h : History) → IsHistoryOf old.graph h → h.place ≡ place → KeepsHistory new.graph (led h (record_of c.recorded).entry)
  pub lives : IsLive (Stored None) (table_of_rows new.table) (state_of old.live)
  pub held : (h : History) → IsHistoryOf new.graph h → KeepsTable new h

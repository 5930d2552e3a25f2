-- What an opened file holds, and what was found in it.
use Rattle.std.specs.Prelude.{◌≡◌, ℕ, List, []}
use Rattle.kishu_host.specs.Host.{State, Told}
use Rattle.kishu_record.specs.declared.entry.Entry as program
use Rattle.kishu_store.specs.Entries.{Record}
use Rattle.kishu_store.specs.Histories.{AreRecords, new_history}
use Rattle.kishu_store.specs.Holds.{Ends, end_of}
use Rattle.kishu_journal.specs.Found.{ArePlaced}
use Rattle.kishu_journal.specs.Stands.{JournalState}

-- These records fit and end at that place; they are the file's, where the host tells it.
pub record AreRead (s : State) (at : ℕ) (records : List Record) : Type 0 where
  pub fit : AreRecords new_history records
  pub place : at ≡ end_of records
  pub ends : Told s (Ends s.file records)

-- Records that fit say what was found, and end at that place; they are the file's, where the host tells it.
pub record IsOpened (s : State) (at : ℕ) (found : List (ℕ × program.Entry)) : Type 0 where
  pub records : List Record
  pub fit : AreRecords new_history records
  pub placed : ArePlaced [] found records
  pub place : at ≡ end_of records
  pub ends : Told s (Ends s.file records)

-- The journal stands there.
abbrev pub IsFound : State → JournalState → List (ℕ × program.Entry) → Type 0
IsFound s journal found = IsOpened s journal.place found

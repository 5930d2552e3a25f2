-- What the record of a request, or none, makes of a journal and of its host's file.
use Rattle.std.specs.Prelude.{◌≡◌, ◌⊎◌, ℕ, List, [], ◌∷◌, ◌++◌, Option, Some, None}
use Rattle.kishu_host.specs.Host.{State, Told, Only, Elapses}
use Rattle.kishu_store.specs.Entries.{Record}
use Rattle.kishu_store.specs.Graph.{Graph}
use Rattle.kishu_store.specs.Histories.{History}
use Rattle.kishu_store.specs.Holds.{Ends, HasRecords, end_of, history_by}
use Rattle.kishu_journal.specs.Stands.{JournalState}
use Rattle.kishu_session.specs.Prepared.{LeadsTo, led_with}
use Rattle.kishu_session.specs.Written.{IsRecorded}

-- The journal stands at the end of a file that ends with these records.
pub record IsJournalAt (journal : JournalState) (file : List ℕ) (rs : List Record) : Type 0 where
  pub ends : Ends file rs
  pub place : journal.place ≡ end_of rs

-- the records with one more behind them, or without one
abbrev pub with_new : List Record → Option Record → List Record
with_new rs None = rs
with_new rs (Some r) = rs ++ (r ∷ [])

-- It stands at the end of records from which the new one leads to some graph.
abbrev pub MayGoOn : JournalState → State → Option Record → Type 0
MayGoOn journal s r = Told s ((rs : List Record) × (now : Graph) × IsJournalAt journal s.file rs × LeadsTo (history_by rs) r now)

-- It stands behind the new one then.
abbrev pub GoesOn : (old new : JournalState) → (s t : State) → Option Record → Type 0
GoesOn old new s t r = Told s ((rs : List Record) (now : Graph) → IsJournalAt old s.file rs → LeadsTo (history_by rs) r now → IsJournalAt new t.file (with_new rs r))

-- It keeps the place at which the records end then.
abbrev pub MovesOn : (old new : JournalState) → Option Record → Type 0
MovesOn old new r = (h : History) → h.place ≡ old.place → (led_with h r).place ≡ new.place

-- The file is the old one with one record more, or it is the old one.
abbrev pub Records : JournalState → (s t : State) → Type 0
Records journal s t = Told s ((rs : List Record) → IsJournalAt journal s.file rs → IsRecorded s.file t.file)

abbrev pub RecordsAtMost : JournalState → (s t : State) → Type 0
RecordsAtMost journal s t = Told s ((rs : List Record) → IsJournalAt journal s.file rs → (t.file ≡ s.file) ⊎ IsRecorded s.file t.file)

-- A stop leaves the file as it reads, and nothing else.
abbrev pub IsDurable : State → Type 0
IsDurable s = Only s.file s.may_leave

abbrev pub StaysDurable : (s t : State) → Type 0
StaysDurable s t = Told s (IsDurable s → IsDurable t)

-- A stop leaves the output as it was, and the records with the new one or without it.
abbrev pub WithOrWithout : State → List Record → Option Record → (file out : List ℕ) → Type 0
WithOrWithout s rs r file out = (out ≡ s.out) × (HasRecords file rs ⊎ HasRecords file (with_new rs r))

-- So it is at any moment.
abbrev pub LeavesOne : JournalState → (s t : State) → Option Record → Type 0
LeavesOne journal s t r =
    Told s (IsDurable s → (rs : List Record) (now : Graph) → IsJournalAt journal s.file rs → LeadsTo (history_by rs) r now → Elapses s t (WithOrWithout s rs r))

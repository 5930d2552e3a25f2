-- What opening and requests leave of a file's bytes.
use Rattle.std.specs.Prelude.{◌≡◌, ℕ, nat_le, if◌then◌else◌, List, length}
use Rattle.kishu_host.specs.Host.{State}
use Rattle.kishu_store.specs.Entries.{Record}
use Rattle.kishu_store.specs.EntryBytes.{body_of}
use Rattle.kishu_store.specs.Graph.{Graph}
use Rattle.kishu_store.specs.Holds.{Ends, Holds, end_of, fresh_length}
use Rattle.kishu_journal.specs.Bytes.{fresh, appended}

-- a file as opening leaves it: a short one is begun anew
abbrev pub begun : List ℕ → List ℕ
begun file = if nat_le (length file) fresh_length then fresh else file

-- the file with one record more behind its records, and the gate 0 behind that
abbrev pub IsRecorded : List ℕ → List ℕ → Type 0
IsRecorded old new = (rs : List Record) × (r : Record) × Ends old rs × (new ≡ appended (end_of rs) (body_of r) old)

-- The file holds a graph, or none.
abbrev pub HoldsSome : List ℕ → Type 0
HoldsSome file = (g : Graph) × Holds file g

abbrev pub HoldsNone : List ℕ → Type 0
HoldsNone file = (g : Graph) → Holds file g → ⊥

-- File and output are as they were.
pub record Stays (old new : State) : Type 0 where
  pub file : new.file ≡ old.file
  pub out : new.out ≡ old.out

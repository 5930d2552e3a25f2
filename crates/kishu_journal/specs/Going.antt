-- What the calls of a journal leave of a host.
use Rattle.std.specs.Prelude.{◌≡◌, ◌≤◌, ◌⊎◌, ℕ, ◌+◌, List, length, Option, Some, IfSome}
use Rattle.kishu_host.specs.Host.{State, Now, Keeps, Elapses}
use Rattle.kishu_store.specs.Entries.{Entry, Record}
use Rattle.kishu_store.specs.Fitting.{changed}
use Rattle.kishu_store.specs.Holds.{Holds, HasRecords, graph_of, fresh_length}
use Rattle.kishu_journal.specs.Stands.{with_record}

-- a stop leaves the output as it was, and the graph of these records, or that graph changed by the new one
abbrev pub WithOrWithout : State → List Entry → Entry → List ℕ → List ℕ → Type 0
WithOrWithout s entries e c o = (o ≡ s.out) × (Holds c (graph_of entries) ⊎ Holds c (changed (graph_of entries) e))

-- a stop leaves the output as it was, and these records with their pictures, or that one behind them
abbrev pub WithOrWithoutRecord : State → List Record → Record → List ℕ → List ℕ → Type 0
WithOrWithoutRecord s rs r c o = (o ≡ s.out) × (HasRecords c rs ⊎ HasRecords c (with_record rs r))

-- a stop leaves the output as it was, and a file that is short enough to be begun anew
abbrev pub LeavesShort : State → List ℕ → List ℕ → Type 0
LeavesShort s c o = (o ≡ s.out) × (length c ≤ fresh_length)

-- calls that change no content
pub record IsQuiet (old new : State) : Type 0 where
  pub keeps : Keeps old new
  pub time : Elapses old new (Now old)
  pub disk : old.disk_faults ≤ new.disk_faults
  pub outs : old.out_faults ≤ new.out_faults

-- The number of bytes read has grown by at most n, where it is told.
abbrev pub ReadsAtMost : Option ℕ → Option ℕ → ℕ → Type 0
ReadsAtMost before now n = IfSome now (λ y. (x : ℕ) × (before ≡ Some x) × (y ≤ x + n))

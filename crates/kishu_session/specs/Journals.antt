-- A journal at the end of the file of a graph, and what a stop leaves of two graphs.
use Rattle.std.specs.Prelude.{◌≡◌, ◌⊎◌, ℕ, List}
use Rattle.kishu_host.specs.Host.{State}
use Rattle.kishu_store.specs.Entries.{Entry}
use Rattle.kishu_store.specs.Graph.{Graph}
use Rattle.kishu_store.specs.Holds.{Holds, graph_of}
use Rattle.kishu_history.specs.Good.{IsGoodFileOf}
use Rattle.kishu_journal.specs.Stands.{JournalState, Stands}

-- It stands at the end of the file, which holds this graph.
pub record IsJournalOf (journal : JournalState) (file : List ℕ) (g : Graph) : Type 0 where
  pub entries : List Entry
  pub stands : Stands journal file entries
  pub graph : g ≡ graph_of entries

-- A stop leaves the output as it was, and one of two graphs.
abbrev pub BeforeOrAfter : State → (before now : Graph) → (file out : List ℕ) → Type 0
BeforeOrAfter s before now file out = (out ≡ s.out) × (Holds file before ⊎ Holds file now)

-- It leaves the output as it was, and a good file that holds one of them.
abbrev pub GoodBeforeOrAfter : State → (before now : Graph) → (file out : List ℕ) → Type 0
GoodBeforeOrAfter s before now file out = (out ≡ s.out) × (IsGoodFileOf file before ⊎ IsGoodFileOf file now)

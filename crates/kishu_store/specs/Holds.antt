-- What a store file holds.
use Rattle.std.specs.Prelude.{◌≡◌, ◌≢◌, ◌<◌, ◌≤◌, ◌⊎◌, ℕ, List, [], ◌∷◌, ◌++◌, length}
use Rattle.kishu_store.specs.Entries.{Entry, Record, entries_in}
use Rattle.kishu_store.specs.EntryBytes.{eight, body_of}
use Rattle.kishu_store.specs.Fitting.{changed_by}
use Rattle.kishu_store.specs.Graph.{Graph, new_graph}
use Rattle.kishu_store.specs.Histories.{History, new_history, led_by, Follows, AreRecords}
use Rattle.kishu_store.specs.Rules.{IsRecord}
use Rattle.kishu_store.specs.Tables.{Change}

-- KISHU-JOURNAL-1 and a line feed
unfoldable pub header : List ℕ
header = 75 ∷ 73 ∷ 83 ∷ 72 ∷ 85 ∷ 45 ∷ 74 ∷ 79 ∷ 85 ∷ 82 ∷ 78 ∷ 65 ∷ 76 ∷ 45 ∷ 49 ∷ 10 ∷ []

-- a gate is open exactly where it is this byte
abbrev pub open_gate : ℕ
open_gate = 165

-- the length of a file that has a header, a gate and no more; a longer file isn't begun anew
abbrev pub fresh_length : ℕ
fresh_length = 17

-- a body behind its length in eight bytes
unfoldable pub framed : List ℕ → List ℕ
framed body = eight (length body) ++ body

-- records, each behind an open gate
abbrev pub records : List Record → List ℕ
records [] = []
records (r ∷ rs) = open_gate ∷ framed (body_of r) ++ records rs

-- the header and these records
abbrev pub front : List Record → List ℕ
front rs = header ++ records rs

-- where the gate behind these records stands
abbrev pub end_of : List Record → ℕ
end_of rs = length (front rs)

-- The file begins with the header, and these records, which fit, end at a closed gate inside it. Whatever follows isn't read.
pub record Ends (file : List ℕ) (rs : List Record) : Type 0 where
  pub gate : ℕ
  pub rest : List ℕ
  pub split : file ≡ front rs ++ (gate ∷ rest)
  pub closed : gate ≢ open_gate
  pub fit : AreRecords new_history rs

-- the graph of records that say this
abbrev pub graph_of : List Entry → Graph
graph_of entries = changed_by new_graph entries

-- that of these records
abbrev pub graph_by : List Record → Graph
graph_by rs = graph_of (entries_in rs)

-- the history of records that say this, which has that graph
abbrev pub history_of : List Entry → History
history_of entries = led_by new_history entries

abbrev pub history_by : List Record → History
history_by rs = history_of (entries_in rs)

-- what the commits of these records change, the newest first
abbrev pub changes_by : List Record → List Change
changes_by rs = (history_by rs).changes

-- A file of at most 17 bytes holds the new graph, whatever they are.
abbrev pub Holds : List ℕ → Graph → Type 0
Holds file g = ((length file ≤ fresh_length) × (g ≡ new_graph)) ⊎ ((fresh_length < length file) × (rs : List Record) × Ends file rs × (g ≡ graph_by rs))

-- What the commits of its records change, it gives: of a short file no commits.
abbrev pub Gives : List ℕ → List Change → Type 0
Gives file cs = ((length file ≤ fresh_length) × (cs ≡ [])) ⊎ ((fresh_length < length file) × (rs : List Record) × Ends file rs × (cs ≡ changes_by rs))

-- The records of a file, with their pictures. A short file has none.
abbrev pub HasRecords : List ℕ → List Record → Type 0
HasRecords file rs = ((length file ≤ fresh_length) × (rs ≡ [])) ⊎ ((fresh_length < length file) × Ends file rs)

-- A good store. Later stages ask more than that it holds a graph.
abbrev pub IsGood : List ℕ → Type 0
IsGood file = (g : Graph) × Holds file g

-- at an open gate: a whole record that fits behind those before, and a byte behind it
abbrev pub BeginsRecord : List ℕ → History → Record → Type 0
BeginsRecord bytes h r = (rest : List ℕ) × (bytes ≡ open_gate ∷ (framed (body_of r) ++ rest)) × (0 < length rest) × IsRecord r × Follows h r.entry

-- The gate at that place is open, and no record that fits follows.
pub record IsBroken (file : List ℕ) (at : ℕ) : Type 0 where
  pub long : fresh_length < length file
  pub before : List Record
  pub rest : List ℕ
  pub split : file ≡ front before ++ (open_gate ∷ rest)
  pub fit : AreRecords new_history before
  pub place : at ≡ end_of before
  pub none : (r : Record) → BeginsRecord (open_gate ∷ rest) (history_by before) r → ⊥

-- a longer file with another header
abbrev pub IsForeign : List ℕ → Type 0
IsForeign file = (fresh_length < length file) × ((rest : List ℕ) → file ≡ header ++ rest → ⊥)

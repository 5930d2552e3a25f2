-- What the calls of a journal say of a host before and after them, of its file, and of the bytes read.
-- Of a host that tells no content the facts on files say nothing.
use Rattle.std.specs.Prelude.{◌≡◌, ◌≤◌, ◌<◌, ◌⊎◌, ◌+◌, ◌-◌, ℕ, List, ◌∷◌, length, take, drop, Result, IfErr, IsErrOf}
use Rattle.kishu_host.specs.Host.{State, Told, Only, Keeps, Elapses, Now, Rises, ReadsMore, overwrite}
use Rattle.kishu_graph.specs.Kept.{Kept, StandsFor, KeepsHistory, TellsChanges}
use Rattle.kishu_record.specs.declared.entry.Entry as program
use Rattle.kishu_store.specs.Entries.{Entry, Record}
use Rattle.kishu_store.specs.EntryBytes.{body_of}
use Rattle.kishu_store.specs.Histories.{History, body_length}
use Rattle.kishu_store.specs.Holds.{Ends, Gives, Holds, IsBroken, IsForeign, IsGood, fresh_length, graph_of, open_gate}
use Rattle.kishu_store.specs.Rules.{IsRecord}
use Rattle.kishu_store.specs.Tables.{Change}
use Rattle.kishu_store_laws.specs.HistoryLaws.{IsHistory}
use Rattle.kishu_journal.specs.Bytes.{fresh, appended}
use Rattle.kishu_journal.specs.Following.{GoOn, IsKept}
use Rattle.kishu_journal.specs.Found.{BeginsBody, BeginsHead, HasNoBody, HasNoRecord, before_body, before_head, body_at, entries_of, history_at, with_pictures}
use Rattle.kishu_journal.specs.Going.{LeavesShort, ReadsAtMost, WithOrWithout, WithOrWithoutRecord}
use Rattle.kishu_journal.specs.Stands.{JournalState, Stands, IsNext, IsWhole, with_entry, with_record}
use Rattle.kishu_journal.specs.declared.head.Head.{Head}
use Rattle.kishu_journal.specs.declared.journal.JournalFault.{JournalFault}
use Rattle.kishu_journal.specs.declared.journal.JournalFault.TheVariants.{Damaged, DiskFault, NoMemory}

-- ---- faults

-- the count of the disk's faults has risen
abbrev pub DiskRises : State → State → Type 0
DiskRises old new = Rises old.disk_faults new.disk_faults

-- it ends by this fault, or the disk or want of memory comes between
abbrev pub FailsBy : {A : Type 0} → JournalFault → Result A JournalFault → Type 0
FailsBy fault result = IsErrOf result fault ⊎ IsErrOf result DiskFault ⊎ IsErrOf result NoMemory

-- where it fails, it's for the disk or for want of memory
abbrev pub FailsOutside : {A : Type 0} → Result A JournalFault → Type 0
FailsOutside result = IfErr result (λ e. (e ≡ DiskFault) ⊎ (e ≡ NoMemory))

-- ---- parts of the file

-- these are the n bytes from the place on, as far as they are there
abbrev pub IsTaken : State → ℕ → ℕ → List ℕ → Type 0
IsTaken s place n bytes = Told s (bytes ≡ take n (drop place s.file))

-- n bytes from the place on are there
abbrev pub IsInside : State → ℕ → ℕ → Type 0
IsInside s place n = Told s (n ≤ length s.file - place)

-- these are the n bytes from the place on, all of them there
abbrev pub IsPart : State → ℕ → ℕ → List ℕ → Type 0
IsPart s place n bytes = Told s ((n ≤ length s.file - place) × (bytes ≡ take n (drop place s.file)))

-- the file ends before n bytes from the place on do
abbrev pub IsCut : State → ℕ → ℕ → Type 0
IsCut s place n = Told s (length s.file - place < n)

-- it is that place from which on the n bytes aren't all there
abbrev pub LacksPart : State → ℕ → ℕ → ℕ → Type 0
LacksPart s place n at = (at ≡ place) × IsCut s place n

-- an open gate there, and behind it a whole body of n bytes
abbrev pub BodyAt : State → ℕ → ℕ → Type 0
BodyAt s at n = Told s (BeginsBody (drop at s.file) (body_at s.file at n))

-- the bytes of a head behind the gate at that place
abbrev pub head_at : List ℕ → ℕ → Head → List ℕ
head_at file at head = take head.bytes (drop (at + before_head) file)

-- an open gate there, and behind it a whole body with a head and pictures of these lengths
abbrev pub HeadAt : State → ℕ → Head → Type 0
HeadAt s at head = Told s (BeginsHead (drop at s.file) (head_at s.file at head) head.pictures)

-- where the body of the head behind the gate ends
abbrev pub end_at : ℕ → Head → ℕ
end_at at head = at + before_head + head.bytes + head.pictures

-- A record that says this: where the host tells its file, an open gate is there, and behind it the whole record.
pub record RecordAt (s : State) (at : ℕ) (e : Entry) : Type 0 where
  pub pictures : List (List ℕ)
  pub rules : IsRecord (with_pictures e pictures)
  pub there : Told s (BeginsBody (drop at s.file) (body_of (with_pictures e pictures)))

-- A record is there whose body has this length, and what is kept goes on with what it says.
pub record NotesRecord (old : Kept) (s : State) (at : ℕ) (new : Kept) (size : ℕ) : Type 0 where
  pub entry : Entry
  pub there : RecordAt s at entry
  pub goes : GoOn old (at + before_body) entry new
  pub size_is : size ≡ body_length entry

-- the place is that of the gate, which is open, and no whole record stands behind it
abbrev pub LacksBody : State → ℕ → ℕ → Type 0
LacksBody s at place = Told s ((place ≡ at) × HasNoBody s.file at)

-- damage is told at that gate alone, where the history ends, and where it is open and no whole record that fits stands behind it
abbrev pub TellsDamage : {A : Type 0} → Kept → State → ℕ → Result A JournalFault → Type 0
TellsDamage kept s at result = (h : History) → IsKept kept h → h.place ≡ at → (place : ℕ) → IsErrOf result (Damaged place) → Told s ((place ≡ at) × HasNoRecord s.file at h)

-- ---- the whole file

-- it is foreign
abbrev pub WasForeign : State → Type 0
WasForeign s = Told s (IsForeign s.file)

-- it is broken at that place
abbrev pub WasBroken : State → ℕ → Type 0
WasBroken s at = Told s (IsBroken s.file at)

-- P, where it is foreign
abbrev pub WhereForeign : State → Type 0 → Type 0
WhereForeign s P = Told s (IsForeign s.file → P)

-- P of the place, where it is broken
abbrev pub WhereBroken : State → (ℕ → Type 0) → Type 0
WhereBroken s P = Told s ((at : ℕ) → IsBroken s.file at → P at)

-- P, where it holds a graph
abbrev pub WhereGood : State → Type 0 → Type 0
WhereGood s P = Told s (IsGood s.file → P)

-- it holds the graph of what was found
abbrev pub HoldsFound : State → List (ℕ × program.Entry) → Type 0
HoldsFound s found = Told s (Holds s.file (graph_of (entries_of found)))

-- what is kept stands for the graph of what was found
abbrev pub IsGraphOf : List (ℕ × program.Entry) → Kept → Type 0
IsGraphOf found kept = StandsFor kept (graph_of (entries_of found))

-- so it does for the tables of its commits, where the pictures lie behind the places that are told of the records
abbrev pub HasTablesOf : List (ℕ × program.Entry) → Kept → Type 0
HasTablesOf found kept = TellsChanges kept (history_at found).changes

-- what is kept has the tables that the file gives
abbrev pub KeepsTables : State → Kept → Type 0
KeepsTables s kept = Told s ((cs : List Change) → Gives s.file cs → TellsChanges kept cs)

-- what is kept is a history's to which records lead that end at this place
abbrev pub IsOfHistory : Kept → ℕ → Type 0
IsOfHistory kept place = ∥ ((h : History) × KeepsHistory kept h × IsHistory h × (h.place ≡ place)) ∥₁

-- the journal stands in the new file behind what was found
abbrev pub StandsFound : State → State → JournalState → List (ℕ × program.Entry) → Type 0
StandsFound old new journal found = Told old (Stands journal new.file (entries_of found))

-- a stop leaves the new file as it reads
abbrev pub IsDurable : State → State → Type 0
IsDurable old new = Told old (Only new.file new.may_leave)

-- P, where a stop left the file as it read
abbrev pub Settled : State → Type 0 → Type 0
Settled s P = Told s (Only s.file s.may_leave → P)

-- ---- files that are begun anew

-- a longer file stays
abbrev pub KeepsLong : State → State → Type 0
KeepsLong old new = Told old (fresh_length < length old.file → new.file ≡ old.file)

-- a short file stays short
abbrev pub StaysShort : State → State → Type 0
StaysShort old new = Told old (length old.file ≤ fresh_length → length new.file ≤ fresh_length)

-- a short file is a store without records then
abbrev pub BeginsShort : State → State → Type 0
BeginsShort old new = Told old (length old.file ≤ fresh_length → new.file ≡ fresh)

-- a stop now leaves a short file
abbrev pub LeavesOnlyShort : State → Type 0
LeavesOnlyShort s = (c : List ℕ) → s.may_leave c → length c ≤ fresh_length

-- of what was settled: a stop meanwhile leaves a short file
abbrev pub StopsShort : State → State → Type 0
StopsShort old new = Settled old (Elapses old new (LeavesShort old))

-- Where P, all is as it was. Else a stop leaves the file as it reads, or a short one in the place of a short one.
abbrev pub Settles : Type 0 → State → State → Type 0
Settles P old new = Told old ((P × Keeps old new) ⊎ Only new.file new.may_leave ⊎ ((length old.file ≤ fresh_length) × LeavesOnlyShort new))

-- a stop meanwhile leaves what a stop before could leave, or a short file in the place of a short one
abbrev pub StopsAtOpening : State → State → Type 0
StopsAtOpening old new = Told old (Elapses old new (λ c o. Now old c o ⊎ ((length old.file ≤ fresh_length) × LeavesShort old c o)))

-- ---- appending

-- the file with an open gate at the place, and these bytes behind it
abbrev pub HasWritten : State → State → ℕ → List ℕ → Type 0
HasWritten old new place bytes = Told old (new.file ≡ overwrite place (open_gate ∷ bytes) old.file)

-- where the bytes are those of a record behind the file's, the new file ends with it
abbrev pub GainsRecord : State → State → ℕ → List ℕ → Type 0
GainsRecord old new place bytes = Told old ((rs : List Record) (r : Record) → IsWhole old.file place bytes rs r → Ends new.file (with_record rs r))

-- of what was settled: a stop meanwhile leaves the records before, with or without that one
abbrev pub StopsAtRecord : State → State → ℕ → List ℕ → Type 0
StopsAtRecord old new place bytes = Settled old ((rs : List Record) (r : Record) → IsWhole old.file place bytes rs r → Elapses old new (WithOrWithoutRecord old rs r))

-- the body is that of an entry that fits where the journal stands
abbrev pub MayAppend : JournalState → State → List ℕ → Type 0
MayAppend journal s body = Told s ((entries : List Entry) × (e : Entry) × IsNext journal s.file body entries e)

-- the file with a record of this body from the journal's place on
abbrev pub HasAppended : JournalState → State → State → List ℕ → Type 0
HasAppended journal old new body = Told old (new.file ≡ appended journal.place body old.file)

-- the new journal stands in the new file behind the entries before and that of the body
abbrev pub Adds : JournalState → JournalState → State → State → List ℕ → Type 0
Adds before now old new body = Told old ((entries : List Entry) (e : Entry) → IsNext before old.file body entries e → Stands now new.file (with_entry entries e))

-- of what was settled: a stop meanwhile leaves the entries before, with or without that of the body
abbrev pub StopsAtEntry : JournalState → State → State → List ℕ → Type 0
StopsAtEntry journal old new body = Settled old ((entries : List Entry) (e : Entry) → IsNext journal old.file body entries e → Elapses old new (WithOrWithout old entries e))

-- the new file ends with the records before and that of the body, each with its pictures
abbrev pub AddsRecord : JournalState → State → State → List ℕ → Type 0
AddsRecord journal old new body = Told old ((entries : List Entry) (e : Entry) (n : IsNext journal old.file body entries e) → Ends new.file (with_record n.stands.found n.next))

-- of what was settled: a stop meanwhile leaves the records before, with or without that of the body, each with its pictures
abbrev pub StopsAtNext : JournalState → State → State → List ℕ → Type 0
StopsAtNext journal old new body = Settled old ((entries : List Entry) (e : Entry) (n : IsNext journal old.file body entries e) → Elapses old new (WithOrWithoutRecord old n.stands.found n.next))

-- ---- bytes read, where they are told

-- none
abbrev pub ReadsNone : State → State → Type 0
ReadsNone old new = ReadsMore old.reads new.reads 0

-- just as many as the buffer has
abbrev pub ReadsFull : State → State → List ℕ → Type 0
ReadsFull old new buffer = ReadsMore old.reads new.reads (length buffer)

-- at most those that the file has
abbrev pub ReadsFile : State → State → Type 0
ReadsFile old new = Told old (ReadsAtMost old.reads new.reads (length old.file))

-- What a request leads to before it is recorded: an answer, and the record that makes it last.
use Rattle.std.specs.Prelude.{◌≡◌, ◌≤◌, ◌⊎◌, ℕ, ◌+◌, List, Option, Some, None, option_map, IfSome}
use Rattle.kishu_host.specs.Host.{State}
use Rattle.kishu_store.specs.Graph.{Graph}
use Rattle.kishu_store.specs.Entries.{Entry, Record, commit, move, name}
use Rattle.kishu_store.specs.Fitting.{changed}
use Rattle.kishu_store.specs.Groups.{Group}
use Rattle.kishu_store.specs.Histories.{History, Follows, head_table, led}
use Rattle.kishu_store.specs.Limits.{newest_profile}
use Rattle.kishu_store.specs.Rules.{IsRecord}
use Rattle.kishu_store.specs.Tables.{change_of}
use Rattle.kishu_meaning.specs.values.Values as values
use Rattle.kishu_objects.specs.States.{IsSoundState}
use Rattle.kishu_history.specs.Accessed.{accessed_by}
use Rattle.kishu_history.specs.Live.{IsLive}
use Rattle.kishu_history.specs.Stored.{Stored}
use Rattle.kishu_model.specs.declared.answer.Answer as rust_answer
use Rattle.kishu_model.specs.Answers.{Answer}
use Rattle.kishu_model.specs.Request.{Request}
use Rattle.kishu_model.specs.Step.{step}
use Rattle.kishu_model.specs.Values.{answer_of}
use Rattle.kishu_graph.specs.Kept.{Kept, StandsFor, KeepsHistory}
use Rattle.kishu_graph.specs.Tables.{table_of_rows}
use Rattle.kishu_commit.specs.Told.{record_by, told_record, CanBeStored}
use Rattle.kishu_commit.specs.declared.committing.Record as rust_record
use Rattle.kishu_live_laws.specs.OnStates.{answer_on, after_on, charge_on}
use Rattle.kishu_live_laws.specs.Refusals.{LeavesTooLarge}
use Rattle.kishu_session.specs.Committing.{record_of, IsTold}
use Rattle.kishu_session.specs.Head.{CountsPath, IsCarried, IsLoaded, KeepsTable, Lacks}
use Rattle.kishu_session.specs.Known.{IsHistoryOf}
use Rattle.kishu_session.specs.Lives.{state_of}
use Rattle.kishu_session.specs.Reading.{rows_read, MayRead}
use Rattle.kishu_session.specs.Refusing.{RefusesAs, RefusesSize}
use Rattle.kishu_session.specs.Renewing.{IsLeft}
use Rattle.kishu_session.specs.declared.head.Head.{Head}
use Rattle.kishu_session.specs.declared.prepared.Prepared.{Prepared}

-- the record of a request, where it has one
abbrev pub record_in : Option rust_record.Record → Option Record
record_in o = option_map record_of o

-- ---- records

-- A record may be written, whatever the store is.
abbrev pub MayBeRecorded : Option Record → Type 0
MayBeRecorded o = IfSome o IsRecord

-- a record that leads from a history to a graph
pub record Leads (h : History) (r : Record) (now : Graph) : Type 0 where
  pub rules : IsRecord r
  pub fits : Follows h r.entry
  pub changed_is : changed h.graph r.entry ≡ now

-- Without a record the graph stays.
abbrev pub LeadsTo : History → Option Record → Graph → Type 0
LeadsTo h None now = now ≡ h.graph
LeadsTo h (Some r) now = Leads h r now

-- the history with a record more, or without one
abbrev pub led_with : History → Option Record → History
led_with h None = h
led_with h (Some r) = led h r.entry

-- The record leads from a history to a graph, and the history after it is kept.
pub record IsPrepared (h : History) (now : Graph) (prepared : Prepared) (kept : Kept) : Type 0 where
  pub leads : LeadsTo h (record_in prepared.recorded) now
  pub keeps : KeepsHistory kept (led_with h (record_in prepared.recorded))

-- ---- what a request gives on a history's graph, by the tables of its commits, where its cells run on this state

abbrev pub after_by : History → values.State → Request → Graph
after_by h s q = after_on (change_of h.changes) s h.graph q

abbrev pub answer_by : History → values.State → Request → Answer
answer_by h s q = answer_on (change_of h.changes) s h.graph q

abbrev pub charge_by : History → values.State → Request → ℕ
charge_by h s q = charge_on (change_of h.changes) s h.graph q

-- ---- what holds of each request, whichever history is meant: of those that are kept, whose records end at the journal's place

-- The record leads from the graph that was kept to the one after the request, where its cells run on the live state; and that is kept then.
abbrev pub Prepares : (place : ℕ) → (old new : Head) → Request → Prepared → Type 0
Prepares place old new q prepared =
    (h : History) → IsHistoryOf old.graph h → h.place ≡ place → IsPrepared h (after_by h (state_of old.live) q) prepared new.graph

-- The request is refused just for the cause for which one step refuses it.
abbrev pub RefusesFor : Kept → Request → rust_answer.Answer → Type 0
RefusesFor kept q a = (g : Graph) → StandsFor kept g → RefusesAs (answer_of a) (step g q).answer

-- The answer is the request's, where its cells run on the live state, and the cells on the path to the new head are counted.
pub record IsAnswered (h : History) (q : Request) (old new : Head) (prepared : Prepared) : Type 0 where
  pub answer : answer_of prepared.answer ≡ Some (answer_by h (state_of old.live) q)
  pub count : CountsPath new (after_by h (state_of old.live) q)

abbrev pub Answers : (old new : Head) → Request → Prepared → Type 0
Answers old new q prepared = (h : History) → IsHistoryOf old.graph h → CountsPath old h.graph → IsAnswered h q old new prepared

-- The counter rose by at least the steps of the request's own cells.
abbrev pub CountsOn : Head → Request → (before now : ℕ) → Type 0
CountsOn head q before now = (h : History) → IsHistoryOf head.graph h → before + charge_by h (state_of head.live) q ≤ now

-- ---- how the table of the new head tells the live state

-- The head's state was loaded: what is kept of the graph is as it was.
pub record IsBack (file : Option (List ℕ)) (old new : Head) : Type 0 where
  pub graph : new.graph ≡ old.graph
  pub loaded : IsLoaded file new

-- The live state stays, and what is kept of the head's table.
pub record KeepsState (old new : Head) : Type 0 where
  pub live : new.live ≡ old.live
  pub table : new.table ≡ old.table
  pub kept : new.kept ≡ old.kept

-- The record drops some groups, and stores some with their pictures in this state.
abbrev pub HasLists : Record → (parent : ℕ) → (cells : List (List ℕ)) → values.State → Type 0
HasLists r parent cells u = (dropped : List Group) × (stored : List Group) × (r ≡ record_by parent cells dropped stored u)

-- These cells left the new state of the old one, or one that is the same, and the commit stores pictures in the new one. Where the file that the host tells holds the pictures of the old one, it drops and stores what they changed, as the head's table tells it among the names that they accessed. The new one is a state, bytes can tell the pictures that are stored, and the new head's table is kept, which tells the new state by the lengths of its pictures, and the digests of these.
pub record IsCommitOf (file : Option (List ℕ)) (old new : Head) (r : Record) (parent : ℕ) (cells : List (List ℕ)) : Type 0 where
  pub lists : (h : History) → IsHistoryOf old.graph h → HasLists r parent cells (state_of new.live)
  pub told : (h : History) → IsHistoryOf old.graph h → IsTold file (head_table h) (state_of old.live) → r ≡ told_record parent cells (head_table h) (state_of old.live) (accessed_by newest_profile cells (state_of old.live)) (state_of new.live)
  pub ran : IsLeft cells (state_of old.live) (state_of new.live)
  pub sound : IsSoundState (state_of new.live)
  pub fits : (h : History) → IsHistoryOf old.graph h → CanBeStored (head_table h) (state_of old.live) (accessed_by newest_profile cells (state_of old.live)) (state_of new.live)
  pub lives : IsLive (Stored None) (table_of_rows new.table) (state_of new.live)
  pub held : (h : History) → IsHistoryOf new.graph h → KeepsTable new h

-- To a move belongs a state that was carried on. A branch leaves it.
abbrev pub TellsBy : Option (List ℕ) → (old new : Head) → Record → Entry → Type 0
TellsBy file old new r (commit parent profile cells dropped stored) = IsCommitOf file old new r parent cells
TellsBy file old new r (move to) = IsCarried file old new
TellsBy file old new r (name title number) = KeepsState old new

-- Where there is no record, nothing changes, or the head's state was loaded.
abbrev pub Tells : Option (List ℕ) → (old new : Head) → Option Record → Type 0
Tells file old new None = (new ≡ old) ⊎ IsBack file old new
Tells file old new (Some r) = TellsBy file old new r r.entry

-- ---- states that are too large

-- The answer refuses no state for its size.
abbrev pub RefusesNoSize : rust_answer.Answer → Type 0
RefusesNoSize a = (bytes : ℕ) → RefusesSize (answer_of a) bytes → ⊥

-- The request's cells leave a state that takes so many bytes, which are too many, as the head's table tells them in each history that is kept.
abbrev pub LeavesLarge : Head → Request → ℕ → Type 0
LeavesLarge head q bytes = (h : History) → IsHistoryOf head.graph h → LeavesTooLarge (head_table h) (state_of head.live) q bytes

-- A state is refused for its size only where the request's cells left it. It has no record, and the head's state was loaded.
abbrev pub RefusesLarge : Option (List ℕ) → (old new : Head) → Request → Prepared → Type 0
RefusesLarge file old new q prepared =
    (bytes : ℕ) → RefusesSize (answer_of prepared.answer) bytes → LeavesLarge old q bytes × (prepared.recorded ≡ None) × IsBack file old new

-- ---- together

-- What a request leads to, where the host tells this of its file and the records end at that place: its record and its answer, and how the new head's table tells the live state.
pub record LeadsOn (file : Option (List ℕ)) (place : ℕ) (old new : Head) (q : Request) (prepared : Prepared) : Type 0 where
  pub prepares : Prepares place old new q prepared
  pub rules : MayBeRecorded (record_in prepared.recorded)
  pub refuses : RefusesFor old.graph q prepared.answer
  pub answers : Answers old new q prepared
  pub tells : Tells file old new (record_in prepared.recorded)
  pub large : RefusesLarge file old new q prepared

-- So it does, whatever the host tells.
abbrev pub LeadsAlone : (old new : Head) → Request → Prepared → Type 0
LeadsAlone old new q prepared = (file : Option (List ℕ)) (place : ℕ) → LeadsOn file place old new q prepared

-- Whatever has no record and refuses no state for its size changes nothing, and calls no host.
abbrev pub StaysWithout : {H : Type 0} → (old new : Head) → (host now : H) → Prepared → Type 0
StaysWithout old new host now prepared = prepared.recorded ≡ None → RefusesNoSize prepared.answer → (new ≡ old) × (now ≡ host)

-- The request may read pictures, and one of the rows whose pictures it reads has none at this place.
abbrev pub LacksFor : Kept → State → Request → ℕ → Type 0
LacksFor kept s q at = (h : History) → IsHistoryOf kept h → MayRead h.graph q × Lacks s (rows_read h q) at

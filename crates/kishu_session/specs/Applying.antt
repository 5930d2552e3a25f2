-- What a request gives, over the graph of the host's file: `s` is the host before, `t` the host after.
use Rattle.std.specs.Prelude.{◌≡◌, ◌≤◌, ◌<◌, ◌⊎◌, ℕ, ◌+◌, List, length, Some}
use Rattle.kishu_meaning.specs.values.Values.{find}
use Rattle.kishu_history.specs.Changed.{Group}
use Rattle.kishu_history.specs.Paths.{stops}
use Rattle.kishu_history.specs.Sizes.{StaysSmall}
use Rattle.kishu_history.specs.Versions.{kept, loaded}
use Rattle.kishu_host.specs.Host.{State, Told, Only, Elapses, ReadsMore}
use Rattle.kishu_objects.specs.Lists.{In}
use Rattle.kishu_objects.specs.Same.{Same}
use Rattle.kishu_objects.specs.Shape.{node_at}
use Rattle.kishu_objects.specs.Sizes.{size_among}
use Rattle.kishu_store.specs.Graph.{Graph}
use Rattle.kishu_store.specs.Histories.{History}
use Rattle.kishu_store.specs.Holds.{Gives}
use Rattle.kishu_store.specs.Tables.{Change, change_of}
use Rattle.kishu_replay.specs.Replay.{replay}
use Rattle.kishu_model.specs.declared.answer.Answer.{Answer}
use Rattle.kishu_model.specs.declared.request.Request.{Request}
use Rattle.kishu_model.specs.Request as model
use Rattle.kishu_model.specs.Request.{cell, cells, checkout, branch, log, status, inspect, stored, plan, unreadable}
use Rattle.kishu_model.specs.Serve.{after}
use Rattle.kishu_model.specs.Step.{step, charge_of}
use Rattle.kishu_model.specs.Values.{request_of, answer_of}
use Rattle.kishu_live_laws.specs.Made.{made_by}
use Rattle.kishu_live_laws.specs.OnStates.{after_on}
use Rattle.kishu_checkout.specs.Pictures.{LacksAt, told_file}
use Rattle.kishu_session.specs.Attached.{IsAtEnd, IsAttached, LivesIn}
use Rattle.kishu_session.specs.Head.{CarriesFrom}
use Rattle.kishu_session.specs.Journals.{BeforeOrAfter, GoodBeforeOrAfter}
use Rattle.kishu_session.specs.Known.{IsHistoryOf}
use Rattle.kishu_session.specs.Lives.{state_of}
use Rattle.kishu_session.specs.Reading.{rows_read, MayRead}
use Rattle.kishu_session.specs.Refusing.{IsRefusal, RefusesSize}
use Rattle.kishu_session.specs.Renewing.{StaysHere, renewed}
use Rattle.kishu_session.specs.Working.{CountsUpTo, bytes_asked_by}
pub use Rattle.kishu_session.specs.Working.{IsIdle, most_steps, bytes_asked}
use Rattle.kishu_session.specs.Written.{IsRecorded}
use Rattle.kishu_session.specs.declared.session.Session.{Session}

-- ---- kinds of requests

-- Those that tell what is kept or bound.
abbrev pub TellsAlone : model.Request → Type 0
TellsAlone unreadable = ⊥
TellsAlone (cell text) = ⊥
TellsAlone (cells texts) = ⊥
TellsAlone (checkout to) = ⊥
TellsAlone (branch name at) = ⊥
TellsAlone log = Unit {0}
TellsAlone status = Unit {0}
TellsAlone inspect = Unit {0}
TellsAlone (stored of) = Unit {0}
TellsAlone (plan to) = Unit {0}

abbrev pub HasCells : model.Request → Type 0
HasCells q = ((text : List ℕ) × (q ≡ cell text)) ⊎ ((texts : List (List ℕ)) × (q ≡ cells texts))

-- ---- from a session that is attached

-- The answer is that of one step of the machine that replays each commit from empty.
abbrev pub IsAnswer : Session → State → Request → Answer → Type 0
IsAnswer old s q a = Told s ((g : Graph) → IsAttached old s g → answer_of a ≡ Some (step g (request_of q)).answer)

-- The session stays attached, to the graph after the request.
abbrev pub StaysAttached : (old new : Session) → (s t : State) → Request → Type 0
StaysAttached old new s t q = Told s ((g : Graph) → IsAttached old s g → IsAttached new t (after g (request_of q)))

-- A stop at any moment leaves a good file, with the graph before or after the request, and no output.
abbrev pub LeavesBeforeOrAfter : Session → (s t : State) → Request → Type 0
LeavesBeforeOrAfter old s t q = Told s ((g : Graph) → IsAttached old s g → Elapses s t (GoodBeforeOrAfter s g (after g (request_of q))))

-- The counter rose by at least the steps of the request's own cells.
abbrev pub Counts : Session → State → Request → (before now : ℕ) → Type 0
Counts old s q before now = Told s ((g : Graph) → IsAttached old s g → before + charge_of g (request_of q) ≤ now)

-- ---- from one that stands at the end of the file, whatever its live state is

-- the graph after a request, whose cells run on that state, where the file's records change this
abbrev pub after_here : Session → List Change → Graph → Request → Graph
after_here old cs g q = after_on (change_of cs) (state_of old.head.live) g (request_of q)

-- It stays there, and the file's graph is the one after the request.
abbrev pub StaysAtEnd : (old new : Session) → (s t : State) → Request → Type 0
StaysAtEnd old new s t q = Told s ((g : Graph) (cs : List Change) → IsAtEnd old s g → Gives s.file cs → IsAtEnd new t (after_here old cs g q))

-- The file is the old one with one record more, or it is the old one.
abbrev pub RecordsOne : Session → (s t : State) → Type 0
RecordsOne old s t = Told s ((g : Graph) → IsAtEnd old s g → (t.file ≡ s.file) ⊎ IsRecorded s.file t.file)

-- Where a stop before left the file alone, a stop at any moment leaves the graph before or after the request, and no output.
abbrev pub LeavesHere : Session → (s t : State) → Request → Type 0
LeavesHere old s t q =
    Told s (Only s.file s.may_leave → (g : Graph) (cs : List Change) → IsAtEnd old s g → Gives s.file cs → Elapses s t (BeforeOrAfter s g (after_here old cs g q)))

-- ---- the live state, on every store

-- Where it was the one that the head's table tells, it is so afterwards.
abbrev pub StaysLive : (old new : Session) → (s t : State) → Type 0
StaysLive old new s t = LivesIn old s → LivesIn new t

-- Where it was, and the host tells its file, the state that was loaded is the same as the one before.
abbrev pub IsBackAt : (old new : Session) → State → Type 0
IsBackAt old new s = Told s (LivesIn old s → Same (state_of new.head.live) (state_of old.head.live))

-- ---- why a picture isn't loaded

-- The request may read pictures, and at this place one of the rows whose pictures it reads has none. An attached session has no such place.
pub record LacksHere (old : Session) (s : State) (q : Request) (at : ℕ) : Type 0 where
  pub lacks : (h : History) → IsHistoryOf old.head.graph h → MayRead h.graph (request_of q) × LacksAt s (rows_read h (request_of q)) at
  pub never : Told s ((g : Graph) → IsAttached old s g → ⊥)

-- ---- the nodes that are made

-- The live state has at most as many more nodes as the request makes by one step of the machine that replays.
abbrev pub MakesNodes : (old new : Session) → State → model.Request → Type 0
MakesNodes old new s q = Told s ((g : Graph) → IsAttached old s g → length (state_of new.head.live).nodes ≤ length (state_of old.head.live).nodes + made_by g q)

-- ---- a checkout that isn't refused

abbrev pub IsCheckout : Request → Type 0
IsCheckout q = (to : List ℕ) × (request_of q ≡ checkout to)

-- The old nodes are as before under their old numbers.
abbrev pub KeepsNodes : (old new : Session) → Type 0
KeepsNodes old new =
    (i : ℕ) → i < length (state_of old.head.live).nodes
    → (i < length (state_of new.head.live).nodes) × (node_at (state_of old.head.live).nodes i ≡ node_at (state_of new.head.live).nodes i)

-- The names of the groups that both commits have with one version have their old values.
abbrev pub KeepsNames : (old new : Session) → State → Request → Type 0
KeepsNames old new s q =
    Told s ((g : Graph) → IsAttached old s g → (group : Group) → In group (kept (stops g g.head.commit) (stops g (after g (request_of q)).head.commit))
    → (x : List ℕ) → In x group → find x (state_of new.head.live).names ≡ find x (state_of old.head.live).names)

-- From so many nodes at most nothing but the groups that differ is loaded.
abbrev pub StaysLoaded : Session → Type 0
StaysLoaded session = StaysHere session.head

abbrev pub KeepsOld : (old new : Session) → State → Request → Answer → Type 0
KeepsOld old new s q a = IsCheckout q → (IsRefusal (answer_of a) → ⊥) → StaysLoaded old → KeepsNodes old new × KeepsNames old new s q

-- The live state is carried on from the one before, and where that has more nodes than a heap keeps, from that one loaded anew.
abbrev pub CarriesRenewed : (old new : Session) → State → Request → Answer → Type 0
CarriesRenewed old new s q a =
    IsCheckout q → (IsRefusal (answer_of a) → ⊥) → CarriesFrom (told_file s) (renewed (state_of old.head.live)) old.head new.head

-- ---- the work

-- The host's bytes read rose by just the lengths of the pictures of the groups that are loaded.
abbrev pub ReadsLoaded : Session → (s t : State) → Request → Answer → Type 0
ReadsLoaded old s t q a =
    IsCheckout q → (IsRefusal (answer_of a) → ⊥)
    → Told s ((g : Graph) → IsAttached old s g → ReadsMore s.reads t.reads
    (size_among (loaded (stops g g.head.commit) (stops g (after g (request_of q)).head.commit)) (replay g (after g (request_of q)).head.commit)))

-- So it did at cells that are committed by just the lengths of the pictures of the touched groups that the tables before and after both have, with pictures of one digest and length.
abbrev pub ReadsAsked : (old new : Session) → (s t : State) → Request → Answer → Type 0
ReadsAsked old new s t q a =
    HasCells (request_of q) → (IsRefusal (answer_of a) → ⊥) → ((bytes : ℕ) → RefusesSize (answer_of a) bytes → ⊥)
    → ReadsMore s.reads t.reads (bytes_asked_by old.head new.head (request_of q))

-- Each of these leaves the counter as it was: a checkout from a heap that isn't loaded anew, and requests that only tell what is kept.
abbrev pub LeavesCounter : Session → Request → Type 0
LeavesCounter old q = IsIdle (request_of q) ⊎ (IsCheckout q × StaysLoaded old)

-- The counter rose by at most so much at a cell that is committed.
abbrev pub CountsAtMost : (old new : Session) → Request → Answer → (before now : ℕ) → Type 0
CountsAtMost old new q a before now =
    (text : List ℕ) → request_of q ≡ cell text → (IsRefusal (answer_of a) → ⊥) → ((bytes : ℕ) → RefusesSize (answer_of a) bytes → ⊥) → StaysLoaded old
    → CountsUpTo old.head new.head text before now

-- ---- sizes

-- Where no replay of a graph is too large, none of the graph after the request is.
abbrev pub KeepsSmall : Request → Type 0
KeepsSmall q = (g : Graph) → StaysSmall g → StaysSmall (after g (request_of q))

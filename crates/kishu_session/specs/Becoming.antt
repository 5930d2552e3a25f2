-- What the live state becomes from request to request, on every store.
use Rattle.std.specs.Prelude.{◌≡◌, ◌≤◌, ◌<◌, ◌⊎◌, ℕ, List, length, Some}
use Rattle.kishu_host.specs.Host as host
use Rattle.kishu_meaning.specs.values.Values.{State}
use Rattle.kishu_store.specs.Graph.{Graph, newest}
use Rattle.kishu_store.specs.Holds.{Holds, Gives}
use Rattle.kishu_store.specs.Tables.{Change, change_of, table_at}
use Rattle.kishu_objects.specs.Same.{Same}
use Rattle.kishu_model.specs.Request.{Request}
use Rattle.kishu_model.specs.Values.{request_of, answer_of}
use Rattle.kishu_model.specs.declared.answer.Answer.{Answer}
use Rattle.kishu_model.specs.declared.request.Request as rust_request
use Rattle.kishu_history.specs.Checkout.{to_load, to_drop}
use Rattle.kishu_live_laws.specs.OnStates.{after_on, answer_on, head_rows, ran_by, state_on}
use Rattle.kishu_live_laws.specs.Refusals.{LeavesTooLarge}
use Rattle.kishu_checkout.specs.Loads.{AreCarried, IsLoadedFrom}
use Rattle.kishu_session.specs.Attached.{IsAtEnd}
use Rattle.kishu_session.specs.Lives.{state_of}
use Rattle.kishu_session.specs.Renewing.{BeginKept, Starts, left_anew}
use Rattle.kishu_session.specs.declared.session.Session.{Session}

-- It is what the pictures leave of the empty state that a file holds for the table of a graph's head.
pub record IsHeadLoaded (file : List ℕ) (g : Graph) (u : State) : Type 0 where
  pub changes : List Change
  pub gives : Gives file changes
  pub loaded : IsLoadedFrom file (table_at g (change_of changes) g.head.commit) u

-- From the table of one graph's head to that of another's: the names of the groups to drop are unbound, and the pictures loaded that a file holds for the rows to load. What both tables have alike stays.
abbrev pub IsHeadCarried : List ℕ → (ℕ → Change) → (g now : Graph) → (u v : State) → Type 0
IsHeadCarried file changes g now u v = AreCarried (Some file) (to_drop (head_rows changes g) (head_rows changes now)) (to_load (head_rows changes g) (head_rows changes now)) u v

-- Where cells are committed it is the same as the one that they left, with no more nodes, and just that one where the heap was loaded anew before none of them; where none are, it is the one before.
pub record IsLeftBy (changes : ℕ → Change) (g : Graph) (u : State) (q : Request) (v : State) : Type 0 where
  pub same : Same v (state_on changes u g q)
  pub few : length v.nodes ≤ length (state_on changes u g q).nodes
  pub exact : BeginKept (ran_by (head_rows changes g) q u) u → v ≡ state_on changes u g q

-- After a request that commits nothing it may be carried on to the head of the graph, from the one before, or from that one loaded anew.
pub record IsCarriedAfter (file : List ℕ) (changes : ℕ → Change) (g : Graph) (u : State) (q : Request) (v : State) : Type 0 where
  pub none : newest (after_on changes u g q) ≤ newest g
  pub start : State
  pub starts : Starts u start
  pub carried : IsHeadCarried file changes g (after_on changes u g q) start v

-- After one whose cells left a state that is too large, as the head's table tells it, it may be the one that was loaded anew for the head. The graph stays then.
abbrev pub IsLoadedAfter : List ℕ → (ℕ → Change) → Graph → State → Request → State → Type 0
IsLoadedAfter file changes g u q v = (after_on changes u g q ≡ g) × IsHeadLoaded file g v × ((bytes : ℕ) × LeavesTooLarge (head_rows changes g) u q bytes)

-- Where the records of the commits change this: after a request on a state it is what the request's cells left, where they are committed, and the one before where none are; or none are, and it was carried on to the head of the graph after it; or the request's cells left a state that is too large, and it was loaded anew.
abbrev pub IsNextState : List ℕ → (ℕ → Change) → Graph → State → Request → State → Type 0
IsNextState file changes g u q v = IsLeftBy changes g u q v ⊎ IsCarriedAfter file changes g u q v ⊎ IsLoadedAfter file changes g u q v

-- Cells that are committed leave just what they do where before each of them the state is loaded anew that has more nodes than a heap keeps.
abbrev pub IsLeftAnew : (ℕ → Change) → Graph → State → Request → State → Type 0
IsLeftAnew changes g u q v = newest g < newest (after_on changes u g q) → v ≡ left_anew (ran_by (head_rows changes g) q u) u

-- ---- of a session: `s` is the host before, `t` the host after

-- A session that is opened has loaded it.
abbrev pub LoadsHead : Session → (s t : host.State) → Type 0
LoadsHead session s t = host.Told s ((g : Graph) → Holds t.file g → IsHeadLoaded t.file g (state_of session.head.live))

-- From one that stands at the file's end it goes on so, whatever it is.
abbrev pub GoesOnLive : (old new : Session) → host.State → rust_request.Request → Type 0
GoesOnLive old new s q =
    host.Told s ((g : Graph) (cs : List Change) → IsAtEnd old s g → Gives s.file cs
    → IsNextState s.file (change_of cs) g (state_of old.head.live) (request_of q) (state_of new.head.live))

-- So it is with the cells of a request.
abbrev pub LeavesAnew : (old new : Session) → host.State → rust_request.Request → Type 0
LeavesAnew old new s q =
    host.Told s ((g : Graph) (cs : List Change) → IsAtEnd old s g → Gives s.file cs
    → IsLeftAnew (change_of cs) g (state_of old.head.live) (request_of q) (state_of new.head.live))

-- The answer is the one on that state.
abbrev pub IsAnswerHere : Session → host.State → rust_request.Request → Answer → Type 0
IsAnswerHere old s q a =
    host.Told s ((g : Graph) (cs : List Change) → IsAtEnd old s g → Gives s.file cs
    → answer_of a ≡ Some (answer_on (change_of cs) (state_of old.head.live) g (request_of q)))

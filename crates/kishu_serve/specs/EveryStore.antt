-- What requests do on every store: from a session that stands at the end of its host's file, whether or not that is good.
use Rattle.std.specs.Prelude.{◌≡◌, ◌++◌, List}
use Rattle.kishu_host.specs.Host.{State, Told, Only, Elapses}
use Rattle.kishu_host.specs.Source.{SourceState}
use Rattle.kishu_store.specs.Graph.{Graph}
use Rattle.kishu_store.specs.Holds.{Gives}
use Rattle.kishu_store.specs.Tables.{Change, change_of}
use Rattle.kishu_model.specs.Request.{Request}
use Rattle.kishu_model.specs.Serve.{Item}
use Rattle.kishu_live_laws.specs.OnStates.{after_on}
use Rattle.kishu_session.specs.Attached.{IsAtEnd, LivesIn}
use Rattle.kishu_session.specs.Lives.{state_of}
use Rattle.kishu_session.specs.declared.session.Session.{Session}
use Rattle.kishu_serve.specs.LiveAnswers.{IsApplied, line_on, AreAnswered, IsPartLive}
use Rattle.kishu_serve.specs.Work.{to_do, Knows}
use Rattle.kishu_serve.specs.declared.work.Work.{Work}

-- Where the session stands there, this holds of the graph that the file holds, and of what its records change.
abbrev pub WhereOpen : Session → State → (Graph → List Change → Type 0) → Type 0
WhereOpen session host P = Told host ((g : Graph) (cs : List Change) → IsAtEnd session host g → Gives host.file cs → P g cs)

-- The same, where the live state is the one that the head's table tells.
abbrev pub WhereLive : Session → State → (Graph → List Change → Type 0) → Type 0
WhereLive session host P = Told host (LivesIn session host → (g : Graph) (cs : List Change) → IsAtEnd session host g → Gives host.file cs → P g cs)

-- A request was applied to the live state, over this graph, where the file's records change this: the session stands at the end of the file to which this led, with the state to which it led, which is the one that the head's table tells.
pub record LeadsOn (old new : Session) (s t : State) (q : Request) (g : Graph) (cs : List Change) : Type 0 where
  pub at_end : IsAtEnd new t (after_on (change_of cs) (state_of old.head.live) g q)
  pub lives : LivesIn new t
  pub more : List Change
  pub applied : IsApplied s.file cs g (state_of old.head.live) q t.file more (state_of new.head.live)

abbrev pub AppliesHere : (old new : Session) → (s t : State) → Request → Type 0
AppliesHere old new s t q = WhereLive old s (LeadsOn old new s t q)

-- The output has grown by the line of the answer on the live state.
abbrev pub AnswersHere : Session → (s t : State) → Request → Type 0
AnswersHere session s t q = WhereOpen session s (λ g cs. t.out ≡ s.out ++ line_on cs g (state_of session.head.live) q)

-- Where a stop before left the file alone, each stop leaves the first of these items, the last in part.
abbrev pub StopsLive : Session → (s t : State) → List Item → Type 0
StopsLive session s t items =
    WhereLive session s (λ g cs. Only s.file s.may_leave → Elapses s t (IsPartLive s.file s.out cs g (state_of session.head.live) items))

-- ---- the items of a run

-- Where it is known what is to do, all of it is answered, from the live state on.
abbrev pub AnswersAll : Work → SourceState → Session → (s t : State) → Type 0
AnswersAll work source session s t =
    Knows work source → WhereLive session s (λ g cs. AreAnswered s.file s.out t cs g (state_of session.head.live) (to_do work g source.left))

-- Then each stop leaves the first of it, the last in part, where a stop before left the file alone.
abbrev pub StopsAll : Work → SourceState → Session → (s t : State) → Type 0
StopsAll work source session s t =
    Knows work source
    → WhereLive session s (λ g cs. Only s.file s.may_leave → Elapses s t (IsPartLive s.file s.out cs g (state_of session.head.live) (to_do work g source.left)))

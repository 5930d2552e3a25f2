-- What requests do to an open session: where it is attached, and what a stop leaves.
use Rattle.std.specs.Prelude.{◌≡◌, ◌≤◌, ◌⊎◌, ℕ, List, ◌++◌, length, Some}
use Rattle.kishu_host.specs.Host.{State, Told, Elapses, Rises, DuringPut}
use Rattle.kishu_host.specs.Source.{SourceState}
use Rattle.kishu_store.specs.Graph.{Graph}
use Rattle.kishu_model.specs.Answers.{Answer as Said, answer_line}
use Rattle.kishu_model.specs.Request.{Request}
use Rattle.kishu_model.specs.Serve.{Item, answer_of}
use Rattle.kishu_model.specs.Values.{answer_of as said_by}
use Rattle.kishu_model.specs.declared.answer.Answer.{Answer}
use Rattle.kishu_session.specs.Attached.{IsAttached, StandsAtEnd}
use Rattle.kishu_session.specs.Lives.{state_of}
use Rattle.kishu_session.specs.Written.{IsRecorded}
use Rattle.kishu_session.specs.declared.session.Session.{Session}
use Rattle.kishu_serve.specs.Headline.{IsPart}
use Rattle.kishu_serve.specs.Promise.{LacksPicture}
use Rattle.kishu_serve.specs.Work.{to_do, Knows}
use Rattle.kishu_serve.specs.declared.work.Work.{Work}

-- The output has failed: its count of faults has risen.
abbrev pub OutputFailed : State → State → Type 0
OutputFailed old new = Rises old.out_faults new.out_faults

-- ---- something goes out

-- The output has grown by these bytes.
abbrev pub AreOut : List ℕ → State → State → Type 0
AreOut bytes old new = Told old (new.out ≡ old.out ++ bytes)

-- A stop leaves a prefix of them.
abbrev pub GoOut : List ℕ → State → State → Type 0
GoOut bytes old new = Elapses old new (DuringPut old bytes)

-- So it is with the line of an answer.
abbrev pub IsAnswerOut : Answer → State → State → Type 0
IsAnswerOut answer old new = Told old ((a : Said) → said_by answer ≡ Some a → new.out ≡ old.out ++ answer_line a)

abbrev pub AnswerGoesOut : Answer → State → State → Type 0
AnswerGoesOut answer old new = (a : Said) → said_by answer ≡ Some a → GoOut (answer_line a) old new

-- ---- one request

-- Where the session is attached, this holds of the graph.
abbrev pub WhereAttached : Session → State → (Graph → Type 0) → Type 0
WhereAttached session host P = Told host ((g : Graph) → IsAttached session host g → P g)

-- The session stands at the end of the host's file, whether or not that is good.
abbrev pub IsOpen : Session → State → Type 0
IsOpen session host = Told host (StandsAtEnd session host)

-- The file lacks a picture at this place, and the session wasn't attached.
abbrev pub EndsDamaged : Session → (old new : State) → (at : ℕ) → Type 0
EndsDamaged session old new at = Told old (LacksPicture new.file at) × WhereAttached session old (λ g. ⊥)

-- The output has grown by the answer.
abbrev pub IsAnswered : State → State → Graph → Request → Type 0
IsAnswered old new g q = new.out ≡ old.out ++ answer_of g q

-- At most one record was written.
abbrev pub WritesOne : State → State → Type 0
WritesOne old new = Told old ((new.file ≡ old.file) ⊎ IsRecorded old.file new.file)

-- Each stop leaves a part of these.
abbrev pub StopsInPart : State → State → Graph → List Item → Type 0
StopsInPart old new g items = Elapses old new (IsPart old g items)

-- ---- the items of a run

-- Where it is known what is to do and the session is attached, this holds of the graph and the items.
abbrev pub WhereKnown : Work → SourceState → Session → State → (Graph → List Item → Type 0) → Type 0
WhereKnown work source session host P =
    Told host (Knows work source → (g : Graph) → IsAttached session host g → P g (to_do work g source.left))

-- The same, of each number of nodes that were made before, no fewer than the live state has.
abbrev pub WhereKnownMade : Work → SourceState → Session → State → (ℕ → Graph → List Item → Type 0) → Type 0
WhereKnownMade work source session host P =
    WhereKnown work source session host (λ g items. (made : ℕ) → length (state_of session.head.live).nodes ≤ made → P made g items)
